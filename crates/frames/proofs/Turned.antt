-- A coordinate that goes through a frame and back is itself; a set stays within its limits. One argument for all eight frames. Assumes nothing.
use mathlib.Core.Path.{◌≡◌, refl, sym, ap, subst}
use mathlib.Core.Logic.{inl, inr}
use mathlib.Core.Bool.{Bool, true, false, cond}
use mathlib.Core.List.{List, [], ◌∷◌, ◌++◌}
use Prim.Native.Nat.{ℕ, zero, suc, ◌+◌, ◌-◌, ◌*◌, ◌≤◌, ◌<◌}
use native.Mathlib.Omega.{arith}
use lib.ListN.{length, length-append}
use lib.Ieee.{Float, binary64, neg}
use Rattle.numbers.proofs.Truth.{either}
use Rattle.numbers.proofs.Doubles.{k, o, u, Finite, Number, Small, finite, same}
use Rattle.numbers.proofs.Operations.{neg_fin, neg_key}
use Rattle.numbers.proofs.Patterns.{plus-number}
use Rattle.slabs.specs.Slab.{up}
use Rattle.strips.specs.inner.Tables.{Loops}
use Rattle.bits.specs.Reading.{Read, ok, bad}
use Rattle.bits.specs.declared.Refusal.{Refusal}
use Rattle.bits.proofs.Accepted.{bad-not_ok, ok_same}
use Rattle.kinds.specs.sets.Sets.{Set}
use Rattle.kinds.proofs.sets.Accepted.{Coordinates, coordinates_append, coordinate_at, Ends, ends-most, Good}
use Rattle.frames.specs.declared.Frame.{Frame}
use Rattle.frames.specs.declared.Point.{Point}
use Rattle.frames.specs.Frames.{from_right, from_top, along_x, lower_left, turned, to, from, reversing, identity}
use Rattle.frames.specs.Frames.{point_at, loop_index, framed_points, coordinates, framed}
use Rattle.frames.specs.inner.Turning.{framed_read}

-- ---- a coordinate

signed_finite : (t : Bool) (x : Float) → Finite x → Finite (cond t (neg x) x)
signed_finite true x X = neg_fin binary64 x X
signed_finite false x X = X

pub turned-number : (t : Bool) (x : Float) → Finite x → Number (turned t x)
unfolding turned
turned-number t x X = (plus-number (cond t (neg x) x) (signed_finite t x X)).0

turned-key : (t : Bool) (x : Float) → Finite x → k (turned t x) ≡ k (cond t (neg x) x)
unfolding turned
turned-key t x X = (plus-number (cond t (neg x) x) (signed_finite t x X)).1

-- turned twice it is itself
pub turned-back : (t : Bool) (x : Float) → Number x → turned t (turned t x) ≡ x
turned-back true x X =
    let F = finite X in
    let N = turned-number true x F in
    let a : k (turned true x) ≡ k (neg x) = turned-key true x F in
    let b : k (turned true (turned true x)) ≡ k (neg (turned true x)) = turned-key true (turned true x) (finite N) in
    let c = neg_key binary64 x F in
    let d = neg_key binary64 (turned true x) (finite N) in
    same (turned-number true (turned true x) (finite N)) X (omega arith)
turned-back false x X =
    let F = finite X in
    let N = turned-number false x F in
    let a : k (turned false x) ≡ k x = turned-key false x F in
    let b : k (turned false (turned false x)) ≡ k (turned false x) = turned-key false (turned false x) (finite N) in
    same (turned-number false (turned false x) (finite N)) X (omega arith)

-- and no larger than it was
pub turned-small : (t : Bool) (n : ℕ) (x : Float) → Small n x → Small n (turned t x)
turned-small true n x S =
    let F = finite S.num in
    let a : k (turned true x) ≡ k (neg x) = turned-key true x F in
    let c = neg_key binary64 x F in
    let low = under (k (turned true x)) (k (neg x)) (k x) (n * u) a c S.bound.at_most in
    let high = over (k (turned true x)) (k (neg x)) (k x) (n * u) a c S.bound.at_least in
    record { num = turned-number true x F; bound = record { at_least = low; at_most = high } }
  where
    under : (t m x n : ℕ) → t ≡ m → m + x ≡ o + o → x ≤ o + n → o ≤ t + n
    under t m x n a c h = omega arith

    over : (t m x n : ℕ) → t ≡ m → m + x ≡ o + o → o ≤ x + n → t ≤ o + n
    over t m x n a c h = omega arith
turned-small false n x S =
    let F = finite S.num in
    let a : k (turned false x) ≡ k x = turned-key false x F in
    let low = under (k (turned false x)) (k x) (n * u) a S.bound.at_least in
    let high = over (k (turned false x)) (k x) (n * u) a S.bound.at_most in
    record { num = turned-number false x F; bound = record { at_least = low; at_most = high } }
  where
    under : (t x n : ℕ) → t ≡ x → o ≤ x + n → o ≤ t + n
    under t x n a h = omega arith

    over : (t x n : ℕ) → t ≡ x → x ≤ o + n → t ≤ o + n
    over t x n a h = omega arith

-- ---- a point: `from` after `to`, and `to` after `from`, in every frame

module _ (f : Frame) where
  pub there_and_back : (p : Point) → Number p.x → Number p.y → from f (to f p) ≡ p
  unfolding to from
  there_and_back p X Y = elim (either (along_x f)) [
    | inl e ↦ rw (e, turned-back (from_right f) p.x X, turned-back (from_top f) p.y Y)
    | inr e ↦ rw (e, turned-back (from_right f) p.x X, turned-back (from_top f) p.y Y)
  ]

  pub back_and_there : (p : Point) → Number p.x → Number p.y → to f (from f p) ≡ p
  unfolding to from
  back_and_there p X Y = elim (either (along_x f)) [
    | inl e ↦ rw (e, turned-back (from_top f) p.x X, turned-back (from_right f) p.y Y)
    | inr e ↦ rw (e, turned-back (from_right f) p.x X, turned-back (from_top f) p.y Y)
  ]

  pub to_small : (n : ℕ) (p : Point) → Small n p.x → Small n p.y → Small n (to f p).x × Small n (to f p).y
  unfolding to
  to_small n p X Y = elim (either (along_x f)) [
    | inl e ↦ rw e (turned-small (from_top f) n p.y Y, turned-small (from_right f) n p.x X)
    | inr e ↦ rw e (turned-small (from_right f) n p.x X, turned-small (from_top f) n p.y Y)
  ]

  -- what goes back to the sheet is a number
  pub from-number : (p : Point) → Finite p.x → Finite p.y → Number (from f p).x × Number (from f p).y
  unfolding from
  from-number p X Y = elim (either (along_x f)) [
    | inl e ↦ rw e (turned-number (from_right f) p.y Y, turned-number (from_top f) p.x X)
    | inr e ↦ rw e (turned-number (from_right f) p.x X, turned-number (from_top f) p.y Y)
  ]

-- ---- a set

-- the loops of an accepted set lie in its points
pub ends_loops : (first n : ℕ) (es : List ℕ) → Ends first es n → Loops first es n
unfolding Loops
ends_loops first n [] h = h
ends_loops first n (e ∷ es) h = (first_below first e h.0, end_below e n (length es) (ends-most e n es h.1), ends_loops e n es h.1)
  where
    first_below : (a b : ℕ) → a + 3 ≤ b → a ≤ b
    first_below a b h = omega arith

    end_below : (e n l : ℕ) → e + 3 * l ≤ n → e ≤ n
    end_below e n l h = omega arith

-- the point that comes to i is one of the same loop
pub loop_index_in : (f : Frame) (first end i : ℕ) → first ≤ i → i < end → (first ≤ loop_index f first end i) × (loop_index f first end i < end)
unfolding loop_index
loop_index_in f first end i l h = go (reversing f)
  where
    go : (t : Bool) → (first ≤ cond t (first + end - (i + 1)) i) × (cond t (first + end - (i + 1)) i < end)
    go true = (omega arith, omega arith)
    go false = (l, h)

pub coordinates_joined : (ps qs : List Point) → coordinates (ps ++ qs) ≡ coordinates ps ++ coordinates qs
unfolding coordinates
coordinates_joined [] qs = refl
coordinates_joined (p ∷ ps) qs = ap (λ (l : List Float). p.x ∷ p.y ∷ l) (coordinates_joined ps qs)

-- so many coordinates, all within the limits
record Fine (xs : List Float) (n : ℕ) : Type 0 where
  within : Coordinates xs
  many : length xs ≡ 2 * n

fine_up : (g : ℕ → Point) (i n : ℕ) → ((j : ℕ) → i ≤ j → j < i + n → Small 100000 (g j).x × Small 100000 (g j).y) → Fine (coordinates (up g i n)) n
unfolding coordinates up
fine_up g i zero h = record { within = tt; many = refl }
fine_up g i (suc n) h =
    let p = h i (omega arith) (omega arith) in
    let r = fine_up g (i + 1) n (λ j l b. h j (omega arith) (omega arith)) in
    let m = r.many in
    record { within = (p.0, (p.1, r.within)); many = omega arith }

fine_joined : (ps qs : List Point) (m n : ℕ) → Fine (coordinates ps) m → Fine (coordinates qs) n → Fine (coordinates (ps ++ qs)) (m + n)
fine_joined ps qs m n P Q =
    subst (λ (l : List Float). Fine l (m + n)) (sym (coordinates_joined ps qs))
    (record {
      within = coordinates_append (coordinates ps) (coordinates qs) P.within Q.within;
      many = (let a = length-append (coordinates ps) (coordinates qs) in let b = P.many in let c = Q.many in omega arith);
    })

module _ (f : Frame) (xs : List Float) (n : ℕ) (C : Coordinates xs) (L : length xs ≡ 2 * n) where
  point-fine : (i : ℕ) → i < n → Small 100000 (to f (point_at xs i)).x × Small 100000 (to f (point_at xs i)).y
  unfolding point_at
  point-fine i h = to_small f 100000 (point_at xs i) (coordinate_at xs (2 * i) C (omega arith)) (coordinate_at xs (2 * i + 1) C (omega arith))

  points-fine : (first : ℕ) (es : List ℕ) → Ends first es n → Fine (coordinates (framed_points f xs first es)) (n - first)
  unfolding framed_points coordinates
  points-fine first [] h = record { within = tt; many = (let e : first ≡ n = h in omega arith) }
  points-fine first (e ∷ es) h =
      let a = ends-most e n es h.1 in
      let b = h.0 in
      let s : e - first + (n - e) ≡ n - first = omega arith in
      subst (λ (m : ℕ). Fine (coordinates (up (λ i. to f (point_at xs (loop_index f first e i))) first (e - first) ++ framed_points f xs e es)) m) s
      (fine_joined (up (λ i. to f (point_at xs (loop_index f first e i))) first (e - first)) (framed_points f xs e es) (e - first) (n - e)
      (fine_up (λ i. to f (point_at xs (loop_index f first e i))) first (e - first)
      (λ i l m. let q = loop_index_in f first e i l (omega arith) in point-fine (loop_index f first e i) (omega (arith, q.1))))
      (points-fine e es h.1))

-- a set of an accepted job keeps in every frame what the reader promises of it
pub framed-good : (f : Frame) (s : Set) (n : ℕ) → Good s n → Good (framed f s) n
unfolding framed
framed-good f s n g = elim (either (identity f)) [
  | inl e ↦ rw e g
  | inr e ↦
      let r = points-fine f s.points n g.coordinates g.points 0 s.ends g.ends in
      let q = r.many in
      rw e (record { coordinates = r.within; points = omega arith; few = g.few; ends = g.ends; some = g.some; loops = g.loops })
]

pub framed-ends : (f : Frame) (s : Set) → (framed f s).ends ≡ s.ends
unfolding framed
framed-ends f s = elim (either (identity f)) [ inl e ↦ rw e | inr e ↦ rw e ]

-- where the frame is the identity the set stays as it is
pub framed-same : (f : Frame) (s : Set) → identity f ≡ true → framed f s ≡ s
unfolding framed
framed-same f s e = rw e

pub framed-other : (f : Frame) (s : Set) → identity f ≡ false → (framed f s).points ≡ coordinates (framed_points f s.points 0 s.ends)
unfolding framed
framed-other f s e = rw e

-- so in version 1's frame
pub framed-lower-left : (s : Set) → framed lower_left s ≡ s
unfolding identity along_x from_right from_top
framed-lower-left s = framed-same lower_left s refl

-- a set of no loops stays one
pub framed-nothing : (f : Frame) → framed f (record { points = []; ends = [] }) ≡ record { points = []; ends = [] }
unfolding framed framed_points coordinates
framed-nothing f = elim (either (identity f)) [ inl e ↦ rw e | inr e ↦ rw e ]

-- ---- what was read, in a frame

pub framed_ok : (f : Frame) (r : Read Set) (t : Set) (q : ℕ) → framed_read f r ≡ ok t q → (s : Set) × (r ≡ ok s q) × (framed f s ≡ t)
framed_ok f (ok s p) t q e = let z : p ≡ q = cc in (s, ap (λ (i : ℕ). ok s i) z, ok_same e)
framed_ok f (bad k) t q e = absurd (bad-not_ok e)

pub framed-bad : (f : Frame) (r : Read Set) (k : Refusal) → framed_read f r ≡ bad k → r ≡ bad k
framed-bad f (ok s p) k e = absurd (bad-not_ok (sym e))
framed-bad f (bad j) k e = e
