-- Laws of points in a room as they go through a frame: a pair, a loop from both its ends, the loops of a set. Assumes nothing.
use Rattle.std.specs.Prelude.{Result, Ok}
use Rattle.bits.specs.declared.Refusal.{Refusal}
use mathlib.Core.Path.{◌≡◌, refl, sym, ap, ap₂, subst, ◌∙◌}
use mathlib.Core.Logic.{◌⊎◌, inl, inr}
use mathlib.Core.Bool.{Bool, true, false, cond}
use mathlib.Core.List.{List, [], ◌∷◌, ◌++◌, append_assoc, append-nil}
use Prim.Native.Nat.{ℕ, zero, suc, ◌+◌, ◌-◌, ◌*◌, ◌≤◌, ◌<◌}
use native.Mathlib.Omega.{arith}
use native.Mathlib.Numerals.{add-one}
use lib.ListN.{length, get_or, set, take, drop, length-set, drop_of_length-le}
use lib.Seq.{get_or-set_same, get_or-set_other, get_or-take, take-suc, drop-cons, length-take-le}
use lib.Ieee.{Float, nan}
use Rattle.numbers.proofs.Truth.{below_or_not, same_or_not}
use Rattle.slabs.specs.Slab.{up}
use Rattle.slabs.proofs.Sorting.{up_ext, up_snoc}
use Rattle.slabs.proofs.Merging.{up_split}
use Rattle.strips.specs.inner.Tables.{Loops}
use Rattle.bits.specs.Reading.{ok}
use Rattle.kinds.specs.sets.Sets.{Set, a_set}
use Rattle.kinds.specs.sets.inner.Answers.{set_read, set_fits}
use Rattle.kinds.proofs.sets.Accepted.{set-good}
use Rattle.frames.specs.declared.Frame.{Frame}
use Rattle.frames.specs.declared.Point.{Point}
use Rattle.frames.specs.Frames.{to, reversing, point_at, loop_index, framed_points, coordinates, framed}
use Rattle.frames.specs.inner.Turning.{set_point, framed_pair, FramedLoop, framed_read}
use Rattle.frames.proofs.Turned.{ends_loops, loop_index_in, coordinates_joined, framed-ends}

-- ---- a point in its place

module _ (xs : List Float) (i : ℕ) (p : Point) where
  point-length : length (set_point xs i p) ≡ length xs
  unfolding set_point
  point-length = length-set (set xs (2 * i) p.x) (2 * i + 1) p.y ∙ length-set xs (2 * i) p.x

  point-same : 2 * i + 2 ≤ length xs → point_at (set_point xs i p) i ≡ p
  unfolding point_at set_point
  point-same h =
      let l = length-set xs (2 * i) p.x in
      rw (
        get_or-set_same (set xs (2 * i) p.x) (2 * i + 1) p.y nan (omega arith),
        get_or-set_other (set xs (2 * i) p.x) (2 * i + 1) (2 * i) p.y nan (λ z. omega arith),
        get_or-set_same xs (2 * i) p.x nan (omega arith),
      )

  point-other : (j : ℕ) → (j ≡ i → ⊥) → point_at (set_point xs i p) j ≡ point_at xs j
  unfolding point_at set_point
  point-other j h =
      rw (
        get_or-set_other (set xs (2 * i) p.x) (2 * i + 1) (2 * j) p.y nan (λ z. omega arith),
        get_or-set_other xs (2 * i) (2 * j) p.x nan (λ z. h (omega arith)),
        get_or-set_other (set xs (2 * i) p.x) (2 * i + 1) (2 * j + 1) p.y nan (λ z. h (omega arith)),
        get_or-set_other xs (2 * i) (2 * j + 1) p.x nan (λ z. omega arith),
      )

-- ---- a pair

module _ (f : Frame) (xs : List Float) (t : Bool) where
  pair_second : (i j : ℕ) → 2 * j + 2 ≤ length xs → point_at (framed_pair f xs i j t) j ≡ to f (point_at xs (cond t i j))
  unfolding framed_pair
  pair_second i j h =
      let p = to f (point_at xs (cond t j i)) in
      point-same (set_point xs i p) j (to f (point_at xs (cond t i j))) (omega (arith, point-length xs i p))

  pair_first : (i j : ℕ) → 2 * i + 2 ≤ length xs → point_at (framed_pair f xs i j t) i ≡ to f (point_at xs (cond t j i))
  unfolding framed_pair
  pair_first i j h = elim (same_or_not i j) [
    | inl e ↦ subst (λ (m : ℕ). point_at (framed_pair f xs i m t) i ≡ to f (point_at xs (cond t m i))) e (pair_second i i h)
    | inr n ↦
        let p = to f (point_at xs (cond t j i)) in
        point-other (set_point xs i p) j (to f (point_at xs (cond t i j))) i n ∙ point-same xs i p h
  ]

  pair_other : (i j m : ℕ) → (m ≡ i → ⊥) → (m ≡ j → ⊥) → point_at (framed_pair f xs i j t) m ≡ point_at xs m
  unfolding framed_pair
  pair_other i j m a b =
      let p = to f (point_at xs (cond t j i)) in
      point-other (set_point xs i p) j (to f (point_at xs (cond t i j))) m b ∙ point-other xs i p m a

-- ---- a loop, from both its ends inward: the points before i and from j on are framed

pub record Halfway (f : Frame) (first end i j : ℕ) (xs ys : List Float) : Type 0 where
  pub front : (m : ℕ) → first ≤ m → m < i → point_at ys m ≡ to f (point_at xs (loop_index f first end m))
  pub back : (m : ℕ) → j ≤ m → m < end → point_at ys m ≡ to f (point_at xs (loop_index f first end m))
  pub middle : (m : ℕ) → i ≤ m → m < j → point_at ys m ≡ point_at xs m
  pub outside : (m : ℕ) → (m < first) ⊎ (end ≤ m) → point_at ys m ≡ point_at xs m

pub halfway_start : (f : Frame) (first end : ℕ) (xs : List Float) → Halfway f first end first end xs xs
halfway_start f first end xs =
    record { front = λ m l h. absurd (omega arith); back = λ m l h. absurd (omega arith); middle = λ m l h. refl; outside = λ m h. refl }

module _ (f : Frame) (first end i j : ℕ) (xs ys : List Float) (H : Halfway f first end i j xs ys) where
  pub halfway_end : j ≤ i → FramedLoop f first end xs ys
  halfway_end h = record {
    inside = λ m l b. elim (below_or_not m i) [ inl c ↦ H.front m l c | inr c ↦ H.back m (omega arith) b ];
    outside = H.outside;
  }

  -- j comes down to m
  module _ (m : ℕ) (jm : j ≡ m + 1) (a : first ≤ i) (b : i < j) (c : j ≤ end) (s : i + j ≡ first + end) (l : 2 * end ≤ length ys) where
    comes_to_first : point_at ys (cond (reversing f) m i) ≡ point_at xs (loop_index f first end i)
    unfolding loop_index
    comes_to_first = go (reversing f)
      where
        go : (t : Bool) → point_at ys (cond t m i) ≡ point_at xs (cond t (first + end - (i + 1)) i)
        go true = let e : m ≡ first + end - (i + 1) = omega arith in H.middle m (omega arith) (omega arith) ∙ ap (point_at xs) e
        go false = H.middle i (omega arith) (omega arith)

    comes_to_second : point_at ys (cond (reversing f) i m) ≡ point_at xs (loop_index f first end m)
    unfolding loop_index
    comes_to_second = go (reversing f)
      where
        go : (t : Bool) → point_at ys (cond t i m) ≡ point_at xs (cond t (first + end - (m + 1)) m)
        go true = let e : i ≡ first + end - (m + 1) = omega arith in H.middle i (omega arith) (omega arith) ∙ ap (point_at xs) e
        go false = H.middle m (omega arith) (omega arith)

    abbrev next : List Float
    next = framed_pair f ys i m (reversing f)

    abbrev Comes : ℕ → Type 0
    Comes q = point_at next q ≡ to f (point_at xs (loop_index f first end q))

    at_first : Comes i
    at_first = pair_first f ys (reversing f) i m (omega arith) ∙ ap (to f) comes_to_first

    at_second : Comes m
    at_second = pair_second f ys (reversing f) i m (omega arith) ∙ ap (to f) comes_to_second

    elsewhere : (q : ℕ) → (q ≡ i → ⊥) → (q ≡ m → ⊥) → point_at next q ≡ point_at ys q
    elsewhere q = pair_other f ys (reversing f) i m q

    apart : (q r : ℕ) → first ≤ r → r < end → (q < first) ⊎ (end ≤ q) → q ≡ r → ⊥
    apart q r h n (inl d) e = omega arith
    apart q r h n (inr d) e = omega arith

    pair_on : Halfway f first end (i + 1) m xs next
    pair_on = record {
      front = λ q h n. elim (below_or_not q i) [
        | inl d ↦ elsewhere q (λ z. omega arith) (λ z. omega arith) ∙ H.front q h d
        | inr d ↦ let e : i ≡ q = omega arith in subst Comes e at_first
      ];
      back = λ q h n. elim (below_or_not q j) [
        | inl d ↦ let e : m ≡ q = omega arith in subst Comes e at_second
        | inr d ↦ elsewhere q (λ z. omega arith) (λ z. omega arith) ∙ H.back q d n
      ];
      middle = λ q h n. elsewhere q (λ z. omega arith) (λ z. omega arith) ∙ H.middle q (omega arith) (omega arith);
      outside = λ q h. elsewhere q (apart q i (omega arith) (omega arith) h) (apart q m (omega arith) (omega arith) h) ∙ H.outside q h;
    }

    pub halfway_on : (zs : List Float) (t : Bool) → zs ≡ framed_pair f ys i m t → t ≡ reversing f → Halfway f first end (i + 1) m xs zs
    halfway_on zs t e r = subst (λ (l : List Float). Halfway f first end (i + 1) m xs l) (sym (e ∙ ap (λ (u : Bool). framed_pair f ys i m u) r)) pair_on

-- ---- the loops of a set: the points before `first` are framed, those of the loops that end so are left

up_same : {A : Type 0} (f g : ℕ → A) (i n : ℕ) → ((j : ℕ) → i ≤ j → j < i + n → g j ≡ f j) → up g i n ≡ up f i n
unfolding up
up_same f g i zero h = refl
up_same f g i (suc n) h = rw (h i (omega arith) (omega arith), up_same f g (i + 1) n (λ j l b. h j (omega arith) (omega arith)))

-- the first m points of a room, as points and as numbers
last-read : (xs : List Float) (m : ℕ) → coordinates (point_at xs (0 + m) ∷ []) ≡ get_or xs (2 * m) nan ∷ get_or xs (suc (2 * m)) nan ∷ []
unfolding coordinates point_at
last-read xs m = let z : 0 + m ≡ m = omega arith in let b : 2 * m + 1 ≡ suc (2 * m) = omega arith in rw (z, b)

points-read : (xs : List Float) (m : ℕ) → 2 * m ≤ length xs → take (2 * m) xs ≡ coordinates (up (point_at xs) 0 m)
unfolding coordinates up
points-read xs zero h = refl
points-read xs (suc m) h =
    let a : 2 * suc m ≡ suc (suc (2 * m)) = omega arith in
    let x = get_or xs (2 * m) nan in
    let y = get_or xs (suc (2 * m)) nan in
    let front = coordinates (up (point_at xs) 0 m) in
    ap (λ (n : ℕ). take n xs) a
    ∙ (take-suc xs (suc (2 * m)) nan (omega arith)
    ∙ (ap (λ (l : List Float). l ++ (y ∷ [])) (take-suc xs (2 * m) nan (omega arith) ∙ ap (λ (l : List Float). l ++ (x ∷ [])) (points-read xs m (omega arith)))
    ∙ (append_assoc front (x ∷ []) (y ∷ [])
    ∙ (ap (λ (l : List Float). front ++ l) (sym (last-read xs m))
    ∙ (sym (coordinates_joined (up (point_at xs) 0 m) (point_at xs (0 + m) ∷ [])) ∙ sym (ap coordinates (up_snoc (point_at xs) 0 m)))))))

pub record Partly (f : Frame) (xs : List Float) (m first : ℕ) (es : List ℕ) (ps : List Point) (ys : List Float) : Type 0 where
  pub rest : (i : ℕ) → first ≤ i → i < m → point_at ys i ≡ point_at xs i
  pub whole : up (point_at ys) 0 first ++ framed_points f xs first es ≡ ps

pub partly_start : (f : Frame) (m : ℕ) (es : List ℕ) (ys : List Float) → Partly f (take (2 * m) ys) m 0 es (framed_points f (take (2 * m) ys) 0 es) ys
unfolding up point_at
partly_start f m es ys = record {
  rest = λ i l h. sym (rw (get_or-take (2 * m) ys (2 * i) nan (omega arith), get_or-take (2 * m) ys (2 * i + 1) nan (omega arith)));
  whole = refl;
}

-- what comes to point i of a loop
abbrev comes : Frame → List Float → ℕ → ℕ → ℕ → Point
comes f xs first end i = to f (point_at xs (loop_index f first end i))

module _ (f : Frame) (xs : List Float) (m first : ℕ) (ps : List Point) (ys : List Float) where
  module _ (e : ℕ) (es : List ℕ) (zs : List Float) (a : first ≤ e) (b : e ≤ m) (L : FramedLoop f first e ys zs) where
    loop_comes : ((i : ℕ) → first ≤ i → i < m → point_at ys i ≡ point_at xs i) → up (point_at zs) first (e - first) ≡ up (comes f xs first e) first (e - first)
    loop_comes H =
        up_same (comes f xs first e) (point_at zs) first (e - first)
        (λ i l h. let q = loop_index_in f first e i l (omega arith) in
        L.inside i l (omega arith) ∙ ap (to f) (H (loop_index f first e i) q.0 (omega (arith, q.1))))

    loop_after : up (point_at zs) 0 e ≡ up (point_at ys) 0 first ++ up (point_at zs) first (e - first)
    loop_after =
        let s : e ≡ first + (e - first) = omega arith in
        let z : 0 + first ≡ first = omega arith in
        ap (up (point_at zs) 0) s
        ∙ (up_split (point_at zs) 0 first (e - first) ∙ rw (z, up_ext (point_at ys) (point_at zs) 0 first (λ i l. L.outside i (inl (omega arith)))))

    loop_on : Partly f xs m first (e ∷ es) ps ys → Partly f xs m e es ps zs
    unfolding framed_points
    loop_on H = record {
      rest = λ i l h. L.outside i (inr l) ∙ H.rest i (omega arith) h;
      whole = ap (λ (l : List Point). l ++ framed_points f xs e es) (loop_after ∙ ap (λ (l : List Point). up (point_at ys) 0 first ++ l) (loop_comes H.rest))
          ∙ (append_assoc (up (point_at ys) 0 first) (up (comes f xs first e) first (e - first)) (framed_points f xs e es) ∙ H.whole);
    }

  module _ (ends : List ℕ) (i : ℕ) where
    pub partly_on : (zs : List Float) → i < length ends → first ≤ get_or ends i 0 → get_or ends i 0 ≤ m → FramedLoop f first (get_or ends i 0) ys zs
        → Partly f xs m first (drop i ends) ps ys → Partly f xs m (get_or ends i 0) (drop (i + 1) ends) ps zs
    partly_on zs h a b L H =
        subst (λ (n : ℕ). Partly f xs m (get_or ends i 0) (drop n ends) ps zs) (sym (add-one i))
        (loop_on (get_or ends i 0) (drop (suc i) ends) zs a b L (subst (λ (l : List ℕ). Partly f xs m first l ps ys) (drop-cons ends i 0 h) H))

    pub partly_end : length ends ≤ i → first ≡ m → 2 * m ≤ length ys → Partly f xs m first (drop i ends) ps ys → take (2 * m) ys ≡ coordinates ps
    unfolding framed_points
    partly_end h e l H =
        let w = subst (λ (es : List ℕ). up (point_at ys) 0 first ++ framed_points f xs first es ≡ ps) (drop_of_length-le ends h) H.whole in
        points-read ys m l ∙ ap coordinates (ap (up (point_at ys) 0) (sym e) ∙ (sym (append-nil (up (point_at ys) 0 first)) ∙ w))

-- ---- a set that was read

-- n loops and m points in their rooms
abbrev set_in : List Float → List ℕ → ℕ → ℕ → Set
set_in room ends n m = record { points = take (2 * m) room; ends = take n ends }

module _ (bytes : List ℕ) (at n m q : ℕ) (room : List Float) (ends : List ℕ) where
  -- what an answer with n loops and m points says
  pub set_told : (r : Result (ℕ × ℕ × ℕ) Refusal) (most : ℕ) → a_set bytes at ≡ set_read r room ends → set_fits r most → r ≡ Ok (n, m, q)
      → (a_set bytes at ≡ ok (record { points = take (2 * m) room; ends = take n ends }) q) × (n ≤ 64) × (m ≤ 512) × (q ≤ most)
  set_told r most e h d =
      let F : (n ≤ 64) × (m ≤ 512) × (q ≤ most) = subst (λ (t : Result (ℕ × ℕ × ℕ) Refusal). set_fits t most) d h in
      (e ∙ ap (λ (t : Result (ℕ × ℕ × ℕ) Refusal). set_read t room ends) d, F.0, F.1, F.2)

  -- its loops lie in its points
  pub loops_lie_lem : a_set bytes at ≡ ok (record { points = take (2 * m) room; ends = take n ends }) q → 2 * m ≤ length room → Loops 0 (take n ends) m
  loops_lie_lem E l =
      let g = set-good bytes at (set_in room ends n m) q E in
      let e : g.0 ≡ m = (let a = g.1.points in let b = length-take-le (2 * m) room l in omega arith) in
      subst (λ (i : ℕ). Loops 0 (take n ends) i) e (ends_loops 0 g.0 (take n ends) g.1.ends)

  pub framed_is : (f : Frame) (after : List Float) → a_set bytes at ≡ ok (record { points = take (2 * m) room; ends = take n ends }) q
      → take (2 * m) after ≡ (framed f (record { points = take (2 * m) room; ends = take n ends })).points
      → framed_read f (a_set bytes at) ≡ ok (record { points = take (2 * m) after; ends = take n ends }) q
  framed_is f after E e =
      ap (framed_read f) E
      ∙ ap (λ (s : Set). ok s q) (ap₂ (λ (xs : List Float) (es : List ℕ). together xs es) (sym e) (framed-ends f (set_in room ends n m)))
    where
      together : List Float → List ℕ → Set
      together xs es = record { points = xs; ends = es }
