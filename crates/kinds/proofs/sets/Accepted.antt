-- What the sets of an accepted job promise. Assumes nothing.
use mathlib.Core.Path.{◌≡◌, refl, sym, ◌∙◌, subst}
use Prim.Native.Nat.{ℕ, zero, suc, ◌+◌, ◌*◌, ◌≤◌, ◌<◌}
use native.Mathlib.Omega.{arith}
use mathlib.Core.List.{List, [], ◌∷◌, ◌++◌}
use lib.ListN.{length, get_or, length-append}
use lib.Ieee.{Float, nan}
use Rattle.numbers.proofs.Doubles.{Small}
use Rattle.bits.specs.Reading.{Read, ok, bad, ◌>>=◌, give}
use Rattle.bits.specs.Fields.{loops_field, count, point_count, point}
use Rattle.bits.proofs.Accepted.{Gives, bind, given, count_in_range, point-count_in, point-small}
use Rattle.kinds.specs.sets.Sets.{Set, Points, some_points, a_loop, some_loops, a_set}
use Rattle.kinds.specs.sets.inner.Answers.{found, set_at}

-- every coordinate: finite, not minus zero, within 100,000
abbrev pub Coordinates : List Float → Type 0
Coordinates [] = Unit {0}
Coordinates (x ∷ xs) = Small 100000 x × Coordinates xs

pub coordinates_append : (xs ys : List Float) → Coordinates xs → Coordinates ys → Coordinates (xs ++ ys)
coordinates_append [] ys p q = q
coordinates_append (x ∷ xs) ys p q = (p.0, coordinates_append xs ys p.1 q)

pub coordinate_at : (xs : List Float) (i : ℕ) → Coordinates xs → i < length xs → Small 100000 (get_or xs i nan)
coordinate_at [] i p h = absurd (none i h)
  where
    none : (i : ℕ) → i < 0 → ⊥
    none i h = omega arith
coordinate_at (x ∷ xs) zero p h = p.0
coordinate_at (x ∷ xs) (suc i) p h = coordinate_at xs i p.1 (omega arith)

-- each loop has three points or more: the ends rise from `first` to n by at least 3
abbrev pub Ends : ℕ → List ℕ → ℕ → Type 0
Ends first [] n = first ≡ n
Ends first (e ∷ es) n = (first + 3 ≤ e) × Ends e es n

pub ends-most : (first n : ℕ) (es : List ℕ) → Ends first es n → first + 3 * length es ≤ n
ends-most first n [] h = omega arith
ends-most first n (e ∷ es) h = let l = ends-most e n es h.1 in omega (arith, l, h.0)

pub ends_append : (first m n : ℕ) (es : List ℕ) → Ends first es m → m + 3 ≤ n → Ends first (es ++ (n ∷ [])) n
ends_append first m n [] h l = (subst (λ (x : ℕ). x + 3 ≤ n) (sym h) l, refl)
ends_append first m n (e ∷ es) h l = (h.0, ends_append e m n es h.1 l)

pub record Good (s : Set) (n : ℕ) : Type 0 where
  pub coordinates : Coordinates s.points
  pub points : length s.points ≡ 2 * n
  pub few : n ≤ 512
  pub ends : Ends 0 s.ends n
  pub some : 1 ≤ length s.ends
  pub loops : length s.ends ≤ 64

-- ---- reading keeps it
pub points-good : (n : ℕ) (xs : List Float) → Coordinates xs → Gives (some_points n xs) (λ ys. Coordinates ys × (length ys ≡ length xs + 2 * n))
unfolding some_points
points-good zero xs h = given xs (λ ys. Coordinates ys × (length ys ≡ length xs + 0)) (h, omega arith)
points-good (suc n) xs h =
    bind point (λ p. some_points n (xs ++ (p.x ∷ p.y ∷ []))) (λ p. Small 100000 p.x × Small 100000 p.y) (λ ys. Coordinates ys × (length ys ≡ length xs + 2 * suc n)) point-small (λ p c bytes at ys q e.
    let r = points-good n (xs ++ (p.x ∷ p.y ∷ [])) (coordinates_append xs (p.x ∷ p.y ∷ []) h (c.0, (c.1, tt))) bytes at ys q e in
    (r.0, r.1 ∙ more (length (xs ++ (p.x ∷ p.y ∷ []))) (length xs) n (length-append xs (p.x ∷ p.y ∷ []))))
  where
    more : (l m n : ℕ) → l ≡ m + 2 → l + 2 * n ≡ m + 2 * suc n
    more l m n e = omega arith

pub record Later (before : ℕ) (p : Points) : Type 0 where
  pub coordinates : Coordinates p.coordinates
  pub number : length p.coordinates ≡ 2 * p.number
  pub more : before + 3 ≤ p.number
  pub few : p.number ≤ 512

pub loop_good : (before : ℕ) (xs : List Float) → Coordinates xs → length xs ≡ 2 * before → Gives (a_loop before xs) (Later before)
unfolding a_loop
loop_good before xs h l =
    bind (point_count before) (λ n. some_points n xs >>= λ ys. give (record { number = before + n; coordinates = ys })) (λ n. (3 ≤ n) × (before + n ≤ 512)) (Later before) (point-count_in before) (λ n c.
    bind (some_points n xs) (λ ys. give (record { number = before + n; coordinates = ys })) (λ ys. Coordinates ys × (length ys ≡ length xs + 2 * n)) (Later before) (points-good n xs h) (λ ys d.
    given (record { number = before + n; coordinates = ys }) (Later before) (record { coordinates = d.0; number = d.1 ∙ twice (length xs) before n l; more = omega (arith, c.0); few = c.1 })))
  where
    twice : (m b n : ℕ) → m ≡ 2 * b → m + 2 * n ≡ 2 * (b + n)
    twice m b n e = omega arith

pub record Started (n before : ℕ) (xs : List Float) (es : List ℕ) : Type 0 where
  pub coordinates : Coordinates xs
  pub number : length xs ≡ 2 * before
  pub few : before ≤ 512
  pub ends : Ends 0 es before
  pub loops : n + length es ≤ 64
  pub some : 1 ≤ n + length es

pub loops_good : (n before : ℕ) (xs : List Float) (es : List ℕ) → Started n before xs es → Gives (some_loops n before xs es) (λ s. (m : ℕ) × Good s m)
unfolding some_loops
loops_good zero before xs es h =
    given (record { points = xs; ends = es }) (λ s. (m : ℕ) × Good s m) (before, record { coordinates = h.coordinates; points = h.number; few = h.few; ends = h.ends; some = omega (arith, h.some); loops = omega (arith, h.loops) })
loops_good (suc n) before xs es h =
    bind (a_loop before xs) (λ l. some_loops n l.number l.coordinates (es ++ (l.number ∷ []))) (Later before) (λ s. (m : ℕ) × Good s m) (loop_good before xs h.coordinates h.number) (λ l c.
    loops_good n l.number l.coordinates (es ++ (l.number ∷ [])) (record { coordinates = c.coordinates; number = c.number; few = c.few; ends = ends_append 0 before l.number es h.ends c.more; loops = omega (arith, h.loops, length-append es (l.number ∷ [])); some = omega (arith, h.some, length-append es (l.number ∷ [])) }))

pub set-good : Gives a_set (λ s. (m : ℕ) × Good s m)
unfolding a_set
set-good =
    bind (count loops_field) (λ n. some_loops n 0 [] []) (λ n. (1 ≤ n) × (n ≤ 64)) (λ s. (m : ℕ) × Good s m) (count_in_range loops_field) (λ n c.
    loops_good n 0 [] [] (record { coordinates = tt; number = refl; few = omega arith; ends = refl; loops = omega (arith, c.1); some = omega (arith, c.0) }))

-- a table's place whose set is good leads to an accepted set
pub set-accepted : (bytes : List ℕ) (p m : ℕ) → Good (set_at bytes p) m → (q : ℕ) × (a_set bytes p ≡ ok (set_at bytes p) q)
unfolding set_at
set-accepted bytes p m g = go (a_set bytes p) g.some
  where
    empty : 1 ≤ 0 → ⊥
    empty h = omega arith

    go : (r : Read Set) → 1 ≤ length (found r).ends → (q : ℕ) × (r ≡ ok (found r) q)
    go (ok s q) h = (q, refl)
    go (bad k) h = absurd (empty h)
