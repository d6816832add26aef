-- Laws of points, loops and sets: one turn of each loop that reads them. Assumes nothing.
use Rattle.std.specs.Prelude.{Result, Ok, Err}
use mathlib.Core.Path.{◌≡◌, refl, sym, ap, ◌∙◌}
use Prim.Native.Nat.{ℕ, suc, ◌+◌, ◌-◌, ◌*◌, ◌≤◌, ◌<◌}
use native.Mathlib.Omega.{arith}
use mathlib.Core.List.{List, [], ◌∷◌, ◌++◌, append_assoc}
use lib.ListN.{length, take, set, length-set}
use lib.Seq.{take-suc-set}
use lib.Ieee.{Float}
use Rattle.bits.specs.declared.Refusal.{Refusal}
use Rattle.bits.specs.Reading.{Read, ok, bad, after}
use Rattle.bits.specs.Fields.{loops_field, count, point_count, point}
use Rattle.bits.proofs.Accepted.{point-place}
use Rattle.kinds.specs.sets.inner.Answers.{set_fits}
use Rattle.kinds.specs.sets.Sets.{Set, some_points, a_loop, some_loops, a_set}

-- ---- points
module _ (bytes : List ℕ) (xs : List Float) (n i p : ℕ) where
  points-step : {x y : Float} {q : ℕ} → point bytes p ≡ ok (record { x = x; y = y }) q → i < n → some_points (n - i) xs bytes p ≡ some_points (n - (i + 1)) (xs ++ (x ∷ y ∷ [])) bytes q
  unfolding some_points after
  points-step {x} {y} {q} e h =
      let m : n - i ≡ suc (n - (i + 1)) = omega arith in
      ap (λ (k : ℕ). some_points k xs bytes p) m ∙ rw e

  points-bad : {k : Refusal} → point bytes p ≡ bad k → i < n → some_points (n - i) xs bytes p ≡ bad k
  unfolding some_points after
  points-bad {k} e h =
      let m : n - i ≡ suc (n - (i + 1)) = omega arith in
      ap (λ (k : ℕ). some_points k xs bytes p) m ∙ rw e

  points-done : n ≤ i → some_points (n - i) xs bytes p ≡ ok xs p
  unfolding some_points
  points-done h =
      let m : n - i ≡ 0 = omega arith in
      ap (λ (k : ℕ). some_points k xs bytes p) m

-- two more elements at the end of a prefix
pub take_two : {A : Type 0} (s : List A) (j l : ℕ) (a b : A) → j + 1 < length s → l ≡ j + 2 → take l (set (set s j a) (j + 1) b) ≡ take j s ++ (a ∷ b ∷ [])
take_two {A = A} s j l a b h e =
    let l1 : j < length s = omega arith in
    let l2 : j + 1 < length (set s j a) = omega (arith, length-set s j a) in
    let m2 : l ≡ suc (j + 1) = omega arith in
    let m1 : j + 1 ≡ suc j = omega arith in
    let t1 : take (j + 1) (set s j a) ≡ take j s ++ (a ∷ []) = ap (λ (k : ℕ). take k (set s j a)) m1 ∙ take-suc-set s j a l1 in
    ap (λ (k : ℕ). take k (set (set s j a) (j + 1) b)) m2 ∙ take-suc-set (set s j a) (j + 1) b l2 ∙ ap (λ (x : List A). x ++ (b ∷ [])) t1 ∙ simp append_assoc

-- i of n points are read into the room, after its first ones
pub record PointsTo (bytes : List ℕ) (at n first : ℕ) (room₀ room : List Float) (i p : ℕ) : Type 0 where
  pub same : some_points n (take (2 * first) room₀) bytes at ≡ some_points (n - i) (take (2 * (first + i)) room) bytes p
  pub place : p ≡ at + 128 * i
  pub inside : i ≤ n
  pub long : length room ≡ length room₀

module _ (bytes : List ℕ) (at n first : ℕ) (room₀ : List Float) where
  pub points-start : PointsTo bytes at n first room₀ room₀ 0 at
  points-start =
      let a : n ≡ n - 0 = omega arith in
      let b : 2 * first ≡ 2 * (first + 0) = omega arith in
      record { same = ap (λ (k : ℕ). some_points k (take (2 * first) room₀) bytes at) a ∙ ap (λ (k : ℕ). some_points (n - 0) (take k room₀) bytes at) b; place = omega arith; inside = omega arith; long = refl }

  module _ (room : List Float) (i p : ℕ) (r : PointsTo bytes at n first room₀ room i p) where
    pub points_on : {x y : Float} {q : ℕ} → point bytes p ≡ ok (record { x = x; y = y }) q → i < n → first + n ≤ 512 → 1024 ≤ length room₀
        → PointsTo bytes at n first room₀ (set (set room (2 * (first + i)) x) (2 * (first + i) + 1) y) (i + 1) q
    points_on {x} {y} {q} e h l w =
        let k : 2 * (first + i) + 1 < length room = omega (arith, r.long) in
        let g : q ≡ p + 64 + 64 = point-place bytes p (record { x = x; y = y }) q e in
        let t : take (2 * (first + (i + 1))) (set (set room (2 * (first + i)) x) (2 * (first + i) + 1) y) ≡ take (2 * (first + i)) room ++ (x ∷ y ∷ []) = take_two room (2 * (first + i)) (2 * (first + (i + 1))) x y k (omega arith) in
        record {
          same = r.same ∙ points-step bytes (take (2 * (first + i)) room) n i p e h ∙ ap (λ (xs : List Float). some_points (n - (i + 1)) xs bytes q) (sym t);
          place = omega (arith, r.place, g);
          inside = omega arith;
          long = length-set (set room (2 * (first + i)) x) (2 * (first + i) + 1) y ∙ length-set room (2 * (first + i)) x ∙ r.long;
        }

    pub points-end : {k : Refusal} → point bytes p ≡ bad k → i < n → some_points n (take (2 * first) room₀) bytes at ≡ bad k
    points-end e h = r.same ∙ points-bad bytes (take (2 * (first + i)) room) n i p e h

    pub points_all : n ≤ i → (some_points n (take (2 * first) room₀) bytes at ≡ ok (take (2 * (first + n)) room) p) × (p ≤ at + 128 * n)
    points_all h =
        let a : i ≡ n = omega (arith, r.inside) in
        (r.same ∙ points-done bytes (take (2 * (first + i)) room) n i p h ∙ ap (λ (k : ℕ). ok (take (2 * (first + k)) room) p) a, omega (arith, r.place, r.inside))

-- ---- a loop
module _ (bytes : List ℕ) (p before : ℕ) (xs : List Float) where
  pub loop_count : {k : Refusal} → point_count before bytes p ≡ bad k → a_loop before xs bytes p ≡ bad k
  unfolding a_loop after
  loop_count e = rw e

  pub loop_bad : {n q : ℕ} {k : Refusal} → point_count before bytes p ≡ ok n q → some_points n xs bytes q ≡ bad k → a_loop before xs bytes p ≡ bad k
  unfolding a_loop after
  loop_bad e f = rw (e, f)

  pub loop_in : {n q r : ℕ} {ys : List Float} → point_count before bytes p ≡ ok n q → some_points n xs bytes q ≡ ok ys r → a_loop before xs bytes p ≡ ok (record { number = before + n; coordinates = ys }) r
  unfolding a_loop after
  loop_in e f = rw (e, f)

-- ---- loops
module _ (bytes : List ℕ) (xs : List Float) (es : List ℕ) (n i p before : ℕ) where
  loops_step : {m q : ℕ} {ys : List Float} → a_loop before xs bytes p ≡ ok (record { number = m; coordinates = ys }) q → i < n → some_loops (n - i) before xs es bytes p ≡ some_loops (n - (i + 1)) m ys (es ++ (m ∷ [])) bytes q
  unfolding some_loops after
  loops_step e h =
      let m : n - i ≡ suc (n - (i + 1)) = omega arith in
      ap (λ (k : ℕ). some_loops k before xs es bytes p) m ∙ rw e

  loops_bad : {k : Refusal} → a_loop before xs bytes p ≡ bad k → i < n → some_loops (n - i) before xs es bytes p ≡ bad k
  unfolding some_loops after
  loops_bad e h =
      let m : n - i ≡ suc (n - (i + 1)) = omega arith in
      ap (λ (k : ℕ). some_loops k before xs es bytes p) m ∙ rw e

  loops_done : n ≤ i → some_loops (n - i) before xs es bytes p ≡ ok (record { points = xs; ends = es }) p
  unfolding some_loops
  loops_done h =
      let m : n - i ≡ 0 = omega arith in
      ap (λ (k : ℕ). some_loops k before xs es bytes p) m

-- i of n loops are read into the rooms
pub record LoopsTo (bytes : List ℕ) (at n : ℕ) (room₀ : List Float) (ends₀ : List ℕ) (room : List Float) (ends : List ℕ) (i p before : ℕ) : Type 0 where
  pub same : some_loops n 0 [] [] bytes at ≡ some_loops (n - i) before (take (2 * before) room) (take i ends) bytes p
  pub place : p ≤ at + 10 * i + 128 * before
  pub inside : i ≤ n
  pub few : before ≤ 512
  pub long : length room ≡ length room₀
  pub long_ends : length ends ≡ length ends₀

module _ (bytes : List ℕ) (at n : ℕ) (room₀ : List Float) (ends₀ : List ℕ) where
  pub loops_start : LoopsTo bytes at n room₀ ends₀ room₀ ends₀ 0 at 0
  loops_start =
      let a : n ≡ n - 0 = omega arith in
      record { same = ap (λ (k : ℕ). some_loops k 0 [] [] bytes at) a; place = omega arith; inside = omega arith; few = omega arith; long = refl; long_ends = refl }

  module _ (room : List Float) (ends : List ℕ) (i p before : ℕ) (r : LoopsTo bytes at n room₀ ends₀ room ends i p before) where
    pub loops_on : {m q : ℕ} {room' : List Float} → a_loop before (take (2 * before) room) bytes p ≡ ok (record { number = m; coordinates = take (2 * m) room' }) q → (before ≤ m) × (m ≤ 512) × (q ≤ p + 10 + 128 * (m - before)) → length room' ≡ length room → i < n → n ≤ 64 → 64 ≤ length ends₀ → LoopsTo bytes at n room₀ ends₀ room' (set ends i m) (i + 1) q m
    loops_on {m} {q} {room'} e f g h w l =
        let k : i < length ends = omega (arith, r.long_ends) in
        let a : suc i ≡ i + 1 = omega arith in
        let t : take (i + 1) (set ends i m) ≡ take i ends ++ (m ∷ []) = ap (λ (j : ℕ). take j (set ends i m)) (sym a) ∙ take-suc-set ends i m k in
        record {
          same = r.same ∙ loops_step bytes (take (2 * before) room) (take i ends) n i p before e h ∙ ap (λ (xs : List ℕ). some_loops (n - (i + 1)) m (take (2 * m) room') xs bytes q) (sym t);
          place = omega (arith, r.place, f.0, f.2);
          inside = omega arith;
          few = f.1;
          long = g ∙ r.long;
          long_ends = length-set ends i m ∙ r.long_ends;
        }

    pub loops_end : {k : Refusal} → a_loop before (take (2 * before) room) bytes p ≡ bad k → i < n → some_loops n 0 [] [] bytes at ≡ bad k
    loops_end e h = r.same ∙ loops_bad bytes (take (2 * before) room) (take i ends) n i p before e h

    pub loops_all : n ≤ i → n ≤ 64 → (some_loops n 0 [] [] bytes at ≡ ok (record { points = take (2 * before) room; ends = take n ends }) p) × ((n ≤ 64) × (before ≤ 512) × (p ≤ at + 66176))
    loops_all h w =
        let a : i ≡ n = omega (arith, r.inside) in
        (r.same ∙ loops_done bytes (take (2 * before) room) (take i ends) n i p before h ∙ ap (λ (k : ℕ). ok (record { points = take (2 * before) room; ends = take k ends }) p) a, (w, r.few, omega (arith, r.place, r.few, r.inside)))

-- ---- a set
module _ (bytes : List ℕ) (p : ℕ) where
  pub set-count : {k : Refusal} → count loops_field bytes p ≡ bad k → a_set bytes p ≡ bad k
  unfolding a_set after
  set-count e = rw e

  pub set_in_lem : {n q : ℕ} {r : Read Set} → count loops_field bytes p ≡ ok n q → some_loops n 0 [] [] bytes q ≡ r → a_set bytes p ≡ r
  unfolding a_set after
  set_in_lem {n} {q} {r} e f = rw e f

pub set_wide : (r : Result (ℕ × ℕ × ℕ) Refusal) (at : ℕ) → set_fits r (at + 7 + 66176) → set_fits r (at + 66183)
set_wide (Ok (n, m, q)) at h = (h.0, h.1, omega (arith, h.2))
set_wide (Err k) at h = tt
