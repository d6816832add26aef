-- A room after a strip is stored, as a list. Assumes nothing.
use Prim.Native.Nat.{ℕ, suc, ◌+◌, ◌*◌, ◌/◌, ◌≤◌, ◌<◌}
use native.Mathlib.Omega.{arith}
use mathlib.Core.Path.{◌≡◌, ◌∙◌}
use mathlib.Core.List.{List, [], ◌∷◌, ◌++◌}
use lib.ListN.{length, set, take, drop, length-set, length-append}
use lib.Seq.{sets, sets-eq, drop-set-lt, take_at, length-take-le}
use lib.Ieee.{Float}
use Rattle.trapezoid.specs.declared.Trapezoid.{Trapezoid}
use Rattle.trapezoid.specs.Strip.{capacity}
use Rattle.trapezoid.specs.inner.Writing.{set_strip}

-- a strip that the room's capacity counts lies in the room
pub strip_in_room : (r : List Float) (n cap : ℕ) → cap ≡ capacity r → n < cap → 6 * n + 6 ≤ length r
unfolding capacity
strip_in_room r n cap e h = let z : cap ≡ length r / 6 = e in omega arith

abbrev pub six : Trapezoid → List Float
six s = s.x0 ∷ s.x1 ∷ s.low0 ∷ s.low1 ∷ s.high0 ∷ s.high1 ∷ []

strip_sets : (r : List Float) (n : ℕ) (s : Trapezoid) → set_strip r n s ≡ sets r (6 * n) (six s)
unfolding set_strip
strip_sets r n s =
    let e1 : 6 * n + 1 ≡ suc (6 * n) = omega arith in
    let e2 : 6 * n + 2 ≡ suc (suc (6 * n)) = omega arith in
    let e3 : 6 * n + 3 ≡ suc (suc (suc (6 * n))) = omega arith in
    let e4 : 6 * n + 4 ≡ suc (suc (suc (suc (6 * n)))) = omega arith in
    let e5 : 6 * n + 5 ≡ suc (suc (suc (suc (suc (6 * n))))) = omega arith in
    rw (e1, e2, e3, e4, e5)

pub length-set_strip : (r : List Float) (n : ℕ) (s : Trapezoid) → length (set_strip r n s) ≡ length r
unfolding set_strip
length-set_strip r n s = simp length-set

pub take-strip : (r : List Float) (n : ℕ) (s : Trapezoid) → 6 * (n + 1) ≤ length r → take (6 * (n + 1)) (set_strip r n s) ≡ take (6 * n) r ++ six s
take-strip r n s h =
    let l : length (take (6 * n) r) ≡ 6 * n = length-take-le (6 * n) r (omega arith) in
    rw (strip_sets r n s, sets-eq (six s) r (6 * n) (omega arith))
    (take_at (take (6 * n) r ++ six s) (drop (6 * n + 6) r) (6 * (n + 1)) (length-append (take (6 * n) r) (six s) ∙ omega arith))

pub drop-strip : (r : List Float) (n m : ℕ) (s : Trapezoid) → 6 * n + 5 < m → drop m (set_strip r n s) ≡ drop m r
unfolding set_strip
drop-strip r n m s h =
    let r1 = set r (6 * n) s.x0 in
    let r2 = set r1 (6 * n + 1) s.x1 in
    let r3 = set r2 (6 * n + 2) s.low0 in
    let r4 = set r3 (6 * n + 3) s.low1 in
    let r5 = set r4 (6 * n + 4) s.high0 in
    drop-set-lt m r5 (6 * n + 5) s.high1 (omega arith) ∙ (drop-set-lt m r4 (6 * n + 4) s.high0 (omega arith) ∙ (drop-set-lt m r3 (6 * n + 3) s.low1 (omega arith)
    ∙ (drop-set-lt m r2 (6 * n + 2) s.low0 (omega arith) ∙ (drop-set-lt m r1 (6 * n + 1) s.x1 (omega arith) ∙ drop-set-lt m r (6 * n) s.x0 (omega arith)))))
