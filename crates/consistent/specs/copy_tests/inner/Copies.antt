-- For inner functions' contracts only: 31's tests of the standing copies in the code's order. That they are the definition's is proved in
-- proofs/copy_tests. Definitions only. Assumes nothing.
use Rattle.std.specs.Prelude.{Option, Some, None, ℕ, zero, suc, ◌+◌, ◌*◌, Bool, false, cond, ◌&&◌, List, get_or, leb, ltb, eqb, Float}
use Rattle.std.specs.Float.{nan}
use Rattle.std.specs.Float.Ieee.{eq}
use Rattle.trapezoid.specs.declared.Trapezoid.{Trapezoid}
use Rattle.trapezoid.specs.Strip.{strip_at, capacity, moved_by}
use Rattle.index.specs.Buckets.{up_from}
use Rattle.filling.specs.Consistent.{every, bounded}
use Rattle.choose.specs.inner.Choosing.{part_at, apart_part}

-- what the tests read of the job, the tables and the rooms: the kinds' rows, the parts by slot, the apart strips, the placed strips
pub record Held : Type 0 where
  pub rows : List ℕ
  pub kinds : ℕ
  pub parts : List ℕ
  pub apart : List Float
  pub placed : List Float

abbrev pub held : List ℕ → ℕ → List ℕ → List Float → List Float → Held
held rows kinds parts apart placed = record { rows = rows; kinds = kinds; parts = parts; apart = apart; placed = placed }

-- equal numbers; minus zero is zero
unfoldable pub same_strip : Trapezoid → Trapezoid → Bool
same_strip p q =
    eq p.x0 q.x0
    && (eq p.x1 q.x1 && (eq p.low0 q.low0 && (eq p.low1 q.low1 && (eq p.high0 q.high0 && eq p.high1 q.high1))))

-- the strips of a part, moved, lie in the room from strip `at` on
unfoldable pub lies_test : List Float → Float → Float → List Float → ℕ → Bool
lies_test part x y placed at =
    leb (at + capacity part) (capacity placed)
    && every (λ i. same_strip (strip_at placed (at + i)) (moved_by (strip_at part i) x y)) (up_from (capacity part) 0)

-- an orientation of the kind
unfoldable pub turn_test : List ℕ → ℕ → ℕ → ℕ → Bool
turn_test rows kinds kind o = ltb kind kinds && ltb o (get_or rows (4 * kind + 3) 0)

-- the apart strips of a kind's orientation
abbrev pub apart_of : Held → ℕ → ℕ → List Float
apart_of w kind o = apart_part (part_at w.parts (16 * kind + o)) w.apart

-- a copy that stands, its strips from strip `at` on
unfoldable pub copy_test : Held → ℕ → Float → Float → ℕ → ℕ → Bool
copy_test w kind x y o at = turn_test w.rows w.kinds kind o && (bounded x && (bounded y && lies_test (apart_of w kind o) x y w.placed at))

-- where its strips end, by the copy's number in the layout: 0 for one without a place
unfoldable pub past_copy : Held → ℕ → Float → Float → ℕ → ℕ → Option ℕ
past_copy w kind x y zero at = Some at
past_copy w kind x y (suc o) at = cond (copy_test w kind x y o at) (Some (at + capacity (apart_of w kind o))) None

unfoldable pub onward : (ℕ → Bool) → Option ℕ → Bool
onward f (Some at) = f at
onward f None = false

-- the n copies from place i on, the first's strips from strip `at` on; after them no strip is left
unfoldable pub copies_test : Held → List ℕ → List ℕ → List Float → List Float → ℕ → ℕ → ℕ → Bool
copies_test w order orientation x y zero i at = eqb at (capacity w.placed)
copies_test w order orientation x y (suc n) i at =
    onward (copies_test w order orientation x y n (suc i)) (past_copy w (get_or order i 0) (get_or x i nan) (get_or y i nan) (get_or orientation i 0) at)
