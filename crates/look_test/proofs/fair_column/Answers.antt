use native.Mathlib.Omega.{arith}
use Rattle.look_test.proofs.fair_column.Goals as goal

pub returns : goal.returns
returns c = λ e. let h = c.all_bounded.ensures e in
    record { left = h 0 (omega arith); right = h 1 (omega arith); column = h 2 (omega arith); low = h 3 (omega arith); high = h 4 (omega arith) }
