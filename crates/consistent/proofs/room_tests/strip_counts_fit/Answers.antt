-- `consistent::room_tests::strip_counts_fit` meets its contract. Assumes nothing.
use native.Mathlib.Omega.{arith}
use mathlib.Core.Path.{sym, ◌∙◌}
use borrow.Author.Tests.{le-leb, lt-leb, leb-true}
use Rattle.index.proofs.Standing.{standing-within}
use Rattle.consistent.specs.inner.Tests.{counts_test}
use Rattle.consistent.proofs.strip_tests.Bounding.{never}
use Rattle.consistent.proofs.Cases.{room_for}
use Rattle.consistent.proofs.room_tests.strip_counts_fit.Goals.{then-sheet_strips-standing_capacity, else-sheet_strips-standing_capacity}
use Rattle.consistent.proofs.room_tests.strip_counts_fit.Goals as goal

pub returns-then-apart_strips-capacity : goal.returns-then-apart_strips-capacity
unfolding counts_test
returns-then-apart_strips-capacity c =
    let a = c.args in
    elim c.if-sheet_strips-standing_capacity.branch [
      | then-sheet_strips-standing_capacity w ↦
          let t = sym w.value-is ∙ c.if-apart_strips-capacity.true in
          let n = leb-true _ _ t in (
            rw (
              ← c.standing_capacity.ensures,
              ← w.capacity.ensures,
              ← c.standing_capacity-then-apart_strips-capacity.ensures,
              le-leb a.sheet_strips c.standing_capacity.result w.if-sheet_strips-standing_capacity.true,
              t,
            ),
            λ e. (
              standing-within a.sheet_strips a.sheet.now a.sheet_firsts.now (omega arith),
              room_for a.apart_strips a.shapes.now (omega arith),
              standing-within a.placed_strips a.placed.now a.placed_firsts.now (let m = leb-true _ _ e in omega arith),
            ),
          )
      | else-sheet_strips-standing_capacity w ↦
          never (sym (lt-leb _ _ w.if-sheet_strips-standing_capacity.false) ∙ (sym w.value-is ∙ c.if-apart_strips-capacity.true))
    ]
