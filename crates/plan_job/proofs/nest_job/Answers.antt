-- `nest_job`: 30, then the copies in their order are searched. Assumes nothing.
use Prim.Native.Nat.{ℕ, ◌≤◌}
use mathlib.Core.Path.{ap, subst, ◌∙◌}
use Rattle.job.specs.declared.Header.{Header}
use Rattle.filling.specs.Shapes.{planner_of}
use Rattle.filling.specs.Start.{prepare_verdict}
use Rattle.nesting.specs.CopyOrder.{copy_order}
use Rattle.nesting.specs.Rounds.{Swaps}
use Rattle.nesting.specs.Nest.{nested}
use Rattle.report.specs.inner.Replies.{reply_of, planned_when}
use Rattle.swaps.proofs.search_plan.Ordered.{copies_upto, order-positions, few-rounds, copies_arranged, order-laid, order-within, order-count, order_arranged, order-room}
use Rattle.swaps.proofs.search_plan.Plans.{search-whole}
use Rattle.plan_job.proofs.Judging.{copies_many, no_positions, then-prepared}
use Rattle.plan_job.proofs.nest_job.Goals as goal

pub returns-then-positions-copies : goal.returns-then-positions-copies
returns-then-positions-copies c = let a = c.args in
    λ j l r z n. no_positions j l a.copies n a.positions.now z.positions_zero c.if-positions-copies.true

pub copy_order-n-requires : goal.copy_order-n-requires
copy_order-n-requires c = let p = c.requires.0 in
    let R = p.2 in
    let t = R.tabled in
    (subst (λ (m : ℕ). m ≤ 64) R.number t.few, t.rows_long, t.areas_long, copies_upto _ p.0 R.read _ _ _ t R.number)

pub slice_bounds-order-end : goal.slice_bounds-order-end
slice_bounds-order-end c = let p = c.requires.0 in
    order-within (copy_order p.0) c.copy_order-n.result _ _ (c.copy_order-n.ensures p.0 p.2.tabled p.2.number)

pub slice_bounds-plan_tables-end : goal.slice_bounds-plan_tables-end
slice_bounds-plan_tables-end c = let p = c.requires.0 in
    order-count (copy_order p.0) c.copy_order-n.result _ _ (c.copy_order-n.ensures p.0 p.2.tabled p.2.number)

pub plan_tables-requires : goal.plan_tables-requires
plan_tables-requires c = let a = c.args in
    let p = c.requires in
    let j = p.0.0 in
    let R = p.0.2 in
    let D = c.copy_order-n.ensures j R.tabled R.number in
    let A = copies_arranged _ j R.read in (
      (j, p.0.1, R, p.0.3, order_arranged (copy_order j) c.copy_order-n.result _ _ D j A),
      p.1,
      order-room (copy_order j) c.copy_order-n.result _ _ D _
          (order-positions _ j R.read (copy_order j) A _ (copies_many j a.copies _ p.0.4 c.if-positions-copies.false)),
      few-rounds _ j R.read a.h R.header_is,
    )

pub returns : goal.returns
returns c = let a = c.args in
    let n = c.copy_order-n.result in
    λ j l R Z k.
    let D = c.copy_order-n.ensures j R.tabled R.number in
    let A = copies_arranged _ j R.read in
    then-prepared j l a.copies k a.positions.now Z.positions_zero c.plan_tables.result _ c.if-positions-copies.false
    (c.plan_tables.ensures j l R Z (order_arranged (copy_order j) n _ _ D j A)
    ∙ ap (λ (w : Swaps). reply_of (planned_when (prepare_verdict (planner_of j) l.rooms) l (nested j l w)))
    (search-whole j l _ a.h.rounds (order-laid (copy_order j) n _ _ D) (ap (λ (x : Header). x.rounds) R.header_is)))
