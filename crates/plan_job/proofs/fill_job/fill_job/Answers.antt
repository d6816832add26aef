-- `fill_job`: 30, 10, then the filling. Assumes nothing.
use Prim.Native.Nat.{ℕ, ◌*◌, ◌≤◌}
use native.Mathlib.Omega.{arith}
use mathlib.Core.List.{List, ◌++◌}
use mathlib.Core.Path.{◌≡◌, sym, ap, subst, ◌∙◌}
use lib.ListN.{length, take}
use lib.Seq.{length-take-le, take_at}
use Rattle.filling.specs.Order.{rearranged}
use Rattle.filling.specs.Shapes.{planner_of}
use Rattle.filling.specs.Start.{prepare_verdict}
use Rattle.filling.specs.Fill.{Planned, planned_by, fill_order}
use Rattle.filling.proofs.Begin.{rearranged-length}
use Rattle.report.specs.inner.Replies.{reply_of, planned_when}
use Rattle.report.proofs.readied.Judging.{positions_many}
use Rattle.swaps.proofs.search_plan.Ordered.{order_upto}
use Rattle.swaps.proofs.search_plan.Plans.{filling_planned}
use Rattle.plan_job.proofs.fill_job.Judging.{no_positions, wrong_order, then-prepared}
use Rattle.plan_job.proofs.fill_job.fill_job.Goals as goal

pub returns-then-positions-copies : goal.returns-then-positions-copies
returns-then-positions-copies c = let a = c.args in
    λ j l r z n. no_positions j l a.order.now a.copies n a.positions.now z.positions_zero c.if-positions-copies.true

pub rearranged-requires : goal.rearranged-requires
rearranged-requires c = let R = c.requires.0.2 in
    (subst (λ (m : ℕ). m ≤ 64) R.number R.tabled.few, R.tabled.rows_long)

pub returns-then-not-rearranged : goal.returns-then-not-rearranged
returns-then-not-rearranged c = let a = c.args in
    λ j l r z n.
    let o = sym (c.rearranged.ensures j a.areas.now r.tabled r.number n) ∙ c.if-not-rearranged.true in
    wrong_order j l a.order.now a.copies n a.positions.now z.positions_zero c.if-positions-copies.false o

pub slice_bounds-table-end : goal.slice_bounds-table-end
slice_bounds-table-end c = let p = c.requires.0 in
    order_upto _ p.0 p.2.read c.args.order.now (sym (c.rearranged.ensures p.0 c.args.areas.now p.2.tabled p.2.number p.4) ∙ c.if-not-rearranged.false)

pub slice_bounds-copy_from_slice-end : goal.slice_bounds-copy_from_slice-end
slice_bounds-copy_from_slice-end c = let p = c.requires.0 in
    sym (length-take-le (length c.args.order.now) _
    (order_upto _ p.0 p.2.read c.args.order.now (sym (c.rearranged.ensures p.0 c.args.areas.now p.2.tabled p.2.number p.4) ∙ c.if-not-rearranged.false)))

pub copy_from_slice-requires : goal.copy_from_slice-requires
copy_from_slice-requires c = let p = c.requires.0 in
    length-take-le (length c.args.order.now) _
    (order_upto _ p.0 p.2.read c.args.order.now (sym (c.rearranged.ensures p.0 c.args.areas.now p.2.tabled p.2.number p.4) ∙ c.if-not-rearranged.false))

-- what is copied is what was given
copied : (own ys rest : List ℕ) → ys ≡ own → take (length own) (ys ++ rest) ≡ own
copied own ys rest e = take_at ys rest (length own) (ap length e) ∙ e

pub plan_tables-requires : goal.plan_tables-requires
plan_tables-requires c = let a = c.args in
    let p = c.requires in
    let o = sym (c.rearranged.ensures p.0.0 a.areas.now p.0.2.tabled p.0.2.number p.0.4) ∙ c.if-not-rearranged.false in
    let e = copied a.order.now _ _ c.copy_from_slice.ensures.after in
    let m = positions_many a.order.now a.copies _ (rearranged-length p.0.0 a.order.now o ∙ p.0.4) c.if-positions-copies.false in (
      (p.0.0, p.0.1, p.0.2, p.0.3, ap (rearranged p.0.0) e ∙ o),
      p.1,
      subst (λ (w : List ℕ). 6 * length w ≤ length a.positions.now) (sym e) m,
      omega arith,
    )

pub returns : goal.returns
returns c = let a = c.args in
    let e = copied a.order.now _ _ c.copy_from_slice.ensures.after in
    λ j l r z n.
    let o = sym (c.rearranged.ensures j a.areas.now r.tabled r.number n) ∙ c.if-not-rearranged.false in
    then-prepared j l a.order.now a.copies n a.positions.now z.positions_zero c.plan_tables.result _ c.if-positions-copies.false o
    (c.plan_tables.ensures j l r z (ap (rearranged j) e ∙ o)
    ∙ ap (λ (w : Planned). reply_of (planned_when (prepare_verdict (planner_of j) l.rooms) l w))
    (filling_planned j l _ ∙ ap (λ (w : List ℕ). planned_by j l (fill_order j l w)) e))
