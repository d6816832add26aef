-- `report`: what the layout says, its positions back on the sheet. Assumes nothing.
use Prim.Native.Nat.{ℕ, ◌≤◌}
use native.Mathlib.Omega.{arith}
use mathlib.Core.Path.{◌∙◌}
use Rattle.filling.specs.Shapes.{planner_of}
use Rattle.report.proofs.Agree.{offcut-told}
use Rattle.report.proofs.Reporting.{told-reply}
use Rattle.report.proofs.report.Goals as goal

self : (n : ℕ) → n ≤ n
self n = omega arith

pub offcut-offcut-requires : goal.offcut-offcut-requires
offcut-offcut-requires c = let p = c.requires in (p.2, p.3, p.6)

pub plan_of-plan-requires : goal.plan_of-plan-requires
plan_of-plan-requires c = let p = c.requires in (p.0, p.1, self _, p.2, p.3, p.4, p.5, p.7, p.8, p.9, p.10)

pub positions_on_sheet-requires : goal.positions_on_sheet-requires
positions_on_sheet-requires c = omega (arith, c.plan_of-plan.auto.room, c.requires.9)

pub shape_of-positions : goal.shape_of-positions
shape_of-positions c = c.positions_on_sheet.auto.room ∙ c.plan_of-plan.auto.room

pub returns : goal.returns
returns c = let a = c.args in
    let p = c.requires in
    let q = c.plan_of-plan in
    let o = c.offcut-offcut in
    λ j areas s next l T n e h f g.
    told-reply j areas s next l a.rows.now a.kinds a.order.now
    a.look_counts.now a.t a.orientation.now a.x.now a.y.now a.gap.now o.result a.improvements a.positions.now _ q.result
    p.2 p.3 p.4 p.10 T n
    (offcut-told s a.order.now next a.look_counts.now a.t a.orientation.now a.x.now a.y.now a.gap.now p.2 p.3 p.4 p.10
    (planner_of j) a.parts.now a.shapes.now a.sheet_right o.result h e o.ensures)
    f q.ensures a.f _ p.9 g c.positions_on_sheet.ensures
