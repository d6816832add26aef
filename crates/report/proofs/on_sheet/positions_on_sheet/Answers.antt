-- `positions_on_sheet`: the first i positions are back. Assumes nothing.
use native.Mathlib.Omega.{arith}
use mathlib.Core.Path.{◌≡◌, refl, ap, ◌∙◌}
use Rattle.report.specs.on_sheet.inner.Turned.{back_to}
use Rattle.report.proofs.on_sheet.Back.{back_none, back-next}
use Rattle.report.proofs.on_sheet.positions_on_sheet.Goals as goal

pub loop-i-init : goal.loop-i-init
loop-i-init c = let a = c.args in
    (omega arith, refl, back_none a.f a.room.now)

pub position_on_sheet-requires : goal.position_on_sheet-requires
position_on_sheet-requires c = omega (arith, c.loop-i.invariant.1, c.requires)

pub loop-i-preserved : goal.loop-i-preserved
loop-i-preserved c = let a = c.args in
    let l = c.loop-i in
    let p = c.position_on_sheet in (
      omega arith,
      p.auto.room ∙ l.invariant.1,
      p.ensures ∙ back-next a.f a.room.now l.room l.i l.invariant.2,
    )

pub shape_of-room : goal.shape_of-room
shape_of-room c = c.loop-i.invariant.1

pub returns : goal.returns
returns c = let a = c.args in
    let l = c.loop-i in
    let e : l.i ≡ a.n = omega (arith, l.invariant.0) in
    l.invariant.2 ∙ ap (back_to a.f a.room.now) e
