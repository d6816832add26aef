-- `position_on_sheet`: x and y of a position, through `from`. Assumes nothing.
use mathlib.Core.Path.{refl}
use Rattle.report.proofs.on_sheet.Back.{stored}
use Rattle.report.proofs.on_sheet.position_on_sheet.Goals as goal

pub returns : goal.returns
returns c = let a = c.args in
    stored a.f a.room.now a.i _ _ c.from-p.result refl refl c.from-p.ensures
