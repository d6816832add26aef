-- `slabs::xs::frame_xs` meets its contract. Assumes nothing.
use native.Mathlib.Omega.{arith}
use Rattle.slabs.proofs.xs.Lines.{at}
use Rattle.slabs.proofs.xs.SortedXs.{sides_two, sides-none}
use Rattle.slabs.proofs.xs.frame_xs.Goals as goal

pub returns-then-not-sheet : goal.returns-then-not-sheet
returns-then-not-sheet c = let a = c.args in (omega arith, sides-none (at a.line.now) a.sheet a.left a.right c.if-not-sheet.true)

pub returns : goal.returns
returns c = let a = c.args in let g = c.insert_x in let h = c.insert_x-2 in
    (omega arith, sides_two a.line.now g.new.line h.new.line a.sheet a.left a.right c.if-not-sheet.false g.ensures h.ensures)
