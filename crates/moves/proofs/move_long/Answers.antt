use native.Mathlib.Omega.{arith}
use lib.ListN.{length-set}
use Rattle.moves.proofs.MovedUp.{moved-head}
use Rattle.moves.proofs.move_long.Goals as goal

pub move_fours-requires : goal.move_fours-requires
move_fours-requires c = (omega arith, c.requires.1)

pub bounds-s-at-2 : goal.bounds-s-at-2
bounds-s-at-2 c = simp length-set (omega arith)

pub bounds-s-at-3 : goal.bounds-s-at-3
bounds-s-at-3 c = simp length-set (omega arith)

pub bounds-s-at-4 : goal.bounds-s-at-4
bounds-s-at-4 c = simp length-set (omega arith)

pub returns : goal.returns
returns c = let g = c.args in
    let M = c.move_fours.ensures in
    moved-head g.from c.move_fours.result g.to g.by g.s.now _ M.0 M.2 c.requires.0 c.requires.1 M.3

pub shape_of-s : goal.shape_of-s
shape_of-s c = (returns c).size
