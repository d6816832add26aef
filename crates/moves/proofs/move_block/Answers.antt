use mathlib.Core.Path.{◌∙◌}
use native.Mathlib.Omega.{arith}
use Rattle.moves.proofs.MovedUp.{moved_join}
use Rattle.moves.proofs.move_block.Goals as goal

pub move_fours-j-requires : goal.move_fours-j-requires
move_fours-j-requires c = c.requires

pub move_ones-requires : goal.move_ones-requires
move_ones-requires c = let M = c.move_fours-j.ensures in (M.0, omega (arith, M.1, M.3.size, c.requires.1))

pub shape_of-s : goal.shape_of-s
shape_of-s c = c.move_ones.auto.s ∙ c.move_fours-j.auto.s

pub returns : goal.returns
returns c = let g = c.args in
    let M = c.move_fours-j.ensures in
    moved_join g.from c.move_fours-j.result g.to g.by g.s.now _ _ M.0 M.1 M.3 c.move_ones.ensures
