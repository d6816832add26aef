-- `moves::move_far` meets its contract. Assumes nothing.
use native.Mathlib.Omega.{arith}
use Rattle.moves.proofs.MovedUp.{moved_join}
use Rattle.moves.proofs.move_far.Goals as goal

pub returns : goal.returns
returns c = let g = c.args in
    let E = c.move_eights-j in
    let M = E.ensures in
    moved_join g.from E.result g.to g.by g.s.now _ _ (omega (arith, M.0)) M.1 M.2 c.move_long.ensures
