-- `withdraw::withdraw_copy::strips_here` meets its contract. Assumes nothing.
use native.Mathlib.Nat.{le_of_eq}
use native.Mathlib.Omega.{arith}
use mathlib.Core.Path.{sym}
use Rattle.withdraw.proofs.withdraw_copy.strips_here.Goals as goal

pub strips_at-requires : goal.strips_at-requires
strips_at-requires c = let s = c.args.state in
    let g = c.well_formed.0.1.1 in
    (le_of_eq (sym g.0.1.1.1.1.1.1.1.0.1.0.1), λ o e. c.requires.1 c.args.place o (omega arith) e)
