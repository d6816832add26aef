-- `close_up::close` meets its contract. Assumes nothing.
use mathlib.Core.Path.{ap, ◌∙◌}
use mathlib.Core.List.{List}
use Prim.Native.Nat.{◌-◌}
use lib.ListN.{set}
use Rattle.close_up.proofs.Moving.{closed}
use Rattle.close_up.proofs.close.Goals as goal

pub returns : goal.returns
returns g c = let a = c.args in
    ap (λ (z : List g.row.T.Denot). set z (a.m - 1) a.v) c.copy_within.ensures.after ∙ closed a.xs.now a.v a.n a.m c.requires.0 c.requires.1
