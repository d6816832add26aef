use Rattle.look.proofs.height.Passes.{lift_in, lift-above, lift-below}
use Rattle.look.proofs.height.lifted.Goals.{else-i-y-via-then-i-y+else-y-i, else-i-y-via-else-i-y}
use Rattle.look.proofs.height.lifted.Goals as goal

pub returns-then-y-i : goal.returns-then-y-i
returns-then-y-i c = lift_in c.args.y c.args.i c.if-i-y.true c.if-y-i.true

pub returns : goal.returns
returns c =
    elim c.else-i-y.branch [
      | else-i-y-via-then-i-y+else-y-i w ↦ lift-above c.args.y c.args.i w.if-y-i.false
      | else-i-y-via-else-i-y w ↦ lift-below c.args.y c.args.i w.if-i-y.false
    ]
