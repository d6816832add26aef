-- `index::push` meets its contract. Assumes nothing.
use mathlib.Core.Path.{sym}
use Rattle.index.proofs.Steps.{push-true, push-false}
use borrow.Author.Tests.{lt-ltb, le-ltb}
use Rattle.index.proofs.push.Goals as goal

pub returns-then-n-cap : goal.returns-then-n-cap
returns-then-n-cap c = sym (push-true c.args.room.now c.args.n c.args.i (lt-ltb _ _ c.if-n-cap.true))

pub returns : goal.returns
returns c = sym (push-false c.args.room.now c.args.n c.args.i (le-ltb _ _ c.if-n-cap.false))
