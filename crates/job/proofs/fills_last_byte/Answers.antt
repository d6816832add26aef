-- `job::fills_last_byte` meets its contract. Assumes nothing.
use Rattle.job.proofs.Whole.{ended_more, ended_less, ended_same, ended_never}
use Rattle.job.proofs.fills_last_byte.Goals as goal

pub returns-then-k-bytes : goal.returns-then-k-bytes
returns-then-k-bytes c = ended_more c.args.bytes.now c.args.p c.if-k-bytes.true

pub returns-then-bytes-k : goal.returns-then-bytes-k
returns-then-bytes-k c = ended_less c.args.bytes.now c.args.p c.if-bytes-k.true

pub returns-in-Ok : goal.returns-in-Ok
returns-in-Ok c = ended_same c.args.bytes.now c.args.p c.if-bytes-k.false c.if-k-bytes.false c.in-Ok.ensures

pub returns-in-Err : goal.returns-in-Err
returns-in-Err c = ended_never c.args.bytes.now c.args.p c.if-bytes-k.false c.if-k-bytes.false c.in-Err.ensures
