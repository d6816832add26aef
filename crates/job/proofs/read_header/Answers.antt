-- `job::read_header` meets its contract. Assumes nothing.
use Rattle.std.proofs.Common.{arith, rules}
use Rattle.job.proofs.Headers.{header-end, header-one, header_two, header-other}
use Rattle.job.proofs.read_header.Goals as goal

pub returns-in_err-version : goal.returns-in_err-version
returns-in_err-version c = search (rules, header-end c.args.bytes.now c.in_err-version.ensures)

pub returns-in-1 : goal.returns-in-1
returns-in-1 c = (header-one c.args.bytes.now c.in_ok-version.ensures c.in-1.is c.read_front.ensures.0, c.read_front.ensures.1)

pub returns-in-2 : goal.returns-in-2
returns-in-2 c = (header_two c.args.bytes.now c.in_ok-version.ensures c.in-2.is c.read_framed.ensures.0, c.read_framed.ensures.1)

pub returns-in_default : goal.returns-in_default
returns-in_default c = (header-other c.args.bytes.now c.in_ok-version.ensures (λ e. omega arith) (λ e. omega arith), tt)
