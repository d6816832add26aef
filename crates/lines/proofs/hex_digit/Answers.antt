-- `lines::hex_digit` meets its contract. Assumes nothing.
use Rattle.lines.proofs.Digits.{hex-small, hex_large}
use Rattle.lines.proofs.hex_digit.Goals as goal

pub returns-then-d-lt10 : goal.returns-then-d-lt10
returns-then-d-lt10 c = hex-small c.args.d c.if-d-lt10.true

pub returns : goal.returns
returns c = hex_large c.args.d c.if-d-lt10.false
