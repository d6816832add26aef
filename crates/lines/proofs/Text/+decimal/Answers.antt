-- The proof of the cycle of calls {decimal}; the measure is the count. Assumes nothing.
use native.Mathlib.Omega.{arith}
use Rattle.lines.proofs.Appending.{put-both, put-same}
use Rattle.lines.proofs.Digits.{decimal-one, decimal-small, decimal_longer, decimal_large}
use Rattle.lines.proofs.Text.+decimal.Goals as goal

pub byte-requires : goal.byte-requires
byte-requires t c = omega (arith, c.requires, decimal-one c.args.n c.if-n-lt10.true)

pub decimal-requires : goal.decimal-requires
decimal-requires t c = let e = decimal_longer c.args.n c.ranges.n.fits c.if-n-lt10.false in
    (omega arith, omega (arith, c.requires))

pub byte-requires-else-n-lt10 : goal.byte-requires-else-n-lt10
byte-requires-else-n-lt10 t c = let w = c.decimal.ensures.wrote in
    omega (arith, c.requires, decimal_longer c.args.n c.ranges.n.fits c.if-n-lt10.false)

pub returns-then-n-lt10 : goal.returns-then-n-lt10
returns-then-n-lt10 t c = put-same (decimal-small c.args.n c.if-n-lt10.true) c.byte.ensures

pub returns-else-n-lt10 : goal.returns-else-n-lt10
returns-else-n-lt10 t c =
    put-same (decimal_large c.args.n c.ranges.n.fits c.if-n-lt10.false) (put-both c.decimal.ensures c.byte-else-n-lt10.ensures)
