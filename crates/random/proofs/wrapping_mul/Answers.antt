-- `random::wrapping_mul` meets its contract. Assumes nothing.
use Rattle.random.proofs.Product.{product}
use Rattle.random.proofs.wrapping_mul.Goals as goal

pub returns : goal.returns
returns c = product c.args.a c.args.b
