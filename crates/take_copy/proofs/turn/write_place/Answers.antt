-- `take_copy::turn::write_place` meets its contract. Assumes nothing.
use mathlib.Core.Path.{ap}
use lib.ListN.{set}
use Rattle.take_copy.proofs.turn.write_place.Goals as goal

pub returns : goal.returns
returns c = let a = c.args in (
  ap (λ n. set a.orientation.now a.at n) (c.spot_of-spot.ensures.0 a.n c.requires.0 c.requires.1),
  ap (λ z. set a.x.now a.at z) c.spot_of-spot.ensures.1,
  ap (λ z. set a.y.now a.at z) c.spot_of-spot.ensures.2,
  ap (λ z. set a.gap.now a.at z) c.spot_of-spot.ensures.3,
)
