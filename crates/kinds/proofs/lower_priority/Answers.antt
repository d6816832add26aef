-- `kinds::lower_priority` meets its contract. Assumes nothing.
use Rattle.std.proofs.lemmas.Int.{of_z-to_z}
use Rattle.std.proofs.Common.{w32}
use Rattle.kinds.specs.Kinds.{signed}
use Rattle.kinds.proofs.Heads.{signed_is, lower_is}
use Rattle.kinds.proofs.lower_priority.Goals as goal

pub returns : goal.returns
returns c =
    rw (c.cast_signed.ensures, c.cast_signed-2.ensures, of_z-to_z w32 c.args.a c.requires.0, of_z-to_z w32 c.args.b c.requires.1, signed_is c.args.a, signed_is c.args.b)
    (lower_is (signed c.args.a) (signed c.args.b))
