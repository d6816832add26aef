-- `bit_writer::new_writer` meets its contract. Assumes nothing.
use mathlib.Core.Path.{refl}
use native.Mathlib.Omega.{arith}
use lib.Dec.{lit<, lit≤}
use Rattle.bit_writer.specs.Packed.{number_at}
use Rattle.bit_writer.proofs.new_writer.Goals as goal

pub returns : goal.returns
unfolding number_at
returns c = (
  record { part = lit< tt; small = lit< tt; few = lit≤ tt },
  refl,
  λ out. record
      { number = refl; held = refl; laid = λ k h l. absurd (omega arith) },
)
