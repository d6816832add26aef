-- `bit_writer::put` meets its contract: the bits above the lowest left ones are put. Assumes nothing.
use mathlib.Core.Path.{refl}
use Prim.Native.Nat.{◌-◌, ◌/◌, ◌^◌}
use native.Mathlib.Omega.{arith}
use borrow.Author.Rules.{rules}
use Rattle.bit_writer.proofs.Bits.{binary-length}
use Rattle.bit_writer.proofs.Writing.{bits-start, bits_on}
use Rattle.bit_writer.proofs.put.Goals as goal

pub loop-left-init : goal.loop-left-init
loop-left-init c = (search rules, c.requires.0, bits-start _ _ _ _ c.requires.0, refl)

pub loop-left-preserved : goal.loop-left-preserved
loop-left-preserved c = (
  omega (arith, c.loop-left.invariant.0),
  c.put_some-q.ensures.sound,
  bits_on _ _ _ _ _ _ _ _ _ _ c.loop-left.invariant.2 c.put_some-q.ensures c.loop-left.invariant.0 (omega (arith, c.min-k.ensures)),
  omega (
    arith,
    c.put_some-q.ensures.count,
    c.loop-left.invariant.3,
    c.min-k.ensures,
    binary-length c.min-k.result (c.args.n / 2 ^ (c.loop-left.left - c.min-k.result)),
  ),
)
