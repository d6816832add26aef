use mathlib.Core.Path.{◌≡◌}
use Prim.Native.Nat.{◌+◌, ◌-◌, ◌/◌, ◌^◌, ◌≤◌}
use Rattle.bit_writer.specs.Packed.{binary}
use Rattle.bit_writer.specs.inner.BitWriting.{Sound, written, Put}
use Rattle.bit_writer.proofs.put.Given as goal

abbrev pub invariant-loop-left : goal.invariant-loop-left
invariant-loop-left l = (l.left ≤ l.w) × Sound l.q × Put l.initial.out l.initial.q (binary (l.w - l.left) (l.n / 2 ^ l.left)) l.out l.q × (written l.q + l.left ≡ written l.initial.q + l.w)

abbrev pub decreases-loop-left : goal.decreases-loop-left
decreases-loop-left l = l.left
