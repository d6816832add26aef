-- The proof of the cycle of calls {put_orientations}; the measure is how many orientations are to be put. Assumes nothing.
use mathlib.Core.Path.{refl}
use Prim.Native.Nat.{◌-◌}
use native.Mathlib.Omega.{arith}
use mathlib.Core.List.{[]}
use Rattle.std.specs.Prelude.{Ok, Err}
use Rattle.std.proofs.Common.{rules}
use Rattle.kind_writer.proofs.KindLaws.{orientations-none, orientations_on, orientations-bad}
use Rattle.kind_writer.proofs.+put_orientations.Goals as goal

pub returns-then-n-eq0 : goal.returns-then-n-eq0
returns-then-n-eq0 t c = orientations-none _ _ _ _ _ c.requires.sound c.if-n-eq0.true

pub returns-in_err-v : goal.returns-in_err-v
returns-in_err-v t c =
    search (
      rules,
      orientations-bad c.args.counts.now c.args.coordinates.now c.args.w c.args.out.now c.put_orientation.new.out [] c.args.n (c.args.n - 1) (Err _) _
          (omega arith) c.in_err-v.ensures refl,
    )

pub returns : goal.returns
returns t c = orientations_on _ _ _ _ _ _ _ _ _ (Ok _) _ (omega arith) c.in_ok-v.ensures refl c.put_orientations.ensures
