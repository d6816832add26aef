-- The proof of the cycle of calls {put_kinds}; the measure is how many kinds are to be put. Assumes nothing.
use mathlib.Core.Path.{refl}
use Prim.Native.Nat.{◌-◌}
use native.Mathlib.Omega.{arith}
use mathlib.Core.List.{[]}
use Rattle.std.specs.Prelude.{Ok, Err}
use Rattle.std.proofs.Common.{rules}
use Rattle.kind_writer.proofs.KindLaws.{kinds-none, kinds_on, kinds-bad-rest, kinds-bad, kind-some}
use Rattle.kind_writer.proofs.+put_kinds.Goals as goal

pub returns-then-n-eq0 : goal.returns-then-n-eq0
returns-then-n-eq0 t c = kinds-none _ _ _ _ _ _ _ _ c.requires.0.sound c.if-n-eq0.true

pub returns-in_err-v : goal.returns-in_err-v
returns-in_err-v t c =
    search (
      rules,
      kinds-bad c.args.rows.now c.args.areas.now c.args.counts.now c.args.coordinates.now c.args.w c.args.out.now c.put_kind.new.out [] c.args.n (c.args.n - 1)
          c.args.k _ (Err _) _ (omega arith) c.head_at-h.ensures c.in_err-v.ensures refl,
    )

pub returns-in_err-u : goal.returns-in_err-u
returns-in_err-u t c =
    search (
      rules,
      kinds-bad-rest c.args.rows.now c.args.areas.now c.args.counts.now c.args.coordinates.now c.args.w c.args.out.now c.put_kind.new.out c.put_kinds.new.out
          c.args.n (c.args.n - 1) c.args.k _ c.in_ok-v.v (Ok _) (Err _) _ (omega arith) c.head_at-h.ensures c.in_ok-v.ensures refl c.in_err-u.ensures refl,
    )

pub overflow_add-result : goal.overflow_add-result
overflow_add-result t c = omega (arith, c.in_ok-u.ensures.1, kind-some _ _ _ c.in_ok-v.ensures.0 refl)

pub returns : goal.returns
returns t c =
    kinds_on _ _ _ _ _ _ _ _ _ _ _ _ _ _ _ (Ok _) (Ok _) (omega arith) c.head_at-h.ensures c.in_ok-v.ensures refl c.in_ok-u.ensures refl
