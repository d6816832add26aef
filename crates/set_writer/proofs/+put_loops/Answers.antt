-- The proof of the cycle of calls {put_loops}; the measure is how many loops are to be put. Assumes nothing.
use mathlib.Core.Path.{refl}
use Prim.Native.Nat.{◌-◌, ◌*◌}
use native.Mathlib.Omega.{arith}
use mathlib.Core.List.{[]}
use Rattle.std.specs.Prelude.{Ok, Err}
use Rattle.std.proofs.Common.{rules}
use Rattle.bit_writer.proofs.Bits.{binary-length}
use Rattle.set_writer.proofs.Walking.{ready-next, ready-count}
use Rattle.set_writer.proofs.Loops.{loops_none, loops_on, loops_bad-points, loops_bad, points-few}
use Rattle.set_writer.proofs.+put_loops.Goals as goal

pub returns-then-n-eq0 : goal.returns-then-n-eq0
returns-then-n-eq0 t c = loops_none _ _ _ _ _ _ c.requires.0.sound c.if-n-eq0.true

pub returns-in_err-m : goal.returns-in_err-m
returns-in_err-m t c =
    search (
      rules,
      loops_bad c.args.counts.now c.args.coordinates.now c.args.w c.args.out.now [] [] c.args.n (c.args.n - 1) c.args.before _ 0 _ c.args.w.writer _
          (omega arith) c.value_at.ensures c.judge_points.ensures c.in_err-m.was,
    )

pub put_points-requires : goal.put_points-requires
put_points-requires t c =
    let n = c.args.n in
    let few = points-few _ _ _ _ c.requires.1 c.judge_points.ensures c.in_ok-m.was in
    ready-count c.args.w n (1024 * n) (65546 * n) 0 (2 * c.in_ok-m.m) (128 * c.in_ok-m.m) c.requires.0 c.put-writer.ensures
    (omega arith) (omega (arith, few)) (omega (arith, few, binary-length 10 c.in_ok-m.m))

pub returns-in_err-v : goal.returns-in_err-v
returns-in_err-v t c =
    search (
      rules,
      loops_bad-points c.args.counts.now c.args.coordinates.now c.args.w c.args.out.now c.put-writer.new.out c.put_points.new.out c.args.n (c.args.n - 1)
          c.args.before _ _ _ c.put-writer.result (Err _) _ (omega arith) c.value_at.ensures c.judge_points.ensures c.in_ok-m.was
          c.put-writer.ensures c.in_err-v.ensures refl,
    )

pub overflow_add-before : goal.overflow_add-before
overflow_add-before t c = omega (arith, points-few _ _ _ _ c.requires.1 c.judge_points.ensures c.in_ok-m.was)

pub put_loops-requires : goal.put_loops-requires
put_loops-requires t c =
    let n = c.args.n in
    let few = points-few _ _ _ _ c.requires.1 c.judge_points.ensures c.in_ok-m.was in (
      omega arith,
      (
        ready-next _ _ _ _ 0 (2 * c.in_ok-m.m) (128 * c.in_ok-m.m)
            (ready-count c.args.w n (1024 * n) (65546 * n) (n - 1) (1024 * n) (65546 * n - 10) c.requires.0 c.put-writer.ensures
            (omega arith) (omega arith) (omega (arith, few, binary-length 10 c.in_ok-m.m)))
            (c.in_ok-v.ensures.0 []) c.in_ok-v.ensures.1 refl (n - 1) (1024 * (n - 1)) (65546 * (n - 1))
            (omega arith) (omega (arith, few)) (omega (arith, few)),
        few,
      ),
    )

pub returns : goal.returns
returns t c =
    loops_on _ _ _ _ _ _ _ _ _ _ _ _ _ _ (Ok _) _ _ (omega arith) c.requires.1 c.value_at.ensures c.judge_points.ensures
    c.in_ok-m.was c.put-writer.ensures c.in_ok-v.ensures refl c.put_loops.ensures
