-- `set_writer::put_set` meets its contract. Assumes nothing.
use Prim.Native.Nat.{◌*◌}
use native.Mathlib.Omega.{arith}
use Rattle.std.proofs.Common.{rules}
use Rattle.bit_writer.proofs.Bits.{binary-length}
use Rattle.set_writer.proofs.Walking.{ready-count}
use Rattle.set_writer.proofs.Loops.{set_on, set-bad, count-few}
use Rattle.set_writer.proofs.put_set.Goals as goal

pub returns-in_err-n : goal.returns-in_err-n
returns-in_err-n c = search (rules, set-bad c.args.counts.now c.args.coordinates.now c.args.w c.args.out.now _ _ _ c.value_at.ensures c.judge_count.ensures c.in_err-n.was)

pub put_loops-requires : goal.put_loops-requires
put_loops-requires c =
    let few = count-few 1 64 _ _ _ c.judge_count.ensures c.in_ok-n.was in (
      ready-count c.args.w 65 65536 4194951 c.in_ok-n.n (1024 * c.in_ok-n.n) (65546 * c.in_ok-n.n) c.requires c.put-writer.ensures
          (omega (arith, few)) (omega (arith, few)) (omega (arith, few, binary-length 7 c.in_ok-n.n)),
      omega arith,
    )

pub returns : goal.returns
returns c = set_on _ _ _ _ _ _ _ _ _ _ _ c.value_at.ensures c.judge_count.ensures c.in_ok-n.was c.put-writer.ensures c.put_loops.ensures
