-- `write_job::put_front` meets its contract. Assumes nothing.
use mathlib.Core.Path.{◌∙◌}
use native.Mathlib.Omega.{arith}
use mathlib.Core.List.{[]}
use lib.Dec.{lit≤}
use lib.Ieee.{of_int, of_bits, div}
use Rattle.std.proofs.Common.{rules}
use Rattle.bit_writer.proofs.Bits.{binary-length}
use Rattle.write_job.proofs.HeaderLaws.{front-not-1, front-not-2, front-not-3, front-put}
use Rattle.write_job.proofs.put_front.Goals as goal

pub returns-in_err-kinds : goal.returns-in_err-kinds
returns-in_err-kinds c = search (rules, front-not-1 c.args.h c.args.w c.args.out.now [] [] [] [] _ _ c.judge_count.ensures c.in_err-kinds.was)

pub put-p-requires-2 : goal.put-p-requires-2
put-p-requires-2 c = (
  c.put-p.ensures.sound,
  lit≤ tt,
  omega (arith, c.requires.bits, c.put-p.ensures.count, binary-length 7 c.in_ok-kinds.kinds),
)

pub put-p-requires-3 : goal.put-p-requires-3
put-p-requires-3 c = (
  c.put-p-2.ensures.sound,
  lit≤ tt,
  omega (arith, c.requires.bits, c.put-p.ensures.count, binary-length 7 c.in_ok-kinds.kinds, c.put-p-2.ensures.count, binary-length 12 c.args.h.rounds),
)

pub put-writer-requires : goal.put-writer-requires
put-writer-requires c = (
  c.put-p-3.ensures.sound,
  lit≤ tt,
  omega (arith, c.requires.bits, c.put-p.ensures.count, binary-length 7 c.in_ok-kinds.kinds, c.put-p-2.ensures.count, binary-length 12 c.args.h.rounds, c.put-p-3.ensures.count, binary-length 64 c.args.h.seed),
)

pub returns-then-h-ge4096 : goal.returns-then-h-ge4096
returns-then-h-ge4096 c =
    front-not-2 _ _ _ _ [] [] [] _ _ c.judge_count.ensures c.in_ok-kinds.was c.if-h-ge4096.true c.put-p.ensures.long

pub returns-in_err-resolution : goal.returns-in_err-resolution
unfolding of_int of_bits div
returns-in_err-resolution c =
    search (
      rules,
      front-not-3 c.args.h c.args.w c.args.out.now [] [] c.put-p-3.new.out [] _ _ _ _ _ c.judge_count.ensures c.in_ok-kinds.was
          c.if-h-ge4096.false (omega arith) c.bits_of.ensures c.judge_number.ensures c.in_err-resolution.was
          (c.put-p-3.ensures.long ∙ c.put-p-2.ensures.long ∙ c.put-p.ensures.long),
    )

pub returns : goal.returns
unfolding of_int of_bits div
returns c =
    front-put _ _ _ _ _ _ _ _ _ _ _ _ _ _ _ _ _ c.judge_count.ensures c.in_ok-kinds.was c.if-h-ge4096.false (omega arith)
    c.bits_of.ensures c.judge_number.ensures c.in_ok-resolution.was c.bits_of-2.ensures
    c.put-p.ensures c.put-p-2.ensures c.put-p-3.ensures c.put-writer.ensures
