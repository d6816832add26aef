-- `kind_writer::put_head` meets its contract. Assumes nothing.
use mathlib.Core.Path.{◌∙◌}
use mathlib.Core.List.{[]}
use native.Mathlib.Omega.{arith}
use lib.Dec.{lit≤}
use lib.Ieee.{of_int, of_bits}
use Rattle.std.proofs.Common.{rules}
use Rattle.bit_writer.proofs.Bits.{binary-length}
use Rattle.kind_writer.proofs.HeadLaws.{head-not-1, head-not-2, head-not-3, head-not-4, head-not-5, head-put}
use Rattle.kind_writer.proofs.put_head.Goals as goal

pub returns-in_err-quantity : goal.returns-in_err-quantity
returns-in_err-quantity c =
    search (rules, head-not-1 c.args.h c.args.w c.args.out.now [] [] [] [] [] _ _ c.judge_count.ensures c.in_err-quantity.was)

pub put-p-requires-2 : goal.put-p-requires-2
put-p-requires-2 c = (
  c.put-p.ensures.sound,
  lit≤ tt,
  omega (arith, c.requires.bits, c.put-p.ensures.count, binary-length 12 c.in_ok-quantity.quantity),
)

pub put-p-requires-3 : goal.put-p-requires-3
put-p-requires-3 c = (
  c.put-p-2.ensures.sound,
  lit≤ tt,
  omega (arith, c.requires.bits, c.put-p.ensures.count, binary-length 12 c.in_ok-quantity.quantity, c.put-p-2.ensures.count, binary-length 1 c.args.h.fill),
)

pub put-p-requires-4 : goal.put-p-requires-4
put-p-requires-4 c = (
  c.put-p-3.ensures.sound,
  lit≤ tt,
  omega (arith, c.requires.bits, c.put-p.ensures.count, binary-length 12 c.in_ok-quantity.quantity, c.put-p-2.ensures.count, binary-length 1 c.args.h.fill, c.put-p-3.ensures.count, binary-length 32 c.args.h.priority),
)

pub put-writer-requires : goal.put-writer-requires
put-writer-requires c = (
  c.put-p-4.ensures.sound,
  lit≤ tt,
  omega (arith, c.requires.bits, c.put-p.ensures.count, binary-length 12 c.in_ok-quantity.quantity, c.put-p-2.ensures.count, binary-length 1 c.args.h.fill, c.put-p-3.ensures.count, binary-length 32 c.args.h.priority, c.put-p-4.ensures.count, binary-length 64 c.bits_of-2.result),
)

pub returns-then-h-ge2 : goal.returns-then-h-ge2
returns-then-h-ge2 c =
    head-not-2 _ _ _ _ [] [] [] [] _ _ c.judge_count.ensures c.in_ok-quantity.was c.if-h-ge2.true c.put-p.ensures.long

pub returns-then-h-ge4294967296 : goal.returns-then-h-ge4294967296
returns-then-h-ge4294967296 c =
    head-not-3 _ _ _ [] _ [] [] [] _ _ c.judge_count.ensures c.in_ok-quantity.was c.if-h-ge2.false c.if-h-ge4294967296.true
    (c.put-p-2.ensures.long ∙ c.put-p.ensures.long)

pub returns-in_err-area : goal.returns-in_err-area
unfolding of_int of_bits
returns-in_err-area c =
    search (
      rules,
      head-not-4 c.args.h c.args.w c.args.out.now [] [] c.put-p-3.new.out [] [] _ _ _ _ _ c.judge_count.ensures c.in_ok-quantity.was
          c.if-h-ge2.false c.if-h-ge4294967296.false c.bits_of.ensures c.judge_number.ensures c.in_err-area.was
          (c.put-p-3.ensures.long ∙ c.put-p-2.ensures.long ∙ c.put-p.ensures.long),
    )

pub returns-in_err-orientations : goal.returns-in_err-orientations
unfolding of_int of_bits
returns-in_err-orientations c =
    search (
      rules,
      head-not-5 c.args.h c.args.w c.args.out.now [] [] [] c.put-p-4.new.out [] _ _ _ _ _ _ _ c.judge_count.ensures c.in_ok-quantity.was
          c.if-h-ge2.false c.if-h-ge4294967296.false c.bits_of.ensures c.judge_number.ensures c.in_ok-area.was c.judge_count-2.ensures c.in_err-orientations.was
          (c.put-p-4.ensures.long ∙ c.put-p-3.ensures.long ∙ c.put-p-2.ensures.long ∙ c.put-p.ensures.long),
    )

pub returns : goal.returns
unfolding of_int of_bits
returns c =
    head-put _ _ _ _ _ _ _ _ _ _ _ _ _ _ _ _ _ _ _ _ _ c.judge_count.ensures c.in_ok-quantity.was c.if-h-ge2.false c.if-h-ge4294967296.false
    c.bits_of.ensures c.judge_number.ensures c.in_ok-area.was c.judge_count-2.ensures c.in_ok-orientations.was c.bits_of-2.ensures
    c.put-p.ensures c.put-p-2.ensures c.put-p-3.ensures c.put-p-4.ensures c.put-writer.ensures
