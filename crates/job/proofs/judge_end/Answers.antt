-- `job::judge_end` meets its contract. Assumes nothing.
use mathlib.Core.Path.{sym, ◌∙◌}
use lib.Ieee.{of_int, of_bits}
use Rattle.job.proofs.Whole.{end-bits, end-copies, end-columns, end-passed}
use Rattle.job.proofs.judge_end.Goals as goal

pub returns-then-not-fills_last_byte : goal.returns-then-not-fills_last_byte
returns-then-not-fills_last_byte c = end-bits c.args.bytes.now c.args.p c.args.copies c.args.width c.args.resolution (sym c.fills_last_byte.ensures ∙ c.if-not-fills_last_byte.true)

pub returns-then-copies-gt4096 : goal.returns-then-copies-gt4096
returns-then-copies-gt4096 c = end-copies c.args.bytes.now c.args.p c.args.copies c.args.width c.args.resolution (sym c.fills_last_byte.ensures ∙ c.if-not-fills_last_byte.false) c.if-copies-gt4096.true

pub returns-then-width-resolution : goal.returns-then-width-resolution
unfolding of_int of_bits
returns-then-width-resolution c = end-columns c.args.bytes.now c.args.p c.args.copies c.args.width c.args.resolution (sym c.fills_last_byte.ensures ∙ c.if-not-fills_last_byte.false) c.if-copies-gt4096.false c.if-width-resolution.true

pub returns : goal.returns
unfolding of_int of_bits
returns c = end-passed c.args.bytes.now c.args.p c.args.copies c.args.width c.args.resolution (sym c.fills_last_byte.ensures ∙ c.if-not-fills_last_byte.false) c.if-copies-gt4096.false c.if-width-resolution.false
