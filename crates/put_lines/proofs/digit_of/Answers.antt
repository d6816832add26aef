-- `put_lines::digit_of` meets its contract. Assumes nothing.
use native.Mathlib.Omega.{arith}
use Rattle.put_lines.proofs.Numerals.{digit_before, digit_decimal, digit_between, digit_letter, digit_behind}
use Rattle.put_lines.proofs.digit_of.Goals as goal

pub returns-in-48-to-57 : goal.returns-in-48-to-57
returns-in-48-to-57 c = digit_decimal c.args.b (omega arith) (omega arith)

pub returns-in-97-to-102 : goal.returns-in-97-to-102
returns-in-97-to-102 c = digit_letter c.args.b (omega arith) (omega arith) (omega arith) (omega arith)

pub returns-in_default : goal.returns-in_default
returns-in_default c = digit_before c.args.b (omega arith)

pub returns-in_default-2 : goal.returns-in_default-2
returns-in_default-2 c = digit_between c.args.b (omega arith) (omega arith) (omega arith)

pub returns-in_default-3 : goal.returns-in_default-3
returns-in_default-3 c = digit_behind c.args.b (omega arith) (omega arith) (omega arith) (omega arith)
