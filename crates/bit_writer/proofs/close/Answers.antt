-- `bit_writer::close` meets its contract. Assumes nothing.
use native.Mathlib.Nat.{mod-eq_of_lt, lt_of_lt_of_le}
use lib.Dec.{lit≤}
use Rattle.std.proofs.Math.Facts.{Fits-of_lt}
use Rattle.bit_writer.proofs.Writing.{close_whole, close_part, closed_fits}
use Rattle.bit_writer.proofs.close.Goals as goal

pub returns-then-p-eq0 : goal.returns-then-p-eq0
returns-then-p-eq0 c = λ bits W. close_whole _ bits _ c.if-p-eq0.true W

pub overflow_cast-last : goal.overflow_cast-last
overflow_cast-last c = rw (mod-eq_of_lt (lt_of_lt_of_le (closed_fits _ c.requires) (lit≤ tt))) (Fits-of_lt (closed_fits _ c.requires))

pub returns : goal.returns
returns c =
    λ bits W. close_part _ _ bits _ _ c.requires c.if-p-eq0.false (mod-eq_of_lt (lt_of_lt_of_le (closed_fits _ c.requires) (lit≤ tt))) c.store.ensures W
