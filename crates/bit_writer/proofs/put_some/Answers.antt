-- `bit_writer::put_some` meets its contract. Assumes nothing.
use native.Mathlib.Omega.{arith}
use Rattle.std.proofs.Math.Facts.{Fits-of_lt}
use Rattle.bit_writer.proofs.Writing.{some_fit, held_small, put-part, put_full}
use Rattle.bit_writer.proofs.put_some.Goals as goal

pub joined-held-requires : goal.joined-held-requires
joined-held-requires c = (omega (arith, c.requires), omega (arith, c.requires.2), some_fit c.args.p c.args.k c.requires.0 c.requires.1)

pub overflow_cast-held : goal.overflow_cast-held
overflow_cast-held c = Fits-of_lt (held_small c.args.p c.args.n c.args.k c.args.e c.joined-held.result c.requires.0 c.requires.1 c.joined-held.ensures)

pub returns-then-filled-eq8 : goal.returns-then-filled-eq8
returns-then-filled-eq8 c =
    put_full c.args.out.now c.store.new.out c.args.p c.args.n c.args.k c.args.e c.joined-held.result c.requires.0 c.joined-held.ensures c.if-filled-eq8.true
    c.requires.3 c.store.ensures

pub returns : goal.returns
returns c =
    put-part c.args.out.now c.args.p c.args.n c.args.k c.args.e c.joined-held.result c.requires.0 c.joined-held.ensures c.requires.1 c.if-filled-eq8.false
