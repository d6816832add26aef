-- `text::looks_of` meets its contract: the lines before o are written. Assumes nothing.
use native.Mathlib.Omega.{arith}
use Rattle.text.specs.inner.Tables.{look_at}
use Rattle.text.proofs.ByKind.{lines_none, lines_next, lines_end, looks-of-most}
use Rattle.text.proofs.looks_of.Goals as goal

pub loop-o-init : goal.loop-o-init
loop-o-init c = let a = c.args in lines_none (look_at a.look_counts.now a.k) a.out.now

pub line-requires : goal.line-requires
line-requires c = let a = c.args in
    let l = c.loop-o in
    let w = l.invariant.wrote in
    omega (arith, c.requires.0, w.next, w.long, looks-of-most a.look_counts.now a.k l.o)

pub loop-o-preserved : goal.loop-o-preserved
unfolding look_at
loop-o-preserved c = let a = c.args in let l = c.loop-o in lines_next (look_at a.look_counts.now a.k) l.o l.invariant (c.line.ensures)

pub returns : goal.returns
returns c = let a = c.args in let l = c.loop-o in lines_end (look_at a.look_counts.now a.k) l.o a.n (omega arith) l.invariant
