-- `text::put_lines` meets its contract: the lines before i are written. Assumes nothing.
use native.Mathlib.Omega.{arith}
use Rattle.nesting.specs.Text.{put_line, position_at}
use Rattle.text.proofs.ByKind.{lines_none, lines_next, lines_end, puts-most}
use Rattle.text.proofs.put_lines.Goals as goal

pub loop-i-init : goal.loop-i-init
loop-i-init c = let a = c.args in lines_none (λ i. put_line (position_at a.room.now i)) a.out.now

pub put_line-requires : goal.put_line-requires
put_line-requires c = let a = c.args in
    let l = c.loop-i in
    let w = l.invariant.wrote in
    (omega (arith, c.requires.0, w.next, w.long, puts-most a.room.now l.i), omega (arith, c.requires.1))

pub loop-i-preserved : goal.loop-i-preserved
loop-i-preserved c = let a = c.args in let l = c.loop-i in lines_next (λ i. put_line (position_at a.room.now i)) l.i l.invariant (c.put_line.ensures)

pub returns : goal.returns
returns c = let a = c.args in let l = c.loop-i in lines_end (λ i. put_line (position_at a.room.now i)) l.i a.n (omega arith) l.invariant
