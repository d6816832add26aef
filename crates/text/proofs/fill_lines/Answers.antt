-- `text::fill_lines` meets its contract: the lines before k are written. Assumes nothing.
use native.Mathlib.Omega.{arith}
use mathlib.Core.Path.{ap}
use mathlib.Core.Bool.{Bool}
use lib.ListN.{get_or}
use Rattle.nesting.specs.Text.{fill_line}
use Rattle.lines.proofs.Appending.{put-same}
use Rattle.text.specs.inner.Tables.{fill_at}
use Rattle.text.proofs.ByKind.{lines_none, lines_next, lines_end, fills-most}
use Rattle.text.proofs.fill_lines.Goals as goal

pub loop-k-init : goal.loop-k-init
loop-k-init c = let a = c.args in lines_none (λ k. fill_line k (fill_at a.rows.now k) (get_or a.placed.now k 0)) a.out.now

pub fill_line-requires : goal.fill_line-requires
fill_line-requires c = let a = c.args in
    let l = c.loop-k in
    let w = l.invariant.wrote in
    omega (arith, c.requires.0, w.next, w.long, fills-most a.rows.now a.placed.now l.k)

pub loop-k-preserved : goal.loop-k-preserved
loop-k-preserved c = let a = c.args in let l = c.loop-k in lines_next (λ k. fill_line k (fill_at a.rows.now k) (get_or a.placed.now k 0)) l.k l.invariant (put-same (ap (λ (b : Bool). fill_line l.k b (get_or a.placed.now l.k 0)) c.is_fill.ensures) c.fill_line.ensures)

pub returns : goal.returns
returns c = let a = c.args in let l = c.loop-k in lines_end (λ k. fill_line k (fill_at a.rows.now k) (get_or a.placed.now k 0)) l.k a.kinds (omega arith) l.invariant
