-- `text::look_lines` meets its contract: the lines before k are written. Assumes nothing.
use native.Mathlib.Omega.{arith}
use Prim.Native.Nat.{◌+◌, ◌*◌}
use lib.ListN.{get_or}
use Rattle.text.specs.inner.Tables.{looks_of}
use Rattle.text.proofs.ByKind.{lines_none, lines_next, lines_end, looks-most}
use Rattle.text.proofs.look_lines.Goals as goal

pub loop-k-init : goal.loop-k-init
loop-k-init c = let a = c.args in lines_none (λ k. looks_of a.look_counts.now k (get_or a.rows.now (4 * k + 3) 0)) a.out.now

pub looks_of-requires : goal.looks_of-requires
looks_of-requires c = let a = c.args in
    let l = c.loop-k in
    let w = l.invariant.wrote in
    let t = c.requires.3 l.k c.loop-k-test.true in
    let m = looks-most a.rows.now a.look_counts.now l.k (λ k h. c.requires.3 k (omega arith)) in
    (omega (arith, c.requires.0, w.next, w.long, m, t), omega (arith, c.requires.2, t))

pub loop-k-preserved : goal.loop-k-preserved
loop-k-preserved c = let a = c.args in let l = c.loop-k in lines_next (λ k. looks_of a.look_counts.now k (get_or a.rows.now (4 * k + 3) 0)) l.k l.invariant (c.looks_of.ensures)

pub returns : goal.returns
returns c = let a = c.args in let l = c.loop-k in lines_end (λ k. looks_of a.look_counts.now k (get_or a.rows.now (4 * k + 3) 0)) l.k a.kinds (omega arith) l.invariant
