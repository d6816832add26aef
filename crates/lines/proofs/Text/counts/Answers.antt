-- `lines::Text::counts` meets its contract: the fields before n are written. Assumes nothing.
use native.Mathlib.Omega.{arith}
use mathlib.Core.List.{flat_map}
use lib.ListN.{get_or}
use Rattle.nesting.specs.Text.{decimal}
use Rattle.lines.specs.inner.Writing.{fields}
use Rattle.lines.proofs.Appending.{put_none}
use Rattle.lines.proofs.Digits.{decimal-length}
use Rattle.lines.proofs.Lines.{put-field, put-fields}
use Rattle.lines.proofs.Text.counts.Goals as goal

pub loop-n-init : goal.loop-n-init
unfolding fields flat_map
loop-n-init c = record { put = put_none c.args.self.now; most = omega arith }

pub decimal-requires : goal.decimal-requires
decimal-requires c = let l = c.loop-n in
    let p = l.invariant.put.wrote in
    let a = c.byte.ensures.wrote in
    omega (arith, c.requires, l.invariant.most, p.long, a.long, a.next, decimal-length (get_or c.args.counts.now l.n-index 0))

pub loop-n-preserved : goal.loop-n-preserved
loop-n-preserved c = let l = c.loop-n in
    let a = c.byte.ensures in
    let b = c.decimal.ensures in
    record {
      put = put-field decimal 0 c.args.counts.now l.n-index (omega arith) l.invariant.put a b;
      most = omega (arith, l.invariant.most, a.wrote.next, b.wrote.next, decimal-length (get_or c.args.counts.now l.n-index 0));
    }

pub returns : goal.returns
returns c = put-fields decimal 0 c.args.counts.now c.loop-n.n-index (omega arith) c.loop-n.invariant.put
