-- `lines::Text::doubles` meets its contract: the fields before x are written. Assumes nothing.
use native.Mathlib.Omega.{arith}
use mathlib.Core.Path.{ap}
use mathlib.Core.List.{flat_map}
use lib.ListN.{get_or}
use Rattle.std.specs.Float.{nan}
use Rattle.nesting.specs.Text.{hex_up_to, hex}
use Rattle.lines.specs.inner.Writing.{fields}
use Rattle.lines.proofs.Appending.{put_none, put-same}
use Rattle.lines.proofs.Digits.{hex-length}
use Rattle.lines.proofs.Lines.{put-field, put-fields}
use Rattle.lines.proofs.Text.doubles.Goals as goal

pub loop-x-init : goal.loop-x-init
unfolding fields flat_map
loop-x-init c = record { put = put_none c.args.self.now; most = omega arith }

pub loop-x-preserved : goal.loop-x-preserved
unfolding hex
loop-x-preserved c = let l = c.loop-x in
    let a = c.byte.ensures in
    let b = put-same (ap (hex_up_to 16) c.bits_of.ensures) c.hex.ensures in
    record {
      put = put-field hex nan c.args.doubles.now l.x-index (omega arith) l.invariant.put a b;
      most = omega (arith, l.invariant.most, a.wrote.next, b.wrote.next, hex-length (get_or c.args.doubles.now l.x-index nan));
    }

pub returns : goal.returns
returns c = put-fields hex nan c.args.doubles.now c.loop-x.x-index (omega arith) c.loop-x.invariant.put
