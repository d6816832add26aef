-- `line_at`: kind, orientation, and two doubles by their bits. Assumes nothing.
use Rattle.std.specs.Prelude.{Option, Float}
use mathlib.Core.Path.{ap₂}
use Prim.Native.Nat.{◌+◌, ◌*◌}
use lib.ListN.{get_or}
use Rattle.layouts.specs.Layouts.{line_at}
use Rattle.judge_lines.proofs.line_at.Goals as goal

pub returns : goal.returns
unfolding line_at
returns c = let a = c.args in
    let g = a.given.now in
    ap₂ (λ (x y : Option Float). record { kind = get_or g (4 * a.i) 0; orientation = get_or g (4 * a.i + 1) 0; x = x; y = y })
    c.from_bits-x.ensures c.from_bits-y.ensures
