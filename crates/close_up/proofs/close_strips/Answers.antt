-- `close_up::close_strips` meets its contract. Assumes nothing.
use mathlib.Core.Path.{ap, ◌∙◌}
use native.Mathlib.Omega.{arith}
use Prim.Native.Nat.{◌-◌, ◌*◌}
use lib.ListN.{take}
use Rattle.rooms.proofs.Zeroing.{zeroed-doubles}
use Rattle.close_up.proofs.Moving.{moved}
use Rattle.close_up.proofs.Cleared.{cleared}
use Rattle.close_up.proofs.close_strips.Goals as goal

pub returns : goal.returns
returns c = let a = c.args in
    let p = c.requires in
    let m = c.copy_within in
    cleared a.placed.now m.new.self c.fill.new.self a.a a.k a.n _ p.0 p.1 (omega (arith, p.0, p.1, m.ensures.len)) m.ensures.len
    (ap (take (6 * a.n - 6 * a.k)) m.ensures.after ∙ moved a.placed.now (6 * a.a) (6 * a.k) (6 * a.n) (omega (arith, p.0)) p.1)
    (zeroed-doubles _ c.fill.ensures.after)
