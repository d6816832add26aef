-- `close_up::close_rooms` meets its contract. Assumes nothing.
use Rattle.rooms.proofs.Zeroing.{zeroed}
use mathlib.Core.Path.{refl}
use native.Mathlib.Omega.{arith}
use Prim.Native.Nat.{◌-◌, ◌*◌}
use lib.Seq.{length-take-le}
use Rattle.index.proofs.NewIndex.{none-laid}
use Rattle.close_up.proofs.Left.{zeros_at, left-entries, left_firsts}
use Rattle.close_up.proofs.close_rooms.Goals as goal

pub enter_copy-requires : goal.enter_copy-requires
enter_copy-requires c = let k = length-take-le (6 * (c.args.n - c.args.k)) c.close_strips.new.placed (omega (arith, c.requires.1, c.close_strips.auto.placed)) in (
  omega arith,
  omega (arith, k),
  refl,
  none-laid _ _ _ _ refl (zeros_at 0 513),
  omega (arith, c.requires.2),
  omega (arith, c.requires.3, c.fill-2.auto.self),
)

pub returns : goal.returns
returns c = (
  c.close_strips.ensures,
  left-entries c.args.ix c.args.placed.now c.args.a c.args.k c.args.n c.args.entries.now c.args.firsts.now
      c.requires.0 c.requires.1
      c.requires.3 c.requires.4 c.close_strips.new.placed c.close_strips.ensures c.fill.new.self _
      c.enter_copy.new.entries c.enter_copy.new.starts (zeroed _ c.fill.ensures.after) c.enter_copy.result
      c.enter_copy.ensures.0,
  left_firsts c.args.ix c.args.placed.now c.args.a c.args.k c.args.n c.args.entries.now c.args.firsts.now
      c.requires.0 c.requires.1
      c.requires.3 c.requires.4 c.close_strips.new.placed c.close_strips.ensures c.fill.new.self _
      c.enter_copy.new.entries c.enter_copy.new.starts (zeroed _ c.fill.ensures.after) c.enter_copy.result
      c.enter_copy.ensures.0
      c.fill-2.new.self c.enter_copy.new.firsts (zeroed _ c.fill-2.ensures.after)
      c.enter_copy.auto.firsts c.enter_copy.ensures.2,
)
