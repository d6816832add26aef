-- `withdraw::withdraw_copy::state_without` meets its contract. Assumes nothing.
use native.Mathlib.Nat.{le_trans}
use native.Mathlib.Omega.{arith}
use Prim.Native.Nat.{ℕ, ◌≤◌}
use mathlib.Core.Path.{subst⁻¹}
use Rattle.withdraw.proofs.withdraw_copy.Without.{state_is}
use Rattle.withdraw.proofs.withdraw_copy.state_without.Goals as goal

pub close-requires : goal.close-requires
close-requires c = let g = c.well_formed.0.1.1 in (
  omega (arith, c.requires.0, c.requires.1),
  subst⁻¹ (λ (m : ℕ). c.args.copies ≤ m) g.1.0.1.0.1
      c.requires.2,
)

pub layout_without-layout-requires : goal.layout_without-layout-requires
layout_without-layout-requires c = (c.requires.0, le_trans c.requires.1 c.requires.2)

pub returns : goal.returns
returns c = let a = c.args in
    state_is a.state a.place a.copies a.gone a.right c.close.ensures
    c.layout_without-layout.ensures
