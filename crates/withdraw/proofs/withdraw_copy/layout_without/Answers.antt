-- `withdraw::withdraw_copy::layout_without` meets its contract. Assumes nothing.
use Prim.Native.Nat.{ℕ, ◌≤◌}
use mathlib.Core.Path.{subst⁻¹}
use Rattle.withdraw.proofs.withdraw_copy.Without.{layout_is}
use Rattle.withdraw.proofs.withdraw_copy.layout_without.Goals as goal

pub close-requires : goal.close-requires
close-requires c = let g = c.well_formed.0.1.1 in
    (c.requires.0, subst⁻¹ (λ (m : ℕ). c.args.taken ≤ m) g.0.1.0.1 c.requires.1)

pub close-requires-2 : goal.close-requires-2
close-requires-2 c = let g = c.well_formed.0.1.1 in
    (c.requires.0, subst⁻¹ (λ (m : ℕ). c.args.taken ≤ m) g.1.0.1.0.1 c.requires.1)

pub close-requires-3 : goal.close-requires-3
close-requires-3 c = let g = c.well_formed.0.1.1 in
    (c.requires.0, subst⁻¹ (λ (m : ℕ). c.args.taken ≤ m) g.1.1.0.1.0.1 c.requires.1)

pub close-requires-4 : goal.close-requires-4
close-requires-4 c = let g = c.well_formed.0.1.1 in
    (c.requires.0, subst⁻¹ (λ (m : ℕ). c.args.taken ≤ m) g.1.1.1.0.1.0.1 c.requires.1)

pub returns : goal.returns
unfolding lib.Ieee.of_bits
returns c = let a = c.args in
    layout_is a.layout a.place a.taken a.right c.close.ensures c.close-2.ensures
    c.close-3.ensures
    c.close-4.ensures
