-- `withdraw::withdraw_copy::strips_before` meets its contract. Assumes nothing.
use native.Mathlib.Nat.{le_of_eq}
use Prim.Native.Nat.{ℕ, ◌≤◌}
use mathlib.Core.Path.{sym, subst⁻¹}
use Rattle.withdraw.proofs.withdraw_copy.strips_before.Goals as goal

pub strips_to-requires : goal.strips_to-requires
strips_to-requires c = let s = c.args.state in
    let g = c.well_formed.0.1.1 in
    let l = g.1.1.1.1.1.1.0.1.1 in
    let p = c.requires in (
      le_of_eq (sym g.0.1.1.1.1.1.1.1.0.1.0.1),
      subst⁻¹ (λ (m : ℕ). c.args.place ≤ m) g.1.0.1.0.1 p.0,
      subst⁻¹ (λ (m : ℕ). c.args.place ≤ m) l.0.1.0.1 p.0,
      p.1,
      p.2,
    )
