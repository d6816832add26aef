-- `withdraw::withdraw_copy::right_found` meets its contract. Assumes nothing.
use native.Mathlib.Nat.{le_of_eq}
use native.Mathlib.Omega.{arith}
use Prim.Native.Nat.{ℕ, ◌+◌, ◌-◌, ◌≤◌}
use mathlib.Core.Path.{sym, ap, subst⁻¹, ◌∙◌}
use lib.Ieee.{Float}
use Rattle.withdraw.specs.standing.inner.Standing.{right_over}
use Rattle.withdraw.proofs.withdraw_copy.Without.{from-none, early}
use Rattle.withdraw.proofs.withdraw_copy.right_found.Goals as goal

pub right_over-before-requires : goal.right_over-before-requires
right_over-before-requires c = let s = c.args.state in
    let g = c.well_formed.0.1.1 in
    let l = g.1.1.1.1.1.1.0.1.1 in
    let p = c.requires in
    let h = early c.args.place s.taken p.0 p.1 in (
      le_of_eq (sym g.0.1.1.1.1.1.1.0.1.0.1),
      omega arith,
      subst⁻¹ (λ (m : ℕ). c.args.place ≤ m) g.1.0.1.0.1 h,
      subst⁻¹ (λ (m : ℕ). c.args.place ≤ m) l.0.1.0.1 h,
      subst⁻¹ (λ (m : ℕ). c.args.place ≤ m) l.1.0.1.0.1 h,
      λ i o a e. p.2 i o (omega (arith, a, p.0)) e,
    )

pub slice_bounds-right_over-end-7 : goal.slice_bounds-right_over-end-7
slice_bounds-right_over-end-7 c = let g = c.well_formed.0.1.1 in
    let l = g.1.1.1.1.1.1.0.1.1 in
    sym l.0.1.0.1

pub slice_bounds-right_over-end-8 : goal.slice_bounds-right_over-end-8
slice_bounds-right_over-end-8 c = let g = c.well_formed.0.1.1 in
    let l = g.1.1.1.1.1.1.0.1.1 in
    sym l.1.0.1.0.1

pub right_over-requires : goal.right_over-requires
right_over-requires c = let s = c.args.state in
    let g = c.well_formed.0.1.1 in
    let l = g.1.1.1.1.1.1.0.1.1 in
    let p = c.requires in (
      le_of_eq (sym g.0.1.1.1.1.1.1.0.1.0.1),
      omega (arith, p.0),
      subst⁻¹ (λ (m : ℕ). s.taken ≤ m) g.1.0.1.0.1 p.1,
      subst⁻¹ (λ (m : ℕ). s.taken ≤ m) l.0.1.0.1 p.1,
      subst⁻¹ (λ (m : ℕ). s.taken ≤ m) l.1.0.1.0.1 p.1,
      p.2,
    )

pub returns : goal.returns
returns c = let s = c.args.state in
    let n = c.args.place in
    c.right_over.ensures
    ∙ ap (λ (r : Float). right_over s.tables.inset_bounds s.order s.layout.orientation s.layout.x r (n + 1) (s.taken - (n + 1)))
    (c.right_over-before.ensures
    ∙ ap (right_over s.tables.inset_bounds s.order s.layout.orientation s.layout.x s.tables.sheet_bounds.left 0) (from-none n))
