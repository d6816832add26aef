use mathlib.Core.Path.{◌≡◌, sym, ap, ◌∙◌, refl}
use mathlib.Core.List.{List}
use Prim.Native.Nat.{ℕ, ◌+◌, ◌-◌, ◌≤◌}
use native.Mathlib.Omega.{arith}
use lib.ListN.{get_or, set, length-set}
use lib.Seq.{get_or-set_other}
use Rattle.enter.specs.inner.Gaps.{filled, rooms}
use Rattle.enter.proofs.GapFilling.{filled_on, filled-end}
use Rattle.enter.proofs.fill_strip.Goals as goal

past : (b d : ℕ) → b + 1 ≤ d → d + 1 ≡ b + 1 → ⊥
past b d a q = omega arith

pub loop-b-init : goal.loop-b-init
loop-b-init c = (omega arith, refl, refl, λ d h. refl, refl)

pub set_entry-requires : goal.set_entry-requires
set_entry-requires c = let l = c.loop-b in
    let p = c.requires in
    let z = p.2 l.b l.invariant.0 (omega arith) in
    let y = l.invariant.3 l.b (native.Mathlib.Nat.le_refl l.b) in
    (omega (arith, l.invariant.2), p.3)

pub overflow_add-starts : goal.overflow_add-starts
overflow_add-starts c = let l = c.loop-b in
    let p = c.requires in
    let z = p.2 l.b l.invariant.0 (omega arith) in
    let y = l.invariant.3 l.b (native.Mathlib.Nat.le_refl l.b) in
    omega arith

pub overflow_add-starts-in-loop-b : goal.overflow_add-starts-in-loop-b
overflow_add-starts-in-loop-b c = let l = c.loop-b in
    let p = c.requires in
    let z = p.2 l.b l.invariant.0 (omega arith) in
    let y = l.invariant.3 l.b (native.Mathlib.Nat.le_refl l.b) in
    omega arith

pub loop-b-preserved : goal.loop-b-preserved
loop-b-preserved c = let l = c.loop-b in
    let g = c.args in
    let E = c.set_entry.ensures in (
      omega (arith, l.invariant.0),
      length-set l.starts (l.b + 1) (get_or l.starts (l.b + 1) 0 + 1) ∙ l.invariant.1,
      c.set_entry.auto.entries ∙ l.invariant.2,
      λ d a. get_or-set_other l.starts (l.b + 1) (d + 1) (get_or l.starts (l.b + 1) 0 + 1) 0 (λ q. past l.b d a q) ∙ l.invariant.3 d (omega arith),
      ap (λ (e : List ℕ). filled g.number (g.hi + 1 - (l.b + 1)) (l.b + 1) (rooms e (set l.starts (l.b + 1) (get_or l.starts (l.b + 1) 0 + 1)))) E ∙ (sym (filled_on g.number g.hi l.b l.entries l.starts (omega arith)) ∙ l.invariant.4),
    )

pub shape_of-entries : goal.shape_of-entries
shape_of-entries c = c.loop-b.invariant.2

pub shape_of-starts : goal.shape_of-starts
shape_of-starts c = c.loop-b.invariant.1

pub returns : goal.returns
returns c = let l = c.loop-b in
    let g = c.args in
    sym (filled-end g.number g.hi l.b l.entries l.starts (omega arith)) ∙ l.invariant.4
