-- No line of a list is met exactly where none holds. Assumes nothing.
use Rattle.std.specs.Prelude.{Ok}
use Prim.Native.Nat.{ℕ}
use native.Mathlib.Omega.{arith}
use mathlib.Core.Path.{◌≡◌, refl, sym}
use mathlib.Core.Bool.{Bool, true, false, not, ◌&&◌}
use mathlib.Core.List.{List, [], ◌∷◌}
use Rattle.filling.specs.Refusals.{refuse_if}
use Rattle.filling.specs.RefusalLines.{Line, first_met}
use Rattle.filling.specs.Consistent.{every}
use Rattle.filling.proofs.Steps.{later_accepted}

not_and : (a b : Bool) → a ≡ false → b ≡ true → not a && b ≡ true
not_and true b p q = sym p
not_and false b p q = q

none-holds : (ls : List Line) → first_met ls ≡ Ok tt → every (λ (x : Line). not x.holds) ls ≡ true
unfolding first_met every
none-holds [] e = refl
none-holds (l ∷ ls) e =
    let t = later_accepted l.holds l.refusal (first_met ls) e in
    not_and l.holds (every (λ (x : Line). not x.holds) ls) t.0 (none-holds ls t.1)

none_met : (ls : List Line) → every (λ (x : Line). not x.holds) ls ≡ true → first_met ls ≡ Ok tt
unfolding first_met refuse_if every
none_met [] e = refl
none_met (l ∷ ls) e = go l.holds (λ h. none_met ls h) e
  where
    go : (t : Bool) → (every (λ (x : Line). not x.holds) ls ≡ true → first_met ls ≡ Ok tt)
        → not t && every (λ (x : Line). not x.holds) ls ≡ true → refuse_if t l.refusal (first_met ls) ≡ Ok tt
    go true f e = absurd (let z : ◌≡◌ {A = ℕ} 0 1 = cc in omega arith)
    go false f e = f e

pub met_exactly : (ls : List Line)
    → (first_met ls ≡ Ok tt → every (λ (x : Line). not x.holds) ls ≡ true) × (every (λ (x : Line). not x.holds) ls ≡ true → first_met ls ≡ Ok tt)
met_exactly ls = (none-holds ls, none_met ls)
