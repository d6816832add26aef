-- 30 of an accepted job, and plans by their verdict. Assumes nothing.
use Rattle.std.specs.Prelude.{Result, Ok, Err}
use Prim.Native.Nat.{ℕ, ◌*◌, ◌/◌, ◌≤◌, ◌<◌}
use native.Mathlib.Omega.{arith}
use mathlib.Core.Path.{◌≡◌, refl, sym, ap, subst, ◌∙◌}
use mathlib.Core.List.{List}
use lib.ListN.{length}
use lib.Dec.{ltb}
use lib.Ieee.{Float}
use borrow.Author.Tests.{lt-ltb, le-ltb}
use Rattle.numbers.specs.Numbers.{pos_zero}
use Rattle.job.specs.Jobs.{Job}
use Rattle.filling.specs.declared.Refusal.{Refusal}
use Rattle.filling.specs.declared.Refusal.TheVariants as Why
use Rattle.filling.specs.Refusals.{refuse_if}
use Rattle.filling.specs.Rooms.{Lent, position_capacity, zeros}
use Rattle.filling.specs.Fill.{Planned, not_planned}
use Rattle.filling.proofs.Reading.{length-zeros}
use Rattle.filling.proofs.Steps.{refuse_yes, refuse_no}
use Rattle.report.specs.inner.Replies.{reply, reply_of, planned_when}
use Rattle.report.proofs.Reporting.{refused-reply}

-- a definition by its verdict
pub when_is : (v : Result (Unit {0}) Refusal) (l : Lent) (q : Planned) → ◌≡◌ {A = Planned} (elim v [ Ok tt ↦ q | Err k ↦ not_planned k l ]) (planned_when v l q)
when_is (Ok tt) l q = refl
when_is (Err k) l q = refl

-- a position for each copy
pub positions_many : (order : List ℕ) (copies room : ℕ) → length order ≡ copies → copies ≤ room / 6 → 6 * length order ≤ room
positions_many order copies room e h = omega arith

module _ (j : Job) (l : Lent) (copies : ℕ) (n : j.copies ≡ copies) (room : List Float) (z : room ≡ zeros pos_zero l.positions) where
  capacity_is : position_capacity l.positions ≡ length room / 6
  capacity_is = ap (λ (m : ℕ). m / 6) (sym (ap length z ∙ length-zeros pos_zero l.positions))

  -- 30 is not met
  pub wide : (v : Result (Unit {0}) Refusal) → copies ≤ length room / 6 → refuse_if (ltb (position_capacity l.positions) j.copies) Why.PositionRoom v ≡ v
  wide v h = refuse_no _ Why.PositionRoom v (le-ltb (position_capacity l.positions) j.copies (subst (λ (m : ℕ). m ≤ position_capacity l.positions) (sym n) (subst (λ (m : ℕ). copies ≤ m) (sym capacity_is) h)))

  -- 30
  pub narrow : (v : Result (Unit {0}) Refusal) → length room / 6 < copies → refuse_if (ltb (position_capacity l.positions) j.copies) Why.PositionRoom v ≡ Err Why.PositionRoom
  narrow v h = refuse_yes _ Why.PositionRoom v (lt-ltb (position_capacity l.positions) j.copies (subst (λ (m : ℕ). position_capacity l.positions < m) (sym n) (subst (λ (m : ℕ). m < copies) (sym capacity_is) h)))

  -- only the number
  pub refused_so : (k : Refusal) (v : Result (Unit {0}) Refusal) (q : Planned) → v ≡ Err k → reply (Err k) room ≡ reply_of (planned_when v l q)
  refused_so k v q e = refused-reply l k room z ∙ ap (λ (u : Result (Unit {0}) Refusal). reply_of (planned_when u l q)) (sym e)
