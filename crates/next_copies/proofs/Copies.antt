-- What `next_copies` answers is the definition's. Assumes nothing.
use Rattle.std.specs.Prelude.{Ok, Err}
use Prim.{⊥}
use Prim.Native.Nat.{ℕ, zero, suc, ◌-◌, ◌<◌, ◌≤◌}
use native.Mathlib.Omega.{arith}
use mathlib.Core.Path.{◌≡◌, refl, sym, ap, ◌∙◌}
use mathlib.Core.List.{List}
use lib.Ieee.{Float}
use Rattle.numbers.specs.Numbers.{pos_zero}
use Rattle.bits.specs.declared.Refusal as Input
use Rattle.job.specs.Jobs.{Job, accepted, refused, read_job}
use Rattle.filling.specs.declared.State.{State}
use Rattle.filling.specs.declared.Refusal.TheVariants as Why
use Rattle.filling.specs.Rooms.{Rooms, zeros}
use Rattle.filling.specs.Consistent.{consistent}
use Rattle.filling.proofs.Sizes.{sized}
use Rattle.batch.specs.NextCopies.{none_taken, batch_from, next_copies_of}
use Rattle.batch.specs.inner.Tested.{tested_from, Shaped}
use Rattle.batch.proofs.Taking.{zeros_again, batch_refused, copies_upto}
use Rattle.batch.proofs.Batches.{batch_tested}

pub some : (n : ℕ) → (n ≡ 0 → ⊥) → 0 < n
some zero h = absurd (h refl)
some (suc n) h = omega arith

module _ (bytes : List ℕ) (n : ℕ) (s : State) (w : Rooms) (intervals : List Float) where
  pub copies-none : n ≡ 0 → none_taken (Ok tt) s w (zeros pos_zero intervals) ≡ next_copies_of bytes n s w intervals
  unfolding batch_from
  copies-none e =
      let h : n ≤ 4096 = omega (arith, e) in
      sym (copies_upto bytes n s w intervals h ∙ ap (λ (n : ℕ). batch_from bytes n s w (zeros pos_zero intervals)) e)

  pub copies-refused : (k : Input.Refusal) → read_job bytes ≡ refused k → 0 < n → n ≤ 4096
      → none_taken (Err (Why.Job k)) s w (zeros pos_zero intervals) ≡ next_copies_of bytes n s w intervals
  copies-refused k e l h =
      let i : ℕ = n - 1 in
      let q : n ≡ suc i = omega (arith, l) in
      sym (copies_upto bytes n s w intervals h ∙ (ap (λ (n : ℕ). batch_from bytes n s w (zeros pos_zero intervals)) q
      ∙ (batch_refused bytes k e i s w (zeros pos_zero intervals) ∙ ap (none_taken (Err (Why.Job k)) s w) (zeros_again intervals))))

  pub copies-accepted : (j : Job) → read_job bytes ≡ accepted j → Shaped s → n ≤ 4096
      → tested_from j n s w (zeros pos_zero intervals) (consistent j s w) ≡ next_copies_of bytes n s w intervals
  copies-accepted j e f h =
      sym (copies_upto bytes n s w intervals h ∙ batch_tested bytes j e (sized bytes j e) n s w (zeros pos_zero intervals) f)
