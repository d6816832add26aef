-- Single calls and batches are lists of calls; what holds of a batch as of each of them. Assumes nothing.
use Rattle.std.specs.Prelude.{Result, Ok, Err}
use Rattle.filling.specs.declared.Refusal.{Refusal}
use Prim.Native.Nat.{ℕ, zero, suc}
use native.Mathlib.Omega.{arith}
use mathlib.Core.Path.{◌≡◌, refl, sym, ap, ap₂, subst, ◌∙◌}
use mathlib.Core.Logic.{inl, inr}
use mathlib.Core.Bool.{Bool, true, false}
use mathlib.Core.List.Memᴰ
use mathlib.Core.List.{List, [], ◌∷◌, ◌++◌, Memᴰ}
use lib.ListN.{replicate}
use lib.Dec.{ltb}
use lib.Ieee.{Float}
use borrow.Author.Tests.{ltb-true, ltb-false}
use Rattle.numbers.proofs.Truth.{below_or_not}
use Rattle.numbers.specs.Numbers.{pos_zero}
use Rattle.filling.specs.declared.State.{State}
use Rattle.filling.specs.declared.Refusal.TheVariants as Why
use Rattle.filling.specs.Refusals.{number_of, verdict_number}
use Rattle.filling.specs.Rooms.{Rooms, Lent, zeros}
use Rattle.filling.specs.Start.{start_of}
use Rattle.filling.specs.NextCopy.{Step, next_copy_of}
use Rattle.filling.specs.Calls.{Call, After, call_step, after_calls}
use Rattle.filling.proofs.Steps.{refused≢accepted}
use Rattle.filling.proofs.Refused.{next-copy_leaves}
use Rattle.filling.proofs.Never31.{never-31}
use Rattle.batch.specs.NextCopies.{Batch, none_taken, one_more, batch_from, next_copies_of}
use Rattle.batch.specs.BatchCalls.{batch_calls, refusal_in, Operation, single, several, Rest, after_operation, after_operations}
use Rattle.batch.specs.BatchCalls.{operation_calls, operations_calls}
use Rattle.batch.proofs.Taking.{zeros_again, copies_upto, copies_over}
use Rattle.batch.proofs.Batches.{batch_calls_lem, batch_verdicts}

-- ---- a batch

module _ (bytes : List ℕ) where
  -- a batch that is not refused takes all its copies
  pub batch_whole : (n : ℕ) (s : State) (w : Rooms) (iv : List Float) → (batch_from bytes n s w iv).verdict ≡ (Ok tt) → (batch_from bytes n s w iv).took ≡ n
  unfolding batch_from none_taken one_more
  batch_whole zero s w iv v = refl
  batch_whole (suc n) s w iv v =
      let r = next_copy_of bytes s w iv in
      go r.verdict (batch_whole n r.state r.rooms r.intervals) v
    where
      r : Step
      r = next_copy_of bytes s w iv

      go : (u : Result (Unit {0}) Refusal)
          → ((batch_from bytes n r.state r.rooms r.intervals).verdict ≡ (Ok tt) → (batch_from bytes n r.state r.rooms r.intervals).took ≡ n)
          → let q : Batch = elim u [
            | Ok tt ↦ one_more (batch_from bytes n r.state r.rooms r.intervals)
            | Err k ↦ none_taken (Err k) r.state r.rooms r.intervals
          ] in q.verdict ≡ (Ok tt) → q.took ≡ suc n
      go (Ok tt) h v = unfold one_more in ap suc (h (unfold one_more in v))
      go (Err k) h v = absurd (refused≢accepted (unfold none_taken in v))

  -- its interval room: zeros
  pub batch_intervals : (n : ℕ) (s : State) (w : Rooms) (iv : List Float) → (batch_from bytes n s w (zeros pos_zero iv)).intervals ≡ zeros pos_zero iv
  unfolding batch_from none_taken one_more
  batch_intervals zero s w iv = refl
  batch_intervals (suc n) s w iv =
      let r = next_copy_of bytes s w (zeros pos_zero iv) in
      go r.verdict ((next-copy_leaves bytes s w (zeros pos_zero iv)).0 ∙ zeros_again iv) (batch_intervals n r.state r.rooms iv)
    where
      r : Step
      r = next_copy_of bytes s w (zeros pos_zero iv)

      go : (u : Result (Unit {0}) Refusal) → r.intervals ≡ zeros pos_zero iv → (batch_from bytes n r.state r.rooms (zeros pos_zero iv)).intervals ≡ zeros pos_zero iv
          → let q : Batch = elim u [
            | Ok tt ↦ one_more (batch_from bytes n r.state r.rooms r.intervals)
            | Err k ↦ none_taken (Err k) r.state r.rooms r.intervals
          ] in q.intervals ≡ zeros pos_zero iv
      go (Ok tt) e h = unfold one_more in (ap (λ (l : List Float). (batch_from bytes n r.state r.rooms l).intervals) e ∙ h)
      go (Err k) e h = unfold none_taken in e

  -- ---- lists of calls, one after another

  calls_append : (cs ds : List Call) (s : State) (w : Rooms)
      → let a = after_calls bytes cs s w in
      let b = after_calls bytes ds a.state a.rooms in
      after_calls bytes (cs ++ ds) s w ≡ record { verdicts = a.verdicts ++ b.verdicts; state = b.state; rooms = b.rooms }
  unfolding after_calls
  calls_append [] ds s w = refl
  calls_append (c ∷ cs) ds s w =
      let r = call_step bytes c s w in
      ap (λ (a : After). record { verdicts = r.verdict ∷ a.verdicts; state = a.state; rooms = a.rooms }) (calls_append cs ds r.state r.rooms)

  operation_calls_lem : (o : Operation) (s : State) (w : Rooms)
      → let a = after_calls bytes (operation_calls bytes o s w) s w in after_operation bytes o s w ≡ record { state = a.state; rooms = a.rooms }
  unfolding after_operation operation_calls
  operation_calls_lem (single c) s w = unfold after_calls in refl
  operation_calls_lem (several n iv) s w = go (ltb 4096 n) refl
    where
      go : (t : Bool) → ltb 4096 n ≡ t
          → let cs : List Call = elim t [ true ↦ [] | false ↦ batch_calls bytes n s w (zeros pos_zero iv) ] in
          let a = after_calls bytes cs s w in
          let q = next_copies_of bytes n s w iv in
          ◌≡◌ {A = Rest} (record { state = q.state; rooms = q.rooms }) (record { state = a.state; rooms = a.rooms })
      go true e = unfold after_calls in
          (ap (λ (q : Batch). record { state = q.state; rooms = q.rooms }) (copies_over bytes n s w iv (ltb-true 4096 n e)) ∙ (unfold none_taken in refl))
      go false e =
          let q = batch_calls_lem bytes n s w (zeros pos_zero iv) in
          ap (λ (q : Batch). record { state = q.state; rooms = q.rooms }) (copies_upto bytes n s w iv (ltb-false 4096 n e))
          ∙ ap₂ (λ (t : State) (v : Rooms). record { state = t; rooms = v }) q.0 q.1

  -- state and rooms after single calls and batches are those after the calls that they make
  pub operations_calls_lem : (os : List Operation) (s : State) (w : Rooms)
      → let a = after_calls bytes (operations_calls bytes os s w) s w in after_operations bytes os s w ≡ record { state = a.state; rooms = a.rooms }
  unfolding after_operations operations_calls
  operations_calls_lem [] s w = unfold after_calls in refl
  operations_calls_lem (o ∷ os) s w =
      let a = after_operation bytes o s w in
      let cs = operation_calls bytes o s w in
      let ds = operations_calls bytes os a.state a.rooms in
      operations_calls_lem os a.state a.rooms
      ∙ ap (λ (a : Rest). let b = after_calls bytes ds a.state a.rooms in record { state = b.state; rooms = b.rooms }) (operation_calls_lem o s w)
      ∙ ap (λ (b : After). record { state = b.state; rooms = b.rooms }) (sym (calls_append cs ds s w))

-- ---- 31

-- after an accepted start and whatever calls, a batch is not stopped by 31
pub batch_passes : (bytes order : List ℕ) (l : Lent) → (start_of bytes order l).verdict ≡ (Ok tt) → (calls : List Call) (n : ℕ) (iv : List Float)
    → let a = after_calls bytes calls (start_of bytes order l).state (start_of bytes order l).lent.rooms in
    (batch_from bytes n a.state a.rooms iv).verdict ≡ Err Why.Inconsistent → ⊥
unfolding refusal_in
batch_passes bytes order l v calls n iv e =
    never-31 bytes order l v (calls ++ batch_calls bytes n a.state a.rooms iv)
    (subst (λ (r : After). Memᴰ (Err Why.Inconsistent) r.verdicts)
    (sym (calls_append bytes calls (batch_calls bytes n a.state a.rooms iv) (start_of bytes order l).state (start_of bytes order l).lent.rooms))
    (Memᴰ.append_right a.verdicts last))
  where
    a : After
    a = after_calls bytes calls (start_of bytes order l).state (start_of bytes order l).lent.rooms

    q : Batch
    q = batch_from bytes n a.state a.rooms iv

    last : Memᴰ (Err Why.Inconsistent) (after_calls bytes (batch_calls bytes n a.state a.rooms iv) a.state a.rooms).verdicts
    last =
        subst (Memᴰ (Err Why.Inconsistent))
        (sym (batch_verdicts bytes n a.state a.rooms iv ∙ ap (λ (u : Result (Unit {0}) Refusal). replicate q.took (Ok tt) ++ refusal_in u) e))
        (Memᴰ.append_right (replicate q.took (Ok tt)) (unfold refusal_in in Memᴰ.head refl))

-- whatever number of copies is asked for
pub copies_pass : (bytes order : List ℕ) (l : Lent) → (start_of bytes order l).verdict ≡ (Ok tt) → (calls : List Call) (n : ℕ) (iv : List Float)
    → let a = after_calls bytes calls (start_of bytes order l).state (start_of bytes order l).lent.rooms in
    (next_copies_of bytes n a.state a.rooms iv).verdict ≡ Err Why.Inconsistent → ⊥
unfolding none_taken verdict_number number_of
copies_pass bytes order l v calls n iv e = elim (below_or_not 4096 n) [
  | inl h ↦ let six : ◌≡◌ {A = ℕ} 6 31 = ap verdict_number (sym (ap (λ (q : Batch). q.verdict) (copies_over bytes n _ _ iv h)) ∙ e) in omega arith
  | inr h ↦ batch_passes bytes order l v calls n (zeros pos_zero iv) (sym (ap (λ (q : Batch). q.verdict) (copies_upto bytes n _ _ iv h)) ∙ e)
]
