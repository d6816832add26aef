-- A batch is n single calls, and 31 is tested in full only before the first. Assumes nothing.
use Rattle.std.specs.Prelude.{Result, Ok, Err}
use Rattle.filling.specs.declared.Refusal.{Refusal}
use Prim.Native.Nat.{ℕ, zero, suc, ◌*◌}
use mathlib.Core.Path.{◌≡◌, refl, sym, ap, ◌∙◌}
use mathlib.Core.Bool.{Bool, true, false}
use mathlib.Core.List.{List, [], ◌∷◌, ◌++◌, map}
use lib.ListN.{get_or, drop, replicate, length-set}
use lib.Seq.{length-sets}
use lib.Ieee.{Float}
use Rattle.job.specs.Jobs.{Job, accepted, read_job}
use Rattle.filling.specs.declared.State.{State}
use Rattle.filling.specs.declared.Refusal.TheVariants as Why
use Rattle.filling.specs.Shapes.{Planner}
use Rattle.filling.specs.Search.{Track, search_all}
use Rattle.filling.specs.Choice.{Choice}
use Rattle.filling.specs.Rooms.{Rooms}
use Rattle.filling.specs.State.{planner_at, order_of, tracks_of, remembered_number}
use Rattle.filling.specs.Consistent.{consistent, placed_strips_of}
use Rattle.filling.specs.NextCopy.{entered, state_with, layout_after, state_after, copy_verdict, Step, no_step, place_copy, place_next, core_step}
use Rattle.filling.specs.NextCopy.{step_job, step_given, next_copy_of}
use Rattle.filling.specs.Calls.{Call, step_reply, call_step, after_calls}
use Rattle.filling.proofs.Sizes.{Sized}
use Rattle.filling.proofs.Steps.{refused≢accepted, no_step-refused, place-refused, place-taken}
use Rattle.filling.proofs.Runs.{step-consistent, step_inconsistent}
use Rattle.batch.specs.NextCopies.{Batch, none_taken, one_more, batch_from}
use Rattle.batch.specs.BatchCalls.{batch_calls, refusal_in}
use Rattle.batch.specs.inner.Tested.{copy_fits, step_tested, tested_from, Shaped}
use Rattle.batch.proofs.Taking.{tested_more, tested_stop, batch_more, batch_stop}
use Rattle.batch.proofs.Kept31.{step-31}

-- ---- a step keeps the lengths of a state's lists

shaped_with : (s : State) → Shaped s → (k : ℕ) (ts : List Track) (strips place out : ℕ) (x y gap area right : Float)
    → Shaped (state_with s k ts strips (entered s.layout place out x y gap area right))
unfolding state_with entered
shaped_with s f k ts strips place out x y gap area right =
    record {
      orientations = length-set s.layout.orientation place out ∙ f.orientations;
      xs = length-set s.layout.x place x ∙ f.xs;
      ys = length-set s.layout.y place y ∙ f.ys;
      gaps = length-set s.layout.gap place gap ∙ f.gaps;
      next-columns = length-sets s.next_column (16 * k) (map (λ t. remembered_number t.next_column) ts) ∙ f.next-columns;
      look_counts = length-sets s.look_counts (16 * k) (map (λ t. t.look_count) ts) ∙ f.look_counts;
    }

shaped_after : (p : Planner) (k : ℕ) (ts : List Track) (s : State) (st : List Float) (cs : List Choice) → Shaped s → Shaped (state_after p k ts s st cs)
unfolding state_after layout_after
shaped_after p k ts s st [] f = shaped_with s f k ts _ _ _ _ _ _ _ _
shaped_after p k ts s st (a ∷ as') f = shaped_with s f k ts _ _ _ _ _ _ _ _

shaped_place : (p : Planner) (st : List Float) (ts : List Track) (k : ℕ) (s : State) (w : Rooms) (iv : List Float) → Shaped s
    → Shaped (place_copy p st ts k s w iv).state
shaped_place p st ts k s w iv f = go (copy_verdict p w iv k st (get_or p.shapes k []) ts (search_all p st (get_or p.shapes k []) ts)) refl
  where
    go : (v : Result (Unit {0}) Refusal) → copy_verdict p w iv k st (get_or p.shapes k []) ts (search_all p st (get_or p.shapes k []) ts) ≡ v
        → Shaped (place_copy p st ts k s w iv).state
    go (Ok tt) d = rw (place-taken p st ts k s w iv d) (shaped_after p k _ s st _ f)
    go (Err r) d = rw (place-refused p st ts k s w iv r d) (unfold no_step in f)

pub shaped_step : (j : Job) (s : State) (w : Rooms) (iv : List Float) → Shaped s → Shaped (core_step j s w iv).state
unfolding core_step
shaped_step j s w iv f = go (drop s.taken (order_of j s))
  where
    go : (l : List ℕ) → Shaped (place_next j s w iv l).state
    go [] = unfold place_next in (unfold no_step in f)
    go (k ∷ ks) = unfold place_next in shaped_place (planner_at j s.tables w) (placed_strips_of s w) (get_or (tracks_of j s) k []) k s w iv f

-- ---- 31 in full before the first copy, then of what each copy wrote

-- a single call of an accepted job is one tested step
call_tested : (bytes : List ℕ) (j : Job) → read_job bytes ≡ accepted j → (s : State) (w : Rooms) (iv : List Float) (b : Bool) → consistent j s w ≡ b
    → next_copy_of bytes s w iv ≡ step_tested j s w iv b
unfolding step_tested
call_tested bytes j e s w iv b c = go b c
  where
    call_is : next_copy_of bytes s w iv ≡ step_job j s w iv
    call_is = unfold next_copy_of in (unfold step_given in rw e)

    go : (b : Bool) → consistent j s w ≡ b → next_copy_of bytes s w iv ≡ step_tested j s w iv b
    go true c = unfold step_tested in (call_is ∙ step-consistent j s w iv c)
    go false c = unfold step_tested in (call_is ∙ step_inconsistent j s w iv c)

module _ (j : Job) (s : State) (w : Rooms) (iv : List Float) (f : Shaped s) where
  shaped_tested : (b : Bool) → Shaped (step_tested j s w iv b).state
  unfolding step_tested no_step
  shaped_tested true = shaped_step j s w iv f
  shaped_tested false = f

  tested-31 : Sized j → (b : Bool) → consistent j s w ≡ b → (step_tested j s w iv b).verdict ≡ (Ok tt)
      → let r = step_tested j s w iv b in consistent j r.state r.rooms ≡ copy_fits j s.taken s.placed_strips r.state r.rooms
  unfolding step_tested
  tested-31 z true c v = step-31 j z s w f c iv v
  tested-31 z false c v = absurd (refused≢accepted (sym (no_step-refused Why.Inconsistent s w iv) ∙ v))

module _ (bytes : List ℕ) (j : Job) (e : read_job bytes ≡ accepted j) (z : Sized j) where
  abbrev Equal : ℕ → State → Rooms → List Float → Type 0
  Equal n s w iv = batch_from bytes n s w iv ≡ tested_from j n s w iv (consistent j s w)

  one_turn : (n : ℕ) (s : State) (w : Rooms) (iv : List Float) → Shaped s
      → (let r = step_tested j s w iv (consistent j s w) in Equal n r.state r.rooms r.intervals) → Equal (suc n) s w iv
  one_turn n s w iv f more = go (step_tested j s w iv fits).verdict refl
    where
      fits : Bool
      fits = consistent j s w

      r : Step
      r = step_tested j s w iv (consistent j s w)

      d : next_copy_of bytes s w iv ≡ step_tested j s w iv (consistent j s w)
      d = call_tested bytes j e s w iv (consistent j s w) refl

      go : (v : Result (Unit {0}) Refusal) → (step_tested j s w iv (consistent j s w)).verdict ≡ v → Equal (suc n) s w iv
      go (Ok tt) v =
          batch_more bytes n s w iv (ap (λ (q : Step). q.verdict) d ∙ v)
          ∙ ap (λ (q : Step). one_more (batch_from bytes n q.state q.rooms q.intervals)) d
          ∙ ap one_more (more ∙ ap (tested_from j n r.state r.rooms r.intervals) (tested-31 j s w iv f z (consistent j s w) refl v))
          ∙ sym (tested_more j n s w iv (consistent j s w) v)
      go (Err k) v =
          batch_stop bytes n s w iv k (ap (λ (q : Step). q.verdict) d ∙ v)
          ∙ ap (λ (q : Step). none_taken (Err k) q.state q.rooms q.intervals) d
          ∙ sym (tested_stop j n s w iv (consistent j s w) k v)

  -- "The outcome equals n single calls"
  pub batch_tested : (n : ℕ) (s : State) (w : Rooms) (iv : List Float) → Shaped s
      → batch_from bytes n s w iv ≡ tested_from j n s w iv (consistent j s w)
  unfolding batch_from tested_from
  batch_tested zero s w iv f = refl
  batch_tested (suc n) s w iv f =
      let r = step_tested j s w iv (consistent j s w) in
      one_turn n s w iv f (batch_tested n r.state r.rooms r.intervals (shaped_tested j s w iv f (consistent j s w)))

-- ---- the list of calls that a batch is

module _ (bytes : List ℕ) where
  -- state and rooms after a batch, after its calls
  pub batch_calls_lem : (n : ℕ) (s : State) (w : Rooms) (iv : List Float)
      → let a = after_calls bytes (batch_calls bytes n s w iv) s w in
      let q = batch_from bytes n s w iv in (q.state ≡ a.state) × (q.rooms ≡ a.rooms)
  unfolding batch_from batch_calls after_calls none_taken one_more call_step step_reply
  batch_calls_lem zero s w iv = (refl, refl)
  batch_calls_lem (suc n) s w iv =
      let r = next_copy_of bytes s w iv in
      go r.verdict (batch_calls_lem n r.state r.rooms r.intervals)
    where
      r : Step
      r = next_copy_of bytes s w iv

      go : (v : Result (Unit {0}) Refusal)
          → (let a = after_calls bytes (batch_calls bytes n r.state r.rooms r.intervals) r.state r.rooms in
          let q = batch_from bytes n r.state r.rooms r.intervals in (q.state ≡ a.state) × (q.rooms ≡ a.rooms))
          → let cs : List Call = elim v [ Ok tt ↦ batch_calls bytes n r.state r.rooms r.intervals | Err k ↦ [] ] in
          let q : Batch = elim v [
            | Ok tt ↦ one_more (batch_from bytes n r.state r.rooms r.intervals)
            | Err k ↦ none_taken (Err k) r.state r.rooms r.intervals
          ] in
          let a = after_calls bytes cs r.state r.rooms in (q.state ≡ a.state) × (q.rooms ≡ a.rooms)
      go (Ok tt) h = unfold one_more in h
      go (Err k) h = unfold none_taken in (unfold after_calls in (refl, refl))

  -- what those calls answered: so many times accepted, then the refusal if any
  pub batch_verdicts : (n : ℕ) (s : State) (w : Rooms) (iv : List Float)
      → let q = batch_from bytes n s w iv in
      (after_calls bytes (batch_calls bytes n s w iv) s w).verdicts ≡ replicate q.took (Ok tt) ++ refusal_in q.verdict
  unfolding batch_from batch_calls after_calls none_taken one_more call_step step_reply refusal_in
  batch_verdicts zero s w iv = refl
  batch_verdicts (suc n) s w iv =
      let r = next_copy_of bytes s w iv in
      go r.verdict (batch_verdicts n r.state r.rooms r.intervals)
    where
      r : Step
      r = next_copy_of bytes s w iv

      go : (v : Result (Unit {0}) Refusal)
          → (let q = batch_from bytes n r.state r.rooms r.intervals in
          (after_calls bytes (batch_calls bytes n r.state r.rooms r.intervals) r.state r.rooms).verdicts
          ≡ replicate q.took (Ok tt) ++ refusal_in q.verdict)
          → let cs : List Call = elim v [ Ok tt ↦ batch_calls bytes n r.state r.rooms r.intervals | Err k ↦ [] ] in
          let q : Batch = elim v [
            | Ok tt ↦ one_more (batch_from bytes n r.state r.rooms r.intervals)
            | Err k ↦ none_taken (Err k) r.state r.rooms r.intervals
          ] in
          v ∷ (after_calls bytes cs r.state r.rooms).verdicts ≡ replicate q.took (Ok tt) ++ refusal_in q.verdict
      go (Ok tt) h = unfold one_more in ap (λ (l : List (Result (Unit {0}) Refusal)). (Ok tt) ∷ l) h
      go (Err k) h = unfold none_taken in (unfold after_calls in (unfold refusal_in in refl))
