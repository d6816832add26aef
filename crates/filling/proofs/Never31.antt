-- After an accepted start no call is refused with 31. Assumes nothing.
use Rattle.std.specs.Prelude.{Result, Ok, Err}
use mathlib.Core.Path.{◌≡◌, refl, sym, ap, ◌∙◌}
use mathlib.Core.Logic.{◌⊎◌, inl, inr, ◌≢◌}
use mathlib.Core.Bool.{Bool, true, false}
use mathlib.Core.List.Memᴰ
use mathlib.Core.List.{List, [], ◌∷◌, Memᴰ}
use Prim.Native.Nat.{ℕ}
use native.Mathlib.Omega.{arith}
use lib.ListN.{get_or, drop}
use lib.Ieee.{Float}
use Rattle.job.specs.Jobs.{Job, Answer, accepted, refused, read_job}
use Rattle.filling.specs.declared.State.{State}
use Rattle.filling.specs.declared.Refusal.{Refusal}
use Rattle.filling.specs.declared.Refusal.TheVariants as Why
use Rattle.filling.specs.Refusals.{number_of, verdict_number, refuse_if}
use Rattle.filling.specs.Shapes.{Planner, planner_of, Standing}
use Rattle.filling.specs.Search.{Track, search_all}
use Rattle.filling.specs.Choice.{Choice}
use Rattle.filling.specs.Plain.{Plain, plain_start, plain_take, plain_back}
use Rattle.filling.specs.Rooms.{Rooms, Lent}
use Rattle.filling.specs.Order.{rearranged}
use Rattle.filling.specs.State.{planner_at, order_of}
use Rattle.filling.specs.Consistent.{consistent}
use Rattle.filling.specs.Start.{no_start, start_given, start_of}
use Rattle.filling.specs.NextCopy.{store_verdict, winner_verdict, copy_verdict, Step, no_step, place_copy, place_next, core_step, step_given, next_copy_of}
use Rattle.filling.specs.Withdraw.{Reply, no_withdrawal, standing_here, withdrawn, withdraw_given, withdraw_of}
use Rattle.filling.specs.Calls.{Call, next_copy, withdraw, step_reply, call_step, after_calls}
use Rattle.filling.proofs.Sizes.{Sized, sized}
use Rattle.filling.proofs.Steps.{Took, refused≢accepted, place-refused, place-taken}
use Rattle.filling.proofs.Begin.{begun, start-accepted}
use Rattle.filling.proofs.Runs.{step-consistent, call_keeps}
use Rattle.filling.proofs.Withdrawn.{Went, withdraw-consistent}
use Rattle.filling.proofs.Numbers31.{WithinBounds}
use Rattle.filling.proofs.WithinBounds.{jobs_within}
use Rattle.filling.proofs.OwnStates.{Own, own_consistent, own_start}
use Rattle.filling.proofs.OwnKept.{own_took, own_back, back-rearranged}

-- ---- the core step is never refused with 31

abbrev Not31 : Result (Unit {0}) Refusal → Type 0
Not31 v = v ≡ Err Why.Inconsistent → ⊥

number-not : (v : Result (Unit {0}) Refusal) (n : ℕ) → verdict_number v ≡ n → n ≢ 31 → Not31 v
unfolding verdict_number number_of
number-not v n e d f = d (sym e ∙ ap verdict_number f)

refuse_not : (t : Bool) (k : Refusal) (v : Result (Unit {0}) Refusal) → Not31 (Err k) → Not31 v → Not31 (refuse_if t k v)
unfolding refuse_if
refuse_not true k v a b = a
refuse_not false k v a b = b

strip-not : Not31 (Err Why.StripRoom)
unfolding verdict_number number_of
strip-not = number-not (Err Why.StripRoom) 20 refl (λ e. omega arith)

entry_not : Not31 (Err Why.EntryRoom)
unfolding verdict_number number_of
entry_not = number-not (Err Why.EntryRoom) 21 refl (λ e. omega arith)

interval_not : Not31 (Err Why.IntervalRoom)
unfolding verdict_number number_of
interval_not = number-not (Err Why.IntervalRoom) 22 refl (λ e. omega arith)

used_not : Not31 (Err Why.OrderUsedUp)
unfolding verdict_number number_of
used_not = number-not (Err Why.OrderUsedUp) 23 refl (λ e. omega arith)

accepted-not : Not31 (Ok tt)
unfolding verdict_number
accepted-not = number-not (Ok tt) 0 refl (λ e. omega arith)

winner-not : (p : Planner) (w : Rooms) (k : ℕ) (st : List Float) (cs : List Choice) → Not31 (winner_verdict p w k st cs)
unfolding winner_verdict store_verdict
winner-not p w k st [] = accepted-not
winner-not p w k st (c ∷ cs) = refuse_not _ Why.StripRoom _ strip-not (refuse_not _ Why.EntryRoom (Ok tt) entry_not accepted-not)

place-not : (p : Planner) (st : List Float) (ts : List Track) (k : ℕ) (s : State) (w : Rooms) (iv : List Float) → Not31 (place_copy p st ts k s w iv).verdict
unfolding no_step
place-not p st ts k s w iv = go (copy_verdict p w iv k st (get_or p.shapes k []) ts (search_all p st (get_or p.shapes k []) ts)) refl
  where
    verdict-not : Not31 (copy_verdict p w iv k st (get_or p.shapes k []) ts (search_all p st (get_or p.shapes k []) ts))
    verdict-not = unfold copy_verdict in refuse_not _ Why.IntervalRoom _ interval_not (winner-not p w k st _)

    go : (v : Result (Unit {0}) Refusal) → copy_verdict p w iv k st (get_or p.shapes k []) ts (search_all p st (get_or p.shapes k []) ts) ≡ v → Not31
        (place_copy p st ts k s w iv).verdict
    go (Ok tt) d = rw (place-taken p st ts k s w iv d) accepted-not
    go (Err r) d = rw (place-refused p st ts k s w iv r d) (rw d at verdict-not)

core_not : (j : Job) (s : State) (w : Rooms) (iv : List Float) → Not31 (core_step j s w iv).verdict
unfolding core_step
core_not j s w iv = go (drop s.taken (order_of j s))
  where
    go : (l : List ℕ) → Not31 (place_next j s w iv l).verdict
    go [] = unfold place_next in (unfold no_step in used_not)
    go (k ∷ ks) = unfold place_next in place-not _ _ _ k s w iv

-- ---- no call of a list

withdrawn-not : (j : Job) (p : Planner) (s : State) (w : Rooms) (n : ℕ) (cs : List Standing) → Not31 (withdrawn j p s w n cs).verdict
unfolding withdrawn no_withdrawal
withdrawn-not j p s w n [] = not-standing
  where
    not-standing : Not31 (Err Why.NotStanding)
    not-standing = unfold verdict_number in (unfold number_of in number-not (Err Why.NotStanding) 24 refl (λ e. omega arith))
withdrawn-not j p s w n (c ∷ cs) = accepted-not

call_consistent : (bytes : List ℕ) (j : Job) → read_job bytes ≡ accepted j → (s : State) (w : Rooms) → consistent j s w ≡ true → (c : Call) → Not31
    (call_step bytes c s w).verdict
unfolding call_step step_reply next_copy_of step_given withdraw_of withdraw_given
call_consistent bytes j e s w k (next_copy iv) = rw (e, step-consistent j s w iv k) (core_not j s w iv)
call_consistent bytes j e s w k (withdraw n) = rw (e, withdraw-consistent j s w n k) (withdrawn-not j (planner_at j s.tables w) s w n (standing_here s n))

-- an own state, whatever its order has become
record Owned (j : Job) (s : State) (w : Rooms) (q : Plain) : Type 0 where
  order : List ℕ
  own : Own j order s w q
  rearranges : rearranged j order ≡ true

owned_took : (j : Job) (z : Sized j) (b : WithinBounds (planner_of j)) (s : State) (w : Rooms) (q : Plain) → Owned j s w q → (r : Step) → Took j s w r →
    Owned j r.state r.rooms (plain_take (planner_of j) q q.to_come_lem)
owned_took j z b s w q h r t = record { order = h.order; own = own_took j z b h.order s w q h.own r t; rearranges = h.rearranges }

owned_back : (j : Job) (z : Sized j) (b : WithinBounds (planner_of j)) (s : State) (w : Rooms) (q : Plain) → Owned j s w q → (n : ℕ) (r : Reply) → Went j s w
    n r → Owned j r.state r.rooms (plain_back (planner_of j) n q)
owned_back j z b s w q h n r t = record {
  order = order_of j r.state;
  own = own_back j z b h.order s w q h.own n r t;
  rearranges = back-rearranged j z b
      h.order s w q h.own n r t;
}

module _ (bytes : List ℕ) (j : Job) (e : read_job bytes ≡ accepted j) (b : WithinBounds (planner_of j)) where
  run_not : (cs : List Call) (s : State) (w : Rooms) (q : Plain) → Owned j s w q → Memᴰ (Err Why.Inconsistent) (after_calls bytes cs s w).verdicts → ⊥
  unfolding after_calls
  run_not [] s w q h m = Memᴰ.not-nil m
  run_not (c ∷ cs) s w q h m =
      let z = sized bytes j e in
      let t = call_step bytes c s w in
      let h' = call_keeps j (Owned j) (λ s w q h. h.own.kept.linked) (owned_took j z b) (owned_back j z b) bytes e c s w q h in
      go (run_not cs t.state t.rooms _ h') (Memᴰ.cases_cons m)
    where
      go : (Memᴰ (Err Why.Inconsistent) (after_calls bytes cs (call_step bytes c s w).state (call_step bytes c s w).rooms).verdicts → ⊥)
          → (Err Why.Inconsistent ≡ (call_step bytes c s w).verdict) ⊎ Memᴰ (Err Why.Inconsistent)
          (after_calls bytes cs (call_step bytes c s w).state (call_step bytes c s w).rooms).verdicts → ⊥
      go below (inl d) = call_consistent bytes j e s w (own_consistent j h.order s w q (sized bytes j e) b h.rearranges h.own) c (sym d)
      go below (inr n) = below n

given-job : (bytes order : List ℕ) (l : Lent) → (start_of bytes order l).verdict ≡ Ok tt → (j : Job) × (read_job bytes ≡ accepted j)
unfolding start_of start_given no_start
given-job bytes order l v = go (read_job bytes) refl v
  where
    go : (g : Answer) → read_job bytes ≡ g → (start_given g order l).verdict ≡ Ok tt → (j : Job) × (read_job bytes ≡ accepted j)
    go (refused k) d v = absurd (refused≢accepted v)
    go (accepted j) d v = (j, d)

-- after an accepted start, whatever list of calls with whatever interval rooms: none is refused with 31
pub never-31 : (bytes order : List ℕ) (l : Lent) → (start_of bytes order l).verdict ≡ Ok tt → (calls : List Call)
    → Memᴰ (Err Why.Inconsistent) (after_calls bytes calls (start_of bytes order l).state (start_of bytes order l).lent.rooms).verdicts → ⊥
never-31 bytes order l v calls m =
    let g = given-job bytes order l v in
    let j = g.0 in
    let e = g.1 in
    let b = jobs_within bytes j e in
    let a = start-accepted bytes order l j e v in
    let z = sized bytes j e in
    let r = (begun j order l a.verdict_is).rearranges in
    let o : Own j order (start_of bytes order l).state (start_of bytes order l).lent.rooms (plain_start (planner_of j) order) = rw (a.state_is, a.rooms_is)
    (own_start j z b order l a.verdict_is) in
    let h : Owned j (start_of bytes order l).state (start_of bytes order l).lent.rooms (plain_start (planner_of j) order) = record
    { order = order; own = o; rearranges = r } in
    run_not bytes j e b calls (start_of bytes order l).state (start_of bytes order l).lent.rooms (plain_start (planner_of j) order) h m
