-- Every call leaves true bucket numbers where it is given true ones (document 02, W3 and W4), and a false one is refused with 31. Assumes nothing.
use Rattle.std.specs.Prelude.{Result, Ok, Err}
use mathlib.Core.Path.{◌≡◌, refl, ap₂, ◌∙◌}
use mathlib.Core.Logic.{◌⊎◌, inl, inr}
use mathlib.Core.Bool.{true, false, ◌&&◌}
use mathlib.Core.List.{List, [], ◌∷◌, ◌++◌}
use Prim.Native.Nat.{ℕ, ◌+◌, ◌-◌, ◌*◌, ◌≤◌, min}
use native.Mathlib.Omega.{arith}
use lib.ListN.{get_or, take, drop, length-take, length-drop, length-append}
use lib.Seq.{length-take-le}
use lib.Dec.{leb}
use lib.Ieee.{Float}
use borrow.Author.Tests.{leb-true}
use Rattle.numbers.proofs.Truth.{either, clash, both_first, both_second}
use Rattle.numbers.specs.Numbers.{pos_zero}
use Rattle.trapezoid.specs.Strip.{capacity}
use Rattle.index.specs.Buckets.{standing_capacity}
use Rattle.index.proofs.Standing.{standing-within}
use Rattle.strips.specs.declared.Rect.{Rect}
use Rattle.job.specs.Jobs.{Job, Answer, accepted, refused, read_job}
use Rattle.filling.specs.declared.State.{State}
use Rattle.filling.specs.declared.Refusal.{Refusal}
use Rattle.filling.specs.declared.Refusal.TheVariants as Why
use Rattle.filling.specs.Refusals.{number_of, verdict_number}
use Rattle.filling.specs.Shapes.{Shape, Planner, Standing, copy_strips, standing_strips}
use Rattle.filling.specs.Search.{Found, Track, search_all, searched_all}
use Rattle.filling.specs.Choice.{Choice, choices, best}
use Rattle.filling.specs.Rooms.{Rooms, Lent, laid, zeros}
use Rattle.filling.specs.Order.{rearranged}
use Rattle.filling.specs.State.{planner_at, order_of, standing_to, standing_of, tracks_of}
use Rattle.filling.specs.Consistent.{taken_fits, strip_counts_fit, parts_fit, strips_fit, planner_fits, layout_fits, gaps_fit, track_table_fits, copies_fit}
use Rattle.filling.specs.Consistent.{entries_fit, consistent, numbers_lie, sheet_strips_of, placed_strips_of, firsts_for, firsts_fit}
use Rattle.filling.specs.Start.{start_of}
use Rattle.filling.specs.NextCopy.{new_strips, copy_verdict, state_with, state_after, stored, rooms_after, Step, no_step}
use Rattle.filling.specs.NextCopy.{place_copy, place_next, core_step, step_job, step_given, next_copy_of}
use Rattle.filling.specs.Withdraw.{strips_left, strips_without, state_without, rooms_without, Reply, no_withdrawal, standing_here}
use Rattle.filling.specs.Withdraw.{withdrawn, withdraw_job, withdraw_given, withdraw_of}
use Rattle.filling.specs.Calls.{Call, next_copy, withdraw, step_reply, call_step, after_calls}
use Rattle.filling.proofs.Reading.{Sixfold, sixfold_of, sixfold_append, take-laid}
use Rattle.filling.proofs.Steps.{new_sixfold, place-refused, place-taken}
use Rattle.filling.proofs.Runs.{step-consistent, step_inconsistent}
use Rattle.filling.proofs.Withdrawn.{withdraw-consistent, withdraw_inconsistent}
use Rattle.filling.proofs.FirstBuckets.{numbers-laid, start_firsts}

-- ---- a copy taken

placed_lie : (b c : Rect) (now room : List Float) (firsts : List ℕ) → Sixfold now → c ≡ b
    → numbers_lie (firsts_for b (take (6 * capacity now) (laid now room))) (laid (firsts_for c now) firsts) ≡ true
placed_lie b c now room firsts q e =
    ap₂ (λ (part : List Float) (d : Rect). numbers_lie (firsts_for b part) (laid (firsts_for d now) firsts)) (take-laid now room (6 * capacity now) q) e
    ∙ numbers-laid (firsts_for b now) firsts

-- state and rooms after it, given what the orientations found
pub after_firsts : (p : Planner) (k : ℕ) (ts : List Track) (s : State) (w : Rooms) (st : List Float) (cs : List Choice)
    → p.bounds ≡ s.tables.sheet_bounds → Sixfold st → firsts_fit s w ≡ true → firsts_fit (state_after p k ts s st cs) (rooms_after p k w st cs) ≡ true
unfolding state_after state_with rooms_after stored firsts_fit sheet_strips_of placed_strips_of
after_firsts p k ts s w st [] e q h = h
after_firsts p k ts s w st (a ∷ as') e q h =
    let new = new_strips p k (best a as') in
    let b = s.tables.sheet_bounds in
    ap₂ ◌&&◌ (both_first (numbers_lie (firsts_for b (take (6 * s.tables.sheet_strips) w.sheet)) w.sheet_firsts) _ h)
    (placed_lie b p.bounds (st ++ new) w.placed w.placed_firsts (sixfold_append st new q (new_sixfold p k (best a as'))) e)

-- ---- a copy taken back

left_sixfold : (a m : ℕ) (l : List Float) → Sixfold l → Sixfold (strips_left a m l)
unfolding strips_left
left_sixfold a m l h =
    let t = length-take (6 * a) l in
    let d = length-drop (6 * (a + m)) l in
    let e = length-append (take (6 * a) l) (drop (6 * (a + m)) l) in
    sixfold_of (min a (capacity l) + (capacity l - (a + m))) (take (6 * a) l ++ drop (6 * (a + m)) l) (omega arith)

-- state and rooms after it, given the strips that are left
pub back_firsts : (j : Job) (p : Planner) (s : State) (w : Rooms) (n : ℕ) (c : Standing) (strips : List Float)
    → p.bounds ≡ s.tables.sheet_bounds → Sixfold strips → firsts_fit s w ≡ true → firsts_fit (state_without j p s n c strips) (rooms_without p w strips) ≡ true
unfolding state_without rooms_without firsts_fit sheet_strips_of placed_strips_of
back_firsts j p s w n c strips e q h =
    let b = s.tables.sheet_bounds in
    ap₂ ◌&&◌ (both_first (numbers_lie (firsts_for b (take (6 * s.tables.sheet_strips) w.sheet)) w.sheet_firsts) _ h)
    (placed_lie b p.bounds strips (zeros pos_zero w.placed) (zeros 0 w.placed_firsts) q e)

-- ---- a next copy

abbrev TrueAfter : Step → Type 0
TrueAfter r = firsts_fit r.state r.rooms ≡ true

no_step_lem : (k : Refusal) (s : State) (w : Rooms) (iv : List Float) → firsts_fit s w ≡ true → TrueAfter (no_step k s w iv)
unfolding no_step
no_step_lem k s w iv h = h

module _ (p : Planner) (st : List Float) (ts : List Track) (k : ℕ) (s : State) (w : Rooms) (iv : List Float) where
  abbrev Ss : List Shape
  Ss = get_or p.shapes k []

  abbrev Fs : List Found
  Fs = search_all p st (get_or p.shapes k []) ts

  place_firsts : p.bounds ≡ s.tables.sheet_bounds → Sixfold st → firsts_fit s w ≡ true → TrueAfter (place_copy p st ts k s w iv)
  place_firsts e q h = go (copy_verdict p w iv k st Ss ts Fs) refl
    where
      go : (v : Result (Unit {0}) Refusal) → copy_verdict p w iv k st Ss ts Fs ≡ v → TrueAfter (place_copy p st ts k s w iv)
      go (Ok tt) d = rw (place-taken p st ts k s w iv d) (after_firsts p k (searched_all p Ss ts Fs) s w st (choices p 0 Ss Fs) e q h)
      go (Err r) d = rw (place-refused p st ts k s w iv r d) (no_step_lem r s w iv h)

-- 31's tests that speak of strips and their numbers
module _ (j : Job) (s : State) (w : Rooms) (c : consistent j s w ≡ true) where
  counts_of : strip_counts_fit s.tables s.placed_strips w ≡ true
  unfolding consistent
  counts_of = both_first (strip_counts_fit s.tables s.placed_strips w) _ (both_second (taken_fits j s) _ c)

  pub firsts_of_lem : firsts_fit s w ≡ true
  unfolding consistent
  firsts_of_lem =
      let p = planner_at j s.tables w in
      let c1 = both_second (taken_fits j s) _ c in
      let c2 = both_second (strip_counts_fit s.tables s.placed_strips w) _ c1 in
      let c3 = both_second (parts_fit j s.tables w) _ c2 in
      let c4 = both_second (rearranged j (order_of j s)) _ c3 in
      let c5 = both_second (planner_fits p) _ c4 in
      let c6 = both_second (strips_fit (placed_strips_of s w)) _ c5 in
      let c7 = both_second (layout_fits s.layout.right s.layout.unplaced_area) _ c6 in
      let c8 = both_second (gaps_fit s) _ c7 in
      let c9 = both_second (track_table_fits p s.taken p.shapes (tracks_of j s)) _ c8 in
      let c10 = both_second (copies_fit j p (standing_of s) (placed_strips_of s w)) _ c9 in
      both_second (entries_fit p w (placed_strips_of s w)) (firsts_fit s w) c10

  pub placed-count : s.placed_strips ≤ standing_capacity w.placed w.placed_firsts
  unfolding strip_counts_fit
  placed-count =
      let n = standing_capacity w.placed w.placed_firsts in
      let a = both_second (leb s.tables.sheet_strips (standing_capacity w.sheet w.sheet_firsts)) _ counts_of in
      leb-true s.placed_strips n (both_second (leb s.tables.apart_strips (capacity w.shapes)) _ a)

  pub placed_sixfold : Sixfold (placed_strips_of s w)
  unfolding placed_strips_of
  placed_sixfold =
      let n = s.placed_strips in
      sixfold_of n (take (6 * n) w.placed) (length-take-le (6 * n) w.placed (standing-within n w.placed w.placed_firsts placed-count))

  pub placed_are : capacity (placed_strips_of s w) ≡ s.placed_strips
  unfolding placed_strips_of capacity
  placed_are =
      let n = s.placed_strips in
      let l = length-take-le (6 * n) w.placed (standing-within n w.placed w.placed_firsts placed-count) in
      omega arith

bounds_are : (j : Job) (s : State) (w : Rooms) → (planner_at j s.tables w).bounds ≡ s.tables.sheet_bounds
unfolding planner_at
bounds_are j s w = refl

core_firsts : (j : Job) (s : State) (w : Rooms) (iv : List Float) → consistent j s w ≡ true → TrueAfter (core_step j s w iv)
unfolding core_step place_next
core_firsts j s w iv c = go (drop s.taken (order_of j s))
  where
    go : (l : List ℕ) → TrueAfter (place_next j s w iv l)
    go [] = no_step_lem Why.OrderUsedUp s w iv (firsts_of_lem j s w c)
    go (k ∷ ks) =
        place_firsts (planner_at j s.tables w) (placed_strips_of s w) (get_or (tracks_of j s) k []) k s w iv (bounds_are j s w) (placed_sixfold j s w c)
        (firsts_of_lem j s w c)

job_firsts : (j : Job) (s : State) (w : Rooms) (iv : List Float) → firsts_fit s w ≡ true → TrueAfter (step_job j s w iv)
job_firsts j s w iv h = go (either (consistent j s w))
  where
    go : (consistent j s w ≡ true) ⊎ (consistent j s w ≡ false) → TrueAfter (step_job j s w iv)
    go (inl e) = rw (step-consistent j s w iv e) (core_firsts j s w iv e)
    go (inr e) = rw (step_inconsistent j s w iv e) (no_step_lem Why.Inconsistent s w iv h)

-- the next copy, of whatever bytes, state and rooms, whatever it answers
pub next-copy_firsts : (bytes : List ℕ) (s : State) (w : Rooms) (iv : List Float) → firsts_fit s w ≡ true
    → firsts_fit (next_copy_of bytes s w iv).state (next_copy_of bytes s w iv).rooms ≡ true
unfolding next_copy_of
next-copy_firsts bytes s w iv h = go (read_job bytes)
  where
    go : (a : Answer) → TrueAfter (step_given a s w iv)
    go (refused k) = unfold step_given in no_step_lem (Why.Job k) s w iv h
    go (accepted j) = unfold step_given in job_firsts j s w iv h

-- ---- a withdrawal

module _ (s : State) (w : Rooms) (n : ℕ) where
  abbrev TrueLeft : Reply → Type 0
  TrueLeft r = firsts_fit r.state r.rooms ≡ true

  no_withdrawal_lem : (k : Refusal) → firsts_fit s w ≡ true → TrueLeft (no_withdrawal k s w)
  unfolding no_withdrawal
  no_withdrawal_lem k h = h

  withdrawn_firsts : (j : Job) → consistent j s w ≡ true → (cs : List Standing) → TrueLeft (withdrawn j (planner_at j s.tables w) s w n cs)
  unfolding withdrawn strips_without
  withdrawn_firsts j c [] = no_withdrawal_lem Why.NotStanding (firsts_of_lem j s w c)
  withdrawn_firsts j c (a ∷ as') =
      let p = planner_at j s.tables w in
      back_firsts j p s w n a (strips_without p s n a (placed_strips_of s w)) (bounds_are j s w)
      (left_sixfold (capacity (standing_strips p (standing_to s n))) (capacity (copy_strips p a)) (placed_strips_of s w) (placed_sixfold j s w c))
      (firsts_of_lem j s w c)

  taken_back : (j : Job) → firsts_fit s w ≡ true → TrueLeft (withdraw_job j s w n)
  taken_back j h = go (either (consistent j s w))
    where
      go : (consistent j s w ≡ true) ⊎ (consistent j s w ≡ false) → TrueLeft (withdraw_job j s w n)
      go (inl e) = rw (withdraw-consistent j s w n e) (withdrawn_firsts j e (standing_here s n))
      go (inr e) = rw (withdraw_inconsistent j s w n e) (no_withdrawal_lem Why.Inconsistent h)

  -- of whatever bytes, state and rooms, whatever it answers
  withdraw_firsts : (bytes : List ℕ) → firsts_fit s w ≡ true → TrueLeft (withdraw_of bytes s w n)
  unfolding withdraw_of
  withdraw_firsts bytes h = go (read_job bytes)
    where
      go : (a : Answer) → TrueLeft (withdraw_given a s w n)
      go (refused k) = unfold withdraw_given in no_withdrawal_lem (Why.Job k) h
      go (accepted j) = unfold withdraw_given in taken_back j h

-- ---- lists of calls

-- every call
call_firsts : (bytes : List ℕ) (c : Call) (s : State) (w : Rooms) → firsts_fit s w ≡ true
    → firsts_fit (call_step bytes c s w).state (call_step bytes c s w).rooms ≡ true
unfolding call_step step_reply
call_firsts bytes (next_copy iv) s w h = next-copy_firsts bytes s w iv h
call_firsts bytes (withdraw n) s w h = withdraw_firsts s w n bytes h

-- every list of calls
pub calls_firsts : (bytes : List ℕ) (calls : List Call) (s : State) (w : Rooms) → firsts_fit s w ≡ true
    → firsts_fit (after_calls bytes calls s w).state (after_calls bytes calls s w).rooms ≡ true
unfolding after_calls
calls_firsts bytes [] s w h = h
calls_firsts bytes (c ∷ calls) s w h = calls_firsts bytes calls (call_step bytes c s w).state (call_step bytes c s w).rooms (call_firsts bytes c s w h)

-- every list of calls after a start
pub calls_after-start : (bytes order : List ℕ) (l : Lent) (calls : List Call)
    → let r = after_calls bytes calls (start_of bytes order l).state (start_of bytes order l).lent.rooms in firsts_fit r.state r.rooms ≡ true
calls_after-start bytes order l calls =
    calls_firsts bytes calls (start_of bytes order l).state (start_of bytes order l).lent.rooms (start_firsts bytes order l)

-- ---- "a false bucket number is 31"

false_inconsistent : (j : Job) (s : State) (w : Rooms) → firsts_fit s w ≡ false → consistent j s w ≡ false
false_inconsistent j s w f = go (either (consistent j s w))
  where
    go : (consistent j s w ≡ true) ⊎ (consistent j s w ≡ false) → consistent j s w ≡ false
    go (inl e) = absurd (clash (firsts_of_lem j s w e) f)
    go (inr e) = e

-- state and rooms are unchanged
pub false-refused : (bytes : List ℕ) (j : Job) → read_job bytes ≡ accepted j → (s : State) (w : Rooms) (iv : List Float) → firsts_fit s w ≡ false
    → next_copy_of bytes s w iv ≡ no_step Why.Inconsistent s w iv
unfolding next_copy_of step_given
false-refused bytes j e s w iv f = rw e (step_inconsistent j s w iv (false_inconsistent j s w f))

pub number-31 : (s : State) (w : Rooms) (iv : List Float) → verdict_number (no_step Why.Inconsistent s w iv).verdict ≡ 31
unfolding no_step verdict_number number_of
number-31 s w iv = refl
