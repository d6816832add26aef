-- A call is refused exactly where a line of the tables holds, with the number first met: a next copy, a withdrawal, a start, a filling. A refused next copy or
-- withdrawal changes nothing. Of every state and every room. Assumes nothing.
use Rattle.std.specs.Prelude.{Result, Ok, Err}
use mathlib.Core.Path.{◌≡◌, refl, sym, ap, ◌∙◌}
use mathlib.Core.Logic.{◌⊎◌, inl, inr}
use mathlib.Core.Bool.{Bool, true, false}
use mathlib.Core.List.{List, [], ◌∷◌, ◌++◌}
use Prim.Native.Nat.{ℕ, zero, suc, ◌+◌}
use lib.ListN.{length, get_or, drop}
use lib.Dec.{ltb}
use lib.Ieee.{Float}
use Rattle.numbers.proofs.Truth.{either}
use Rattle.numbers.specs.Numbers.{pos_zero}
use Rattle.trapezoid.specs.Strip.{capacity}
use Rattle.index.specs.Buckets.{standing_capacity}
use Rattle.job.specs.Jobs.{Job, Answer, accepted, refused, read_job}
use Rattle.filling.specs.declared.State.{State}
use Rattle.filling.specs.declared.Refusal.{Refusal}
use Rattle.filling.specs.declared.Refusal.TheVariants as Why
use Rattle.filling.specs.Refusals.{refuse_if}
use Rattle.filling.specs.Shapes.{Planner, planner_of, Shape, Standing}
use Rattle.filling.specs.Search.{Found, Track, search_all}
use Rattle.filling.specs.Choice.{Choice, choices}
use Rattle.filling.specs.Rooms.{Rooms, Lent, interval_capacity, zeros}
use Rattle.filling.specs.State.{planner_at, order_of, tracks_of}
use Rattle.filling.specs.Consistent.{placed_strips_of, consistent}
use Rattle.filling.specs.Start.{prepare_verdict, start_verdict, first_state, first_rooms, no_start, good_start, start_job, start_given, start_of}
use Rattle.filling.specs.NextCopy.{interval_counts, any_above, new_strips, store_verdict, winner_verdict, copy_verdict, Step, no_step}
use Rattle.filling.specs.NextCopy.{place_copy, place_next, core_step, step_job, step_given, next_copy_of}
use Rattle.filling.specs.Withdraw.{Reply, no_withdrawal, standing_here, withdrawn, withdraw_job, withdraw_given, withdraw_of}
use Rattle.filling.specs.Fill.{Filling, filled, stopped, fill_from, fill_order, not_planned, planned_with, planned_by, fill_job, fill_given, fill_of}
use Rattle.filling.specs.RefusalLines.{Line, first_met, given_lines, position_line, prepare_lines, start_lines}
use Rattle.filling.specs.RefusalLines.{copy_lines, next_lines, step_lines, none_stands, withdraw_lines, copies_lines, order_lines, fill_lines}
use Rattle.filling.proofs.Runs.{step-consistent, step_inconsistent, fill-stopped, fill-runs}
use Rattle.filling.proofs.Reading.{capacity_append}
use Rattle.filling.proofs.Steps.{refused≢accepted, place-refused, place-taken, new_sixfold}
use Rattle.filling.proofs.Withdrawn.{withdraw-consistent, withdraw_inconsistent}
use Rattle.filling.proofs.FirstsKept.{placed_sixfold, placed_are}
use Rattle.filling.proofs.Begin.{start-refused, start-good}

-- ---- a single step

module _ (p : Planner) (w : Rooms) (iv : List Float) (k : ℕ) (st : List Float) (ss : List Shape) (ts : List Track) (fs : List Found) where
  copy_met : (cs : List Choice) → refuse_if (any_above (interval_capacity iv) (interval_counts p st ss ts fs)) Why.IntervalRoom (winner_verdict p w k st cs) ≡
      first_met (copy_lines p w iv k st ss ts fs cs)
  unfolding winner_verdict store_verdict first_met copy_lines
  copy_met [] = refl
  copy_met (a ∷ as') = refl

place-verdict : (p : Planner) (st : List Float) (ts : List Track) (k : ℕ) (s : State) (w : Rooms) (iv : List Float) → (place_copy p st ts k s w iv).verdict ≡
    copy_verdict p w iv k st (get_or p.shapes k []) ts (search_all p st (get_or p.shapes k []) ts)
unfolding no_step
place-verdict p st ts k s w iv = go (copy_verdict p w iv k st (get_or p.shapes k []) ts (search_all p st (get_or p.shapes k []) ts)) refl
  where
    go : (v : Result (Unit {0}) Refusal) → copy_verdict p w iv k st (get_or p.shapes k []) ts (search_all p st (get_or p.shapes k []) ts) ≡ v → (place_copy p st ts k s w
        iv).verdict ≡ copy_verdict p w iv k st (get_or p.shapes k []) ts (search_all p st (get_or p.shapes k []) ts)
    go (Ok tt) d = ap (λ r. r.verdict) (place-taken p st ts k s w iv d) ∙ sym d
    go (Err r) d = ap (λ r. r.verdict) (place-refused p st ts k s w iv r d) ∙ sym d

next_met : (j : Job) (s : State) (w : Rooms) (iv : List Float) (l : List ℕ) → (place_next j s w iv l).verdict ≡ first_met (next_lines j s w iv l)
unfolding place_next next_lines first_met no_step refuse_if copy_verdict
next_met j s w iv [] = refl
next_met j s w iv (k ∷ ks) =
    let p = planner_at j s.tables w in
    let st = placed_strips_of s w in
    let ts = get_or (tracks_of j s) k [] in
    place-verdict p st ts k s w iv ∙ copy_met p w iv k st (get_or p.shapes k []) ts (search_all p st (get_or p.shapes k []) ts)
    (choices p 0 (get_or p.shapes k []) (search_all p st (get_or p.shapes k []) ts))

step_met : (j : Job) (s : State) (w : Rooms) (iv : List Float) → (step_job j s w iv).verdict ≡ first_met (step_lines j s w iv)
unfolding step_lines first_met refuse_if no_step core_step
step_met j s w iv = go (either (consistent j s w))
  where
    go : (consistent j s w ≡ true) ⊎ (consistent j s w ≡ false) → (step_job j s w iv).verdict ≡ first_met (step_lines j s w iv)
    go (inl e) = rw (step-consistent j s w iv e, e) (next_met j s w iv (drop s.taken (order_of j s)))
    go (inr e) = rw (step_inconsistent j s w iv e, e)

-- "A call is refused exactly where a line of the tables holds for it, with the number first met": a job that is refused has its own number
pub next-copy-refused : (bytes : List ℕ) (s : State) (w : Rooms) (iv : List Float)
    → (next_copy_of bytes s w iv).verdict ≡ first_met (given_lines (read_job bytes) (λ j. step_lines j s w iv))
unfolding next_copy_of
next-copy-refused bytes s w iv = go (read_job bytes)
  where
    go : (a : Answer) → (step_given a s w iv).verdict ≡ first_met (given_lines a (λ j. step_lines j s w iv))
    go (refused k) = unfold step_given in (unfold no_step in (unfold given_lines in (unfold first_met in (unfold refuse_if in refl))))
    go (accepted j) = unfold step_given in (unfold given_lines in step_met j s w iv)

-- document 02, W4, "Strip room is short exactly when standing plus new strips exceed it": the test of the next copy's 20
pub strips-together : (j : Job) (s : State) (w : Rooms) → consistent j s w ≡ true → (p : Planner) (k : ℕ) (c : Choice)
    → let room = standing_capacity w.placed w.placed_firsts in
    ltb room (capacity (placed_strips_of s w ++ new_strips p k c)) ≡ ltb room (s.placed_strips + capacity (new_strips p k c))
strips-together j s w h p k c =
    ap (ltb (standing_capacity w.placed w.placed_firsts))
    (capacity_append (placed_strips_of s w) (new_strips p k c) (placed_sixfold j s w h) (new_sixfold p k c)
    ∙ ap (λ (n : ℕ). n + capacity (new_strips p k c)) (placed_are j s w h))

-- ---- a withdrawal

withdrawn_met : (j : Job) (p : Planner) (s : State) (w : Rooms) (n : ℕ) (cs : List Standing)
    → (withdrawn j p s w n cs).verdict ≡ refuse_if (none_stands cs) Why.NotStanding (Ok tt)
unfolding withdrawn no_withdrawal refuse_if none_stands
withdrawn_met j p s w n [] = refl
withdrawn_met j p s w n (c ∷ cs) = refl

withdraw_met : (j : Job) (s : State) (w : Rooms) (n : ℕ) → (withdraw_job j s w n).verdict ≡ first_met (withdraw_lines j s w n)
unfolding withdraw_lines first_met refuse_if no_withdrawal
withdraw_met j s w n = go (either (consistent j s w))
  where
    go : (consistent j s w ≡ true) ⊎ (consistent j s w ≡ false) → (withdraw_job j s w n).verdict ≡ first_met (withdraw_lines j s w n)
    go (inl e) = rw (withdraw-consistent j s w n e, e) (withdrawn_met j (planner_at j s.tables w) s w n (standing_here s n))
    go (inr e) = rw (withdraw_inconsistent j s w n e, e)

-- the same of a withdrawal
pub withdraw-refused : (bytes : List ℕ) (s : State) (w : Rooms) (n : ℕ)
    → (withdraw_of bytes s w n).verdict ≡ first_met (given_lines (read_job bytes) (λ j. withdraw_lines j s w n))
unfolding withdraw_of
withdraw-refused bytes s w n = go (read_job bytes)
  where
    go : (a : Answer) → (withdraw_given a s w n).verdict ≡ first_met (given_lines a (λ j. withdraw_lines j s w n))
    go (refused k) = unfold withdraw_given in (unfold no_withdrawal in (unfold given_lines in (unfold first_met in (unfold refuse_if in refl))))
    go (accepted j) = unfold withdraw_given in (unfold given_lines in withdraw_met j s w n)

-- ---- lines after lines

-- a verdict, or what is met later
abbrev pub or_later : Result (Unit {0}) Refusal → Result (Unit {0}) Refusal → Result (Unit {0}) Refusal
or_later (Ok tt) v = v
or_later (Err k) v = Err k

pub met_append : (ls ms : List Line) → first_met (ls ++ ms) ≡ or_later (first_met ls) (first_met ms)
unfolding first_met refuse_if
met_append [] ms = refl
met_append (l ∷ ls) ms = go l.holds (met_append ls ms)
  where
    go : (t : Bool) → first_met (ls ++ ms) ≡ or_later (first_met ls) (first_met ms)
        → refuse_if t l.refusal (first_met (ls ++ ms)) ≡ or_later (refuse_if t l.refusal (first_met ls)) (first_met ms)
    go true e = refl
    go false e = e

-- ---- a start

pub prepare_met : (p : Planner) (w : Rooms) → prepare_verdict p w ≡ first_met (prepare_lines p w)
unfolding prepare_verdict prepare_lines first_met
prepare_met p w = refl

pub start_met : (j : Job) (order : List ℕ) (l : Lent) → start_verdict j order l ≡ first_met (start_lines j order l)
unfolding start_verdict start_lines position_line prepare_verdict prepare_lines first_met
start_met j order l = refl

pub start-verdict : (j : Job) (order : List ℕ) (l : Lent) → (start_job j order l).verdict ≡ start_verdict j order l
unfolding no_start good_start
start-verdict j order l = go (start_verdict j order l) refl
  where
    go : (v : Result (Unit {0}) Refusal) → start_verdict j order l ≡ v → (start_job j order l).verdict ≡ start_verdict j order l
    go (Ok tt) d = ap (λ r. r.verdict) (start-good j order l d) ∙ sym d
    go (Err k) d = ap (λ r. r.verdict) (start-refused j order l k d) ∙ sym d

-- the same of a start
pub start-refused_where : (bytes order : List ℕ) (l : Lent) → (start_of bytes order l).verdict ≡ first_met (given_lines (read_job bytes) (λ j. start_lines j order l))
unfolding start_of
start-refused_where bytes order l = go (read_job bytes)
  where
    go : (a : Answer) → (start_given a order l).verdict ≡ first_met (given_lines a (λ j. start_lines j order l))
    go (refused k) = unfold start_given in (unfold no_start in (unfold given_lines in (unfold first_met in (unfold refuse_if in refl))))
    go (accepted j) = unfold start_given in (unfold given_lines in start-verdict j order l ∙ start_met j order l)

-- ---- a filling

-- what a filling is refused with
abbrev pub filling_verdict : Filling → Result (Unit {0}) Refusal
filling_verdict (filled s) = Ok tt
filling_verdict (stopped k) = Err k

copies_met : (j : Job) (iv : List Float) (n : ℕ) (s : State) (w : Rooms) → filling_verdict (fill_from j iv n s w) ≡ first_met (copies_lines j iv n s w)
unfolding fill_from copies_lines
copies_met j iv zero s w = unfold first_met in refl
copies_met j iv (suc n) s w =
    step (core_step j s w iv).verdict
    ∙ ap (or_later (core_step j s w iv).verdict) (copies_met j iv n (core_step j s w iv).state (core_step j s w iv).rooms)
    ∙ ap (λ v. or_later v (first_met (copies_lines j iv n (core_step j s w iv).state (core_step j s w iv).rooms))) core_met
    ∙ sym (met_append (next_lines j s w iv (drop s.taken (order_of j s))) (copies_lines j iv n (core_step j s w iv).state (core_step j s w iv).rooms))
  where
    later : Filling
    later = fill_from j iv n (core_step j s w iv).state (core_step j s w iv).rooms

    step : (v : Result (Unit {0}) Refusal) → filling_verdict (elim v [ Ok tt ↦ later | Err k ↦ stopped k ]) ≡ or_later v (filling_verdict later)
    step (Ok tt) = refl
    step (Err k) = refl

    core_met : (core_step j s w iv).verdict ≡ first_met (next_lines j s w iv (drop s.taken (order_of j s)))
    core_met = unfold core_step in next_met j s w iv (drop s.taken (order_of j s))

-- one filling in an order
pub order_met : (j : Job) (l : Lent) (order : List ℕ) → filling_verdict (fill_order j l order) ≡ first_met (order_lines j l order)
unfolding fill_order order_lines
order_met j l order = copies_met j l.intervals (length order) (first_state (planner_of j) order) (first_rooms (planner_of j) l.rooms)

planned_verdict : (j : Job) (l : Lent) (f : Filling) → (planned_by j l f).verdict ≡ filling_verdict f
unfolding planned_by planned_with not_planned
planned_verdict j l (filled s) = refl
planned_verdict j l (stopped k) = refl

fill_met : (j : Job) (order : List ℕ) (l : Lent) → (fill_job j order l).verdict ≡ first_met (fill_lines j order l)
unfolding fill_lines not_planned
fill_met j order l = go (start_verdict j order l) refl ∙ sym (met_append (start_lines j order l) (order_lines j l order))
  where
    later : Result (Unit {0}) Refusal
    later = first_met (order_lines j l order)

    go : (v : Result (Unit {0}) Refusal) → start_verdict j order l ≡ v → (fill_job j order l).verdict ≡ or_later (first_met (start_lines j order l)) later
    go (Ok tt) d =
        ap (λ r. r.verdict) (fill-runs j order l d) ∙ planned_verdict j l (fill_order j l order) ∙ order_met j l order
        ∙ ap (λ v. or_later v later) (sym d ∙ start_met j order l)
    go (Err k) d = ap (λ r. r.verdict) (fill-stopped j order l k d) ∙ ap (λ v. or_later v later) (sym d ∙ start_met j order l)

-- the same of a filling in a given order
pub fill-refused_where : (bytes order : List ℕ) (l : Lent) → (fill_of bytes order l).verdict ≡ first_met (given_lines (read_job bytes) (λ j. fill_lines j order l))
unfolding fill_of
fill-refused_where bytes order l = go (read_job bytes)
  where
    go : (a : Answer) → (fill_given a order l).verdict ≡ first_met (given_lines a (λ j. fill_lines j order l))
    go (refused k) = unfold fill_given in (unfold not_planned in (unfold given_lines in (unfold first_met in (unfold refuse_if in refl))))
    go (accepted j) = unfold fill_given in (unfold given_lines in fill_met j order l)

-- ---- what a step leaves

data Leaves (s : State) (w : Rooms) (iv : List Float) (r : Step) : Type 0 where
  unchanged : r.state ≡ s → r.rooms ≡ w → r.intervals ≡ zeros pos_zero iv → Leaves s w iv r
  taken : r.verdict ≡ Ok tt → r.intervals ≡ zeros pos_zero iv → Leaves s w iv r

no_step_lem : (k : Refusal) (s : State) (w : Rooms) (iv : List Float) → Leaves s w iv (no_step k s w iv)
unfolding no_step
no_step_lem k s w iv = unchanged refl refl refl

place_leaves : (p : Planner) (st : List Float) (ts : List Track) (k : ℕ) (s : State) (w : Rooms) (iv : List Float) → Leaves s w iv (place_copy p st ts k s w iv)
place_leaves p st ts k s w iv = go (copy_verdict p w iv k st (get_or p.shapes k []) ts (search_all p st (get_or p.shapes k []) ts)) refl
  where
    go : (v : Result (Unit {0}) Refusal) → copy_verdict p w iv k st (get_or p.shapes k []) ts (search_all p st (get_or p.shapes k []) ts) ≡ v → Leaves s w iv
        (place_copy p st ts k s w iv)
    go (Ok tt) d = rw (place-taken p st ts k s w iv d) (taken refl refl)
    go (Err r) d = rw (place-refused p st ts k s w iv r d) (no_step_lem r s w iv)

core_leaves : (j : Job) (s : State) (w : Rooms) (iv : List Float) → Leaves s w iv (core_step j s w iv)
unfolding core_step place_next
core_leaves j s w iv = go (drop s.taken (order_of j s))
  where
    go : (l : List ℕ) → Leaves s w iv (place_next j s w iv l)
    go [] = no_step_lem Why.OrderUsedUp s w iv
    go (k ∷ ks) = place_leaves (planner_at j s.tables w) (placed_strips_of s w) (get_or (tracks_of j s) k []) k s w iv

job_leaves : (j : Job) (s : State) (w : Rooms) (iv : List Float) → Leaves s w iv (step_job j s w iv)
job_leaves j s w iv = go (either (consistent j s w))
  where
    go : (consistent j s w ≡ true) ⊎ (consistent j s w ≡ false) → Leaves s w iv (step_job j s w iv)
    go (inl e) = rw (step-consistent j s w iv e) (core_leaves j s w iv)
    go (inr e) = rw (step_inconsistent j s w iv e) (no_step_lem Why.Inconsistent s w iv)

leaves : (bytes : List ℕ) (s : State) (w : Rooms) (iv : List Float) → Leaves s w iv (next_copy_of bytes s w iv)
unfolding next_copy_of step_given
leaves bytes s w iv = go (read_job bytes)
  where
    go : (g : Answer) → Leaves s w iv (step_given g s w iv)
    go (refused k) = no_step_lem (Why.Job k) s w iv
    go (accepted j) = job_leaves j s w iv

-- "a refused call changes nothing": "A refused single step returns state, strip and entry rooms unchanged; every single step leaves zeros in the
-- interval room."
pub next-copy_leaves : (bytes : List ℕ) (s : State) (w : Rooms) (iv : List Float)
    → ((next_copy_of bytes s w iv).intervals ≡ zeros pos_zero iv)
    × ((k : Refusal) → (next_copy_of bytes s w iv).verdict ≡ Err k → ((next_copy_of bytes s w iv).state ≡ s) × ((next_copy_of bytes s w iv).rooms ≡ w))
next-copy_leaves bytes s w iv = go (leaves bytes s w iv)
  where
    go : Leaves s w iv (next_copy_of bytes s w iv)
        → ((next_copy_of bytes s w iv).intervals ≡ zeros pos_zero iv)
        × ((k : Refusal) → (next_copy_of bytes s w iv).verdict ≡ Err k → ((next_copy_of bytes s w iv).state ≡ s) × ((next_copy_of bytes s w iv).rooms ≡ w))
    go (unchanged a b c) = (c, λ k f. (a, b))
    go (taken a c) = (c, λ k f. absurd (refused≢accepted (sym f ∙ a)))

-- ---- what a withdrawal leaves

data Rests (s : State) (w : Rooms) (r : Reply) : Type 0 where
  rests : r.state ≡ s → r.rooms ≡ w → Rests s w r
  gone : r.verdict ≡ Ok tt → Rests s w r

module _ (s : State) (w : Rooms) (n : ℕ) where
  no_withdrawal_lem : (k : Refusal) → Rests s w (no_withdrawal k s w)
  unfolding no_withdrawal
  no_withdrawal_lem k = rests refl refl

  withdrawn-rests : (j : Job) (p : Planner) (cs : List Standing) → Rests s w (withdrawn j p s w n cs)
  unfolding withdrawn
  withdrawn-rests j p [] = no_withdrawal_lem Why.NotStanding
  withdrawn-rests j p (c ∷ cs) = gone refl

  job-rests : (j : Job) → Rests s w (withdraw_job j s w n)
  job-rests j = go (either (consistent j s w))
    where
      go : (consistent j s w ≡ true) ⊎ (consistent j s w ≡ false) → Rests s w (withdraw_job j s w n)
      go (inl e) = rw (withdraw-consistent j s w n e) (withdrawn-rests j (planner_at j s.tables w) (standing_here s n))
      go (inr e) = rw (withdraw_inconsistent j s w n e) (no_withdrawal_lem Why.Inconsistent)

  given-rests : (a : Answer) → Rests s w (withdraw_given a s w n)
  unfolding withdraw_given
  given-rests (refused k) = no_withdrawal_lem (Why.Job k)
  given-rests (accepted j) = job-rests j

-- document 02, W4: "state and rooms unchanged"
pub withdraw-rests : (bytes : List ℕ) (s : State) (w : Rooms) (n : ℕ) (k : Refusal) → (withdraw_of bytes s w n).verdict ≡ Err k
    → ((withdraw_of bytes s w n).state ≡ s) × ((withdraw_of bytes s w n).rooms ≡ w)
unfolding withdraw_of
withdraw-rests bytes s w n k f = go (given-rests s w n (read_job bytes))
  where
    go : Rests s w (withdraw_of bytes s w n) → ((withdraw_of bytes s w n).state ≡ s) × ((withdraw_of bytes s w n).rooms ≡ w)
    go (rests a b) = (a, b)
    go (gone a) = absurd (refused≢accepted (sym f ∙ a))
