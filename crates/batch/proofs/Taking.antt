-- The laws of a batch for the loop that takes it: one copy more, the end, and the copies counted before. Assumes nothing.
use Rattle.std.specs.Prelude.{Result, Ok, Err}
use Prim.Native.Nat.{ℕ, suc, ◌+◌, ◌≤◌, ◌<◌}
use native.Mathlib.Omega.{arith}
use mathlib.Core.Path.{◌≡◌, refl, ap, ◌∙◌}
use mathlib.Core.Bool.{Bool, true, false}
use mathlib.Core.List.{List, [], ◌∷◌}
use lib.ListN.{get_or, drop}
use lib.Ieee.{Float}
use borrow.Author.Tests.{lt-ltb, le-ltb}
use Rattle.numbers.specs.Numbers.{pos_zero}
use Rattle.bits.specs.declared.Refusal as Input
use Rattle.bits.specs.declared.Refusal.TheVariants as Wrong
use Rattle.job.specs.Jobs.{Job, refused, read_job}
use Rattle.filling.specs.declared.State.{State}
use Rattle.filling.specs.declared.Refusal.{Refusal}
use Rattle.filling.specs.declared.Refusal.TheVariants as Why
use Rattle.filling.specs.Shapes.{Planner}
use Rattle.filling.specs.Search.{Track, search_all}
use Rattle.filling.specs.Rooms.{Rooms, zeros}
use Rattle.filling.specs.State.{planner_at, order_of, tracks_of}
use Rattle.filling.specs.Consistent.{placed_strips_of}
use Rattle.filling.specs.NextCopy.{copy_verdict, Step, no_step, place_copy, place_next, core_step, step_given, next_copy_of}
use Rattle.filling.proofs.Reading.{length-zeros, zeros-same}
use Rattle.filling.proofs.Steps.{place-refused, place-taken}
use Rattle.batch.specs.NextCopies.{Batch, none_taken, one_more, batch_from, next_copies_of}
use Rattle.batch.specs.inner.Tested.{copy_fits, step_tested, tested_from, more_taken}

-- ---- the interval room

-- zeros stay zeros
pub zeros_again : (l : List Float) → zeros pos_zero (zeros pos_zero l) ≡ zeros pos_zero l
zeros_again l = zeros-same pos_zero (zeros pos_zero l) l (length-zeros pos_zero l)

no_step-intervals : (k : Refusal) (s : State) (w : Rooms) (iv : List Float) → (no_step k s w iv).intervals ≡ zeros pos_zero iv
unfolding no_step
no_step-intervals k s w iv = refl

place-intervals : (p : Planner) (st : List Float) (ts : List Track) (k : ℕ) (s : State) (w : Rooms) (iv : List Float)
    → (place_copy p st ts k s w iv).intervals ≡ zeros pos_zero iv
unfolding no_step
place-intervals p st ts k s w iv = go (copy_verdict p w iv k st (get_or p.shapes k []) ts (search_all p st (get_or p.shapes k []) ts)) refl
  where
    go : (v : Result (Unit {0}) Refusal) → copy_verdict p w iv k st (get_or p.shapes k []) ts (search_all p st (get_or p.shapes k []) ts) ≡ v
        → (place_copy p st ts k s w iv).intervals ≡ zeros pos_zero iv
    go (Ok tt) d = ap (λ (q : Step). q.intervals) (place-taken p st ts k s w iv d)
    go (Err r) d = ap (λ (q : Step). q.intervals) (place-refused p st ts k s w iv r d)

core_intervals : (j : Job) (s : State) (w : Rooms) (iv : List Float) → (core_step j s w iv).intervals ≡ zeros pos_zero iv
unfolding core_step
core_intervals j s w iv = go (drop s.taken (order_of j s))
  where
    go : (l : List ℕ) → (place_next j s w iv l).intervals ≡ zeros pos_zero iv
    go [] = unfold place_next in no_step-intervals Why.OrderUsedUp s w iv
    go (k ∷ ks) = unfold place_next in place-intervals (planner_at j s.tables w) (placed_strips_of s w) (get_or (tracks_of j s) k []) k s w iv

-- every step leaves zeros, whatever it answers
pub step-intervals : (j : Job) (s : State) (w : Rooms) (iv : List Float) (fits : Bool) → (step_tested j s w iv fits).intervals ≡ zeros pos_zero iv
unfolding step_tested
step-intervals j s w iv true = core_intervals j s w iv
step-intervals j s w iv false = no_step-intervals Why.Inconsistent s w iv

-- ---- one turn

-- none is asked for
pub tested_none : (j : Job) (s : State) (w : Rooms) (iv : List Float) (fits : Bool) → tested_from j 0 s w iv fits ≡ none_taken (Ok tt) s w iv
unfolding tested_from
tested_none j s w iv fits = refl

-- the next copy is taken
pub tested_more : (j : Job) (n : ℕ) (s : State) (w : Rooms) (iv : List Float) (fits : Bool) → (step_tested j s w iv fits).verdict ≡ (Ok tt)
    → let r = step_tested j s w iv fits in
    tested_from j (suc n) s w iv fits
    ≡ one_more (tested_from j n r.state r.rooms r.intervals (copy_fits j s.taken s.placed_strips r.state r.rooms))
unfolding tested_from
tested_more j n s w iv fits v = rw (v, tested_from)

-- it is refused
pub tested_stop : (j : Job) (n : ℕ) (s : State) (w : Rooms) (iv : List Float) (fits : Bool) (k : Refusal) → (step_tested j s w iv fits).verdict ≡ Err k
    → let r = step_tested j s w iv fits in
    tested_from j (suc n) s w iv fits ≡ none_taken (Err k) r.state r.rooms r.intervals
unfolding tested_from
tested_stop j n s w iv fits k v = rw (v, tested_from)

-- ---- copies counted before

pub more_none : (q : Batch) → more_taken 0 q ≡ q
unfolding more_taken
more_none q =
    let e : 0 + q.took ≡ q.took = omega arith in
    ap (λ (n : ℕ). record { took = n; verdict = q.verdict; state = q.state; rooms = q.rooms; intervals = q.intervals }) e

pub more_one : (m : ℕ) (q : Batch) → more_taken m (one_more q) ≡ more_taken (suc m) q
unfolding more_taken one_more
more_one m q =
    let e : m + suc q.took ≡ suc m + q.took = omega arith in
    ap (λ (n : ℕ). record { took = n; verdict = q.verdict; state = q.state; rooms = q.rooms; intervals = q.intervals }) e

-- ---- a batch's first call

pub batch_more : (bytes : List ℕ) (n : ℕ) (s : State) (w : Rooms) (iv : List Float) → (next_copy_of bytes s w iv).verdict ≡ (Ok tt)
    → let r = next_copy_of bytes s w iv in batch_from bytes (suc n) s w iv ≡ one_more (batch_from bytes n r.state r.rooms r.intervals)
unfolding batch_from
batch_more bytes n s w iv v = rw (v, batch_from)

pub batch_stop : (bytes : List ℕ) (n : ℕ) (s : State) (w : Rooms) (iv : List Float) (k : Refusal) → (next_copy_of bytes s w iv).verdict ≡ Err k
    → let r = next_copy_of bytes s w iv in batch_from bytes (suc n) s w iv ≡ none_taken (Err k) r.state r.rooms r.intervals
unfolding batch_from
batch_stop bytes n s w iv k v = rw (v, batch_from)

-- a job that the reader refuses: its number, and nothing changed
pub batch_refused : (bytes : List ℕ) (k : Input.Refusal) → read_job bytes ≡ refused k → (n : ℕ) (s : State) (w : Rooms) (iv : List Float)
    → batch_from bytes (suc n) s w iv ≡ none_taken (Err (Why.Job k)) s w (zeros pos_zero iv)
unfolding no_step
batch_refused bytes k e n s w iv =
    batch_stop bytes n s w iv (Why.Job k) (ap (λ (q : Step). q.verdict) step)
    ∙ ap (λ (q : Step). none_taken (Err (Why.Job k)) q.state q.rooms q.intervals) step
  where
    step : next_copy_of bytes s w iv ≡ no_step (Why.Job k) s w iv
    step = unfold next_copy_of in (unfold step_given in rw e)

-- ---- the operation

-- up to 4,096
pub copies_upto : (bytes : List ℕ) (n : ℕ) (s : State) (w : Rooms) (iv : List Float) → n ≤ 4096
    → next_copies_of bytes n s w iv ≡ batch_from bytes n s w (zeros pos_zero iv)
unfolding next_copies_of
copies_upto bytes n s w iv h = rw (le-ltb 4096 n h, next_copies_of)

-- more: 6
pub copies_over : (bytes : List ℕ) (n : ℕ) (s : State) (w : Rooms) (iv : List Float) → 4096 < n
    → next_copies_of bytes n s w iv ≡ none_taken (Err (Why.Job Wrong.CountOutOfRange)) s w (zeros pos_zero iv)
unfolding next_copies_of
copies_over bytes n s w iv h = rw (lt-ltb 4096 n h, next_copies_of)
