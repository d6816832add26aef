-- Demand 1 of a start, a filling and the whole plan; no number of the whole plan's reply or rooms is non-finite. Assumes nothing.
use Rattle.std.specs.Prelude.{Result, Ok, Err}
use Prim.{⊥}
use Prim.Native.Nat.{ℕ}
use native.Mathlib.Omega.{arith}
use mathlib.Core.Path.{◌≡◌, refl, sym, subst, ◌∙◌}
use mathlib.Core.Bool.{Bool, true, false, not}
use mathlib.Core.List.{List, [], ◌∷◌}
use lib.Dec.{ltb}
use Rattle.slabs.proofs.Merging.{All}
use Rattle.bits.specs.declared.Refusal as Input
use Rattle.bits.specs.declared.Refusal.TheVariants.{Truncated, TrailingData, UnknownVersion, NonFinite, OutOfRange, CountOutOfRange, TooManyCopies, TooManyColumns}
use Rattle.job.specs.Jobs.{Job, Answer, accepted, refused, read_job}
use Rattle.filling.specs.declared.Refusal.{Refusal}
use Rattle.filling.specs.declared.Refusal.TheVariants as Why
use Rattle.filling.specs.Refusals.{number_of, verdict_number, refuse_if}
use Rattle.filling.specs.Shapes.{planner_of}
use Rattle.filling.specs.Rooms.{Rooms, Lent, position_capacity}
use Rattle.filling.specs.Consistent.{gaps_fit}
use Rattle.filling.specs.Plain.{Plain}
use Rattle.filling.specs.Start.{prepare_verdict, start_verdict, no_start, start_given, start_of}
use Rattle.filling.specs.Fill.{Filling, filled, stopped, fill_order, not_planned, planned_with, planned_by, fill_job, fill_given, fill_of}
use Rattle.filling.specs.RefusalLines.{Line, first_met, position_line, prepare_lines, start_lines}
use Rattle.filling.specs.Order.{rearranged}
use Rattle.filling.proofs.Steps.{later_accepted, accepted≢refused}
use Rattle.filling.proofs.Begin.{begun}
use Rattle.filling.proofs.Runs.{fill-stopped, fill-runs}
use Rattle.filling.proofs.Refused.{start_met, start-verdict}
use Rattle.nesting.specs.Rounds.{Kept, Swaps, kept, ended, swap_search}
use Rattle.nesting.specs.Nest.{nest_verdict, nested, nest_job, nest_given, nest_of}
use Rattle.filling.proofs.promises.Numbers.{LentNumbers}
use Rattle.filling.proofs.promises.Stays.{Held}
use Rattle.filling.proofs.promises.Left.{PlanNumbers, OffcutBounds, not_planned_lem, offcut-bounds, planned_numbers}
use Rattle.filling.specs.promises.Ample.{Ample, AmpleIntervals, AmpleStart}
use Rattle.filling.proofs.promises.Suffice.{start_fits, fill-ends}
use Rattle.copy_order.proofs.Rearranged.{accepted-rearranged}
use Rattle.nesting.specs.CopyOrder.{copy_order}
use Rattle.claims.proofs.plan_promises.Rounds.{RoomRefusal, strips, entries, intervals, refused_by_lem, stopped_is, Sound, keeps, ends, search-sound}
use Rattle.claims.specs.plan_promises.RefusalNumbers.{one_of}

-- ---- numbers

-- a verdict's number is 0 or one of these
abbrev pub Among : List ℕ → Result (Unit {0}) Refusal → Type 0
Among ns v = one_of (verdict_number v) (0 ∷ ns) ≡ true

-- of the first line that is met
met_among : (ns : List ℕ) (ls : List Line) → All (λ (l : Line). Among ns (Err l.refusal)) ls → Among ns (first_met ls)
unfolding first_met refuse_if verdict_number one_of
met_among ns [] h = refl
met_among ns (l ∷ ls) h = go l.holds (met_among ns ls h.1)
  where
    go : (t : Bool) → Among ns (first_met ls) → Among ns (refuse_if t l.refusal (first_met ls))
    go true e = h.0
    go false e = e

-- a job's own refusal has a number from 1 to 8
pub input_number : (k : Input.Refusal) → one_of (number_of (Why.Job k)) (1 ∷ 2 ∷ 3 ∷ 4 ∷ 5 ∷ 6 ∷ 7 ∷ 8 ∷ []) ≡ true
unfolding number_of one_of
input_number Truncated = refl
input_number TrailingData = refl
input_number UnknownVersion = refl
input_number NonFinite = refl
input_number OutOfRange = refl
input_number CountOutOfRange = refl
input_number TooManyCopies = refl
input_number TooManyColumns = refl

room-fill : {r : Refusal} → RoomRefusal r → Among (10 ∷ 20 ∷ 21 ∷ 22 ∷ 30 ∷ []) (Err r)
unfolding verdict_number number_of one_of
room-fill strips = refl
room-fill entries = refl
room-fill intervals = refl

room-plan : {r : Refusal} → RoomRefusal r → Among (20 ∷ 21 ∷ 22 ∷ 30 ∷ []) (Err r)
unfolding verdict_number number_of one_of
room-plan strips = refl
room-plan entries = refl
room-plan intervals = refl

-- ---- a start and a filling

module _ (j : Job) (order : List ℕ) (l : Lent) where
  start_lines_lem : All (λ (x : Line). Among (10 ∷ 20 ∷ 21 ∷ 30 ∷ []) (Err x.refusal)) (start_lines j order l)
  unfolding start_lines position_line prepare_lines verdict_number number_of one_of
  start_lines_lem = (refl, (refl, (refl, (refl, (refl, tt)))))

  fill_lines_lem : All (λ (x : Line). Among (10 ∷ 20 ∷ 21 ∷ 22 ∷ 30 ∷ []) (Err x.refusal)) (start_lines j order l)
  unfolding start_lines position_line prepare_lines verdict_number number_of one_of
  fill_lines_lem = (refl, (refl, (refl, (refl, (refl, tt)))))

  start_among : Among (10 ∷ 20 ∷ 21 ∷ 30 ∷ []) (start_verdict j order l)
  start_among =
      subst (λ (v : Result (Unit {0}) Refusal). Among (10 ∷ 20 ∷ 21 ∷ 30 ∷ []) v) (sym (start_met j order l))
      (met_among (10 ∷ 20 ∷ 21 ∷ 30 ∷ []) (start_lines j order l) start_lines_lem)

  fill_among : Among (10 ∷ 20 ∷ 21 ∷ 22 ∷ 30 ∷ []) (start_verdict j order l)
  fill_among =
      subst (λ (v : Result (Unit {0}) Refusal). Among (10 ∷ 20 ∷ 21 ∷ 22 ∷ 30 ∷ []) v) (sym (start_met j order l))
      (met_among (10 ∷ 20 ∷ 21 ∷ 22 ∷ 30 ∷ []) (start_lines j order l) fill_lines_lem)

-- an accepted job's start: a state, or 10, 20, 21 or 30
pub start-number : (bytes order : List ℕ) (l : Lent) (j : Job) → read_job bytes ≡ accepted j → Among (10 ∷ 20 ∷ 21 ∷ 30 ∷ []) (start_of bytes order l).verdict
unfolding start_of start_given
start-number bytes order l j e = rw e (subst (λ (v : Result (Unit {0}) Refusal). Among (10 ∷ 20 ∷ 21 ∷ 30 ∷ []) v) (sym (start-verdict j order l)) (start_among j order l))

-- and a state where the rooms suffice
pub start_suffices : (bytes order : List ℕ) (l : Lent) (j : Job) → read_job bytes ≡ accepted j
    → rearranged j order ≡ true → AmpleStart j l → (start_of bytes order l).verdict ≡ Ok tt
unfolding start_of start_given
start_suffices bytes order l j e r f = rw e (start-verdict j order l ∙ start_fits j order l r f)

module _ (bytes order : List ℕ) (l : Lent) (j : Job) (e : read_job bytes ≡ accepted j) where
  filling_among : start_verdict j order l ≡ Ok tt → (f : Filling) → fill_order j l order ≡ f → Among (10 ∷ 20 ∷ 21 ∷ 22 ∷ 30 ∷ []) (planned_by j l f).verdict
  unfolding planned_by planned_with not_planned start_verdict
  filling_among v (filled s) d = unfold verdict_number in (unfold one_of in refl)
  filling_among v (stopped r) d =
      let a = later_accepted (ltb (position_capacity l.positions) j.copies) Why.PositionRoom _ v in
      let b = begun j order l v in
      room-fill (stopped_is bytes j e l a.0 b.prepared order b.rearranges r d)

  job_among : (v : Result (Unit {0}) Refusal) → start_verdict j order l ≡ v → Among (10 ∷ 20 ∷ 21 ∷ 22 ∷ 30 ∷ []) (fill_job j order l).verdict
  unfolding not_planned
  job_among (Ok tt) d = rw (fill-runs j order l d) (filling_among d (fill_order j l order) refl)
  job_among (Err r) d = rw (fill-stopped j order l r d) (subst (λ (v : Result (Unit {0}) Refusal). Among (10 ∷ 20 ∷ 21 ∷ 22 ∷ 30 ∷ []) v) d (fill_among j order l))

  -- an accepted job's filling: a plan, or 10, 20, 21, 22 or 30
  pub fill-number : Among (10 ∷ 20 ∷ 21 ∷ 22 ∷ 30 ∷ []) (fill_of bytes order l).verdict
  unfolding fill_of fill_given
  fill-number = rw e (job_among (start_verdict j order l) refl)

-- ---- the whole plan

module _ (j : Job) (l : Lent) where
  prepare_refusal : (r : Refusal) → prepare_verdict (planner_of j) l.rooms ≡ Err r → RoomRefusal r
  unfolding prepare_verdict
  prepare_refusal r e =
      refused_by_lem RoomRefusal _ Why.StripRoom _ r strips (λ f. refused_by_lem RoomRefusal _ Why.EntryRoom _ r entries (λ g. refused_by_lem RoomRefusal _ Why.StripRoom (Ok tt) r strips (λ h. absurd (accepted≢refused h)) g) f) e

  nest_refusal : (r : Refusal) → nest_verdict j l ≡ Err r → Among (20 ∷ 21 ∷ 22 ∷ 30 ∷ []) (Err r)
  unfolding nest_verdict
  nest_refusal r e =
      refused_by_lem (λ (k : Refusal). Among (20 ∷ 21 ∷ 22 ∷ 30 ∷ []) (Err k)) _ Why.PositionRoom _ r positions (λ f. room-plan (prepare_refusal r f)) e
    where
      positions : Among (20 ∷ 21 ∷ 22 ∷ 30 ∷ []) (Err Why.PositionRoom)
      positions = unfold verdict_number in (unfold number_of in (unfold one_of in refl))

  pub nest_stops : (r : Refusal) → nest_verdict j l ≡ Err r → nest_job j l ≡ not_planned r l
  unfolding nest_job
  nest_stops r e = rw (e, nest_job)

  pub nest_runs : nest_verdict j l ≡ Ok tt → nest_job j l ≡ nested j l (swap_search j l)
  unfolding nest_job
  nest_runs e = rw (e, nest_job)

  pub tested : nest_verdict j l ≡ Ok tt → (ltb (position_capacity l.positions) j.copies ≡ false) × (prepare_verdict (planner_of j) l.rooms ≡ Ok tt)
  unfolding nest_verdict
  tested e = later_accepted (ltb (position_capacity l.positions) j.copies) Why.PositionRoom _ e

module _ (bytes : List ℕ) (j : Job) (e : read_job bytes ≡ accepted j) (l : Lent) where
  -- ---- every accepted job

  found-plan : (pos : ltb (position_capacity l.positions) j.copies ≡ false) (prep : prepare_verdict (planner_of j) l.rooms ≡ Ok tt) (q : Swaps) → Sound bytes j e l pos prep RoomRefusal q → Among (20 ∷ 21 ∷ 22 ∷ 30 ∷ []) (nested j l q).verdict
  unfolding nested planned_with not_planned
  found-plan pos prep (kept q) s = unfold verdict_number in (unfold one_of in refl)
  found-plan pos prep (ended r) (ends h) = room-plan h

  job-plan : (v : Result (Unit {0}) Refusal) → nest_verdict j l ≡ v → Among (20 ∷ 21 ∷ 22 ∷ 30 ∷ []) (nest_job j l).verdict
  unfolding not_planned
  job-plan (Err r) d = rw (nest_stops j l r d) (nest_refusal j l r d)
  job-plan (Ok tt) d = let t = tested j l d in rw (nest_runs j l d) (found-plan t.0 t.1 (swap_search j l) (search-sound bytes j e l t.0 t.1 RoomRefusal (stopped_is bytes j e l t.0 t.1)))

  -- ---- where the rooms suffice

  never : (pos : ltb (position_capacity l.positions) j.copies ≡ false) (prep : prepare_verdict (planner_of j) l.rooms ≡ Ok tt) (q : Swaps) → Sound bytes j e l pos prep (λ (r : Refusal). ⊥) q → (nested j l q).verdict ≡ Ok tt
  unfolding nested planned_with
  never pos prep (kept q) s = refl
  never pos prep (ended r) (ends h) = absurd h

  ample-plan : (m n : ℕ) → AmpleStart j l → Ample j m n l.rooms → AmpleIntervals j m n l.intervals → (nest_job j l).verdict ≡ Ok tt
  unfolding start_verdict nest_verdict refuse_if
  ample-plan m n f a i =
      let s = later_accepted (ltb (position_capacity l.positions) j.copies) Why.PositionRoom _ (start_fits j (copy_order j) l (accepted-rearranged bytes j e) f) in
      let p = (later_accepted (not (rearranged j (copy_order j))) Why.WrongOrder (prepare_verdict (planner_of j) l.rooms) s.1).1 in
      rw (nest_runs j l (rw (s.0, p)))
      (never s.0 p (swap_search j l) (search-sound bytes j e l s.0 p (λ (r : Refusal). ⊥) (λ order r k d. ends-not order r k d)))
    where
      ends-not : (order : List ℕ) → rearranged j order ≡ true → (k : Refusal) → fill_order j l order ≡ stopped k → ⊥
      ends-not order r k d = let g = fill-ends bytes j e order r m n l f a i in (let h : filled g.0 ≡ stopped k = sym g.1 ∙ d in let z : ◌≡◌ {A = ℕ} 0 1 = cc in omega arith)

  -- ---- numbers

  found-numbers : (pos : ltb (position_capacity l.positions) j.copies ≡ false) (prep : prepare_verdict (planner_of j) l.rooms ≡ Ok tt) (q : Swaps) → Sound bytes j e l pos prep RoomRefusal q → PlanNumbers (nested j l q).plan × LentNumbers (nested j l q).lent
  unfolding nested
  found-numbers pos prep (kept q) (keeps h) = planned_numbers bytes j e q.order q.state h.rooms h.plain h.held l q.improvements
  found-numbers pos prep (ended r) s = not_planned_lem r l

  -- ---- the filling that is kept

  found-held : (pos : ltb (position_capacity l.positions) j.copies ≡ false) (prep : prepare_verdict (planner_of j) l.rooms ≡ Ok tt)
      → (q : Kept) → Sound bytes j e l pos prep RoomRefusal (kept q) → (w : Rooms) × (p : Plain) × Held bytes j e q.order q.state w p
  found-held pos prep q (keeps h) = (h.rooms, h.plain, h.held)

  nest_held : nest_verdict j l ≡ Ok tt → (q : Kept) → swap_search j l ≡ kept q → (w : Rooms) × (p : Plain) × Held bytes j e q.order q.state w p
  nest_held d q f =
      let t = tested j l d in
      let s = search-sound bytes j e l t.0 t.1 RoomRefusal (stopped_is bytes j e l t.0 t.1) in
      found-held t.0 t.1 q (subst (λ (w : Swaps). Sound bytes j e l t.0 t.1 RoomRefusal w) f s)

  pub nest_offcut : nest_verdict j l ≡ Ok tt → (q : Kept) → swap_search j l ≡ kept q → OffcutBounds j q.state
  nest_offcut d q f = let h = nest_held d q f in offcut-bounds bytes j e q.order q.state h.0 h.1 h.2

  pub nest_gaps : nest_verdict j l ≡ Ok tt → (q : Kept) → swap_search j l ≡ kept q → gaps_fit q.state ≡ true
  nest_gaps d q f = (nest_held d q f).2.own.fine.gaps

  job-numbers : (v : Result (Unit {0}) Refusal) → nest_verdict j l ≡ v → PlanNumbers (nest_job j l).plan × LentNumbers (nest_job j l).lent
  job-numbers (Err r) d = rw (nest_stops j l r d) (not_planned_lem r l)
  job-numbers (Ok tt) d = let t = tested j l d in rw (nest_runs j l d) (found-numbers t.0 t.1 (swap_search j l) (search-sound bytes j e l t.0 t.1 RoomRefusal (stopped_is bytes j e l t.0 t.1)))

-- an accepted job's whole plan: a plan, or 20, 21, 22 or 30
pub nest_number : (bytes : List ℕ) (l : Lent) (j : Job) → read_job bytes ≡ accepted j → Among (20 ∷ 21 ∷ 22 ∷ 30 ∷ []) (nest_of bytes l).verdict
unfolding nest_of nest_given
nest_number bytes l j e = rw e (job-plan bytes j e l (nest_verdict j l) refl)

-- and a plan where the rooms suffice
pub nest_suffices : (bytes : List ℕ) (l : Lent) (j : Job) → read_job bytes ≡ accepted j
    → (m n : ℕ) → AmpleStart j l → Ample j m n l.rooms → AmpleIntervals j m n l.intervals → (nest_of bytes l).verdict ≡ Ok tt
unfolding nest_of nest_given
nest_suffices bytes l j e m n f a i = rw e (ample-plan bytes j e l m n f a i)

-- a job that is refused: its own number, of a start, a filling and a whole plan
pub refused-number : (bytes order : List ℕ) (l : Lent) (k : Input.Refusal) → read_job bytes ≡ refused k
    → ((start_of bytes order l).verdict ≡ Err (Why.Job k)) × ((fill_of bytes order l).verdict ≡ Err (Why.Job k)) × ((nest_of bytes l).verdict ≡ Err (Why.Job k))
unfolding start_of start_given no_start fill_of fill_given nest_of nest_given not_planned
refused-number bytes order l k e = (rw e, rw e, rw e)

-- whatever the bytes and the rooms
pub nest_numbers : (bytes : List ℕ) (l : Lent) → PlanNumbers (nest_of bytes l).plan × LentNumbers (nest_of bytes l).lent
unfolding nest_of
nest_numbers bytes l = go (read_job bytes) refl
  where
    go : (a : Answer) → read_job bytes ≡ a → PlanNumbers (nest_given a l).plan × LentNumbers (nest_given a l).lent
    go (refused k) d = unfold nest_given in not_planned_lem (Why.Job k) l
    go (accepted j) d = unfold nest_given in job-numbers bytes j d l (nest_verdict j l) refl
