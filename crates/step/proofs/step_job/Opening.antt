-- The parts of a step, and the tables of the job that was read. Assumes nothing.
use Rattle.std.specs.Prelude.{Err}
use Prim.Native.Nat.{ℕ, ◌+◌, ◌*◌, ◌<◌, ◌≤◌}
use mathlib.Core.Path.{◌≡◌, refl, sym, ap, subst, subst⁻¹, ◌∙◌}
use mathlib.Core.Bool.{true}
use mathlib.Core.List.{List, []}
use lib.ListN.{length, get_or, take, drop}
use lib.Ieee.{Float}
use Rattle.numbers.specs.Numbers.{pos_zero}
use Rattle.trapezoid.specs.Strip.{capacity}
use Rattle.index.specs.inner.Listing.{Laid, FirstBuckets}
use Rattle.bits.specs.declared.Refusal as Bits
use Rattle.filling.specs.declared.Refusal.{Refusal}
use Rattle.job.specs.declared.Header.{Header}
use Rattle.job.specs.Jobs.{Job, Answer, accepted, refused, read_job}
use Rattle.job.proofs.Accepted.{GoodJob, job_good}
use Rattle.filling.specs.declared.State.{State}
use Rattle.filling.specs.declared.Refusal.TheVariants as Why
use Rattle.filling.specs.Rooms.{Rooms, zeros}
use Rattle.filling.specs.State.{orientation_counts, order_of}
use Rattle.filling.specs.Consistent.{sheet_index, consistent}
use Rattle.filling.specs.NextCopy.{no_step, place_next, core_step, step_job, step_given, next_copy_of}
use Rattle.filling.proofs.Runs.{step-consistent}
use Rattle.accounts.proofs.tables.Tabling.{job_in, kinds_in, tabled}
use Rattle.filling_laws.proofs.Ready.{laid-whole, firsts_whole, strips-within}
use Rattle.filling_laws.proofs.ReadyOrder.{most-turns, none_left}
use Rattle.step.specs.inner.Going.{Going, step_of}
use Rattle.step.specs.step_job.inner.Opened.{Opened}

-- ---- a refusal
pub refuse_is : (why : Refusal) (s : State) (intervals zeroed : List Float) → zeroed ≡ zeros pos_zero intervals → (w : Rooms) → step_of (record { verdict = Err why; state = s }) w zeroed ≡ no_step why s w intervals
unfolding no_step
refuse_is why s intervals zeroed e w = ap (λ (l : List Float). step_of (record { verdict = Err why; state = s }) w l) e

-- ---- 31, then 23, then the copy
used_up : (j : Job) (s : State) (w : Rooms) (intervals : List Float) → drop s.taken (order_of j s) ≡ [] → no_step Why.OrderUsedUp s w intervals ≡ core_step j s w intervals
unfolding core_step place_next
used_up j s w intervals e = sym (ap (place_next j s w intervals) e)

pub step_used_up : (j : Job) (s : State) (w : Rooms) (intervals : List Float) → consistent j s w ≡ true → j.copies ≤ s.taken → no_step Why.OrderUsedUp s w intervals ≡ step_job j s w intervals
step_used_up j s w intervals e h = used_up j s w intervals (none_left j s w e h) ∙ sym (step-consistent j s w intervals e)

pub going : (j : Job) (s : State) (w : Rooms) (rows : List ℕ) (areas : List Float) (kinds copies : ℕ) (sheet_starts starts : List ℕ) → Opened j rows areas kinds copies → consistent j s w ≡ true → s.taken < copies
    → Laid (sheet_index s.tables.sheet_bounds) (take (6 * s.tables.sheet_strips) w.sheet) (capacity (take (6 * s.tables.sheet_strips) w.sheet)) w.sheet_entries sheet_starts
    → Laid (sheet_index s.tables.sheet_bounds) (take (6 * s.placed_strips) w.placed) (capacity (take (6 * s.placed_strips) w.placed)) w.placed_entries starts
    → FirstBuckets (sheet_index s.tables.sheet_bounds) (take (6 * s.tables.sheet_strips) w.sheet)
    (capacity (take (6 * s.tables.sheet_strips) w.sheet)) w.sheet_firsts
    → FirstBuckets (sheet_index s.tables.sheet_bounds) (take (6 * s.placed_strips) w.placed)
    (capacity (take (6 * s.placed_strips) w.placed)) w.placed_firsts
    → Going j s w rows areas sheet_starts starts
going j s w rows areas kinds copies sheet_starts starts O e h L P K Q =
    record {
      tabled = O.tabled;
      good = O.good;
      few = O.few;
      passes = e;
      left = subst⁻¹ (λ (n : ℕ). s.taken < n) O.copies_are h;
      sheet_laid = L;
      placed_laid = laid-whole (sheet_index s.tables.sheet_bounds) w.placed s.placed_strips w.placed_entries starts (strips-within j s w e).placed P;
      sheet_kept = K;
      placed_kept = firsts_whole (sheet_index s.tables.sheet_bounds) w.placed s.placed_strips w.placed_firsts (strips-within j s w e).placed Q;
    }

-- ---- what the tables hold
pub record Numbers (rows : List ℕ) (kinds copies : ℕ) : Type 0 where
  pub kinds_few : kinds ≤ 64
  pub rows_long : 256 ≤ length rows
  pub turns_few : (k : ℕ) → k < kinds → get_or rows (4 * k + 3) 0 ≤ 16
  pub copies_few : copies ≤ 4096

turns-most : (j : Job) → GoodJob j → (k : ℕ) → get_or (orientation_counts j) k 0 ≤ 16
unfolding orientation_counts
turns-most j g k = most-turns j.kinds g.kinds k

pub numbers : (j : Job) (rows : List ℕ) (areas : List Float) (kinds copies : ℕ) → Opened j rows areas kinds copies → Numbers rows kinds copies
numbers j rows areas kinds copies O =
    record {
      kinds_few = subst (λ (n : ℕ). n ≤ 64) O.kinds_are O.tabled.few;
      rows_long = O.tabled.rows_long;
      turns_few = turns;
      copies_few = subst (λ (n : ℕ). n ≤ 4096) O.copies_are O.few;
    }
  where
    turns : (k : ℕ) → k < kinds → get_or rows (4 * k + 3) 0 ≤ 16
    turns k h =
        let l : k < length j.kinds = subst⁻¹ (λ (n : ℕ). k < n) O.kinds_are h in
        subst (λ (n : ℕ). n ≤ 16) (O.tabled.orientations k l) (turns-most j O.good k)

-- ---- the job that was read
pub read-refused : (bytes : List ℕ) (k : Bits.Refusal) (s : State) (w : Rooms) (intervals : List Float) → read_job bytes ≡ refused k → no_step (Why.Job k) s w intervals ≡ next_copy_of bytes s w intervals
unfolding next_copy_of step_given
read-refused bytes k s w intervals e = sym (ap (λ (a : Answer). step_given a s w intervals) e)

pub read-accepted : (bytes : List ℕ) (j : Job) (s : State) (w : Rooms) (intervals : List Float) → read_job bytes ≡ accepted j → step_job j s w intervals ≡ next_copy_of bytes s w intervals
unfolding next_copy_of step_given
read-accepted bytes j s w intervals e = sym (ap (λ (a : Answer). step_given a s w intervals) e)

pub opened : (h : Header) (s c : ℕ) (bytes rows : List ℕ) (areas : List Float) (places : List ℕ) → read_job bytes ≡ accepted (job_in h s c bytes rows areas places) → 256 ≤ length rows → 64 ≤ length areas → Opened (job_in h s c bytes rows areas places) rows areas h.kinds c
opened h s c bytes rows areas places e r a =
    let g = job_good bytes (job_in h s c bytes rows areas places) e in
    record { tabled = tabled h s c bytes rows areas places e r a; good = g.good; few = g.copies; kinds_are = kinds_in h s c bytes rows areas places; copies_are = refl }
