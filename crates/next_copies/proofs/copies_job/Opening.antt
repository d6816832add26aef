-- What taking copies of a job is given, after 31. Assumes nothing.
use Rattle.std.specs.Prelude.{Err}
use Prim.Native.Nat.{ℕ, suc, ◌+◌, ◌-◌, ◌*◌, ◌<◌, ◌≤◌, min}
use native.Mathlib.Omega.{arith}
use mathlib.Core.Path.{◌≡◌, sym, ap, subst, ◌∙◌}
use mathlib.Core.Bool.{Bool, true, false}
use mathlib.Core.List.{List}
use lib.ListN.{take}
use lib.Ieee.{Float}
use Rattle.numbers.specs.Numbers.{pos_zero}
use Rattle.trapezoid.specs.Strip.{capacity}
use Rattle.index.specs.inner.Listing.{Laid, FirstBuckets}
use Rattle.job.specs.Jobs.{Job}
use Rattle.filling.specs.declared.State.{State}
use Rattle.filling.specs.declared.Refusal.TheVariants as Why
use Rattle.filling.specs.Rooms.{Rooms, zeros}
use Rattle.filling.specs.Consistent.{sheet_index, consistent}
use Rattle.filling.proofs.Sizes.{Sized}
use Rattle.filling_laws.proofs.Ready.{taken_upto}
use Rattle.step.specs.step_job.inner.Opened.{Opened}
use Rattle.step.proofs.step_job.Opening.{going}
use Rattle.batch.specs.NextCopies.{none_taken}
use Rattle.batch.specs.inner.Tested.{tested_from}
use Rattle.next_copies.specs.take_all.inner.Spread.{Starting}
use Rattle.next_copies.proofs.take_all.Ending.{stop_inconsistent}

module _ (j : Job) (s : State) (w : Rooms) (rows : List ℕ) (areas : List Float) (kinds copies : ℕ) (O : Opened j rows areas kinds copies)
    (e : consistent j s w ≡ true) where
  pub taken-within : s.taken ≤ copies
  taken-within = subst (λ (n : ℕ). s.taken ≤ n) O.copies_are (taken_upto j s w e)

  module _ (n most : ℕ) (m : most ≡ min n (copies - s.taken)) where
    pub most-few : most ≤ n
    most-few = omega (arith, m)

    most-left : s.taken + most ≤ copies
    most-left = let t = taken-within in omega (arith, m, t)

    pub most_all : most < n → j.copies ≤ s.taken + most
    most_all h = let t = taken-within in let c = O.copies_are in omega (arith, m, t, h, c)

    pub starting : (sheet_starts starts : List ℕ) → Sized j
        → Laid (sheet_index s.tables.sheet_bounds) (take (6 * s.tables.sheet_strips) w.sheet)
        (capacity (take (6 * s.tables.sheet_strips) w.sheet))
        w.sheet_entries sheet_starts
        → Laid (sheet_index s.tables.sheet_bounds) (take (6 * s.placed_strips) w.placed) (capacity (take (6 * s.placed_strips) w.placed))
        w.placed_entries starts
        → FirstBuckets (sheet_index s.tables.sheet_bounds) (take (6 * s.tables.sheet_strips) w.sheet)
        (capacity (take (6 * s.tables.sheet_strips) w.sheet)) w.sheet_firsts
        → FirstBuckets (sheet_index s.tables.sheet_bounds) (take (6 * s.placed_strips) w.placed)
        (capacity (take (6 * s.placed_strips) w.placed)) w.placed_firsts → Starting j s w rows areas sheet_starts starts most
    starting sheet_starts starts z L P K Q =
        let l = most-left in
        record {
          tabled = O.tabled;
          good = O.good;
          sized = z;
          few = O.few;
          left = let c = O.copies_are in omega (arith, l, c);
          passes = e;
          going = λ h. going j s w rows areas kinds copies sheet_starts starts O e (omega (arith, l, h)) L P K Q;
        }

-- 31 before the first copy
pub none-taken-31 : (j : Job) (s : State) (w : Rooms) (intervals : List Float) (n : ℕ) → 0 < n → (fits : Bool) → fits ≡ false
    → none_taken (Err Why.Inconsistent) s w (zeros pos_zero intervals) ≡ tested_from j n s w (zeros pos_zero intervals) fits
none-taken-31 j s w intervals n h fits e =
    let k : ℕ = n - 1 in
    let q : suc k ≡ n = omega (arith, h) in
    sym (stop_inconsistent j s w intervals k) ∙ (ap (λ (i : ℕ). tested_from j i s w (zeros pos_zero intervals) false) q
    ∙ ap (tested_from j n s w (zeros pos_zero intervals)) (sym e))
