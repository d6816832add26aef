-- Document 02, W4: what 31 says of standing copies, for both calls. Assumes nothing.
use Prim.Native.Nat.{ℕ}
use mathlib.Core.Path.{◌≡◌, ap}
use mathlib.Core.Bool.{Bool, false, ◌&&◌}
use mathlib.Core.List.{List}
use lib.Ieee.{Float}
use Rattle.job.specs.Jobs.{Job, accepted, read_job}
use Rattle.filling.specs.declared.State.{State}
use Rattle.filling.specs.declared.Refusal.TheVariants as Why
use Rattle.filling.specs.Rooms.{Rooms}
use Rattle.filling.specs.Order.{rearranged}
use Rattle.filling.specs.State.{planner_at, order_of, standing_of, tracks_of}
use Rattle.filling.specs.Consistent.{taken_fits, strip_counts_fit, parts_fit, planner_fits, strips_fit, layout_fits, gaps_fit, track_table_fits}
use Rattle.filling.specs.Consistent.{copies_fit, entries_fit, firsts_fit, placed_strips_of, consistent}
use Rattle.filling.specs.NextCopy.{step_given, no_step, next_copy_of}
use Rattle.filling.specs.Withdraw.{no_withdrawal, withdraw_given, withdraw_of}
use Rattle.filling.proofs.Runs.{step_inconsistent}
use Rattle.filling.proofs.Withdrawn.{withdraw_inconsistent}
use Rattle.claims.proofs.Gaps.{under}

module _ (j : Job) (s : State) (w : Rooms) (f : copies_fit j (planner_at j s.tables w) (standing_of s) (placed_strips_of s w) ≡ false) where
  copies_inconsistent : consistent j s w ≡ false
  unfolding consistent
  copies_inconsistent =
      let p = planner_at j s.tables w in
      let placed = placed_strips_of s w in
      under (taken_fits j s) _ (under (strip_counts_fit s.tables s.placed_strips w) _ (under (parts_fit j s.tables w) _
      (under (rearranged j (order_of j s)) _ (under (planner_fits p) _ (under (strips_fit placed) _
      (under (layout_fits s.layout.right s.layout.unplaced_area) _ (under (gaps_fit s) _
      (under (track_table_fits p s.taken p.shapes (tracks_of j s)) _ (ap (λ (t : Bool). t && (entries_fit p w placed && firsts_fit s w)) f)))))))))

  module _ (bytes : List ℕ) (e : read_job bytes ≡ accepted j) where
    pub step-refused : (iv : List Float) → next_copy_of bytes s w iv ≡ no_step Why.Inconsistent s w iv
    unfolding next_copy_of step_given
    step-refused iv = rw e (step_inconsistent j s w iv copies_inconsistent)

    pub back-refused : (n : ℕ) → withdraw_of bytes s w n ≡ no_withdrawal Why.Inconsistent s w
    unfolding withdraw_of withdraw_given
    back-refused n = rw e (withdraw_inconsistent j s w n copies_inconsistent)
