-- For inner functions' contracts only: 31 is tested in full before the first copy, and after each copy of what it wrote. That this is n single
-- calls is proved in proofs/. Definitions only. Assumes nothing.
use Rattle.std.specs.Prelude.{Ok, Err, ℕ, zero, suc, ◌+◌, ◌*◌, ◌≡◌, Bool, true, false, ◌&&◌, List, [], length, get_or, drop, Float}
use Rattle.job.specs.Jobs.{Job}
use Rattle.filling.specs.declared.State.{State}
use Rattle.filling.specs.declared.Refusal.TheVariants as Why
use Rattle.filling.specs.Shapes.{Standing}
use Rattle.filling.specs.Rooms.{Rooms}
use Rattle.filling.specs.State.{planner_at, stands_at, tracks_of}
use Rattle.filling.specs.Consistent.{every, strips_fit, layout_fits, gap_fits, tracks_fit, position_fits, placed_strips_of}
use Rattle.filling.specs.NextCopy.{Step, no_step, core_step}
use Rattle.batch.specs.NextCopies.{Batch, none_taken, one_more}

-- a standing copy's own numbers
unfoldable pub place_fits : Standing → Bool
place_fits c = position_fits c && gap_fits c.gap

-- 31's tests of what the copy at place n wrote: t and w are state and rooms after it, before it there were so many placed strips
unfoldable pub copy_fits : Job → ℕ → ℕ → State → Rooms → Bool
copy_fits j n strips t w =
    let p = planner_at j t.tables w in
    let k = get_or t.order n 0 in
    strips_fit (drop (6 * strips) (placed_strips_of t w))
    && (layout_fits t.layout.right t.layout.unplaced_area
    && (tracks_fit p t.taken (get_or p.shapes k []) (get_or (tracks_of j t) k [])
    && every place_fits (stands_at t n (get_or t.layout.orientation n 0))))

-- one step, where the flag says whether 31 lets it pass
unfoldable pub step_tested : Job → State → Rooms → List Float → Bool → Step
step_tested j s w intervals false = no_step Why.Inconsistent s w intervals
step_tested j s w intervals true = core_step j s w intervals

-- n steps so
unfoldable pub tested_from : Job → ℕ → State → Rooms → List Float → Bool → Batch
tested_from j zero s w intervals fits = none_taken (Ok tt) s w intervals
tested_from j (suc n) s w intervals fits =
    let r = step_tested j s w intervals fits in
    elim r.verdict [
      | Ok tt ↦ one_more (tested_from j n r.state r.rooms r.intervals (copy_fits j s.taken s.placed_strips r.state r.rooms))
      | Err k ↦ none_taken (Err k) r.state r.rooms r.intervals
    ]

-- m copies more, before those
unfoldable pub more_taken : ℕ → Batch → Batch
more_taken m q = record { took = m + q.took; verdict = q.verdict; state = q.state; rooms = q.rooms; intervals = q.intervals }

-- as long as the code's arrays are
pub record Shaped (s : State) : Type 0 where
  pub orientations : length s.layout.orientation ≡ 4096
  pub xs : length s.layout.x ≡ 4096
  pub ys : length s.layout.y ≡ 4096
  pub gaps : length s.layout.gap ≡ 4096
  pub next-columns : length s.next_column ≡ 1024
  pub look_counts : length s.look_counts ≡ 1024
