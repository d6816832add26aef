use Prim.Native.Nat.{◌-◌, ◌/◌, ◌≤◌}
use mathlib.Core.Path.{◌≡◌}
use lib.ListN.{length}
use Rattle.job.specs.Jobs.{Job, frame_of}
use Rattle.index.specs.Buckets.{standing_capacity}
use Rattle.filling.specs.Rooms.{Rooms}
use Rattle.judge_lines.specs.inner.Judging.{TablesOf}
use Rattle.judge_lines.proofs.Lines.{Going}
use Rattle.judge_lines.proofs.judge_lines.Given as goal

abbrev pub invariant-loop-i : goal.invariant-loop-i
invariant-loop-i l = (l.i ≤ length l.given / 4) × (l.s.strips ≤ l.room) × (length l.counts ≡ 64) × (length l.placed ≡ length l.initial.placed)
    × ((j : Job) (w : Rooms) → TablesOf j l.g l.kinds l.rows l.inset_bounds l.parts l.shapes l.sheet → standing_capacity w.placed w.placed_firsts ≡ l.room
    → length w.placed_entries ≡ l.entries → frame_of j.header ≡ l.f → Going j w l.given l.counts l.placed l.s l.i)

abbrev pub decreases-loop-i : goal.decreases-loop-i
decreases-loop-i l = length l.given / 4 - l.i
