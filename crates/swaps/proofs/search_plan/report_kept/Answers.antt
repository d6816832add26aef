-- `swaps::search_plan::report_kept`: the kept half is read back and reported. Assumes nothing.
use mathlib.Core.Path.{refl}
use lib.Ieee.{nan}
use Rattle.filling.specs.Shapes.{planner_of}
use Rattle.rooms.specs.tracks.inner.Tracks.{next_columns, spot_numbers}
use Rattle.better.specs.inner.Keeping.{kept_tracks}
use Rattle.swaps.proofs.search_plan.Reported.{kept-reply, field-half}
use Rattle.swaps.proofs.search_plan.report_kept.Goals as goal

pub returns : goal.returns
returns c = let a = c.args in
    let b = a.best in
    let tracks = a.tracks.now in
    let spots = a.spots.now in
    λ j areas l t n e d z f.
    kept-reply b j l (planner_of j) a.order.now tracks spots
    c.read.new.out c.read-2.new.out c.read-3.new.out c.read-4.new.out c.read-5.new.out
    (field-half 0 2 1 _ 1024 6144 b.kept tracks c.read.new.out (c.read.ensures 0) refl)
    (field-half 0 1 2048 _ 4096 6144 b.kept tracks c.read-2.new.out (c.read-2.ensures 0) refl)
    (field-half nan 3 0 _ 4096 spot_numbers b.kept spots c.read-3.new.out (c.read-3.ensures nan) refl)
    (field-half nan 3 1 _ 4096 spot_numbers b.kept spots c.read-4.new.out (c.read-4.ensures nan) refl)
    (field-half nan 3 2 _ 4096 spot_numbers b.kept spots c.read-5.new.out (c.read-5.ensures nan) refl)
    _ (c.report.ensures j areas (planner_of j) (next_columns (kept_tracks b tracks)) l t n e d z f)
