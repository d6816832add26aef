-- `swaps::fill_half` meets its contract. Assumes nothing.
use native.Mathlib.Omega.{arith}
use mathlib.Core.Path.{◌≡◌, refl, ap₂, ◌∙◌}
use mathlib.Core.List.{List}
use Prim.Native.Nat.{ℕ, ◌+◌, ◌-◌, ◌*◌}
use lib.Ieee.{Float}
use Rattle.job.specs.Jobs.{Job}
use Rattle.filling.specs.Rooms.{Lent}
use Rattle.filling.specs.Shapes.{planner_of}
use Rattle.rooms.specs.tracks.inner.Tracks.{track_numbers, spot_numbers}
use Rattle.fill_order.specs.inner.Filled.{filled_in}
use Rattle.better.proofs.round_laws.Halves.{part_length, part-long, half-written, half-stays, start-within}
use Rattle.swaps.proofs.fill_half.Goals as goal

pub fill_order-requires : goal.fill_order-requires
fill_order-requires c = let a = c.args in
    let p = c.requires in
    let track = track_numbers * a.h in
    let spot = spot_numbers * a.h in (
      p.0,
      p.1,
      part-long track_numbers a.tracks.now a.tracks.now track (track + track_numbers) a.h p.4 refl refl p.2,
      part-long spot_numbers a.spots.now a.spots.now spot (spot + spot_numbers) a.h p.4 refl refl p.3,
      p.5,
    )

pub returns : goal.returns
returns c = let a = c.args in
    let p = c.requires in
    let f = c.fill_order in
    let track = track_numbers * a.h in
    let spot = spot_numbers * a.h in
    let np = f.auto.tracks ∙ part_length track_numbers a.tracks.now a.tracks.now track (track + track_numbers) a.h p.4 refl refl p.2 in
    let ns = f.auto.spots ∙ part_length spot_numbers a.spots.now a.spots.now spot (spot + spot_numbers) a.h p.4 refl refl p.3 in
    let o : a.h ≡ 1 - (1 - a.h) = omega arith in (
      λ (j : Job) P r (l : Lent) e1 e2 e3 e4.
          ap₂ (λ (u : List ℕ) (z : List Float). filled_in f.result (planner_of j) a.order.now u z)
          (half-written track_numbers a.tracks.now f.new.tracks track (track + track_numbers) a.h refl
          (start-within track_numbers a.tracks.now f.new.tracks track (track + track_numbers) a.h p.4 refl p.2) np)
          (half-written spot_numbers a.spots.now f.new.spots spot (spot + spot_numbers) a.h refl
          (start-within spot_numbers a.spots.now f.new.spots spot (spot + spot_numbers) a.h p.4 refl p.3) ns)
          ∙ f.ensures j P r l e1 e2 e3 e4,
      half-stays track_numbers a.tracks.now f.new.tracks track (track + track_numbers) (1 - a.h) a.h (omega arith) o refl refl p.2 np,
      half-stays spot_numbers a.spots.now f.new.spots spot (spot + spot_numbers) (1 - a.h) a.h (omega arith) o refl refl p.3 ns,
    )
