-- `swaps::search_plan::search`: the rounds over a job's tables. Assumes nothing.
use Prim.Native.Nat.{◌*◌, ◌≤◌}
use mathlib.Core.Path.{subst⁻¹}
use lib.ListN.{length}
use Rattle.job.specs.Jobs.{Job}
use Rattle.choose.specs.declared.Grid.{Grid}
use Rattle.swaps.proofs.search_plan.Given.{gridded, gridded_firsts}
use Rattle.swaps.proofs.search_plan.search.Goals as goal

pub rounds-requires : goal.rounds-requires
rounds-requires c = let a = c.args in
    let p = c.requires in (
      (
        p.0.0,
        gridded a.tables a.rows.now a.areas.now a.shapes.now a.sheet.now a.sheet_entries.now a.sheet_starts.now
            c.grid_of.result c.grid_of.ensures p.0.0 p.0.1,
        p.0.2,
      ),
      subst⁻¹ (λ (z : Grid). 6 * z.apart_strips ≤ length a.shapes.now) c.grid_of.ensures p.2,
      p.3,
      p.4,
      p.5,
      gridded_firsts a.tables a.rows.now a.areas.now a.shapes.now a.sheet.now a.sheet_entries.now a.sheet_starts.now
          a.sheet_firsts.now c.grid_of.result c.grid_of.ensures p.6,
    )

pub shape_of-order : goal.shape_of-order
shape_of-order c = c.rounds.auto.order

pub shape_of-placed : goal.shape_of-placed
shape_of-placed c = c.rounds.auto.placed

pub shape_of-placed_entries : goal.shape_of-placed_entries
shape_of-placed_entries c = c.rounds.auto.entries

pub shape_of-intervals : goal.shape_of-intervals
shape_of-intervals c = c.rounds.auto.room

pub shape_of-tracks : goal.shape_of-tracks
shape_of-tracks c = c.rounds.auto.tracks

pub shape_of-spots : goal.shape_of-spots
shape_of-spots c = c.rounds.auto.spots

pub shape_of-placed_firsts : goal.shape_of-placed_firsts
shape_of-placed_firsts c = c.rounds.auto.firsts

pub returns : goal.returns
returns c = let a = c.args in
    let q = c.rounds.ensures in (
      λ (j : Job) P.
          q.0 j
          (gridded a.tables a.rows.now a.areas.now a.shapes.now a.sheet.now a.sheet_entries.now a.sheet_starts.now
          c.grid_of.result c.grid_of.ensures j P),
      q.1,
      q.2,
    )
