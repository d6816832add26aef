-- For inner functions' contracts only: a job in its tables, and the rooms and tables that are prepared from it. Definitions only. Assumes nothing.
use Rattle.std.specs.Prelude.{Ok, ℕ, ◌≡◌, List, [], ◌++◌, Float}
use Rattle.trapezoid.specs.Strip.{capacity}
use Rattle.index.specs.inner.Listing.{Laid, FirstBuckets}
use Rattle.kinds.specs.inner.Tables.{tabulate, kind_at}
use Rattle.job.specs.Jobs.{Job}
use Rattle.filling.specs.declared.Tables.{Tables}
use Rattle.filling.specs.Shapes.{Planner}
use Rattle.filling.specs.Rooms.{Rooms, laid}
use Rattle.filling.specs.Consistent.{sheet_index, entries_for, firsts_for}
use Rattle.filling.specs.Start.{apart_strips_of, inset_strips, tables_of, prepare_verdict}
use Rattle.prepare.specs.declared.Prepared.{Prepared}
use Rattle.kinds.specs.sets.inner.Answers.{set_at}

-- the job whose sheet begins at the bit position `at` and whose kinds lie in the tables
pub record FromTables (bytes rows places : List ℕ) (at kinds : ℕ) (j : Job) : Type 0 where
  pub areas : List Float
  pub sheet_is : j.sheet ≡ set_at bytes at
  pub kinds_are : j.kinds ≡ tabulate (kind_at bytes rows areas places) kinds

-- the rooms that are prepared
abbrev pub given : List Float → List Float → List ℕ → List ℕ → Rooms
given shapes sheet entries firsts =
    record {
      shapes = shapes;
      sheet = sheet;
      placed = [];
      sheet_entries = entries;
      placed_entries = [];
      sheet_firsts = firsts;
      placed_firsts = [];
    }

-- tables, bucket starts and rooms are those of the planner p
pub record Readied (p : Planner) (tables : Tables) (starts : List ℕ) (before : Rooms) (shapes sheet : List Float) (entries firsts : List ℕ) : Type 0 where
  pub tables_are : tables ≡ tables_of p
  pub shapes_are : shapes ≡ laid (apart_strips_of p ++ inset_strips p) before.shapes
  pub sheet_is : sheet ≡ laid p.sheet before.sheet
  pub entries_are : entries ≡ laid (entries_for p.bounds p.sheet) before.sheet_entries
  pub indexed : Laid (sheet_index p.bounds) p.sheet (capacity p.sheet) entries starts
  pub firsts_are : firsts ≡ laid (firsts_for p.bounds p.sheet) before.sheet_firsts
  pub kept : FirstBuckets (sheet_index p.bounds) p.sheet (capacity p.sheet) firsts

-- the verdict is the planner's; where it accepts, all is ready
pub record PreparedIs (r : Prepared) (p : Planner) (before : Rooms) (shapes sheet : List Float) (entries firsts : List ℕ) : Type 0 where
  pub verdict_is : r.verdict ≡ prepare_verdict p before
  pub ready : r.verdict ≡ (Ok tt) → Readied p r.tables r.sheet_starts before shapes sheet entries firsts
