-- For inner functions' contracts only: rooms that are all zero, and a job in its tables. Definitions only. Assumes nothing.
use Rattle.std.specs.Prelude.{ℕ, ◌≡◌, List, length, Float}
use Rattle.numbers.specs.Numbers.{pos_zero}
use Rattle.job.specs.declared.Header.{Header}
use Rattle.job.specs.Jobs.{Job, accepted, read_job}
use Rattle.filling.specs.Rooms.{Lent, zeros}
use Rattle.accounts.specs.tables.inner.Tabled.{Tabled}
use Rattle.prepare.specs.inner.Ready.{FromTables}

-- the rooms are those that were lent, all zero
pub record Zeroed (l : Lent) (shapes sheet placed : List Float) (sheet_entries placed_entries : List ℕ) (intervals positions : List Float)
    (sheet_firsts placed_firsts : List ℕ) : Type 0 where
  pub shapes_zero : shapes ≡ zeros pos_zero l.rooms.shapes
  pub sheet_zero : sheet ≡ zeros pos_zero l.rooms.sheet
  pub placed_zero : placed ≡ zeros pos_zero l.rooms.placed
  pub sheet_entries_zero : sheet_entries ≡ zeros 0 l.rooms.sheet_entries
  pub placed_entries_zero : placed_entries ≡ zeros 0 l.rooms.placed_entries
  pub intervals_zero : intervals ≡ zeros pos_zero l.intervals
  pub positions_zero : positions ≡ zeros pos_zero l.positions
  pub sheet_firsts_zero : sheet_firsts ≡ zeros 0 l.rooms.sheet_firsts
  pub placed_firsts_zero : placed_firsts ≡ zeros 0 l.rooms.placed_firsts

-- the job that was read into the tables
pub record ReadInto (j : Job) (bytes : List ℕ) (at : ℕ) (h : Header) (rows : List ℕ) (areas : List Float) (places : List ℕ) : Type 0 where
  pub read : read_job bytes ≡ accepted j
  pub from : FromTables bytes rows places at h.kinds j
  pub tabled : Tabled j rows areas
  pub number : length j.kinds ≡ h.kinds
  pub header_is : j.header ≡ h
