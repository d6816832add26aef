-- For inner functions' contracts only: a start over rooms that were zeroed. Definitions only. Assumes nothing.
use Rattle.std.specs.Prelude.{◌≡◌, List, ℕ, Float}
use Rattle.numbers.specs.Numbers.{pos_zero}
use Rattle.filling.specs.Rooms.{Lent, zeros}
use Rattle.filling.specs.Start.{Start}
use Rattle.start.specs.declared.replies.Started.{Started}

-- the rooms of l that a start writes, zeroed
pub record Cleared (l : Lent) (shapes sheet : List Float) (entries firsts : List ℕ) : Type 0 where
  pub shapes_zero : shapes ≡ zeros pos_zero l.rooms.shapes
  pub sheet_zero : sheet ≡ zeros pos_zero l.rooms.sheet
  pub entries_zero : entries ≡ zeros 0 l.rooms.sheet_entries
  pub firsts_zero : firsts ≡ zeros 0 l.rooms.sheet_firsts

-- the answer and those rooms are the start's
pub record Begun (r : Started) (s : Start) (shapes sheet : List Float) (entries firsts : List ℕ) : Type 0 where
  pub verdict_is : r.verdict ≡ s.verdict
  pub state_is : r.state ≡ s.state
  pub shapes_are : shapes ≡ s.lent.rooms.shapes
  pub sheet_is : sheet ≡ s.lent.rooms.sheet
  pub entries_are : entries ≡ s.lent.rooms.sheet_entries
  pub firsts_are : firsts ≡ s.lent.rooms.sheet_firsts
