-- For inner functions' contracts only: what a withdrawal is given once 31 and 24 are past, and what it makes of the state. That it is the
-- definition's is proved in proofs/. Definitions only. Assumes nothing.
use Rattle.std.specs.Prelude.{Ok, ℕ, suc, ◌+◌, ◌-◌, ◌<◌, ◌≤◌, ◌≡◌, true, List, get_or, replicate, Float}
use Rattle.job.specs.Jobs.{Job}
use Rattle.job.proofs.Accepted.{GoodJob}
use Rattle.filling.specs.declared.State.{State}
use Rattle.filling.specs.Rooms.{Rooms}
use Rattle.filling.specs.Consistent.{consistent}
use Rattle.filling.specs.Withdraw.{Reply, closed_up, layout_without}
use Rattle.withdraw.specs.standing.inner.Standing.{strips_at, strips_to, right_over}

-- the strips of the copies before place n
abbrev pub strips_before : State → ℕ → ℕ
strips_before s n = strips_to s.tables.parts s.order s.layout.orientation n

-- those of the copy there
abbrev pub strips_here : State → ℕ → ℕ
strips_here s n = strips_at s.tables.parts (get_or s.order n 0) (get_or s.layout.orientation n 0)

-- right of the copies before place n, then of those behind it
abbrev pub right_found : State → ℕ → Float
right_found s n =
    right_over s.tables.inset_bounds s.order s.layout.orientation s.layout.x
    (right_over s.tables.inset_bounds s.order s.layout.orientation s.layout.x s.tables.sheet_bounds.left 0 n) (n + 1)
    (s.taken - (n + 1))

-- the state without the copy at place n of a job with so many copies, where so many strips go
abbrev pub state_left : State → ℕ → ℕ → ℕ → Float → State
state_left s n copies gone right =
    record {
      tables = s.tables;
      order = closed_up n copies (get_or s.order n 0) s.order;
      taken = s.taken - 1;
      next_column = replicate 1024 1;
      look_counts = replicate 1024 0;
      placed_strips = s.placed_strips - gone;
      layout = layout_without s.layout n s.taken right;
    }

-- a state and rooms that 31 lets pass, three of them as lent, and a copy that stands at place n
pub record Leaving (j : Job) (s : State) (w : Rooms) (n copies : ℕ) (placed : List Float) (entries firsts : List ℕ) : Type 0 where
  pub good : GoodJob j
  pub few : j.copies ≤ 4096
  pub copies_are : j.copies ≡ copies
  pub passes : consistent j s w ≡ true
  pub under : n < s.taken
  pub stands : (o : ℕ) × (get_or s.layout.orientation n 0 ≡ suc o)
  pub placed_is : w.placed ≡ placed
  pub entries_is : w.placed_entries ≡ entries
  pub firsts_is : w.placed_firsts ≡ firsts

-- the reply of a withdrawal that is not refused
abbrev pub taken : State → Rooms → Reply
taken s w = record { verdict = Ok tt; state = s; rooms = w }
