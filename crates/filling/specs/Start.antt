-- Document 01, the start: what it refuses, the state that it returns and the rooms that it leaves. Definitions only. Assumes nothing.
use Rattle.std.specs.Prelude.{Result, Ok, Err, ℕ, ◌+◌, not, length, replicate, ltb, Float}
use mathlib.Core.List.{List, [], ◌∷◌, ◌++◌, map, flat_map}
use Rattle.numbers.specs.Numbers.{pos_zero}
use Rattle.trapezoid.specs.Strip.{capacity}
use Rattle.index.specs.Buckets.{standing_capacity}
use Rattle.job.specs.Jobs.{Job, Answer, accepted, refused, read_job}
use Rattle.filling.specs.declared.Tables.{Tables}
use Rattle.filling.specs.declared.State.{State}
use Rattle.filling.specs.declared.Refusal.{Refusal}
use Rattle.filling.specs.declared.Refusal.TheVariants as Why
use Rattle.filling.specs.Refusals.{refuse_if}
use Rattle.filling.specs.Shapes.{Shape, Planner, planner_of}
use Rattle.filling.specs.Rooms.{Rooms, Lent, position_capacity, laid, zeros, only_positions}
use Rattle.filling.specs.Order.{rearranged}
use Rattle.filling.specs.State.{by_slot, slot_shape, Part, flat_parts, flat_bounds, empty_layout, zero_state}
use Rattle.filling.specs.Consistent.{entries_for, firsts_for}

-- ---- what is prepared

-- "the shapes' strips by kind and orientation, apart ..": all apart strips, by slot
unfoldable pub apart_strips_of : Planner → List Float
apart_strips_of p = flat_map (λ s. s.apart) (by_slot (slot_shape p))

-- ".. before inset": all inset strips, by slot
unfoldable pub inset_strips : Planner → List Float
inset_strips p = flat_map (λ s. s.inset) (by_slot (slot_shape p))

-- shapes' strips one after another, from strips a and b on
unfoldable pub parts_from : ℕ → ℕ → List Shape → List Part
parts_from a b [] = []
parts_from a b (s ∷ ss) =
    let m = capacity s.apart in
    let n = capacity s.inset in
    record { apart_start = a; apart_count = m; inset_start = b; inset_count = n } ∷ parts_from (a + m) (b + n) ss

-- the tables that a start prepares
unfoldable pub tables_of : Planner → Tables
tables_of p =
    record {
      resolution = p.resolution;
      sheet_bounds = p.bounds;
      sheet_strips = capacity p.sheet;
      apart_strips = capacity (apart_strips_of p);
      inset_bounds = flat_bounds (map (λ s. s.bounds) (by_slot (slot_shape p)));
      parts = flat_parts (parts_from 0 0 (by_slot (slot_shape p)));
    }

-- no copy is taken, every orientation remembers column 0; "Right is the largest winning x + b2, from s0."
unfoldable pub first_state : Planner → List ℕ → State
first_state p order =
    record {
      tables = tables_of p;
      order = laid order (replicate 4096 0);
      taken = 0;
      next_column = replicate 1024 1;
      look_counts = replicate 1024 0;
      placed_strips = 0;
      layout = empty_layout p.bounds.left;
    }

-- "a start (it leaves strips and entries for single steps)"
unfoldable pub first_rooms : Planner → Rooms → Rooms
first_rooms p w =
    record {
      shapes = laid (apart_strips_of p ++ inset_strips p) (zeros pos_zero w.shapes);
      sheet = laid p.sheet (zeros pos_zero w.sheet);
      placed = zeros pos_zero w.placed;
      sheet_entries = laid (entries_for p.bounds p.sheet) (zeros 0 w.sheet_entries);
      placed_entries = zeros 0 w.placed_entries;
      sheet_firsts = laid (firsts_for p.bounds p.sheet) (zeros 0 w.sheet_firsts);
      placed_firsts = zeros 0 w.placed_firsts;
    }

-- ---- what is refused

-- "Then come the sheet's strips (20) and entries (21), the shapes' strips by kind and orientation, apart before inset (20)"
unfoldable pub prepare_verdict : Planner → Rooms → Result (Unit {0}) Refusal
prepare_verdict p w =
    refuse_if (ltb (standing_capacity w.sheet w.sheet_firsts) (capacity p.sheet)) Why.StripRoom
    (refuse_if (ltb (length w.sheet_entries) (length (entries_for p.bounds p.sheet))) Why.EntryRoom
    (refuse_if (ltb (capacity w.shapes) (capacity (apart_strips_of p ++ inset_strips p))) Why.StripRoom
    (Ok tt)))

-- "30 is tested as soon as the job is accepted", "10 right after 30"
unfoldable pub start_verdict : Job → List ℕ → Lent → Result (Unit {0}) Refusal
start_verdict j order l =
    refuse_if (ltb (position_capacity l.positions) j.copies) Why.PositionRoom
    (refuse_if (not (rearranged j order)) Why.WrongOrder
    (prepare_verdict (planner_of j) l.rooms))

-- ---- the start

-- what a start answers, and its rooms after
pub record Start : Type 0 where
  pub verdict : Result (Unit {0}) Refusal
  pub state : State
  pub lent : Lent

-- "A refused whole plan returns only the number and zeros every lent room"
unfoldable pub no_start : Refusal → Lent → Start
no_start r l = record { verdict = Err r; state = zero_state; lent = only_positions l [] }

-- an accepted start: strips and entries are left, zeros elsewhere
unfoldable pub good_start : Planner → List ℕ → Lent → Start
good_start p order l =
    record {
      verdict = Ok tt;
      state = first_state p order;
      lent = record { rooms = first_rooms p l.rooms; intervals = zeros pos_zero l.intervals; positions = zeros pos_zero l.positions };
    }

-- the start of an accepted job
unfoldable pub start_job : Job → List ℕ → Lent → Start
start_job j order l = elim (start_verdict j order l) [ Ok tt ↦ good_start (planner_of j) order l | Err r ↦ no_start r l ]

-- a job that is refused: its number
unfoldable pub start_given : Answer → List ℕ → Lent → Start
start_given (refused k) order l = no_start (Why.Job k) l
start_given (accepted j) order l = start_job j order l

-- the public operation `start`
unfoldable pub start_of : List ℕ → List ℕ → Lent → Start
start_of bytes order l = start_given (read_job bytes) order l
