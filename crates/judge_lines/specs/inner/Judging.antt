-- For inner functions' contracts only: a layout's lines in the code's order, over a job's tables and rooms. Definitions only. Assumes nothing.
use Rattle.std.specs.Prelude.{Option, Some, None, Result, Ok, Err}
use Rattle.filling.specs.declared.Refusal.{Refusal}
use Rattle.std.specs.Prelude.{ℕ, ◌+◌, ◌-◌, ◌*◌, ◌≤◌, ◌<◌, ◌≡◌, true, false, not, ◌&&◌, List, [], ◌∷◌, ◌++◌, length, get_or, take, ltb, leb, Float}
use Rattle.trapezoid.specs.Strip.{capacity}
use Rattle.index.specs.declared.Index.{Index}
use Rattle.index.specs.Intervals.{forbidden_of}
use Rattle.look.specs.height.Smallest.{outside}
use Rattle.frames.specs.declared.Point.{Point}
use Rattle.job.specs.Jobs.{Job, frame_of}
use Rattle.filling.specs.declared.Refusal.TheVariants as Why
use Rattle.filling.specs.Refusals.{refuse_if}
use Rattle.filling.specs.Shapes.{planner_of, shape_of}
use Rattle.filling.specs.Rooms.{Rooms}
use Rattle.filling.specs.Order.{count_in}
use Rattle.filling.specs.Leaf.{lacks}
use Rattle.filling.specs.Consistent.{entries_for}
use Rattle.search.specs.declared.columns.Columns.{Columns}
use Rattle.choose.specs.declared.Grid.{Grid}
use Rattle.store.specs.inner.Storing.{moved_to, widths_to, rest_of}
use Rattle.filling_laws.specs.fill_laws.inner.Prepared.{given_in, Prepared}
use Rattle.placement.specs.range.inner.Ranged.{in_range_of}
use Rattle.layouts.specs.declared.PutLine.{PutLine}
use Rattle.layouts.specs.Layouts.{line_strips, in_range, clear, quantity_of}
use Rattle.judge_lines.specs.declared.Standing.{Standing}

-- ---- one line's tests

-- 9 and 25, where so many lines before have the kind
unfoldable pub known_by : Job → ℕ → ℕ → ℕ → Result (Unit {0}) Refusal
known_by j n k o = refuse_if (lacks j k o) Why.MissingShape (refuse_if (leb (quantity_of j k) n) Why.TooManyOfKind (Ok tt))

-- 26 and 27, by columns and strips
unfoldable pub place_fits : Columns → List Float → List Float → List Float → List Float → Point → Result (Unit {0}) Refusal
place_fits k inset apart sheet standing q =
    refuse_if (not (in_range_of k q.x q.y)) Why.OutsideRange
    (refuse_if (not (outside (forbidden_of sheet inset q.x) q.y && outside (forbidden_of standing apart q.x) q.y)) Why.InTheWay (Ok tt))

-- 9, 25, 26 and 27 of the definition
unfoldable pub fits_by : Job → ℕ → List Float → ℕ → ℕ → Point → Result (Unit {0}) Refusal
fits_by j n standing k o q =
    let p = planner_of j in
    let s = shape_of p k o in
    refuse_if (lacks j k o) Why.MissingShape
    (refuse_if (leb (quantity_of j k) n) Why.TooManyOfKind
    (refuse_if (not (in_range p s q)) Why.OutsideRange
    (refuse_if (not (clear p standing s q)) Why.InTheWay (Ok tt))))

-- ---- storing a line's strips

pub record Stored : Type 0 where
  pub line : Result Standing Refusal
  pub placed : List Float

abbrev pub stored : Result Standing Refusal → List Float → Stored
stored l placed = record { line = l; placed = placed }

-- 21 by what is left of the entries
unfoldable pub rest_stored : Option ℕ → List Float → Point → Standing → List Float → Stored
rest_stored (Some left) apart q s placed =
    stored (Ok (record { strips = s.strips + capacity apart; entries = left })) (moved_to apart q.x q.y s.strips placed (capacity apart))
rest_stored None apart q s placed = stored (Err Why.EntryRoom) placed

-- 20, then 21, in a room for so many strips
unfoldable pub stored_of : Index → List Float → Point → ℕ → Standing → List Float → Stored
stored_of ix apart q room s placed =
    elim (ltb (room - s.strips) (capacity apart)) [
      | true ↦ stored (Err Why.StripRoom) placed
      | false ↦ rest_stored (rest_of s.entries (widths_to ix apart q.x (capacity apart))) apart q s placed
    ]

-- ---- over a job

-- tables, shapes and sheet strips are the job's
pub record TablesOf (j : Job) (g : Grid) (kinds : ℕ) (rows : List ℕ) (inset_bounds : List Float) (parts : List ℕ) (shapes sheet : List Float) : Type 0 where
  pub areas : List Float
  pub sheet_entries : List ℕ
  pub sheet_starts : List ℕ
  pub prepared : Prepared j (given_in g rows areas inset_bounds parts shapes sheet sheet_entries sheet_starts)
  pub number : length j.kinds ≡ kinds

-- the strips that stand are at most so many
abbrev pub Within : ℕ → Result Standing Refusal → Type 0
Within room (Ok t) = t.strips ≤ room
Within room (Err r) = Unit {0}

-- what is kept of the lines before: ks are their kinds, st their strips
pub record Kept (j : Job) (w : Rooms) (ks : List ℕ) (st : List Float) (counts : List ℕ) (placed : List Float) (s : Standing) : Type 0 where
  pub counted : (k : ℕ) → k < 64 → get_or counts k 0 ≡ count_in k ks
  pub stands : take (6 * s.strips) placed ≡ st
  pub entries : length w.placed_entries ≡ s.entries + length (entries_for (planner_of j).bounds st)

-- a line with the verdict v: it is kept too, or v refuses it
abbrev pub LineIs : Job → Rooms → List ℕ → List Float → PutLine → Result (Unit {0}) Refusal → List ℕ → List Float → Result Standing Refusal → Type 0
LineIs j w ks st l v counts placed (Ok t) =
    (v ≡ (Ok tt)) × Kept j w (ks ++ (l.kind ∷ [])) (st ++ line_strips (planner_of j) (frame_of j.header) l) counts placed t
LineIs j w ks st l v counts placed (Err r) = v ≡ Err r
