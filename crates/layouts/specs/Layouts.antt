-- Document 02, W6, layouts from the bureau: a job and a list of placed panels, accepted, or refused at its first bad line. Definitions only.
-- Assumes nothing.
use Rattle.std.specs.Prelude.{Option, Some, None, Result, Ok, Err}
use Rattle.std.specs.Prelude.{ℕ, zero, suc, ◌+◌, ◌*◌, ◌/◌, Bool, true, false, not, ◌&&◌, ◌||◌, List, [], ◌∷◌, ◌++◌, map, length, get_or, leb, Float}
use Rattle.std.specs.Float.Ieee.{le, eq}
use Rattle.numbers.specs.Numbers.{pos_zero, double_of}
use Rattle.index.specs.Buckets.{up_from}
use Rattle.index.specs.Intervals.{forbidden_of}
use Rattle.look.specs.height.Smallest.{outside}
use Rattle.bits.specs.declared.Refusal.TheVariants as Input
use Rattle.frames.specs.declared.Frame.{Frame}
use Rattle.frames.specs.declared.Point.{Point}
use Rattle.frames.specs.Frames.{to}
use Rattle.job.specs.Jobs.{Job, Answer, accepted, refused, read_job, frame_of}
use Rattle.filling.specs.declared.Refusal.{Refusal}
use Rattle.filling.specs.declared.Refusal.TheVariants as Why
use Rattle.filling.specs.Refusals.{refuse_if}
use Rattle.filling.specs.Columns.{column_at}
use Rattle.filling.specs.Shapes.{Shape, Planner, planner_of, shape_of, moved_strips}
use Rattle.filling.specs.Search.{ranges_of, reversed_for, last_of}
use Rattle.filling.specs.Rooms.{Rooms, zero_rooms}
use Rattle.filling.specs.Order.{count_in}
use Rattle.filling.specs.Leaf.{lacks}
use Rattle.filling.specs.Start.{prepare_verdict}
use Rattle.filling.specs.NextCopy.{store_verdict}
use Rattle.layouts.specs.declared.PutLine.{PutLine}
use Rattle.layouts.specs.declared.Judgement.{Judgement}

-- ---- the list

-- "a list of kind, orientation, x and y as `put` gives them": four numbers to a line, the doubles by their bits.
-- "A minus zero in the list is read as plus zero": double_of does
unfoldable pub line_at : List ℕ → ℕ → PutLine
line_at given i =
    record {
      kind = get_or given (4 * i) 0;
      orientation = get_or given (4 * i + 1) 0;
      x = double_of (get_or given (4 * i + 2) 0);
      y = double_of (get_or given (4 * i + 3) 0);
    }

-- "in placing order": the whole lines; a remainder is none
unfoldable pub lines_of : List ℕ → List PutLine
lines_of given = map (line_at given) (up_from (length given / 4) 0)

unfoldable pub is_finite : Option Float → Bool
is_finite (Some x) = true
is_finite None = false

-- a finite number's value
unfoldable pub value_of : Option Float → Float
value_of (Some x) = x
value_of None = pos_zero

-- "positions go through `to` before they are judged"
unfoldable pub place_of : Frame → PutLine → Point
place_of f l = to f (record { x = value_of l.x; y = value_of l.y })

-- the strips of a line's copy, where it lies in the frame
unfoldable pub line_strips : Planner → Frame → PutLine → List Float
line_strips p f l = moved_strips (shape_of p l.kind l.orientation).apart (place_of f l).x (place_of f l).y

-- ---- what is judged of a place

-- one of the columns 0 to n stands at x
unfoldable pub among_columns : (ℕ → Float) → ℕ → Float → Bool
among_columns column zero x = eq (column 0) x
among_columns column (suc n) x = eq (column (suc n)) x || among_columns column n x

-- "each x lies in its orientation's range or is one of its columns (a reversed range has neither), each y lies in its range"
unfoldable pub in_range : Planner → Shape → Point → Bool
in_range p s q =
    let r = ranges_of p s in
    not (reversed_for p s)
    && (((le r.x_low q.x && le q.x r.x_high) || among_columns (column_at p.resolution r) (last_of p s) q.x)
    && (le r.y_low q.y && le q.y r.y_high))

-- "no y lies inside a forbidden interval against the sheet or an earlier copy in the list, by document 01's arithmetic":
-- "Inset strips are held against the sheet, apart strips against placed copies"
unfoldable pub clear : Planner → List Float → Shape → Point → Bool
clear p standing s q =
    outside (forbidden_of p.sheet s.inset q.x) q.y && outside (forbidden_of standing s.apart q.x) q.y

-- kind k's quantity; 0 of a kind that the job lacks
unfoldable pub quantity_of : Job → ℕ → ℕ
quantity_of j k = get_or (map (λ a. a.quantity) j.kinds) k 0

-- ---- a line; kinds and standing strips are those of the lines before it

-- "9 for a missing kind or orientation, 25 for too many copies, 26 outside the range, 27 in the way, then 20 or 21 for that copy's strips or entries"
unfoldable pub place_verdict : Job → Planner → Rooms → List ℕ → List Float → PutLine → Result (Unit {0}) Refusal
place_verdict j p w kinds standing l =
    let f = frame_of j.header in
    let s = shape_of p l.kind l.orientation in
    refuse_if (lacks j l.kind l.orientation) Why.MissingShape
    (refuse_if (leb (quantity_of j l.kind) (count_in l.kind kinds)) Why.TooManyOfKind
    (refuse_if (not (in_range p s (place_of f l))) Why.OutsideRange
    (refuse_if (not (clear p standing s (place_of f l))) Why.InTheWay
    (store_verdict p w (standing ++ line_strips p f l)))))

-- "4 for a non-finite number" before the others
unfoldable pub line_verdict : Job → Planner → Rooms → List ℕ → List Float → PutLine → Result (Unit {0}) Refusal
line_verdict j p w kinds standing l =
    refuse_if (not (is_finite l.x && is_finite l.y)) (Why.Job Input.NonFinite) (place_verdict j p w kinds standing l)

-- ---- the lines, one after another

-- "at the first bad line"; its number is that of the lines before it
unfoldable pub layout_from : Job → Planner → Rooms → List ℕ → List Float → List PutLine → Judgement
layout_from j p w kinds standing [] = record { verdict = Ok tt; line = length kinds }
layout_from j p w kinds standing (l ∷ ls) =
    elim (line_verdict j p w kinds standing l) [
      | Ok tt ↦ layout_from j p w (kinds ++ (l.kind ∷ [])) (standing ++ line_strips p (frame_of j.header) l) ls
      | Err r ↦ record { verdict = Err r; line = length kinds }
    ]

-- refused before the first line
unfoldable pub not_judged : Refusal → Judgement
not_judged r = record { verdict = Err r; line = 0 }

-- "It refuses a job as the plan does, then at the first bad line"
unfoldable pub layout_job : Job → List PutLine → Rooms → Judgement
layout_job j ls w =
    let p = planner_of j in
    elim (prepare_verdict p w) [ Ok tt ↦ layout_from j p w [] [] ls | Err r ↦ not_judged r ]

-- a job that is refused: its number
unfoldable pub layout_given : Answer → List PutLine → Rooms → Judgement
layout_given (refused k) ls w = not_judged (Why.Job k)
layout_given (accepted j) ls w = layout_job j ls w

-- what it answers, and its rooms after
pub record Judged : Type 0 where
  pub judgement : Judgement
  pub rooms : Rooms

-- the public operation `judge_layout`; "rooms are left as the whole plan leaves them": zeros
unfoldable pub layout_of : List ℕ → List ℕ → Rooms → Judged
layout_of bytes given w = record { judgement = layout_given (read_job bytes) (lines_of given) w; rooms = zero_rooms w }
