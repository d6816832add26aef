-- Document 01, "Order and swaps" and "The printed plan", and document 02, W1 and W2: what a filling answers: copy numbers, positions, counts, right,
-- unplaced area, offcut. Definitions only. Assumes nothing.
use Rattle.std.specs.Prelude.{ℕ, suc, ◌/◌, ◌%◌, true, false, cond, length, get_or, replicate, eqb, Float}
use mathlib.Core.List.{List, [], ◌∷◌, map, flat_map, foldl}
use Rattle.std.specs.Float.Ieee.{lt}
use Rattle.numbers.specs.Numbers.{◌⊖◌, larger, pos_zero, from_int}
use Rattle.trapezoid.specs.Strip.{strip_at, capacity}
use Rattle.index.specs.Buckets.{up_from}
use Rattle.frames.specs.declared.Frame.{Frame}
use Rattle.frames.specs.declared.Point.{Point}
use Rattle.frames.specs.Frames.{from}
use Rattle.job.specs.Jobs.{Job, frame_of}
use Rattle.filling.specs.declared.State.{State}
use Rattle.filling.specs.declared.Plan.{Plan}
use Rattle.filling.specs.Shapes.{Planner, planner_of, Copy, Standing, standing_strips}
use Rattle.filling.specs.Order.{count_in}
use Rattle.filling.specs.State.{by_slot, standing_of, without_of, tracks_of}

-- "`put`: kind, copy, orientation, x, y"; document 02, W7: "`put` lines gain a sixth field"
pub record Position : Type 0 where
  pub kind : ℕ
  pub copy : ℕ
  pub orientation : ℕ
  pub x : Float
  pub y : Float
  pub gap : Float

-- "Placed copies of a kind are numbered from 0 in the final order": those of kind k, from copy n on
unfoldable pub positions_of_kind : ℕ → ℕ → List Standing → List Position
positions_of_kind k n [] = []
positions_of_kind k n (c ∷ cs) =
    elim (eqb c.copy.kind k) [
      | true ↦ record { kind = k; copy = n; orientation = c.orientation; x = c.x; y = c.y; gap = c.gap } ∷ positions_of_kind k (suc n) cs
      | false ↦ positions_of_kind k n cs
    ]

-- ", and given by kind, then copy": as they stand, in the job's frame
unfoldable pub framed_positions : Job → List Standing → List Position
framed_positions j cs = flat_map (λ k. positions_of_kind k 0 cs) (up_from (length j.kinds) 0)

unfoldable pub place_on_sheet : Frame → Position → Point
place_on_sheet f p = from f (record { x = p.x; y = p.y })

-- W1: "positions back through `from`"; the gap is a length
unfoldable pub on_sheet : Frame → Position → Position
on_sheet f p = record { kind = p.kind; copy = p.copy; orientation = p.orientation; x = (place_on_sheet f p).x; y = (place_on_sheet f p).y; gap = p.gap }

unfoldable pub positions : Job → List Standing → List Position
positions j cs = map (on_sheet (frame_of j.header)) (framed_positions j cs)

-- as they lie in the position room, six doubles each
unfoldable pub flat_positions : List Position → List Float
flat_positions [] = []
flat_positions (p ∷ ps) = from_int p.kind ∷ from_int p.copy ∷ from_int p.orientation ∷ p.x ∷ p.y ∷ p.gap ∷ flat_positions ps

-- by kind (64) the copies that stand, and those without a place
unfoldable pub placed_of_kind : List Standing → List ℕ
placed_of_kind cs = map (λ k. length (positions_of_kind k 0 cs)) (up_from 64 0)

-- the copies without a place by kind: "`left`: .. missing copies"
unfoldable pub unplaced_of_kind : List Copy → List ℕ
unplaced_of_kind cs = map (λ k. count_in k (map (λ c. c.kind) cs)) (up_from 64 0)

-- by slot what a table by kind and orientation says, 0 where it says nothing
unfoldable pub looks_by_slot : List (List ℕ) → List ℕ
looks_by_slot t = by_slot (λ i. get_or (get_or t (i / 16) []) (i % 16) 0)

-- the look counts by kind and orientation
unfoldable pub look_counts_of : Job → State → List (List ℕ)
look_counts_of j s = map (map (λ t. t.look_count)) (tracks_of j s)

-- ---- the offcut: document 02, W2

-- "the larger of right and the largest x1 of a placed apart strip": of a and of strips as they lie in a room
unfoldable pub reach_of : Float → List Float → Float
reach_of a strips = foldl (λ r i. larger r (strip_at strips i).x1) a (up_from (capacity strips) 0)

-- "zero if that is below zero"
unfoldable pub not_below_zero : Float → Float
not_below_zero x = cond (lt x pos_zero) pos_zero x

-- "Document 01's offcut becomes sheet right edge minus the larger of .., zero if that is below zero."
unfoldable pub offcut_of : Planner → State → Float
offcut_of p s = not_below_zero (s.tables.sheet_bounds.right ⊖ reach_of s.layout.right (standing_strips p (standing_of s)))

-- ---- the answer

-- "Right itself remains the Rust's."
unfoldable pub plan_of : Job → State → ℕ → Plan
plan_of j s improvements =
    record {
      placed = length (standing_of s);
      unplaced = length (without_of s);
      improvements = improvements;
      placed_of = placed_of_kind (standing_of s);
      unplaced_of = unplaced_of_kind (without_of s);
      look_counts = looks_by_slot (look_counts_of j s);
      right = s.layout.right;
      unplaced_area = s.layout.unplaced_area;
      offcut = offcut_of (planner_of j) s;
    }

-- "A refused whole plan returns only the number"
unfoldable pub no_plan : Plan
no_plan =
    record {
      placed = 0;
      unplaced = 0;
      improvements = 0;
      placed_of = replicate 64 0;
      unplaced_of = replicate 64 0;
      look_counts = replicate 1024 0;
      right = pos_zero;
      unplaced_area = pos_zero;
      offcut = pos_zero;
    }
