-- Document 02, W6: "accept it, where room suffices, exactly if": the conditions, of the whole list. Definitions only. Assumes nothing.
use Rattle.std.specs.Prelude.{ℕ, Bool, true, not, ◌&&◌, length, leb, Float}
use mathlib.Core.List.{List, [], ◌∷◌, ◌++◌, map, flat_map}
use Rattle.index.specs.Buckets.{up_from}
use Rattle.frames.specs.declared.Frame.{Frame}
use Rattle.job.specs.Jobs.{Job, frame_of}
use Rattle.filling.specs.Refusals.{is_refused}
use Rattle.filling.specs.Shapes.{Planner, planner_of, shape_of}
use Rattle.filling.specs.Rooms.{Rooms}
use Rattle.filling.specs.Order.{count_in}
use Rattle.filling.specs.Consistent.{every}
use Rattle.filling.specs.Leaf.{lacks}
use Rattle.filling.specs.Start.{prepare_verdict}
use Rattle.filling.specs.NextCopy.{store_verdict}
use Rattle.layouts.specs.declared.PutLine.{PutLine}
use Rattle.layouts.specs.Layouts.{is_finite, place_of, line_strips, in_range, clear, quantity_of}

-- a line's numbers are finite, and the job has its kind and orientation
unfoldable pub line_named : Job → PutLine → Bool
line_named j l = is_finite l.x && is_finite l.y && not (lacks j l.kind l.orientation)

-- "no kind is used more often than its quantity"
unfoldable pub few_enough : Job → List ℕ → Bool
few_enough j kinds = every (λ k. leb (count_in k kinds) (quantity_of j k)) (up_from (length j.kinds) 0)

-- "each x lies in its orientation's range or is one of its columns .., each y lies in its range, and no y lies inside a forbidden interval against
-- the sheet or an earlier copy in the list"; standing are the strips of the lines before
unfoldable pub places_legal : Planner → Frame → List Float → List PutLine → Bool
places_legal p f standing [] = true
places_legal p f standing (l ∷ ls) =
    let s = shape_of p l.kind l.orientation in
    in_range p s (place_of f l) && clear p standing s (place_of f l) && places_legal p f (standing ++ line_strips p f l) ls

-- all of it
unfoldable pub legal_layout : Job → List PutLine → Bool
legal_layout j ls =
    every (line_named j) ls && few_enough j (map (λ l. l.kind) ls) && places_legal (planner_of j) (frame_of j.header) [] ls

-- "where room suffices": for what the job has, and for the strips and entries of all lines
unfoldable pub room_suffices : Job → List PutLine → Rooms → Bool
room_suffices j ls w =
    let p = planner_of j in
    not (is_refused (prepare_verdict p w)) && not (is_refused (store_verdict p w (flat_map (line_strips p (frame_of j.header)) ls)))
