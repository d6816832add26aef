-- Document 01, the next copy: a single step over a state and the contents of the rooms. Definitions only. Assumes nothing.
use Rattle.std.specs.Prelude.{Result, Ok, Err, ℕ, suc, ◌*◌, Bool, true, false, ◌||◌, List, [], ◌∷◌, ◌++◌, map, length, get_or, set, drop, ltb, Float}
use Rattle.std.proofs.lemmas.List.Edits.{sets}
use Rattle.numbers.specs.Numbers.{◌⊕◌, larger, pos_zero}
use Rattle.trapezoid.specs.Strip.{capacity}
use Rattle.index.specs.Buckets.{standing_capacity}
use Rattle.job.specs.Jobs.{Job, Answer, accepted, refused, read_job}
use Rattle.filling.specs.declared.State.{State}
use Rattle.filling.specs.declared.Layout.{Layout}
use Rattle.filling.specs.declared.Refusal.{Refusal}
use Rattle.filling.specs.declared.Refusal.TheVariants as Why
use Rattle.filling.specs.Refusals.{refuse_if}
use Rattle.filling.specs.Shapes.{Shape, Planner, shape_of, moved_strips}
use Rattle.filling.specs.Search.{Found, Track, intervals_at, looks, search_all, searched_all}
use Rattle.filling.specs.Choice.{Choice, choices, best}
use Rattle.filling.specs.Rooms.{Rooms, interval_capacity, laid, zeros}
use Rattle.filling.specs.State.{planner_at, order_of, remembered_number, tracks_of}
use Rattle.filling.specs.Consistent.{entries_for, firsts_for, placed_strips_of, consistent}

-- ---- 22: "a look's counted intervals exceed their room"

-- the numbers of counted intervals of all looks at a copy, whose searches found fs
unfoldable pub interval_counts : Planner → List Float → List Shape → List Track → List Found → List ℕ
interval_counts p standing [] ts fs = []
interval_counts p standing (s ∷ ss) [] fs = []
interval_counts p standing (s ∷ ss) (t ∷ ts) [] = []
interval_counts p standing (s ∷ ss) (t ∷ ts) (f ∷ fs) =
    map (λ c. length (intervals_at p standing s c)) (looks p s t.next_column f) ++ interval_counts p standing ss ts fs

-- one of the numbers is above the room
unfoldable pub any_above : ℕ → List ℕ → Bool
any_above room [] = false
any_above room (n ∷ ns) = ltb room n || any_above room ns

-- ---- 20 and 21: "20 is tested before 21, for a whole copy"

-- the winner's apart strips, moved
unfoldable pub new_strips : Planner → ℕ → Choice → List Float
new_strips p k c = moved_strips (shape_of p k c.orientation).apart c.x c.y

-- "strips to be stored exceed the lent strip room" before "bucket entries exceed their room"
unfoldable pub store_verdict : Planner → Rooms → List Float → Result (Unit {0}) Refusal
store_verdict p w strips =
    refuse_if (ltb (standing_capacity w.placed w.placed_firsts) (capacity strips)) Why.StripRoom
    (refuse_if (ltb (length w.placed_entries) (length (entries_for p.bounds strips))) Why.EntryRoom (Ok tt))

-- a copy without a place stores nothing
unfoldable pub winner_verdict : Planner → Rooms → ℕ → List Float → List Choice → Result (Unit {0}) Refusal
winner_verdict p w k standing [] = Ok tt
winner_verdict p w k standing (a ∷ as') = store_verdict p w (standing ++ new_strips p k (best a as'))

-- every orientation is searched before the winner is stored
unfoldable pub copy_verdict : Planner → Rooms → List Float → ℕ → List Float → List Shape → List Track → List Found → Result (Unit {0}) Refusal
copy_verdict p w intervals k standing ss ts fs =
    refuse_if (any_above (interval_capacity intervals) (interval_counts p standing ss ts fs)) Why.IntervalRoom
    (winner_verdict p w k standing (choices p 0 ss fs))

-- ---- a copy of kind k is taken

-- its entry in the layout: 0 for none, or 1 + orientation with x, y and the clear height above
unfoldable pub entered : Layout → ℕ → ℕ → Float → Float → Float → Float → Float → Layout
entered l place orientation x y gap area right =
    record {
      orientation = set l.orientation place orientation;
      x = set l.x place x;
      y = set l.y place y;
      gap = set l.gap place gap;
      unplaced_area = area;
      right = right;
    }

-- the state with the copy taken, its kind's tracks and its layout
unfoldable pub state_with : State → ℕ → List Track → ℕ → Layout → State
state_with s k ts strips layout =
    record {
      tables = s.tables;
      order = s.order;
      taken = suc s.taken;
      next_column = sets s.next_column (16 * k) (map (λ t. remembered_number t.next_column) ts);
      look_counts = sets s.look_counts (16 * k) (map (λ t. t.look_count) ts);
      placed_strips = strips;
      layout = layout;
    }

-- "A copy without a place adds its kind's area, in order, to the unplaced area. Right is the largest winning x + b2"
unfoldable pub layout_after : Planner → ℕ → ℕ → Layout → List Choice → Layout
layout_after p k place l [] = entered l place 0 pos_zero pos_zero pos_zero (l.unplaced_area ⊕ get_or p.areas k pos_zero) l.right
layout_after p k place l (a ∷ as') =
    let c = best a as' in
    entered l place (suc c.orientation) c.x c.y c.gap l.unplaced_area (larger l.right c.right)

-- the state after, given what the orientations found
unfoldable pub state_after : Planner → ℕ → List Track → State → List Float → List Choice → State
state_after p k ts s standing [] = state_with s k ts s.placed_strips (layout_after p k s.taken s.layout [])
state_after p k ts s standing (a ∷ as') =
    state_with s k ts (capacity (standing ++ new_strips p k (best a as'))) (layout_after p k s.taken s.layout (a ∷ as'))

-- "The winner's apart strips are moved (each number plus x or y) and entered."; W3: "worked out on entry"
unfoldable pub stored : Planner → Rooms → List Float → Rooms
stored p w strips =
    record {
      shapes = w.shapes;
      sheet = w.sheet;
      placed = laid strips w.placed;
      sheet_entries = w.sheet_entries;
      placed_entries = laid (entries_for p.bounds strips) w.placed_entries;
      sheet_firsts = w.sheet_firsts;
      placed_firsts = laid (firsts_for p.bounds strips) w.placed_firsts;
    }

-- the rooms after; a copy without a place changes none
unfoldable pub rooms_after : Planner → ℕ → Rooms → List Float → List Choice → Rooms
rooms_after p k w standing [] = w
rooms_after p k w standing (a ∷ as') = stored p w (standing ++ new_strips p k (best a as'))

-- ---- the step

-- what a single step answers, and its rooms after
pub record Step : Type 0 where
  pub verdict : Result (Unit {0}) Refusal
  pub state : State
  pub rooms : Rooms
  pub intervals : List Float

-- "A refused single step returns state, strip and entry rooms unchanged; every single step leaves zeros in the interval room."
unfoldable pub no_step : Refusal → State → Rooms → List Float → Step
no_step r s w intervals = record { verdict = Err r; state = s; rooms = w; intervals = zeros pos_zero intervals }

-- a copy of kind k whose orientations ss found fs
unfoldable pub place_found : Planner → List Float → List Shape → List Track → List Found → ℕ → State → Rooms → List Float → Step
place_found p standing ss ts fs k s w intervals =
    elim (copy_verdict p w intervals k standing ss ts fs) [
      | Ok tt ↦
          let cs = choices p 0 ss fs in
          record {
            verdict = Ok tt;
            state = state_after p k (searched_all p ss ts fs) s standing cs;
            rooms = rooms_after p k w standing cs;
            intervals = zeros pos_zero intervals;
          }
      | Err r ↦ no_step r s w intervals
    ]

-- a copy of kind k, where p and standing are what state and rooms hold
unfoldable pub place_copy : Planner → List Float → List Track → ℕ → State → Rooms → List Float → Step
place_copy p standing ts k s w intervals =
    let ss = get_or p.shapes k [] in
    place_found p standing ss ts (search_all p standing ss ts) k s w intervals

-- the copies to come; 23: "next copy asked for, order used up"
unfoldable pub place_next : Job → State → Rooms → List Float → List ℕ → Step
place_next j s w intervals [] = no_step Why.OrderUsedUp s w intervals
place_next j s w intervals (k ∷ ks) =
    place_copy (planner_at j s.tables w) (placed_strips_of s w) (get_or (tracks_of j s) k []) k s w intervals

-- one core that places the next copy, for a single step and for a filling
unfoldable pub core_step : Job → State → Rooms → List Float → Step
core_step j s w intervals = place_next j s w intervals (drop s.taken (order_of j s))

-- "31 before all else in a step"
unfoldable pub step_job : Job → State → Rooms → List Float → Step
step_job j s w intervals = elim (consistent j s w) [ false ↦ no_step Why.Inconsistent s w intervals | true ↦ core_step j s w intervals ]

-- a job that the reader refuses: its number, and nothing changed
unfoldable pub step_given : Answer → State → Rooms → List Float → Step
step_given (refused k) s w intervals = no_step (Why.Job k) s w intervals
step_given (accepted j) s w intervals = step_job j s w intervals

-- the public operation `next_copy`
unfoldable pub next_copy_of : List ℕ → State → Rooms → List Float → Step
next_copy_of bytes s w intervals = step_given (read_job bytes) s w intervals
