-- Document 02, W4, "Take a copy back": the withdrawal of a standing copy, a single step over a state and the contents of the rooms.
-- Definitions only. Assumes nothing.
use Rattle.std.specs.Prelude.{Result, Ok, Err, ℕ, suc, ◌+◌, ◌-◌, ◌*◌, true, false, List, [], ◌∷◌, ◌++◌, get_or, take, drop, replicate, ltb, Float}
use Rattle.numbers.specs.Numbers.{◌⊕◌, larger, pos_zero}
use Rattle.trapezoid.specs.Strip.{capacity}
use Rattle.job.specs.Jobs.{Job, Answer, accepted, refused, read_job}
use Rattle.filling.specs.declared.State.{State}
use Rattle.filling.specs.declared.Layout.{Layout}
use Rattle.filling.specs.declared.Refusal.{Refusal}
use Rattle.filling.specs.declared.Refusal.TheVariants as Why
use Rattle.filling.specs.Shapes.{Planner, Standing, shape_of, others, copy_strips, standing_strips}
use Rattle.filling.specs.Rooms.{Rooms, laid, zeros}
use Rattle.filling.specs.State.{planner_at, stands_at, standing_to, standing_of}
use Rattle.filling.specs.Consistent.{entries_for, firsts_for, placed_strips_of, consistent}

-- ---- what is closed up

-- "later ones close up in order": of the first m of a list that at n goes, those behind it move up, and v stands at their end
unfoldable pub closed_up {ℓ} : {A : Type ℓ} → ℕ → ℕ → A → List A → List A
closed_up n m v l = take n l ++ (drop (suc n) (take m l) ++ (v ∷ drop m l))

-- "its strips .. go, later ones close up in order": a strips lie before the copy's, which are m
unfoldable pub strips_left : ℕ → ℕ → List Float → List Float
strips_left a m strips = take (6 * a) strips ++ drop (6 * (a + m)) strips

-- the strips that are left where the copy c at place n goes
unfoldable pub strips_without : Planner → State → ℕ → Standing → List Float → List Float
strips_without p s n c strips = strips_left (capacity (standing_strips p (standing_to s n))) (capacity (copy_strips p c)) strips

-- "right is found anew from the standing copies": the largest x + b2, from r
unfoldable pub right_of : Planner → Float → List Standing → Float
right_of p r [] = r
right_of p r (c ∷ cs) = right_of p (larger r (c.x ⊕ (shape_of p c.copy.kind c.orientation).bounds.right)) cs

-- ---- the state and the rooms after

-- the places of the copies taken close up; the last is one to come
unfoldable pub layout_without : Layout → ℕ → ℕ → Float → Layout
layout_without l n taken right =
    record {
      orientation = closed_up n taken 0 l.orientation;
      x = closed_up n taken pos_zero l.x;
      y = closed_up n taken pos_zero l.y;
      gap = closed_up n taken pos_zero l.gap;
      unplaced_area = l.unplaced_area;
      right = right;
    }

-- "the copy joins the end of the order. All remembered columns return to 0, also those at none, and looks .. with them"
unfoldable pub state_without : Job → Planner → State → ℕ → Standing → List Float → State
state_without j p s n c strips =
    record {
      tables = s.tables;
      order = closed_up n j.copies c.copy.kind s.order;
      taken = s.taken - 1;
      next_column = replicate 1024 1;
      look_counts = replicate 1024 0;
      placed_strips = capacity strips;
      layout = layout_without s.layout n s.taken (right_of p p.bounds.left (others n (standing_of s)));
    }

-- "its strips and entries go, later ones close up in order, zeros after them"; W3's bucket numbers with them
unfoldable pub rooms_without : Planner → Rooms → List Float → Rooms
rooms_without p w strips =
    record {
      shapes = w.shapes;
      sheet = w.sheet;
      placed = laid strips (zeros pos_zero w.placed);
      sheet_entries = w.sheet_entries;
      placed_entries = laid (entries_for p.bounds strips) (zeros 0 w.placed_entries);
      sheet_firsts = w.sheet_firsts;
      placed_firsts = laid (firsts_for p.bounds strips) (zeros 0 w.placed_firsts);
    }

-- ---- the call

-- what a call answers and leaves, but for its interval room; a withdrawal is lent none
pub record Reply : Type 0 where
  pub verdict : Result (Unit {0}) Refusal
  pub state : State
  pub rooms : Rooms

-- "state and rooms unchanged"
unfoldable pub no_withdrawal : Refusal → State → Rooms → Reply
no_withdrawal r s w = record { verdict = Err r; state = s; rooms = w }

-- the copy at place n of the order, if it stands
unfoldable pub standing_here : State → ℕ → List Standing
standing_here s n = elim (ltb n s.taken) [ true ↦ stands_at s n (get_or s.layout.orientation n 0) | false ↦ [] ]

-- "then a copy that is not standing with 24"; p is what state and rooms hold
unfoldable pub withdrawn : Job → Planner → State → Rooms → ℕ → List Standing → Reply
withdrawn j p s w n [] = no_withdrawal Why.NotStanding s w
withdrawn j p s w n (c ∷ cs) =
    let strips = strips_without p s n c (placed_strips_of s w) in
    record { verdict = Ok tt; state = state_without j p s n c strips; rooms = rooms_without p w strips }

-- "It refuses with 31 .., then .."
unfoldable pub withdraw_job : Job → State → Rooms → ℕ → Reply
withdraw_job j s w n =
    elim (consistent j s w) [
      | false ↦ no_withdrawal Why.Inconsistent s w
      | true ↦ withdrawn j (planner_at j s.tables w) s w n (standing_here s n)
    ]

-- a job that the reader refuses: its number, and nothing changed
unfoldable pub withdraw_given : Answer → State → Rooms → ℕ → Reply
withdraw_given (refused k) s w n = no_withdrawal (Why.Job k) s w
withdraw_given (accepted j) s w n = withdraw_job j s w n

-- the public operation `withdraw`
unfoldable pub withdraw_of : List ℕ → State → Rooms → ℕ → Reply
withdraw_of bytes s w n = withdraw_given (read_job bytes) s w n
