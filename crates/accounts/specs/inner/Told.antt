-- For inner functions' contracts only: what a state says, in the slices that a function is given. Definitions only. Assumes nothing.
use Rattle.std.specs.Prelude.{◌≡◌, ℕ, List, Float}
use Rattle.job.specs.Jobs.{Job}
use Rattle.filling.specs.declared.State.{State}
use Rattle.filling.specs.Shapes.{planner_of}
use Rattle.filling.specs.Accounts.{offcut_of}

-- the order, the copies' places, the look counts, and how many copies are taken
pub record PlanTold (s : State) (order orientation : List ℕ) (x y gap : List Float) (looks : List ℕ) (taken : ℕ) : Type 0 where
  pub order_is : s.order ≡ order
  pub orientation_is : s.layout.orientation ≡ orientation
  pub x_is : s.layout.x ≡ x
  pub y_is : s.layout.y ≡ y
  pub gap_is : s.layout.gap ≡ gap
  pub looks_are : s.look_counts ≡ looks
  pub taken_is : s.taken ≡ taken

-- its totals, and its offcut
pub record Totalled (j : Job) (s : State) (right area offcut : Float) : Type 0 where
  pub right_is : s.layout.right ≡ right
  pub area_is : s.layout.unplaced_area ≡ area
  pub offcut_is : offcut_of (planner_of j) s ≡ offcut
