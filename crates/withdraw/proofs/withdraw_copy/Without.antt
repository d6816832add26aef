-- The parts of a state without one copy are the definition's. Assumes nothing.
use Prim.Native.Nat.{ℕ, ◌-◌, ◌≤◌, ◌<◌}
use native.Mathlib.Omega.{arith}
use mathlib.Core.Path.{◌≡◌}
use mathlib.Core.List.{List}
use lib.ListN.{get_or, replicate}
use lib.Ieee.{Float}
use Rattle.numbers.specs.Numbers.{pos_zero}
use Rattle.filling.specs.declared.Layout.{Layout}
use Rattle.filling.specs.declared.State.{State}
use Rattle.filling.specs.Withdraw.{closed_up, layout_without}
use Rattle.withdraw.specs.withdraw_copy.inner.Leaving.{state_left}

-- ---- numbers

pub from-none : (n : ℕ) → n - 0 ≡ n
from-none n = omega arith

pub early : (n t : ℕ) → n < t → t ≤ 4096 → n ≤ 4096
early n t a b = omega arith

-- ---- the layout and the state

pub layout_is : (l : Layout) (n t : ℕ) (r : Float) {o : List ℕ} {x y g : List Float} → o ≡ closed_up n t 0 l.orientation
    → x ≡ closed_up n t pos_zero l.x → y ≡ closed_up n t pos_zero l.y → g ≡ closed_up n t pos_zero l.gap
    → ◌≡◌ {A = Layout} (record { orientation = o; x = x; y = y; gap = g; unplaced_area = l.unplaced_area; right = r }) (layout_without l n t r)
unfolding layout_without
layout_is l n t r a b c d = rw (a, b, c, d)

pub state_is : (s : State) (n copies gone : ℕ) (right : Float) {o : List ℕ} {l : Layout} → o ≡ closed_up n copies (get_or s.order n 0) s.order
    → l ≡ layout_without s.layout n s.taken right
    → ◌≡◌ {A = State} (record {
      tables = s.tables;
      order = o;
      taken = s.taken - 1;
      next_column = replicate 1024 1;
      look_counts = replicate 1024 0;
      placed_strips = s.placed_strips - gone;
      layout = l;
    }) (state_left s n copies gone right)
state_is s n copies gone right a b = rw (a, b)
