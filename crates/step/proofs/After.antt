-- The state after a copy, put together from its parts, and the answer by its verdict. Assumes nothing.
use Prim.Native.Nat.{ℕ, ◌+◌, ◌*◌, ◌^◌, ◌<◌, ◌≤◌}
use native.Mathlib.Omega.{arith}
use mathlib.Core.Path.{◌≡◌, ap, ◌∙◌}
use mathlib.Core.List.{List}
use lib.ListN.{set}
use lib.Ieee.{Float}
use Rattle.filling.specs.declared.State.{State}
use Rattle.rooms.specs.tracks.inner.Tracks.{field, next_columns, look_counts_from, slot_numbers}
use Rattle.place.specs.declared.Step.{Step}
use Rattle.place.specs.inner.Placing.{orientation_number, outcome_x, y_of, gap_of}
use Rattle.step.specs.inner.Going.{taken_of}

-- ---- numbers
pub below : (i n : ℕ) → i < 4096 → n ≡ 4096 → i < n
below i n h e = omega arith

pub small : (i : ℕ) → i < 4096 → i * 8 < 2 ^ 64
small i h = omega arith

-- the r-th number of each slot can be read
pub readable : (r l t : ℕ) → r < 2 → l ≡ 1024 → slot_numbers ≤ t → (2 ≤ 4) × (l ≤ 4096) × (r ≤ 4096) × ((i : ℕ) → i < l → 2 * i + r < t)
readable r l t h e g = (omega arith, omega arith, omega arith, (λ i m. omega arith))

module _ (s : State) (r : Step) (tracks : List ℕ) where
  -- ---- the state
  abbrev pub state_by : List ℕ → List ℕ → ℕ → Float → Float → Float → State
  state_by next counts n x y gap =
      record {
        tables = s.tables;
        order = s.order;
        taken = s.taken + 1;
        next_column = next;
        look_counts = counts;
        placed_strips = r.totals.placed_strips;
        layout = record {
          orientation = set s.layout.orientation s.taken n;
          x = set s.layout.x s.taken x;
          y = set s.layout.y s.taken y;
          gap = set s.layout.gap s.taken gap;
          unplaced_area = r.totals.unplaced_area;
          right = r.totals.right;
        };
      }

  pub state_is : (next counts : List ℕ) (n : ℕ) (x y gap : Float) (a b : ℕ) → a ≡ 1024 → b ≡ 1024
      → next ≡ field 0 2 0 a tracks → counts ≡ field 0 2 1 b tracks → n ≡ orientation_number r.outcome → x ≡ outcome_x r.outcome → y ≡ y_of r.outcome
      → gap ≡ gap_of r.outcome → state_by next counts n x y gap ≡ taken_of (s.taken + 1) s r tracks
  state_is next counts n x y gap a b u v e f g h k m =
      let o = r.outcome in
      ap (λ (l : List ℕ). state_by l counts n x y gap) (e ∙ ap (λ (i : ℕ). field 0 2 0 i tracks) u)
      ∙ (ap (λ (l : List ℕ). state_by (next_columns tracks) l n x y gap) (f ∙ ap (λ (i : ℕ). field 0 2 1 i tracks) v)
      ∙ (ap (λ (i : ℕ). state_by (next_columns tracks) (look_counts_from tracks) i x y gap) g
      ∙ (ap (λ (z : Float). state_by (next_columns tracks) (look_counts_from tracks) (orientation_number o) z y gap) h
      ∙ (ap (λ (z : Float). state_by (next_columns tracks) (look_counts_from tracks) (orientation_number o) (outcome_x o) z gap) k
      ∙ ap (λ (z : Float). state_by (next_columns tracks) (look_counts_from tracks) (orientation_number o) (outcome_x o) (y_of o) z) m))))
