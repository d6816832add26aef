-- For inner functions' contracts only: the shapes by slot in the job's frame, as its tables tell them. `rows` has four numbers to a kind, the last its
-- orientations; `places` has two to a slot, where its apart set begins and where its inset set begins. Definitions only. Assumes nothing.
use Rattle.std.specs.Prelude.{Option, Some, None, ℕ, zero, suc, ◌+◌, ◌*◌, ◌/◌, ◌%◌, ◌≤◌, ◌<◌, ◌≡◌}
use Rattle.std.specs.Prelude.{◌≢◌, Bool, true, false, ◌&&◌, List, [], ◌++◌, length, get_or, ltb, Float}
use Rattle.trapezoid.specs.declared.Trapezoid.{Trapezoid}
use Rattle.trapezoid.specs.Strip.{flat, capacity}
use Rattle.strips.specs.declared.Rect.{Rect}
use Rattle.strips.specs.inner.Tables as Tables
use Rattle.filling.specs.Shapes.{Shape, set_bounds, no_bounds}
use Rattle.filling.specs.State.{bounds_at}
use Rattle.shapes.specs.set_strips.inner.SetStrips.{strips_at}
use Rattle.frames.specs.declared.Frame.{Frame}
use Rattle.frames.specs.Frames.{framed}
use Rattle.kinds.specs.sets.inner.Answers.{set_at}

-- whether the job has slot i
unfoldable pub in_use : List ℕ → ℕ → ℕ → Bool
in_use rows kinds i = ltb (i / 16) kinds && ltb (i % 16) (get_or rows (4 * (i / 16) + 3) 0)

-- the strips of slot i: of its apart set (0) or its inset set (1)
unfoldable pub slot_strips : Frame → List ℕ → List ℕ → List ℕ → ℕ → ℕ → ℕ → List Trapezoid
slot_strips f bytes rows places kinds which i = elim (in_use rows kinds i) [ true ↦ strips_at f bytes (get_or places (2 * i + which) 0) false | false ↦ [] ]

-- the inset bounds of slot i
unfoldable pub slot_bounds : Frame → List ℕ → List ℕ → List ℕ → ℕ → ℕ → Rect
slot_bounds f bytes rows places kinds i =
    elim (in_use rows kinds i) [ true ↦ set_bounds (framed f (set_at bytes (get_or places (2 * i + 1) 0))) | false ↦ no_bounds ]

-- the shape of slot i
unfoldable pub slot_of : Frame → List ℕ → List ℕ → List ℕ → ℕ → ℕ → Shape
slot_of f bytes rows places kinds i =
    record {
      apart = flat (slot_strips f bytes rows places kinds 0 i);
      inset = flat (slot_strips f bytes rows places kinds 1 i);
      bounds = slot_bounds f bytes rows places kinds i;
    }

-- ---- one pass over the slots

-- the strips of the first n slots
unfoldable pub strips_to : (ℕ → List Trapezoid) → ℕ → List Trapezoid
strips_to f zero = []
strips_to f (suc n) = strips_to f n ++ f n

-- two of the four numbers to a slot are written, for the first n slots: how many strips are before its own, and how many are its own
pub record Column (which : ℕ) (f : ℕ → List Trapezoid) (n : ℕ) (old new : List ℕ) : Type 0 where
  pub size : length new ≡ length old
  pub start : (i : ℕ) → i < n → get_or new (4 * i + 2 * which) 0 ≡ length (strips_to f i)
  pub count : (i : ℕ) → i < n → get_or new (4 * i + 2 * which + 1) 0 ≡ length (f i)
  pub other : (i r : ℕ) → r < 4 → r ≢ 2 * which → r ≢ 2 * which + 1 → get_or new (4 * i + r) 0 ≡ get_or old (4 * i + r) 0

-- the strips of n slots lie in the room from strip number `from` on, or do not fit
abbrev pub SlotsLaid : Option ℕ → ℕ → (ℕ → List Trapezoid) → ℕ → ℕ → List Float → List Float → List ℕ → List ℕ → Type 0
SlotsLaid (Some m) which f n from room₀ room parts₀ parts =
    (m ≡ length (strips_to f n)) × (6 * (from + m) ≤ length room₀) × (room ≡ Tables.strips_laid (strips_to f n) room₀ from) × Column which f n parts₀ parts
SlotsLaid None which f n from room₀ room parts₀ parts = capacity room₀ < from + length (strips_to f n)

-- the bounds of the first n slots
pub record BoundsTo (f : ℕ → Rect) (n : ℕ) (old new : List Float) : Type 0 where
  pub size : length new ≡ length old
  pub here : (i : ℕ) → i < n → bounds_at new i ≡ f i
