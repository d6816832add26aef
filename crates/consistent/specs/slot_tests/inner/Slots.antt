-- For inner functions' contracts only: 31's tests of the slots in the code's order. That they are the definition's is proved in the crate
-- consistent. Definitions only. Assumes nothing.
use Rattle.std.specs.Prelude.{ℕ, ◌+◌, ◌*◌, ◌≤◌, Bool, true, false, ◌&&◌, List, length, get_or, leb, Float}
use Rattle.trapezoid.specs.Strip.{capacity}
use Rattle.strips.specs.declared.Rect.{Rect}
use Rattle.index.specs.Buckets.{up_from}
use Rattle.filling.specs.Consistent.{every, strips_fit, bounds_fit}
use Rattle.search.specs.declared.columns.Columns.{Columns}
use Rattle.search.specs.columns.inner.Stands.{columns_of, reversed_of, last_of}
use Rattle.search.proofs.columns.Sizes.{BoundedRect, Resolving}
use Rattle.choose.specs.declared.Part.{Part}
use Rattle.choose.specs.inner.Choosing.{bounds_at, part_at, inset_part, apart_part}

-- what the tests read: sheet bounds, resolution, copies taken, tables by slot, the two parts of the shapes room
pub record Slots : Type 0 where
  pub bounds : Rect
  pub resolution : Float
  pub taken : ℕ
  pub inset_bounds : List Float
  pub parts : List ℕ
  pub apart : List Float
  pub inset : List Float
  pub next : List ℕ
  pub looks : List ℕ

abbrev pub slots : Rect → Float → ℕ → List Float → List ℕ → List Float → List Float → List ℕ → List ℕ → Slots
slots bounds resolution taken inset_bounds parts apart inset next looks =
    record {
      bounds = bounds;
      resolution = resolution;
      taken = taken;
      inset_bounds = inset_bounds;
      parts = parts;
      apart = apart;
      inset = inset;
      next = next;
      looks = looks;
    }

unfoldable pub part_test : ℕ → ℕ → Part → Bool
part_test apart inset q = leb (q.apart_start + q.apart_count) apart && leb (q.inset_start + q.inset_count) inset

-- the last column; 0 where there is no look
unfoldable pub last_for : Columns → ℕ
last_for c = elim (reversed_of c) [ true ↦ 0 | false ↦ last_of c ]

-- next is 0 for none, or 1 + the remembered column
unfoldable pub track_test : ℕ → ℕ → ℕ → ℕ → Bool
track_test taken last next looks = leb next (last + 1) && leb looks (last + 1 + taken)

unfoldable pub shape_test : Part → Rect → List Float → List Float → Bool
shape_test q b apart inset = strips_fit (apart_part q apart) && (strips_fit (inset_part q inset) && bounds_fit b)

unfoldable pub slot_test : Slots → ℕ → Bool
slot_test w i =
    let q = part_at w.parts i in
    let b = bounds_at w.inset_bounds i in
    part_test (capacity w.apart) (capacity w.inset) q
    && (shape_test q b w.apart w.inset
    && track_test w.taken (last_for (columns_of w.bounds b w.resolution)) (get_or w.next i 0) (get_or w.looks i 0))

-- the n slots from `first` on
unfoldable pub kind_test : Slots → ℕ → ℕ → Bool
kind_test w first n = every (λ o. slot_test w (first + o)) (up_from n 0)

-- the kinds, with their orientations in their table
unfoldable pub slots_test : Slots → List ℕ → ℕ → Bool
slots_test w rows kinds = every (λ k. kind_test w (16 * k) (get_or rows (4 * k + 3) 0)) (up_from kinds 0)

-- ---- what the tests require

pub record Given (w : Slots) : Type 0 where
  pub bounded : BoundedRect w.bounds
  pub resolving : Resolving w.resolution
  pub few : w.taken ≤ 4096
  pub bounds_long : 4096 ≤ length w.inset_bounds
  pub parts_long : 4096 ≤ length w.parts
  pub next_long : 1024 ≤ length w.next
  pub looks_long : 1024 ≤ length w.looks
