-- For inner functions' contracts only: storing a copy in the code's order, and what it leaves. Definitions only. Assumes nothing.
use Rattle.std.specs.Prelude.{Option, Some, None, Result, Ok, Err, ℕ, zero, suc, ◌+◌, ◌-◌, ◌*◌, ◌≡◌, true, false, List, ◌++◌, length, take, ltb, leb, Float}
use Rattle.numbers.specs.Numbers.{◌⊕◌}
use Rattle.trapezoid.specs.declared.Trapezoid.{Trapezoid}
use Rattle.trapezoid.specs.Strip.{strip_at, capacity, moved_by}
use Rattle.trapezoid.specs.inner.Writing.{set_strip}
use Rattle.index.specs.declared.Index.{Index}
use Rattle.index.specs.declared.Overrun.{Overrun}
use Rattle.index.specs.declared.Overrun.TheVariants.{StripRoom, EntryRoom}
use Rattle.index.specs.Buckets.{bucket_in, entries_of, firsts_of, standing_capacity}
use Rattle.index.specs.inner.Listing.{Laid, FirstBuckets}
use Rattle.enter.specs.inner.EntryRoom.{starts_of}
use Rattle.filling.specs.Shapes.{moved_strips}
use Rattle.filling.specs.Rooms.{laid}

-- the room with the first j apart strips, moved, from number n on
unfoldable pub moved_to : List Float → Float → Float → ℕ → List Float → ℕ → List Float
moved_to apart x y n placed zero = placed
moved_to apart x y n placed (suc j) = set_strip (moved_to apart x y n placed j) (n + j) (moved_by (strip_at apart j) x y)

-- how many buckets a strip, moved by x, is entered in
unfoldable pub width_at : Index → Trapezoid → Float → ℕ
width_at ix q x = bucket_in ix (q.x1 ⊕ x) + 1 - bucket_in ix (q.x0 ⊕ x)

-- how many entries the first j apart strips, moved by x, have
unfoldable pub widths_to : Index → List Float → Float → ℕ → ℕ
widths_to ix apart x zero = 0
widths_to ix apart x (suc j) = widths_to ix apart x j + width_at ix (strip_at apart j) x

-- what is left of a room for so many entries
unfoldable pub rest_of : ℕ → ℕ → Option ℕ
rest_of room n = elim (leb n room) [ true ↦ Some (room - n) | false ↦ None ]

-- that a copy is stored, or the room that it would overrun
abbrev pub Stored : Type 0
Stored = Result (Unit {0}) Overrun

pub record Left : Type 0 where
  pub answer : Stored
  pub placed : List Float
  pub entries : List ℕ
  pub starts : List ℕ

abbrev pub left : Stored → List Float → List ℕ → List ℕ → Left
left a p e s = record { answer = a; placed = p; entries = e; starts = s }

-- the strips that are to stand: the first n of the room, and the apart strips moved
abbrev pub together : List Float → Float → Float → ℕ → List Float → List Float
together apart x y n placed = take (6 * n) placed ++ moved_strips apart x y

-- 20, then 21, for the whole copy
unfoldable pub store_of : Index → List Float → Float → Float → ℕ → List Float → List ℕ → List ℕ → List ℕ → Left
store_of ix apart x y n placed entries starts firsts =
    let strips = together apart x y n placed in
    elim (ltb (standing_capacity placed firsts) (capacity strips)) [
      | true ↦ left (Err StripRoom) placed entries starts
      | false ↦
          elim (ltb (length entries) (length (entries_of ix strips (capacity strips)))) [
            | true ↦ left (Err EntryRoom) placed entries starts
            | false ↦ left (Ok tt) (laid strips placed) (laid (entries_of ix strips (capacity strips)) entries) (starts_of ix strips (capacity strips))
          ]
    ]

-- after it the entries are those of the strips that stand
abbrev pub Entered : Index → ℕ → ℕ → List Float → List ℕ → List ℕ → Stored → Type 0
Entered ix n k placed entries starts (Err r) = Laid ix placed n entries starts
Entered ix n k placed entries starts (Ok tt) = Laid ix placed (n + k) entries starts

-- the first n numbers are the strips' first buckets, the rest is as it was
pub record FirstsLaid (ix : Index) (standing : List Float) (n : ℕ) (before after : List ℕ) : Type 0 where
  pub written : after ≡ laid (firsts_of ix standing n) before
  pub kept : FirstBuckets ix standing n after

-- after it the numbers are those of the strips that stand
abbrev pub FirstsEntered : Index → ℕ → ℕ → List Float → List ℕ → List ℕ → Stored → Type 0
FirstsEntered ix n k placed before after (Err r) = FirstsLaid ix placed n before after
FirstsEntered ix n k placed before after (Ok tt) = FirstsLaid ix placed (n + k) before after
