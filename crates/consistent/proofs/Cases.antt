-- The groups of 31's tests by cases, in the code's order. Assumes nothing.
use Rattle.std.specs.Prelude.{Option, Some, None}
use Rattle.std.specs.Option.{is_some}
use Prim.Native.Nat.{ℕ, ◌-◌, ◌*◌, ◌≤◌}
use native.Mathlib.Omega.{arith}
use mathlib.Core.Path.{◌≡◌, refl, sym, ap, subst, ◌∙◌}
use mathlib.Core.Bool.{Bool, true, false, ◌&&◌}
use mathlib.Core.List.{List}
use lib.ListN.{length, take, drop}
use lib.Dec.{leb}
use lib.Ieee.{Float}
use borrow.Author.Tests.{leb-true}
use Rattle.numbers.proofs.Truth.{both_first, both_second}
use Rattle.index.proofs.Standing.{standing-within}
use Rattle.rooms.proofs.tracks.Parts.{rest-is}
use Rattle.trapezoid.specs.Strip.{capacity}
use Rattle.strips.specs.declared.Rect.{Rect}
use Rattle.index.specs.declared.Index.{Index}
use Rattle.index.specs.Buckets.{index_of, entries_of, firsts_of, standing_capacity}
use Rattle.index.specs.inner.Listing.{Laid, FirstBuckets}
use Rattle.index.specs.entries.inner.Walk.{follows, Known}
use Rattle.filling.specs.Consistent.{strips_fit, numbers_lie, entries_for, firsts_for, sheet_index}
use Rattle.filling.proofs.EntryWalk.{ends, walk_decides}
use Rattle.consistent.proofs.strip_tests.Bounding.{never}
use Rattle.consistent.specs.slot_tests.inner.Slots.{Slots, slots, slots_test}
use Rattle.consistent.specs.inner.Tests.{counts_test, strip_room_test, rooms_test}

-- ---- strip counts

pub room_for : (n : ℕ) (room : List Float) → n ≤ capacity room → 6 * n ≤ length room
unfolding capacity
room_for n room h = omega arith

-- ---- entries

ended : (t : Option ℕ) → is_some t ≡ ends t
ended (Some e) = refl
ended None = refl

module _ (ix : Index) (part : List Float) (n : ℕ) (es starts : List ℕ) (count : n ≡ capacity part) where
  pub walked : {t : Option ℕ} → t ≡ follows es 0 (entries_of ix part n) → is_some t ≡ numbers_lie (entries_of ix part (capacity part)) es
  walked q = ended _ ∙ (ap ends q ∙ (walk_decides (entries_of ix part n) es ∙ ap (λ (m : ℕ). numbers_lie (entries_of ix part m) es) count))

  pub walked_laid : (t : Option ℕ) → Known ix part n es starts t → is_some t ≡ true → Laid ix part (capacity part) es starts
  walked_laid (Some e) k h = subst (λ (m : ℕ). Laid ix part m es starts) count k
  walked_laid None k h = never h

-- ---- strips, their first buckets and their entries

module _ (bounds : Rect) (part : List Float) (es fs : List ℕ) where
  pub room-strips : strips_fit part ≡ false → strip_room_test bounds part es fs ≡ false
  unfolding strip_room_test
  room-strips e = ap (λ b. b && (numbers_lie (firsts_for bounds part) fs && numbers_lie (entries_for bounds part) es)) e

  module _ (a : strips_fit part ≡ true) {ix : Index} (q : ix ≡ index_of bounds.left bounds.right) where
    firsts_of_lem : numbers_lie (firsts_of ix part (capacity part)) fs ≡ numbers_lie (firsts_for bounds part) fs
    unfolding firsts_for sheet_index
    firsts_of_lem = ap (λ (i : Index). numbers_lie (firsts_of i part (capacity part)) fs) q

    entries_of_lem : numbers_lie (entries_of ix part (capacity part)) es ≡ numbers_lie (entries_for bounds part) es
    unfolding entries_for sheet_index
    entries_of_lem = ap (λ (i : Index). numbers_lie (entries_of i part (capacity part)) es) q

    after-strips : numbers_lie (firsts_for bounds part) fs && numbers_lie (entries_for bounds part) es ≡ strip_room_test bounds part es fs
    unfolding strip_room_test
    after-strips = sym (ap (λ b. b && (numbers_lie (firsts_for bounds part) fs && numbers_lie (entries_for bounds part) es)) a)

    pub room_firsts : numbers_lie (firsts_of ix part (capacity part)) fs ≡ false → strip_room_test bounds part es fs ≡ false
    room_firsts e = sym after-strips ∙ ap (λ t. t && numbers_lie (entries_for bounds part) es) (sym firsts_of_lem ∙ e)

    pub room-entries : numbers_lie (firsts_of ix part (capacity part)) fs ≡ true
        → numbers_lie (entries_of ix part (capacity part)) es ≡ strip_room_test bounds part es fs
    room-entries e = entries_of_lem ∙ (sym (ap (λ t. t && numbers_lie (entries_for bounds part) es) (sym firsts_of_lem ∙ e)) ∙ after-strips)

pub laid-there : (bounds : Rect) {ix : Index} (q : ix ≡ index_of bounds.left bounds.right) (part : List Float) (es starts : List ℕ) → Laid ix part (capacity part) es starts → Laid (sheet_index bounds) part (capacity part) es starts
unfolding sheet_index
laid-there bounds q part es starts l = subst (λ (i : Index). Laid i part (capacity part) es starts) q l

pub kept_there : (bounds : Rect) {ix : Index} (q : ix ≡ index_of bounds.left bounds.right) (part : List Float) (fs : List ℕ)
    → FirstBuckets ix part (capacity part) fs → FirstBuckets (sheet_index bounds) part (capacity part) fs
unfolding sheet_index
kept_there bounds q part fs k = subst (λ (i : Index). FirstBuckets i part (capacity part) fs) q k

-- ---- the rooms

-- strips that are counted lie in their rooms
pub rooms-held : (w : Slots) (rows : List ℕ) (kinds n a m : ℕ) (sheet shapes placed : List Float) (sheet_firsts placed_firsts : List ℕ) (stands : Bool)
    → rooms_test w rows kinds (counts_test n a m sheet shapes placed sheet_firsts placed_firsts) stands ≡ true
    → (6 * a ≤ length shapes) × (6 * m ≤ length placed)
unfolding rooms_test counts_test
rooms-held w rows kinds n a m sheet shapes placed sheet_firsts placed_firsts stands e =
    let counted = both_first (counts_test n a m sheet shapes placed sheet_firsts placed_firsts) (slots_test w rows kinds && stands) e in
    let rest = both_second (leb n (standing_capacity sheet sheet_firsts)) (leb a (capacity shapes) && leb m (standing_capacity placed placed_firsts)) counted in
    let x = leb-true a (capacity shapes) (both_first (leb a (capacity shapes)) (leb m (standing_capacity placed placed_firsts)) rest) in
    let y = leb-true m (standing_capacity placed placed_firsts) (both_second (leb a (capacity shapes)) (leb m (standing_capacity placed placed_firsts)) rest) in
    (room_for a shapes x, standing-within m placed placed_firsts y)

-- ---- both groups

pub both_no : (a b : Bool) → a ≡ false → a && b ≡ false
both_no a b e = ap (λ t. t && b) e

pub both_yes : (a b : Bool) → a ≡ true → b ≡ a && b
both_yes a b e = sym (ap (λ t. t && b) e)

-- ---- the second part of the shapes room

pub slots-rest : {r : Bool} (bounds : Rect) (resolution : Float) (taken : ℕ) (inset_bounds : List Float) (parts : List ℕ) (apart : List Float) (n : ℕ) (room : List Float) (next looks rows : List ℕ) (kinds : ℕ)
    → r ≡ slots_test (slots bounds resolution taken inset_bounds parts apart (take (length room - n) (drop n room)) next looks) rows kinds
    → r ≡ slots_test (slots bounds resolution taken inset_bounds parts apart (drop n room) next looks) rows kinds
slots-rest bounds resolution taken inset_bounds parts apart n room next looks rows kinds e = e ∙ ap (λ (l : List Float). slots_test (slots bounds resolution taken inset_bounds parts apart l next looks) rows kinds) (rest-is n room)
