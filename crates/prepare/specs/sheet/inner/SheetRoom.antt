-- For inner functions' contracts only: the sheet's rooms after its strips are laid and entered. Definitions only. Assumes nothing.
use Rattle.std.specs.Prelude.{Result, Ok, Err, ℕ, ◌≤◌, ◌<◌, ◌≡◌, List, length, Float}
use Rattle.trapezoid.specs.Strip.{capacity}
use Rattle.index.specs.Buckets.{standing_capacity}
use Rattle.index.specs.inner.Listing.{Laid, FirstBuckets}
use Rattle.strips.specs.declared.Rect.{Rect}
use Rattle.filling.specs.Rooms.{laid}
use Rattle.filling.specs.Consistent.{sheet_index, entries_for, firsts_for}
use Rattle.index.specs.declared.Overrun.{Overrun}
use Rattle.index.specs.declared.Overrun.TheVariants as Room

-- strips s within the bounds b, their entries, the starts of the buckets, and the strips' first buckets
pub record SheetIn (b : Rect) (s : List Float) (n : ℕ) (sheet₀ sheet : List Float) (entries₀ entries starts firsts₀ firsts : List ℕ) : Type 0 where
  pub number : n ≡ capacity s
  pub strips-fit : capacity s ≤ standing_capacity sheet₀ firsts₀
  pub entries_fit : length (entries_for b s) ≤ length entries₀
  pub strips : sheet ≡ laid s sheet₀
  pub entries_are : entries ≡ laid (entries_for b s) entries₀
  pub indexed : Laid (sheet_index b) s (capacity s) entries starts
  pub firsts_are : firsts ≡ laid (firsts_for b s) firsts₀
  pub kept : FirstBuckets (sheet_index b) s (capacity s) firsts

-- they are laid, or the strips do not fit, or the entries do not; no interval is looked for
abbrev pub SheetIs : Result (Rect × ℕ) Overrun → Rect → List Float → List Float → List Float → List ℕ → List ℕ → List ℕ → List ℕ → List ℕ → Type 0
SheetIs (Ok (r, n)) b s sheet₀ sheet entries₀ entries starts firsts₀ firsts = (r ≡ b) × SheetIn b s n sheet₀ sheet entries₀ entries starts firsts₀ firsts
SheetIs (Err Room.StripRoom) b s sheet₀ sheet entries₀ entries starts firsts₀ firsts = standing_capacity sheet₀ firsts₀ < capacity s
SheetIs (Err Room.EntryRoom) b s sheet₀ sheet entries₀ entries starts firsts₀ firsts =
    (capacity s ≤ standing_capacity sheet₀ firsts₀) × (length entries₀ < length (entries_for b s))
SheetIs (Err Room.IntervalRoom) b s sheet₀ sheet entries₀ entries starts firsts₀ firsts = ⊥
