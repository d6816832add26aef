-- For inner functions' contracts only: a kind's tracks, kept and put back. Definitions only. Assumes nothing.
use Rattle.std.specs.Prelude.{ℕ, ◌+◌, ◌*◌, ◌<◌, ◌≤◌, ◌≡◌, ◌⊎◌, List, length, get_or}

-- the first n numbers kept are the table's from the slot on, two to a slot
abbrev pub Kept : ℕ → ℕ → List ℕ → List ℕ → Type 0
Kept slot n tracks kept = (i : ℕ) → i < n → get_or kept i 0 ≡ get_or tracks (2 * slot + i) 0

-- n numbers are put back from the slot on, the others stay
pub record PutBack (slot n : ℕ) (kept before after : List ℕ) : Type 0 where
  pub there : Kept slot n after kept
  pub ahead : (p : ℕ) → p < 2 * slot → get_or after p 0 ≡ get_or before p 0
  pub behind : (p : ℕ) → 2 * slot + n ≤ p → get_or after p 0 ≡ get_or before p 0
  pub long : length after ≡ length before

-- equal but at the n slots from `slot` on
abbrev pub Outside : ℕ → ℕ → List ℕ → List ℕ → Type 0
Outside slot n a b = (i : ℕ) → (i < slot) ⊎ (slot + n ≤ i) → get_or a i 0 ≡ get_or b i 0
