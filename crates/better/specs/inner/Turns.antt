-- For inner functions' contracts only: what a round of the swap search draws. Definitions only. Assumes nothing.
use Rattle.std.specs.Prelude.{Option, Some, None, ℕ, ◌%◌, ◌<◌, ◌≡◌, Bool, true, false, List, length, get_or, Float}
use Rattle.random.specs.SplitMix64.{next_state, mixed}
use Rattle.job.specs.Jobs.{Job}
use Rattle.accounts.specs.tables.inner.Tabled.{Tabled}
use Rattle.nesting.specs.Rounds.{swappable, swapped}

-- the places i and k are drawn; whether the copies there may be swapped
pub record DrewAt (random : ℕ) (rows order : List ℕ) (may : Bool) (i k : ℕ) : Type 0 where
  pub i_is : i ≡ mixed (next_state random) % length order
  pub k_is : k ≡ mixed (next_state (next_state random)) % length order
  pub i_in : i < length order
  pub k_in : k < length order
  pub may_is : (j : Job) (areas : List Float) → Tabled j rows areas → ((q : ℕ) → q < length order → get_or order q 0 < length j.kinds)
      → may ≡ swappable j.kinds (get_or order i 0) (get_or order k 0)

-- two draws are spent; the copies are swapped where they may be, else the order stays
pub record Drew (random : ℕ) (rows order : List ℕ) (d : Option (ℕ × ℕ)) (spent : ℕ) (after : List ℕ) : Type 0 where
  pub spent_is : spent ≡ next_state (next_state random)
  pub swaps : (i k : ℕ) → d ≡ Some (i, k) → DrewAt random rows order true i k × (after ≡ swapped i k order)
  pub rests : d ≡ None → (i : ℕ) × (k : ℕ) × DrewAt random rows order false i k × (after ≡ order)
