-- For inner functions' contracts only: the standing copies' strips and reach by the state's tables. That they are the definition's is proved
-- in proofs/. Definitions only. Assumes nothing.
use Rattle.std.specs.Prelude.{ℕ, zero, suc, ◌+◌, ◌*◌, ◌<◌, ◌≡◌, List, get_or, Float}
use Rattle.std.specs.Float.{nan}
use Rattle.numbers.specs.Numbers.{◌⊕◌, larger}
use Rattle.choose.specs.inner.Choosing.{bounds_at, part_at}

-- the copies that stand at the first n places have slots
abbrev pub Slotted : List ℕ → List ℕ → ℕ → Type 0
Slotted order orientation n = (i o : ℕ) → i < n → get_or orientation i 0 ≡ suc o → 16 * get_or order i 0 + o < 1024

-- the strips of a copy of kind k, by its number in the layout: 0 for none
unfoldable pub strips_at : List ℕ → ℕ → ℕ → ℕ
strips_at parts k zero = 0
strips_at parts k (suc o) = (part_at parts (16 * k + o)).apart_count

-- those of the copies at the first n places
unfoldable pub strips_to : List ℕ → List ℕ → List ℕ → ℕ → ℕ
strips_to parts order orientation zero = 0
strips_to parts order orientation (suc n) = strips_to parts order orientation n + strips_at parts (get_or order n 0) (get_or orientation n 0)

-- right with a copy of kind k at x
unfoldable pub right_with : List Float → Float → Float → ℕ → ℕ → Float
right_with bounds r x k zero = r
right_with bounds r x k (suc o) = larger r (x ⊕ (bounds_at bounds (16 * k + o)).right)

-- right with the copies at the n places from m on
unfoldable pub right_over : List Float → List ℕ → List ℕ → List Float → Float → ℕ → ℕ → Float
right_over bounds order orientation x r m zero = r
right_over bounds order orientation x r m (suc n) =
    right_with bounds (right_over bounds order orientation x r m n) (get_or x (m + n) nan) (get_or order (m + n) 0) (get_or orientation (m + n) 0)
