-- Document 01, refusal 10: a given order. Definitions only. Assumes nothing.
use Rattle.std.specs.Prelude.{ℕ, suc, Bool, true, false, ◌&&◌, List, [], ◌∷◌, length, eqb}
use Rattle.kinds.specs.Kinds.{Kind}
use Rattle.job.specs.Jobs.{Job}

-- how often k stands in a list
unfoldable pub count_in : ℕ → List ℕ → ℕ
count_in k [] = 0
count_in k (l ∷ ls) = elim (eqb k l) [ true ↦ suc (count_in k ls) | false ↦ count_in k ls ]

-- of the kinds from number k on each stands in the order as often as its quantity
unfoldable pub in_full : ℕ → List Kind → List ℕ → Bool
in_full k [] order = true
in_full k (a ∷ as') order = eqb (count_in k order) a.quantity && in_full (suc k) as' order

-- "a rearrangement of the job's copies": so many, and every kind as often as the job has it
unfoldable pub rearranged : Job → List ℕ → Bool
rearranged j order = eqb (length order) j.copies && in_full 0 j.kinds order
