-- For inner functions' contracts only: the gaps of the copies that stand. Definitions only. Assumes nothing.
use Rattle.std.specs.Prelude.{ℕ, Bool, ◌||◌, List, get_or, eqb, Float}
use Rattle.std.specs.Float.{nan}
use Rattle.index.specs.Buckets.{up_from}
use Rattle.filling.specs.Consistent.{every, gap_fits}

-- the gap at a place, by the copy's number in the layout: 0 for none
unfoldable pub place_test : ℕ → Float → Bool
place_test number g = eqb number 0 || gap_fits g

-- the gaps of the copies that stand at the first n places
unfoldable pub gaps_test : List ℕ → List Float → ℕ → Bool
gaps_test orientation gap n = every (λ i. place_test (get_or orientation i 0) (get_or gap i nan)) (up_from n 0)
