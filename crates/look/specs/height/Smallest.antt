-- Document 01, "Filling", the look: "The height is the smallest from y_low on that lies in no forbidden interval, and it is free if at most y_high."
-- Definitions only. Assumes nothing.
use Rattle.std.specs.Prelude.{Bool, true, not, ◌&&◌, List, [], ◌∷◌, map, Float}
use Rattle.std.specs.Float.Ieee.{lt, le}
use Rattle.numbers.specs.Numbers.{◌⊖◌, smaller, plus_zero}
use Rattle.index.specs.declared.Interval.{Interval}
use Rattle.index.specs.Buckets.{keep}
use Rattle.look.specs.declared.height.Look.{Look}
use Rattle.look.specs.declared.height.Look.TheVariants.{Free, Full}

-- "the open interval": neither end lies in it
unfoldable pub inside : Float → Interval → Bool
inside y i = lt i.from y && lt y i.to

-- "lies in no forbidden interval"
unfoldable pub outside : List Interval → Float → Bool
outside [] y = true
outside (i ∷ is) y = not (inside y i) && outside is y

-- "from y_low on": where any height lies in no interval, the smallest is y_low or a top
unfoldable pub candidates : Float → List Interval → List Float
candidates y_low is = y_low ∷ keep (λ t. not (lt t y_low)) (map (λ i. i.to) is)

-- "the smallest" of a and the list
unfoldable pub least : Float → List Float → Float
least a [] = a
least a (b ∷ bs) = least (smaller a b) bs

-- document 02, W7: "the next counted interval's bottom at or above it, or y_high if none is below that"
unfoldable pub next_bottom : Float → List Interval → Float → Float
next_bottom y_high is h = least y_high (keep (λ b. le h b) (map (λ i. i.from) is))

-- "the clear height above it: .., minus the height"; a bottom that is minus zero is plus zero
unfoldable pub clear_above : Float → List Interval → Float → Float
clear_above y_high is h = plus_zero (next_bottom y_high is h) ⊖ h

-- "A free look now answers its height and the clear height above it"
unfoldable pub free_at : Float → List Interval → Float → Look
free_at y_high is h = Free h (clear_above y_high is h)

-- "A look answers free with its height, or full": the smallest of the heights that are left; what is answered is no minus zero
unfoldable pub lowest : Float → List Interval → List Float → Look
lowest y_high is [] = Full
lowest y_high is (c ∷ cs) = free_at y_high is (plus_zero (least c cs))

-- "The height is the smallest from y_low on that lies in no forbidden interval, and it is free if at most y_high."
unfoldable pub height_of : Float → Float → List Interval → Look
height_of y_low y_high is = lowest y_high is (keep (λ c. le c y_high && outside is c) (candidates y_low is))
