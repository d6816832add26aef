-- Document 01, "The job's bits" and refusals 4 to 7: what an accepted job's counts and doubles are. Definitions only. Assumes nothing.
use Rattle.std.specs.Prelude.{ℕ, Bool, ◌&&◌, length, leb, Float}
use Rattle.std.specs.Float.Ieee.{le}
use Rattle.bits.specs.Fields.{Range, coordinate_range, area_range, resolution_range}
use Rattle.kinds.specs.sets.Sets.{Set}
use Rattle.kinds.specs.Kinds.{Orientation, Kind}
use Rattle.job.specs.Jobs.{Job}
use Rattle.filling.specs.Consistent.{every}
use Rattle.filling.specs.promises.Doubles.{is_number}

-- finite, not minus zero, and within its range, limits included
unfoldable pub double_within : Range → Float → Bool
double_within r x = is_number x && (le r.least x && le x r.most)

-- a count within its range, limits included
unfoldable pub count_within : ℕ → ℕ → ℕ → Bool
count_within least most n = leb least n && leb n most

-- "loops 7 (1–64); per loop points .. at most 512 in the set": two coordinates to a point, each within ±100,000
unfoldable pub set_within : Set → Bool
set_within s = count_within 1 64 (length s.ends) && (leb (length s.points) 1024 && every (double_within coordinate_range) s.points)

-- "per orientation the apart set, then the inset set"
unfoldable pub orientation_within : Orientation → Bool
orientation_within o = set_within o.apart && set_within o.inset

-- "quantity 12 (1–4,095) .. area 64, orientations 5 (1–16)", area within 0..1e12
unfoldable pub kind_within : Kind → Bool
kind_within k =
    count_within 1 4095 k.quantity
    && (double_within area_range k.area && (count_within 1 16 (length k.orientations) && every orientation_within k.orientations))

-- "kinds 7 (1–64)", resolution within 0.001..10,000, at most 4,096 copies
unfoldable pub job_within : Job → Bool
job_within j =
    double_within resolution_range j.header.resolution
    && (count_within 1 64 (length j.kinds) && (leb j.copies 4096 && (set_within j.sheet && every kind_within j.kinds)))
