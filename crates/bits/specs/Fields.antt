-- Document 01, "The job's bits" and refusals 4 to 6: counts, doubles and points. Definitions only. Assumes nothing.
use Rattle.std.specs.Prelude.{Option, Some, None, Result, Ok, Err, ℕ, ◌+◌, ◌&&◌, cond, leb, Float}
use Rattle.bits.specs.declared.Refusal.{Refusal}
use Rattle.std.specs.Float.Ieee.{le, neg}
use Rattle.numbers.specs.Numbers.{double_of, from_int, pos_zero, ◌⊘◌}
use Rattle.bits.specs.declared.Refusal.TheVariants.{NonFinite, OutOfRange, CountOutOfRange}
use Rattle.bits.specs.Reading.{Read, ok, bad, Reader, ◌>>=◌, give, bits}

-- ---- counts

-- a count's width in bits, and its range, limits included
pub record Field : Type 0 where
  pub width : ℕ
  pub least : ℕ
  pub most : ℕ

-- "kinds 7 (1–64)"
abbrev pub kinds_field : Field
kinds_field = record { width = 7; least = 1; most = 64 }

-- "quantity 12 (1–4,095)"
abbrev pub quantity_field : Field
quantity_field = record { width = 12; least = 1; most = 4095 }

-- "orientations 5 (1–16)"
abbrev pub orientations_field : Field
orientations_field = record { width = 5; least = 1; most = 16 }

-- "loops 7 (1–64)"
abbrev pub loops_field : Field
loops_field = record { width = 7; least = 1; most = 64 }

-- "points 10 (3–512"
abbrev pub points_field : Field
points_field = record { width = 10; least = 3; most = 512 }

-- 6: "a count or quantity outside its range"
unfoldable pub judge_count : ℕ → ℕ → ℕ → Result ℕ Refusal
judge_count least most n = cond (leb least n && leb n most) (Ok n) (Err CountOutOfRange)

-- ", at most 512 in the set)": a loop's points, where the set has so many before it
unfoldable pub in_set : ℕ → Result ℕ Refusal → Result ℕ Refusal
in_set before (Ok n) = cond (leb (before + n) 512) (Ok n) (Err CountOutOfRange)
in_set before (Err k) = Err k

unfoldable pub judge_points : ℕ → ℕ → Result ℕ Refusal
judge_points before n = in_set before (judge_count points_field.least points_field.most n)

-- a judged count, at the position after it
abbrev pub counted : Result ℕ Refusal → ℕ → Read ℕ
counted (Ok n) q = ok n q
counted (Err k) q = bad k

unfoldable pub count : Field → Reader ℕ
count f = bits f.width >>= λ n bytes q. counted (judge_count f.least f.most n) q

unfoldable pub point_count : ℕ → Reader ℕ
point_count before = bits points_field.width >>= λ n bytes q. counted (judge_points before n) q

-- ---- doubles

-- the least and the most that is accepted
pub record Range : Type 0 where
  pub least : Float
  pub most : Float

-- "coordinate beyond ±100,000 mm"
abbrev pub coordinate_range : Range
coordinate_range = record { least = neg (from_int 100_000); most = from_int 100_000 }

-- "area outside 0..1e12"
abbrev pub area_range : Range
area_range = record { least = pos_zero; most = from_int 1_000_000_000_000 }

-- "resolution outside 0.001..10,000": the double nearest to 0.001 is 1 / 1000, rounded once
abbrev pub resolution_range : Range
resolution_range = record { least = from_int 1 ⊘ from_int 1_000; most = from_int 10_000 }

-- 4: "resolution, coordinate or area not finite"; 5: outside its range
unfoldable pub judge_double : Float → Float → Option Float → Result Float Refusal
judge_double least most None = Err NonFinite
judge_double least most (Some x) = cond (le least x && le x most) (Ok x) (Err OutOfRange)

-- "Doubles by their bits": the 64 bits n; "A minus zero in a job becomes plus zero" is doubleOf's
unfoldable pub judge_number : Float → Float → ℕ → Result Float Refusal
judge_number least most n = judge_double least most (double_of n)

-- a judged double, at the position after it
abbrev pub measured : Result Float Refusal → ℕ → Read Float
measured (Ok x) q = ok x q
measured (Err k) q = bad k

unfoldable pub number : Range → Reader Float
number r = bits 64 >>= λ n bytes q. measured (judge_number r.least r.most n) q

-- ---- points

pub record Spot : Type 0 where
  pub x : Float
  pub y : Float

-- "per point x 64, y 64"
unfoldable pub point : Reader Spot
point = do
  a ← number coordinate_range
  b ← number coordinate_range
  give (record { x = a; y = b })
