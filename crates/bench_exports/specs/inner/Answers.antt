-- What the exported functions answer. Definitions only. Assumes nothing.
use Rattle.std.specs.Prelude.{Option, Some, None, Result, Ok, Err, ℕ, ◌+◌, Float}
use Rattle.bits.specs.declared.Refusal.{Refusal}
use Rattle.job.specs.declared.Header.{Header}
use Rattle.std.specs.Float.{binary64}
use Rattle.std.specs.Float.Ieee.{of_bits, neg}
use Rattle.numbers.specs.Numbers.{pos_zero}
use Rattle.bits.specs.Reading.{job_refusal_number}
use Rattle.index.specs.declared.Overrun.{Overrun}
use Rattle.look.specs.declared.height.Look.{Look}
use Rattle.look.specs.declared.height.Look.TheVariants.{Free, Full}

-- document 01's number of a refused job, 0 for an accepted one
abbrev pub verdict_number : Result (Header × ℕ) Refusal → ℕ
verdict_number (Ok (h, c)) = 0
verdict_number (Err k) = job_refusal_number k

-- how many strips were stored, or one more than the room holds
unfoldable pub told : Option ℕ → ℕ → ℕ
told (Some m) cap = m
told None cap = cap + 1

-- a free height; 1e300 where it is full
unfoldable pub height_told : Look → Float
height_told (Free h g) = h
height_told Full = of_bits binary64 0x7E37_E43C_8800_759C

-- the same of a look; −1e300 where the room does not hold its intervals
unfoldable pub look_told : Result Look Overrun → Float
look_told (Err k) = neg (of_bits binary64 0x7E37_E43C_8800_759C)
look_told (Ok l) = height_told l

-- the clear height above a free height; 0 where it is full
unfoldable pub gap_told : Look → Float
gap_told (Free h g) = g
gap_told Full = pos_zero

-- the same of a look; 0 where the room does not hold its intervals
unfoldable pub gap_seen : Result Look Overrun → Float
gap_seen (Err k) = pos_zero
gap_seen (Ok l) = gap_told l
