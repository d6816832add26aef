-- Inner functions' contracts only: what the code's answers say of bits, counts and points. Definitions only. Assumes nothing.
use Rattle.std.specs.Prelude.{Option, Some, None, Result, Ok, Err, Float, ℕ, ◌+◌}
use Rattle.bits.specs.declared.Refusal.{Refusal}
use Rattle.bits.specs.declared.BitReader.{BitReader}
use Rattle.bits.specs.Reading.{Read, ok, bad}
use Rattle.bits.specs.Fields.{Spot}
use Rattle.bits.specs.declared.Refusal.TheVariants.{Truncated}

-- the count, or 0
abbrev pub count_of : Result ℕ Refusal → ℕ
count_of (Ok n) = n
count_of (Err k) = 0

-- a point that was read, with the position after it
abbrev pub point_read : Result (Float × Float × ℕ) Refusal → Read Spot
point_read (Ok (a, b, q)) = ok (record { x = a; y = b }) q
point_read (Err k) = bad k

-- what taking bits answers, with the position after them
abbrev pub taken : Option ℕ → ℕ → Read ℕ
taken (Some n) q = ok n q
taken None q = bad Truncated

-- the reader, n bits further on
abbrev pub past : ℕ → BitReader → BitReader
past n d = record { bytes = d.bytes; at = d.at + n }
