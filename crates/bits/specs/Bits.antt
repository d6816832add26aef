-- Document 01, "The job's bits": the bits of a list of bytes. Definitions only. Assumes nothing.
use Rattle.std.specs.Prelude.{ℕ, zero, suc, ◌+◌, ◌-◌, ◌*◌, ◌/◌, ◌%◌, ◌^◌, List, get_or}

-- "Packed, most significant bit first, no alignment": the bit at position p
abbrev pub bit_at : List ℕ → ℕ → ℕ
bit_at bytes p = get_or bytes (p / 8) 0 / 2 ^ (7 - p % 8) % 2

-- the w bits from position p on, after the bits a, as one number
unfoldable pub field_at : List ℕ → ℕ → ℕ → ℕ → ℕ
field_at bytes p zero a = a
field_at bytes p (suc w) a = field_at bytes (suc p) w (a * 2 + bit_at bytes p)
