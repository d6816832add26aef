-- splitmix64.c (Sebastiano Vigna, 2015), on uint64_t: sums and products wrap at 2 ^ 64. Definitions only. Assumes nothing.
use Rattle.std.specs.Prelude.{ℕ, ◌+◌, ◌*◌, ◌/◌, ◌%◌, ◌^◌, bit_xor}

-- uint64_t z = (x += 0x9e3779b97f4a7c15);
unfoldable pub next_state : ℕ → ℕ
next_state x = (x + 0x9e3779b97f4a7c15) % 2 ^ 64

-- z >> k
abbrev pub shift_right : ℕ → ℕ → ℕ
shift_right z k = z / 2 ^ k

-- z = (z ^ (z >> 30)) * 0xbf58476d1ce4e5b9;
-- z = (z ^ (z >> 27)) * 0x94d049bb133111eb;
-- return z ^ (z >> 31);
unfoldable pub mixed : ℕ → ℕ
mixed z =
    let a = bit_xor z (shift_right z 30) * 0xbf58476d1ce4e5b9 % 2 ^ 64 in
    let b = bit_xor a (shift_right a 27) * 0x94d049bb133111eb % 2 ^ 64 in
    bit_xor b (shift_right b 31)
