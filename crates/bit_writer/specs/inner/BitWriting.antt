-- Inner functions' contracts only: what a writer has written. Definitions only. Assumes nothing.
use Rattle.std.specs.Prelude.{ℕ, ◌+◌, ◌*◌, ◌^◌, ◌≤◌, ◌<◌, ◌≡◌, List, ◌++◌, length, get_or, take}
use Rattle.bit_writer.specs.declared.BitWriter.{BitWriter}
use Rattle.bit_writer.specs.Packed.{number_at, byte_at, packed}

-- a writer as it can be: less than a byte is held
pub record Sound (p : BitWriter) : Type 0 where
  pub part : p.filled < 8
  pub small : p.held < 2 ^ p.filled
  pub few : p.bytes ≤ 1000000000000

-- how many bits a writer has written
abbrev pub written : BitWriter → ℕ
written p = 8 * p.bytes + p.filled

-- the bits are written: whole bytes in the room, as far as it goes, and the bits of the next in the writer
pub record Wrote (out bits : List ℕ) (p : BitWriter) : Type 0 where
  pub number : length bits ≡ written p
  pub held : p.held ≡ number_at bits (8 * p.bytes) p.filled 0
  pub laid : (k : ℕ) → k < p.bytes → k < length out → get_or out k 0 ≡ byte_at bits k

-- one or more fields put: these bits after those before, and the writer after them
pub record Put (before : List ℕ) (p : BitWriter) (more after : List ℕ) (r : BitWriter) : Type 0 where
  pub wrote : (bits : List ℕ) → Wrote before bits p → Wrote after (bits ++ more) r
  pub sound : Sound r
  pub count : written r ≡ written p + length more
  pub long : length after ≡ length before

-- the last byte is laid: so many bytes hold the bits
pub record Closed (out bits after : List ℕ) (r : ℕ) : Type 0 where
  pub number : r ≡ length (packed bits)
  pub laid : r ≤ length out → take r after ≡ packed bits
  pub long : length after ≡ length out
