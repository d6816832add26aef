-- Document 02, W9, "back as bits": bits, and the bytes that they fill (document 01, "The job's bits"). Definitions only. Assumes nothing.
use Rattle.std.specs.Prelude.{ℕ, zero, suc, ◌+◌, ◌-◌, ◌*◌, ◌/◌, ◌%◌, ◌^◌, List, [], ◌∷◌, ◌++◌, length, get_or, replicate}

-- "Packed, most significant bit first": the w bits of n
unfoldable pub binary : ℕ → ℕ → List ℕ
binary zero n = []
binary (suc w) n = (n / 2 ^ w % 2) ∷ binary w n

-- the w bits from position p on, after the bits a, as one number; behind the last bit are zeros
unfoldable pub number_at : List ℕ → ℕ → ℕ → ℕ → ℕ
number_at bits p zero a = a
number_at bits p (suc w) a = number_at bits (suc p) w (a * 2 + get_or bits p 0)

-- byte k
unfoldable pub byte_at : List ℕ → ℕ → ℕ
byte_at bits k = number_at bits (8 * k) 8 0

-- the first n bytes
unfoldable pub bytes_up_to : List ℕ → ℕ → List ℕ
bytes_up_to bits zero = []
bytes_up_to bits (suc n) = bytes_up_to bits n ++ (byte_at bits n ∷ [])

-- so many bytes hold the bits
abbrev pub bytes_for : ℕ → ℕ
bytes_for n = (n + 7) / 8

-- "Zero bits fill the last byte."
unfoldable pub packed : List ℕ → List ℕ
packed bits = bytes_up_to bits (bytes_for (length bits))

-- what a room of n places holds after a list: zeros
unfoldable pub in_room : {A : Type 0} → A → List A → ℕ → List A
in_room z l n = l ++ replicate (n - length l) z
