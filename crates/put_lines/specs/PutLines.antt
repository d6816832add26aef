-- Document 02, W6: "a list of kind, orientation, x and y as `put` gives them, in placing order", as text. Every line is written as the plan prints it:
-- `put KIND COPY ORIENTATION X Y GAP` and a line feed, one blank between fields, decimals of 1 to 19 digits and three times 16 lower-case hex digits.
-- The job's bytes come right after the last line: the lines end where the next bytes are not `put` and a blank. Definitions only. Assumes nothing.
use Rattle.std.specs.Prelude.{Result, Ok, Err, ℕ, zero, suc, ◌+◌, ◌-◌, ◌*◌, Bool, true, cond, ◌&&◌, List, [], ◌∷◌, ◌++◌, get_or, ltb, leb, eqb}
use Rattle.put_lines.specs.declared.Digits.{Digits}
use Rattle.put_lines.specs.declared.Field.{Field}
use Rattle.put_lines.specs.declared.Line.{Line}
use Rattle.put_lines.specs.declared.ListError.{ListError}
use Rattle.put_lines.specs.declared.ListError.TheVariants.{Malformed, TooMany}

-- ---- digits

-- the byte at p; 256, which is none, past the end
abbrev pub byte_at : List ℕ → ℕ → ℕ
byte_at bytes p = get_or bytes p 256

-- a digit's value: 0 to 9, a to f; 16, which is none, for any other byte
unfoldable pub digit_of : ℕ → ℕ
digit_of b = cond (ltb b 48) 16 (cond (ltb b 58) (b - 48) (cond (ltb b 97) 16 (cond (ltb b 103) (b - 87) 16)))

-- the digits from p on, n at most: with v before them their value, and where they end
unfoldable pub digits_from : List ℕ → ℕ → ℕ → ℕ → ℕ → Digits
digits_from bytes base zero p v = record { value = v; end = p }
digits_from bytes base (suc n) p v =
    cond (ltb (digit_of (byte_at bytes p)) base) (digits_from bytes base n (suc p) (base * v + digit_of (byte_at bytes p))) (record { value = v; end = p })

-- ---- fields

-- the field after f: least to most digits, and then the byte b; good if all is so written
unfoldable pub field_after : List ℕ → ℕ → ℕ → ℕ → ℕ → Field → Field
field_after bytes base least most b f =
    let d = digits_from bytes base most f.next 0 in
    record { value = d.value; next = suc d.end; good = f.good && (leb (f.next + least) d.end && eqb (byte_at bytes d.end) b) }

-- "decimals of 1 to 19 digits", and a blank
unfoldable pub decimal_after : List ℕ → Field → Field
decimal_after bytes f = field_after bytes 10 1 19 32 f

-- "16 lower-case hex digits", and a blank or a line feed
unfoldable pub hex_after : List ℕ → ℕ → Field → Field
hex_after bytes b f = field_after bytes 16 16 16 b f

-- ---- lines

-- a line begins at p with `put` and a blank
unfoldable pub begins : List ℕ → ℕ → Bool
begins bytes p = eqb (byte_at bytes p) 112 && (eqb (byte_at bytes (p + 1)) 117 && (eqb (byte_at bytes (p + 2)) 116 && eqb (byte_at bytes (p + 3)) 32))

-- the line whose fields begin at p; the copy's number and the gap are read and not used
unfoldable pub line_from : List ℕ → ℕ → Line
line_from bytes p =
    let kind = decimal_after bytes (record { value = 0; next = p; good = true }) in
    let orientation = decimal_after bytes (decimal_after bytes kind) in
    let x = hex_after bytes 32 orientation in
    let y = hex_after bytes 32 x in
    let gap = hex_after bytes 10 y in
    record { kind = kind.value; orientation = orientation.value; x = x.value; y = y.value; next = gap.next; good = gap.good }

-- "kind, orientation, x and y": the numbers of a line, the doubles by their bits
unfoldable pub line_numbers : Line → List ℕ
line_numbers l = l.kind ∷ l.orientation ∷ l.x ∷ l.y ∷ []

-- what is found, and the numbers of the lines before it
pub record PutList : Type 0 where
  pub found : Result (ℕ × ℕ) ListError
  pub numbers : List ℕ

-- the lines from p on, where n lines with these numbers stand before them and so many more may come
unfoldable pub lines_from : List ℕ → ℕ → ℕ → List ℕ → ℕ → PutList
lines_from bytes zero p numbers n = record { found = cond (begins bytes p) (Err TooMany) (Ok (n, p)); numbers = numbers }
lines_from bytes (suc more) p numbers n =
    cond (begins bytes p)
    (cond (line_from bytes (p + 4)).good
    (lines_from bytes more (line_from bytes (p + 4)).next (numbers ++ line_numbers (line_from bytes (p + 4))) (suc n))
    (record { found = Err (Malformed n); numbers = numbers }))
    (record { found = Ok (n, p); numbers = numbers })

-- the list that a text begins with, of so many lines at most
unfoldable pub put_list : ℕ → List ℕ → PutList
put_list most bytes = lines_from bytes most 0 [] 0
