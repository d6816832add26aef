-- Numbers as `plan` spells them, digit by digit, read as what they are. Assumes nothing.
use Prim.Native.Nat.{ℕ, zero, suc, ◌+◌, ◌-◌, ◌*◌, ◌/◌, ◌%◌, ◌<◌, ◌≤◌}
use native.Mathlib.Omega.{arith}
use mathlib.Core.Path.{◌≡◌, refl, sym, ap, subst, ◌∙◌}
use mathlib.Core.Logic.{inl, inr}
use mathlib.Core.List.{List, [], ◌∷◌, ◌++◌}
use lib.ListN.{length, length-append}
use borrow.Author.Tests.{lt-ltb, le-ltb}
use Rattle.numbers.proofs.Truth.{below_or_not}
use Rattle.nesting.specs.Text.{decimal_up_to, hex_digit, hex_up_to}
use Rattle.lines.proofs.Digits.{up_small, up_large}
use Rattle.put_lines.specs.PutLines.{digit_of}
use Rattle.put_lines.proofs.Numerals.{digit_decimal, digit_letter}

-- the number of these digits, with v before them
unfoldable pub value_of : ℕ → ℕ → List ℕ → ℕ
value_of base v [] = v
value_of base v (d ∷ ds) = value_of base (base * v + digit_of d) ds

-- digits of this base
unfoldable pub Digital : ℕ → List ℕ → Type 0
Digital base [] = ℕ
Digital base (d ∷ ds) = (digit_of d < base) × Digital base ds

-- ---- one digit more

value_more : (base v : ℕ) (ds : List ℕ) (d : ℕ) → value_of base v (ds ++ (d ∷ [])) ≡ base * value_of base v ds + digit_of d
unfolding value_of
value_more base v [] d = refl
value_more base v (x ∷ ds) d = value_more base (base * v + digit_of x) ds d

digital_more : (base : ℕ) (ds : List ℕ) (d : ℕ) → Digital base ds → digit_of d < base → Digital base (ds ++ (d ∷ []))
unfolding Digital
digital_more base [] d h k = (k, 0)
digital_more base (x ∷ ds) d h k = (h.0, digital_more base ds d h.1 k)

ten_digit : (r : ℕ) → r < 10 → digit_of (48 + r) ≡ r
ten_digit r h = let e : 48 + r - 48 ≡ r = omega arith in sym (digit_decimal (48 + r) (omega arith) (omega arith)) ∙ e

hex_digit_lem : (r : ℕ) → r < 16 → digit_of (hex_digit r) ≡ r
unfolding hex_digit
hex_digit_lem r h = elim (below_or_not r 10) [
  | inl l ↦ rw (lt-ltb r 10 l, hex_digit) (ten_digit r l)
  | inr l ↦
      let e : 87 + r - 87 ≡ r = omega arith in
      rw (le-ltb r 10 l, hex_digit) (sym (digit_letter (87 + r) (omega arith) (omega arith) (omega arith) (omega arith)) ∙ e)
]

-- ---- hex

-- base to the power of d
unfoldable pub most : ℕ → ℕ → ℕ
most base zero = 1
most base (suc d) = base * most base d

most-suc : (base d : ℕ) → most base (suc d) ≡ base * most base d
unfolding most
most-suc base d = refl

pub hex_digital : (d n : ℕ) → Digital 16 (hex_up_to d n)
unfolding hex_up_to Digital
hex_digital zero n = 0
hex_digital (suc d) n =
    digital_more 16 (hex_up_to d (n / 16)) (hex_digit (n % 16)) (hex_digital d (n / 16))
    (subst (λ (x : ℕ). x < 16) (sym (hex_digit_lem (n % 16) (omega arith))) (omega arith))

pub hex_value : (d n : ℕ) → n < most 16 d → value_of 16 0 (hex_up_to d n) ≡ n
unfolding hex_up_to value_of most
hex_value zero n h = omega arith
hex_value (suc d) n h =
    let r = hex_value d (n / 16) (let e = most-suc 16 d in omega arith) in
    let g = hex_digit_lem (n % 16) (omega arith) in
    value_more 16 0 (hex_up_to d (n / 16)) (hex_digit (n % 16)) ∙ omega (arith, r, g)

-- ---- decimal

pub decimal_digital : (d n : ℕ) → Digital 10 (decimal_up_to d n)
unfolding decimal_up_to Digital
decimal_digital zero n = 0
decimal_digital (suc d) n = elim (below_or_not n 10) [
  | inl l ↦ subst (λ (x : List ℕ). Digital 10 x) (sym (up_small d n l)) (subst (λ (x : ℕ). x < 10) (sym (ten_digit n l)) l, 0)
  | inr l ↦
      subst (λ (x : List ℕ). Digital 10 x) (sym (up_large d n l))
      (digital_more 10 (decimal_up_to d (n / 10)) (48 + n % 10) (decimal_digital d (n / 10))
      (subst (λ (x : ℕ). x < 10) (sym (ten_digit (n % 10) (omega arith))) (omega arith)))
]

some_left : (d n : ℕ) → n < most 10 (suc d) → 10 ≤ n → 1 ≤ d
unfolding most
some_left zero n h l = let z : most 10 1 ≡ 10 = refl in omega (arith, z)
some_left (suc d) n h l = omega arith

pub decimal_value : (d n : ℕ) → n < most 10 d → 1 ≤ d → value_of 10 0 (decimal_up_to d n) ≡ n
unfolding value_of
decimal_value zero n h k = omega arith
decimal_value (suc d) n h k = elim (below_or_not n 10) [
  | inl l ↦ let e = ten_digit n l in ap (value_of 10 0) (up_small d n l) ∙ omega (arith, e)
  | inr l ↦
      let s = most-suc 10 d in
      let r = decimal_value d (n / 10) (omega arith) (some_left d n h l) in
      let g = ten_digit (n % 10) (omega arith) in
      ap (value_of 10 0) (up_large d n l) ∙ (value_more 10 0 (decimal_up_to d (n / 10)) (48 + n % 10) ∙ omega (arith, r, g))
]

-- at most as many digits as the power says
pub decimal_short : (d e n : ℕ) → n < most 10 d → 1 ≤ d → length (decimal_up_to e n) ≤ d
unfolding decimal_up_to
decimal_short d zero n h k = omega arith
decimal_short zero (suc e) n h k = omega arith
decimal_short (suc d) (suc e) n h k = elim (below_or_not n 10) [
  | inl l ↦ let q : length (decimal_up_to (suc e) n) ≡ 1 = ap length (up_small e n l) in omega (arith, q)
  | inr l ↦
      let s = most-suc 10 d in
      let r = decimal_short d e (n / 10) (omega arith) (some_left d n h l) in
      let q : length (decimal_up_to (suc e) n) ≡ length (decimal_up_to e (n / 10)) + 1 =
      ap length (up_large e n l) ∙ length-append (decimal_up_to e (n / 10)) ((48 + n % 10) ∷ []) in
      omega (arith, q, r)
]

pub decimal-some : (e n : ℕ) → 1 ≤ length (decimal_up_to (suc e) n)
decimal-some e n = elim (below_or_not n 10) [
  | inl l ↦ let q : length (decimal_up_to (suc e) n) ≡ 1 = ap length (up_small e n l) in omega (arith, q)
  | inr l ↦
      let q : length (decimal_up_to (suc e) n) ≡ length (decimal_up_to e (n / 10)) + 1 =
      ap length (up_large e n l) ∙ length-append (decimal_up_to e (n / 10)) ((48 + n % 10) ∷ []) in
      omega (arith, q)
]
