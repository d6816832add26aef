-- Decimal and hex digits, one after the other. Assumes nothing.
use Prim.Native.Nat.{ℕ, zero, suc, ◌+◌, ◌-◌, ◌*◌, ◌/◌, ◌%◌, ◌^◌, ◌≤◌, ◌<◌}
use mathlib.Core.Path.{◌≡◌, refl, sym, ap, ◌∙◌}
use mathlib.Core.Logic.{inl, inr}
use mathlib.Core.List.{List, [], ◌∷◌, ◌++◌}
use native.Mathlib.Omega.{arith}
use lib.ListN.{length, length-append}
use lib.Ieee.{Float, binary64, to_bits}
use borrow.Author.Tests.{lt-ltb, le-ltb}
use Rattle.numbers.proofs.Truth.{below_or_not, not-below-zero}
use Rattle.nesting.specs.Text.{decimal_up_to, decimal, hex_digit, hex_up_to, hex}

pub up_small : (d n : ℕ) → n < 10 → decimal_up_to (suc d) n ≡ (48 + n) ∷ []
unfolding decimal_up_to
up_small d n h = rw (lt-ltb n 10 h, decimal_up_to)

pub up_large : (d n : ℕ) → 10 ≤ n → decimal_up_to (suc d) n ≡ decimal_up_to d (n / 10) ++ ((48 + n % 10) ∷ [])
unfolding decimal_up_to
up_large d n h = rw (le-ltb n 10 h, decimal_up_to)

-- 10 to the power of d
unfoldable ten : ℕ → ℕ
ten zero = 1
ten (suc d) = 10 * ten d

ten-suc : (d : ℕ) → ten (suc d) ≡ 10 * ten d
unfolding ten
ten-suc d = refl

ten-one : ten 1 ≡ 10
unfolding ten
ten-one = refl

ten-most : ten 19 ≡ 10000000000000000000
unfolding ten
ten-most = refl

-- more digits than there are change nothing
enough : (d n : ℕ) → n < ten (suc d) → decimal_up_to (suc d) n ≡ decimal_up_to (suc (suc d)) n
enough zero n h = let e = ten-one in up_small 0 n (omega arith) ∙ sym (up_small 1 n (omega arith))
enough (suc d) n h = elim (below_or_not n 10) [
  | inl l ↦ up_small (suc d) n l ∙ sym (up_small (suc (suc d)) n l)
  | inr l ↦
      let e = ten-suc (suc d) in
      up_large (suc d) n l ∙ (ap (λ (x : List ℕ). x ++ ((48 + n % 10) ∷ [])) (enough d (n / 10) (omega arith)) ∙ sym (up_large (suc (suc d)) n l))
]

pub decimal-small : (n : ℕ) → n < 10 → (48 + n) ∷ [] ≡ decimal n
unfolding decimal
decimal-small n h = sym (up_small 19 n h)

pub decimal_large : (n : ℕ) → n < 2 ^ 64 → 10 ≤ n → decimal (n / 10) ++ ((48 + n % 10) ∷ []) ≡ decimal n
unfolding decimal
decimal_large n f h =
    let e = ten-most in
    ap (λ (x : List ℕ). x ++ ((48 + n % 10) ∷ [])) (sym (enough 18 (n / 10) (omega arith))) ∙ sym (up_large 19 n h)

up_length : (d n : ℕ) → length (decimal_up_to d n) ≤ d
unfolding decimal_up_to
up_length zero n = omega arith
up_length (suc d) n = elim (below_or_not n 10) [
  | inl l ↦ rw (up_small d n l) (omega arith)
  | inr l ↦ rw (up_large d n l, length-append (decimal_up_to d (n / 10)) ((48 + n % 10) ∷ [])) (let a = up_length d (n / 10) in omega arith)
]

pub decimal-length : (n : ℕ) → length (decimal n) ≤ 20
unfolding decimal
decimal-length n = up_length 20 n

pub decimal_longer : (n : ℕ) → n < 2 ^ 64 → 10 ≤ n → length (decimal n) ≡ length (decimal (n / 10)) + 1
decimal_longer n f h = ap length (sym (decimal_large n f h)) ∙ length-append (decimal (n / 10)) ((48 + n % 10) ∷ [])

pub decimal-one : (n : ℕ) → n < 10 → length (decimal n) ≡ 1
decimal-one n h = ap length (sym (decimal-small n h))

-- ---- hex

pub hex-small : (d : ℕ) → d < 10 → 48 + d ≡ hex_digit d
unfolding hex_digit
hex-small d h = rw (lt-ltb d 10 h, hex_digit)

pub hex_large : (d : ℕ) → 10 ≤ d → 87 + d ≡ hex_digit d
unfolding hex_digit
hex_large d h = rw (le-ltb d 10 h, hex_digit)

pub hex-none : (d n : ℕ) → d ≡ 0 → [] ≡ hex_up_to d n
unfolding hex_up_to
hex-none d n e = rw e

pub hex_more : (d n : ℕ) → 0 < d → hex_up_to (d - 1) (n / 16) ++ (hex_digit (n % 16) ∷ []) ≡ hex_up_to d n
unfolding hex_up_to
hex_more zero n h = absurd (not-below-zero 0 h)
hex_more (suc d) n h = let e : suc d - 1 ≡ d = omega arith in rw e

pub up_hex-length : (d n : ℕ) → length (hex_up_to d n) ≡ d
unfolding hex_up_to
up_hex-length zero n = refl
up_hex-length (suc d) n = let a = up_hex-length d (n / 16) in let b = length-append (hex_up_to d (n / 16)) (hex_digit (n % 16) ∷ []) in omega arith

pub hex-length : (x : Float) → length (hex x) ≡ 16
unfolding hex
hex-length x = up_hex-length 16 (to_bits binary64 x)
