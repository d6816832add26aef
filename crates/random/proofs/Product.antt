-- A product modulo 2 ^ 64 from the products of 32-bit halves. Assumes nothing.
use Rattle.std.proofs.Common.{◌≡◌, ℕ, ◌+◌, ◌*◌, ◌/◌, ◌%◌, ◌<◌, ◌≤◌, sym, ap, ◌∙◌, mul_assoc, add-mul, mul-le-mul, mul-add, mul_right_comm, arith}

-- two halves multiply without wrapping
pub half_product : (a b : ℕ) → a < 4294967296 → b < 4294967296 → a * b < 18446744073709551616
half_product a b h k =
    let p : a * b ≤ 4294967295 * 4294967295 = mul-le-mul (below a h) (below b k) in
    omega arith
  where
    below : (n : ℕ) → n < 4294967296 → n ≤ 4294967295
    below n h = omega arith

-- (a1 w + a0) (b1 w + b0), for w = 2 ^ 32
expanded : (a1 a0 b1 b0 : ℕ) → (a1 * 4294967296 + a0) * (b1 * 4294967296 + b0) ≡ (a1 * b1 * 4294967296 + a0 * b1) * 4294967296 + (a1 * b0 * 4294967296 + a0 * b0)
expanded a1 a0 b1 b0 =
    let a = a1 * 4294967296 + a0 in
    mul-add a (b1 * 4294967296) b0
    ∙ ap (λ (z : ℕ). z + a * b0) (sym (mul_assoc a b1 4294967296) ∙ ap (λ (z : ℕ). z * 4294967296) (times b1))
    ∙ ap (λ (z : ℕ). (a1 * b1 * 4294967296 + a0 * b1) * 4294967296 + z) (times b0)
  where
    times : (b : ℕ) → (a1 * 4294967296 + a0) * b ≡ a1 * b * 4294967296 + a0 * b
    times b = add-mul (a1 * 4294967296) a0 b ∙ ap (λ (z : ℕ). z + a0 * b) (mul_right_comm a1 4294967296 b)

reduced : (p q r s n : ℕ) → n ≡ (p * 4294967296 + r) * 4294967296 + (q * 4294967296 + s) → (s + (q + r) % 18446744073709551616 % 4294967296 * 4294967296) % 18446744073709551616 ≡ n % 18446744073709551616
reduced p q r s n e = omega arith

pub product : (a b : ℕ) → (a % 4294967296 * (b % 4294967296) + (a / 4294967296 * (b % 4294967296) + a % 4294967296 * (b / 4294967296)) % 18446744073709551616 % 4294967296 * 4294967296) % 18446744073709551616 ≡ a * b % 18446744073709551616
product a b =
    let a1 = a / 4294967296 in
    let a0 = a % 4294967296 in
    let b1 = b / 4294967296 in
    let b0 = b % 4294967296 in
    reduced (a1 * b1) (a1 * b0) (a0 * b1) (a0 * b0) (a * b) (ap (λ (z : ℕ). z * b) (split a) ∙ ap (λ (z : ℕ). (a1 * 4294967296 + a0) * z) (split b) ∙ expanded a1 a0 b1 b0)
  where
    split : (n : ℕ) → n ≡ n / 4294967296 * 4294967296 + n % 4294967296
    split n = omega arith
