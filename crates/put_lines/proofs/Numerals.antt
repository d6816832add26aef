-- Digits read one after another: when they end, and that their number fits. Assumes nothing.
use Prim.Native.Nat.{ℕ, zero, suc, ◌+◌, ◌-◌, ◌*◌, ◌^◌, ◌<◌, ◌≤◌}
use native.Mathlib.Nat.{one-mul, mul-one, mul_assoc, pow-succ', le_trans, one-le-pow, mul-le-mul_left, mul-le-mul_right}
use native.Mathlib.Numerals.{add-one}
use native.Mathlib.Omega.{arith}
use mathlib.Core.Path.{◌≡◌, refl, sym, ap, subst, ◌∙◌}
use mathlib.Core.Logic.{inl, inr}
use mathlib.Core.List.{List}
use lib.ListN.{length, get_or-eq_default}
use borrow.Author.Tests.{lt-ltb, le-ltb}
use Rattle.numbers.proofs.Truth.{below_or_not, not-below-zero}
use Rattle.put_lines.specs.declared.Digits.{Digits}
use Rattle.put_lines.specs.PutLines.{byte_at, digit_of, digits_from}

-- ---- bytes

pub byte_out : (bytes : List ℕ) (p : ℕ) → length bytes ≤ p → 256 ≡ byte_at bytes p
byte_out bytes p h = sym (get_or-eq_default bytes 256 h)

-- where a byte stands, the list has not ended
pub byte_inside : (bytes : List ℕ) (p b : ℕ) → byte_at bytes p ≡ b → b < 256 → p < length bytes
byte_inside bytes p b e h = elim (below_or_not p (length bytes)) [
  | inl l ↦ l
  | inr l ↦ let o : 256 ≡ b = byte_out bytes p l ∙ e in absurd
      (not-below-zero 0 (omega arith))
]

-- ---- a digit

pub digit_before : (b : ℕ) → b < 48 → 16 ≡ digit_of b
unfolding digit_of
digit_before b h = rw (lt-ltb b 48 h)

pub digit_decimal : (b : ℕ) → 48 ≤ b → b < 58 → b - 48 ≡ digit_of b
unfolding digit_of
digit_decimal b h k = rw (le-ltb b 48 h, lt-ltb b 58 k)

pub digit_between : (b : ℕ) → 48 ≤ b → 58 ≤ b → b < 97 → 16 ≡ digit_of b
unfolding digit_of
digit_between b h i k = rw (le-ltb b 48 h, le-ltb b 58 i, lt-ltb b 97 k)

pub digit_letter : (b : ℕ) → 48 ≤ b → 58 ≤ b → 97 ≤ b → b < 103 → b - 87 ≡ digit_of b
unfolding digit_of
digit_letter b h i j k = rw (le-ltb b 48 h, le-ltb b 58 i, le-ltb b 97 j, lt-ltb b 103 k)

pub digit_behind : (b : ℕ) → 48 ≤ b → 58 ≤ b → 97 ≤ b → 103 ≤ b → 16 ≡ digit_of b
unfolding digit_of
digit_behind b h i j k = rw (le-ltb b 48 h, le-ltb b 58 i, le-ltb b 97 j, le-ltb b 103 k)

-- ---- digits

module _ (bytes : List ℕ) (base : ℕ) where
  pub digits_none : (p v : ℕ) → record { value = v; end = p } ≡ digits_from bytes base 0 p v
  unfolding digits_from
  digits_none p v = refl

  pub digits_stop : (n p v : ℕ) → base ≤ digit_of (byte_at bytes p) → record { value = v; end = p } ≡ digits_from bytes base (suc n) p v
  unfolding digits_from
  digits_stop n p v h = rw (le-ltb (digit_of (byte_at bytes p)) base h, digits_from)

  pub digits_on : (n p v : ℕ) → digit_of (byte_at bytes p) < base
      → digits_from bytes base (suc n) p v ≡ digits_from bytes base n (suc p) (base * v + digit_of (byte_at bytes p))
  unfolding digits_from
  digits_on n p v h = rw (lt-ltb (digit_of (byte_at bytes p)) base h, digits_from)

  -- they end at most n bytes further on
  pub digits_near : (n p v : ℕ) → (digits_from bytes base n p v).end ≤ p + n
  digits_near zero p v = subst (λ (d : Digits). d.end ≤ p + 0) (digits_none p v) (omega arith)
  digits_near (suc n) p v = elim (below_or_not (digit_of (byte_at bytes p)) base) [
    | inl l ↦
        let r = digits_near n (suc p) (base * v + digit_of (byte_at bytes p)) in
        subst (λ (d : Digits). d.end ≤ p + suc n) (sym (digits_on n p v l)) (omega (arith, r))
    | inr l ↦ subst (λ (d : Digits). d.end ≤ p + suc n) (digits_stop n p v l) (omega arith)
  ]

  -- ---- the loop

  -- reading goes on: v is read, at most `left` digits are to come from `end` on, and there is room for them
  pub record Going (most p v end left : ℕ) : Type 0 where
    pub same : digits_from bytes base left end v ≡ digits_from bytes base most p 0
    pub stop : end + left ≡ p + most
    pub room : (v + 1) * base ^ left ≤ 2 ^ 64

  pub going_start : (most p : ℕ) → base ^ most ≤ 2 ^ 64 → Going most p 0 p most
  going_start most p h = record { same = refl; stop = refl; room = subst (λ (x : ℕ). x ≤ 2 ^ 64) (sym (one-mul (base ^ most))) h }

  room_on : (v d m : ℕ) → d < base → (v + 1) * base ^ suc m ≤ 2 ^ 64 → (base * v + d + 1) * base ^ m ≤ 2 ^ 64
  room_on v d m h r =
      let e : (v + 1) * base ^ suc m ≡ (v + 1) * base * base ^ m =
      ap (λ (x : ℕ). (v + 1) * x) (pow-succ' base m) ∙ sym (mul_assoc (v + 1) base (base ^ m)) in
      le_trans (mul-le-mul_right (base ^ m) (up v d h)) (subst (λ (x : ℕ). x ≤ 2 ^ 64) e r)
    where
      up : (v d : ℕ) → d < base → base * v + d + 1 ≤ (v + 1) * base
      up v d h = omega arith

  pub going_on : (most p v end left m d : ℕ) → left ≡ suc m → d ≡ digit_of (byte_at bytes end) → d < base
      → Going most p v end left → Going most p (base * v + d) (end + 1) m
  going_on most p v end left m d e f h g =
      let k : digit_of (byte_at bytes end) < base = subst (λ (x : ℕ). x < base) f h in
      record {
        same =
            ap (λ (q : ℕ). digits_from bytes base m q (base * v + d)) (add-one end)
            ∙ (ap (λ (x : ℕ). digits_from bytes base m (suc end) (base * v + x)) f
            ∙ (sym (digits_on m end v k) ∙ (ap (λ (n : ℕ). digits_from bytes base n end v) (sym e) ∙ g.same)));
        stop = let s = g.stop in omega arith;
        room = room_on v d m h (subst (λ (n : ℕ). (v + 1) * base ^ n ≤ 2 ^ 64) e g.room);
      }

  -- the next number fits 64 bits
  pub going-fits : (most p v end left m d : ℕ) → left ≡ suc m → d < base → Going most p v end left → base * v + d < 2 ^ 64
  going-fits most p v end left m d e h g =
      let r = room_on v d m h (subst (λ (n : ℕ). (v + 1) * base ^ n ≤ 2 ^ 64) e g.room) in
      let o : (base * v + d + 1) * 1 ≤ (base * v + d + 1) * base ^ m = mul-le-mul_left (base * v + d + 1) (one-le-pow m base (above d h)) in
      let t : base * v + d + 1 ≤ 2 ^ 64 = subst (λ (x : ℕ). x ≤ 2 ^ 64) (mul-one (base * v + d + 1)) (le_trans o r) in
      omega (arith, t)
    where
      above : (d : ℕ) → d < base → 0 < base
      above d h = omega arith

  pub going_stop : (most p v end left m : ℕ) → left ≡ suc m → base ≤ digit_of (byte_at bytes end) → Going most p v end left
      → record { value = v; end = end } ≡ digits_from bytes base most p 0
  going_stop most p v end left m e h g =
      digits_stop m end v h ∙ (ap (λ (n : ℕ). digits_from bytes base n end v) (sym e) ∙ g.same)

  pub going_end : (most p v end left : ℕ) → left ≡ 0 → Going most p v end left → record { value = v; end = end } ≡ digits_from bytes base most p 0
  going_end most p v end left e g = digits_none end v ∙ (ap (λ (n : ℕ). digits_from bytes base n end v) (sym e) ∙ g.same)
