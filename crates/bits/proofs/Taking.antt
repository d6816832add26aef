-- Laws of bit fields: some bits of one byte at once, and a field taken byte by byte. Assumes nothing.
use mathlib.Core.Path.{◌≡◌, refl, sym, ap, ◌∙◌, subst}
use Prim.Native.Nat.{ℕ, zero, suc, ◌+◌, ◌-◌, ◌*◌, ◌/◌, ◌%◌, ◌^◌, ◌≤◌, ◌<◌}
use native.Mathlib.Omega.{arith}
use mathlib.Core.List.{List}
use lib.ListN.{get_or}
use lib.Dec.{lit<}
use lib.Pow.{pow-add, pow_mono, pow_pos, shr-shr}
use lib.Arith.{mod-mul}
use native.Mathlib.Nat.{mod-lt, one-mul, pow-succ', mul_assoc, le_trans, zero-add, add-zero, mul-le-mul_left, mul-le-mul_right}
use Rattle.bits.specs.Bits.{bit_at, field_at}

alg : (a y z k : ℕ) → (a * 2 + y) * k + z ≡ a * (2 * k) + (y * k + z)
alg a y z k = omega arith

pub field_split : (bytes : List ℕ) (p i j a : ℕ) → field_at bytes p (i + j) a ≡ field_at bytes (p + i) j (field_at bytes p i a)
unfolding field_at
field_split bytes p zero j a = ap (λ (w : ℕ). field_at bytes p w a) (zero-add j) ∙ ap (λ (q : ℕ). field_at bytes q j a) (sym (add-zero p))
field_split bytes p (suc i) j a =
    let e : suc i + j ≡ suc (i + j) = omega arith in
    let q : suc p + i ≡ p + suc i = omega arith in
    ap (λ (w : ℕ). field_at bytes p w a) e ∙ field_split bytes (suc p) i j (a * 2 + bit_at bytes p) ∙ ap (λ (v : ℕ). field_at bytes v j (field_at bytes (suc p) i (a * 2 + bit_at bytes p))) q

one_bit : (a b e k : ℕ) → (a * 2 + b / 2 ^ (e + k) % 2) * 2 ^ k + b / 2 ^ e % 2 ^ k ≡ a * 2 ^ suc k + b / 2 ^ e % 2 ^ suc k
one_bit a b e k = rw (← shr-shr b e k, pow-succ' 2 k, mod-mul (b / 2 ^ e) {m = 2} {c = 2 ^ k} (lit< tt) (pow_pos k)) (alg a (b / 2 ^ e / 2 ^ k % 2) (b / 2 ^ e % 2 ^ k) (2 ^ k))

-- some bits of one byte, at once
pub chunk : (bytes : List ℕ) (p k e a : ℕ) → p % 8 + k + e ≡ 8 → field_at bytes p k a ≡ a * 2 ^ k + get_or bytes (p / 8) 0 / 2 ^ e % 2 ^ k
unfolding field_at
chunk bytes p zero e a h = omega arith
chunk bytes p (suc zero) e a h =
    let q : 7 - p % 8 ≡ e = omega arith in
    rw q (omega arith)
chunk bytes p (suc (suc k)) e a h =
    let q : 7 - p % 8 ≡ e + suc k = omega arith in
    let d : suc p / 8 ≡ p / 8 = omega arith in
    let m : suc p % 8 + suc k + e ≡ 8 = omega arith in
    chunk bytes (suc p) (suc k) e (a * 2 + bit_at bytes p) m ∙ rw (d, q) (one_bit a (get_or bytes (p / 8) 0) e (suc k))

pub field_step : (bytes : List ℕ) (p left k e a : ℕ) → p % 8 + k + e ≡ 8 → k ≤ left → field_at bytes p left a ≡ field_at bytes (p + k) (left - k) (a * 2 ^ k + get_or bytes (p / 8) 0 / 2 ^ e % 2 ^ k)
field_step bytes p left k e a h l =
    let s : left ≡ k + (left - k) = omega arith in
    ap (λ (w : ℕ). field_at bytes p w a) s ∙ field_split bytes p k (left - k) a ∙ ap (λ (x : ℕ). field_at bytes (p + k) (left - k) x) (chunk bytes p k e a h)

pub field-zero : (bytes : List ℕ) (p a : ℕ) → field_at bytes p 0 a ≡ a
unfolding field_at
field-zero bytes p a = refl

-- there is room in m for the bits a and left more
pub room-step : (a left k c m : ℕ) → (a + 1) * 2 ^ left ≤ m → k ≤ left → c < 2 ^ k → (a * 2 ^ k + c + 1) * 2 ^ (left - k) ≤ m
room-step a left k c m h l s =
    let e : (a + 1) * 2 ^ left ≡ (a + 1) * 2 ^ k * 2 ^ (left - k) = ap (λ (w : ℕ). (a + 1) * 2 ^ w) (y left k l) ∙ ap (λ (x : ℕ). (a + 1) * x) (pow-add 2 k (left - k)) ∙ sym (mul_assoc (a + 1) (2 ^ k) (2 ^ (left - k))) in
    le_trans (mul-le-mul_right (2 ^ (left - k)) (z a (2 ^ k) c s)) (subst (λ (x : ℕ). x ≤ m) e h)
  where
    y : (left k : ℕ) → k ≤ left → left ≡ k + (left - k)
    y left k l = omega arith

    z : (a k c : ℕ) → c < k → a * k + c + 1 ≤ (a + 1) * k
    z a k c h = omega arith

pub room_now : (a left k m : ℕ) → (a + 1) * 2 ^ left ≤ m → k ≤ left → (a + 1) * 2 ^ k ≤ m
room_now a left k m h l = le_trans (mul-le-mul_left (a + 1) (pow_mono l)) h

-- reading goes on: acc is read, left bits are to come at p, and all of them are those of the field
pub record Going (bytes : List ℕ) (at n acc p left : ℕ) : Type 0 where
  pub same : field_at bytes p left acc ≡ field_at bytes at n 0
  pub stop : p + left ≡ at + n
  pub room : (acc + 1) * 2 ^ left ≤ 2 ^ 64

pub going_start : (bytes : List ℕ) (at n : ℕ) → n ≤ 64 → Going bytes at n 0 at n
going_start bytes at n h = record { same = refl; stop = refl; room = subst (λ (x : ℕ). x ≤ 2 ^ 64) (sym (one-mul (2 ^ n))) (pow_mono h) }

pub going_on : {bytes : List ℕ} {at n acc p left : ℕ} (k e r : ℕ) → Going bytes at n acc p left → p % 8 + k + e ≡ 8 → k ≤ left → r ≡ acc * 2 ^ k + get_or bytes (p / 8) 0 / 2 ^ e % 2 ^ k → Going bytes at n r (p + k) (left - k)
going_on {bytes} {at} {n} {acc} {p} {left} k e r g h l q =
    record {
      same = ap (λ (x : ℕ). field_at bytes (p + k) (left - k) x) q ∙ sym (field_step bytes p left k e acc h l) ∙ g.same;
      stop = y p left k (at + n) l g.stop;
      room = subst (λ (x : ℕ). (x + 1) * 2 ^ (left - k) ≤ 2 ^ 64) (sym q) (room-step acc left k (get_or bytes (p / 8) 0 / 2 ^ e % 2 ^ k) (2 ^ 64) g.room l (mod-lt (get_or bytes (p / 8) 0 / 2 ^ e) (pow_pos k)));
    }
  where
    y : (p left k s : ℕ) → k ≤ left → p + left ≡ s → p + k + (left - k) ≡ s
    y p left k s l h = omega arith
