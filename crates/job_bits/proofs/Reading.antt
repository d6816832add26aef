-- Laws of packed bits: what the reader's fields are of bytes that hold given bits. Assumes nothing.
use mathlib.Core.Path.{◌≡◌, refl, sym, ap, ap₂, subst⁻¹, ◌∙◌}
use Prim.Native.Nat.{ℕ, zero, suc, ◌+◌, ◌-◌, ◌*◌, ◌/◌, ◌%◌, ◌^◌, ◌≤◌, ◌<◌}
use native.Mathlib.Omega.{arith}
use native.Mathlib.Nat.{zero-add, pow-succ', add-mul-div_right, div-eq_of_lt, mod-eq_of_lt, mod-lt}
use mathlib.Core.Logic.{inl, inr}
use mathlib.Core.Bool.{Bool, cond}
use mathlib.Core.List.{List, [], ◌∷◌, ◌++◌, append_assoc, append-nil}
use lib.ListN.{length, get_or, length-append, get_or-append, get_or-eq_default}
use lib.Seq.{get_or-append_seam}
use lib.Dec.{lit<}
use lib.Pow.{pow_pos}
use borrow.Author.Tests.{le-leb}
use Rattle.numbers.proofs.Truth.{below_or_not}
use Rattle.bits.specs.Bits.{bit_at, field_at}
use Rattle.bits.specs.Reading.{ok, bad, bits}
use Rattle.bit_writer.specs.Packed.{binary, number_at, byte_at, bytes_up_to, bytes_for, packed}
use Rattle.bit_writer.proofs.Bits.{binary-length, number_split, number_of}
use Rattle.bit_writer.proofs.Writing.{bytes-length, packed-length}

-- ---- bits
-- a list of bits
unfoldable pub AllBits : List ℕ → Type 0
AllBits l = (i : ℕ) → get_or l i 0 < 2

pub binary-bits : (w n : ℕ) → AllBits (binary w n)
unfolding AllBits binary
binary-bits zero n i = lit< tt
binary-bits (suc w) n zero = mod-lt (n / 2 ^ w) (lit< tt)
binary-bits (suc w) n (suc i) = binary-bits w n i

pub append_bits : (a b : List ℕ) → AllBits a → AllBits b → AllBits (a ++ b)
unfolding AllBits
append_bits a b A B i =
    elim (below_or_not i (length a)) [
      | inl l ↦ subst⁻¹ (λ (x : ℕ). x < 2) (get_or-append a b 0 i l) (A i)
      | inr l ↦
          let s : i ≡ length a + (i - length a) = omega arith in
          subst⁻¹ (λ (x : ℕ). x < 2) (ap (λ (k : ℕ). get_or (a ++ b) k 0) s ∙ lib.Seq.get_or-append-add a b (i - length a) 0) (B (i - length a))
    ]

pub none-bits : AllBits []
unfolding AllBits
none-bits i = lit< tt

-- ---- a number of bits
number_base : (l : List ℕ) (p w a : ℕ) → number_at l p w a ≡ a * 2 ^ w + number_at l p w 0
unfolding number_at
number_base l p zero a = omega arith
number_base l p (suc w) a =
    number_base l (suc p) w (a * 2 + get_or l p 0)
    ∙ z a (get_or l p 0) (2 ^ w) (number_at l (suc p) w 0)
    ∙ ap₂ (λ (x y : ℕ). a * x + y) (sym (pow-succ' 2 w)) (sym (number_base l (suc p) w (0 * 2 + get_or l p 0)))
  where
    z : (a b k m : ℕ) → (a * 2 + b) * k + m ≡ a * (2 * k) + ((0 * 2 + b) * k + m)
    z a b k m = omega arith

number_less : (l : List ℕ) → AllBits l → (p w : ℕ) → number_at l p w 0 < 2 ^ w
unfolding AllBits number_at
number_less l A p zero = lit< tt
number_less l A p (suc w) =
    subst⁻¹ (λ (x : ℕ). x < 2 ^ suc w) (number_base l (suc p) w (0 * 2 + get_or l p 0))
    (subst⁻¹ (λ (x : ℕ). (0 * 2 + get_or l p 0) * 2 ^ w + number_at l (suc p) w 0 < x) (pow-succ' 2 w)
    (z (get_or l p 0) (2 ^ w) (number_at l (suc p) w 0) (A p) (number_less l A (suc p) w)))
  where
    z : (b k m : ℕ) → b < 2 → m < k → (0 * 2 + b) * k + m < 2 * k
    z zero k m h l = omega arith
    z (suc zero) k m h l = omega arith
    z (suc (suc b)) k m h l = absurd (omega arith)

number-one : (l : List ℕ) (p a : ℕ) → number_at l p 1 a ≡ a * 2 + get_or l p 0
unfolding number_at
number-one l p a = refl

last_bit : (l : List ℕ) (p j : ℕ) → number_at l p (suc j) 0 ≡ number_at l p j 0 * 2 + get_or l (p + j) 0
last_bit l p j = ap (λ (k : ℕ). number_at l p k 0) (z j) ∙ number_split l p j 1 0 ∙ number-one l (p + j) (number_at l p j 0)
  where
    z : (j : ℕ) → suc j ≡ j + 1
    z j = omega arith

div_of : (x k m : ℕ) → 0 < k → m < k → (x * k + m) / k ≡ x
div_of x k m h l = ap (λ (y : ℕ). y / k) (z x k m) ∙ add-mul-div_right m x h ∙ ap (λ (y : ℕ). y + x) (div-eq_of_lt l) ∙ zero-add x
  where
    z : (x k m : ℕ) → x * k + m ≡ m + x * k
    z x k m = omega arith

-- bit j of w bits
pub number_bit : (l : List ℕ) → AllBits l → (p j m : ℕ) → number_at l p (suc j + m) 0 / 2 ^ m % 2 ≡ get_or l (p + j) 0
unfolding AllBits
number_bit l A p j m =
    ap (λ (y : ℕ). y / 2 ^ m % 2) (number_split l p (suc j) m 0 ∙ number_base l (p + suc j) m (number_at l p (suc j) 0))
    ∙ ap (λ (y : ℕ). y % 2) (div_of (number_at l p (suc j) 0) (2 ^ m) (number_at l (p + suc j) m 0) (pow_pos m) (number_less l A (p + suc j) m) ∙ last_bit l p j)
    ∙ z (number_at l p j 0) (get_or l (p + j) 0) (A (p + j))
  where
    z : (a b : ℕ) → b < 2 → (a * 2 + b) % 2 ≡ b
    z a b h = omega arith

-- ---- the bytes of bits
pub byte_there : (l : List ℕ) (n k : ℕ) → k < n → get_or (bytes_up_to l n) k 0 ≡ byte_at l k
unfolding bytes_up_to
byte_there l zero k h = absurd (omega arith)
byte_there l (suc n) k h =
    elim (below_or_not k n) [
      | inl a ↦ get_or-append (bytes_up_to l n) (byte_at l n ∷ []) 0 k (subst⁻¹ (λ (m : ℕ). k < m) (bytes-length l n) a) ∙ byte_there l n k a
      | inr a ↦
          let e : k ≡ n = omega arith in
          ap (λ (m : ℕ). get_or (bytes_up_to l n ++ (byte_at l n ∷ [])) m 0) (e ∙ sym (bytes-length l n))
          ∙ get_or-append_seam (bytes_up_to l n) (byte_at l n) [] 0
          ∙ ap (byte_at l) (sym e)
    ]

pub packed_bit : (l : List ℕ) → AllBits l → (p : ℕ) → bit_at (packed l) p ≡ get_or l p 0
unfolding packed byte_at
packed_bit l A p =
    elim (below_or_not (p / 8) (bytes_for (length l))) [
      | inl h ↦
          let s : suc (p % 8) + (7 - p % 8) ≡ 8 = omega arith in
          let t : 8 * (p / 8) + p % 8 ≡ p = omega arith in
          ap (λ (x : ℕ). x / 2 ^ (7 - p % 8) % 2) (byte_there l (bytes_for (length l)) (p / 8) h ∙ ap (λ (w : ℕ). number_at l (8 * (p / 8)) w 0) (sym s))
          ∙ number_bit l A (8 * (p / 8)) (p % 8) (7 - p % 8)
          ∙ ap (λ (k : ℕ). get_or l k 0) t
      | inr h ↦
          ap (λ (x : ℕ). x / 2 ^ (7 - p % 8) % 2) (get_or-eq_default (bytes_up_to l (bytes_for (length l))) 0
          (subst⁻¹ (λ (m : ℕ). m ≤ p / 8) (bytes-length l (bytes_for (length l))) h))
          ∙ z (2 ^ (7 - p % 8)) (pow_pos (7 - p % 8))
          ∙ sym (get_or-eq_default l 0 (omega arith))
    ]
  where
    z : (k : ℕ) → 0 < k → 0 / k % 2 ≡ 0
    z k h = ap (λ (x : ℕ). x % 2) (div-eq_of_lt h)

pub packed-field : (l : List ℕ) → AllBits l → (p w a : ℕ) → field_at (packed l) p w a ≡ number_at l p w a
unfolding field_at number_at
packed-field l A p zero a = refl
packed-field l A p (suc w) a = ap (λ (x : ℕ). field_at (packed l) (suc p) w (a * 2 + x)) (packed_bit l A p) ∙ packed-field l A (suc p) w (a * 2 + get_or l p 0)

-- ---- where bits stand
-- x stands in l from p on
pub record At {A : Type 0} (l : List A) (p : ℕ) (x : List A) : Type 0 where
  pub before : List A
  pub behind : List A
  pub whole : l ≡ before ++ (x ++ behind)
  pub place : length before ≡ p

pub at_first : {A : Type 0} (l : List A) (p : ℕ) (x y : List A) → At l p (x ++ y) → At l p x
at_first {A} l p x y T = record {
  before = T.before;
  behind = y ++ T.behind;
  whole = T.whole ∙ ap (λ (z : List A). T.before ++ z)
      (append_assoc x y T.behind);
  place = T.place;
}

pub at_second : {A : Type 0} (l : List A) (p n : ℕ) (x y : List A) → length x ≡ n → At l p (x ++ y) → At l (p + n) y
at_second {A} l p n x y e T =
    record {
      before = T.before ++ x;
      behind = T.behind;
      whole = T.whole ∙ ap (λ (z : List A). T.before ++ z) (append_assoc x y T.behind) ∙ sym (append_assoc T.before x (y ++ T.behind));
      place = length-append T.before x ∙ ap₂ ◌+◌ T.place e;
    }

pub at-end : {A : Type 0} (l : List A) (p : ℕ) (x : List A) → At l p x → p + length x ≤ length l
at-end l p x T = omega (arith, ap length T.whole, length-append T.before (x ++ T.behind), length-append x T.behind, T.place)

pub at_all : {A : Type 0} (l : List A) → At l 0 l
at_all l = record { before = []; behind = []; whole = sym (append-nil l); place = refl }

pub at_head : {A : Type 0} (l : List A) (p : ℕ) (a d : A) (x : List A) → At l p (a ∷ x) → get_or l p d ≡ a
at_head {A} l p a d x T =
    ap₂ (λ (z : List A) (q : ℕ). get_or z q d) T.whole (sym T.place) ∙ get_or-append_seam T.before a (x ++ T.behind) d

-- a field of w bits
pub bits-read : (l : List ℕ) → AllBits l → (p w n : ℕ) → At l p (binary w n) → n < 2 ^ w → bits w (packed l) p ≡ ok n (p + w)
unfolding bits
bits-read l A p w n T h =
    let room : p + w ≤ 8 * length (packed l) = omega (arith, at-end l p (binary w n) T, binary-length w n, packed-length l) in
    let e : field_at (packed l) p w 0 ≡ n =
    packed-field l A p w 0
    ∙ ap₂ (λ (x : List ℕ) (q : ℕ). number_at x q w 0) T.whole (sym T.place)
    ∙ number_of T.before T.behind w n 0
    ∙ ap (λ (x : ℕ). 0 * 2 ^ w + x) (mod-eq_of_lt h)
    ∙ z (2 ^ w) n in
    ap (λ (b : Bool). cond b (ok (field_at (packed l) p w 0) (p + w)) (bad Rattle.bits.specs.declared.Refusal.TheVariants.Truncated)) (le-leb _ _ room) ∙ ap
    (λ (x : ℕ). ok x (p + w)) e
  where
    z : (k n : ℕ) → 0 * k + n ≡ n
    z k n = omega arith
