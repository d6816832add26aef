-- Laws of a writer: bits after bits. Assumes nothing.
use mathlib.Core.Path.{◌≡◌, refl, sym, ap, ap₂, subst, subst⁻¹, ◌∙◌}
use Prim.Native.Nat.{ℕ, zero, suc, ◌+◌, ◌-◌, ◌*◌, ◌/◌, ◌%◌, ◌^◌, ◌≤◌, ◌<◌}
use native.Mathlib.Omega.{arith}
use native.Mathlib.Numerals.{add-one}
use native.Mathlib.Nat.{le_of_suc-le-suc, eq-or-lt_of_le, div-div-eq-div-mul, le_trans, lt_of_lt_of_le, mul-le-mul_right, mod-lt, add-zero}
use mathlib.Core.List.{List, [], ◌∷◌, ◌++◌, append_assoc, append-nil}
use lib.ListN.{length, get_or, set, take, replicate, length-append, length-set, length-take, length-replicate, get_or-replicate, get_or-append}
use mathlib.Core.Logic.{inl, inr}
use lib.Seq.{get_or-set_same, get_or-set_other, take-suc, ext_get_or, get_or-take, get_or-append-add, length-take-le}
use lib.Dec.{lit<}
use lib.Pow.{pow-add, pow_pos, pow_mono}
use Rattle.numbers.proofs.Truth.{below_or_not}
use Rattle.bit_writer.specs.declared.BitWriter.{BitWriter}
use Rattle.bit_writer.specs.Packed.{binary, number_at, byte_at, bytes_up_to, bytes_for, packed, in_room}
use Rattle.bit_writer.specs.inner.BitWriting.{Sound, written, Wrote, Put, Closed}
use Rattle.bit_writer.proofs.Bits.{binary-length, binary_split, number_split, number-stays, number_of, number_past, byte_stays}

-- ---- composition
pub put-none : (out : List ℕ) (p : BitWriter) → Sound p → Put out p [] out p
put-none out p s =
    record {
      wrote = λ bits W. subst⁻¹ (λ (l : List ℕ). Wrote out l p) (append-nil bits) W;
      sound = s;
      count = sym (add-zero (written p));
      long = refl;
    }

pub put_then : (a b c : List ℕ) (p q r : BitWriter) (m l : List ℕ) → Put a p m b q → Put b q l c r → Put a p (m ++ l) c r
put_then a b c p q r m l F G =
    record {
      wrote = λ bits W. subst (λ (x : List ℕ). Wrote c x r) (append_assoc bits m l) (G.wrote (bits ++ m) (F.wrote bits W));
      sound = G.sound;
      count = omega (arith, F.count, G.count, length-append m l);
      long = G.long ∙ F.long;
    }

pub put_same : (a b : List ℕ) (p r : BitWriter) (m l : List ℕ) → m ≡ l → Put a p m b r → Put a p l b r
put_same a b p r m l e F = subst (λ (x : List ℕ). Put a p x b r) e F

-- ---- some bits of one byte
pub some_fit : (p : BitWriter) (k : ℕ) → Sound p → p.filled + k ≤ 8 → (p.held + 1) * 2 ^ k ≤ 256
some_fit p k S h =
    let a : p.held + 1 ≤ 2 ^ p.filled = z p.held (2 ^ p.filled) S.small in
    le_trans (mul-le-mul_right (2 ^ k) a) (subst (λ (x : ℕ). x ≤ 256) (pow-add 2 p.filled k) (pow_mono {i = p.filled + k} {j = 8} h))
  where
    z : (a b : ℕ) → a < b → a + 1 ≤ b
    z a b h = omega arith

-- what is held after them
held_less : (held x f k : ℕ) → held < 2 ^ f → held * 2 ^ k + x % 2 ^ k < 2 ^ (f + k)
held_less held x f k h = subst⁻¹ (λ (m : ℕ). held * 2 ^ k + x % 2 ^ k < m) (pow-add 2 f k) (z held (2 ^ f) (2 ^ k) (x % 2 ^ k) h (mod-lt x (pow_pos k)))
  where
    z : (a b k y : ℕ) → a < b → y < k → a * k + y < b * k
    z a b k y h l = lt_of_lt_of_le (w a k y l) (mul-le-mul_right k (v a b h))
      where
        w : (a k y : ℕ) → y < k → a * k + y < (a + 1) * k
        w a k y l = omega arith

        v : (a b : ℕ) → a < b → a + 1 ≤ b
        v a b h = omega arith

pub held_small : (p : BitWriter) (n k e r : ℕ) → Sound p → p.filled + k ≤ 8 → r ≡ p.held * 2 ^ k + n / 2 ^ e % 2 ^ k → r < 256
held_small p n k e r S h q = subst⁻¹ (λ (x : ℕ). x < 256) q (lt_of_lt_of_le (held_less p.held (n / 2 ^ e) p.filled k S.small)
    (pow_mono {i = p.filled + k} {j = 8} h))

-- the number of the bits of the next byte, with k more
held_on : (bits : List ℕ) (b f k x : ℕ) → length bits ≡ 8 * b + f → number_at (bits ++ binary k x) (8 * b) (f + k) 0 ≡ number_at bits (8 * b) f 0 * 2 ^ k + x % 2
    ^ k
held_on bits b f k x e =
    number_split (bits ++ binary k x) (8 * b) f k 0
    ∙ ap₂ (λ (q a : ℕ). number_at (bits ++ binary k x) q k a) (sym e) (number-stays bits (binary k x) (8 * b) f 0 (z (length bits) (8 * b + f) e))
    ∙ ap (λ (l : List ℕ). number_at (bits ++ l) (length bits) k (number_at bits (8 * b) f 0)) (sym (append-nil (binary k x)))
    ∙ number_of bits [] k x (number_at bits (8 * b) f 0)
  where
    z : (a b : ℕ) → a ≡ b → b ≤ a
    z a b e = omega arith

-- the bytes before stay
laid_on : (out bits more : List ℕ) (p : BitWriter) → Wrote out bits p → (k : ℕ) → k < p.bytes → k < length out → get_or out k 0 ≡ byte_at (bits ++ more) k
laid_on out bits more p W k h l = W.laid k h l ∙ sym (byte_stays bits more k (omega (arith, W.number)))

-- the byte is not full
pub put-part : (out : List ℕ) (p : BitWriter) (n k e r : ℕ) → Sound p → r ≡ p.held * 2 ^ k + n / 2 ^ e % 2 ^ k → p.filled + k ≤ 8 → (p.filled + k ≡ 8 → ⊥) →
    Put out p (binary k (n / 2 ^ e)) out (record { bytes = p.bytes; held = r; filled = p.filled + k })
put-part out p n k e r S q h g =
    record {
      wrote =
          λ bits W.
          record {
            number = length-append bits (binary k (n / 2 ^ e)) ∙ omega (arith, W.number, binary-length k (n / 2 ^ e));
            held = q ∙ ap (λ (x : ℕ). x * 2 ^ k + n / 2 ^ e % 2 ^ k) W.held ∙ sym (held_on bits p.bytes p.filled k (n / 2 ^ e) W.number);
            laid = laid_on out bits (binary k (n / 2 ^ e)) p W;
          };
      sound = record {
        part = omega arith;
        small = subst⁻¹ (λ (x : ℕ). x < 2 ^ (p.filled + k)) q (held_less p.held (n / 2 ^ e) p.filled k S.small);
        few = S.few;
      };
      count = omega (arith, binary-length k (n / 2 ^ e));
      long = refl;
    }

-- the byte is full
byte_full : (out bits : List ℕ) (p : BitWriter) (n k e r : ℕ) → r ≡ p.held * 2 ^ k + n / 2 ^ e % 2 ^ k → p.filled + k ≡ 8 → Wrote out bits p → r ≡ byte_at
    (bits ++ binary k (n / 2 ^ e)) p.bytes
unfolding byte_at
byte_full out bits p n k e r q h W =
    q
    ∙ ap (λ (x : ℕ). x * 2 ^ k + n / 2 ^ e % 2 ^ k) W.held
    ∙ sym (held_on bits p.bytes p.filled k (n / 2 ^ e) W.number)
    ∙ ap (λ (x : ℕ). number_at (bits ++ binary k (n / 2 ^ e)) (8 * p.bytes) x 0) h

bytes_full : (out bits : List ℕ) (p : BitWriter) (n k e r : ℕ) → r ≡ p.held * 2 ^ k + n / 2 ^ e % 2 ^ k → p.filled + k ≡ 8 → Wrote out bits p → (j : ℕ) → j <
    p.bytes + 1 → j < length out → get_or (set out p.bytes r) j 0 ≡ byte_at (bits ++ binary k (n / 2 ^ e)) j
bytes_full out bits p n k e r q h W j a l =
    elim (eq-or-lt_of_le (le_of_suc-le-suc (subst (λ (m : ℕ). j < m) (add-one p.bytes) a))) [
      | inl y ↦
          ap (λ (x : ℕ). get_or (set out p.bytes r) x 0) y
          ∙ get_or-set_same out p.bytes r 0 (subst (λ (x : ℕ). x < length out) y l)
          ∙ byte_full out bits p n k e r q h W
          ∙ ap (λ (x : ℕ). byte_at (bits ++ binary k (n / 2 ^ e)) x) (sym y)
      | inr y ↦ get_or-set_other out p.bytes j r 0 (z y) ∙ laid_on out bits (binary k (n / 2 ^ e)) p W j y l
    ]
  where
    z : {j b : ℕ} → j < b → j ≡ b → ⊥
    z {j} {b} h e = omega arith

pub put_full : (out out' : List ℕ) (p : BitWriter) (n k e r : ℕ) → Sound p → r ≡ p.held * 2 ^ k + n / 2 ^ e % 2 ^ k → p.filled + k ≡ 8 → p.bytes <
    1000000000000 → out' ≡ set out p.bytes r → Put out p (binary k (n / 2 ^ e)) out' (record { bytes = p.bytes + 1; held = 0; filled = 0 })
unfolding number_at
put_full out out' p n k e r S q h f o =
    record {
      wrote =
          λ bits W.
          record {
            number = length-append bits (binary k (n / 2 ^ e)) ∙ omega (arith, W.number, binary-length k (n / 2 ^ e));
            held = refl;
            laid =
                λ j a l.
                ap (λ (x : List ℕ). get_or x j 0) o
                ∙ bytes_full out bits p n k e r q h W j a (subst (λ (x : ℕ). j < x) (ap length o ∙ length-set out p.bytes r) l);
          };
      sound = record { part = lit< tt; small = lit< tt; few = omega arith };
      count = omega (arith, binary-length k (n / 2 ^ e));
      long = ap length o ∙ length-set out p.bytes r;
    }

-- ---- the loop over a field's bits
pub bits-start : (out : List ℕ) (p : BitWriter) (n w : ℕ) → Sound p → Put out p (binary (w - w) (n / 2 ^ w)) out p
unfolding binary
bits-start out p n w S =
    let z : w - w ≡ 0 = omega arith in
    subst⁻¹ (λ (x : ℕ). Put out p (binary x (n / 2 ^ w)) out p) z (put-none out p S)

pub bits_on : (a b c : List ℕ) (p q r : BitWriter) (n w left k : ℕ) → Put a p (binary (w - left) (n / 2 ^ left)) b q → Put b q (binary k (n / 2 ^ (left - k))) c
    r → left ≤ w → k ≤ left → Put a p (binary (w - (left - k)) (n / 2 ^ (left - k))) c r
bits_on a b c p q r n w left k F G h l =
    let e : left - k + k ≡ left = omega arith in
    let d : n / 2 ^ (left - k) / 2 ^ k ≡ n / 2 ^ left = div-div-eq-div-mul n (2 ^ (left - k)) (2 ^ k) ∙ ap (λ (x : ℕ). n / x)
    (sym (pow-add 2 (left - k) k) ∙ ap (λ (x : ℕ). 2 ^ x) e) in
    let s : w - (left - k) ≡ w - left + k = omega arith in
    put_same a c p r _ _
    (ap (λ (x : ℕ). binary (w - left) x ++ binary k (n / 2 ^ (left - k))) (sym d)
    ∙ sym (binary_split (w - left) k (n / 2 ^ (left - k)))
    ∙ ap (λ (x : ℕ). binary x (n / 2 ^ (left - k))) (sym s))
    (put_then a b c p q r _ _ F G)

pub bits-end : (a b : List ℕ) (p q : BitWriter) (n w left : ℕ) → Put a p (binary (w - left) (n / 2 ^ left)) b q → left ≡ 0 → Put a p (binary w n) b q
bits-end a b p q n w left F e =
    let s : w - 0 ≡ w = omega arith in
    let d : n / 1 ≡ n = omega arith in
    put_same a b p q _ _ (ap (λ (x : ℕ). binary (w - x) (n / 2 ^ x)) e ∙ ap₂ (λ (x y : ℕ). binary x y) s d) F

pub put-length : (a b : List ℕ) (p q : BitWriter) (m : List ℕ) → Put a p m b q → length b ≡ length a
put-length a b p q m F = F.long

-- ---- the bytes of bits
pub bytes-length : (bits : List ℕ) (n : ℕ) → length (bytes_up_to bits n) ≡ n
unfolding bytes_up_to
bytes-length bits zero = refl
bytes-length bits (suc n) = length-append (bytes_up_to bits n) (byte_at bits n ∷ []) ∙ omega (arith, bytes-length bits n)

pub packed-length : (bits : List ℕ) → length (packed bits) ≡ bytes_for (length bits)
unfolding packed
packed-length bits = bytes-length bits (bytes_for (length bits))

-- a room that holds the first n bytes
pub bytes-laid : (out bits : List ℕ) (n : ℕ) → n ≤ length out → ((k : ℕ) → k < n → get_or out k 0 ≡ byte_at bits k) → take n out ≡ bytes_up_to bits n
unfolding bytes_up_to
bytes-laid out bits zero h f = refl
bytes-laid out bits (suc n) h f =
    take-suc out n 0 h ∙ ap₂ (λ (l : List ℕ) (x : ℕ). l ++ (x ∷ [])) (bytes-laid out bits n (omega arith) (λ k a. f k (omega arith))) (f n (omega arith))

pub close_whole : (out bits : List ℕ) (p : BitWriter) → p.filled ≡ 0 → Wrote out bits p → Closed out bits out p.bytes
unfolding packed
close_whole out bits p e W =
    let n : p.bytes ≡ bytes_for (length bits) = omega (arith, W.number) in
    record {
      number = n ∙ sym (packed-length bits);
      laid = λ h. bytes-laid out bits p.bytes h (λ k a. W.laid k a (omega arith)) ∙ ap (λ (x : ℕ). bytes_up_to bits x) n;
      long = refl;
    }

-- the byte that is filled up
last_byte : (out bits : List ℕ) (p : BitWriter) → Sound p → Wrote out bits p → p.held * 2 ^ (8 - p.filled) ≡ byte_at bits p.bytes
unfolding byte_at
last_byte out bits p S W =
    let s : p.filled + (8 - p.filled) ≡ 8 = omega (arith, S.part) in
    sym
    (ap (λ (x : ℕ). number_at bits (8 * p.bytes) x 0) (sym s)
    ∙ number_split bits (8 * p.bytes) p.filled (8 - p.filled) 0
    ∙ number_past bits (8 * p.bytes + p.filled) (8 - p.filled) (number_at bits (8 * p.bytes) p.filled 0) (omega (arith, W.number))
    ∙ ap (λ (x : ℕ). x * 2 ^ (8 - p.filled)) (sym W.held))

pub close_part : (out out' bits : List ℕ) (p : BitWriter) (v : ℕ) → Sound p → (p.filled ≡ 0 → ⊥) → v ≡ p.held * 2 ^ (8 - p.filled) → out' ≡ set out
    p.bytes v → Wrote out bits p → Closed out bits out' (p.bytes + 1)
unfolding packed
close_part out out' bits p v S e q o W =
    let n : p.bytes + 1 ≡ bytes_for (length bits) = omega (arith, W.number, S.part) in
    let l : length out' ≡ length out = ap length o ∙ length-set out p.bytes v in
    record {
      number = n ∙ sym (packed-length bits);
      laid =
          λ h.
          bytes-laid out' bits (p.bytes + 1) (omega arith) (λ k a. ap (λ (x : List ℕ). get_or x k 0) o ∙ laid-part k a (omega arith))
          ∙ ap (λ (x : ℕ). bytes_up_to bits x) n;
      long = l;
    }
  where
    z : {j b : ℕ} → j < b → j ≡ b → ⊥
    z {j} {b} h e = omega arith

    laid-part : (k : ℕ) → k < p.bytes + 1 → p.bytes < length out → get_or (set out p.bytes v) k 0 ≡ byte_at bits k
    laid-part k a h =
        elim (eq-or-lt_of_le (le_of_suc-le-suc (subst (λ (m : ℕ). k < m) (add-one p.bytes) a))) [
          | inl y ↦
              ap (λ (x : ℕ). get_or (set out p.bytes v) x 0) y
              ∙ get_or-set_same out p.bytes v 0 h
              ∙ q
              ∙ last_byte out bits p S W
              ∙ ap (λ (x : ℕ). byte_at bits x) (sym y)
          | inr y ↦ get_or-set_other out p.bytes k v 0 (z y) ∙ W.laid k y (omega arith)
        ]

pub closed_fits : (p : BitWriter) → Sound p → p.held * 2 ^ (8 - p.filled) < 256
closed_fits p S =
    let s : p.filled + (8 - p.filled) ≡ 8 = omega (arith, S.part) in
    subst (λ (m : ℕ). p.held * 2 ^ (8 - p.filled) < m) (sym (pow-add 2 p.filled (8 - p.filled)) ∙ ap (λ (x : ℕ). 2 ^ x) s)
    (z p.held (2 ^ p.filled) (2 ^ (8 - p.filled)) S.small (pow_pos (8 - p.filled)))
  where
    z : (a b k : ℕ) → a < b → 0 < k → a * k < b * k
    z a b k h l = lt_of_lt_of_le (w a k l) (mul-le-mul_right k (v a b h))
      where
        w : (a k : ℕ) → 0 < k → a * k < (a + 1) * k
        w a k l = omega arith

        v : (a b : ℕ) → a < b → a + 1 ≤ b
        v a b h = omega arith

-- ---- zeros behind
-- the places passed are zeros, and those before n are as they were
pub record Clearing (out₀ : List ℕ) (n : ℕ) (out : List ℕ) (i : ℕ) : Type 0 where
  pub long : length out ≡ length out₀
  pub from : n ≤ i
  pub kept : (k : ℕ) → k < n → get_or out k 0 ≡ get_or out₀ k 0
  pub zeros : (k : ℕ) → n ≤ k → k < i → k < length out₀ → get_or out k 0 ≡ 0

pub clear-start : (out : List ℕ) (n : ℕ) → Clearing out n out n
clear-start out n = record { long = refl; from = omega arith; kept = λ k h. refl; zeros = λ k a b l. absurd (omega arith) }

pub clear_on : (out₀ : List ℕ) (n : ℕ) (out : List ℕ) (i : ℕ) → Clearing out₀ n out i → i < length out → Clearing out₀ n (set out i 0) (i + 1)
clear_on out₀ n out i C h =
    record {
      long = length-set out i 0 ∙ C.long;
      from = omega (arith, C.from);
      kept = λ k a. get_or-set_other out i k 0 0 (z (lt_of_lt_of_le a C.from)) ∙ C.kept k a;
      zeros = λ k a b l. elim (eq-or-lt_of_le (le_of_suc-le-suc (subst (λ (m : ℕ). k < m) (add-one i) b)))
          [ inl y ↦ ap (λ (x : ℕ). get_or (set out i 0) x 0) y ∙ get_or-set_same out i 0 0 h | inr y ↦ get_or-set_other out i k 0 0 (z y) ∙ C.zeros k a y l ];
    }
  where
    z : {j b : ℕ} → j < b → j ≡ b → ⊥
    z {j} {b} h e = omega arith

pub clear-end : (out₀ : List ℕ) (n : ℕ) (out : List ℕ) (i : ℕ) → Clearing out₀ n out i → length out ≤ i → out ≡ take n out₀ ++ replicate (length out₀ - n) 0
clear-end out₀ n out i C h = ext_get_or 0 out (take n out₀ ++ replicate (length out₀ - n) 0) long same
  where
    long : length out ≡ length (take n out₀ ++ replicate (length out₀ - n) 0)
    long = simp (length-append, length-take, length-replicate) (omega (arith, C.long))

    same : (k : ℕ) → k < length out → get_or out k 0 ≡ get_or (take n out₀ ++ replicate (length out₀ - n) 0) k 0
    same k l =
        elim (below_or_not k n) [
          | inl a ↦
              C.kept k a
              ∙ sym (get_or-take n out₀ k 0 a)
              ∙ sym (get_or-append (take n out₀) (replicate (length out₀ - n) 0) 0 k (simp length-take (omega (arith, C.long))))
          | inr a ↦
              let t : length (take n out₀) ≡ n = length-take-le n out₀ (omega (arith, C.long)) in
              let s : k ≡ length (take n out₀) + (k - n) = omega arith in
              C.zeros k a (omega arith) (omega (arith, C.long))
              ∙ sym (get_or-replicate (length out₀ - n) (k - n) 0 0 (omega (arith, C.long)))
              ∙ sym (get_or-append-add (take n out₀) (replicate (length out₀ - n) 0) (k - n) 0)
              ∙ ap (λ (x : ℕ). get_or (take n out₀ ++ replicate (length out₀ - n) 0) x 0) (sym s)
        ]

pub finished : (out mid after bits : List ℕ) (r : ℕ) → Closed out bits mid r → after ≡ take r mid ++ replicate (length mid - r) 0 → (r ≡ length (packed bits)) ×
    (r ≤ length out → after ≡ in_room 0 (packed bits) (length out)) × (length after ≡ length out)
unfolding in_room
finished out mid after bits r C e = (
  C.number,
  (λ h. e ∙ ap₂ (λ (l : List ℕ) (n : ℕ). l ++ replicate n 0) (C.laid h) (z (length mid) (length out) r (length (packed bits)) C.long C.number)),
  ap length e ∙ simp (length-append, length-take, length-replicate) (omega (arith, C.long)),
)
  where
    z : (a b c d : ℕ) → a ≡ b → c ≡ d → a - c ≡ b - d
    z a b c d e f = ap₂ (λ (x y : ℕ). x - y) e f
