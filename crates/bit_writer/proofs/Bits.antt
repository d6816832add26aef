-- Laws of bits as numbers. Assumes nothing.
use mathlib.Core.Path.{◌≡◌, refl, sym, ap, ap₂, ◌∙◌}
use Prim.Native.Nat.{ℕ, zero, suc, ◌+◌, ◌*◌, ◌/◌, ◌%◌, ◌^◌, ◌≤◌}
use native.Mathlib.Omega.{arith}
use native.Mathlib.Nat.{zero-add, add-zero, pow-succ', div-div-eq-div-mul}
use mathlib.Core.List.{List, [], ◌∷◌, ◌++◌, append_assoc}
use lib.ListN.{length, get_or, length-append, get_or-append, get_or-eq_default}
use lib.Seq.{get_or-append_seam}
use lib.Dec.{lit<}
use lib.Pow.{pow-add, pow_pos}
use lib.Arith.{mod-mul}
use Rattle.bit_writer.specs.Packed.{binary, number_at, byte_at}

-- the bits of n are so many
pub binary-length : (w n : ℕ) → length (binary w n) ≡ w
unfolding binary
binary-length zero n = refl
binary-length (suc w) n = ap suc (binary-length w n)

-- some bits of n first
pub binary_split : (k m n : ℕ) → binary (k + m) n ≡ binary k (n / 2 ^ m) ++ binary m n
unfolding binary
binary_split zero m n = ap (λ (x : ℕ). binary x n) (zero-add m)
binary_split (suc k) m n =
    let e : suc k + m ≡ suc (k + m) = omega arith in
    let f : n / 2 ^ (k + m) ≡ n / 2 ^ m / 2 ^ k = sym (div-div-eq-div-mul n (2 ^ m) (2 ^ k) ∙ ap (λ (x : ℕ). n / x)
    (sym (pow-add 2 m k) ∙ ap (λ (x : ℕ). 2 ^ x) (z m k))) in
    ap (λ (x : ℕ). binary x n) e ∙ ap₂ (λ (x : ℕ) (l : List ℕ). (x % 2) ∷ l) f (binary_split k m n)
  where
    z : (m k : ℕ) → m + k ≡ k + m
    z m k = omega arith

-- a number of bits in two parts
pub number_split : (bits : List ℕ) (p i j a : ℕ) → number_at bits p (i + j) a ≡ number_at bits (p + i) j (number_at bits p i a)
unfolding number_at
number_split bits p zero j a = ap (λ (w : ℕ). number_at bits p w a) (zero-add j) ∙ ap (λ (q : ℕ). number_at bits q j a) (sym (add-zero p))
number_split bits p (suc i) j a =
    let e : suc i + j ≡ suc (i + j) = omega arith in
    let q : suc p + i ≡ p + suc i = omega arith in
    ap (λ (w : ℕ). number_at bits p w a) e
    ∙ number_split bits (suc p) i j (a * 2 + get_or bits p 0)
    ∙ ap (λ (v : ℕ). number_at bits v j (number_at bits (suc p) i (a * 2 + get_or bits p 0))) q

-- further bits change nothing before them
pub number-stays : (bits more : List ℕ) (p w a : ℕ) → p + w ≤ length bits → number_at (bits ++ more) p w a ≡ number_at bits p w a
unfolding number_at
number-stays bits more p zero a h = refl
number-stays bits more p (suc w) a h =
    number-stays bits more (suc p) w (a * 2 + get_or (bits ++ more) p 0) (omega arith)
    ∙ ap (λ (x : ℕ). number_at bits (suc p) w (a * 2 + x)) (get_or-append bits more 0 p (omega arith))

one_bit : (a n k : ℕ) → (a * 2 + n / 2 ^ k % 2) * 2 ^ k + n % 2 ^ k ≡ a * 2 ^ suc k + n % 2 ^ suc k
one_bit a n k = rw (pow-succ' 2 k, mod-mul n {m = 2} {c = 2 ^ k} (lit< tt) (pow_pos k)) (alg a (n / 2 ^ k % 2) (n % 2 ^ k) (2 ^ k))
  where
    alg : (a y z k : ℕ) → (a * 2 + y) * k + z ≡ a * (2 * k) + (y * k + z)
    alg a y z k = omega arith

-- the bits of n are n again
pub number_of : (bits more : List ℕ) (w n a : ℕ) → number_at (bits ++ (binary w n ++ more)) (length bits) w a ≡ a * 2 ^ w + n % 2 ^ w
unfolding number_at binary
number_of bits more zero n a = z a (n % 1) (y n)
  where
    z : (a x : ℕ) → x ≡ 0 → a ≡ a * 1 + x
    z a x e = omega arith

    y : (n : ℕ) → n % 1 ≡ 0
    y n = omega arith
number_of bits more (suc w) n a =
    let b : ℕ = n / 2 ^ w % 2 in
    let l : List ℕ = binary w n ++ more in
    let s : bits ++ (b ∷ l) ≡ (bits ++ (b ∷ [])) ++ l = sym (append_assoc bits (b ∷ []) l) in
    let m : length (bits ++ (b ∷ [])) ≡ suc (length bits) = length-append bits (b ∷ []) ∙ y (length bits) in
    ap (λ (x : ℕ). number_at (bits ++ (b ∷ l)) (suc (length bits)) w (a * 2 + x)) (get_or-append_seam bits b l 0)
    ∙ ap₂ (λ (x : List ℕ) (q : ℕ). number_at x q w (a * 2 + b)) s (sym m)
    ∙ number_of (bits ++ (b ∷ [])) more w n (a * 2 + b)
    ∙ one_bit a n w
  where
    y : (n : ℕ) → n + 1 ≡ suc n
    y n = omega arith

-- behind the last bit are zeros
pub number_past : (bits : List ℕ) (p w a : ℕ) → length bits ≤ p → number_at bits p w a ≡ a * 2 ^ w
unfolding number_at
number_past bits p zero a h = omega arith
number_past bits p (suc w) a h =
    number_past bits (suc p) w (a * 2 + get_or bits p 0) (omega arith)
    ∙ ap (λ (x : ℕ). (a * 2 + x) * 2 ^ w) (get_or-eq_default bits 0 h)
    ∙ z a (2 ^ w)
    ∙ ap (λ (x : ℕ). a * x) (sym (pow-succ' 2 w))
  where
    z : (a k : ℕ) → (a * 2 + 0) * k ≡ a * (2 * k)
    z a k = omega arith

pub byte_stays : (bits more : List ℕ) (k : ℕ) → 8 * k + 8 ≤ length bits → byte_at (bits ++ more) k ≡ byte_at bits k
unfolding byte_at
byte_stays bits more k h = number-stays bits more (8 * k) 8 0 h
