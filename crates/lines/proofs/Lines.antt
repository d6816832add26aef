-- A line is its word, its fields and a newline, one after the other, and how long it is. Assumes nothing.
use Prim.Native.Nat.{ℕ, zero, suc, ◌+◌, ◌*◌, ◌≤◌, ◌<◌}
use native.Mathlib.Omega.{arith}
use native.Mathlib.Numerals.{add-one}
use mathlib.Core.Path.{◌≡◌, refl, sym, ap, ◌∙◌}
use mathlib.Core.List.{List, [], ◌∷◌, ◌++◌, map, flat_map, append_assoc, append-nil}
use lib.ListN.{length, get_or, take, length-append}
use lib.Seq.{take_all}
use lib.Ieee.{Float}
use Rattle.numbers.proofs.Truth.{not-below-zero}
use Rattle.nesting.specs.Text.{decimal, hex, line}
use Rattle.lines.specs.declared.Text.{Text}
use Rattle.lines.specs.inner.Writing.{Put, fields}
use Rattle.lines.proofs.Appending.{put-both, put-same}
use Rattle.lines.proofs.Digits.{decimal-length, hex-length}

fields-append : (ps qs : List (List ℕ)) → fields (ps ++ qs) ≡ fields ps ++ fields qs
unfolding fields flat_map
fields-append [] qs = refl
fields-append (p ∷ ps) qs = ap (λ (l : List ℕ). (32 ∷ p) ++ l) (fields-append ps qs) ∙ sym (append_assoc (32 ∷ p) (fields ps) (fields qs))

-- a word, two lists of fields and a newline are a line
pub line_is : (word : List ℕ) (ps qs : List (List ℕ)) → word ++ (fields ps ++ (fields qs ++ (10 ∷ []))) ≡ line word (ps ++ qs)
unfolding line fields
line_is word ps qs =
    ap (λ (l : List ℕ). word ++ l) (sym (append_assoc (fields ps) (fields qs) (10 ∷ []))
    ∙ ap (λ (l : List ℕ). l ++ (10 ∷ [])) (sym (fields-append ps qs)))

-- ---- one field more

module _ {A : Type 0} (f : A → List ℕ) (d : A) where
  field-on : (xs : List A) (i : ℕ) → i < length xs → fields (map f (take i xs)) ++ (32 ∷ f (get_or xs i d)) ≡ fields (map f (take (suc i) xs))
  unfolding fields flat_map
  field-on [] i h = absurd (not-below-zero i h)
  field-on (x ∷ xs) zero h = sym (append-nil (32 ∷ f x))
  field-on (x ∷ xs) (suc i) h =
      append_assoc (32 ∷ f x) (fields (map f (take i xs))) (32 ∷ f (get_or xs i d)) ∙ ap (λ (l : List ℕ). (32 ∷ f x) ++ l) (field-on xs i (omega arith))

  pub put-field : (xs : List A) (i : ℕ) {t u v w : Text} → i < length xs → Put t (fields (map f (take i xs))) u → Put u (32 ∷ []) v → Put v (f (get_or xs i d)) w
      → Put t (fields (map f (take (i + 1) xs))) w
  put-field xs i h p q r = rw (add-one i) (put-same (field-on xs i h) (put-both p (put-both q r)))

  pub put-fields : (xs : List A) (i : ℕ) {t u : Text} → length xs ≤ i → Put t (fields (map f (take i xs))) u → Put t (fields (map f xs)) u
  put-fields xs i h p = put-same (ap (λ (l : List A). fields (map f l)) (take_all i xs h)) p

-- ---- how long it is

pub counts-most : (ns : List ℕ) → length (fields (map decimal ns)) ≤ 21 * length ns
unfolding fields flat_map
counts-most [] = omega arith
counts-most (n ∷ ns) = omega (arith, length-append (32 ∷ decimal n) (fields (map decimal ns)), decimal-length n, counts-most ns)

pub doubles-length : (xs : List Float) → length (fields (map hex xs)) ≡ 17 * length xs
unfolding fields flat_map
doubles-length [] = refl
doubles-length (x ∷ xs) = let a = length-append (32 ∷ hex x) (fields (map hex xs)) in
    let b = hex-length x in
    let c = doubles-length xs in
    omega arith

pub line_most : (word : List ℕ) (ns : List ℕ) (xs : List Float) → length (line word (map decimal ns ++ map hex xs)) ≤ length word + 21 * length ns + 17 * length xs + 1
line_most word ns xs =
    rw (sym (line_is word (map decimal ns) (map hex xs)))
    (let a = length-append word (fields (map decimal ns) ++ (fields (map hex xs) ++ (10 ∷ []))) in
    let b = length-append (fields (map decimal ns)) (fields (map hex xs) ++ (10 ∷ [])) in
    let c = length-append (fields (map hex xs)) (10 ∷ []) in
    omega (arith, counts-most ns, doubles-length xs))
