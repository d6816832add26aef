-- How many new entries a bucket has. Assumes nothing.
use Prim.Native.Nat.{ℕ, zero, suc, ◌+◌, ◌-◌, ◌≤◌}
use native.Mathlib.Omega.{arith}
use native.Mathlib.Numerals.{add-one}
use mathlib.Core.Path.{◌≡◌, refl, sym, ap, ◌∙◌, subst}
use mathlib.Core.Logic.{◌⊎◌, inl, inr}
use mathlib.Core.Bool.{Bool, true, false, ◌&&◌}
use mathlib.Core.List.{List, [], ◌∷◌, ◌++◌}
use lib.ListN.{length, length-append}
use lib.Dec.{T, leb, leb→le}
use lib.Ieee.{Float}
use borrow.Author.Tests.{le-leb}
use Rattle.numbers.proofs.Truth.{either}
use Rattle.trapezoid.specs.Strip.{strip_at}
use Rattle.index.specs.declared.Index.{Index}
use Rattle.index.specs.Buckets.{up_from, keep, bucket_in}
use Rattle.index.proofs.Steps.{keep_yes, keep_no, keep-none}
use Rattle.index.proofs.Flat.{keep_append}
use Rattle.index.specs.inner.Listing.{covers}
use Rattle.enter.specs.span_marks.inner.NewEntries.{one, new_in}

-- ---- lists of numbers
pub up_from_append : (m n c : ℕ) → up_from (m + n) c ≡ up_from m c ++ up_from n (c + m)
unfolding up_from
up_from_append zero n c = let e : c + 0 ≡ c = omega arith in let z : 0 + n ≡ n = omega arith in rw (e, z)
up_from_append (suc m) n c =
    let e : suc m + n ≡ suc (m + n) = omega arith in
    let z : suc c + m ≡ c + suc m = omega arith in
    ap (λ (k : ℕ). up_from k c) e ∙ ap (λ (l : List ℕ). c ∷ l) (up_from_append m n (suc c) ∙ rw z)

-- ---- the buckets of one strip
pub one_inside : (lo hi b : ℕ) → lo ≤ b → b ≤ hi → one lo hi b ≡ 1
unfolding one
one_inside lo hi b h g = rw (le-leb lo b h, le-leb b hi g, one)

pub one_outside : (lo hi b : ℕ) → (lo ≤ b → b ≤ hi → ⊥) → one lo hi b ≡ 0
unfolding one
one_outside lo hi b n = go (leb lo b && leb b hi) (parts (leb lo b) (leb b hi) (leb→le lo b) (leb→le b hi))
  where
    parts : (s t : Bool) → (T s → lo ≤ b) → (T t → b ≤ hi) → T (s && t) → (lo ≤ b) × (b ≤ hi)
    parts true true f g q = (f tt, g tt)
    parts true false f g q = absurd q
    parts false t f g q = absurd q

    go : (t : Bool) → (T t → (lo ≤ b) × (b ≤ hi)) → ◌≡◌ {A = ℕ} (elim t [ true ↦ 1 | false ↦ 0 ]) 0
    go true f = absurd (n (f tt).0 (f tt).1)
    go false f = refl

pub one-most : (lo hi b : ℕ) → one lo hi b ≤ 1
unfolding one
one-most lo hi b = go (leb lo b && leb b hi)
  where
    go : (t : Bool) → (elim t [ true ↦ 1 | false ↦ 0 ]) ≤ 1
    go true = omega arith
    go false = omega arith

-- ---- counting
module _ (ix : Index) (standing : List Float) where
  abbrev test : ℕ → ℕ → Bool
  test b j = covers ix (strip_at standing j) b

  new_split : (c i b : ℕ) → new_in ix standing (c + 1) i b ≡ new_in ix standing c i b ++ keep (test b) ((i + c) ∷ [])
  unfolding new_in up_from
  new_split c i b = ap (keep (test b)) (up_from_append c 1 i) ∙ keep_append (test b) (up_from c i) (up_from 1 (i + c))

  one_in : (i b : ℕ) → test b i ≡ true → one (bucket_in ix (strip_at standing i).x0) (bucket_in ix (strip_at standing i).x1) b ≡ 1
  unfolding one covers
  one_in i b e = rw (e, one)

  one_out : (i b : ℕ) → test b i ≡ false → one (bucket_in ix (strip_at standing i).x0) (bucket_in ix (strip_at standing i).x1) b ≡ 0
  unfolding one covers
  one_out i b e = rw (e, one)

  pub count-step : (c i b g : ℕ) → g ≡ length (new_in ix standing c i b) → g + one (bucket_in ix (strip_at standing (i + c)).x0) (bucket_in ix (strip_at standing (i + c)).x1) b ≡ length (new_in ix standing (c + 1) i b)
  count-step c i b g h = go (either (test b (i + c)))
    where
      whole : length (new_in ix standing (c + 1) i b) ≡ length (new_in ix standing c i b) + length (keep (test b) ((i + c) ∷ []))
      whole = ap length (new_split c i b) ∙ length-append (new_in ix standing c i b) (keep (test b) ((i + c) ∷ []))

      go : (test b (i + c) ≡ true) ⊎ (test b (i + c) ≡ false) → g + one (bucket_in ix (strip_at standing (i + c)).x0) (bucket_in ix (strip_at standing (i + c)).x1) b ≡ length (new_in ix standing (c + 1) i b)
      go (inl e) = let a = one_in (i + c) b e in let l : length (keep (test b) ((i + c) ∷ [])) ≡ 1 = ap length (keep_yes (test b) (i + c) [] e ∙ ap (λ (l : List ℕ). (i + c) ∷ l) (keep-none (test b))) in omega (arith, whole)
      go (inr e) = let a = one_out (i + c) b e in let l : length (keep (test b) ((i + c) ∷ [])) ≡ 0 = ap length (keep_no (test b) (i + c) [] e ∙ keep-none (test b)) in omega (arith, whole)

  pub new_none : (i b : ℕ) → length (new_in ix standing 0 i b) ≡ 0
  unfolding new_in up_from keep
  new_none i b = refl

-- at most one for each strip
pub new-few : (ix : Index) (standing : List Float) (c i b : ℕ) → length (new_in ix standing c i b) ≤ c
new-few ix standing zero i b = let z = new_none ix standing i b in omega arith
new-few ix standing (suc c) i b =
    let f = new-few ix standing c i b in
    let s = count-step ix standing c i b (length (new_in ix standing c i b)) refl in
    let m = one-most (bucket_in ix (strip_at standing (i + c)).x0) (bucket_in ix (strip_at standing (i + c)).x1) b in
    subst (λ (k : ℕ). length (new_in ix standing k i b) ≤ k) (add-one c) (omega arith)

-- one strip more
pub new-next : (ix : Index) (standing : List Float) (from i lo hi b : ℕ) → from ≤ i → lo ≡ bucket_in ix (strip_at standing i).x0 → hi ≡ bucket_in ix (strip_at standing i).x1
    → length (new_in ix standing (i + 1 - from) from b) ≡ length (new_in ix standing (i - from) from b) + one lo hi b
new-next ix standing from i lo hi b h x y =
    let e : from + (i - from) ≡ i = omega arith in
    let f : i + 1 - from ≡ i - from + 1 = omega arith in
    let s = count-step ix standing (i - from) from b (length (new_in ix standing (i - from) from b)) refl in
    let t : length (new_in ix standing (i - from) from b) + one (bucket_in ix (strip_at standing i).x0) (bucket_in ix (strip_at standing i).x1) b ≡ length (new_in ix standing (i - from + 1) from b) = subst (λ (k : ℕ). length (new_in ix standing (i - from) from b) + one (bucket_in ix (strip_at standing k).x0) (bucket_in ix (strip_at standing k).x1) b ≡ length (new_in ix standing (i - from + 1) from b)) e s in
    ap (λ (k : ℕ). length (new_in ix standing k from b)) f ∙ (sym t ∙ (ap (λ (k : ℕ). length (new_in ix standing (i - from) from b) + one k (bucket_in ix (strip_at standing i).x1) b) (sym x) ∙ ap (λ (k : ℕ). length (new_in ix standing (i - from) from b) + one lo k b) (sym y)))
