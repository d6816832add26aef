-- Marks, one strip after the other. Assumes nothing.
use Prim.Native.Nat.{ℕ, ◌+◌, ◌-◌, ◌<◌, ◌≤◌}
use native.Mathlib.Omega.{arith}
use mathlib.Core.Path.{◌≡◌, sym, ◌∙◌, subst}
use mathlib.Core.Logic.{◌⊎◌, inl, inr}
use mathlib.Core.List.{List}
use lib.ListN.{length, get_or, set, length-set}
use lib.Seq.{get_or-set_same, get_or-set_other}
use lib.Ieee.{Float}
use Rattle.numbers.proofs.Truth.{below_or_not}
use Rattle.trapezoid.specs.Strip.{strip_at}
use Rattle.index.specs.declared.Index.{Index}
use Rattle.index.specs.Buckets.{bucket_in}
use Rattle.enter.specs.span_marks.inner.NewEntries.{one, new_in}
use Rattle.enter.proofs.span_marks.NewIn.{one_inside, one_outside, new_none, new-next}

-- a mark and the next bucket's new entries make the count and the bucket's own: of the strips before i
abbrev pub Marking : Index → List Float → ℕ → ℕ → ℕ → ℕ → ℕ → List ℕ → Type 0
Marking ix standing from to i first end m = (b : ℕ) → first ≤ b → b < end → get_or m b 0 + length (new_in ix standing (i - from) from (b + 1)) ≡ to - from + length (new_in ix standing (i - from) from b)

pub marking_none : (ix : Index) (standing : List Float) (from to first end : ℕ) (m : List ℕ) → ((b : ℕ) → first ≤ b → b < end → get_or m b 0 ≡ to - from) → Marking ix standing from to from first end m
marking_none ix standing from to first end m f b h l =
    let z : from - from ≡ 0 = omega arith in
    let x = new_none ix standing from (b + 1) in
    let y = new_none ix standing from b in
    let e = f b h l in
    subst (λ (k : ℕ). get_or m b 0 + length (new_in ix standing k from (b + 1)) ≡ to - from + length (new_in ix standing k from b)) (sym z) (omega arith)

pub marking_turn : (ix : Index) (standing : List Float) (from to i first end lo hi : ℕ) (m m' : List ℕ) → from ≤ i → lo ≡ bucket_in ix (strip_at standing i).x0 → hi ≡ bucket_in ix (strip_at standing i).x1
    → ((b : ℕ) → first ≤ b → get_or m' b 0 + one lo hi (b + 1) ≡ get_or m b 0 + one lo hi b) → Marking ix standing from to i first end m → Marking ix standing from to (i + 1) first end m'
marking_turn ix standing from to i first end lo hi m m' h x y f K b a l =
    let u = new-next ix standing from i lo hi (b + 1) h x y in
    let v = new-next ix standing from i lo hi b h x y in
    let e = f b a in
    let k = K b a l in
    omega arith

-- the mark before a strip's first bucket is not its last bucket's
pub mark_before : (m : List ℕ) (lo hi v : ℕ) → lo ≤ hi → 0 < lo → 0 < get_or m (lo - 1) 0 → 1 ≤ get_or (set m hi v) (lo - 1) 0
mark_before m lo hi v h a p = let e = get_or-set_other m hi (lo - 1) v 0 (λ q. no q) in omega arith
  where
    no : lo - 1 ≡ hi → ⊥
    no q = omega arith

-- one bucket more or less, at its two ends only
module _ (lo hi : ℕ) (h : lo ≤ hi) where
  level : (b : ℕ) → (b < lo - 1) ⊎ (lo ≤ b) → (b ≡ hi → ⊥) → one lo hi (b + 1) ≡ one lo hi b
  level b (inl a) n = one_outside lo hi (b + 1) (λ p q. no p) ∙ sym (one_outside lo hi b (λ p q. nor p))
    where
      no : lo ≤ b + 1 → ⊥
      no p = omega arith

      nor : lo ≤ b → ⊥
      nor p = omega arith
  level b (inr a) n = go (below_or_not b hi)
    where
      go : (b < hi) ⊎ (hi ≤ b) → one lo hi (b + 1) ≡ one lo hi b
      go (inl l) = one_inside lo hi (b + 1) (omega arith) (omega arith) ∙ sym (one_inside lo hi b a (omega arith))
      go (inr l) = one_outside lo hi (b + 1) (λ p q. no q) ∙ sym (one_outside lo hi b (λ p q. n (omega arith)))
        where
          no : b + 1 ≤ hi → ⊥
          no q = omega arith

  rises : one lo hi hi ≡ one lo hi (hi + 1) + 1
  rises = let a = one_inside lo hi hi h (native.Mathlib.Nat.le_refl hi) in let b = one_outside lo hi (hi + 1) (λ p q. no q) in omega arith
    where
      no : hi + 1 ≤ hi → ⊥
      no q = omega arith

  falls : 0 < lo → one lo hi (lo - 1 + 1) ≡ one lo hi (lo - 1) + 1
  falls p = let a = one_inside lo hi (lo - 1 + 1) (omega arith) (omega arith) in let b = one_outside lo hi (lo - 1) (λ x q. no x) in omega arith
    where
      no : lo ≤ lo - 1 → ⊥
      no q = omega arith

pub mark_last : (m : List ℕ) (lo hi first : ℕ) → lo ≤ hi → lo ≤ first → hi < length m → (b : ℕ) → first ≤ b → get_or (set m hi (get_or m hi 0 + 1)) b 0 + one lo hi (b + 1) ≡ get_or m b 0 + one lo hi b
mark_last m lo hi first h f w b a = go (below_or_not b hi) (below_or_not hi b)
  where
    not_last : (b < hi) ⊎ (hi < b) → b ≡ hi → ⊥
    not_last (inl l) q = omega arith
    not_last (inr l) q = omega arith

    other : (b < hi) ⊎ (hi < b) → get_or (set m hi (get_or m hi 0 + 1)) b 0 + one lo hi (b + 1) ≡ get_or m b 0 + one lo hi b
    other d = let e = get_or-set_other m hi b (get_or m hi 0 + 1) 0 (not_last d) in let v = level lo hi h b (inr (omega arith)) (not_last d) in omega arith

    go : (b < hi) ⊎ (hi ≤ b) → (hi < b) ⊎ (b ≤ hi) → get_or (set m hi (get_or m hi 0 + 1)) b 0 + one lo hi (b + 1) ≡ get_or m b 0 + one lo hi b
    go (inl l) r = other (inl l)
    go (inr l) (inl r) = other (inr r)
    go (inr l) (inr r) =
        let q : hi ≡ b = omega arith in
        subst (λ (k : ℕ). get_or (set m hi (get_or m hi 0 + 1)) k 0 + one lo hi (k + 1) ≡ get_or m k 0 + one lo hi k) q (let e = get_or-set_same m hi (get_or m hi 0 + 1) 0 w in let v = rises lo hi h in omega arith)

pub mark_both : (m : List ℕ) (lo hi first : ℕ) → lo ≤ hi → first < lo → hi < length m → 0 < get_or m (lo - 1) 0
    → (b : ℕ) → first ≤ b → get_or (set (set m hi (get_or m hi 0 + 1)) (lo - 1) (get_or (set m hi (get_or m hi 0 + 1)) (lo - 1) 0 - 1)) b 0 + one lo hi (b + 1) ≡ get_or m b 0 + one lo hi b
mark_both m lo hi first h f w p b a = go (below_or_not b (lo - 1)) (below_or_not (lo - 1) b) (below_or_not b hi) (below_or_not hi b)
  where
    n : List ℕ
    n = set m hi (get_or m hi 0 + 1)

    size : lo - 1 < length n
    size = let z = length-set m hi (get_or m hi 0 + 1) in omega arith

    apart : get_or n (lo - 1) 0 ≡ get_or m (lo - 1) 0
    apart = get_or-set_other m hi (lo - 1) (get_or m hi 0 + 1) 0 (λ q. no q)
      where
        no : lo - 1 ≡ hi → ⊥
        no q = omega arith

    is : ℕ → Type 0
    is k = get_or (set n (lo - 1) (get_or n (lo - 1) 0 - 1)) k 0 + one lo hi (k + 1) ≡ get_or m k 0 + one lo hi k

    first-end : is (lo - 1)
    first-end = let e = get_or-set_same n (lo - 1) (get_or n (lo - 1) 0 - 1) 0 size in let v = falls lo hi h (omega arith) in let z = apart in omega arith

    last_end : is hi
    last_end = let e = get_or-set_other n (lo - 1) hi (get_or n (lo - 1) 0 - 1) 0 (λ q. no q) in let s = get_or-set_same m hi (get_or m hi 0 + 1) 0 w in let v = rises lo hi h in omega arith
      where
        no : hi ≡ lo - 1 → ⊥
        no q = omega arith

    other : (b < lo - 1) ⊎ (lo ≤ b) → (b ≡ hi → ⊥) → (b ≡ lo - 1 → ⊥) → is b
    other d x y = let e = get_or-set_other n (lo - 1) b (get_or n (lo - 1) 0 - 1) 0 y in let s = get_or-set_other m hi b (get_or m hi 0 + 1) 0 x in let v = level lo hi h b d x in omega arith

    less : (k j : ℕ) → k < j → k ≡ j → ⊥
    less k j l q = omega arith

    past : (k j : ℕ) → j < k → k ≡ j → ⊥
    past k j l q = omega arith

    go : (b < lo - 1) ⊎ (lo - 1 ≤ b) → (lo - 1 < b) ⊎ (b ≤ lo - 1) → (b < hi) ⊎ (hi ≤ b) → (hi < b) ⊎ (b ≤ hi) → is b
    go (inl l) r s t = other (inl l) (λ q. less b hi (omega arith) q) (λ q. less b (lo - 1) l q)
    go (inr l) (inr r) s t = let q : lo - 1 ≡ b = omega arith in subst is q first-end
    go (inr l) (inl r) (inl s) t = other (inr (omega arith)) (λ q. less b hi s q) (λ q. past b (lo - 1) r q)
    go (inr l) (inl r) (inr s) (inl t) = other (inr (omega arith)) (λ q. past b hi t q) (λ q. past b (lo - 1) r q)
    go (inr l) (inl r) (inr s) (inr t) = let q : hi ≡ b = omega arith in subst is q last_end

pub mark_not : (m : List ℕ) (lo hi first : ℕ) → hi < lo → (b : ℕ) → first ≤ b → get_or m b 0 + one lo hi (b + 1) ≡ get_or m b 0 + one lo hi b
mark_not m lo hi first h b a = let e = one_outside lo hi (b + 1) (λ p q. no (b + 1) p q) in let z = one_outside lo hi b (λ p q. no b p q) in omega arith
  where
    no : (k : ℕ) → lo ≤ k → k ≤ hi → ⊥
    no k p q = omega arith
