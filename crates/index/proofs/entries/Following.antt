-- Laws of the walk. Assumes nothing.
use Rattle.std.specs.Prelude.{Option, Some, None}
use Prim.Native.Nat.{ℕ, suc, ◌+◌, ◌-◌, ◌<◌, ◌≤◌}
use native.Mathlib.Omega.{arith}
use native.Mathlib.Numerals.{add-one}
use mathlib.Core.Path.{◌≡◌, refl, sym, ap, ◌∙◌}
use mathlib.Core.Logic.{◌⊎◌, inl, inr}
use mathlib.Core.Bool.{Bool, true, false, true≢false}
use mathlib.Core.List.{List, [], ◌∷◌, ◌++◌}
use lib.ListN.{length, get_or}
use lib.Seq.{slice, slice-cons, slice_empty}
use lib.Dec.{ltb, eqb}
use borrow.Author.Tests.{lt-ltb, le-ltb, eq-eqb, ne_eqb}
use Rattle.numbers.proofs.Truth.{either}
use Rattle.index.specs.Buckets.{up_from, keep}
use Rattle.index.specs.entries.inner.Walk.{follows}

unfoldable pub and_then : Option ℕ → (ℕ → Option ℕ) → Option ℕ
and_then (Some e) f = f e
and_then None f = None

pub follows_on : (es : List ℕ) (e i : ℕ) (is : List ℕ) → e < length es → get_or es e 0 ≡ i → follows es e (i ∷ is) ≡ follows es (e + 1) is
unfolding follows
follows_on es e i is h q = rw (lt-ltb e (length es) h, eq-eqb (get_or es e 0) i q, follows)

pub follows_short : (es : List ℕ) (e i : ℕ) (is : List ℕ) → length es ≤ e → follows es e (i ∷ is) ≡ None
unfolding follows
follows_short es e i is h = rw (le-ltb e (length es) h, follows)

pub follows-other : (es : List ℕ) (e i : ℕ) (is : List ℕ) → e < length es → (get_or es e 0 ≡ i → ⊥) → follows es e (i ∷ is) ≡ None
unfolding follows
follows-other es e i is h q = rw (lt-ltb e (length es) h, ne_eqb (get_or es e 0) i q, follows)

pub follows-none : (es : List ℕ) (e : ℕ) → follows es e [] ≡ Some e
unfolding follows
follows-none es e = refl

cases : (es : List ℕ) (e i : ℕ) → ((e < length es) × (get_or es e 0 ≡ i)) ⊎ ((is : List ℕ) → follows es e (i ∷ is) ≡ None)
cases es e i = go (ltb e (length es)) (lib.Dec.ltb→lt e (length es)) (lib.Dec.nltb→le e (length es)) (eqb (get_or es e 0) i) (lib.Dec.eqb→eq (get_or es e 0) i) (λ (t : eqb (get_or es e 0) i ≡ false) (q : get_or es e 0 ≡ i). true≢false (sym (eq-eqb (get_or es e 0) i q) ∙ t)) refl
  where
    go : (t : Bool) → (lib.Dec.T t → e < length es) → (lib.Dec.T (mathlib.Core.Bool.not t) → length es ≤ e) → (u : Bool) → (lib.Dec.T u → get_or es e 0 ≡ i) → (eqb (get_or es e 0) i ≡ false → get_or es e 0 ≡ i → ⊥) → eqb (get_or es e 0) i ≡ u
        → ((e < length es) × (get_or es e 0 ≡ i)) ⊎ ((is : List ℕ) → follows es e (i ∷ is) ≡ None)
    go true f g true a b c = inl (f tt, a tt)
    go true f g false a b c = inr (λ is. follows-other es e i is (f tt) (b c))
    go false f g u a b c = inr (λ is. follows_short es e i is (g tt))

pub follows_append : (es : List ℕ) (xs ys : List ℕ) (e : ℕ) → follows es e (xs ++ ys) ≡ and_then (follows es e xs) (λ f. follows es f ys)
unfolding and_then
follows_append es [] ys e = rw (follows-none es e)
follows_append es (x ∷ xs) ys e = go (follows_append es xs ys (e + 1)) (cases es e x)
  where
    go : follows es (e + 1) (xs ++ ys) ≡ and_then (follows es (e + 1) xs) (λ f. follows es f ys) → ((e < length es) × (get_or es e 0 ≡ x)) ⊎ ((is : List ℕ) → follows es e (x ∷ is) ≡ None) → follows es e (x ∷ (xs ++ ys)) ≡ and_then (follows es e (x ∷ xs)) (λ f. follows es f ys)
    go below (inl t) = follows_on es e x (xs ++ ys) t.0 t.1 ∙ (below ∙ ap (λ (w : Option ℕ). and_then w (λ f. follows es f ys)) (sym (follows_on es e x xs t.0 t.1)))
    go below (inr t) = t (xs ++ ys) ∙ ap (λ (w : Option ℕ). and_then w (λ f. follows es f ys)) (sym (t xs))

pub then_at : (es : List ℕ) (xs ys : List ℕ) (e f : ℕ) → follows es e xs ≡ Some f → follows es e (xs ++ ys) ≡ follows es f ys
unfolding and_then
then_at es xs ys e f h = follows_append es xs ys e ∙ ap (λ (w : Option ℕ). and_then w (λ f. follows es f ys)) h

pub then_wrong : (es : List ℕ) (xs ys : List ℕ) (e : ℕ) → follows es e xs ≡ None → follows es e (xs ++ ys) ≡ None
unfolding and_then
then_wrong es xs ys e h = follows_append es xs ys e ∙ ap (λ (w : Option ℕ). and_then w (λ f. follows es f ys)) h

-- what a walk that ends has passed
pub record Passed (es : List ℕ) (e f : ℕ) (is : List ℕ) : Type 0 where
  pub on : e ≤ f
  pub end : f ≤ length es
  pub part : slice e f es ≡ is

pub passed : (es is : List ℕ) (e f : ℕ) → e ≤ length es → follows es e is ≡ Some f → Passed es e f is
passed es [] e f l h = let q : e ≡ f = cc (follows-none es e) in rw (← q) (record { on = omega arith; end = l; part = slice_empty e es })
passed es (i ∷ is) e f l h = go (λ m g. passed es is (e + 1) f m g) (cases es e i)
  where
    go : (e + 1 ≤ length es → follows es (e + 1) is ≡ Some f → Passed es (e + 1) f is) → ((e < length es) × (get_or es e 0 ≡ i)) ⊎ ((is : List ℕ) → follows es e (i ∷ is) ≡ None) → Passed es e f (i ∷ is)
    go below (inl t) =
        let p = below (omega (arith, t.0)) (sym (follows_on es e i is t.0 t.1) ∙ h) in
        let u = p.on in
        record { on = omega arith; end = p.end; part = slice-cons e f es 0 (omega arith) p.end ∙ rw (t.1, ap (λ (z : ℕ). slice z f es) (sym (add-one e)) ∙ p.part) }
    go below (inr t) = let z : ◌≡◌ {A = ℕ} 0 1 = cc (t is) in absurd (no z)
      where
        no : ◌≡◌ {A = ℕ} 0 1 → ⊥
        no z = omega arith

-- ---- the loops
up_from_on : (n i : ℕ) → i < n → up_from (n - i) i ≡ i ∷ up_from (n - (i + 1)) (i + 1)
unfolding up_from
up_from_on n i h = let e : n - i ≡ suc (n - (i + 1)) = omega arith in rw (e, add-one i)

pub keep_on : (test : ℕ → Bool) (n i : ℕ) → i < n → keep test (up_from (n - i) i) ≡ keep test (i ∷ []) ++ keep test (up_from (n - (i + 1)) (i + 1))
unfolding keep
keep_on test n i h = ap (keep test) (up_from_on n i h) ∙ go (either (test i))
  where
    go : (test i ≡ true) ⊎ (test i ≡ false) → keep test (i ∷ up_from (n - (i + 1)) (i + 1)) ≡ keep test (i ∷ []) ++ keep test (up_from (n - (i + 1)) (i + 1))
    go (inl t) = rw (t, keep)
    go (inr t) = rw (t, keep)

pub keep-end : (test : ℕ → Bool) (n i : ℕ) → n ≤ i → keep test (up_from (n - i) i) ≡ []
unfolding keep up_from
keep-end test n i h = let e : n - i ≡ 0 = omega arith in rw e

pub one_in : (test : ℕ → Bool) (i : ℕ) → test i ≡ true → keep test (i ∷ []) ≡ i ∷ []
unfolding keep
one_in test i e = rw (e, keep)

pub one_out : (test : ℕ → Bool) (i : ℕ) → test i ≡ false → keep test (i ∷ []) ≡ []
unfolding keep
one_out test i e = rw (e, keep)
