-- The height that the definition answers is the smallest of all doubles from y_low on that lie in no interval; where it is full there is none up to y_high; more intervals never lower it. Assumes nothing.
use Prim.Native.Nat.{ℕ, ◌≤◌, ◌<◌}
use native.Mathlib.Omega.{arith}
use mathlib.Core.Path.{◌≡◌, refl, sym, ap, ◌∙◌, subst}
use mathlib.Core.Logic.{◌⊎◌, inl, inr}
use mathlib.Core.Bool.{Bool, true, false, not, ◌&&◌, cond, true≢false}
use mathlib.Core.List.Memᴰ
use mathlib.Core.List.{List, [], ◌∷◌, map, Memᴰ}
use lib.Dec.{T}
use lib.Ieee.{Float, binary64, fits, lt, le}
use borrow.Author.Tests.{not-true}
use Rattle.numbers.specs.Numbers.{smaller, plus_zero}
use Rattle.numbers.proofs.Keys as Keys
use Rattle.numbers.proofs.Keys.{finite_real}
use Rattle.numbers.proofs.Doubles.{k, Finite, Number, finite, same}
use Rattle.numbers.proofs.Patterns.{plus-number}
use Rattle.numbers.proofs.Truth.{either, below_or_not, clash, is_true, fails, both_first, both_second}
use Rattle.index.specs.declared.Interval.{Interval}
use Rattle.index.specs.Buckets.{keep}
use Rattle.index.proofs.BucketOrder.{smaller_finite}
use Rattle.index.proofs.Flat.{mem-map, map_mem}
use Rattle.look.specs.declared.height.Look.{Look}
use Rattle.look.specs.declared.height.Look.TheVariants.{Free, Full}
use Rattle.look.specs.height.Smallest.{inside, outside, candidates, least, clear_above, free_at, lowest, height_of}
use Rattle.look.specs.height.inner.Raising.{FiniteEnd, FiniteEnds}

-- ---- tests by keys
-- a double that is no NaN
pub record Real (x : Float) : Type 0 where
  pub fit : T (fits binary64 x)
  pub is_real : T (Keys.real x)

pub real_of : {x : Float} → Finite x → Real x
real_of {x} p = record { fit = p.fit; is_real = finite_real x p.is_finite }

module _ {x y : Float} (X : Real x) (Y : Real y) where
  pub lt_is_true : lt x y ≡ true → k x < k y
  lt_is_true e = Keys.lt→key binary64 x y X.fit Y.fit (subst T (sym e) tt)

  pub lt_is_false : lt x y ≡ false → k y ≤ k x
  lt_is_false e = Keys.nlt→key binary64 x y X.fit Y.fit X.is_real Y.is_real (fails e)

  pub is_lt : k x < k y → lt x y ≡ true
  is_lt h = is_true (lt x y) (Keys.key→lt binary64 x y X.fit Y.fit X.is_real Y.is_real h)

  pub is_not-lt : k y ≤ k x → lt x y ≡ false
  is_not-lt h = go (either (lt x y))
    where
      no : k x < k y → ⊥
      no l = omega arith

      go : (lt x y ≡ true) ⊎ (lt x y ≡ false) → lt x y ≡ false
      go (inl e) = absurd (no (lt_is_true e))
      go (inr e) = e

  pub le_is_true : le x y ≡ true → k x ≤ k y
  le_is_true e = Keys.le→key binary64 x y X.fit Y.fit (subst T (sym e) tt)

  pub le_is_false : le x y ≡ false → k y < k x
  le_is_false e = Keys.nle→key binary64 x y X.fit Y.fit X.is_real Y.is_real (fails e)

  pub is_le : k x ≤ k y → le x y ≡ true
  is_le h = is_true (le x y) (Keys.key→le binary64 x y X.fit Y.fit X.is_real Y.is_real h)

both : (a b : Bool) → a ≡ true → b ≡ true → (a && b) ≡ true
both a b p q = rw (p, q)

-- an interval whose ends are no NaNs
pub record RealEnd (i : Interval) : Type 0 where
  pub from : Real i.from
  pub to : Real i.to

pub real-end : {i : Interval} → FiniteEnd i → RealEnd i
real-end I = record { from = real_of I.from; to = real_of I.to }

module _ {y : Float} {i : Interval} (Y : Real y) (I : RealEnd i) where
  pub inside-key : inside y i ≡ true → (k i.from < k y) × (k y < k i.to)
  unfolding inside
  inside-key h = (lt_is_true I.from Y (both_first (lt i.from y) (lt y i.to) h), lt_is_true Y I.to (both_second (lt i.from y) (lt y i.to) h))

  pub key-inside : k i.from < k y → k y < k i.to → inside y i ≡ true
  unfolding inside
  key-inside h l = both (lt i.from y) (lt y i.to) (is_lt I.from Y h) (is_lt Y I.to l)

-- ---- `outside` and `keep` by membership
pub outside_of : (is : List Interval) (z : Float) → outside is z ≡ true → (i : Interval) → Memᴰ i is → inside z i ≡ false
unfolding outside
outside_of [] z c i m = absurd (Memᴰ.not-nil m)
outside_of (j ∷ is) z c i m = go (λ d n. outside_of is z d i n) (either (inside z j)) (Memᴰ.cases_cons m)
  where
    go : (outside is z ≡ true → Memᴰ i is → inside z i ≡ false) → (inside z j ≡ true) ⊎ (inside z j ≡ false) → (i ≡ j) ⊎ Memᴰ i is → inside z i ≡ false
    go below (inl t) e = absurd (true≢false (sym c ∙ rw t))
    go below (inr t) (inl e) = ap (inside z) e ∙ t
    go below (inr t) (inr n) = below (rw t at c) n

pub of_outside : (is : List Interval) (z : Float) → ((i : Interval) → Memᴰ i is → inside z i ≡ false) → outside is z ≡ true
unfolding outside
of_outside [] z h = refl
of_outside (j ∷ is) z h = rw (h j (Memᴰ.head refl), of_outside is z (λ i m. h i (Memᴰ.tail m)))

-- what no interval can hold is outside
none_inside : (is : List Interval) (z : Float) → ((i : Interval) → Memᴰ i is → inside z i ≡ true → ⊥) → outside is z ≡ true
none_inside is z h = of_outside is z (λ i m. go i (h i m) (either (inside z i)))
  where
    go : (i : Interval) → (inside z i ≡ true → ⊥) → (inside z i ≡ true) ⊎ (inside z i ≡ false) → inside z i ≡ false
    go i n (inl e) = absurd (n e)
    go i n (inr e) = e

-- doubles of one key are in the same intervals
pub same-outside : (is : List Interval) (x y : Float) → FiniteEnds is → Real x → Real y → k x ≡ k y → outside is x ≡ true → outside is y ≡ true
same-outside is x y F X Y e o = none_inside is y (λ i m t. (let a = inside-key Y (real-end (F i m)) t in clash (key-inside X (real-end (F i m)) (omega (arith, a.0)) (omega (arith, a.1))) (outside_of is x o i m)))

module _ {A : Type 0} (test : A → Bool) where
  pub keep_mem : (a : A) (bs : List A) → Memᴰ a (keep test bs) → Memᴰ a bs × (test a ≡ true)
  unfolding keep
  keep_mem a [] m = absurd (Memᴰ.not-nil m)
  keep_mem a (b ∷ bs) m = go (keep_mem a bs) (either (test b))
    where
      tailed : Memᴰ a bs × (test a ≡ true) → Memᴰ a (b ∷ bs) × (test a ≡ true)
      tailed h = (Memᴰ.tail h.0, h.1)

      first : (Memᴰ a (keep test bs) → Memᴰ a bs × (test a ≡ true)) → test b ≡ true → (a ≡ b) ⊎ Memᴰ a (keep test bs) → Memᴰ a (b ∷ bs) × (test a ≡ true)
      first below t (inl e) = (Memᴰ.head e, ap test e ∙ t)
      first below t (inr n) = tailed (below n)

      go : (Memᴰ a (keep test bs) → Memᴰ a bs × (test a ≡ true)) → (test b ≡ true) ⊎ (test b ≡ false) → Memᴰ a (b ∷ bs) × (test a ≡ true)
      go below (inl t) = first below t (Memᴰ.cases_cons (rw (Rattle.index.proofs.Steps.keep_yes test b bs t) at m))
      go below (inr t) = tailed (below (rw (Rattle.index.proofs.Steps.keep_no test b bs t) at m))

  pub mem_keep : (a : A) (bs : List A) → Memᴰ a bs → test a ≡ true → Memᴰ a (keep test bs)
  mem_keep a [] m t = absurd (Memᴰ.not-nil m)
  mem_keep a (b ∷ bs) m t = go (λ n. mem_keep a bs n t) (either (test b)) (Memᴰ.cases_cons m)
    where
      go : (Memᴰ a bs → Memᴰ a (keep test bs)) → (test b ≡ true) ⊎ (test b ≡ false) → (a ≡ b) ⊎ Memᴰ a bs → Memᴰ a (keep test (b ∷ bs))
      go below (inl u) (inl e) = rw (Rattle.index.proofs.Steps.keep_yes test b bs u) (Memᴰ.head e)
      go below (inl u) (inr n) = rw (Rattle.index.proofs.Steps.keep_yes test b bs u) (Memᴰ.tail (below n))
      go below (inr u) (inl e) = absurd (clash (ap test (sym e) ∙ t) u)
      go below (inr u) (inr n) = rw (Rattle.index.proofs.Steps.keep_no test b bs u) (below n)

-- ---- of some doubles, the greatest up to a bound; and the least
pub greatest : (K : ℕ) (a : Float) (bs : List Float) → k a ≤ K → (c : Float) × Memᴰ c (a ∷ bs) × (k c ≤ K) × ((d : Float) → Memᴰ d (a ∷ bs) → k d ≤ K → k d ≤ k c)
greatest K a [] h = (a, Memᴰ.head refl, h, λ d m l. (go d (Memᴰ.cases_cons m)))
  where
    go : (d : Float) → (d ≡ a) ⊎ Memᴰ d [] → k d ≤ k a
    go d (inl e) = rw e (native.Mathlib.Nat.le_refl (k a))
    go d (inr m) = absurd (Memᴰ.not-nil m)
greatest K a (b ∷ bs) h = go (greatest K a bs h) (below_or_not (k (greatest K a bs h).0) (k b)) (below_or_not K (k b))
  where
    old : (r : (c : Float) × Memᴰ c (a ∷ bs) × (k c ≤ K) × ((d : Float) → Memᴰ d (a ∷ bs) → k d ≤ K → k d ≤ k c)) → (c : Float) → Memᴰ c (a ∷ bs) → (c ≡ a) ⊎ Memᴰ c bs → Memᴰ c (a ∷ b ∷ bs)
    old r c m (inl e) = Memᴰ.head e
    old r c m (inr n) = Memᴰ.tail (Memᴰ.tail n)

    split : (d : Float) → Memᴰ d (a ∷ b ∷ bs) → (d ≡ b) ⊎ Memᴰ d (a ∷ bs)
    split d m = at (Memᴰ.cases_cons m)
      where
        next : (d ≡ b) ⊎ Memᴰ d bs → (d ≡ b) ⊎ Memᴰ d (a ∷ bs)
        next (inl e) = inl e
        next (inr n) = inr (Memᴰ.tail n)

        at : (d ≡ a) ⊎ Memᴰ d (b ∷ bs) → (d ≡ b) ⊎ Memᴰ d (a ∷ bs)
        at (inl e) = inr (Memᴰ.head e)
        at (inr n) = next (Memᴰ.cases_cons n)

    go : (r : (c : Float) × Memᴰ c (a ∷ bs) × (k c ≤ K) × ((d : Float) → Memᴰ d (a ∷ bs) → k d ≤ K → k d ≤ k c)) → (k r.0 < k b) ⊎ (k b ≤ k r.0) → (K < k b) ⊎ (k b ≤ K) → (c : Float) × Memᴰ c (a ∷ b ∷ bs) × (k c ≤ K) × ((d : Float) → Memᴰ d (a ∷ b ∷ bs) → k d ≤ K → k d ≤ k c)
    go r (inl l) (inr h) = (b, Memᴰ.tail (Memᴰ.head refl), h, λ d m g. other d g (split d m))
      where
        other : (d : Float) → k d ≤ K → (d ≡ b) ⊎ Memᴰ d (a ∷ bs) → k d ≤ k b
        other d g (inl e) = rw e (native.Mathlib.Nat.le_refl (k b))
        other d g (inr n) = let z = r.3 d n g in omega arith
    go r (inr l) t = (r.0, old r r.0 r.1 (Memᴰ.cases_cons r.1), r.2, λ d m g. other d g (split d m))
      where
        other : (d : Float) → k d ≤ K → (d ≡ b) ⊎ Memᴰ d (a ∷ bs) → k d ≤ k r.0
        other d g (inl e) = rw e l
        other d g (inr n) = r.3 d n g
    go r (inl l) (inl t) = (r.0, old r r.0 r.1 (Memᴰ.cases_cons r.1), r.2, λ d m g. other d g (split d m))
      where
        no : (d : Float) → d ≡ b → k d ≤ K → ⊥
        no d e g = let z : k d ≡ k b = ap k e in omega arith

        other : (d : Float) → k d ≤ K → (d ≡ b) ⊎ Memᴰ d (a ∷ bs) → k d ≤ k r.0
        other d g (inl e) = absurd (no d e g)
        other d g (inr n) = r.3 d n g

smaller_is : (a b : Float) → (smaller a b ≡ a) ⊎ (smaller a b ≡ b)
unfolding smaller
smaller_is a b = go (lt b a)
  where
    go : (t : Bool) → (cond t b a ≡ a) ⊎ (cond t b a ≡ b)
    go true = inr refl
    go false = inl refl

pub least_is : (a : Float) (bs : List Float) → Memᴰ (least a bs) (a ∷ bs)
unfolding least
least_is a [] = Memᴰ.head refl
least_is a (b ∷ bs) = go (Memᴰ.cases_cons (least_is (smaller a b) bs))
  where
    pick : least (smaller a b) bs ≡ smaller a b → (smaller a b ≡ a) ⊎ (smaller a b ≡ b) → Memᴰ (least (smaller a b) bs) (a ∷ b ∷ bs)
    pick e (inl f) = Memᴰ.head (e ∙ f)
    pick e (inr f) = Memᴰ.tail (Memᴰ.head (e ∙ f))

    go : (least (smaller a b) bs ≡ smaller a b) ⊎ Memᴰ (least (smaller a b) bs) bs → Memᴰ (least (smaller a b) bs) (a ∷ b ∷ bs)
    go (inl e) = pick e (smaller_is a b)
    go (inr m) = Memᴰ.tail (Memᴰ.tail m)

pub least_bottom : (a : Float) (bs : List Float) → ((d : Float) → Memᴰ d (a ∷ bs) → Finite d) → (d : Float) → Memᴰ d (a ∷ bs) → k (least a bs) ≤ k d
unfolding least
least_bottom a [] f d m = go (Memᴰ.cases_cons m)
  where
    go : (d ≡ a) ⊎ Memᴰ d [] → k a ≤ k d
    go (inl e) = rw e (native.Mathlib.Nat.le_refl (k a))
    go (inr n) = absurd (Memᴰ.not-nil n)
least_bottom a (b ∷ bs) f d m = go (least_bottom (smaller a b) bs (λ e n. fs e (Memᴰ.cases_cons n))) (Memᴰ.cases_cons m)
  where
    s : Finite (smaller a b) × (k (smaller a b) ≡ Prim.Native.Nat.min (k a) (k b))
    s = smaller_finite (f a (Memᴰ.head refl)) (f b (Memᴰ.tail (Memᴰ.head refl)))

    fs : (e : Float) → (e ≡ smaller a b) ⊎ Memᴰ e bs → Finite e
    fs e (inl q) = rw q s.0
    fs e (inr n) = f e (Memᴰ.tail (Memᴰ.tail n))

    rest : ((e : Float) → Memᴰ e (smaller a b ∷ bs) → k (least (smaller a b) bs) ≤ k e) → (d ≡ b) ⊎ Memᴰ d bs → k (least (smaller a b) bs) ≤ k d
    rest h (inl q) = let z = h (smaller a b) (Memᴰ.head refl) in let w : k d ≡ k b = ap k q in omega (arith, s.1)
    rest h (inr n) = h d (Memᴰ.tail n)

    go : ((e : Float) → Memᴰ e (smaller a b ∷ bs) → k (least (smaller a b) bs) ≤ k e) → (d ≡ a) ⊎ Memᴰ d (b ∷ bs) → k (least (smaller a b) bs) ≤ k d
    go h (inl q) = let z = h (smaller a b) (Memᴰ.head refl) in let w : k d ≡ k a = ap k q in omega (arith, s.1)
    go h (inr n) = rest h (Memᴰ.cases_cons n)

-- ---- what the definition answers
-- h is the smallest of all doubles from y-low on that lie in no interval, and at most y-high
pub record Smallest (y_low y_high : Float) (is : List Interval) (h : Float) : Type 0 where
  pub number : Number h
  pub from : k y_low ≤ k h
  pub upto : k h ≤ k y_high
  pub out : outside is h ≡ true
  pub first : (z : Float) → Real z → k y_low ≤ k z → outside is z ≡ true → k h ≤ k z

-- no double from y-low to y-high lies in no interval
abbrev pub NoneFree : Float → Float → List Interval → Type 0
NoneFree y_low y_high is = (z : Float) → Real z → k y_low ≤ k z → k z ≤ k y_high → outside is z ≡ true → ⊥

free≢full : {y g : Float} → Free y g ≡ Full → ⊥
free≢full e = let z : ◌≡◌ {A = ℕ} 0 1 = cc in omega arith

pub lowest_full : (yh : Float) (is : List Interval) (cs : List Float) → lowest yh is cs ≡ Full → (c : Float) → Memᴰ c cs → ⊥
unfolding lowest free_at
lowest_full yh is [] e c m = Memᴰ.not-nil m
lowest_full yh is (d ∷ cs) e c m = free≢full e

lowest_free : (yh : Float) (is : List Interval) (cs : List Float) (h g : Float) → lowest yh is cs ≡ Free h g → ((d : Float) → Memᴰ d cs → Finite d)
    → (c : Float) × Memᴰ c cs × (h ≡ plus_zero c) × ((d : Float) → Memᴰ d cs → k c ≤ k d) × (g ≡ clear_above yh is h)
unfolding lowest free_at
lowest_free yh is [] h g e f = absurd (free≢full (sym e))
lowest_free yh is (d ∷ cs) h g e f =
    let z : plus_zero (least d cs) ≡ h = cc in
    let y : clear_above yh is (plus_zero (least d cs)) ≡ g = cc in
    (least d cs, least_is d cs, sym z, least_bottom d cs f, sym y ∙ ap (clear_above yh is) z)

-- ---- candidates, where no end is a NaN
module _ (yl : Float) (is : List Interval) (L : Real yl) (E : (i : Interval) → Memᴰ i is → RealEnd i) where
  pub candidate_is : (c : Float) → Memᴰ c (candidates yl is) → ((c ≡ yl) ⊎ ((i : Interval) × Memᴰ i is × (c ≡ i.to))) × (k yl ≤ k c)
  unfolding candidates
  candidate_is c m = go (Memᴰ.cases_cons m)
    where
      top : ((i : Interval) × Memᴰ i is × (c ≡ i.to)) → not (lt c yl) ≡ true → ((c ≡ yl) ⊎ ((i : Interval) × Memᴰ i is × (c ≡ i.to))) × (k yl ≤ k c)
      top t e = let R : Real c = rw t.2 (E t.0 t.1).to in (inr t, lt_is_false R L (not-true (lt c yl) e))

      go : (c ≡ yl) ⊎ Memᴰ c (keep (λ t. not (lt t yl)) (map (λ i. i.to) is)) → ((c ≡ yl) ⊎ ((i : Interval) × Memᴰ i is × (c ≡ i.to))) × (k yl ≤ k c)
      go (inl e) = (inl e, rw e (native.Mathlib.Nat.le_refl (k yl)))
      go (inr n) = let w = keep_mem (λ t. not (lt t yl)) c (map (λ i. i.to) is) n in top (map_mem (λ i. i.to) c is w.0) w.1

  pub candidate_real : (c : Float) → Memᴰ c (candidates yl is) → Real c × (k yl ≤ k c)
  candidate_real c m = let t = candidate_is c m in (elim t.0 [ inl e ↦ rw e L | inr i ↦ rw i.2 (E i.0 i.1).to ], t.1)

  top_candidate : (i : Interval) → Memᴰ i is → k yl ≤ k i.to → Memᴰ i.to (candidates yl is)
  unfolding candidates
  top_candidate i m h = Memᴰ.tail (mem_keep (λ t. not (lt t yl)) i.to (map (λ i. i.to) is) (mem-map (λ i. i.to) i is m) (rw (is_not-lt (E i m).to L h)))

  -- at or below a double that lies in no interval there is a candidate that lies in none
  pub nearest : (z : Float) → Real z → k yl ≤ k z → outside is z ≡ true → (c : Float) × Memᴰ c (candidates yl is) × (k c ≤ k z) × (outside is c ≡ true)
  nearest z Z h o = (b.0, mem, b.2, none_inside is b.0 (λ i m t. stuck i m (inside-key (candidate_real b.0 mem).0 (E i m) t) (below_or_not (k z) (k i.to))))
    where
      b : (c : Float) × Memᴰ c (yl ∷ keep (λ t. not (lt t yl)) (map (λ i. i.to) is)) × (k c ≤ k z) × ((d : Float) → Memᴰ d (yl ∷ keep (λ t. not (lt t yl)) (map (λ i. i.to) is)) → k d ≤ k z → k d ≤ k c)
      b = greatest (k z) yl (keep (λ t. not (lt t yl)) (map (λ i. i.to) is)) h

      mem : Memᴰ b.0 (candidates yl is)
      mem = unfold candidates in b.1

      as_candidate : (d : Float) → Memᴰ d (candidates yl is) → k d ≤ k z → k d ≤ k b.0
      as_candidate d m l = b.3 d (unfold candidates in m) l

      stuck : (i : Interval) → Memᴰ i is → (k i.from < k b.0) × (k b.0 < k i.to) → (k z < k i.to) ⊎ (k i.to ≤ k z) → ⊥
      stuck i m t (inl l) = clash (key-inside Z (E i m) (let q = b.2 in omega (arith, t.0)) l) (outside_of is z o i m)
      stuck i m t (inr l) = let c = (candidate_real b.0 mem).1 in let q = as_candidate i.to (top_candidate i m (omega (arith, t.1))) l in no (k i.to) (k b.0) q t.1
        where
          no : (p q : ℕ) → p ≤ q → q < p → ⊥
          no p q g h = omega arith

module _ (yl yh : Float) (is : List Interval) (L : Finite yl) (H : Finite yh) (F : FiniteEnds is) where
  ends : (i : Interval) → Memᴰ i is → RealEnd i
  ends i m = real-end (F i m)

  candidate : (c : Float) → Memᴰ c (candidates yl is) → Finite c × (k yl ≤ k c)
  candidate c m = let t = candidate_is yl is (real_of L) ends c m in (elim t.0 [ inl e ↦ rw e L | inr i ↦ rw i.2 (F i.0 i.1).to ], t.1)

  abbrev heights : List Float
  heights = keep (λ c. le c yh && outside is c) (candidates yl is)

  of_heights : (c : Float) → Memᴰ c heights → Finite c × (k yl ≤ k c) × (k c ≤ k yh) × (outside is c ≡ true)
  of_heights c m =
      let w = keep_mem (λ c. le c yh && outside is c) c (candidates yl is) m in
      let d = candidate c w.0 in
      (d.0, d.1, le_is_true (real_of d.0) (real_of H) (both_first (le c yh) (outside is c) w.1), both_second (le c yh) (outside is c) w.1)

  some_height : (z : Float) → Real z → k yl ≤ k z → k z ≤ k yh → outside is z ≡ true → (c : Float) × Memᴰ c heights × (k c ≤ k z)
  some_height z Z h l o =
      let c = nearest yl is (real_of L) ends z Z h o in
      (c.0, mem_keep (λ c. le c yh && outside is c) c.0 (candidates yl is) c.1 (both (le c.0 yh) (outside is c.0) (is_le (real_of (candidate c.0 c.1).0) (real_of H) (let q = c.2 in omega arith)) c.3), c.2)

  pub height_full : height_of yl yh is ≡ Full → NoneFree yl yh is
  unfolding height_of
  height_full e z Z h l o = let c = some_height z Z h l o in lowest_full yh is heights e c.0 c.1

  pub height_clear : (h g : Float) → height_of yl yh is ≡ Free h g → g ≡ clear_above yh is h
  unfolding height_of
  height_clear h g e = (lowest_free yh is heights h g e (λ d m. (of_heights d m).0)).4

  pub height_free : (h g : Float) → height_of yl yh is ≡ Free h g → Smallest yl yh is h
  unfolding height_of
  height_free h g e = rw w.2 (record {
    number = p.0;
    from = omega (arith, p.1, n.1);
    upto = omega (arith, p.1, n.2);
    out = same-outside is w.0 (plus_zero w.0) F (real_of n.0) (real_of (finite p.0)) (sym p.1) n.3;
    first = λ z Z g o. first z Z g o (below_or_not (k yh) (k z));
  })
    where
      w : (c : Float) × Memᴰ c heights × (h ≡ plus_zero c) × ((d : Float) → Memᴰ d heights → k c ≤ k d) × (g ≡ clear_above yh is h)
      w = lowest_free yh is heights h g e (λ d m. (of_heights d m).0)

      n : Finite w.0 × (k yl ≤ k w.0) × (k w.0 ≤ k yh) × (outside is w.0 ≡ true)
      n = of_heights w.0 w.1

      p : Number (plus_zero w.0) × (k (plus_zero w.0) ≡ k w.0)
      p = plus-number w.0 n.0

      first : (z : Float) → Real z → k yl ≤ k z → outside is z ≡ true → (k yh < k z) ⊎ (k z ≤ k yh) → k (plus_zero w.0) ≤ k z
      first z Z g o (inl l) = omega (arith, p.1, n.2)
      first z Z g o (inr l) = let c = some_height z Z g l o in let q = w.3 c.0 c.1 in let r = c.2 in omega (arith, p.1)

  -- ---- and only that
  pub free_height : (h : Float) → Smallest yl yh is h → height_of yl yh is ≡ Free h (clear_above yh is h)
  free_height h S = go (height_of yl yh is) refl
    where
      go : (l : Look) → height_of yl yh is ≡ l → l ≡ Free h (clear_above yh is h)
      go Full e = absurd (height_full e h (real_of (finite S.number)) S.from S.upto S.out)
      go (Free g c) e =
          let G = height_free g c e in
          let a = G.first h (real_of (finite S.number)) S.from S.out in
          let b = S.first g (real_of (finite G.number)) G.from G.out in
          let q : g ≡ h = same G.number S.number (omega arith) in
          ap (Free g) (height_clear g c e) ∙ ap (λ (z : Float). Free z (clear_above yh is z)) q

  pub full_height : NoneFree yl yh is → height_of yl yh is ≡ Full
  full_height N = go (height_of yl yh is) refl
    where
      go : (l : Look) → height_of yl yh is ≡ l → l ≡ Full
      go Full e = refl
      go (Free g c) e = let G = height_free g c e in absurd (N g (real_of (finite G.number)) G.from G.upto G.out)
