-- A pass raises y past no height that lies in no interval; where it raises nothing, y lies in none. Assumes nothing.
use Prim.Native.Nat.{ℕ, suc, ◌+◌, ◌-◌, ◌≤◌, ◌<◌}
use native.Mathlib.Omega.{arith}
use native.Mathlib.Numerals.{add-one}
use mathlib.Core.Path.{◌≡◌, refl, sym, ap, ◌∙◌, subst}
use mathlib.Core.Logic.{◌⊎◌, inl, inr}
use mathlib.Core.Bool.{Bool, true, false}
use mathlib.Core.List.Memᴰ
use mathlib.Core.List.{List, [], ◌∷◌, map, Memᴰ}
use lib.Ieee.{Float, binary64, lt, le}
use Rattle.numbers.specs.Numbers.{plus_zero}
use Rattle.numbers.proofs.Keys as Keys
use Rattle.numbers.proofs.Doubles.{k, o, Finite, finite}
use Rattle.numbers.proofs.Patterns.{plus-number}
use Rattle.numbers.proofs.Truth.{either, clash, below_or_not}
use Rattle.index.specs.declared.Interval.{Interval}
use Rattle.index.specs.Buckets.{up_from}
use Rattle.index.specs.inner.Listing.{interval_at}
use Rattle.look.specs.declared.height.Look.TheVariants.{Free, Full}
use Rattle.look.specs.height.Smallest.{inside, outside, clear_above, height_of}
use Rattle.look.specs.height.inner.Raising.{lift, raised, from_last, FiniteEnds}
use Rattle.look.proofs.height.SmallestHeight.{Real, real_of, le_is_true, inside-key, key-inside, outside_of, same-outside, free_height, full_height, real-end}

-- ---- one interval
lift-true : (y : Float) (i : Interval) → inside y i ≡ true → lift y i ≡ i.to
unfolding lift
lift-true y i e = rw (e, lift)

lift-false : (y : Float) (i : Interval) → inside y i ≡ false → lift y i ≡ y
unfolding lift
lift-false y i e = rw (e, lift)

pub lift_in : (y : Float) (i : Interval) → lt i.from y ≡ true → lt y i.to ≡ true → i.to ≡ lift y i
unfolding inside
lift_in y i a b = sym (lift-true y i (rw (a, b)))

pub lift-above : (y : Float) (i : Interval) → lt y i.to ≡ false → y ≡ lift y i
unfolding inside
lift-above y i b = sym (lift-false y i (rw b (mathlib.Core.Bool.and-false (lt i.from y))))

pub lift-below : (y : Float) (i : Interval) → lt i.from y ≡ false → y ≡ lift y i
unfolding inside
lift-below y i b = sym (lift-false y i (rw b))

-- ---- y is as far as the passes have come: no height from y-low on that lies in no interval is below it
pub record Reached (y_low : Float) (is : List Interval) (y : Float) : Type 0 where
  pub fine : Finite y
  pub from : k y_low ≤ k y
  pub first : (z : Float) → Real z → k y_low ≤ k z → outside is z ≡ true → k y ≤ k z

pub reached_start : (yl : Float) (is : List Interval) → Finite yl → Reached yl is yl
reached_start yl is L = record { fine = L; from = native.Mathlib.Nat.le_refl (k yl); first = λ z Z h o. h }

module _ (yl : Float) (is : List Interval) (F : FiniteEnds is) where
  lift_reach : (y : Float) (i : Interval) → Memᴰ i is → Reached yl is y → Reached yl is (lift y i) × (k y ≤ k (lift y i))
  lift_reach y i m R = go (either (inside y i))
    where
      up : (k i.from < k y) × (k y < k i.to) → Reached yl is i.to × (k y ≤ k i.to)
      up t = (record { fine = (F i m).to; from = (let a = R.from in omega (arith, t.1)); first = λ z Z h o. above z Z o (R.first z Z h o) (below_or_not (k z) (k i.to)) }, omega (arith, t.1))
        where
          above : (z : Float) → Real z → outside is z ≡ true → k y ≤ k z → (k z < k i.to) ⊎ (k i.to ≤ k z) → k i.to ≤ k z
          above z Z o h (inl l) = absurd (clash (key-inside Z (real-end (F i m)) (omega (arith, t.0)) l) (outside_of is z o i m))
          above z Z o h (inr l) = l

      go : (inside y i ≡ true) ⊎ (inside y i ≡ false) → Reached yl is (lift y i) × (k y ≤ k (lift y i))
      go (inl e) = rw (lift-true y i e) (up (inside-key (real_of R.fine) (real-end (F i m)) e))
      go (inr e) = rw (lift-false y i e) (R, native.Mathlib.Nat.le_refl (k y))

  pub raised_reach : (js : List Interval) → ((i : Interval) → Memᴰ i js → Memᴰ i is) → (y : Float) → Reached yl is y → Reached yl is (raised y js) × (k y ≤ k (raised y js))
  unfolding raised
  raised_reach [] w y R = (R, native.Mathlib.Nat.le_refl (k y))
  raised_reach (j ∷ js) w y R =
      let l = lift_reach y j (w j (Memᴰ.head refl)) R in
      let r = raised_reach js (λ i m. w i (Memᴰ.tail m)) (lift y j) l.0 in
      (r.0, omega (arith, l.1, r.1))

  -- where a pass does not raise y, y lies in none of its intervals
  pub still : (js : List Interval) → ((i : Interval) → Memᴰ i js → Memᴰ i is) → (y : Float) → Reached yl is y → k (raised y js) ≤ k y → (i : Interval) → Memᴰ i js → inside y i ≡ false
  unfolding raised
  still [] w y R h i m = absurd (Memᴰ.not-nil m)
  still (j ∷ js) w y R h i m = go (either (inside y j)) (Memᴰ.cases_cons m) (λ g. still js (λ a n. w a (Memᴰ.tail n)) y R g i)
    where
      no : inside y j ≡ true → ⊥
      no e =
          let t = inside-key (real_of R.fine) (real-end (F j (w j (Memᴰ.head refl)))) e in
          let l = lift_reach y j (w j (Memᴰ.head refl)) R in
          let r = raised_reach js (λ a n. w a (Memᴰ.tail n)) (lift y j) l.0 in
          let q : k (lift y j) ≡ k j.to = ap k (lift-true y j e) in
          omega (arith, t.1, r.1)

      go : (inside y j ≡ true) ⊎ (inside y j ≡ false) → (i ≡ j) ⊎ Memᴰ i js → (k (raised y js) ≤ k y → Memᴰ i js → inside y i ≡ false) → inside y i ≡ false
      go (inl e) n below = absurd (no e)
      go (inr e) (inl q) below = ap (inside y) q ∙ e
      go (inr e) (inr n) below = below (subst (λ (z : Float). k (raised z js) ≤ k y) (lift-false y j e) h) n

  -- ---- the end
  module _ (yh : Float) (L : Finite yl) (H : Finite yh) where
    pub ends_free : (y : Float) → Reached yl is y → outside is y ≡ true → le y yh ≡ true → Free (plus_zero y) (clear_above yh is (plus_zero y)) ≡ height_of yl yh is
    ends_free y R u l =
        let p = plus-number y R.fine in
        sym (free_height yl yh is L H F (plus_zero y) (record {
          number = p.0;
          from = (let a = R.from in omega (arith, p.1));
          upto = omega (arith, p.1, le_is_true (real_of R.fine) (real_of H) l);
          out = same-outside is y (plus_zero y) F (real_of R.fine) (real_of (finite p.0)) (sym p.1) u;
          first = λ z Z h q. (let a = R.first z Z h q in omega (arith, p.1));
        }))

    pub ends-past : (y : Float) → Reached yl is y → k yh < k y → Full ≡ height_of yl yh is
    ends-past y R l = sym (full_height yl yh is L H F (λ z Z h g u. no (k z) (k y) (k yh) (R.first z Z h u) g l))
      where
        no : (a b c : ℕ) → b ≤ a → a ≤ c → c < b → ⊥
        no a b c f g h = omega arith

-- ---- the loops of a pass
module _ (r : List Float) where
  pub raise_on : (n c : ℕ) (y : Float) → c < n → raised y (map (interval_at r) (up_from (n - c) c)) ≡ raised (lift y (interval_at r c)) (map (interval_at r) (up_from (n - (c + 1)) (c + 1)))
  unfolding raised up_from
  raise_on n c y h = let e : n - c ≡ suc (n - (c + 1)) = omega arith in rw (e, add-one c)

  pub raise_end : (n c : ℕ) (y : Float) → n ≤ c → raised y (map (interval_at r) (up_from (n - c) c)) ≡ y
  unfolding raised up_from
  raise_end n c y h = let e : n - c ≡ 0 = omega arith in rw e

  pub raise_back : (c : ℕ) (y : Float) → 0 < c → raised y (from_last r c) ≡ raised (lift y (interval_at r (c - 1))) (from_last r (c - 1))
  unfolding raised from_last
  raise_back c y h = let e : c ≡ suc (c - 1) = omega arith in ap (λ (z : ℕ). raised y (from_last r z)) e

  pub raise_first : (c : ℕ) (y : Float) → c ≤ 0 → raised y (from_last r c) ≡ y
  unfolding raised from_last
  raise_first c y h = let e : c ≡ 0 = omega arith in rw e

-- ---- the measure of the passes: how far y is from the greatest key
pub above : Float → ℕ
above y = o + o - k y

pub above_less : (y z : Float) → Finite z → k y < k z → above z < above y
unfolding above
above_less y z Z h = w (k y) (k z) (o + o) h (Keys.key-top binary64 z Z.fit)
  where
    w : (a b m : ℕ) → a < b → b ≤ m → m - b < m - a
    w a b m h g = omega arith
