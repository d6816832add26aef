-- The steps that the code takes through the definitions. Assumes nothing.
use Rattle.std.specs.Prelude.{Option, Some, None}
use Prim.Native.Nat.{ℕ, suc, ◌+◌, ◌-◌, ◌*◌, ◌/◌, ◌<◌, ◌≤◌}
use native.Mathlib.Omega.{arith}
use native.Mathlib.Numerals.{add-one}
use mathlib.Core.Path.{◌≡◌, refl, sym, ap, ◌∙◌}
use mathlib.Core.Logic.{◌⊎◌, inl, inr}
use mathlib.Core.Bool.{Bool, true, false}
use mathlib.Core.List.{List, [], ◌∷◌, ◌++◌, flat_map}
use lib.ListN.{length, set, length-set}
use lib.Dec.{ltb}
use lib.Ieee.{Float, lt}
use Rattle.trapezoid.specs.declared.Trapezoid.{Trapezoid}
use Rattle.index.specs.declared.Index.{Index}
use Rattle.index.specs.declared.Interval.{Interval}
use Rattle.index.specs.declared.Moving.{Moving}
use Rattle.numbers.specs.Numbers.{smaller, larger}
use Rattle.numbers.proofs.Truth.{either}
use Rattle.index.specs.Buckets.{up_from, keep, bucket_in}
use Rattle.index.specs.Intervals.{counts_of, interval_in}
use Rattle.index.specs.inner.Listing.{heights_of, meeting_at, pair_of, Collected, collected, push, push_all, met_in, entry_of}

pub push-true : (r : List Float) (n : ℕ) (i : Interval) → ltb n (length r / 2) ≡ true → push (collected r n) i ≡ collected (set (set r (2 * n) i.from) (2 * n + 1) i.to) (n + 1)
unfolding push
push-true r n i e = rw (e, push)

pub push-false : (r : List Float) (n : ℕ) (i : Interval) → ltb n (length r / 2) ≡ false → push (collected r n) i ≡ collected r (length r / 2 + 1)
unfolding push
push-false r n i e = rw (e, push)

pub push_all-none : (h : Collected) → push_all h [] ≡ h
unfolding push_all
push_all-none h = refl

pub push_all-one : (h : Collected) (i : Interval) → push_all h (i ∷ []) ≡ push h i
unfolding push_all
push_all-one h i = refl

pub push_all_append : (h : Collected) (is js : List Interval) → push_all h (is ++ js) ≡ push_all (push_all h is) js
unfolding push_all
push_all_append h [] js = refl
push_all_append h (i ∷ is) js = push_all_append (push h i) is js

pub length_push : (h : Collected) (i : Interval) → length (push h i).room ≡ length h.room
length_push h i = go (either (ltb h.n (length h.room / 2)))
  where
    go : (ltb h.n (length h.room / 2) ≡ true) ⊎ (ltb h.n (length h.room / 2) ≡ false) → length (push h i).room ≡ length h.room
    go (inl e) = ap (λ (k : Collected). length k.room) (push-true h.room h.n i e) ∙ simp length-set
    go (inr e) = ap (λ (k : Collected). length k.room) (push-false h.room h.n i e)

pub length-push_all : (h : Collected) (is : List Interval) → length (push_all h is).room ≡ length h.room
unfolding push_all
length-push_all h [] = refl
length-push_all h (i ∷ is) = length-push_all (push h i) is ∙ length_push h i

-- the room's length is kept, from the equation of a call
pub kept-length : (r r' : List Float) (n n' : ℕ) (is : List Interval) → collected r' n' ≡ push_all (collected r n) is → length r' ≡ length r
kept-length r r' n n' is e = ap (λ (k : Collected). length k.room) e ∙ length-push_all (collected r n) is

-- ---- a loop from e to below t, that puts the list f of each
module _ (f : ℕ → List Interval) where
  pub over_on : (h : Collected) (t e : ℕ) → e < t → push_all h (flat_map f (up_from (t - e) e)) ≡ push_all (push_all h (f e)) (flat_map f (up_from (t - (e + 1)) (e + 1)))
  unfolding up_from flat_map
  over_on h t e l =
      let k : t - e ≡ suc (t - (e + 1)) = omega arith in
      rw (k, add-one e, push_all_append)

  pub over_end : (h : Collected) (t e : ℕ) → t ≤ e → push_all h (flat_map f (up_from (t - e) e)) ≡ h
  unfolding up_from flat_map push_all
  over_end h t e l = let k : t - e ≡ 0 = omega arith in rw k

  -- one turn: the call push f e, and the rest is what it was
  pub turn : (r r' : List Float) (n n' t e : ℕ) (h : Collected) → e < t → collected r' n' ≡ push_all (collected r n) (f e) → push_all (collected r n) (flat_map f (up_from (t - e) e)) ≡ h → push_all (collected r' n') (flat_map f (up_from (t - (e + 1)) (e + 1))) ≡ h
  turn r r' n n' t e h l c i = ap (λ (k : Collected). push_all k (flat_map f (up_from (t - (e + 1)) (e + 1)))) c ∙ sym (over_on (collected r n) t e l) ∙ i

-- ---- a test
module _ {A : Type 0} (test : A → Bool) where
  pub keep-none : keep test [] ≡ []
  unfolding keep
  keep-none = refl

  pub keep_yes : (a : A) (as' : List A) → test a ≡ true → keep test (a ∷ as') ≡ a ∷ keep test as'
  unfolding keep
  keep_yes a as' e = rw (e, keep)

  pub keep_no : (a : A) (as' : List A) → test a ≡ false → keep test (a ∷ as') ≡ keep test as'
  unfolding keep
  keep_no a as' e = rw (e, keep)

-- ---- a pair
module _ (m : Moving) (p : Trapezoid) where
  pub meeting_apart : lt (larger p.x0 m.x0) (smaller p.x1 m.x1) ≡ false → meeting_at m p ≡ None
  unfolding meeting_at
  meeting_apart e = rw (e, meeting_at)

  pub meeting_over : lt (larger p.x0 m.x0) (smaller p.x1 m.x1) ≡ true → meeting_at m p ≡ Some (heights_of p m (larger p.x0 m.x0) (smaller p.x1 m.x1))
  unfolding meeting_at
  meeting_over e = rw (e, meeting_at)

  pub pair_none : meeting_at m p ≡ None → pair_of m p ≡ []
  unfolding pair_of interval_in keep
  pair_none e = rw (e, pair_of)

  pub pair_counts : (i : Interval) → meeting_at m p ≡ Some i → counts_of m.y_low m.y_high i ≡ true → pair_of m p ≡ i ∷ []
  unfolding pair_of interval_in
  pair_counts i e t = ap (λ (w : Option Interval). keep (counts_of m.y_low m.y_high) (interval_in w)) e ∙ keep_yes (counts_of m.y_low m.y_high) i [] t ∙ ap (λ (l : List Interval). i ∷ l) (keep-none (counts_of m.y_low m.y_high))

  pub pair_counts-not : (i : Interval) → meeting_at m p ≡ Some i → counts_of m.y_low m.y_high i ≡ false → pair_of m p ≡ []
  unfolding pair_of interval_in
  pair_counts-not i e t = ap (λ (w : Option Interval). keep (counts_of m.y_low m.y_high) (interval_in w)) e ∙ keep_no (counts_of m.y_low m.y_high) i [] t ∙ keep-none (counts_of m.y_low m.y_high)

  pub pair_apart : lt (larger p.x0 m.x0) (smaller p.x1 m.x1) ≡ false → pair_of m p ≡ []
  pair_apart e = pair_none (meeting_apart e)

pub entry_true : (ix : Index) (m : Moving) (first b : ℕ) (p : Trapezoid) → met_in ix first b p ≡ true → entry_of ix m first b p ≡ pair_of m p
unfolding entry_of
entry_true ix m first b p e = rw (e, entry_of)

pub entry_false : (ix : Index) (m : Moving) (first b : ℕ) (p : Trapezoid) → met_in ix first b p ≡ false → entry_of ix m first b p ≡ []
unfolding entry_of
entry_false ix m first b p e = rw (e, entry_of)

pub bucket_top : (ix : Index) (x : Float) → bucket_in ix x ≤ 511
unfolding bucket_in
bucket_top ix x = omega arith
