-- What a room holds after a list is push into it. Assumes nothing.
use Prim.Native.Nat.{ℕ, zero, suc, ◌+◌, ◌*◌, ◌/◌, ◌<◌, ◌≤◌}
use native.Mathlib.Omega.{arith}
use native.Mathlib.Numerals.{add-one}
use mathlib.Core.Path.{◌≡◌, sym, ap, ◌∙◌}
use mathlib.Core.Logic.{◌⊎◌, inl, inr}
use mathlib.Core.List.{List, [], ◌∷◌, ◌++◌, map, append_assoc, append-nil}
use lib.ListN.{length, set, length-set}
use lib.Seq.{get_or-set_same, get_or-set_other}
use lib.Ieee.{Float, nan}
use borrow.Author.Tests.{lt-ltb, le-ltb}
use Rattle.numbers.proofs.Truth.{below_or_not}
use Rattle.index.specs.declared.Interval.{Interval}
use Rattle.index.specs.Buckets.{up_from}
use Rattle.index.specs.inner.Listing.{Collected, collected, push, push_all, interval_at, intervals}
use Rattle.index.proofs.Steps.{push-true, push-false}
use Rattle.index.proofs.Flat.{up_from_mem, map_same}

pub map_snoc : {A : Type 0} (f : ℕ → A) (n c : ℕ) → map f (up_from (suc n) c) ≡ map f (up_from n c) ++ (f (c + n) ∷ [])
unfolding up_from
map_snoc f zero c = let e : c + 0 ≡ c = omega arith in rw e
map_snoc f (suc n) c = let e : suc c + n ≡ c + suc n = omega arith in ap (λ (l : List _). f c ∷ l) (map_snoc f n (suc c) ∙ rw e)

module _ (r : List Float) (n : ℕ) (i : Interval) (h : n < length r / 2) where
  abbrev after : List Float
  after = set (set r (2 * n) i.from) (2 * n + 1) i.to

  before-kept : (k : ℕ) → k < n → interval_at after k ≡ interval_at r k
  unfolding interval_at
  before-kept k l =
      rw (
        get_or-set_other (set r (2 * n) i.from) (2 * n + 1) (2 * k) i.to nan (omega arith),
        get_or-set_other r (2 * n) (2 * k) i.from nan (omega arith),
        get_or-set_other (set r (2 * n) i.from) (2 * n + 1) (2 * k + 1) i.to nan (omega arith),
        get_or-set_other r (2 * n) (2 * k + 1) i.from nan (omega arith),
      )

  push-there : interval_at after n ≡ i
  unfolding interval_at
  push-there =
      rw (
        get_or-set_other (set r (2 * n) i.from) (2 * n + 1) (2 * n) i.to nan (omega arith),
        get_or-set_same r (2 * n) i.from nan (omega arith),
        get_or-set_same (set r (2 * n) i.from) (2 * n + 1) i.to nan (simp length-set (omega arith)),
      )

  push-intervals : intervals after (n + 1) ≡ intervals r n ++ (i ∷ [])
  unfolding intervals
  push-intervals =
      ap (λ (k : ℕ). map (interval_at after) (up_from k 0)) (add-one n) ∙ map_snoc (interval_at after) n 0
      ∙ rw (map_same (interval_at after) (interval_at r) (up_from n 0) (λ k m. before-kept k (below k (up_from_mem n 0 k m).1)), zero-plus, push-there)
    where
      zero-plus : 0 + n ≡ n
      zero-plus = omega arith

      below : (k : ℕ) → k < 0 + n → k < n
      below k l = omega arith

-- where they fit, they stand after what was there
pub push-fits : (is : List Interval) (r : List Float) (n : ℕ) → n + length is ≤ length r / 2 → ((push_all (collected r n) is).n ≡ n + length is) × (intervals (push_all (collected r n) is).room (n + length is) ≡ intervals r n ++ is)
unfolding push_all
push-fits [] r n h = (let e : n ≡ n + 0 = omega arith in e, let e : n + 0 ≡ n = omega arith in rw (e, append-nil))
push-fits (i ∷ is) r n h =
    let l : n < length r / 2 = omega arith in
    let e = push-true r n i (lt-ltb n (length r / 2) l) in
    let w : length (after r n i l) ≡ length r = simp length-set in
    let k : n + 1 + length is ≤ length (after r n i l) / 2 = rw w (omega arith) in
    let b = push-fits is (after r n i l) (n + 1) k in
    let q : n + 1 + length is ≡ n + suc (length is) = omega arith in (
      ap (λ (u : Collected). (push_all u is).n) e ∙ (b.0 ∙ q),
      ap (λ (u : Collected). intervals (push_all u is).room (n + suc (length is))) e ∙ (ap (λ (u : ℕ). intervals (push_all (collected (after r n i l) (n + 1)) is).room u) (sym q) ∙ (b.1 ∙ (ap (λ (u : List Interval). u ++ is) (push-intervals r n i l) ∙ append_assoc (intervals r n) (i ∷ []) is))),
    )

-- where they do not, the count says so
pub push_over : (is : List Interval) (r : List Float) (n : ℕ) → n ≤ length r / 2 + 1 → length r / 2 < n + length is → (push_all (collected r n) is).n ≡ length r / 2 + 1
unfolding push_all
push_over [] r n h l = omega arith
push_over (i ∷ is) r n h l = go (below_or_not n (length r / 2)) (λ k w u v. push_over is k (n + 1) u v) (λ u v. push_over is r (length r / 2 + 1) u v)
  where
    go : (n < length r / 2) ⊎ (length r / 2 ≤ n) → ((k : List Float) → length k ≡ length r → n + 1 ≤ length k / 2 + 1 → length k / 2 < n + 1 + length is → (push_all (collected k (n + 1)) is).n ≡ length k / 2 + 1)
        → (length r / 2 + 1 ≤ length r / 2 + 1 → length r / 2 < length r / 2 + 1 + length is → (push_all (collected r (length r / 2 + 1)) is).n ≡ length r / 2 + 1) → (push_all (push (collected r n) i) is).n ≡ length r / 2 + 1
    go (inl t) f g =
        let e = push-true r n i (lt-ltb n (length r / 2) t) in
        let w : length (after r n i t) ≡ length r = simp length-set in
        let u : n + 1 ≤ length (after r n i t) / 2 + 1 = rw w (omega arith) in
        let v : length (after r n i t) / 2 < n + 1 + length is = rw w (omega arith) in
        ap (λ (u : Collected). (push_all u is).n) e ∙ (f (after r n i t) w u v ∙ rw w)
    go (inr t) f g = ap (λ (u : Collected). (push_all u is).n) (push-false r n i (le-ltb n (length r / 2) t)) ∙ g (omega arith) (omega arith)
