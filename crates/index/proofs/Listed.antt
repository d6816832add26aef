-- The index lists the counted intervals of all pairs, each once. Assumes nothing.
use Prim.Native.Nat.{ℕ, zero, suc, ◌+◌, ◌-◌, ◌*◌, ◌<◌, ◌≤◌, max}
use native.Mathlib.Omega.{arith}
use mathlib.Core.Path.{◌≡◌, refl, sym, ap, ◌∙◌, subst}
use mathlib.Core.Logic.{◌⊎◌, inl, inr}
use mathlib.Core.Bool.{Bool, true, false, ◌&&◌, ◌||◌, cond}
use mathlib.Core.List.{List, [], flat_map, Memᴰ, Permᴰ}
use lib.ListN.{length, get_or}
use lib.Seq.{slice, slice-cons}
use lib.Dec.{T, leb, eqb, leb→le}
use lib.Ieee.{Float, lt}
use borrow.Author.Tests.{le-leb, lt-leb, eq-eqb, ne_eqb}
use Rattle.numbers.proofs.Doubles.{k, o, Finite}
use Rattle.numbers.specs.Numbers.{smaller, larger}
use Rattle.numbers.proofs.Truth.{either, below_or_not}
use Rattle.trapezoid.specs.declared.Trapezoid.{Trapezoid}
use Rattle.trapezoid.specs.Strip.{strip_at, capacity}
use Rattle.index.specs.declared.Index.{Index}
use Rattle.index.specs.declared.Interval.{Interval}
use Rattle.index.specs.declared.Moving.{Moving}
use Rattle.index.specs.Buckets.{up_from, keep, bucket_in}
use Rattle.index.specs.Intervals.{meeting_of, interval_in, forbidden_of, counts_of, counted_of}
use Rattle.index.specs.inner.Listing.{moving_of, heights_of, meeting_at, pair_of, met_in, entry_of, list_entries, list_bucket, list_moving, listed, Usable, Laid, Bounded, Fair, covers, entered_from}
use Rattle.index.proofs.Steps.{entry_true, entry_false, pair_apart, bucket_top}
use Rattle.index.proofs.BucketOrder.{bucket_meets, larger_finite, smaller_finite}
use Rattle.index.proofs.Flat.{perm_of, flat-same, flat_perm, flat-none, flat-swap, flat-single, flat_slice, flat_keep, keep-flat, keep_mem, up_from_mem}

-- ---- tests
covers_low : (ix : Index) (p : Trapezoid) (b : ℕ) → covers ix p b ≡ true → bucket_in ix p.x0 ≤ b
unfolding covers
covers_low ix p b e = go (leb (bucket_in ix p.x0) b) (leb→le (bucket_in ix p.x0) b) e
  where
    go : (t : Bool) → (T t → bucket_in ix p.x0 ≤ b) → (t && leb b (bucket_in ix p.x1)) ≡ true → bucket_in ix p.x0 ≤ b
    go true f h = f tt
    go false f h = absurd (mathlib.Core.Bool.true≢false (sym h))

pub covers_yes : (ix : Index) (p : Trapezoid) (b : ℕ) → bucket_in ix p.x0 ≤ b → b ≤ bucket_in ix p.x1 → covers ix p b ≡ true
unfolding covers
covers_yes ix p b h k = rw (le-leb (bucket_in ix p.x0) b h, le-leb b (bucket_in ix p.x1) k)

pub covers_no : (ix : Index) (p : Trapezoid) (b : ℕ) → (bucket_in ix p.x0 ≤ b → b ≤ bucket_in ix p.x1 → ⊥) → covers ix p b ≡ false
unfolding covers
covers_no ix p b h =
    elim (below_or_not b (bucket_in ix p.x0)) [
      | inl l ↦ rw (lt-leb (bucket_in ix p.x0) b l)
      | inr l ↦ elim (below_or_not (bucket_in ix p.x1) b) [
        | inl m ↦ rw (le-leb (bucket_in ix p.x0) b l, lt-leb b (bucket_in ix p.x1) m)
        | inr m ↦ absurd (h l m)
      ]
    ]

-- ---- a pair
module _ (ix : Index) (I : Fair ix) (m : Moving) (M0 : Bounded 4000000 m.x0) (M1 : Bounded 4000000 m.x1) (p : Trapezoid) (P0 : Bounded 4000000 p.x0) (P1 : Bounded 4000000 p.x1) where
  meet_buckets : lt (larger p.x0 m.x0) (smaller p.x1 m.x1) ≡ true
      → (max (bucket_in ix m.x0) (bucket_in ix p.x0) ≤ bucket_in ix m.x1) × (max (bucket_in ix m.x0) (bucket_in ix p.x0) ≤ bucket_in ix p.x1)
  meet_buckets e =
      let a = larger_finite P0.fine M0.fine in
      let b = smaller_finite P1.fine M1.fine in
      let l = Rattle.numbers.proofs.Doubles.lt_yes a.0 b.0 (subst T (sym e) tt) in
      bucket_meets ix I p.x0 p.x1 m.x0 m.x1 P0 P1 M0 M1 (omega (arith, a.1, b.1, l)) (omega (arith, a.1, b.1, l)) (omega (arith, a.1, b.1, l)) (omega (arith, a.1, b.1, l))

  -- what the bucket b lists of p
  abbrev lists : ℕ → List Interval
  lists b = elim (covers ix p b) [ true ↦ entry_of ix m (bucket_in ix m.x0) b p | false ↦ [] ]

  lists_out : (b : ℕ) → covers ix p b ≡ false → lists b ≡ []
  lists_out b e = rw (e, lists)

  lists_in : (b : ℕ) → covers ix p b ≡ true → lists b ≡ entry_of ix m (bucket_in ix m.x0) b p
  lists_in b e = rw (e, lists)

  none-listed : pair_of m p ≡ [] → (b : ℕ) → lists b ≡ []
  none-listed e b = go (either (covers ix p b)) (either (met_in ix (bucket_in ix m.x0) b p))
    where
      go : (covers ix p b ≡ true) ⊎ (covers ix p b ≡ false) → (met_in ix (bucket_in ix m.x0) b p ≡ true) ⊎ (met_in ix (bucket_in ix m.x0) b p ≡ false) → lists b ≡ []
      go (inr f) t = lists_out b f
      go (inl f) (inl t) = lists_in b f ∙ entry_true ix m (bucket_in ix m.x0) b p t ∙ e
      go (inl f) (inr t) = lists_in b f ∙ entry_false ix m (bucket_in ix m.x0) b p t

  abbrev met : ℕ
  met = max (bucket_in ix m.x0) (bucket_in ix p.x0)

  met_yes : met_in ix (bucket_in ix m.x0) met p ≡ true
  unfolding met_in
  met_yes = go (eqb met (bucket_in ix m.x0)) (either (eqb (bucket_in ix p.x0) met)) (eqb_no' met (bucket_in ix m.x0))
    where
      eqb_no' : (a b : ℕ) → eqb a b ≡ false → a ≡ b → ⊥
      eqb_no' a b e q = mathlib.Core.Bool.true≢false (sym (eq-eqb a b q) ∙ e)

      go : (t : Bool) → (eqb (bucket_in ix p.x0) met ≡ true) ⊎ (eqb (bucket_in ix p.x0) met ≡ false) → (eqb met (bucket_in ix m.x0) ≡ false → met ≡ bucket_in ix m.x0 → ⊥) → (eqb met (bucket_in ix m.x0) || eqb (bucket_in ix p.x0) met) ≡ true
      go t (inl e) n = rw e (mathlib.Core.Bool.or-true (eqb met (bucket_in ix m.x0)))
      go t (inr e) n = let q : bucket_in ix p.x0 ≡ met → ⊥ = eqb_no' (bucket_in ix p.x0) met e in rw (eq-eqb met (bucket_in ix m.x0) (omega (arith, q)))

  met_no : (b : ℕ) → bucket_in ix m.x0 ≤ b → bucket_in ix p.x0 ≤ b → (b ≡ met → ⊥) → met_in ix (bucket_in ix m.x0) b p ≡ false
  unfolding met_in
  met_no b h k n = rw (ne_eqb b (bucket_in ix m.x0) (λ e. n (omega arith)), ne_eqb (bucket_in ix p.x0) b (λ e. n (omega arith)))

  once : flat_map lists (up_from (bucket_in ix m.x1 + 1 - bucket_in ix m.x0) (bucket_in ix m.x0)) ≡ pair_of m p
  once = go (either (lt (larger p.x0 m.x0) (smaller p.x1 m.x1)))
    where
      others : (b : ℕ) → bucket_in ix m.x0 ≤ b → (b ≡ met → ⊥) → lists b ≡ []
      others b h n = at (either (covers ix p b))
        where
          at : (covers ix p b ≡ true) ⊎ (covers ix p b ≡ false) → lists b ≡ []
          at (inl e) = lists_in b e ∙ entry_false ix m (bucket_in ix m.x0) b p (met_no b h (covers_low ix p b e) n)
          at (inr e) = lists_out b e

      go : (lt (larger p.x0 m.x0) (smaller p.x1 m.x1) ≡ true) ⊎ (lt (larger p.x0 m.x0) (smaller p.x1 m.x1) ≡ false) → flat_map lists (up_from (bucket_in ix m.x1 + 1 - bucket_in ix m.x0) (bucket_in ix m.x0)) ≡ pair_of m p
      go (inl e) =
          let t = meet_buckets e in
          flat-single lists (bucket_in ix m.x1 + 1 - bucket_in ix m.x0) (bucket_in ix m.x0) met (omega arith) (omega (arith, t.0)) others
          ∙ lists_in met (covers_yes ix p met (omega arith) t.1) ∙ entry_true ix m (bucket_in ix m.x0) met p met_yes
      go (inr e) = let q = pair_apart m p e in flat-none lists (up_from (bucket_in ix m.x1 + 1 - bucket_in ix m.x0) (bucket_in ix m.x0)) (λ b u. none-listed q b) ∙ sym q

-- ---- all pairs
-- the counted intervals of one moving strip against the n standing strips
abbrev against_of : List Float → ℕ → Moving → List Interval
against_of standing n m = flat_map (λ i. pair_of m (strip_at standing i)) (up_from n 0)

abbrev pairs : Float → Float → List Float → ℕ → List Float → Float → List Interval
pairs yl yh standing n moving x = flat_map (λ j. against_of standing n (moving_of (strip_at moving j) x yl yh)) (up_from (capacity moving) 0)

pair_is : (yl yh : Float) (q : Trapezoid) (x : Float) (p : Trapezoid) → keep (counts_of yl yh) (interval_in (meeting_of q x p)) ≡ pair_of (moving_of q x yl yh) p
unfolding pair_of meeting_at meeting_of moving_of heights_of
pair_is yl yh q x p = refl

-- what counts of all pairs is what counts of each
counted-pairs : (yl yh : Float) (standing moving : List Float) (x : Float) → pairs yl yh standing (capacity standing) moving x ≡ counted_of yl yh standing moving x
unfolding counted_of forbidden_of
counted-pairs yl yh standing moving x =
    sym (keep-flat (counts_of yl yh) (λ j. flat_map (λ i. interval_in (meeting_of (strip_at moving j) x (strip_at standing i))) (up_from (capacity standing) 0)) (up_from (capacity moving) 0)
    ∙ flat-same (λ j. keep (counts_of yl yh) (flat_map (λ i. interval_in (meeting_of (strip_at moving j) x (strip_at standing i))) (up_from (capacity standing) 0))) (λ j. against_of standing (capacity standing) (moving_of (strip_at moving j) x yl yh)) (up_from (capacity moving) 0)
    (λ j u. keep-flat (counts_of yl yh) (λ i. interval_in (meeting_of (strip_at moving j) x (strip_at standing i))) (up_from (capacity standing) 0)
    ∙ flat-same (λ i. keep (counts_of yl yh) (interval_in (meeting_of (strip_at moving j) x (strip_at standing i)))) (λ i. pair_of (moving_of (strip_at moving j) x yl yh) (strip_at standing i)) (up_from (capacity standing) 0) (λ i v. pair_is yl yh (strip_at moving j) x (strip_at standing i))))

up_to_mem : (n i : ℕ) → Memᴰ i (up_from n 0) → i < n
up_to_mem n i u = let h = up_from_mem n 0 i u in omega (arith, h.1)

module _ (ix : Index) (I : Fair ix) (standing : List Float) (n : ℕ) (entries starts : List ℕ) (L : Laid ix standing n entries starts)
    (P0 : (i : ℕ) → i < n → Bounded 4000000 (strip_at standing i).x0) (P1 : (i : ℕ) → i < n → Bounded 4000000 (strip_at standing i).x1) where
  bucket_list : (m : Moving) (first b : ℕ) → b < 512
      → list_bucket ix m first standing entries starts b ≡ flat_map (λ i. elim (covers ix (strip_at standing i) b) [ true ↦ entry_of ix m first b (strip_at standing i) | false ↦ [] ]) (up_from n 0)
  unfolding list_bucket list_entries entered_from
  bucket_list m first b h =
      flat_slice (λ i. entry_of ix m first b (strip_at standing i)) entries (get_or starts (b + 1) 0 - get_or starts b 0) (get_or starts b 0) (get_or starts (b + 1) 0) refl (L.within (b + 1) (omega arith))
      ∙ ap (flat_map (λ i. entry_of ix m first b (strip_at standing i))) (L.block b h)
      ∙ flat_keep (λ i. covers ix (strip_at standing i) b) (λ i. entry_of ix m first b (strip_at standing i)) (up_from n 0)

  pub moving_perm : (m : Moving) → Bounded 4000000 m.x0 → Bounded 4000000 m.x1 → Permᴰ (list_moving ix standing entries starts m) (against_of standing n m)
  unfolding list_moving
  moving_perm m M0 M1 =
      Permᴰ.trans
      (perm_of (flat-same (list_bucket ix m (bucket_in ix m.x0) standing entries starts) (λ b. flat_map (g b) (up_from n 0)) (up_from (bucket_in ix m.x1 + 1 - bucket_in ix m.x0) (bucket_in ix m.x0))
      (λ b u. bucket_list m (bucket_in ix m.x0) b (below b (up_from_mem (bucket_in ix m.x1 + 1 - bucket_in ix m.x0) (bucket_in ix m.x0) b u)))))
      (Permᴰ.trans (flat-swap g (up_from (bucket_in ix m.x1 + 1 - bucket_in ix m.x0) (bucket_in ix m.x0)) (up_from n 0))
      (perm_of (flat-same (λ i. flat_map (λ b. g b i) (up_from (bucket_in ix m.x1 + 1 - bucket_in ix m.x0) (bucket_in ix m.x0))) (λ i. pair_of m (strip_at standing i)) (up_from n 0)
      (λ i u. once ix I m M0 M1 (strip_at standing i) (P0 i (up_to_mem n i u)) (P1 i (up_to_mem n i u))))))
    where
      g : ℕ → ℕ → List Interval
      g b i = elim (covers ix (strip_at standing i) b) [ true ↦ entry_of ix m (bucket_in ix m.x0) b (strip_at standing i) | false ↦ [] ]

      below : (b : ℕ) → (bucket_in ix m.x0 ≤ b) × (b < bucket_in ix m.x0 + (bucket_in ix m.x1 + 1 - bucket_in ix m.x0)) → b < 512
      below b t = let v = bucket_top ix m.x1 in omega (arith, t.0, t.1)

  pairs_perm : (yl yh : Float) (moving : List Float) (x : Float)
      → ((j : ℕ) → j < capacity moving → Bounded 4000000 (moving_of (strip_at moving j) x yl yh).x0) → ((j : ℕ) → j < capacity moving → Bounded 4000000 (moving_of (strip_at moving j) x yl yh).x1)
      → Permᴰ (listed ix yl yh standing entries starts moving x (capacity moving) 0) (pairs yl yh standing n moving x)
  unfolding listed
  pairs_perm yl yh moving x M0 M1 =
      flat_perm (λ j. list_moving ix standing entries starts (moving_of (strip_at moving j) x yl yh)) (λ j. against_of standing n (moving_of (strip_at moving j) x yl yh)) (up_from (capacity moving) 0)
      (λ j u. moving_perm (moving_of (strip_at moving j) x yl yh) (M0 j (up_to_mem (capacity moving) j u)) (M1 j (up_to_mem (capacity moving) j u)))

  -- ---- every entry can be used
  slice_mem : (k f e t : ℕ) → k ≡ e - f → f ≤ e → e < t → t ≤ length entries → Memᴰ (get_or entries e 0) (slice f t entries)
  slice_mem zero f e t q h l w = let r : e ≡ f = omega arith in rw (r, slice-cons f t entries 0 (omega arith) w) (Memᴰ.head refl)
  slice_mem (suc k) f e t q h l w = rw (slice-cons f t entries 0 (omega arith) w) (Memᴰ.tail (slice_mem k (suc f) e t (omega arith) (omega arith) l w))

  pub laid_usable : Usable standing entries starts
  unfolding entered_from
  laid_usable = record { table = L.table; within = L.within; strips = strips }
    where
      strips : (b : ℕ) → b < 512 → (e : ℕ) → get_or starts b 0 ≤ e → e < get_or starts (b + 1) 0 → 6 * get_or entries e 0 + 6 ≤ length standing
      strips b h e f t =
          let u = slice_mem (e - get_or starts b 0) (get_or starts b 0) e (get_or starts (b + 1) 0) refl f t (L.within (b + 1) (omega arith)) in
          let v = keep_mem (λ i. covers ix (strip_at standing i) b) (λ i. entry_of ix (moving_of (strip_at standing 0) ix.x0 ix.x0 ix.x0) 0 b (strip_at standing i)) (up_from n 0) (get_or entries e 0) (rw (L.block b h) at u) in
          let w = up_from_mem n 0 (get_or entries e 0) v in
          omega (arith, w.1, L.room)

-- the index lists exactly the counted intervals of all pairs, each once
pub listed_perm : (ix : Index) → Fair ix → (standing : List Float) (entries starts : List ℕ) → Laid ix standing (capacity standing) entries starts
    → ((i : ℕ) → i < capacity standing → Bounded 4000000 (strip_at standing i).x0) → ((i : ℕ) → i < capacity standing → Bounded 4000000 (strip_at standing i).x1)
    → (yl yh : Float) (moving : List Float) (x : Float)
    → ((j : ℕ) → j < capacity moving → Bounded 4000000 (moving_of (strip_at moving j) x yl yh).x0) → ((j : ℕ) → j < capacity moving → Bounded 4000000 (moving_of (strip_at moving j) x yl yh).x1)
    → Permᴰ (listed ix yl yh standing entries starts moving x (capacity moving) 0) (counted_of yl yh standing moving x)
listed_perm ix I standing entries starts L P0 P1 yl yh moving x M0 M1 = rw (← counted-pairs yl yh standing moving x) (pairs_perm ix I standing (capacity standing) entries starts L P0 P1 yl yh moving x M0 M1)
