-- Storing a whole copy: 20, 21, or what is left. Assumes nothing.
use Rattle.std.specs.Prelude.{Option, Some, None, is_some, Ok, Err}
use Prim.Native.Nat.{ℕ, zero, suc, ◌+◌, ◌-◌, ◌*◌, ◌/◌, ◌<◌, ◌≤◌}
use native.Mathlib.Omega.{arith}
use native.Mathlib.Nat.{le_refl}
use native.Mathlib.Numerals.{add-one}
use mathlib.Core.Path.{◌≡◌, refl, sym, ap, ◌∙◌, subst, subst⁻¹}
use mathlib.Core.Bool.{Bool, true, false}
use mathlib.Core.Logic.{inl, inr}
use mathlib.Core.List.{List, ◌++◌}
use lib.ListN.{length, get_or, drop}
use lib.Dec.{ltb, leb}
use lib.Ieee.{Float}
use borrow.Author.Tests.{lt-ltb, le-ltb, le-leb, lt-leb, leb-true, leb-false}
use Rattle.numbers.specs.Numbers.{◌⊕◌}
use Rattle.numbers.proofs.Truth.{either}
use Rattle.trapezoid.specs.declared.Trapezoid.{Trapezoid}
use Rattle.trapezoid.specs.Strip.{strip_at, capacity, moved_by}
use Rattle.trapezoid.specs.inner.Writing.{set_strip}
use Rattle.index.specs.declared.Index.{Index}
use Rattle.index.specs.declared.Overrun.TheVariants.{StripRoom, EntryRoom}
use Rattle.index.specs.Buckets.{buckets, bucket_in, entries_of, strip_numbers, standing_capacity}
use Rattle.index.proofs.Standing.{standing-within, standing-few, standing-long}
use Rattle.index.proofs.Steps.{bucket_top}
use Rattle.index.specs.inner.Listing.{Laid, FirstBuckets}
use Rattle.index.proofs.NewIndex.{laid-after}
use Rattle.enter.specs.inner.EntryRoom.{entries_in, starts_of, Entering, enter_of, FirstsWritten}
use Rattle.enter.specs.inner.Gaps.{rooms, entering}
use Rattle.enter.proofs.Starts.{enter_fits}
use Rattle.filling.specs.Rooms.{laid}
use Rattle.store.specs.inner.Storing.{moved_to, width_at, widths_to, rest_of, left, together, store_of, FirstsLaid}
use Rattle.store.proofs.Strips.{after-length, after-before, after-strip, strips-count, after-laid, strips-same}
use Rattle.store.proofs.Widths.{entries-same, starts-same, entries_more}
use Rattle.store.proofs.Firsts.{firsts_stored}

pub widths_start : (ix : Index) (apart : List Float) (x : Float) → 0 ≡ widths_to ix apart x 0
unfolding widths_to
widths_start ix apart x = refl

pub widths_next : (ix : Index) (apart : List Float) (x : Float) (j a w : ℕ) → a ≡ widths_to ix apart x j → w ≡ width_at ix (strip_at apart j) x → a + w ≡ widths_to ix apart x (suc j)
unfolding widths_to
widths_next ix apart x j a w e f = rw (e, f)

-- what is left of a room, by its test
pub rest-enough : (room n : ℕ) → leb n room ≡ true → rest_of room n ≡ Some (room - n)
unfolding rest_of
rest-enough room n e = rw (e, rest_of)

pub rest_short : (room n : ℕ) → leb n room ≡ false → rest_of room n ≡ None
unfolding rest_of
rest_short room n e = rw (e, rest_of)

-- and the test by what is left
rest-fits : (room n : ℕ) (q : Option ℕ) → q ≡ rest_of room n → is_some q ≡ leb n room
rest-fits room n q e = elim (either (leb n room)) [
  | inl t ↦ ap is_some (e ∙ rest-enough room n t) ∙ sym t
  | inr f ↦ ap is_some (e ∙ rest_short room n f) ∙ sym f
]

module _ (ix : Index) (apart : List Float) (x y : Float) (n : ℕ) (p : List Float) (e s fs : List ℕ) (L : Laid ix p n e s) where
  abbrev k : ℕ
  k = capacity apart

  abbrev strips : List Float
  strips = together apart x y n p

  count : capacity strips ≡ n + k
  count = strips-count apart x y n p L.room

  test-strips : (b : Bool) → ltb (standing_capacity p fs) (n + k) ≡ b → ltb (standing_capacity p fs) (capacity strips) ≡ b
  test-strips b q = ap (ltb (standing_capacity p fs)) count ∙ q

  pub store_short : standing_capacity p fs < n + k → left (Err StripRoom) p e s ≡ store_of ix apart x y n p e s fs
  unfolding store_of
  store_short h = rw (test-strips true (lt-ltb (standing_capacity p fs) (n + k) h), store_of)

  module _ (fits : n + k ≤ standing_capacity p fs) where
    pub six_in : 6 * (n + k) ≤ length p
    six_in = standing-within (n + k) p fs fits

    long_in : n + k ≤ length fs
    long_in = standing-long (n + k) p fs fits

    pub firsts_in : (k' : ℕ) → k' ≡ k → n + k' ≤ length fs
    firsts_in k' d = let f = long_in in omega arith

    pub few_in : (k' : ℕ) → k' ≡ k → n + k' ≤ strip_numbers
    few_in k' d = let f = standing-few (n + k) p fs fits in omega arith

    abbrev p' : List Float
    p' = moved_to apart x y n p k

    pub laid_still : Laid ix p' n e s
    laid_still = laid-after ix p p' n e s L (λ i m. sym (after-before apart x y n p k i m)) (let l = after-length apart x y n p k in let r = L.room in omega arith)

    entries_are : entries_of ix strips (capacity strips) ≡ entries_of ix p' (n + k)
    entries_are = ap (entries_of ix strips) count ∙ entries-same ix strips p' (n + k) (strips-same apart x y n p six_in)

    starts_are : starts_of ix strips (capacity strips) ≡ starts_of ix p' (n + k)
    starts_are = ap (starts_of ix strips) count ∙ starts-same ix strips p' (n + k) (strips-same apart x y n p six_in)

    total : length (entries_of ix p' (n + k)) ≡ get_or s buckets 0 + widths_to ix apart x k
    total = entries_more ix apart x y p' n k (λ i l. after-strip apart x y n p k i l six_in) e s laid_still

    pub store_full : length e - get_or s buckets 0 < widths_to ix apart x k → left (Err EntryRoom) p e s ≡ store_of ix apart x y n p e s fs
    unfolding store_of
    store_full h =
        rw (
          test-strips false (le-ltb (standing_capacity p fs) (n + k) fits),
          lt-ltb (length e) (length (entries_of ix strips (capacity strips))) (let t = total in let q = ap length entries_are in omega arith),
          store_of,
        )

    module _ (room : widths_to ix apart x k ≤ length e - get_or s buckets 0) where
      all_in : length (entries_of ix p' (n + k)) ≤ length e
      all_in = let t = total in let w = L.within buckets (omega arith) in omega arith

      pub six_still : 6 * (n + k) ≤ length p'
      six_still = let l = after-length apart x y n p k in let q = six_in in omega arith

      store_fits : left (Ok tt) (laid strips p) (laid (entries_of ix strips (capacity strips)) e) (starts_of ix strips (capacity strips)) ≡ store_of ix apart x y n p e s fs
      unfolding store_of
      store_fits =
          rw (
            test-strips false (le-ltb (standing_capacity p fs) (n + k) fits),
            le-ltb (length e) (length (entries_of ix strips (capacity strips))) (let a = all_in in let q = ap length entries_are in omega arith),
            store_of,
          )

      entries-laid : entries_in ix p' (n + k) e ≡ laid (entries_of ix strips (capacity strips)) e
      unfolding entries_in laid
      entries-laid = ap (λ (l : List ℕ). l ++ drop (length l) e) (sym entries_are)

      pub store_done : (r : Bool) (q : List Float) (e' s' : List ℕ) → q ≡ p' → entering r e' s' ≡ enter_of ix q (n + k) (rooms e s) → (left (Ok tt) q e' s' ≡ store_of ix apart x y n p e s fs) × (r ≡ true)
      store_done r q e' s' E h =
          let t : entering r e' s' ≡ record { fits = true; after = record { entries = entries_in ix p' (n + k) e; starts = starts_of ix p' (n + k) } } = h ∙ (ap (λ (z : List Float). enter_of ix z (n + k) (rooms e s)) E ∙ sym (enter_fits ix p' (n + k) (rooms e s) all_in)) in (
            ap (λ (z : Entering). left (Ok tt) q z.after.entries z.after.starts) t
                ∙ (ap (λ (z : List Float). left (Ok tt) z (entries_in ix p' (n + k) e) (starts_of ix p' (n + k))) (E ∙ after-laid apart x y n p six_in)
                ∙ (ap (λ (z : List ℕ). left (Ok tt) (laid strips p) z (starts_of ix p' (n + k))) entries-laid
                ∙ (ap (λ (z : List ℕ). left (Ok tt) (laid strips p) (laid (entries_of ix strips (capacity strips)) e) z) (sym starts_are)
                ∙ store_fits))),
            ap (λ (z : Entering). z.fits) t,
          )

      pub done_is : (k' : ℕ) (r : Bool) (q : List Float) (e' s' fs' : List ℕ) → k' ≡ k → q ≡ p' → entering r e' s' ≡ enter_of ix q (n + k') (rooms e s) → (r ≡ true → Laid ix q (n + k') e' s')
          → FirstBuckets ix p n fs → length fs' ≡ length fs → (r ≡ true → FirstsWritten ix q n (n + k') fs fs')
          → (left (Ok tt) q e' s' ≡ store_of ix apart x y n p e s fs) × Laid ix q (n + k) e' s' × FirstsLaid ix q (n + k) fs fs'
      done_is k' r q e' s' fs' d E h l B m w =
          let t = store_done r q e' s' E (h ∙ ap (λ (z : ℕ). enter_of ix q (n + z) (rooms e s)) d) in (
            t.0,
            subst (λ (z : ℕ). Laid ix q (n + z) e' s') d (l t.1),
            firsts_stored ix apart x y n k p fs fs' B q E (subst (λ (z : ℕ). FirstsWritten ix q n (n + z) fs fs') d (w t.1)) m long_in,
          )

    pub six-after : (k' : ℕ) (q : List Float) → k' ≡ k → q ≡ p' → 6 * (n + k') ≤ length q
    six-after k' q d E = let l = ap length E ∙ after-length apart x y n p k in let g = six_in in omega arith

    pub laid_on : (q : List Float) → q ≡ p' → Laid ix q n e s
    laid_on q E = subst⁻¹ (λ (z : List Float). Laid ix z n e s) E laid_still

    abbrev unused : ℕ
    unused = length e - get_or s buckets 0

    pub full_is : (r : Option ℕ) → r ≡ rest_of unused (widths_to ix apart x k) → is_some r ≡ false → left (Err EntryRoom) p e s ≡ store_of ix apart x y n p e s fs
    full_is r d h = store_full (leb-false (widths_to ix apart x k) unused (sym (rest-fits unused (widths_to ix apart x k) r d) ∙ h))

    pub room_is : (r : Option ℕ) → r ≡ rest_of unused (widths_to ix apart x k) → is_some r ≡ true → widths_to ix apart x k ≤ unused
    room_is r d h = leb-true (widths_to ix apart x k) unused (sym (rest-fits unused (widths_to ix apart x k) r d) ∙ h)

  pub short_is : (cap k' : ℕ) → cap ≡ standing_capacity p fs → k' ≡ k → cap < n + k' → left (Err StripRoom) p e s ≡ store_of ix apart x y n p e s fs
  short_is cap k' a b h = store_short (omega arith)

  pub fits_is : (cap k' : ℕ) → cap ≡ standing_capacity p fs → k' ≡ k → n + k' ≤ cap → n + k ≤ standing_capacity p fs
  fits_is cap k' a b h = omega arith

-- two slices hold so few strips
pub sum_fits : (p q : List Float) (n k : ℕ) → 6 * n ≤ length p → length p < 18446744073709551616 → k ≡ capacity q → length q < 18446744073709551616 → n + k < 18446744073709551616
unfolding capacity
sum_fits p q n k a b e h = let d : k ≡ length q / 6 = e in omega arith

-- ---- the loops
pub moved-next : (apart : List Float) (x y : Float) (n : ℕ) (p : List Float) (j : ℕ) (q r : List Float) (u v : Trapezoid) → q ≡ moved_to apart x y n p j → u ≡ strip_at apart j → v ≡ moved_by u x y → r ≡ set_strip q (n + j) v
    → r ≡ moved_to apart x y n p (j + 1)
unfolding moved_to
moved-next apart x y n p j q r u v e d f g =
    g
    ∙ (ap (λ (z : List Float). set_strip z (n + j) v) e
    ∙ (ap (set_strip (moved_to apart x y n p j) (n + j)) (f ∙ ap (λ (z : Trapezoid). moved_by z x y) d) ∙ ap (moved_to apart x y n p) (sym (add-one j))))

pub moved-start : (apart : List Float) (x y : Float) (n : ℕ) (p : List Float) → p ≡ moved_to apart x y n p 0
unfolding moved_to
moved-start apart x y n p = refl

pub moved_length : (apart : List Float) (x y : Float) (n : ℕ) (p : List Float) (j : ℕ) (q : List Float) → q ≡ moved_to apart x y n p j → length q ≡ length p
moved_length apart x y n p j q e = ap length e ∙ after-length apart x y n p j

pub moved-end : (apart : List Float) (x y : Float) (n : ℕ) (p q : List Float) (j c : ℕ) → c ≡ capacity apart → j ≤ capacity apart → c ≤ j → q ≡ moved_to apart x y n p j → q ≡ moved_to apart x y n p (capacity apart)
moved-end apart x y n p q j c d l h e = e ∙ ap (moved_to apart x y n p) (let z : j ≡ capacity apart = omega arith in z)

-- more strips, more entries
widths_up : (ix : Index) (apart : List Float) (x : Float) (j d : ℕ) → widths_to ix apart x j ≤ widths_to ix apart x (j + d)
widths_up ix apart x j zero = let e : j + 0 ≡ j = omega arith in rw e (le_refl (widths_to ix apart x j))
widths_up ix apart x j (suc d) =
    let e : j + suc d ≡ suc (j + d) = omega arith in
    let h = widths_up ix apart x j d in
    let s = widths_next ix apart x (j + d) (widths_to ix apart x (j + d)) (width_at ix (strip_at apart (j + d)) x) refl refl in
    rw e (omega arith)

-- what is left of the room after the first j strips
pub record Counting (ix : Index) (apart : List Float) (x : Float) (room rest j : ℕ) : Type 0 where
  pub upto : j ≤ capacity apart
  pub same : room ≡ rest + widths_to ix apart x j

pub counting_start : (ix : Index) (apart : List Float) (x : Float) (room : ℕ) → Counting ix apart x room room 0
counting_start ix apart x room = record { upto = omega arith; same = (let z = widths_start ix apart x in omega arith) }

module _ (ix : Index) (apart : List Float) (x : Float) (room rest j c : ℕ) (g : Counting ix apart x room rest j) (e : c ≡ capacity apart) where
  module _ (w : ℕ) (q : Trapezoid) (h : j < c) (d : q ≡ strip_at apart j) (f : w ≡ width_at ix q x) where
    next : widths_to ix apart x j + w ≡ widths_to ix apart x (j + 1)
    next = widths_next ix apart x j (widths_to ix apart x j) w refl (f ∙ ap (λ (z : Trapezoid). width_at ix z x) d) ∙ ap (widths_to ix apart x) (sym (add-one j))

    pub counting_next : w ≤ rest → Counting ix apart x room (rest - w) (j + 1)
    counting_next l = record { upto = omega arith; same = (let a = g.same in let b = next in omega arith) }

    pub counting_over : rest < w → None ≡ rest_of room (widths_to ix apart x (capacity apart))
    counting_over l =
        let k : j + 1 + (capacity apart - (j + 1)) ≡ capacity apart = omega arith in
        let u : widths_to ix apart x (j + 1) ≤ widths_to ix apart x (capacity apart) = subst (λ (z : ℕ). widths_to ix apart x (j + 1) ≤ widths_to ix apart x z) k (widths_up ix apart x (j + 1) (capacity apart - (j + 1))) in
        let a = g.same in
        let b = next in
        sym (rest_short room (widths_to ix apart x (capacity apart)) (lt-leb (widths_to ix apart x (capacity apart)) room (omega arith)))

  pub counting_end : c ≤ j → Some rest ≡ rest_of room (widths_to ix apart x (capacity apart))
  counting_end h =
      let z : j ≡ capacity apart = (let u = g.upto in omega arith) in
      let a : room ≡ rest + widths_to ix apart x (capacity apart) = subst (λ (k : ℕ). room ≡ rest + widths_to ix apart x k) z g.same in
      let b : rest ≡ room - widths_to ix apart x (capacity apart) = omega arith in
      ap Some b ∙ sym (rest-enough room (widths_to ix apart x (capacity apart)) (le-leb (widths_to ix apart x (capacity apart)) room (omega arith)))

-- ---- one strip's width
pub width_some : (ix : Index) (q : Trapezoid) (x : Float) (l f : ℕ) → f ≡ bucket_in ix (q.x0 ⊕ x) → l ≡ bucket_in ix (q.x1 ⊕ x) → l + 1 - f ≡ width_at ix q x
unfolding width_at
width_some ix q x l f d e = go (bucket_in ix (q.x1 ⊕ x)) (bucket_in ix (q.x0 ⊕ x)) e d
  where
    go : (a b : ℕ) → l ≡ a → f ≡ b → l + 1 - f ≡ a + 1 - b
    go a b p r = omega arith

pub bucket_next : (ix : Index) (x : Float) (l : ℕ) → l ≡ bucket_in ix x → l + 1 < 18446744073709551616
bucket_next ix x l e = let t = bucket_top ix x in omega arith
