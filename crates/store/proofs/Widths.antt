-- How many entries strips have: as many as buckets they are entered_from in. Assumes nothing.
use Prim.Native.Nat.{ℕ, zero, suc, ◌+◌, ◌-◌, ◌<◌, ◌≤◌, min}
use native.Mathlib.Omega.{arith}
use native.Mathlib.Numerals.{add-one}
use mathlib.Core.Path.{◌≡◌, refl, sym, ap, ◌∙◌, subst}
use mathlib.Core.Logic.{◌⊎◌, inl, inr}
use mathlib.Core.Bool.{true, false, true≢false}
use mathlib.Core.List.{List, [], ◌∷◌}
use lib.ListN.{length, get_or, length-append}
use lib.Ieee.{Float}
use Rattle.numbers.proofs.Truth.{either, below_or_not}
use Rattle.trapezoid.specs.declared.Trapezoid.{Trapezoid}
use Rattle.trapezoid.specs.Strip.{strip_at, moved_by}
use Rattle.index.specs.declared.Index.{Index}
use Rattle.index.specs.Buckets.{buckets, up_from, bucket_in, entries_of}
use Rattle.index.specs.inner.Listing.{Laid, covers, entered_from}
use Rattle.index.proofs.Steps.{bucket_top}
use Rattle.index.proofs.EntryLists.{entries_by_bucket}
use Rattle.index.proofs.Flat.{flat-same, up_from_mem, keep_same, map_same}
use Rattle.enter.specs.inner.EntryRoom.{start_of, starts_of}
use Rattle.enter.proofs.Starts.{covers-parts, covers_yes, entered_yes, entered_no, start_first, start-next, start-last, laid-starts}
use Rattle.store.specs.inner.Storing.{width_at, widths_to}

-- ---- strips that are alike have the same entries
module _ (ix : Index) (s t : List Float) (n : ℕ) (h : (i : ℕ) → i < n → strip_at s i ≡ strip_at t i) where
  entered-same : (b : ℕ) → entered_from ix s n b ≡ entered_from ix t n b
  unfolding entered_from
  entered-same b = keep_same (λ i. covers ix (strip_at s i) b) (λ i. covers ix (strip_at t i) b) (up_from n 0) (λ i m. (let u = up_from_mem n 0 i m in ap (λ (p : Trapezoid). covers ix p b) (h i (omega (arith, u.1)))))

  pub entries-same : entries_of ix s n ≡ entries_of ix t n
  entries-same = entries_by_bucket ix s n ∙ (flat-same (entered_from ix s n) (entered_from ix t n) (up_from buckets 0) (λ b m. entered-same b) ∙ sym (entries_by_bucket ix t n))

  start-same : (b : ℕ) → start_of ix s n b ≡ start_of ix t n b
  unfolding start_of
  start-same b = ap length (flat-same (entered_from ix s n) (entered_from ix t n) (up_from b 0) (λ c m. entered-same c))

  pub starts-same : starts_of ix s n ≡ starts_of ix t n
  unfolding starts_of
  starts-same = map_same (start_of ix s n) (start_of ix t n) (up_from (buckets + 1) 0) (λ i m. start-same i)

-- ---- one strip more
module _ (ix : Index) (s : List Float) (i : ℕ) where
  abbrev lo : ℕ
  lo = bucket_in ix (strip_at s i).x0

  abbrev hi : ℕ
  hi = bucket_in ix (strip_at s i).x1

  -- the buckets before b that it is entered_from in
  abbrev covered : ℕ → ℕ
  covered b = min b (hi + 1) - min b lo

  bucket_more : (b : ℕ) → length (entered_from ix s (i + 1) b) + covered b ≡ length (entered_from ix s i b) + covered (b + 1)
  bucket_more b = go (either (covers ix (strip_at s i) b))
    where
      inside : (a c : ℕ) → lo ≤ b → b ≤ hi → c ≡ a + 1 → c + (min b (hi + 1) - min b lo) ≡ a + (min (b + 1) (hi + 1) - min (b + 1) lo)
      inside a c h g e = omega arith

      before : (a c : ℕ) → b < lo → c ≡ a → c + (min b (hi + 1) - min b lo) ≡ a + (min (b + 1) (hi + 1) - min (b + 1) lo)
      before a c h e = omega arith

      beyond : (a c : ℕ) → hi < b → c ≡ a → c + (min b (hi + 1) - min b lo) ≡ a + (min (b + 1) (hi + 1) - min (b + 1) lo)
      beyond a c h e = omega arith

      one : length (i ∷ []) ≡ 1
      one = refl

      no : covers ix (strip_at s i) b ≡ false → lo ≤ b → hi < b ⊎ b ≤ hi → hi < b
      no f l (inl g) = g
      no f l (inr g) = absurd (true≢false (sym (covers_yes ix s i b l g) ∙ f))

      outside : covers ix (strip_at s i) b ≡ false → (b < lo) ⊎ (lo ≤ b) → length (entered_from ix s (i + 1) b) + covered b ≡ length (entered_from ix s i b) + covered (b + 1)
      outside f (inl l) = before (length (entered_from ix s i b)) (length (entered_from ix s (i + 1) b)) l (ap length (entered_no ix s i b f))
      outside f (inr l) = beyond (length (entered_from ix s i b)) (length (entered_from ix s (i + 1) b)) (no f l (below_or_not hi b)) (ap length (entered_no ix s i b f))

      go : (covers ix (strip_at s i) b ≡ true) ⊎ (covers ix (strip_at s i) b ≡ false) → length (entered_from ix s (i + 1) b) + covered b ≡ length (entered_from ix s i b) + covered (b + 1)
      go (inl t) = let q = covers-parts ix s i b t in inside (length (entered_from ix s i b)) (length (entered_from ix s (i + 1) b)) q.0 q.1 (ap length (entered_yes ix s i b t) ∙ length-append (entered_from ix s i b) (i ∷ []))
      go (inr f) = outside f (below_or_not b lo)

  start_more : (b : ℕ) → start_of ix s (i + 1) b ≡ start_of ix s i b + covered b
  start_more zero = sums (start_of ix s (i + 1) 0) (start_of ix s i 0) (start_first ix s (i + 1)) (start_first ix s i)
    where
      sums : (a c : ℕ) → a ≡ 0 → c ≡ 0 → a ≡ c + (min 0 (hi + 1) - min 0 lo)
      sums a c d e = omega arith
  start_more (suc b) =
      let q : b + 1 ≡ suc b = add-one b in
      subst (λ (m : ℕ). start_of ix s (i + 1) m ≡ start_of ix s i m + covered m) q
      (sums (start_of ix s (i + 1) (b + 1)) (start_of ix s i (b + 1)) (start_of ix s (i + 1) b) (start_of ix s i b) (length (entered_from ix s (i + 1) b)) (length (entered_from ix s i b)) (covered b) (covered (b + 1))
      (start-next ix s (i + 1) b) (start-next ix s i b) (start_more b) (bucket_more b))
    where
      sums : (a c d e f g u v : ℕ) → a ≡ d + f → c ≡ e + g → d ≡ e + u → f + u ≡ g + v → a ≡ c + v
      sums a c d e f g u v p q r t = omega arith

  all_covered : (l h : ℕ) → l ≤ 511 → h ≤ 511 → min 512 (h + 1) - min 512 l ≡ h + 1 - l
  all_covered l h a b = omega arith

  strip_more : start_of ix s (i + 1) buckets ≡ start_of ix s i buckets + (hi + 1 - lo)
  strip_more = start_more buckets ∙ ap (λ (m : ℕ). start_of ix s i buckets + m) (all_covered lo hi (bucket_top ix (strip_at s i).x0) (bucket_top ix (strip_at s i).x1))

-- ---- the strips of a copy
module _ (ix : Index) (apart : List Float) (x y : Float) (s : List Float) (n k : ℕ) (h : (i : ℕ) → i < k → strip_at s (n + i) ≡ moved_by (strip_at apart i) x y) where
  width_is : (i : ℕ) → i < k → bucket_in ix (strip_at s (n + i)).x1 + 1 - bucket_in ix (strip_at s (n + i)).x0 ≡ width_at ix (strip_at apart i) x
  unfolding width_at moved_by
  width_is i l = ap (λ (p : Trapezoid). bucket_in ix p.x1 + 1 - bucket_in ix p.x0) (h i l)

  widths_zero : widths_to ix apart x 0 ≡ 0
  unfolding widths_to
  widths_zero = refl

  widths_suc : (j : ℕ) → widths_to ix apart x (suc j) ≡ widths_to ix apart x j + width_at ix (strip_at apart j) x
  unfolding widths_to
  widths_suc j = refl

  starts_more : (j : ℕ) → j ≤ k → start_of ix s (n + j) buckets ≡ start_of ix s n buckets + widths_to ix apart x j
  starts_more zero l = let e : n + 0 ≡ n = omega arith in ap (λ (m : ℕ). start_of ix s m buckets) e ∙ sums (start_of ix s n buckets) (widths_to ix apart x 0) widths_zero
    where
      sums : (a b : ℕ) → b ≡ 0 → a ≡ a + b
      sums a b e = omega arith
  starts_more (suc j) l =
      let e : n + suc j ≡ n + j + 1 = omega arith in
      ap (λ (m : ℕ). start_of ix s m buckets) e
      ∙ sums (start_of ix s (n + j + 1) buckets) (start_of ix s (n + j) buckets) (start_of ix s n buckets) _ (widths_to ix apart x j) (width_at ix (strip_at apart j) x) (widths_to ix apart x (suc j)) (strip_more ix s (n + j)) (width_is j (omega arith)) (starts_more j (omega arith)) (widths_suc j)
    where
      sums : (a b c w d v t : ℕ) → a ≡ b + w → w ≡ v → b ≡ c + d → t ≡ d + v → a ≡ c + t
      sums a b c w d v t p q r u = omega arith

  -- as many more as they have widths
  pub entries-sum : length (entries_of ix s (n + k)) ≡ length (entries_of ix s n) + widths_to ix apart x k
  entries-sum = sym (start-last ix s (n + k)) ∙ (starts_more k (omega arith) ∙ ap (λ (m : ℕ). m + widths_to ix apart x k) (start-last ix s n))

  -- with the entries that lie there
  pub entries_more : (e st : List ℕ) → Laid ix s n e st → length (entries_of ix s (n + k)) ≡ get_or st buckets 0 + widths_to ix apart x k
  entries_more e st L = sym (start-last ix s (n + k)) ∙ (starts_more k (omega arith) ∙ ap (λ (m : ℕ). m + widths_to ix apart x k) (sym (laid-starts ix s n e st L buckets (omega arith))))
