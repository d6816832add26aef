-- The entries of the first n strips, bucket by bucket, and where each bucket begins. Assumes nothing.
use Prim.Native.Nat.{ℕ, zero, suc, ◌+◌, ◌-◌, ◌<◌, ◌≤◌}
use native.Mathlib.Omega.{arith}
use native.Mathlib.Numerals.{add-one}
use mathlib.Core.Path.{◌≡◌, refl, sym, ap, ◌∙◌, subst}
use mathlib.Core.Bool.{Bool, true, false, ◌&&◌, true≢false}
use mathlib.Core.List.{List, [], ◌∷◌, ◌++◌, map, flat_map, append-nil}
use lib.ListN.{length, get_or, take, drop, length-append, length-drop, set, length-map}
use lib.Seq.{slice, take-take, length-slice, get_or-take, get_or-drop, ext_get_or}
use lib.Dec.{T, leb, leb→le}
use lib.Ieee.{Float}
use borrow.Author.Tests.{le-leb}
use Rattle.trapezoid.specs.Strip.{strip_at}
use Rattle.index.specs.declared.Index.{Index}
use Rattle.index.proofs.EntryLists.{entries_by_bucket}
use Rattle.index.specs.Buckets.{buckets, up_from, keep, bucket_in, entries_of}
use Rattle.index.specs.inner.Listing.{Laid, covers, entered_from}
use Rattle.index.proofs.Steps.{keep_yes, keep_no, keep-none}
use Rattle.index.proofs.Flat.{keep_append, flat_snoc, length-up_from, get_d_up_from}
use Rattle.enter.specs.inner.EntryRoom.{entries_in, start_of, starts_of, Rooms, enter_of}
use Rattle.enter.specs.span_marks.inner.NewEntries.{new_in}
use Rattle.index.proofs.entries.Raising.{cleared_to}
use Rattle.enter.proofs.span_marks.NewIn.{up_from_append}
use Rattle.enter.specs.inner.Gaps.{Counted}
use Rattle.gaps.specs.inner.OpenGaps.{before}
use Rattle.gaps.proofs.Before.{before-next, before-first}

-- ---- lists of numbers
one_more : (f : ℕ → List ℕ) (b : ℕ) → flat_map f (up_from (b + 1) 0) ≡ flat_map f (up_from b 0) ++ f b
one_more f b =
    let z : 0 + b ≡ b = omega arith in
    ap (λ (k : ℕ). flat_map f (up_from k 0)) (add-one b) ∙ (flat_snoc f b 0 ∙ ap (λ (k : ℕ). flat_map f (up_from b 0) ++ f k) z)

get_d_slice : (f t : ℕ) (l : List ℕ) (j : ℕ) → f + j < t → get_or (slice f t l) j 0 ≡ get_or l (f + j) 0
get_d_slice f t l j h = get_or-drop f (take t l) j 0 ∙ get_or-take t l (f + j) 0 h

-- ---- tests
pub covers-parts : (ix : Index) (standing : List Float) (i b : ℕ) → covers ix (strip_at standing i) b ≡ true → (bucket_in ix (strip_at standing i).x0 ≤ b) × (b ≤ bucket_in ix (strip_at standing i).x1)
unfolding covers
covers-parts ix standing i b e = go (leb lo b) (leb b hi) (leb→le lo b) (leb→le b hi) e
  where
    lo : ℕ
    lo = bucket_in ix (strip_at standing i).x0

    hi : ℕ
    hi = bucket_in ix (strip_at standing i).x1

    go : (s t : Bool) → (T s → lo ≤ b) → (T t → b ≤ hi) → (s && t) ≡ true → (lo ≤ b) × (b ≤ hi)
    go true true f g q = (f tt, g tt)
    go true false f g q = absurd (true≢false (sym q))
    go false t f g q = absurd (true≢false (sym q))

pub covers_yes : (ix : Index) (standing : List Float) (i b : ℕ) → bucket_in ix (strip_at standing i).x0 ≤ b → b ≤ bucket_in ix (strip_at standing i).x1 → covers ix (strip_at standing i) b ≡ true
unfolding covers
covers_yes ix standing i b h g = rw (le-leb (bucket_in ix (strip_at standing i).x0) b h, le-leb b (bucket_in ix (strip_at standing i).x1) g)

-- ---- the entries of one bucket
module _ (ix : Index) (standing : List Float) where
  abbrev test : ℕ → ℕ → Bool
  test b j = covers ix (strip_at standing j) b

  pub entered_split : (m c b : ℕ) → entered_from ix standing (m + c) b ≡ entered_from ix standing m b ++ new_in ix standing c m b
  unfolding entered_from new_in
  entered_split m c b =
      let z : 0 + m ≡ m = omega arith in
      ap (keep (test b)) (up_from_append m c 0) ∙ (keep_append (test b) (up_from m 0) (up_from c (0 + m)) ∙ rw z)

  new-one : (i b : ℕ) → new_in ix standing 1 i b ≡ keep (test b) (i ∷ [])
  unfolding new_in up_from
  new-one i b = refl

  pub entered_yes : (i b : ℕ) → test b i ≡ true → entered_from ix standing (i + 1) b ≡ entered_from ix standing i b ++ (i ∷ [])
  entered_yes i b e = entered_split i 1 b ∙ ap (λ (l : List ℕ). entered_from ix standing i b ++ l) (new-one i b ∙ (keep_yes (test b) i [] e ∙ ap (λ (l : List ℕ). i ∷ l) (keep-none (test b))))

  pub entered_no : (i b : ℕ) → test b i ≡ false → entered_from ix standing (i + 1) b ≡ entered_from ix standing i b
  entered_no i b e = entered_split i 1 b ∙ (ap (λ (l : List ℕ). entered_from ix standing i b ++ l) (new-one i b ∙ (keep_no (test b) i [] e ∙ keep-none (test b))) ∙ append-nil (entered_from ix standing i b))

  pub entered_more : (m n b : ℕ) → m ≤ n → length (entered_from ix standing m b) ≤ length (entered_from ix standing n b)
  entered_more m n b h =
      let e : m + (n - m) ≡ n = omega arith in
      let s : length (entered_from ix standing n b) ≡ length (entered_from ix standing m b) + length (new_in ix standing (n - m) m b) = ap (λ (k : ℕ). length (entered_from ix standing k b)) (sym e) ∙ (ap length (entered_split m (n - m) b) ∙ length-append (entered_from ix standing m b) (new_in ix standing (n - m) m b)) in
      omega arith

  -- ---- starts
  pub start_first : (n : ℕ) → start_of ix standing n 0 ≡ 0
  unfolding start_of up_from flat_map
  start_first n = refl

  pub start-next : (n b : ℕ) → start_of ix standing n (b + 1) ≡ start_of ix standing n b + length (entered_from ix standing n b)
  unfolding start_of
  start-next n b = ap length (one_more (entered_from ix standing n) b) ∙ length-append (flat_map (entered_from ix standing n) (up_from b 0)) (entered_from ix standing n b)

  pub start-last : (n : ℕ) → start_of ix standing n buckets ≡ length (entries_of ix standing n)
  unfolding start_of
  start-last n = ap length (sym (entries_by_bucket ix standing n))

  start_up : (n b d : ℕ) → start_of ix standing n b ≤ start_of ix standing n (b + d)
  start_up n b zero = let e : b + 0 ≡ b = omega arith in rw e (native.Mathlib.Nat.le_refl (start_of ix standing n b))
  start_up n b (suc d) =
      let e : b + suc d ≡ b + d + 1 = omega arith in
      let h = start_up n b d in
      let s = start-next n (b + d) in
      rw e (omega arith)

  pub start-rise : (n b c : ℕ) → b ≤ c → start_of ix standing n b ≤ start_of ix standing n c
  start-rise n b c h = let e : b + (c - b) ≡ c = omega arith in subst (λ (k : ℕ). start_of ix standing n b ≤ start_of ix standing n k) e (start_up n b (c - b))

  -- more strips, later starts
  pub start_more : (m n b : ℕ) → m ≤ n → start_of ix standing m b ≤ start_of ix standing n b
  start_more m n zero h = let a = start_first m in omega arith
  start_more m n (suc b) h =
      let q : b + 1 ≡ suc b = add-one b in
      let i = start_more m n b h in
      let s = start-next m b in
      let t = start-next n b in
      let u = entered_more m n b h in
      subst (λ (k : ℕ). start_of ix standing m k ≤ start_of ix standing n k) q (omega arith)

  -- ---- what is laid
  module _ (n : ℕ) (e st : List ℕ) (L : Laid ix standing n e st) where
    laid_next : (b : ℕ) → b < buckets → get_or st (b + 1) 0 ≡ get_or st b 0 + length (entered_from ix standing n b)
    laid_next b h =
        let w = L.within (b + 1) (omega arith) in
        let r = L.rise b (b + 1) (omega arith) (omega arith) in
        let s : get_or st (b + 1) 0 - get_or st b 0 ≡ length (entered_from ix standing n b) = sym (length-slice (get_or st b 0) (get_or st (b + 1) 0) e w) ∙ ap length (L.block b h) in
        omega arith

    pub laid-starts : (b : ℕ) → b ≤ buckets → get_or st b 0 ≡ start_of ix standing n b
    laid-starts zero h = L.first ∙ sym (start_first n)
    laid-starts (suc b) h =
        let q : b + 1 ≡ suc b = add-one b in
        let i = laid-starts b (omega arith) in
        let s = start-next n b in
        let t = laid_next b (omega arith) in
        subst (λ (k : ℕ). get_or st k 0 ≡ start_of ix standing n k) q (omega arith)

    pub laid-holds : (b : ℕ) → b < buckets → (j : ℕ) → j < length (entered_from ix standing n b) → get_or e (get_or st b 0 + j) 0 ≡ get_or (entered_from ix standing n b) j 0
    laid-holds b h j l = sym (get_d_slice (get_or st b 0) (get_or st (b + 1) 0) e j (let t = laid_next b h in omega arith)) ∙ ap (λ (k : List ℕ). get_or k j 0) (L.block b h)

    -- the whole list
    prefix : (b : ℕ) → b ≤ buckets → take (get_or st b 0) e ≡ flat_map (entered_from ix standing n) (up_from b 0)
    unfolding flat_map up_from
    prefix zero h = rw L.first
    prefix (suc b) h =
        let r = L.rise b (b + 1) (omega arith) (omega arith) in
        ap (λ (k : ℕ). take (get_or st k 0) e) (sym (add-one b))
        ∙ (sym (lib.ListN.take-append-drop (get_or st b 0) (take (get_or st (b + 1) 0) e))
        ∙ (ap (λ (l : List ℕ). l ++ slice (get_or st b 0) (get_or st (b + 1) 0) e) (take-take (get_or st b 0) (get_or st (b + 1) 0) e r ∙ prefix b (omega arith))
        ∙ (ap (λ (l : List ℕ). flat_map (entered_from ix standing n) (up_from b 0) ++ l) (L.block b (omega arith))
        ∙ (sym (one_more (entered_from ix standing n) b) ∙ ap (λ (k : ℕ). flat_map (entered_from ix standing n) (up_from k 0)) (add-one b)))))

    pub laid-entries : (e₀ : List ℕ) → length e ≡ length e₀ → ((j : ℕ) → start_of ix standing n buckets ≤ j → get_or e j 0 ≡ get_or e₀ j 0) → e ≡ entries_in ix standing n e₀
    unfolding entries_in
    laid-entries e₀ s r =
        let t : get_or st buckets 0 ≡ length (entries_of ix standing n) = laid-starts buckets (omega arith) ∙ start-last n in
        sym (lib.ListN.take-append-drop (get_or st buckets 0) e)
        ∙ (ap (λ (l : List ℕ). l ++ drop (get_or st buckets 0) e) (prefix buckets (omega arith))
        ∙ ap (λ (l : List ℕ). flat_map (entered_from ix standing n) (up_from buckets 0) ++ l) (ap (λ (k : ℕ). drop k e) t ∙ ext_get_or 0 (drop (length (entries_of ix standing n)) e) (drop (length (entries_of ix standing n)) e₀) (simp length-drop (rw s)) (λ i h. get_or-drop (length (entries_of ix standing n)) e i 0 ∙ (r (length (entries_of ix standing n) + i) (let q = start-last n in omega arith) ∙ sym (get_or-drop (length (entries_of ix standing n)) e₀ i 0)))))
        ∙ ap (λ (l : List ℕ). l ++ drop (length (entries_of ix standing n)) e₀) (sym (entries_by_bucket ix standing n))

    pub laid_table : st ≡ starts_of ix standing n
    unfolding starts_of
    laid_table = ext_get_or 0 st (map (start_of ix standing n) (up_from (buckets + 1) 0)) (L.table ∙ sym (length-map (up_from (buckets + 1) 0) (start_of ix standing n) ∙ length-up_from (buckets + 1) 0)) (λ i h. (let t = L.table in let z : 0 + i ≡ i = omega arith in laid-starts i (omega arith) ∙ sym (get_d_up_from (start_of ix standing n) (buckets + 1) 0 i 0 (omega arith) ∙ ap (start_of ix standing n) z)))

-- ---- the answer
module _ (ix : Index) (standing : List Float) (n : ℕ) (r : Rooms) where
  pub enter_fits : length (entries_of ix standing n) ≤ length r.entries → record { fits = true; after = record { entries = entries_in ix standing n r.entries; starts = starts_of ix standing n } } ≡ enter_of ix standing n r
  unfolding enter_of
  enter_fits h = rw (le-leb (length (entries_of ix standing n)) (length r.entries) h, enter_of)

  pub enter_over : length r.entries < length (entries_of ix standing n) → record { fits = false; after = r } ≡ enter_of ix standing n r
  unfolding enter_of
  enter_over h = rw (no (leb (length (entries_of ix standing n)) (length r.entries)) (leb→le (length (entries_of ix standing n)) (length r.entries)), enter_of)
    where
      never : length (entries_of ix standing n) ≤ length r.entries → ⊥
      never l = omega arith

      no : (t : Bool) → (T t → length (entries_of ix standing n) ≤ length r.entries) → t ≡ false
      no true f = absurd (never (f tt))
      no false f = refl

-- ---- a bucket of all strips begins after the old ones' entries and the new ones before it
pub start_gain : (ix : Index) (standing : List Float) (m c : ℕ) (g : List ℕ) → Counted ix standing c m g → (b : ℕ) → b ≤ buckets → start_of ix standing (m + c) b ≡ start_of ix standing m b + before g b
start_gain ix standing m c g C zero h = let a = start_first ix standing (m + c) in let b = start_first ix standing m in let d = before-first g in omega arith
start_gain ix standing m c g C (suc b) h =
    let q : b + 1 ≡ suc b = add-one b in
    let i = start_gain ix standing m c g C b (omega arith) in
    let s = start-next ix standing (m + c) b in
    let t = start-next ix standing m b in
    let u = before-next g b in
    let v : length (entered_from ix standing (m + c) b) ≡ length (entered_from ix standing m b) + get_or g b 0 = ap length (entered_split ix standing m c b) ∙ (length-append (entered_from ix standing m b) (new_in ix standing c m b) ∙ ap (λ (k : ℕ). length (entered_from ix standing m b) + k) (sym (C.counts b (omega arith)))) in
    subst (λ (k : ℕ). start_of ix standing (m + c) k ≡ start_of ix standing m k + before g k) q (omega arith)

-- ---- a table set to zeros
pub cleared-step : (g : List ℕ) (b : ℕ) → b < length g → ((c : ℕ) → c < b → get_or g c 0 ≡ 0) → (c : ℕ) → c < b + 1 → get_or (set g b 0) c 0 ≡ 0
cleared-step g b h z c l = cleared_to g 0 b 0 h (λ d a e. z d e) c (omega arith) l
