-- The kept bucket numbers (document 02, W3): as a list, for fewer strips, for another room with the same strips; and what is listed with them is
-- what is listed by division. Assumes nothing.
use Prim.Native.Nat.{ℕ, zero, suc, ◌+◌, ◌-◌, ◌*◌, ◌<◌, ◌≤◌}
use native.Mathlib.Omega.{arith}
use mathlib.Core.Path.{◌≡◌, refl, sym, ap, ◌∙◌}
use mathlib.Core.Bool.{true, false, ◌||◌}
use mathlib.Core.List.{List, [], map, flat_map}
use lib.ListN.{length, get_or, take}
use lib.Seq.{length-take-le, get_or-take, ext_get_or}
use lib.Dec.{eqb}
use lib.Ieee.{Float}
use Rattle.trapezoid.specs.declared.Trapezoid.{Trapezoid}
use Rattle.trapezoid.specs.Strip.{strip_at, capacity}
use Rattle.index.specs.declared.Index.{Index}
use Rattle.index.specs.declared.Moving.{Moving}
use Rattle.index.specs.Buckets.{up_from, bucket_in, firsts_of}
use Rattle.index.specs.inner.Listing.{pair_of, met_in, entry_of, entry_by, list_entries, list_entries_by, list_bucket, list_bucket_by, Usable, FirstBuckets}
use Rattle.index.proofs.Flat.{flat-same, up_from_mem, get_d_up_from}

length-numbers : (f : ℕ → ℕ) (n c : ℕ) → length (map f (up_from n c)) ≡ n
unfolding up_from
length-numbers f zero c = refl
length-numbers f (suc n) c = ap suc (length-numbers f n (suc c))

module _ (ix : Index) (standing : List Float) (n : ℕ) where
  pub length_firsts : length (firsts_of ix standing n) ≡ n
  unfolding firsts_of
  length_firsts = length-numbers (λ i. bucket_in ix (strip_at standing i).x0) n 0

  pub firsts_at : (i : ℕ) → i < n → get_or (firsts_of ix standing n) i 0 ≡ bucket_in ix (strip_at standing i).x0
  unfolding firsts_of
  firsts_at i h =
      let e : 0 + i ≡ i = omega arith in
      get_d_up_from (λ i. bucket_in ix (strip_at standing i).x0) n 0 i 0 h ∙ ap (λ (j : ℕ). bucket_in ix (strip_at standing j).x0) e

  pub firsts_list : (firsts : List ℕ) → FirstBuckets ix standing n firsts → take n firsts ≡ firsts_of ix standing n
  firsts_list firsts F =
      let t = length-take-le n firsts F.long in
      ext_get_or 0 (take n firsts) (firsts_of ix standing n) (t ∙ sym length_firsts)
      (λ i h. let l : i < n = omega (arith, h, t) in get_or-take n firsts i 0 l ∙ (F.right i l ∙ sym (firsts_at i l)))

  pub list_firsts : (firsts : List ℕ) → take n firsts ≡ firsts_of ix standing n → n ≤ length firsts → FirstBuckets ix standing n firsts
  list_firsts firsts e long = record {
    long = long;
    right = λ i l. sym (get_or-take n firsts i 0 l) ∙ (ap (λ (k : List ℕ). get_or k i 0) e ∙ firsts_at i l);
  }

  pub firsts_fewer : (m : ℕ) (firsts : List ℕ) → m ≤ n → FirstBuckets ix standing n firsts → FirstBuckets ix standing m firsts
  firsts_fewer m firsts h F = record { long = omega (arith, h, F.long); right = λ i l. F.right i (omega arith) }

pub firsts_moved : (ix : Index) (a b : List Float) (n : ℕ) (firsts : List ℕ) → ((i : ℕ) → i < n → strip_at a i ≡ strip_at b i) → FirstBuckets ix a n firsts
    → FirstBuckets ix b n firsts
firsts_moved ix a b n firsts e F = record { long = F.long; right = λ i l. F.right i l ∙ ap (λ (p : Trapezoid). bucket_in ix p.x0) (e i l) }

-- ---- one entry
pub by_true : (m : Moving) (first b f : ℕ) (p : Trapezoid) → eqb b first || eqb f b ≡ true → entry_by m first b f p ≡ pair_of m p
unfolding entry_by
by_true m first b f p e = rw (e, entry_by)

pub by_false : (m : Moving) (first b f : ℕ) (p : Trapezoid) → eqb b first || eqb f b ≡ false → entry_by m first b f p ≡ []
unfolding entry_by
by_false m first b f p e = rw (e, entry_by)

pub by_first : (ix : Index) (m : Moving) (first b f : ℕ) (p : Trapezoid) → f ≡ bucket_in ix p.x0 → entry_by m first b f p ≡ entry_of ix m first b p
unfolding entry_by entry_of met_in
by_first ix m first b f p e = rw e

-- ---- the listings
pub list_by : (ix : Index) (m : Moving) (first b : ℕ) (standing : List Float) (firsts entries : List ℕ) → FirstBuckets ix standing (capacity standing) firsts
    → (from to : ℕ) → ((e : ℕ) → from ≤ e → e < to → 6 * get_or entries e 0 + 6 ≤ length standing)
    → list_entries_by m first b standing firsts entries (to - from) from ≡ list_entries ix m first b standing entries (to - from) from
unfolding list_entries_by list_entries capacity
list_by ix m first b standing firsts entries F from to h =
    flat-same (λ j. entry_by m first b (get_or firsts (get_or entries j 0) 0) (strip_at standing (get_or entries j 0)))
    (λ j. entry_of ix m first b (strip_at standing (get_or entries j 0))) (up_from (to - from) from)
    (λ j u. let w = up_from_mem (to - from) from j u in
    let g = h j w.0 (omega (arith, w.0, w.1)) in
    by_first ix m first b (get_or firsts (get_or entries j 0) 0) (strip_at standing (get_or entries j 0)) (F.right (get_or entries j 0) (omega (arith, g))))

pub moving_by : (ix : Index) (m : Moving) (first last : ℕ) (standing : List Float) (firsts entries starts : List ℕ) → Usable standing entries starts
    → FirstBuckets ix standing (capacity standing) firsts → last < 512
    → flat_map (list_bucket_by m first standing firsts entries starts) (up_from (last + 1 - first) first)
    ≡ flat_map (list_bucket ix m first standing entries starts) (up_from (last + 1 - first) first)
unfolding list_bucket_by list_bucket
moving_by ix m first last standing firsts entries starts A F h =
    flat-same (list_bucket_by m first standing firsts entries starts) (list_bucket ix m first standing entries starts) (up_from (last + 1 - first) first)
    (λ b u. let w = up_from_mem (last + 1 - first) first b u in
    list_by ix m first b standing firsts entries F (get_or starts b 0) (get_or starts (b + 1) 0) (A.strips b (omega (arith, w.0, w.1, h))))
