-- The numbers of new entries, which the marks tell, and where buckets begin with them. Assumes nothing.
use Prim.Native.Nat.{ℕ, zero, suc, ◌+◌, ◌-◌, ◌<◌, ◌≤◌, min}
use native.Mathlib.Omega.{arith}
use native.Mathlib.Numerals.{add-one}
use mathlib.Core.Path.{◌≡◌, sym, ap, ◌∙◌, subst}
use mathlib.Core.Logic.{◌⊎◌, inl, inr}
use mathlib.Core.List.{List, map}
use lib.ListN.{length, get_or}
use lib.Ieee.{Float}
use Rattle.numbers.proofs.Truth.{below_or_not}
use Rattle.trapezoid.specs.Strip.{strip_at}
use Rattle.index.specs.declared.Index.{Index}
use Rattle.index.specs.Buckets.{buckets, up_from, bucket_in}
use Rattle.index.proofs.Steps.{bucket_top}
use Rattle.index.proofs.Flat.{get_d_up_from}
use Rattle.enter.specs.inner.EntryRoom.{start_of}
use Rattle.enter.specs.span_marks.inner.NewEntries.{one, new_in, Within}
use Rattle.enter.proofs.span_marks.NewIn.{one_inside, one_outside, new_none, new-next}
use Rattle.enter.proofs.span_marks.Spans.{within-early, within-late}
use Rattle.enter.proofs.span_marks.Marking.{Marking}
use Rattle.enter.specs.inner.Gaps.{Counted}
use Rattle.gaps.specs.inner.OpenGaps.{before, Marked}
use Rattle.gaps.proofs.Before.{before-first, before-next}
use Rattle.enter.proofs.Starts.{start_gain, start_more}

-- ---- the numbers of new entries, bucket by bucket
pub gains_of : Index → List Float → ℕ → ℕ → List ℕ
gains_of ix standing c i = map (λ b. length (new_in ix standing c i b)) (up_from (buckets + 1) 0)

pub gains_at : (ix : Index) (standing : List Float) (c i b : ℕ) → b ≤ buckets → get_or (gains_of ix standing c i) b 0 ≡ length (new_in ix standing c i b)
unfolding gains_of
gains_at ix standing c i b h = let e : 0 + b ≡ b = omega arith in get_d_up_from (λ b. length (new_in ix standing c i b)) (buckets + 1) 0 b 0 (omega arith) ∙ ap (λ (k : ℕ). length (new_in ix standing c i k)) e

pub gains_counted : (ix : Index) (standing : List Float) (c i : ℕ) → Counted ix standing c i (gains_of ix standing c i)
gains_counted ix standing c i = record { counts = λ b h. gains_at ix standing c i b (omega arith) }

-- ---- as many new entries as buckets
pub before-one : (g : List ℕ) (lo hi : ℕ) → ((b : ℕ) → b < buckets → get_or g b 0 ≡ one lo hi b) → (n : ℕ) → n ≤ buckets → before g n ≡ min (hi + 1) n - lo
before-one g lo hi f zero h = let z = before-first g in omega arith
before-one g lo hi f (suc n) h = go (before-one g lo hi f n (omega arith)) (f n (omega arith)) (below_or_not n lo) (below_or_not hi n)
  where
    next : before g (suc n) ≡ before g n + get_or g n 0
    next = ap (before g) (sym (add-one n)) ∙ before-next g n

    early : n < lo → lo ≤ n → ⊥
    early h l = omega arith

    late : hi < n → n ≤ hi → ⊥
    late h l = omega arith

    shut : n < lo → (min (hi + 1) n - lo ≡ 0) × (min (hi + 1) (suc n) - lo ≡ 0)
    shut h = (omega arith, omega arith)

    same : hi < n → min (hi + 1) n - lo ≡ min (hi + 1) (suc n) - lo
    same t = omega arith

    more : lo ≤ n → n ≤ hi → min (hi + 1) (suc n) - lo ≡ min (hi + 1) n - lo + 1
    more h t = omega arith

    tidy : (a b d w u v : ℕ) → a ≡ u → b ≡ w → d ≡ a + b → v ≡ u + w → d ≡ v
    tidy a b d w u v p q r s = omega arith

    go : before g n ≡ min (hi + 1) n - lo → get_or g n 0 ≡ one lo hi n → (n < lo) ⊎ (lo ≤ n) → (hi < n) ⊎ (n ≤ hi) → before g (suc n) ≡ min (hi + 1) (suc n) - lo
    go i e (inl a) t = let z = one_outside lo hi n (λ p q. early a p) in let s = shut a in tidy (before g n) (get_or g n 0) (before g (suc n)) 0 (min (hi + 1) n - lo) (min (hi + 1) (suc n) - lo) i (e ∙ z) next (let x = s.0 in let y = s.1 in omega arith)
    go i e (inr a) (inl t) = let z = one_outside lo hi n (λ p q. late t q) in let s = same t in tidy (before g n) (get_or g n 0) (before g (suc n)) 0 (min (hi + 1) n - lo) (min (hi + 1) (suc n) - lo) i (e ∙ z) next (omega arith)
    go i e (inr a) (inr t) = tidy (before g n) (get_or g n 0) (before g (suc n)) 1 (min (hi + 1) n - lo) (min (hi + 1) (suc n) - lo) i (e ∙ one_inside lo hi n a t) next (more a t)

-- the new entries of one strip
module _ (ix : Index) (standing : List Float) (i lo hi : ℕ) (x : lo ≡ bucket_in ix (strip_at standing i).x0) (y : hi ≡ bucket_in ix (strip_at standing i).x1) where
  each : (b : ℕ) → b < buckets → get_or (gains_of ix standing 1 i) b 0 ≡ one lo hi b
  each b h =
      let e : i + 1 - i ≡ 1 = omega arith in
      let z : i - i ≡ 0 = omega arith in
      let n = new-next ix standing i i lo hi b (native.Mathlib.Nat.le_refl i) x y in
      let m : length (new_in ix standing 1 i b) ≡ length (new_in ix standing 0 i b) + one lo hi b = ap (λ (k : ℕ). length (new_in ix standing k i b)) (sym e) ∙ (n ∙ ap (λ (k : ℕ). length (new_in ix standing k i b) + one lo hi b) z) in
      let w = new_none ix standing i b in
      gains_at ix standing 1 i b (omega arith) ∙ (m ∙ omega arith)

  -- where a bucket begins when the strip is entered
  pub strip-starts : (b : ℕ) → b ≤ buckets → start_of ix standing (i + 1) b ≡ start_of ix standing i b + (min (hi + 1) b - lo)
  strip-starts b h = start_gain ix standing i 1 (gains_of ix standing 1 i) (gains_counted ix standing 1 i) b h ∙ ap (λ (k : ℕ). start_of ix standing i b + k) (before-one (gains_of ix standing 1 i) lo hi each b h)

  pub start-strip : start_of ix standing (i + 1) buckets ≡ start_of ix standing i buckets + (hi + 1 - lo)
  start-strip =
      let t = bucket_top ix (strip_at standing i).x1 in
      let e : min (hi + 1) buckets ≡ hi + 1 = omega arith in
      strip-starts buckets (omega arith) ∙ ap (λ (k : ℕ). start_of ix standing i buckets + (k - lo)) e

pub start_over : (ix : Index) (standing : List Float) (i to : ℕ) → i < to → start_of ix standing (i + 1) buckets ≤ start_of ix standing to buckets
start_over ix standing i to h = start_more ix standing (i + 1) to buckets (omega arith)

-- ---- all marks of a copy
none_before : (g : List ℕ) (n : ℕ) → ((c : ℕ) → c < n → get_or g c 0 ≡ 0) → before g n ≡ 0
none_before g zero z = before-first g
none_before g (suc n) z = ap (before g) (sym (add-one n)) ∙ (before-next g n ∙ (let a = none_before g n (λ c l. z c (omega arith)) in let b = z n (omega arith) in let q : before g n + get_or g n 0 ≡ 0 = omega arith in q))

pub marked_copy : (ix : Index) (standing : List Float) (from to first end : ℕ) (m : List ℕ) → from ≤ to → end ≤ buckets → Within ix standing from to first end → Marking ix standing from to to first end m → Marked (to - from) end (gains_of ix standing (to - from) from) m
marked_copy ix standing from to first end m h w W K = record { falls = λ b l p. falls b l p (below_or_not b first); late = λ b l u. gains_at ix standing (to - from) from b u ∙ within-late ix standing from to first end b h W l }
  where
    g : List ℕ
    g = gains_of ix standing (to - from) from

    falls : (b : ℕ) → b < end → 0 < before g (b + 1) → (b < first) ⊎ (first ≤ b) → get_or m b 0 + get_or g (b + 1) 0 ≡ to - from + get_or g b 0
    falls b l p (inl a) = absurd (no (none_before g (b + 1) (λ c d. gains_at ix standing (to - from) from c (omega arith) ∙ within-early ix standing from to first end c h W (omega arith))))
      where
        no : before g (b + 1) ≡ 0 → ⊥
        no z = omega arith
    falls b l p (inr a) = let k = K b a l in let x = gains_at ix standing (to - from) from (b + 1) (omega arith) in let y = gains_at ix standing (to - from) from b (omega arith) in omega arith

-- as many as were measured
pub copy_more : (ix : Index) (standing : List Float) (from to more : ℕ) → from ≤ to → start_of ix standing to buckets ≡ start_of ix standing from buckets + more → more ≡ before (gains_of ix standing (to - from) from) buckets
copy_more ix standing from to more h q =
    let e : from + (to - from) ≡ to = omega arith in
    let s = start_gain ix standing from (to - from) (gains_of ix standing (to - from) from) (gains_counted ix standing (to - from) from) buckets (omega arith) in
    let t : start_of ix standing to buckets ≡ start_of ix standing from buckets + before (gains_of ix standing (to - from) from) buckets = subst (λ (k : ℕ). start_of ix standing k buckets ≡ start_of ix standing from buckets + before (gains_of ix standing (to - from) from) buckets) e s in
    omega arith
