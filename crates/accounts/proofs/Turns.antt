-- Where each kind starts, and one turn of the loop that lays the positions. Assumes nothing.
use Rattle.std.proofs.Common.{◌≡◌, ℕ, ◌+◌, ◌*◌, ◌<◌, ◌≤◌, List, length, get_or, set, sym, refl, ap, ◌∙◌, subst, arith}
use lib.ListN.{length-map}
use lib.Ieee.{Float, nan}
use Rattle.index.specs.Buckets.{up_from}
use Rattle.index.proofs.Flat.{length-up_from}
use Rattle.filling.proofs.Reading.{up_from-same}
use Rattle.accounts.specs.inner.Counting.{stands, sum_to, kind_to, stands_in, by_kind, starts_by}
use Rattle.accounts.specs.inner.Laying.{put_position, state_of}
use Rattle.accounts.proofs.Counts.{stands-most, sum-few, sum_same, kinds_few, Counted, counted_next, at_kind}
use Rattle.accounts.proofs.ByKind.{Filled, filled_next, place-fits, start_of}

module _ (order orientation : List ℕ) (n : ℕ) (t : List ℕ) (e : t ≡ by_kind (λ k. kind_to (stands_in orientation) order k n)) where
  sums_are : (k : ℕ) → k ≤ 64 → sum_to (λ i. get_or t i 0) k ≡ sum_to (λ q. kind_to (stands_in orientation) order q n) k
  sums_are k h = sum_same (λ i. get_or t i 0) (λ q. kind_to (stands_in orientation) order q n) k (λ i l. ap (λ (v : List ℕ). get_or v i 0) e ∙ at_kind (λ q. kind_to (stands_in orientation) order q n) i (omega arith))

  pub sums_few : n ≤ 4096 → (k : ℕ) → k ≤ 64 → sum_to (λ i. get_or t i 0) k ≤ 4294967296
  sums_few l k h =
      let a = sums_are k h in
      let b = kinds_few (stands_in orientation) order k n in
      let d = sum-few (stands_in orientation) n (λ i. stands-most (get_or orientation i 0)) in
      omega arith

  pub starts_are : starts_by (λ i. get_or t i 0) ≡ starts_by (λ k. kind_to (stands_in orientation) order k n)
  starts_are = up_from-same (sum_to (λ i. get_or t i 0)) (sum_to (λ q. kind_to (stands_in orientation) order q n)) 64 0 (λ i a b. sums_are i (omega arith))

module _ (order orientation : List ℕ) (x y gap : List Float) (n : ℕ) (starts copies : List ℕ) (before room : List Float) (i : ℕ)
    (h : i < n) (b : get_or order i 0 < 64) (e : starts ≡ starts_by (λ k. kind_to (stands_in orientation) order k n)) (w : 6 * n ≤ length before)
    (q : Counted (stands_in orientation) order copies i) (f : Filled (state_of order orientation x y gap) n before room i) where
  abbrev k : ℕ
  k = get_or order i 0

  start : get_or starts k 0 ≡ start_of (state_of order orientation x y gap) n k
  start = ap (λ (l : List ℕ). get_or l k 0) e ∙ at_kind (sum_to (λ k. kind_to (stands_in orientation) order k n)) k b

  starts_long : length starts ≡ 64
  starts_long = ap length e ∙ (length-map (up_from 64 0) (sum_to (λ k. kind_to (stands_in orientation) order k n)) ∙ length-up_from 64 0)

  pub put-fits : (k < length starts) × (k < length copies) × (6 * (get_or starts k 0 + get_or copies k 0) + 6 * stands (get_or orientation i 0) ≤ length room)
  put-fits =
      let l = starts_long in
      let m = q.long in
      let a = start in
      let c = q.count k b in
      let d = place-fits (state_of order orientation x y gap) n i h in
      let r = f.long in
      (omega arith, omega arith, omega arith)

  pub put-counted : (after : List ℕ) → after ≡ set copies k (get_or copies k 0 + stands (get_or orientation i 0)) → Counted (stands_in orientation) order after (i + 1)
  put-counted after u = subst (λ (l : List ℕ). Counted (stands_in orientation) order l (i + 1)) (sym u) (counted_next (stands_in orientation) order copies i (stands (get_or orientation i 0)) q b refl)

  abbrev put_as : ℕ → ℕ → List Float
  put_as p c = put_position (get_or orientation i 0) room p k c (get_or x i nan) (get_or y i nan) (get_or gap i nan)

  pub put-filled : (after : List Float) → after ≡ put_as (get_or starts k 0 + get_or copies k 0) (get_or copies k 0)
      → Filled (state_of order orientation x y gap) n before after (i + 1)
  put-filled after u =
      let c = q.count k b in
      let r = f.long in
      let m = start_of (state_of order orientation x y gap) n k + kind_to (stands_in orientation) order k i in
      let p : get_or starts k 0 + get_or copies k 0 ≡ m = let a = start in omega arith in
      subst (λ (l : List Float). Filled (state_of order orientation x y gap) n before l (i + 1))
      (sym (u ∙ (ap (λ (v : ℕ). put_as v (get_or copies k 0)) p ∙ ap (λ (v : ℕ). put_as m v) c)))
      (filled_next (state_of order orientation x y gap) n i h before room (omega arith) f)
