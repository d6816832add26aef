-- Inner functions' contracts only: the entries of one bucket, the order in which the index lists the counted intervals, the interval room, and
-- what its functions require. Definitions only. Assumes nothing.
use Rattle.std.specs.Prelude.{Option, Some, None}
use Rattle.std.specs.Prelude.{ℕ, ◌+◌, ◌-◌, ◌*◌, ◌/◌, ◌<◌, ◌≤◌, ◌≡◌, Bool, true, false, ◌&&◌, ◌||◌, length, get_or, set, leb, eqb, ltb, Float}
use mathlib.Core.List.{List, [], ◌∷◌, map, flat_map}
use Rattle.std.proofs.Math.Seq.{slice}
use Rattle.std.specs.Float.{nan}
use Rattle.std.specs.Float.Ieee.{lt}
use Rattle.numbers.proofs.Doubles.{k, o, Finite, Upto}
use Rattle.numbers.specs.Numbers.{◌⊕◌, ◌⊖◌, smaller, larger}
use Rattle.trapezoid.specs.declared.Trapezoid.{Trapezoid}
use Rattle.trapezoid.specs.Strip.{strip_at, heights_at}
use Rattle.index.specs.declared.Index.{Index}
use Rattle.index.specs.declared.Interval.{Interval}
use Rattle.index.specs.declared.Moving.{Moving}
use Rattle.index.specs.Buckets.{buckets, up_from, keep, bucket_in}
use Rattle.index.specs.Intervals.{interval_of, interval_in, counts_of}

-- ---- buckets
-- "A standing strip is entered_from in every bucket from its x0 to its x1"
unfoldable pub covers : Index → Trapezoid → ℕ → Bool
covers ix p b = leb (bucket_in ix p.x0) b && leb b (bucket_in ix p.x1)

-- the entries of bucket b: the numbers of the n standing strips of the room that are entered_from in it
unfoldable pub entered_from : Index → List Float → ℕ → ℕ → List ℕ
entered_from ix standing n b = keep (λ i. covers ix (strip_at standing i) b) (up_from n 0)

-- ---- one pair
unfoldable pub moving_of : Trapezoid → Float → Float → Float → Moving
moving_of q x y_low y_high = record { strip = q; x = x; x0 = q.x0 ⊕ x; x1 = q.x1 ⊕ x; y_low = y_low; y_high = y_high }

unfoldable pub heights_of : Trapezoid → Moving → Float → Float → Interval
heights_of p m a b = interval_of (heights_at p a) (heights_at p b) (heights_at m.strip (a ⊖ m.x)) (heights_at m.strip (b ⊖ m.x))

unfoldable pub meeting_at : Moving → Trapezoid → Option Interval
meeting_at m p =
    let a = larger p.x0 m.x0 in
    let b = smaller p.x1 m.x1 in
    elim (lt a b) [ true ↦ Some (heights_of p m a b) | false ↦ None ]

-- the counted interval of a pair, if there is one
unfoldable pub pair_of : Moving → Trapezoid → List Interval
pair_of m p = keep (counts_of m.y_low m.y_high) (interval_in (meeting_at m p))

-- ---- the interval room: pairs of doubles. What is pushed past its end is not kept, and the count says one more than it holds
pub record Collected : Type 0 where
  pub room : List Float
  pub n : ℕ

abbrev pub collected : List Float → ℕ → Collected
collected r n = record { room = r; n = n }

unfoldable pub push : Collected → Interval → Collected
push h i =
    elim (ltb h.n (length h.room / 2)) [
      | true ↦ collected (set (set h.room (2 * h.n) i.from) (2 * h.n + 1) i.to) (h.n + 1)
      | false ↦ collected h.room (length h.room / 2 + 1)
    ]

unfoldable pub push_all : Collected → List Interval → Collected
push_all h [] = h
push_all h (i ∷ is) = push_all (push h i) is

unfoldable pub interval_at : List Float → ℕ → Interval
interval_at r k = record { from = get_or r (2 * k) nan; to = get_or r (2 * k + 1) nan }

-- the first n intervals of a room
unfoldable pub intervals : List Float → ℕ → List Interval
intervals r n = map (interval_at r) (up_from n 0)

-- ---- the listing of the index
-- "met once per moving strip": in the first bucket that both strips have
unfoldable pub met_in : Index → ℕ → ℕ → Trapezoid → Bool
met_in ix first b p = eqb b first || eqb (bucket_in ix p.x0) b

unfoldable pub entry_of : Index → Moving → ℕ → ℕ → Trapezoid → List Interval
entry_of ix m first b p = elim (met_in ix first b p) [ true ↦ pair_of m p | false ↦ [] ]

-- the same with f, the kept number of the bucket of x0
unfoldable pub entry_by : Moving → ℕ → ℕ → ℕ → Trapezoid → List Interval
entry_by m first b f p = elim (eqb b first || eqb f b) [ true ↦ pair_of m p | false ↦ [] ]

-- of the c entries from e on
unfoldable pub list_entries : Index → Moving → ℕ → ℕ → List Float → List ℕ → ℕ → ℕ → List Interval
list_entries ix m first b standing entries c e = flat_map (λ j. entry_of ix m first b (strip_at standing (get_or entries j 0))) (up_from c e)

unfoldable pub list_bucket : Index → Moving → ℕ → List Float → List ℕ → List ℕ → ℕ → List Interval
list_bucket ix m first standing entries starts b = list_entries ix m first b standing entries (get_or starts (b + 1) 0 - get_or starts b 0) (get_or starts b 0)

-- the same two with the kept numbers
unfoldable pub list_entries_by : Moving → ℕ → ℕ → List Float → List ℕ → List ℕ → ℕ → ℕ → List Interval
list_entries_by m first b standing firsts entries c e =
    flat_map (λ j. entry_by m first b (get_or firsts (get_or entries j 0) 0) (strip_at standing (get_or entries j 0))) (up_from c e)

unfoldable pub list_bucket_by : Moving → ℕ → List Float → List ℕ → List ℕ → List ℕ → ℕ → List Interval
list_bucket_by m first standing firsts entries starts b =
    list_entries_by m first b standing firsts entries (get_or starts (b + 1) 0 - get_or starts b 0) (get_or starts b 0)

unfoldable pub list_moving : Index → List Float → List ℕ → List ℕ → Moving → List Interval
list_moving ix standing entries starts m =
    let first = bucket_in ix m.x0 in
    flat_map (list_bucket ix m first standing entries starts) (up_from (bucket_in ix m.x1 + 1 - first) first)

unfoldable pub listed : Index → Float → Float → List Float → List ℕ → List ℕ → List Float → Float → ℕ → ℕ → List Interval
listed ix y_low y_high standing entries starts moving x c j =
    flat_map (λ i. list_moving ix standing entries starts (moving_of (strip_at moving i) x y_low y_high)) (up_from c j)

-- ---- what the functions require
-- every number in the lists can be used: starts lie within the entries, entries within the strips
pub record Usable (standing : List Float) (entries starts : List ℕ) : Type 0 where
  pub table : length starts ≡ buckets + 1
  pub within : (b : ℕ) → b < buckets + 1 → get_or starts b 0 ≤ length entries
  pub strips : (b : ℕ) → b < buckets → (e : ℕ) → get_or starts b 0 ≤ e → e < get_or starts (b + 1) 0 → 6 * get_or entries e 0 + 6 ≤ length standing

-- the entries and starts are those of the first n standing strips
pub record Laid (ix : Index) (standing : List Float) (n : ℕ) (entries starts : List ℕ) : Type 0 where
  pub table : length starts ≡ buckets + 1
  pub first : get_or starts 0 0 ≡ 0
  pub rise : (b c : ℕ) → b ≤ c → c < buckets + 1 → get_or starts b 0 ≤ get_or starts c 0
  pub within : (b : ℕ) → b < buckets + 1 → get_or starts b 0 ≤ length entries
  pub block : (b : ℕ) → b < buckets → slice (get_or starts b 0) (get_or starts (b + 1) 0) entries ≡ entered_from ix standing n b
  pub room : 6 * n ≤ length standing

-- the first n numbers are the first buckets of the first n standing strips (document 02, W3)
pub record FirstBuckets (ix : Index) (standing : List Float) (n : ℕ) (firsts : List ℕ) : Type 0 where
  pub long : n ≤ length firsts
  pub right : (i : ℕ) → i < n → get_or firsts i 0 ≡ bucket_in ix (strip_at standing i).x0

-- a finite double of at most n either way; it may be minus zero
pub record Bounded (n : ℕ) (x : Float) : Type 0 where
  pub fine : Finite x
  pub bound : Upto n x

-- an index whose buckets lie in order
pub record Fair (ix : Index) : Type 0 where
  pub start : Bounded 4000000 ix.x0
  pub width : Finite ix.width
  pub some : o < k ix.width
