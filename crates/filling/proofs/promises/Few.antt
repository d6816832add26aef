-- How many strips, entries and intervals there can be. Assumes nothing.
use Rattle.std.specs.Prelude.{Option, Some, None}
use Prim.Native.Nat.{ℕ, zero, suc, ◌+◌, ◌*◌, ◌≤◌, ◌<◌}
use native.Mathlib.Nat.{le_trans}
use native.Mathlib.Omega.{arith}
use mathlib.Core.Path.{◌≡◌, refl, subst, ◌∙◌}
use mathlib.Core.Bool.{Bool, true, false, ◌&&◌}
use mathlib.Core.List.{List, [], ◌∷◌, ◌++◌, map, flat_map}
use lib.ListN.{length, get_or, length-append, length-map}
use lib.Dec.{leb}
use borrow.Author.Tests.{le-ltb}
use lib.Ieee.{Float}
use Rattle.trapezoid.specs.Strip.{strip_at, capacity, moved_by}
use Rattle.index.specs.declared.Index.{Index}
use Rattle.index.specs.declared.Interval.{Interval}
use Rattle.index.specs.Buckets.{up_from, keep, Span, span_of, numbers_in, by_bucket, entries_of}
use Rattle.index.specs.Intervals.{interval_in, meeting_of, forbidden_of, counted_of}
use Rattle.index.proofs.Flat.{length-up_from}
use Rattle.look.specs.Looking.{counted_in}
use Rattle.filling.specs.declared.State.{State}
use Rattle.filling.specs.Shapes.{Planner, Shape, no_shape, shape_of, Standing, moved_strips, copy_strips, standing_strips}
use Rattle.filling.specs.Columns.{column_at}
use Rattle.filling.specs.Search.{Found, Track, ranges_of, intervals_at, looks}
use Rattle.filling.specs.Choice.{Choice}
use Rattle.filling.specs.State.{stands_at, standing_to}
use Rattle.filling.specs.NextCopy.{interval_counts, any_above, new_strips}
use Rattle.filling.proofs.Reading.{Sixfold, sixfold_flat, capacity_append, length-flat}
use Rattle.filling.proofs.Steps.{standing_sixfold}

-- ---- how many

pub flat_map-few : {A B : Type 0} (f : A → List B) (n : ℕ) → ((a : A) → length (f a) ≤ n) → (l : List A) → length (flat_map f l) ≤ length l * n
unfolding flat_map
flat_map-few f n h [] = omega arith
flat_map-few f n h (a ∷ l) =
    let x = h a in
    let y = flat_map-few f n h l in
    let e : suc (length l) * n ≡ n + length l * n = omega arith in
    simp length-append (rw e (let z : length (f a) + length (flat_map f l) ≤ n + length l * n = omega arith in z))

keep-few : {A : Type 0} (t : A → Bool) (l : List A) → length (keep t l) ≤ length l
unfolding keep
keep-few t [] = omega arith
keep-few {A = A} t (a ∷ l) = go (t a) (keep-few t l)
  where
    go : (b : Bool) → length (keep t l) ≤ length l → length {A = A} (elim b [ true ↦ a ∷ keep t l | false ↦ keep t l ]) ≤ suc (length l)
    go true h = omega arith
    go false h = omega arith

one-few : (m : Option Interval) → length (interval_in m) ≤ 1
unfolding interval_in
one-few None = omega arith
one-few (Some i) = omega arith

-- at most one interval for each pair of strips
pairs-few : (standing moving : List Float) (x : Float) → length (forbidden_of standing moving x) ≤ capacity moving * capacity standing
unfolding forbidden_of
pairs-few standing moving x = rw (length-up_from (capacity moving) 0) at (flat_map-few against (capacity standing) each (up_from (capacity moving) 0))
  where
    against : ℕ → List Interval
    against j = flat_map (λ i. interval_in (meeting_of (strip_at moving j) x (strip_at standing i))) (up_from (capacity standing) 0)

    each : (j : ℕ) → length (against j) ≤ capacity standing
    each j =
        let a = flat_map-few (λ i. interval_in (meeting_of (strip_at moving j) x (strip_at standing i))) 1 (λ i. one-few (meeting_of (strip_at moving j) x (strip_at standing i))) (up_from (capacity standing) 0) in
        let e = length-up_from (capacity standing) 0 in
        omega arith

counted-few : (yl yh : Float) (standing moving : List Float) (x : Float) → length (counted_of yl yh standing moving x) ≤ capacity moving * capacity standing
unfolding counted_of
counted-few yl yh standing moving x = le_trans (keep-few _ (forbidden_of standing moving x)) (pairs-few standing moving x)

-- at most 512 entries for each strip
numbers-few : (b i : ℕ) (ss : List Span) → length (numbers_in b i ss) ≤ length ss
unfolding numbers_in
numbers-few b i [] = omega arith
numbers-few b i (s ∷ ss) = go (leb s.first b && leb b s.last) (numbers-few b (suc i) ss)
  where
    go : (t : Bool) → length (numbers_in b (suc i) ss) ≤ length ss → length {A = ℕ} (elim t [ true ↦ i ∷ numbers_in b (suc i) ss | false ↦ numbers_in b (suc i) ss ]) ≤ suc (length ss)
    go true h = omega arith
    go false h = omega arith

pub entries-few : (ix : Index) (standing : List Float) (n : ℕ) → length (entries_of ix standing n) ≤ 512 * n
unfolding entries_of by_bucket
entries-few ix standing n = rw (length-up_from 512 0) at (flat_map-few (λ b. numbers_in b 0 spans) n each (up_from 512 0))
  where
    spans : List Span
    spans = map (λ i. span_of ix (strip_at standing i)) (up_from n 0)

    each : (b : ℕ) → length (numbers_in b 0 spans) ≤ n
    each b = subst (λ (m : ℕ). length (numbers_in b 0 spans) ≤ m) (length-map (up_from n 0) (λ i. span_of ix (strip_at standing i)) ∙ length-up_from n 0) (numbers-few b 0 spans)

-- ---- the strips of the standing copies

pub moved-capacity : (part : List Float) (x y : Float) → capacity (moved_strips part x y) ≡ capacity part
unfolding moved_strips capacity
moved-capacity part x y =
    let l = map (λ i. moved_by (strip_at part i) x y) (up_from (capacity part) 0) in
    let a = length-flat l in
    let b : length l ≡ capacity part = length-map (up_from (capacity part) 0) (λ i. moved_by (strip_at part i) x y) ∙ length-up_from (capacity part) 0 in
    omega arith

module _ (p : Planner) (m : ℕ) (few : (k o : ℕ) → capacity (shape_of p k o).apart ≤ m) where
  copy_few : (c : Standing) → capacity (copy_strips p c) ≤ m
  unfolding copy_strips
  copy_few c = rw (moved-capacity (shape_of p c.copy.kind c.orientation).apart c.x c.y) (few c.copy.kind c.orientation)

  pub new-few : (k : ℕ) (c : Choice) → capacity (new_strips p k c) ≤ m
  unfolding new_strips
  new-few k c = rw (moved-capacity (shape_of p k c.orientation).apart c.x c.y) (few k c.orientation)

  copy_sixfold : (c : Standing) → Sixfold (copy_strips p c)
  unfolding copy_strips moved_strips
  copy_sixfold c = sixfold_flat (map _ (up_from (capacity (shape_of p c.copy.kind c.orientation).apart) 0))

  pub standing-few : (cs : List Standing) → capacity (standing_strips p cs) ≤ length cs * m
  unfolding standing_strips flat_map
  standing-few [] = unfold capacity in omega arith
  standing-few (c ∷ cs) =
      let e : capacity (copy_strips p c ++ flat_map (copy_strips p) cs) ≡ capacity (copy_strips p c) + capacity (flat_map (copy_strips p) cs) = capacity_append (copy_strips p c) (flat_map (copy_strips p) cs) (copy_sixfold c) (unfold standing_strips in standing_sixfold p cs) in
      let a = copy_few c in
      let b = standing-few cs in
      let f : suc (length cs) * m ≡ m + length cs * m = omega arith in
      rw (e, f) (let z : capacity (copy_strips p c) + capacity (flat_map (copy_strips p) cs) ≤ m + length cs * m = omega arith in z)

stands_one : (s : State) (n o : ℕ) → length (stands_at s n o) ≤ 1
unfolding stands_at
stands_one s n zero = omega arith
stands_one s n (suc o) = omega arith

pub stands-few : (s : State) (n : ℕ) → length (standing_to s n) ≤ n
unfolding standing_to
stands-few s zero = omega arith
stands-few s (suc n) =
    let a = stands-few s n in
    let b = stands_one s n (get_or s.layout.orientation n 0) in
    simp length-append (omega arith)

-- ---- 22

all-below : (room : ℕ) (f : ℕ → ℕ) → ((c : ℕ) → f c ≤ room) → (l ns : List ℕ) → any_above room ns ≡ false → any_above room (map f l ++ ns) ≡ false
unfolding any_above
all-below room f h [] ns e = e
all-below room f h (c ∷ l) ns e = rw (le-ltb room (f c) (h c), all-below room f h l ns e)

module _ (p : Planner) (st : List Float) (room : ℕ) where
  pub counts-below : (ss : List Shape) (ts : List Track) (fs : List Found) → ((i : ℕ) → i < length ss → (c : ℕ) → length (intervals_at p st (get_or ss i no_shape) c) ≤ room) → any_above room (interval_counts p st ss ts fs) ≡ false
  unfolding interval_counts
  counts-below [] ts fs h = unfold any_above in refl
  counts-below (s ∷ ss) [] fs h = unfold any_above in refl
  counts-below (s ∷ ss) (t ∷ ts) [] h = unfold any_above in refl
  counts-below (s ∷ ss) (t ∷ ts) (f ∷ fs) h =
      all-below room (λ c. length (intervals_at p st s c)) (h 0 (omega arith)) (looks p s t.next_column f) (interval_counts p st ss ts fs) (counts-below ss ts fs (λ i l. h (suc i) (omega arith)))

pub look_few : (p : Planner) (st : List Float) (s : Shape) (c : ℕ) → length (intervals_at p st s c) ≤ capacity s.inset * capacity p.sheet + capacity s.apart * capacity st
unfolding intervals_at counted_in
look_few p st s c =
    let r = ranges_of p s in
    let x = column_at p.resolution r c in
    let a = counted-few r.y_low r.y_high p.sheet s.inset x in
    let b = counted-few r.y_low r.y_high st s.apart x in
    rw (length-append (counted_of r.y_low r.y_high p.sheet s.inset x) (counted_of r.y_low r.y_high st s.apart x))
    (let z : length (counted_of r.y_low r.y_high p.sheet s.inset x) + length (counted_of r.y_low r.y_high st s.apart x) ≤ capacity s.inset * capacity p.sheet + capacity s.apart * capacity st = omega arith in z)
