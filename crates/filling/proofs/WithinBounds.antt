-- An accepted job's numbers are within the bounds that 31 tests. Assumes nothing.
use mathlib.Core.Path.{◌≡◌, refl, sym, subst}
use mathlib.Core.Bool.{true}
use mathlib.Core.List.{List, [], ◌∷◌, map}
use Prim.Native.Nat.{ℕ, zero, suc, ◌+◌, ◌*◌, ◌≤◌}
use native.Mathlib.Nat.{le_trans, le_refl}
use native.Mathlib.Omega.{arith}
use lib.Dec.{lit≤}
use lib.ListN.{length, get_or}
use lib.Ieee.{Float, binary64}
use Rattle.numbers.specs.Numbers.{◌⊕◌, pos_zero}
use Rattle.numbers.proofs.Ranges.{zero_num, zero-key}
use Rattle.numbers.proofs.Literals.{milli}
use Rattle.numbers.proofs.Doubles.{k, o, Finite, Number, Upto, Small, finite, add_upto, add-number}
use Rattle.trapezoid.proofs.Sizes.{small_more}
use Rattle.strips.proofs.Sizes.{Framed}
use Rattle.bits.proofs.Accepted.{UpFrom}
use Rattle.kinds.specs.Kinds.{Orientation, Kind}
use Rattle.kinds.proofs.Accepted.{Every, GoodSets, GoodKind}
use Rattle.kinds.proofs.sets.Accepted as Sets
use Rattle.frames.specs.declared.Frame.{Frame}
use Rattle.frames.specs.Frames as Frames
use Rattle.frames.proofs.Turned.{framed-good}
use Rattle.job.specs.Jobs.{Job, frame_of, accepted, read_job}
use Rattle.job.proofs.Accepted.{GoodJob, job_good}
use Rattle.filling.specs.Shapes.{Planner, planner_of, Copy, shape_for, no_shape, shape_of, set_bounds}
use Rattle.filling.specs.Consistent.{every, bounded, planner_fits, shape_fits, gap_fits}
use Rattle.filling.proofs.Numbers31.{Yielded, summed, WithinBounds}
use Rattle.filling.proofs.WithinBoundsNumbers.{small-bounded, resolution-fits, zero-small, sum_grows, area-low, area-high, gap-high}
use Rattle.filling.proofs.WithinBoundsPlaces.{place-small}
use Rattle.filling.proofs.WithinBoundsStrips.{set-framed, set-fits, frame-fits, FineShape, shape_fine, shape_fits_lem, lacking_fine}

-- ---- shapes by kind and orientation

row_fits : (f : Frame) (os : List Orientation) → Every GoodSets os → every shape_fits (map (shape_for f) os) ≡ true
unfolding every
row_fits f [] h = refl
row_fits f (t ∷ os) h = rw (shape_fits_lem f t h.0, row_fits f os h.1)

rows_fit : (f : Frame) (ks : List Kind) → Every GoodKind ks → every (every shape_fits) (map (λ k. map (shape_for f) k.orientations) ks) ≡ true
unfolding every
rows_fit f [] h = refl
rows_fit f (k ∷ ks) h = rw (row_fits f k.orientations h.0.sets, rows_fit f ks h.1)

row_fine : (f : Frame) (os : List Orientation) → Every GoodSets os → (o : ℕ) → FineShape (get_or (map (shape_for f) os) o no_shape)
row_fine f [] h o = lacking_fine
row_fine f (t ∷ os) h zero = shape_fine f t h.0
row_fine f (t ∷ os) h (suc o) = row_fine f os h.1 o

rows-fine : (f : Frame) (ks : List Kind) → Every GoodKind ks → (i o : ℕ) → FineShape
    (get_or (get_or (map (λ k. map (shape_for f) k.orientations) ks) i []) o no_shape)
rows-fine f [] h i o = lacking_fine
rows-fine f (k ∷ ks) h zero o = row_fine f k.orientations h.0.sets o
rows-fine f (k ∷ ks) h (suc i) o = rows-fine f ks h.1 i o

-- ---- areas

-- an area of a kind, or of none
area_at : (ks : List Kind) → Every GoodKind ks → (i : ℕ) → UpFrom pos_zero 1000000000000 (get_or (map (λ k. k.area) ks) i pos_zero)
area_at [] h i = record {
  num = zero_num binary64;
  low = le_refl (k pos_zero);
  high = (let z : Small 1000000000000 pos_zero = small_more zero-small
      (lit≤ tt) in z.bound);
}
area_at (k ∷ ks) h zero = h.0.area
area_at (k ∷ ks) h (suc i) = area_at ks h.1 i

-- a sum of at most 4,096 areas, each at most 1e12
pub record Sum (x : Float) : Type 0 where
  pub num : Number x
  pub fine : Finite x
  pub low : o ≤ k x
  pub high : Upto 4096000000000000 x

module _ (p : Planner) (h : (i : ℕ) → UpFrom pos_zero 1000000000000 (get_or p.areas i pos_zero)) where
  summed-within : (cs : List Copy) (m : ℕ) (a : Float) → Small m a → o ≤ k a → m + 1000000000000 * length cs ≤ 4096000000000000 → Sum (summed p a cs)
  unfolding summed
  summed-within [] m a S l b = let w : Small 4096000000000000 a = small_more S (omega arith) in record
      { num = S.num; fine = finite S.num; low = l; high = w.bound }
  summed-within (c ∷ cs) m a S l b =
      let A = h c.kind in
      let r = add_upto (finite S.num) (finite A.num) S.bound A.high (le_trans (step m (length cs) b) (lit≤ tt)) in
      let f : o ≤ k (get_or p.areas c.kind pos_zero) = subst (λ (n : ℕ). n ≤ k (get_or p.areas c.kind pos_zero)) (zero-key binary64) A.low in
      summed-within cs (m + 1000000000000) (a ⊕ get_or p.areas c.kind pos_zero) (record { num = add-number S.num (finite A.num) r.0; bound = r.1 })
      (sum_grows (finite S.num) (finite A.num) l f) (next m (length cs) b)
    where
      step : (m n : ℕ) → m + 1000000000000 * suc n ≤ 4096000000000000 → m + 1000000000000 ≤ 4096000000000000
      step m n b = omega arith

      next : (m n : ℕ) → m + 1000000000000 * suc n ≤ 4096000000000000 → m + 1000000000000 + 1000000000000 * n ≤ 4096000000000000
      next m n b = omega arith

  pub sums : (cs : List Copy) → length cs ≤ 4096 → Sum (summed p pos_zero cs)
  sums cs l = summed-within cs 0 pos_zero zero-small (native.Mathlib.Nat.le_of_eq (sym (zero-key binary64))) (omega arith)

-- ---- an accepted job

module _ (j : Job) (g : GoodJob j) where
  abbrev P : Planner
  P = planner_of j

  -- the sheet in the frame keeps what the reader promises of it
  pub sheet-good : Sets.Good (Frames.framed (frame_of j.header) j.sheet) g.sheet_points
  sheet-good = framed-good (frame_of j.header) j.sheet g.sheet_points g.sheet

  pub framed : Framed P.bounds
  unfolding planner_of
  framed = set-framed (Frames.framed (frame_of j.header) j.sheet) g.sheet_points sheet-good

  pub resolution_in : UpFrom milli 10000 P.resolution
  unfolding planner_of
  resolution_in = g.header.resolution

  planner_fits_lem : planner_fits P ≡ true
  unfolding planner_of planner_fits
  planner_fits_lem = rw (
    resolution-fits g.header.resolution,
    set-fits (Frames.framed (frame_of j.header) j.sheet) g.sheet_points sheet-good true,
    frame-fits (set_bounds (Frames.framed (frame_of j.header) j.sheet)) framed,
    rows_fit (frame_of j.header) j.kinds g.kinds,
  )

  pub shape : (i o : ℕ) → FineShape (shape_of P i o)
  unfolding planner_of shape_of
  shape i o = rows-fine (frame_of j.header) j.kinds g.kinds i o

  pub area : (i : ℕ) → UpFrom pos_zero 1000000000000 (get_or P.areas i pos_zero)
  unfolding planner_of
  area i = area_at j.kinds g.kinds i

  pub place : (i n : ℕ) (x y g : Float) → Yielded P (shape_of P i n) x y g → Small 610000 x × Small 200000 y × Small 400000 g × (o ≤ k g)
  place i n x y g Y = place-small P (shape_of P i n) resolution_in framed (shape i n).frame x y g Y

  right-bounded : (i o : ℕ) (x y g : Float) → Yielded P (shape_of P i o) x y g → bounded (x ⊕ (shape_of P i o).bounds.right) ≡ true
  right-bounded i o x y g Y =
      let X = (place i o x y g Y).0 in
      let R = (shape i o).frame.right in
      let r = add_upto (finite X.num) (finite R.num) X.bound R.bound (lit≤ tt) in
      let S : Small 710000 (x ⊕ (shape_of P i o).bounds.right) = record { num = add-number X.num (finite R.num) r.0; bound = r.1 } in
      small-bounded S (lit≤ tt)

  gap-fits : (i o : ℕ) (x y g : Float) → Yielded P (shape_of P i o) x y g → gap_fits g ≡ true
  unfolding gap_fits
  gap-fits i o x y g Y =
      let w = place i o x y g Y in
      let G = finite w.2.num in
      rw (area-low G w.3, gap-high w.2)

  pub job-within : WithinBounds P
  job-within =
      record {
        own = planner_fits_lem;
        strips = λ i o x y g Y. (shape i o).moved x y (place i o x y g Y).0 (place i o x y g Y).1;
        right = right-bounded;
        gaps = gap-fits;
        position = λ i o x y g Y. (small-bounded (place i o x y g Y).0 (lit≤ tt), small-bounded (place i o x y g Y).1 (lit≤ tt));
        sums_low = λ cs l. (let s = sums P area cs l in area-low s.fine s.low);
        sums_high = λ cs l. (let s = sums P area cs l in area-high s.fine s.high);
      }

-- what 31 judges by: every number of an accepted job, and of its strips wherever a search can place them
pub jobs_within : (bytes : List ℕ) (j : Job) → read_job bytes ≡ accepted j → WithinBounds (planner_of j)
jobs_within bytes j e = job-within j (job_good bytes j e).good
