-- The strips and bounds of an accepted job's sets, and the strips moved to a place of a bounded x and y, pass the tests of 31. Assumes nothing.
use mathlib.Core.Path.{◌≡◌, refl, sym, ap, subst, ◌∙◌}
use mathlib.Core.Bool.{Bool, true, false, ◌&&◌}
use mathlib.Core.List.{List, [], ◌∷◌, map}
use Prim.Native.Nat.{ℕ, zero, suc, ◌+◌, ◌*◌, ◌/◌, ◌≤◌, ◌<◌}
use native.Mathlib.Nat.{le_of_lt}
use native.Mathlib.Omega.{arith}
use lib.Dec.{lit≤}
use lib.ListN.{length, get_or}
use lib.Ieee.{Float, nan}
use Rattle.numbers.specs.Numbers.{pos_zero}
use Rattle.numbers.proofs.Doubles.{k, Number, Small, finite}
use Rattle.trapezoid.specs.declared.Trapezoid.{Trapezoid}
use Rattle.trapezoid.specs.Strip.{strip_at, flat, capacity, moved_by}
use Rattle.trapezoid.proofs.Sizes.{Sized, small_more, moved-sized, moved_order}
use Rattle.slabs.proofs.Sizes.{Good}
use Rattle.slabs.proofs.Merging.{All}
use Rattle.strips.specs.declared.Rect.{Rect}
use Rattle.strips.specs.Strips.{trapezoids}
use Rattle.strips.proofs.Sizes.{Framed, bounds-framed, trapezoids-good}
use Rattle.strips.specs.inner.Tables.{Loops}
use Rattle.index.specs.Buckets.{up_from}
use Rattle.look.proofs.height.SmallestHeight.{real_of, is_not-lt}
use Rattle.kinds.specs.sets.Sets.{Set}
use Rattle.kinds.proofs.sets.Accepted as Sets
use Rattle.kinds.proofs.sets.Accepted.{ends-most, coordinate_at}
use Rattle.kinds.specs.Kinds.{Orientation}
use Rattle.kinds.proofs.Accepted.{GoodSets}
use Rattle.frames.specs.declared.Frame.{Frame}
use Rattle.frames.specs.Frames.{framed}
use Rattle.frames.proofs.Turned.{ends_loops, framed-good}
use Rattle.filling.specs.Shapes.{Shape, set_bounds, set_strips, shape_for, no_bounds, no_shape, moved_strips}
use Rattle.filling.specs.Consistent.{every, strip_fits, strips_fit, bounds_fit, shape_fits}
use Rattle.filling.proofs.Reading.{length-flat, sixfold_flat}
use Rattle.filling.proofs.Numbers31.{strips_append}
use Rattle.filling.proofs.WithinBoundsNumbers.{small-bounded, zero-small}

-- ---- lists

all-at : {A : Type 0} (P : A → Type 0) (l : List A) (i : ℕ) (d : A) → All P l → i < length l → P (get_or l i d)
all-at P [] i d h b = absurd (none i b)
  where
    none : (i : ℕ) → i < 0 → ⊥
    none i h = omega arith
all-at P (a ∷ l) zero d h b = h.0
all-at P (a ∷ l) (suc i) d h b = all-at P l i d h.1 (omega arith)

all_more : {A : Type 0} (P Q : A → Type 0) → ((a : A) → P a → Q a) → (l : List A) → All P l → All Q l
all_more P Q f [] h = tt
all_more P Q f (a ∷ l) h = (f a h.0, all_more P Q f l h.1)

pub all_up_from : {A : Type 0} (P : A → Type 0) (f : ℕ → A) (n c : ℕ) → ((i : ℕ) → i < c + n → P (f i)) → All P (map f (up_from n c))
unfolding up_from
all_up_from P f zero c h = tt
all_up_from P f (suc n) c h = (h c (omega arith), all_up_from P f n (suc c) (λ i b. h i (omega arith)))

pub strip_at_lem : (l : List Trapezoid) (i : ℕ) (d : Trapezoid) → i < length l → strip_at (flat l) i ≡ get_or l i d
unfolding strip_at flat
strip_at_lem [] i d h = absurd (omega arith)
strip_at_lem (s ∷ l) zero d h = refl
strip_at_lem (s ∷ l) (suc i) d h =
    let e : 6 * suc i ≡ suc (suc (suc (suc (suc (suc (6 * i)))))) = omega arith in
    let e1 : suc (suc (suc (suc (suc (suc (6 * i)))))) + 1 ≡ suc (suc (suc (suc (suc (suc (6 * i + 1)))))) = omega arith in
    let e2 : suc (suc (suc (suc (suc (suc (6 * i)))))) + 2 ≡ suc (suc (suc (suc (suc (suc (6 * i + 2)))))) = omega arith in
    let e3 : suc (suc (suc (suc (suc (suc (6 * i)))))) + 3 ≡ suc (suc (suc (suc (suc (suc (6 * i + 3)))))) = omega arith in
    let e4 : suc (suc (suc (suc (suc (suc (6 * i)))))) + 4 ≡ suc (suc (suc (suc (suc (suc (6 * i + 4)))))) = omega arith in
    let e5 : suc (suc (suc (suc (suc (suc (6 * i)))))) + 5 ≡ suc (suc (suc (suc (suc (suc (6 * i + 5)))))) = omega arith in
    rw (e, e1, e2, e3, e4, e5) (strip_at_lem l i d (omega arith))

pub capacity-flat : (l : List Trapezoid) → capacity (flat l) ≡ length l
unfolding capacity
capacity-flat l = let e = length-flat l in omega arith

-- ---- strips that fit

pub sized-fits : {n m : ℕ} (s : Trapezoid) → Sized n m s → n ≤ 1000000 → m ≤ 1000000 → k s.x0 ≤ k s.x1 → strip_fits s ≡ true
unfolding strip_fits
sized-fits s S h l g =
    rw (
      is_not-lt (real_of (finite S.x1.num)) (real_of (finite S.x0.num)) g,
      small-bounded S.x0 h,
      small-bounded S.x1 h,
      small-bounded S.low0
          l,
      small-bounded S.low1 l,
      small-bounded S.high0 l,
      small-bounded S.high1 l,
    )

nothing-fits : strips_fit (flat []) ≡ true
unfolding strips_fit flat capacity up_from every
nothing-fits = refl

and-true : (b : Bool) → b ≡ true → b && true ≡ true
and-true true e = refl
and-true false e = e

one-fits : (s : Trapezoid) → strip_fits s ≡ true → strips_fit (flat (s ∷ [])) ≡ true
unfolding strips_fit flat capacity up_from every
one-fits s h = and-true (strip_fits (strip_at (flat (s ∷ [])) 0)) (ap strip_fits (strip_at_lem (s ∷ []) 0 s (omega arith)) ∙ h)

flat-fits : (l : List Trapezoid) → All (λ (s : Trapezoid). strip_fits s ≡ true) l → strips_fit (flat l) ≡ true
unfolding flat
flat-fits [] h = nothing-fits
flat-fits (s ∷ l) h = strips_append (flat (s ∷ [])) (flat l) (sixfold_flat (s ∷ [])) (sixfold_flat l) (one-fits s h.0) (flat-fits l h.1)

own_fits : (l : List Trapezoid) → All Good l → strips_fit (flat l) ≡ true
own_fits l h = flat-fits l (all_more Good (λ (s : Trapezoid). strip_fits s ≡ true) (λ s G. sized-fits s G.sizes (lit≤ tt) (lit≤ tt) (le_of_lt G.order)) l
    h)

good_at : (l : List Trapezoid) → All Good l → (i : ℕ) → i < length l → Good (strip_at (flat l) i)
good_at l h i b = subst Good (sym (strip_at_lem l i (strip_at (flat l) i) b)) (all-at Good l i (strip_at (flat l) i) h b)

module _ (x y : Float) (X : Small 610000 x) (Y : Small 200000 y) where
  moved-fits : (s : Trapezoid) → Good s → strip_fits (moved_by s x y) ≡ true
  moved-fits s G = sized-fits (moved_by s x y) (moved-sized s G.sizes X Y (lit≤ tt) (lit≤ tt)) (lit≤ tt) (lit≤ tt)
      (moved_order s G.sizes X Y (le_of_lt G.order))

  strips-moved : (l : List Trapezoid) → All Good l → strips_fit (moved_strips (flat l) x y) ≡ true
  unfolding moved_strips
  strips-moved l h =
      flat-fits (map (λ i. moved_by (strip_at (flat l) i) x y) (up_from (capacity (flat l)) 0))
      (all_up_from (λ (s : Trapezoid). strip_fits s ≡ true) (λ i. moved_by (strip_at (flat l) i) x y) (capacity (flat l)) 0
      (λ i b. moved-fits (strip_at (flat l) i) (good_at l h i (let e = capacity-flat l in omega arith))))

-- ---- their numbers are finite and not minus zero

flat-numbers : (n m : ℕ) (l : List Trapezoid) → All (Sized n m) l → All Number (flat l)
unfolding flat
flat-numbers n m [] h = tt
flat-numbers n m (s ∷ l) h =
    let S = h.0 in
    (S.x0.num, (S.x1.num, (S.low0.num, (S.low1.num, (S.high0.num, (S.high1.num, flat-numbers n m l h.1))))))

own_numbers : (l : List Trapezoid) → All Good l → All Number (flat l)
own_numbers l h = flat-numbers 100000 300000 l (all_more Good (Sized 100000 300000) (λ s G. G.sizes) l h)

moved_numbers : (x y : Float) → Small 610000 x → Small 200000 y → (l : List Trapezoid) → All Good l → All Number (moved_strips (flat l) x y)
unfolding moved_strips
moved_numbers x y X Y l h =
    flat-numbers (100000 + 610000) (300000 + 200000) (map (λ i. moved_by (strip_at (flat l) i) x y) (up_from (capacity (flat l)) 0))
    (all_up_from (Sized (100000 + 610000) (300000 + 200000)) (λ i. moved_by (strip_at (flat l) i) x y) (capacity (flat l)) 0
    (λ i b. moved-sized (strip_at (flat l) i) (good_at l h i (let e = capacity-flat l in omega arith)).sizes X Y (lit≤ tt) (lit≤ tt)))

-- ---- a set of an accepted job

module _ (s : Set) (m : ℕ) (G : Sets.Good s m) where
  half : length s.points / 2 ≡ m
  half = let e = G.points in omega arith

  point : (i : ℕ) → i < 2 * (length s.points / 2) → Small 100000 (get_or s.points i nan)
  point i b = coordinate_at s.points i G.coordinates (let e = G.points in omega arith)

  some : 0 < length s.points / 2
  some = let e = half in let a = ends-most 0 m s.ends G.ends in let b = G.some in omega arith

  loops : Loops 0 s.ends (length s.points / 2)
  loops = subst (λ (n : ℕ). Loops 0 s.ends n) (sym half) (ends_loops 0 m s.ends G.ends)

  pub set-framed : Framed (set_bounds s)
  unfolding set_bounds
  set-framed = bounds-framed s.points (length s.points / 2) point some

  set-good : (sheet : Bool) → All Good (trapezoids s.points (length s.points / 2) s.ends sheet)
  set-good sheet = trapezoids-good s.points (length s.points / 2) point s.ends sheet some loops

  pub set-fits : (sheet : Bool) → strips_fit (set_strips sheet s) ≡ true
  unfolding set_strips
  set-fits sheet = own_fits (trapezoids s.points (length s.points / 2) s.ends sheet) (set-good sheet)

  pub set-numbers : (sheet : Bool) → All Number (set_strips sheet s)
  unfolding set_strips
  set-numbers sheet = own_numbers (trapezoids s.points (length s.points / 2) s.ends sheet) (set-good sheet)

  set-moved-numbers : (sheet : Bool) (x y : Float) → Small 610000 x → Small 200000 y → All Number (moved_strips (set_strips sheet s) x y)
  unfolding set_strips
  set-moved-numbers sheet x y X Y = moved_numbers x y X Y (trapezoids s.points (length s.points / 2) s.ends sheet) (set-good sheet)

  pub set-moved : (sheet : Bool) (x y : Float) → Small 610000 x → Small 200000 y → strips_fit (moved_strips (set_strips sheet s) x y) ≡ true
  unfolding set_strips
  set-moved sheet x y X Y = strips-moved x y X Y (trapezoids s.points (length s.points / 2) s.ends sheet) (set-good sheet)

pub frame-fits : (b : Rect) → Framed b → bounds_fit b ≡ true
unfolding bounds_fit
frame-fits b F = rw (
  small-bounded F.left (lit≤ tt),
  small-bounded F.bottom (lit≤ tt),
  small-bounded F.right (lit≤ tt),
  small-bounded F.top
      (lit≤ tt),
)

-- ---- a shape of an accepted job, or of an orientation that the job lacks

pub record FineShape (s : Shape) : Type 0 where
  pub frame : Framed s.bounds
  pub moved : (x y : Float) → Small 610000 x → Small 200000 y → strips_fit (moved_strips s.apart x y) ≡ true
  pub apart_numbers : All Number s.apart
  pub inset_numbers : All Number s.inset
  pub moved_numbers : (x y : Float) → Small 610000 x → Small 200000 y → All Number (moved_strips s.apart x y)

pub shape_fine : (f : Frame) (t : Orientation) → GoodSets t → FineShape (shape_for f t)
unfolding shape_for
shape_fine f t G =
    let a = framed-good f t.apart G.apart_points G.apart in
    let i = framed-good f t.inset G.inset_points G.inset in
    record {
      frame = set-framed (framed f t.inset) G.inset_points i;
      moved = set-moved (framed f t.apart) G.apart_points a false;
      apart_numbers = set-numbers (framed f t.apart) G.apart_points a false;
      inset_numbers = set-numbers (framed f t.inset) G.inset_points i false;
      moved_numbers = set-moved-numbers (framed f t.apart) G.apart_points a false;
    }

pub shape_fits_lem : (f : Frame) (t : Orientation) → GoodSets t → shape_fits (shape_for f t) ≡ true
unfolding shape_for shape_fits
shape_fits_lem f t G =
    let a = framed-good f t.apart G.apart_points G.apart in
    let i = framed-good f t.inset G.inset_points G.inset in
    rw (
      set-fits (framed f t.apart) G.apart_points a false,
      set-fits (framed f t.inset) G.inset_points i false,
      frame-fits
          (set_bounds (framed f t.inset)) (set-framed (framed f t.inset) G.inset_points i),
    )

zero_side : Small 100000 pos_zero
zero_side = small_more zero-small (lit≤ tt)

pub lacking_fine : FineShape no_shape
unfolding no_shape no_bounds flat
lacking_fine =
    record {
      frame = record { left = zero_side; bottom = zero_side; right = zero_side; top = zero_side };
      moved = λ x y X Y. strips-moved x y X Y [] tt;
      apart_numbers = tt;
      inset_numbers = tt;
      moved_numbers = λ x y X Y. moved_numbers x y X Y [] tt;
    }
