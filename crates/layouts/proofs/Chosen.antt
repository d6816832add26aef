-- A copy that the planner places is legal against everything that stands. Assumes nothing.
use Prim.Native.Nat.{ℕ, zero, suc, ◌+◌, ◌-◌, ◌*◌, ◌/◌, ◌≤◌, ◌<◌}
use native.Mathlib.Nat.{eq-or-lt_of_le}
use native.Mathlib.Omega.{arith}
use mathlib.Core.Path.{◌≡◌, refl, sym, ap, subst, ◌∙◌}
use mathlib.Core.Logic.{◌⊎◌, inl, inr}
use mathlib.Core.Bool.{Bool, true, false, not, ◌&&◌, ◌||◌}
use mathlib.Core.List.{List, [], ◌∷◌, ◌++◌}
use lib.ListN.{length, get_or}
use lib.Dec.{lit≤}
use lib.Ieee.{Float, nan, binary64, neg, lt, le, eq}
use lib.Ieee.Scale as Scale
use Rattle.numbers.specs.Numbers.{from_int}
use Rattle.numbers.proofs.Truth.{either, is_true, both_first, both_second}
use Rattle.numbers.proofs.Keys.{finite_real, key→eq}
use Rattle.numbers.proofs.Doubles.{Number, Finite, finite, sub_upto}
use Rattle.trapezoid.specs.Strip.{strip_at, capacity}
use Rattle.trapezoid.proofs.Sizes.{small_more}
use Rattle.slabs.proofs.Merging.{All}
use Rattle.strips.specs.declared.Rect.{Rect}
use Rattle.strips.proofs.Sizes.{Framed}
use Rattle.index.specs.Buckets.{up_from}
use Rattle.index.specs.Intervals.{forbidden_of}
use Rattle.index.specs.inner.Listing.{Bounded}
use Rattle.look.specs.declared.height.Look.TheVariants.{Free}
use Rattle.look.specs.height.Smallest.{outside, height_of}
use Rattle.look.specs.Looking.{counted_in}
use Rattle.look.specs.inner.Ready.{BoundedStrips, forbidden_in}
use Rattle.look.proofs.Counted.{free_smallest}
use Rattle.frames.specs.Frames as Frames
use Rattle.job.specs.Jobs.{Job, frame_of, accepted, read_job}
use Rattle.job.proofs.Accepted.{GoodJob, job_good}
use Rattle.filling.specs.Columns.{Ranges, ranges, column_at}
use Rattle.filling.specs.Shapes.{Planner, planner_of, Shape, no_shape, shape_of}
use Rattle.filling.specs.Search.{Found, at, nowhere, Remembered, column, none, Track, ranges_of, intervals_at, look_at, last_of, reversed_for, search, search_all}
use Rattle.filling.specs.Choice.{Choice, choice_of, choices, standing_at}
use Rattle.filling.specs.Consistent.{every, bounded, strip_fits, strips_fit, bounds_fit, shape_fits, planner_fits, resolution_fits}
use Rattle.filling.proofs.Searches.{search_open, search-reversed}
use Rattle.filling.proofs.FirstFree.{found_at}
use Rattle.filling.proofs.Numbers31.{Yielded, up_from-every}
use Rattle.filling.proofs.WithinBoundsNumbers.{tested_bounded}
use Rattle.filling.proofs.WithinBoundsStrips.{set-numbers, frame-fits, lacking_fine}
use Rattle.filling.proofs.WithinBounds.{sheet-good, jobs_within, framed, shape, place}
use Rattle.filling.proofs.promises.Numbers.{Numbers}
use Rattle.layouts.specs.Layouts.{among_columns, in_range, clear}
use Rattle.layouts.proofs.Legal.{outside_append, LegalAt}

-- ---- what 31's tests say of numbers

number-bounded : {x : Float} → Number x → bounded x ≡ true → Bounded 1000000 x
unfolding bounded
number-bounded {x} n e =
    let a = both_second (Scale.finite x) _ e in
    tested_bounded x n.fit (both_first (le (neg (from_int 1_000_000)) x) _ a) (both_second (le (neg (from_int 1_000_000)) x) _ a)

number_in : (l : List Float) → Numbers l → (i : ℕ) → i < length l → Number (get_or l i nan)
number_in [] h i b = absurd (omega arith)
number_in (a ∷ l) h zero b = h.0
number_in (a ∷ l) h (suc i) b = number_in l h.1 i (omega arith)

-- strips that are numbers and pass the tests lie within 31's bounds
strips_in : (l : List Float) → Numbers l → strips_fit l ≡ true → BoundedStrips l
unfolding strips_fit strip_fits strip_at capacity
strips_in l h e i b =
    let t = up_from-every (λ n. strip_fits (strip_at l n)) (length l / 6) 0 e i (omega arith) (omega arith) in
    let t1 = both_second (not (lt (get_or l (6 * i + 1) nan) (get_or l (6 * i) nan))) _ t in
    let t2 = both_second (bounded (get_or l (6 * i) nan)) _ t1 in
    let t3 = both_second (bounded (get_or l (6 * i + 1) nan)) _ t2 in
    let t4 = both_second (bounded (get_or l (6 * i + 2) nan)) _ t3 in
    let t5 = both_second (bounded (get_or l (6 * i + 3) nan)) _ t4 in
    record {
      x0 = number-bounded (number_in l h (6 * i) (omega arith)) (both_first (bounded (get_or l (6 * i) nan)) _ t1);
      x1 = number-bounded (number_in l h (6 * i + 1) (omega arith)) (both_first (bounded (get_or l (6 * i + 1) nan)) _ t2);
      low0 = number-bounded (number_in l h (6 * i + 2) (omega arith)) (both_first (bounded (get_or l (6 * i + 2) nan)) _ t3);
      low1 = number-bounded (number_in l h (6 * i + 3) (omega arith)) (both_first (bounded (get_or l (6 * i + 3) nan)) _ t4);
      high0 = number-bounded (number_in l h (6 * i + 4) (omega arith)) (both_first (bounded (get_or l (6 * i + 4) nan)) _ t5);
      high1 = number-bounded (number_in l h (6 * i + 5) (omega arith)) (both_second (bounded (get_or l (6 * i + 4) nan)) _ t5);
    }

-- ---- where a search found a copy's place

module _ (p : Planner) (st : List Float) (k : ℕ) where
  -- a column, and a height that a look against these strips found free there
  pub record FoundThere (c : Choice) : Type 0 where
    pub opened : reversed_for p (shape_of p k c.orientation) ≡ false
    pub column_number : ℕ
    pub within : column_number ≤ last_of p (shape_of p k c.orientation)
    pub x_is : c.x ≡ column_at p.resolution (ranges_of p (shape_of p k c.orientation)) column_number
    pub freed : look_at p st (shape_of p k c.orientation) column_number ≡ Free c.y c.gap

  -- what orientation o found at a column
  abbrev Chose : ℕ → Shape → ℕ → Float → Float → Float → Float → Choice
  Chose o s d y g right top = record { orientation = o; x = column_at p.resolution (ranges_of p s) d; y = y; gap = g; right = right; top = top }

  found-one : (o : ℕ) (s : Shape) → s ≡ shape_of p k o → (m : Remembered) (d : ℕ) (y g : Float) → search p st s m ≡ at d y g → (right top : Float)
      → FoundThere (Chose o s d y g right top)
  unfolding search
  found-one o s e none d y g f right top = absurd (let z : ◌≡◌ {A = ℕ} 0 1 = cc in omega arith)
  found-one o s e (column b) d y g f right top = go (either (reversed_for p s))
    where
      go : (reversed_for p s ≡ true) ⊎ (reversed_for p s ≡ false) → FoundThere (Chose o s d y g right top)
      go (inl q) = absurd (let v : nowhere ≡ at d y g = sym (search-reversed p st s b q) ∙ f in let z : ◌≡◌ {A = ℕ} 0 1 = cc in omega arith)
      go (inr q) =
          let v = found_at (look_at p st s) (suc (last_of p s) - b) b d y g (sym (search_open p st s b q) ∙ f) in
          let i = v.from in
          let j = v.before in
          let w : d ≤ last_of p s = omega arith in
          record {
            opened = ap (reversed_for p) (sym e) ∙ q;
            column_number = d;
            within = subst (λ (t : Shape). d ≤ last_of p t) e w;
            x_is = ap (λ (t : Shape). column_at p.resolution (ranges_of p t) d) e;
            freed = ap (λ (t : Shape). look_at p st t d) (sym e) ∙ v.frees;
          }

  found_all : (o : ℕ) (ss : List Shape) (ts : List Track) → ((i : ℕ) → i < length ss → get_or ss i no_shape ≡ shape_of p k (o + i))
      → All FoundThere (choices p o ss (search_all p st ss ts))
  unfolding choices search_all choice_of
  found_all o [] ts h = tt
  found_all o (s ∷ ss) [] h = tt
  found_all o (s ∷ ss) (t ∷ ts) h =
      go (search p st s t.next_column) refl
      (found_all (suc o) ss ts (λ i l. let y : o + suc i ≡ suc o + i = omega arith in h (suc i) (omega arith) ∙ ap (shape_of p k) y))
    where
      go : (f : Found) → search p st s t.next_column ≡ f → All FoundThere (choices p (suc o) ss (search_all p st ss ts))
          → All FoundThere (choice_of p o s f ++ choices p (suc o) ss (search_all p st ss ts))
      go nowhere e r = unfold choice_of in r
      go (at d y g) e r = unfold choice_of in
          (let z : o + 0 ≡ o = omega arith in (found-one o s (h 0 (omega arith) ∙ ap (shape_of p k) z) t.next_column d y g e _ _, r))

  -- of all orientations of the kind
  pub row_found : (ts : List Track) → All FoundThere (choices p 0 (get_or p.shapes k []) (search_all p st (get_or p.shapes k []) ts))
  unfolding shape_of
  row_found ts =
      found_all 0 (get_or p.shapes k []) ts
      (λ i l. let z : i ≡ 0 + i = omega arith in ap (λ (n : ℕ). get_or (get_or p.shapes k []) n no_shape) z)

-- ---- it is legal there

or-true : (b : Bool) → b || true ≡ true
or-true true = refl
or-true false = refl

-- a column stands among the columns
column_among : (f : ℕ → Float) (n c : ℕ) → c ≤ n → eq (f c) (f c) ≡ true → among_columns f n (f c) ≡ true
unfolding among_columns
column_among f zero zero h e = e
column_among f zero (suc c) h e = absurd (omega arith)
column_among f (suc n) c h e = go (eq-or-lt_of_le h) (λ l. column_among f n c l e)
  where
    go : (c ≡ suc n) ⊎ (c < suc n) → (c ≤ n → among_columns f n (f c) ≡ true) → (eq (f (suc n)) (f c) || among_columns f n (f c)) ≡ true
    go (inl q) r = ap (λ (d : ℕ). eq (f d) (f c) || among_columns f n (f c)) (sym q) ∙ rw e
    go (inr l) r = rw (r (omega arith)) (or-true (eq (f (suc n)) (f c)))

-- a test that every one of a list passes, and the default too
every_get_d : {A : Type 0} (test : A → Bool) (d : A) → test d ≡ true → (l : List A) (i : ℕ) → every test l ≡ true → test (get_or l i d) ≡ true
unfolding every
every_get_d test d h [] i e = h
every_get_d test d h (a ∷ l) zero e = both_first (test a) (every test l) e
every_get_d test d h (a ∷ l) (suc i) e = every_get_d test d h l i (both_second (test a) (every test l) e)

none-fits : shape_fits no_shape ≡ true
unfolding shape_fits no_shape strips_fit capacity up_from every
none-fits = frame-fits no_shape.bounds lacking_fine.frame

-- the heights between which an orientation may be moved
heights_finite : (s b : Rect) → Framed s → Framed b → Finite (ranges s b).y_low × Finite (ranges s b).y_high
unfolding ranges
heights_finite s b S B = (
  (sub_upto (finite S.bottom.num) (finite B.bottom.num) S.bottom.bound B.bottom.bound (lit≤ tt)).0,
  (sub_upto (finite S.top.num) (finite B.top.num) S.top.bound B.top.bound (lit≤ tt)).0,
)

module _ (bytes : List ℕ) (j : Job) (e : read_job bytes ≡ accepted j) where
  abbrev g : GoodJob j
  g = (job_good bytes j e).good

  abbrev P : Planner
  P = planner_of j

  rest-fits : strips_fit P.sheet && (bounds_fit P.bounds && every (every shape_fits) P.shapes) ≡ true
  unfolding planner_fits
  rest-fits = both_second (resolution_fits P.resolution) _ (jobs_within bytes j e).own

  sheet_in : BoundedStrips P.sheet
  unfolding planner_of
  sheet_in =
      strips_in P.sheet (set-numbers (Frames.framed (frame_of j.header) j.sheet) g.sheet_points (sheet-good j g) true)
      (both_first (strips_fit P.sheet) _ rest-fits)

  shape_in_lem : (k o : ℕ) → shape_fits (shape_of P k o) ≡ true
  unfolding shape_of
  shape_in_lem k o =
      every_get_d shape_fits no_shape none-fits (get_or P.shapes k []) o
      (every_get_d (every shape_fits) [] (unfold every in refl) P.shapes k (both_second (bounds_fit P.bounds) _
      (both_second (strips_fit P.sheet) _ rest-fits)))

  module _ (st : List Float) (N : Numbers st) (F : strips_fit st ≡ true) (k : ℕ) (c : Choice) (H : FoundThere P st k c) where
    abbrev S : Shape
    S = shape_of (planner_of j) k c.orientation

    abbrev R : Ranges
    R = ranges_of (planner_of j) S

    yielded : Yielded P S c.x c.y c.gap
    yielded = record { opened = H.opened; column_number = H.column_number; within = H.within; x_is = H.x_is; standing = st; freed = H.freed }

    x_number : Number c.x
    x_number = (place j g k c.orientation c.x c.y c.gap yielded).0.num

    y_number : Number c.y
    y_number = (place j g k c.orientation c.x c.y c.gap yielded).1.num

    -- one of the columns
    x_among : among_columns (column_at P.resolution R) (last_of P S) c.x ≡ true
    x_among =
        let column = column_at P.resolution R in
        let X = x_number in
        let same : eq c.x c.x ≡ true = is_true (eq c.x c.x) (key→eq binary64 c.x c.x X.fit X.fit (finite_real c.x X.is_finite)
        (finite_real c.x X.is_finite) refl) in
        ap (among_columns column (last_of P S)) H.x_is
        ∙ column_among column (last_of P S) H.column_number H.within (subst (λ (v : Float). eq v v ≡ true) H.x_is same)

    abbrev Freed : Type 0
    Freed = (le R.y_low c.y ≡ true) × (le c.y R.y_high ≡ true)
        × (outside (forbidden_in c.x S.inset S.apart (planner_of j).sheet st) c.y ≡ true)

    y_free : Freed
    unfolding look_at intervals_at ranges_of shape_fits
    y_free =
        let X = small_more (place j g k c.orientation c.x c.y c.gap yielded).0 (lit≤ tt) in
        let Hs = heights_finite P.bounds S.bounds (framed j g) (shape j g k c.orientation).frame in
        let f = shape_in_lem k c.orientation in
        let B : Bounded 3000000 c.x = record { fine = finite x_number; bound = X.bound } in
        let apart = strips_in S.apart (shape j g k c.orientation).apart_numbers (both_first (strips_fit S.apart) _ f) in
        let inset = strips_in S.inset (shape j g k c.orientation).inset_numbers
        (both_first (strips_fit S.inset) _ (both_second (strips_fit S.apart) _ f)) in
        let look : height_of R.y_low R.y_high (counted_in c.x R.y_low R.y_high S.inset S.apart P.sheet st) ≡ Free c.y c.gap =
        ap (λ (v : Float). height_of R.y_low R.y_high (counted_in v R.y_low R.y_high S.inset S.apart P.sheet st)) H.x_is ∙ H.freed in
        let t = free_smallest c.x R.y_low R.y_high S.inset S.apart P.sheet st Hs.0 Hs.1 B inset apart sheet_in (strips_in st N F) c.y
        c.gap look in
        (t.0, t.1, t.2)

    -- what the planner chose against strips that are numbers within 31's bounds
    pub chosen_legal : (n : ℕ) → LegalAt P st (standing_at (record { place = n; kind = k }) c)
    unfolding standing_at in_range clear forbidden_in
    chosen_legal n =
        let on_sheet = forbidden_of P.sheet S.inset c.x in
        let t = y_free in
        record {
          range = rw (H.opened, x_among, t.0, t.1) (closed (le R.x_low c.x && le c.x R.x_high));
          clears = sym (outside_append on_sheet (forbidden_of st S.apart c.x) c.y) ∙ t.2;
          x_number = x_number;
          y_number = y_number;
        }
      where
        closed : (b : Bool) → (true && ((b || true) && (true && true))) ≡ true
        closed true = refl
        closed false = refl
