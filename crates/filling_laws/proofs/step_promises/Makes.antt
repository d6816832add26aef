-- "No number is left non-finite": every number that a next copy writes is finite, whatever state and rooms it is given. Assumes nothing.
use Rattle.std.specs.Prelude.{Result, Ok, Err}
use Rattle.filling.specs.declared.Refusal.{Refusal}
use Prim.Native.Nat.{ℕ, zero, suc, ◌+◌, ◌*◌, ◌≤◌, ◌<◌, ◌^◌}
use native.Mathlib.Omega.{arith}
use mathlib.Core.Path.{◌≡◌, refl, sym, ap, subst, ◌∙◌}
use mathlib.Core.Logic.{◌⊎◌, inl, inr}
use mathlib.Core.Bool.{Bool, true, false, cond}
use mathlib.Core.List.{List, [], ◌∷◌, ◌++◌, map}
use lib.ListN.{length, get_or, set, take, drop}
use lib.Dec.{T, lit≤}
use lib.Ieee.{Float, binary64, fits, le, lt, add}
use lib.Ieee.Fits.{add-fits}
use Rattle.numbers.specs.Numbers.{◌⊕◌, larger, pos_zero, from_int}
use Rattle.numbers.proofs.Truth.{holds, either, both_first, both_second}
use Rattle.numbers.proofs.Keys.{le→key}
use Rattle.numbers.proofs.Bounds.{value_key}
use Rattle.numbers.proofs.Rounding.{key_finite, finite_of_key}
use Rattle.numbers.proofs.Operations.{add-real}
use Rattle.numbers.proofs.Ranges.{zero_num, zero-key}
use Rattle.numbers.proofs.RoundDown.{le-real}
use Rattle.numbers.proofs.Doubles.{k, o, u, Finite, Upto, finite, add_upto, add_mono}
use Rattle.trapezoid.specs.declared.Trapezoid.{Trapezoid}
use Rattle.trapezoid.specs.Strip.{strip_at, flat, capacity, moved_by}
use Rattle.index.specs.Buckets.{up_from}
use Rattle.index.specs.inner.Listing.{Bounded}
use Rattle.index.proofs.Flat.{get_d_up_from}
use Rattle.look.specs.Looking.{counted_in}
use Rattle.look.specs.inner.Ready.{BoundedStrip, BoundedStrips}
use Rattle.bits.proofs.Accepted.{UpFrom}
use Rattle.job.specs.Jobs.{Job, Answer, accepted, refused, read_job}
use Rattle.job.proofs.Accepted.{GoodJob, job_good}
use Rattle.filling.specs.declared.State.{State}
use Rattle.filling.specs.Columns.{ranges, column_at}
use Rattle.filling.specs.Shapes.{Planner, planner_of, Shape, no_shape, shape_of, moved_strips}
use Rattle.filling.specs.Search.{Track, ranges_of, look_at, intervals_at, search_all, searched_all}
use Rattle.filling.specs.Choice.{Choice, choices, best}
use Rattle.filling.specs.Rooms.{Rooms, laid}
use Rattle.filling.specs.State as States
use Rattle.choose.specs.inner.Choosing.{part_at, bounds_at}
use Rattle.filling.specs.State.{orientation_counts, shape_at, planner_at, order_of, tracks_of}
use Rattle.filling.specs.Consistent.{layout_fits, bounded, placed_strips_of, consistent}
use Rattle.filling.specs.NextCopy.{new_strips, entered, state_with, layout_after, state_after, stored, rooms_after, copy_verdict, Step, no_step, place_copy, place_next, core_step, step_job, step_given, next_copy_of}
use Rattle.filling.proofs.Reading.{rows-length, kinds_many}
use Rattle.filling.proofs.Steps.{place-taken, place-refused}
use Rattle.filling.proofs.Runs.{step-consistent, step_inconsistent}
use Rattle.filling.proofs.Numbers31.{Yielded, Good, Goods, and_good, best-good, row_good}
use Rattle.filling.proofs.WithinBounds.{area}
use Rattle.filling.proofs.WithinBoundsNumbers.{sum_grows, most}
use Rattle.filling.proofs.WithinBoundsPlaces.{counted-fits, height_between, clear-between}
use Rattle.search.proofs.columns.Same.{low_same, high_same, x_same}
use Rattle.search.proofs.columns.Sizes.{BoundedRect, y_low-bounded, y_high-bounded}
use Rattle.filling_laws.proofs.SameCore.{row}
use Rattle.filling_laws.proofs.ReadyColumns.{column-bounded}
use Rattle.filling_laws.proofs.ReadyOrder.{kind_in}
use Rattle.filling_laws.proofs.Ready.{InDoubles, tests_of, resolution_in, bounds_in, apart_in, shape_bounds}
use Rattle.filling.proofs.Stood.{choices-under, best_all}
use Rattle.slabs.proofs.Merging.{All}

-- ---- lists

drop-none : (m : ℕ) → ◌≡◌ {A = List Float} (drop m []) []
drop-none zero = refl
drop-none (suc m) = refl

-- each number of the later list stood in the earlier one at its place, or is finite
abbrev pub Made : List Float → List Float → Type 0
Made old new = (i : ℕ) → (get_or new i pos_zero ≡ get_or old i pos_zero) ⊎ Finite (get_or new i pos_zero)

made_set : (l : List Float) (i : ℕ) (a : Float) → Finite a → Made l (set l i a)
made_set [] i a f n = inl refl
made_set (b ∷ l) zero a f zero = inr f
made_set (b ∷ l) zero a f (suc n) = inl refl
made_set (b ∷ l) (suc i) a f zero = inl refl
made_set (b ∷ l) (suc i) a f (suc n) = made_set l i a f n

made_new : (new room : List Float) → All Finite new → Made room (new ++ drop (length new) room)
made_new [] room h n = inl refl
made_new (a ∷ new) [] h zero = inr h.0
made_new (a ∷ new) [] h (suc n) = subst (λ (l : List Float). (get_or (new ++ l) n pos_zero ≡ pos_zero) ⊎ Finite (get_or (new ++ l) n pos_zero)) (drop-none (length new)) (made_new new [] h.1 n)
made_new (a ∷ new) (b ∷ room) h zero = inr h.0
made_new (a ∷ new) (b ∷ room) h (suc n) = made_new new room h.1 n

-- strips after those that stand
made_laid : (n : ℕ) (room new : List Float) → All Finite new → Made room (laid (take n room ++ new) room)
unfolding laid
made_laid zero room new h i = made_new new room h i
made_laid (suc n) [] new h i = made_new new [] h i
made_laid (suc n) (b ∷ room) new h zero = inl refl
made_laid (suc n) (b ∷ room) new h (suc i) = made_laid n room new h i

-- ---- sums

sum-bounded : {a b : ℕ} {x y : Float} → Bounded a x → Bounded b y → a + b ≤ 2 ^ 53 → Finite (x ⊕ y)
sum-bounded X Y h = (add_upto X.fine Y.fine X.bound Y.bound h).0

abbrev most_area : Float
most_area = from_int 10_000_000_000_000_000

twice : T (lib.Ieee.Scale.finite (from_int 10_000_000_000_000_000 ⊕ from_int 10_000_000_000_000_000))
unfolding lib.Ieee.of_int add
twice = tt

area-sum : {x y : Float} → Finite x → Finite y → o ≤ k x → o ≤ k y → k x ≤ k most_area → k y ≤ k most_area → Finite (x ⊕ y)
area-sum {x} {y} X Y a b c d =
    let M : Finite most_area = record { fit = most.0; is_finite = most.1 } in
    let S : Finite (most_area ⊕ most_area) = record { fit = add-fits binary64 most_area most_area; is_finite = twice } in
    let h = add_mono X Y M M (w (k x) (k y) (k most_area) c d) in
    let l = sum_grows X Y a b in
    let t = (key_finite binary64 (most_area ⊕ most_area) S).1 in
    record { fit = add-fits binary64 x y; is_finite = finite_of_key binary64 (x ⊕ y) (add-fits binary64 x y) (add-real binary64 x y X Y) (low (k (x ⊕ y)) l) (high (k (x ⊕ y)) (k (most_area ⊕ most_area)) h t) }
  where
    w : (x y m : ℕ) → x ≤ m → y ≤ m → x + y ≤ m + m
    w x y m a b = omega arith

    low : (a : ℕ) → o ≤ a → 0 < a
    low a h = let z = (key_finite binary64 pos_zero (finite (zero_num binary64))).0 in let e = zero-key binary64 in go (k pos_zero) a z e h
      where
        go : (p a : ℕ) → 0 < p → p ≡ o → o ≤ a → 0 < a
        go p a h e l = omega arith

    high : (a b : ℕ) → a ≤ b → b < o + o → a < o + o
    high a b h l = omega arith

-- ---- moved strips

moved_finite : (s : Trapezoid) (x y : Float) → BoundedStrip s → Bounded 3000000 x → Bounded 2000000 y → (l : List Float) → All Finite l
    → All Finite ((moved_by s x y).x0 ∷ (moved_by s x y).x1 ∷ (moved_by s x y).low0 ∷ (moved_by s x y).low1 ∷ (moved_by s x y).high0 ∷ (moved_by s x y).high1 ∷ l)
unfolding moved_by
moved_finite s x y S X Y l h =
    (sum-bounded S.x0 X (lit≤ tt), (sum-bounded S.x1 X (lit≤ tt), (sum-bounded S.low0 Y (lit≤ tt), (sum-bounded S.low1 Y (lit≤ tt), (sum-bounded S.high0 Y (lit≤ tt), (sum-bounded S.high1 Y (lit≤ tt), h))))))

flat_finite : (part : List Float) (x y : Float) → BoundedStrips part → Bounded 3000000 x → Bounded 2000000 y → (n c : ℕ) → c + n ≤ capacity part → All Finite (flat (map (λ i. moved_by (strip_at part i) x y) (up_from n c)))
unfolding flat up_from
flat_finite part x y S X Y zero c b = tt
flat_finite part x y S X Y (suc n) c b = moved_finite (strip_at part c) x y (S c (omega arith)) X Y (flat (map (λ i. moved_by (strip_at part i) x y) (up_from n (suc c)))) (flat_finite part x y S X Y n (suc c) (omega arith))

moved_all : (part : List Float) (x y : Float) → BoundedStrips part → Bounded 3000000 x → Bounded 2000000 y → All Finite (moved_strips part x y)
unfolding moved_strips
moved_all part x y S X Y = flat_finite part x y S X Y (capacity part) 0 (omega arith)

-- ---- a step that is not refused with 31

-- what a copy's winner writes
record Written (p : Planner) (kind : ℕ) (c : Choice) : Type 0 where
  x : Finite c.x
  y : Finite c.y
  gap : Finite c.gap
  right : Finite c.right
  strips : All Finite (new_strips p kind c)

module _ (j : Job) (s : State) (w : Rooms) (e : consistent j s w ≡ true) (D : InDoubles s w) where
  abbrev p : Planner
  p = planner_at j s.tables w

  module _ (kind : ℕ) (known : kind < length (orientation_counts j)) (turn : ℕ) (one : turn < get_or (orientation_counts j) kind 0) where
    shape_is : shape_of p kind turn ≡ shape_at s.tables w.shapes (16 * kind + turn)
    unfolding planner_at shape_of
    shape_is =
        ap (λ (l : List Shape). get_or l turn no_shape) (row (shape_at s.tables w.shapes) (orientation_counts j) kind known)
        ∙ get_d_up_from (λ o. shape_at s.tables w.shapes (16 * kind + o)) (get_or (orientation_counts j) kind 0) 0 turn no_shape one
        ∙ ap (λ (n : ℕ). shape_at s.tables w.shapes (16 * kind + n)) (let z : 0 + turn ≡ turn = omega arith in z)

    abbrev S : Shape
    S = shape_at s.tables w.shapes (16 * kind + turn)

    sides : BoundedRect S.bounds
    unfolding shape_at States.bounds_at bounds_at
    sides = shape_bounds j s w e D kind known turn one

    aparts : BoundedStrips S.apart
    unfolding shape_at States.part_at part_at
    aparts = apart_in j s w e D kind known turn one

    -- a place that a search can yield
    place-bounded : (x y g : Float) → Yielded p S x y g → Bounded 3000000 x × Bounded 2000000 y × Finite g
    unfolding planner_at ranges_of look_at intervals_at
    place-bounded x y g Y =
        let b = s.tables.sheet_bounds in
        let f = s.tables.resolution in
        let B = bounds_in j s w e D in
        let R = resolution_in j s w e D in
        let r = ranges b S.bounds in
        let c = column_at f r Y.column_number in
        let L = subst (Bounded 2000000) (low_same b S.bounds f) (y_low-bounded b S.bounds f B sides) in
        let H = subst (Bounded 2000000) (high_same b S.bounds f) (y_high-bounded b S.bounds f B sides) in
        let is = counted_in c r.y_low r.y_high S.inset S.apart p.sheet Y.standing in
        let F = counted-fits c r.y_low r.y_high S.inset S.apart p.sheet Y.standing in
        let h = height_between r.y_low r.y_high L.fine H.fine is F y g Y.freed in
        let Q : Upto 2000000 y = record { at_least = low (k r.y_low) (k y) L.bound.at_least h.1; at_most = high (k r.y_high) (k y) H.bound.at_most h.2 } in
        let G = clear-between r.y_high y H.fine (finite h.0) h.2 is F 2000000 H.bound Q (lit≤ tt) in (
          subst (Bounded 3000000) (sym Y.x_is) (subst (Bounded 3000000) (x_same b S.bounds f Y.column_number) (column-bounded b S.bounds f B sides R Y.column_number)),
          record { fine = finite h.0; bound = Q },
          subst Finite (sym h.3) (finite G.0.num),
        )
      where
        low : (l y : ℕ) → o ≤ l + 2000000 * u → l ≤ y → o ≤ y + 2000000 * u
        low l y a b = omega arith

        high : (h y : ℕ) → h ≤ o + 2000000 * u → y ≤ h → y ≤ o + 2000000 * u
        high h y a b = omega arith

  written : (kind : ℕ) → kind < length (orientation_counts j) → (c : Choice) → Good p kind c → c.orientation < get_or (orientation_counts j) kind 0 → Written p kind c
  unfolding new_strips
  written kind known c G one =
      let i = shape_is kind known c.orientation one in
      let Y = subst (λ (t : Shape). Yielded p t c.x c.y c.gap) i G.place in
      let r = place-bounded kind known c.orientation one c.x c.y c.gap Y in
      let S' = shape_at s.tables w.shapes (16 * kind + c.orientation) in
      record {
        x = r.0.fine;
        y = r.1.fine;
        gap = r.2;
        right = subst Finite (sym (G.right_is ∙ ap (λ t. c.x ⊕ t.bounds.right) i)) (sum-bounded r.0 (sides kind known c.orientation one).right (lit≤ tt));
        strips = subst (λ (t : Shape). All Finite (moved_strips t.apart c.x c.y)) (sym i) (moved_all S'.apart c.x c.y (aparts kind known c.orientation one) r.0 r.1);
      }

  rows_many : (kind : ℕ) → length (get_or p.shapes kind []) ≡ get_or (orientation_counts j) kind 0
  unfolding planner_at
  rows_many kind = rows-length (shape_at s.tables w.shapes) 0 (orientation_counts j) kind

  winner-written : (kind : ℕ) → kind < length (orientation_counts j) → (c : Choice) (cs : List Choice) → Goods p kind (c ∷ cs) → All (λ (d : Choice). d.orientation < get_or (orientation_counts j) kind 0) (c ∷ cs) → Written p kind (best c cs)
  winner-written kind known c cs (and_good G Gs) h = written kind known (best c cs) (best-good p kind Gs c G) (best_all (λ (d : Choice). d.orientation < get_or (orientation_counts j) kind 0) c cs h.0 h.1)

-- ---- what a step writes

-- every number that is new is finite
pub record MadeBy (s : State) (w : Rooms) (r : Step) : Type 0 where
  pub tables : r.state.tables ≡ s.tables
  pub xs : Made s.layout.x r.state.layout.x
  pub ys : Made s.layout.y r.state.layout.y
  pub gaps : Made s.layout.gap r.state.layout.gap
  pub right : (r.state.layout.right ≡ s.layout.right) ⊎ Finite r.state.layout.right
  pub unplaced_area : (r.state.layout.unplaced_area ≡ s.layout.unplaced_area) ⊎ Finite r.state.layout.unplaced_area
  pub shapes : r.rooms.shapes ≡ w.shapes
  pub sheet : r.rooms.sheet ≡ w.sheet
  pub placed : Made w.placed r.rooms.placed

nothing_made : (s : State) (w : Rooms) (r : Step) → r.state ≡ s → r.rooms ≡ w → MadeBy s w r
nothing_made s w r a b =
    record {
      tables = ap (λ s. s.tables) a;
      xs = λ i. inl (ap (λ s. get_or s.layout.x i pos_zero) a);
      ys = λ i. inl (ap (λ s. get_or s.layout.y i pos_zero) a);
      gaps = λ i. inl (ap (λ s. get_or s.layout.gap i pos_zero) a);
      right = inl (ap (λ s. s.layout.right) a);
      unplaced_area = inl (ap (λ s. s.layout.unplaced_area) a);
      shapes = ap (λ w. w.shapes) b;
      sheet = ap (λ w. w.sheet) b;
      placed = λ i. inl (ap (λ w. get_or w.placed i pos_zero) b);
    }

larger_made : (a b : Float) → Finite b → (larger a b ≡ a) ⊎ Finite (larger a b)
unfolding larger
larger_made a b f = go (lt a b)
  where
    go : (t : Bool) → (cond t b a ≡ a) ⊎ Finite (cond t b a)
    go true = inr f
    go false = inl refl

-- an area that 31 lets pass
module _ (a : Float) (f : T (fits binary64 a)) (low : le pos_zero a ≡ true) (high : le a most_area ≡ true) where
  area-from : o ≤ k a
  area-from = subst (λ (n : ℕ). n ≤ k a) (zero-key binary64) (le→key binary64 pos_zero a (finite (zero_num binary64)).fit f (holds low))

  area_upto : k a ≤ k most_area
  area_upto = le→key binary64 a most_area f most.0 (holds high)

  area_finite : Finite a
  area_finite =
      let M : Finite most_area = record { fit = most.0; is_finite = most.1 } in
      let z = (key_finite binary64 pos_zero (finite (zero_num binary64))).0 in
      let m = (key_finite binary64 most_area M).1 in
      record { fit = f; is_finite = finite_of_key binary64 a f (le-real pos_zero a (holds low)) (some (k pos_zero) (k a) z (zero-key binary64) area-from) (few (k a) (k most_area) area_upto m) }
    where
      some : (p a : ℕ) → 0 < p → p ≡ o → o ≤ a → 0 < a
      some p a h e l = omega arith

      few : (a b : ℕ) → a ≤ b → b < o + o → a < o + o
      few a b h l = omega arith

-- a kind's area
kind-area : (j : Job) (g : GoodJob j) (s : State) (w : Rooms) (kind : ℕ) → UpFrom pos_zero 1000000000000 (get_or (planner_at j s.tables w).areas kind pos_zero)
unfolding planner_at planner_of
kind-area j g s w kind = area j g kind

-- the next of a list is one of it
next_in : (n : ℕ) (l : List ℕ) (i kind : ℕ) (ks : List ℕ) → drop i l ≡ kind ∷ ks → ((i : ℕ) → i < length l → get_or l i 0 < n) → kind < n
next_in n [] zero kind ks d h = absurd (let z : ◌≡◌ {A = ℕ} 0 1 = cc in omega arith)
next_in n [] (suc i) kind ks d h = absurd (let z : ◌≡◌ {A = ℕ} 0 1 = cc in omega arith)
next_in n (a ∷ l) zero kind ks d h = let z : a ≡ kind = cc in subst (λ (m : ℕ). m < n) z (h 0 (omega arith))
next_in n (a ∷ l) (suc i) kind ks d h = next_in n l i kind ks d (λ i b. h (suc i) (omega arith))

module _ (bytes : List ℕ) (j : Job) (a : read_job bytes ≡ accepted j) (s : State) (w : Rooms) (e : consistent j s w ≡ true) (D : InDoubles s w) (A : T (fits binary64 s.layout.unplaced_area)) where
  abbrev g : GoodJob j
  g = (job_good bytes j a).good

  area_made : (kind : ℕ) → Finite (s.layout.unplaced_area ⊕ get_or (planner_at j s.tables w).areas kind pos_zero)
  unfolding layout_fits
  area_made kind =
      let t = both_second (bounded s.layout.right) _ (tests_of j s w e).layout in
      let l = both_first (le pos_zero s.layout.unplaced_area) _ t in
      let h = both_second (le pos_zero s.layout.unplaced_area) _ t in
      let U = kind-area j g s w kind in
      let x = s.layout.unplaced_area in
      let y = get_or (planner_at j s.tables w).areas kind pos_zero in
      area-sum (area_finite x A l h) (finite U.num) (area-from x A l h) (subst (λ (n : ℕ). n ≤ k y) (zero-key binary64) U.low) (area_upto x A l h) (below (k y) U.high.at_most)
    where
      below : (y : ℕ) → y ≤ o + 1000000000000 * u → y ≤ k most_area
      below y h = subst (λ (n : ℕ). y ≤ n) (sym (value_key binary64 most_area false 10000000000000000 most.0 most.2)) (z y u h)
        where
          z : (y u : ℕ) → y ≤ o + 1000000000000 * u → y ≤ o + 10000000000000000 * u
          z y u h = omega arith

  after_made : (kind : ℕ) → kind < length (orientation_counts j) → (ts : List Track) (iv : List Float) (cs : List Choice) → Goods (planner_at j s.tables w) kind cs → All (λ (d : Choice). d.orientation < get_or (orientation_counts j) kind 0) cs
      → MadeBy s w (record { verdict = Ok tt; state = state_after (planner_at j s.tables w) kind ts s (placed_strips_of s w) cs; rooms = rooms_after (planner_at j s.tables w) kind w (placed_strips_of s w) cs; intervals = iv })
  unfolding state_after state_with layout_after entered rooms_after stored placed_strips_of
  after_made kind known ts iv [] G h =
      record {
        tables = refl;
        xs = made_set s.layout.x s.taken pos_zero (finite (zero_num binary64));
        ys = made_set s.layout.y s.taken pos_zero (finite (zero_num binary64));
        gaps = made_set s.layout.gap s.taken pos_zero (finite (zero_num binary64));
        right = inl refl;
        unplaced_area = inr (area_made kind);
        shapes = refl;
        sheet = refl;
        placed = λ i. inl refl;
      }
  after_made kind known ts iv (c ∷ cs) G h =
      let W = winner-written j s w e D kind known c cs G h in
      let d = best c cs in
      record {
        tables = refl;
        xs = made_set s.layout.x s.taken d.x W.x;
        ys = made_set s.layout.y s.taken d.y W.y;
        gaps = made_set s.layout.gap s.taken d.gap W.gap;
        right = larger_made s.layout.right d.right W.right;
        unplaced_area = inl refl;
        shapes = refl;
        sheet = refl;
        placed = made_laid (6 * s.placed_strips) w.placed (new_strips (planner_at j s.tables w) kind d) W.strips;
      }

  copy_made : (kind : ℕ) → kind < length (orientation_counts j) → (ts : List Track) (iv : List Float) → MadeBy s w (place_copy (planner_at j s.tables w) (placed_strips_of s w) ts kind s w iv)
  unfolding no_step
  copy_made kind known ts iv = go (copy_verdict P w iv kind (placed_strips_of s w) (get_or P.shapes kind []) ts (search_all P (placed_strips_of s w) (get_or P.shapes kind []) ts)) refl
    where
      P : Planner
      P = planner_at j s.tables w

      go : (v : Result (Unit {0}) Refusal) → copy_verdict P w iv kind (placed_strips_of s w) (get_or P.shapes kind []) ts (search_all P (placed_strips_of s w) (get_or P.shapes kind []) ts) ≡ v → MadeBy s w (place_copy P (placed_strips_of s w) ts kind s w iv)
      go (Err r) d = nothing_made s w (place_copy P (placed_strips_of s w) ts kind s w iv) (ap (λ r. r.state) (place-refused P (placed_strips_of s w) ts kind s w iv r d)) (ap (λ r. r.rooms) (place-refused P (placed_strips_of s w) ts kind s w iv r d))
      go (Ok tt) d =
          rw (place-taken P (placed_strips_of s w) ts kind s w iv d)
          (after_made kind known (searched_all P (get_or P.shapes kind []) ts (search_all P (placed_strips_of s w) (get_or P.shapes kind []) ts)) _ (choices P 0 (get_or P.shapes kind []) (search_all P (placed_strips_of s w) (get_or P.shapes kind []) ts))
          (row_good P kind (placed_strips_of s w) ts)
          (choices-under P (get_or (orientation_counts j) kind 0) 0 (get_or P.shapes kind []) (search_all P (placed_strips_of s w) (get_or P.shapes kind []) ts) (let m = rows_many j s w e D kind in omega arith)))

  core_made : (iv : List Float) → MadeBy s w (core_step j s w iv)
  unfolding core_step place_next no_step
  core_made iv = go (drop s.taken (order_of j s)) refl
    where
      go : (l : List ℕ) → drop s.taken (order_of j s) ≡ l → MadeBy s w (place_next j s w iv l)
      go [] d = nothing_made s w (place_next j s w iv []) refl refl
      go (kind ∷ ks) d = copy_made kind (next_in (length (orientation_counts j)) (order_of j s) s.taken kind ks d (λ i h. subst (λ (n : ℕ). get_or (order_of j s) i 0 < n) (sym (kinds_many j)) (kind_in j (order_of j s) g.total (tests_of j s w e).order i h))) (get_or (tracks_of j s) kind []) iv

-- whatever the bytes, the state and the rooms, if their numbers are doubles
pub step_makes : (bytes : List ℕ) (s : State) (w : Rooms) (iv : List Float) → InDoubles s w → T (fits binary64 s.layout.unplaced_area) → MadeBy s w (next_copy_of bytes s w iv)
unfolding next_copy_of
step_makes bytes s w iv D A = go (read_job bytes) refl
  where
    made : (j : Job) → read_job bytes ≡ accepted j → (consistent j s w ≡ true) ⊎ (consistent j s w ≡ false) → MadeBy s w (step_job j s w iv)
    made j d (inl c) = subst (MadeBy s w) (sym (step-consistent j s w iv c)) (core_made bytes j d s w c D A iv)
    made j d (inr c) = unfold no_step in subst (MadeBy s w) (sym (step_inconsistent j s w iv c)) (nothing_made s w (no_step _ s w iv) refl refl)

    go : (a : Answer) → read_job bytes ≡ a → MadeBy s w (step_given a s w iv)
    go (refused r) d = unfold step_given in (unfold no_step in nothing_made s w (no_step _ s w iv) refl refl)
    go (accepted j) d = unfold step_given in made j d (either (consistent j s w))
