-- The tests of the standing copies are the definition's. Assumes nothing.
use Prim.Native.Nat.{ℕ, zero, suc, ◌+◌, ◌*◌, ◌≤◌, ◌<◌}
use native.Mathlib.Omega.{arith}
use mathlib.Core.Path.{◌≡◌, refl, sym, ap, ap₂, ◌∙◌}
use mathlib.Core.Logic.{◌⊎◌, inl, inr}
use mathlib.Core.Bool.{Bool, true, false, ◌&&◌}
use mathlib.Core.List.{List, [], ◌∷◌, ◌++◌, map, flat_map, append-nil, append_assoc}
use lib.ListN.{length, get_or, take, drop, drop_of_length-le, get_or-eq_default}
use lib.Seq.{drop-cons}
use lib.Dec.{leb, ltb, eqb}
use lib.Ieee.{Float, nan, eq}
use borrow.Author.Tests.{lt-ltb, le-ltb, le-leb, lt-leb, eq-eqb, ne_eqb, ltb-true}
use Rattle.numbers.proofs.Truth.{either, both_second, below_or_not}
use Rattle.trapezoid.specs.declared.Trapezoid.{Trapezoid}
use Rattle.trapezoid.specs.Strip.{strip_at, flat, capacity, moved_by}
use Rattle.index.specs.Buckets.{up_from}
use Rattle.index.proofs.Flat.{get_d_up_from}
use Rattle.job.specs.Jobs.{Job}
use Rattle.filling.specs.declared.State.{State}
use Rattle.filling.specs.Rooms.{Rooms}
use Rattle.filling.specs.Shapes.{Shape, Planner, Standing, no_shape, shape_of, moved_strips, copy_strips, standing_strips}
use Rattle.filling.specs.State as States
use Rattle.filling.specs.State.{orientation_counts, apart_room, shape_at, planner_at, copy_at, stands_at, standing_to, standing_of}
use Rattle.filling.specs.Consistent.{every, bounded, orientation_fits, position_fits, same, same_doubles, copies_fit}
use Rattle.accounts.proofs.Looks.{row_at_lem}
use Rattle.choose.specs.inner.Choosing.{part_at}
use Rattle.consistent.specs.copy_tests.inner.Copies.{Held, held, same_strip, lies_test, turn_test, apart_of, copy_test, past_copy, onward, copies_test}
use Rattle.consistent.proofs.copy_tests.CopyCases.{lies_within}

-- ---- tests in another order

six : (a b c d e f g : Bool) → a && (b && (c && (d && (e && (f && g))))) ≡ (a && (b && (c && (d && (e && f))))) && g
six false b c d e f g = refl
six true false c d e f g = refl
six true true false d e f g = refl
six true true true false e f g = refl
six true true true true false f g = refl
six true true true true true f g = refl

inward : (a b c d : Bool) → a && ((b && c) && d) ≡ (b && (a && c)) && d
inward true b c d = refl
inward false true c d = refl
inward false false c d = refl

sorted : (a b c d e : Bool) → ((true && (a && b)) && c) && (d && e) ≡ (true && (a && (b && d))) && (c && e)
sorted false b c d e = refl
sorted true false c d e = refl
sorted true true false false e = refl
sorted true true false true e = refl
sorted true true true d e = refl

-- ---- strips in a room of whole strips

module _ (room : List Float) (whole : 6 * capacity room ≡ length room) where
  next : (n m : ℕ) → m ≡ suc n → n < length room → drop n room ≡ get_or room n nan ∷ drop m room
  next n m e h = drop-cons room n nan h ∙ ap (λ (k : ℕ). get_or room n nan ∷ drop k room) (sym e)

  abbrev strip : ℕ → List Float → List Float
  strip k l = (strip_at room k).x0 ∷ (strip_at room k).x1 ∷ (strip_at room k).low0 ∷ (strip_at room k).low1 ∷ (strip_at room k).high0 ∷ (strip_at room k).high1 ∷ l

  drop-strip : (k m : ℕ) → m ≡ suc k → k < capacity room → drop (6 * k) room ≡ strip k (drop (6 * m) room)
  unfolding strip_at
  drop-strip k m e h =
      let z = whole in
      let a = 6 * k in
      next a (a + 1) (omega arith) (omega arith)
      ∙ ap (λ (l : List Float). get_or room a nan ∷ l) (next (a + 1) (a + 2) (omega arith) (omega arith)
      ∙ ap (λ (l : List Float). get_or room (a + 1) nan ∷ l) (next (a + 2) (a + 3) (omega arith) (omega arith)
      ∙ ap (λ (l : List Float). get_or room (a + 2) nan ∷ l) (next (a + 3) (a + 4) (omega arith) (omega arith)
      ∙ ap (λ (l : List Float). get_or room (a + 3) nan ∷ l) (next (a + 4) (a + 5) (omega arith) (omega arith)
      ∙ ap (λ (l : List Float). get_or room (a + 4) nan ∷ l) (next (a + 5) (6 * m) (omega arith) (omega arith))))))

  drop-none : (k : ℕ) → capacity room ≤ k → drop (6 * k) room ≡ []
  drop-none k h = let l : length room ≤ 6 * k = (let z = whole in omega arith) in drop_of_length-le room l

  module _ (g : ℕ → Trapezoid) (at : ℕ) (rest : List Float) where
    abbrev test : ℕ → Bool
    test i = same_strip (strip_at room (at + i)) (g i)

    -- the strip number i, then others
    abbrev headed : ℕ → List Float → List Float
    headed i l = (g i).x0 ∷ (g i).x1 ∷ (g i).low0 ∷ (g i).low1 ∷ (g i).high0 ∷ (g i).high1 ∷ l

    here : (i : ℕ) (l : List Float) → at + i < capacity room
        → same_doubles (drop (6 * (at + i)) room) (headed i l) ≡ test i && same_doubles (drop (6 * (at + suc i)) room) l
    unfolding same same_strip
    here i l h =
        let p = strip_at room (at + i) in
        ap (λ (r : List Float). same_doubles r (headed i l)) (drop-strip (at + i) (at + suc i) (omega arith) h)
        ∙ six (eq p.x0 (g i).x0) (eq p.x1 (g i).x1) (eq p.low0 (g i).low0) (eq p.low1 (g i).low1) (eq p.high0 (g i).high0)
        (eq p.high1 (g i).high1) (same_doubles (drop (6 * (at + suc i)) room) l)

    beyond : (i : ℕ) (l : List Float) → capacity room ≤ at + i → same_doubles (drop (6 * (at + i)) room) (headed i l) ≡ false
    unfolding same
    beyond i l h = ap (λ (r : List Float). same_doubles r (headed i l)) (drop-none (at + i) h)

    -- that the n strips from i on lie there, then the rest
    abbrev Lie : ℕ → ℕ → Bool
    Lie n i = (leb (at + i + n) (capacity room) && every test (up_from n i)) && same_doubles (drop (6 * (at + i + n)) room) rest

    strips-same : (n i : ℕ) → at + i ≤ capacity room → same_doubles (drop (6 * (at + i)) room) (flat (map g (up_from n i)) ++ rest) ≡ Lie n i
    unfolding flat up_from every
    strips-same zero i h =
        let e : at + i + 0 ≡ at + i = omega arith in
        rw (e, le-leb (at + i) (capacity room) h)
    strips-same (suc n) i h = go (λ l. strips-same n (suc i) l) (below_or_not (at + i) (capacity room))
      where
        go : (at + suc i ≤ capacity room → same_doubles (drop (6 * (at + suc i)) room) (flat (map g (up_from n (suc i))) ++ rest) ≡ Lie n (suc i))
            → (at + i < capacity room) ⊎ (capacity room ≤ at + i)
            → same_doubles (drop (6 * (at + i)) room) (headed i (flat (map g (up_from n (suc i))) ++ rest))
            ≡ (leb (at + i + suc n) (capacity room) && (test i && every test (up_from n (suc i)))) && same_doubles (drop (6 * (at + i + suc n)) room) rest
        go f (inl l) =
            let e : at + suc i + n ≡ at + i + suc n = omega arith in
            here i (flat (map g (up_from n (suc i))) ++ rest) l
            ∙ (ap (λ b. test i && b) (f (omega arith))
            ∙ (inward (test i) (leb (at + suc i + n) (capacity room)) (every test (up_from n (suc i))) (same_doubles (drop (6 * (at + suc i + n)) room) rest)
            ∙ ap (λ (k : ℕ). (leb k (capacity room) && (test i && every test (up_from n (suc i)))) && same_doubles (drop (6 * k) room) rest) e))
        go f (inr l) =
            let e = lt-leb (at + i + suc n) (capacity room) (omega arith) in
            beyond i (flat (map g (up_from n (suc i))) ++ rest) l
            ∙ sym (ap (λ b. (b && (test i && every test (up_from n (suc i)))) && same_doubles (drop (6 * (at + i + suc n)) room) rest) e)

  moved_same : (part : List Float) (x y : Float) (at : ℕ) (rest : List Float) → at ≤ capacity room
      → same_doubles (drop (6 * at) room) (moved_strips part x y ++ rest) ≡ lies_test part x y room at && same_doubles (drop (6 * (at + capacity part)) room) rest
  unfolding moved_strips lies_test
  moved_same part x y at rest h =
      let e : at + 0 ≡ at = omega arith in
      ap (λ (k : ℕ). same_doubles (drop (6 * k) room) (moved_strips part x y ++ rest)) (sym e)
      ∙ (strips-same (λ i. moved_by (strip_at part i) x y) at rest (capacity part) 0 (omega arith)
      ∙ ap (λ (k : ℕ). (leb (k + capacity part) (capacity room) && every (λ i. same_strip (strip_at room (at + i)) (moved_by (strip_at part i) x y))
      (up_from (capacity part) 0)) && same_doubles (drop (6 * (k + capacity part)) room) rest) e)

  none_left : (at : ℕ) → at ≤ capacity room → eqb at (capacity room) ≡ same_doubles (drop (6 * at) room) []
  unfolding same
  none_left at h = go (below_or_not at (capacity room))
    where
      go : (at < capacity room) ⊎ (capacity room ≤ at) → eqb at (capacity room) ≡ same_doubles (drop (6 * at) room) []
      go (inl l) = ne_eqb at (capacity room) (λ e. omega arith) ∙ sym (ap (λ (r : List Float). same_doubles r []) (drop-strip at (suc at) refl l))
      go (inr l) = eq-eqb at (capacity room) (omega arith) ∙ sym (ap (λ (r : List Float). same_doubles r []) (drop-none at l))

-- ---- the copies from a place on

standing_from : State → ℕ → ℕ → List Standing
standing_from s zero i = []
standing_from s (suc n) i = stands_at s i (get_or s.layout.orientation i 0) ++ standing_from s n (suc i)

standing-from : (s : State) (n i : ℕ) → standing_to s i ++ standing_from s n i ≡ standing_to s (i + n)
unfolding standing_to standing_from
standing-from s zero i = let e : i ≡ i + 0 = omega arith in append-nil (standing_to s i) ∙ ap (standing_to s) e
standing-from s (suc n) i =
    let e : suc i + n ≡ i + suc n = omega arith in
    sym (append_assoc (standing_to s i) (stands_at s i (get_or s.layout.orientation i 0)) (standing_from s n (suc i)))
    ∙ (standing-from s n (suc i) ∙ ap (standing_to s) e)

-- ---- what the tables hold of an orientation that its kind has

pub shape_is : (j : Job) (s : State) (w : Rooms) (kind o : ℕ) → o < get_or (orientation_counts j) kind 0
    → shape_of (planner_at j s.tables w) kind o ≡ shape_at s.tables w.shapes (16 * kind + o)
unfolding shape_of planner_at
shape_is j s w kind o h =
    let e : 16 * (0 + kind) + (0 + o) ≡ 16 * kind + o = omega arith in
    ap (λ (l : List Shape). get_or l o no_shape) (row_at_lem (shape_at s.tables w.shapes) 0 (orientation_counts j) kind)
    ∙ (get_d_up_from (λ i. shape_at s.tables w.shapes (16 * (0 + kind) + i)) (get_or (orientation_counts j) kind 0) 0 o no_shape h
    ∙ ap (shape_at s.tables w.shapes) e)

-- ---- of a job whose tables are known

module _ (j : Job) (s : State) (w : Rooms) (rows : List ℕ) (kinds : ℕ) (long : length (orientation_counts j) ≡ kinds)
    (turns : (i : ℕ) → i < kinds → get_or (orientation_counts j) i 0 ≡ get_or rows (4 * i + 3) 0)
    (room : List Float) (whole : 6 * capacity room ≡ length room) where
  abbrev given : Held
  given = held rows kinds s.tables.parts (take (6 * s.tables.apart_strips) w.shapes) room

  abbrev planner : Planner
  planner = planner_at j s.tables w

  turn_same : (kind o : ℕ) → turn_test rows kinds kind o ≡ ltb o (get_or (orientation_counts j) kind 0)
  unfolding turn_test
  turn_same kind o = go (below_or_not kind kinds)
    where
      go : (kind < kinds) ⊎ (kinds ≤ kind) → ltb kind kinds && ltb o (get_or rows (4 * kind + 3) 0) ≡ ltb o (get_or (orientation_counts j) kind 0)
      go (inl l) = ap (λ b. b && ltb o (get_or rows (4 * kind + 3) 0)) (lt-ltb kind kinds l) ∙ ap (ltb o) (sym (turns kind l))
      go (inr l) =
          ap (λ b. b && ltb o (get_or rows (4 * kind + 3) 0)) (le-ltb kind kinds l)
          ∙ sym (ap (ltb o) (get_or-eq_default (orientation_counts j) 0 (let l : length (orientation_counts j) ≤ kind = (let e = long in omega arith) in l)) ∙
          le-ltb o 0 (omega arith))

  apart_is : (kind o : ℕ) → o < get_or (orientation_counts j) kind 0 → (shape_of planner kind o).apart ≡ apart_of given kind o
  unfolding shape_at part_at States.part_at apart_room
  apart_is kind o h = ap (λ (q : Shape). q.apart) (shape_is j s w kind o h)

  abbrev fits : Standing → Bool
  fits c = orientation_fits (orientation_counts j) c && position_fits c

  abbrev kind_at : ℕ → ℕ
  kind_at i = get_or s.order i 0

  abbrev x_at : ℕ → Float
  x_at i = get_or s.layout.x i nan

  abbrev y_at : ℕ → Float
  y_at i = get_or s.layout.y i nan

  -- what is asked of copies whose strips begin at strip `at`
  abbrev Asked : List Standing → ℕ → Bool
  Asked cs at = every fits cs && same_doubles (drop (6 * at) room) (standing_strips planner cs)

  abbrev past : ℕ → ℕ → ℕ → ℕ
  past i o at = at + capacity (apart_of given (kind_at i) o)

  module _ (i o at : ℕ) (cs : List Standing) (h : at ≤ capacity room) where
    abbrev turn : Bool
    turn = ltb o (get_or (orientation_counts j) (kind_at i) 0)

    abbrev after : List Float
    after = standing_strips planner cs

    abbrev lies : Bool
    lies = lies_test (apart_of given (kind_at i) o) (x_at i) (y_at i) room at

    abbrev strips : List Float
    strips = moved_strips (shape_of planner (kind_at i) o).apart (x_at i) (y_at i)

    strips_lie_lem : turn ≡ true → same_doubles (drop (6 * at) room) (strips ++ after) ≡ lies && same_doubles (drop (6 * past i o at) room) after
    strips_lie_lem t =
        ap (λ (part : List Float). same_doubles (drop (6 * at) room) (moved_strips part (x_at i) (y_at i) ++ after))
        (apart_is (kind_at i) o (ltb-true o (get_or (orientation_counts j) (kind_at i) 0) t))
        ∙ moved_same room whole (apart_of given (kind_at i) o) (x_at i) (y_at i) at after h

    copy_by : (turn_test rows kinds (kind_at i) o ≡ true) ⊎ (turn_test rows kinds (kind_at i) o ≡ false)
        → ((turn && (bounded (x_at i) && bounded (y_at i))) && every fits cs) && same_doubles (drop (6 * at) room) (strips ++ after)
        ≡ (turn_test rows kinds (kind_at i) o && (bounded (x_at i) && (bounded (y_at i) && lies))) && Asked cs (past i o at)
    copy_by (inl e) =
        let t : turn ≡ true = sym (turn_same (kind_at i) o) ∙ e in
        ap₂ (λ b c. ((b && (bounded (x_at i) && bounded (y_at i))) && every fits cs) && c) t (strips_lie_lem t)
        ∙ (sorted (bounded (x_at i)) (bounded (y_at i)) (every fits cs) lies (same_doubles (drop (6 * past i o at) room) after)
        ∙ sym (ap (λ b. (b && (bounded (x_at i) && (bounded (y_at i) && lies))) && Asked cs (past i o at)) e))
    copy_by (inr e) =
        let t : turn ≡ false = sym (turn_same (kind_at i) o) ∙ e in
        ap (λ b. ((b && (bounded (x_at i) && bounded (y_at i))) && every fits cs) && same_doubles (drop (6 * at) room) (strips ++ after)) t
        ∙ sym (ap (λ b. (b && (bounded (x_at i) && (bounded (y_at i) && lies))) && Asked cs (past i o at)) e)

    copy-same : Asked (stands_at s i (suc o) ++ cs) at ≡ copy_test given (kind_at i) (x_at i) (y_at i) o at && Asked cs (past i o at)
    unfolding stands_at copy_at every orientation_fits position_fits standing_strips copy_strips copy_test flat_map
    copy-same = copy_by (either (turn_test rows kinds (kind_at i) o))

  copy-ends : (i o at : ℕ) → copy_test given (kind_at i) (x_at i) (y_at i) o at ≡ true → past i o at ≤ capacity room
  unfolding copy_test
  copy-ends i o at e =
      let lies = lies_test (apart_of given (kind_at i) o) (x_at i) (y_at i) room at in
      let a = both_second (turn_test rows kinds (kind_at i) o) (bounded (x_at i) && (bounded (y_at i) && lies)) e in
      let b = both_second (bounded (x_at i)) (bounded (y_at i) && lies) a in
      lies_within (apart_of given (kind_at i) o) (x_at i) (y_at i) room at (both_second (bounded (y_at i)) lies b)

  abbrev coded : ℕ → ℕ → ℕ → Bool
  coded n i at = copies_test given s.order s.layout.orientation s.layout.x s.layout.y n i at

  module _ (n i at : ℕ) (h : at ≤ capacity room) (f : (m : ℕ) → m ≤ capacity room → coded n (suc i) m ≡ Asked (standing_from s n (suc i)) m) where
    one : (o : ℕ) → (copy_test given (kind_at i) (x_at i) (y_at i) o at ≡ true) ⊎ (copy_test given (kind_at i) (x_at i) (y_at i) o at ≡ false)
        → onward (coded n (suc i)) (past_copy given (kind_at i) (x_at i) (y_at i) (suc o) at)
        ≡ copy_test given (kind_at i) (x_at i) (y_at i) o at && Asked (standing_from s n (suc i)) (past i o at)
    unfolding onward past_copy
    one o (inl e) = rw e (f (past i o at) (copy-ends i o at e))
    one o (inr e) = rw e

    first : (o : ℕ) → onward (coded n (suc i)) (past_copy given (kind_at i) (x_at i) (y_at i) o at) ≡ Asked (stands_at s i o ++ standing_from s n (suc i)) at
    unfolding onward past_copy stands_at
    first zero = f at h
    first (suc o) = one o (either (copy_test given (kind_at i) (x_at i) (y_at i) o at)) ∙ sym (copy-same i o at (standing_from s n (suc i)) h)

  copies-from : (n i at : ℕ) → at ≤ capacity room → coded n i at ≡ Asked (standing_from s n i) at
  unfolding copies_test every standing_strips standing_from flat_map
  copies-from zero i at h = none_left room whole at h
  copies-from (suc n) i at h = first n i at h (λ m l. copies-from n (suc i) m l) (get_or s.layout.orientation i 0)

  pub copies_are : coded s.taken 0 0 ≡ copies_fit j planner (standing_of s) room
  unfolding copies_fit standing_of standing_to
  copies_are =
      let e : 0 + s.taken ≡ s.taken = omega arith in
      copies-from s.taken 0 0 (omega arith)
      ∙ ap (λ (cs : List Standing). Asked cs 0) (standing-from s s.taken 0 ∙ ap (standing_to s) e)
