-- The standing copies of a state that 31 lets pass, by its tables: their slots, their strips, and how far to the right they reach.
-- Assumes nothing.
use Prim.Native.Nat.{ℕ, zero, suc, ◌+◌, ◌-◌, ◌*◌, ◌/◌, ◌≤◌, ◌<◌}
use native.Mathlib.Nat.{eq-or-lt_of_le}
use native.Mathlib.Omega.{arith}
use mathlib.Core.Path.{◌≡◌, refl, sym, ap, ap₂, subst, ◌∙◌}
use mathlib.Core.Logic.{inl, inr}
use mathlib.Core.Bool.{Bool, true, ◌&&◌}
use mathlib.Core.List.{List, [], ◌∷◌, ◌++◌, flat_map, append-nil}
use lib.ListN.{length, get_or, take, drop, length-drop}
use lib.Seq.{length-take-le}
use lib.Dec.{leb, ltb}
use lib.Ieee.{Float, nan, eq}
use borrow.Author.Tests.{ltb-true, leb-true}
use Rattle.numbers.specs.Numbers.{◌⊕◌, larger}
use Rattle.numbers.proofs.Truth.{clash, both_first, both_second}
use Rattle.trapezoid.specs.Strip.{capacity, part_of}
use Rattle.job.specs.Jobs.{Job}
use Rattle.filling.specs.declared.State.{State}
use Rattle.filling.specs.Shapes.{Planner, Shape, Standing, shape_of, copy_strips, standing_strips, others}
use Rattle.filling.specs.Rooms.{Rooms}
use Rattle.filling.specs.State as States
use Rattle.filling.specs.State.{orientation_counts, apart_room, inset_room, shape_at, planner_at, copy_at, stands_at, standing_to, standing_of}
use Rattle.filling.specs.Consistent.{every, part_fits, parts_fit, orientation_fits, position_fits, same_doubles, copies_fit, placed_strips_of}
use Rattle.filling.specs.Withdraw.{right_of}
use Rattle.filling.proofs.Reading.{capacity_append, row_exists}
use Rattle.filling.proofs.promises.Few.{moved-capacity}
use Rattle.filling.proofs.Steps.{standing_sixfold}
use Rattle.filling.proofs.AtPlace.{later, others_are, strips_append}
use Rattle.choose.specs.inner.Choosing.{bounds_at, part_at}
use Rattle.withdraw.specs.standing.inner.Standing.{Slotted, strips_at, strips_to, right_with, right_over}
use Rattle.filling.proofs.Same.{same-long}
use Rattle.filling_laws.proofs.ReadyStrips.{slots-every}
use Rattle.consistent.proofs.strip_tests.GapTests.{every-both}
use Rattle.consistent.proofs.copy_tests.SameCopies.{shape_is}

-- ---- lists

part-capacity : (room : List Float) (a n : ℕ) → leb (a + n) (capacity room) ≡ true → capacity (part_of room a n) ≡ n
unfolding part_of
part-capacity room a n e = rw e inside
  where
    inside : capacity (take (6 * n) (drop (6 * a) room)) ≡ n
    inside = unfold capacity in (let h : a + n ≤ length room / 6 = leb-true (a + n) (length room / 6) (unfold capacity in e) in
        let d = length-drop (6 * a) room in
        let t = length-take-le (6 * n) (drop (6 * a) room) (omega arith) in
        omega arith)

right_append : (p : Planner) (r : Float) (xs ys : List Standing) → right_of p r (xs ++ ys) ≡ right_of p (right_of p r xs) ys
unfolding right_of
right_append p r [] ys = refl
right_append p r (c ∷ xs) ys = right_append p (larger r (c.x ⊕ (shape_of p c.copy.kind c.orientation).bounds.right)) xs ys

-- ---- a state that passes

module _ (j : Job) (s : State) (w : Rooms) (sized : (k : ℕ) → k < length (orientation_counts j) → 16 * k + get_or (orientation_counts j) k 0 ≤ 1024)
    (stood : copies_fit j (planner_at j s.tables w) (standing_of s) (placed_strips_of s w) ≡ true) (parted : parts_fit j s.tables w ≡ true) where
  abbrev P : Planner
  P = planner_at j s.tables w

  abbrev Number : ℕ → ℕ
  Number i = get_or s.layout.orientation i 0

  abbrev Kind : ℕ → ℕ
  Kind i = get_or s.order i 0

  abbrev Fits : Standing → Bool
  Fits c = orientation_fits (orientation_counts j) c && position_fits c

  -- ---- their slots

  all_fit : every Fits (standing_to s s.taken) ≡ true
  unfolding copies_fit standing_of
  all_fit = both_first (every Fits (standing_to s s.taken)) _ stood

  one-fits : (n i : ℕ) → every Fits (standing_to s n) ≡ true → i < n → every Fits (stands_at s i (Number i)) ≡ true
  unfolding standing_to
  one-fits zero i e h = absurd (omega arith)
  one-fits (suc n) i e h =
      let b = sym (every-both Fits (standing_to s n) (stands_at s n (Number n))) ∙ e in
      let g : i ≤ n = omega arith in
      elim (eq-or-lt_of_le g) [
        | inl z ↦ ap (λ (m : ℕ). every Fits (stands_at s m (Number m))) z ∙ both_second (every Fits (standing_to s n)) _ b
        | inr l ↦ one-fits n i (both_first (every Fits (standing_to s n)) _ b) l
      ]

  turn : (i o : ℕ) → i < s.taken → Number i ≡ suc o → o < get_or (orientation_counts j) (Kind i) 0
  unfolding every stands_at copy_at orientation_fits
  turn i o h e =
      let a = subst (λ (n : ℕ). every Fits (stands_at s i n) ≡ true) e (one-fits s.taken i all_fit h) in
      ltb-true o (get_or (orientation_counts j) (Kind i) 0)
      (both_first (ltb o (get_or (orientation_counts j) (Kind i) 0)) _ (both_first (ltb o (get_or (orientation_counts j) (Kind i) 0) && _) _ a))

  pub slotted : Slotted s.order s.layout.orientation s.taken
  slotted i o h e =
      let t = turn i o h e in
      let z = sized (Kind i) (row_exists (orientation_counts j) (Kind i) o t) in
      omega arith

  -- ---- their strips

  apart_count : (k o : ℕ) → o < get_or (orientation_counts j) k 0 → capacity (shape_at s.tables w.shapes (16 * k + o)).apart ≡ strips_at s.tables.parts k
      (suc o)
  unfolding shape_at strips_at States.part_at part_at part_fits
  apart_count k o h =
      let q = States.part_at s.tables.parts (16 * k + o) in
      part-capacity (apart_room s.tables w.shapes) q.apart_start q.apart_count
      (both_first (leb (q.apart_start + q.apart_count) (capacity (apart_room s.tables w.shapes))) _
      (slots-every (part_fits (capacity (apart_room s.tables w.shapes)) (capacity (inset_room s.tables w.shapes))) (States.part_at s.tables.parts)
      (orientation_counts j) (unfold parts_fit in parted) k (row_exists (orientation_counts j) k o h) o h))

  -- the strips of the copy at place i
  pub here-count : (i : ℕ) → i < s.taken → (o : ℕ) → Number i ≡ suc o → (x y g : Float)
      → capacity (copy_strips P (record { copy = copy_at s i; orientation = o; x = x; y = y; gap = g })) ≡ strips_at s.tables.parts (Kind i) (suc o)
  unfolding copy_at copy_strips
  here-count i h o e x y g =
      let t = turn i o h e in
      moved-capacity (shape_of P (Kind i) o).apart x y ∙ ap (λ (p : Shape). capacity p.apart) (shape_is j s w (Kind i) o t) ∙ apart_count (Kind i) o t

  place-count : (i : ℕ) → i < s.taken → (n : ℕ) → Number i ≡ n → capacity (standing_strips P (stands_at s i n)) ≡ strips_at s.tables.parts (Kind i) n
  unfolding stands_at standing_strips flat_map strips_at capacity
  place-count i h zero e = refl
  place-count i h (suc o) e =
      let x = get_or s.layout.x i nan in
      let y = get_or s.layout.y i nan in
      let g = get_or s.layout.gap i nan in
      ap capacity (append-nil (copy_strips P (record { copy = copy_at s i; orientation = o; x = x; y = y; gap = g }))) ∙ here-count i h o e x y g

  abbrev To : ℕ → ℕ
  To n = strips_to s.tables.parts s.order s.layout.orientation n

  pub strips_are : (n : ℕ) → n ≤ s.taken → capacity (standing_strips P (standing_to s n)) ≡ To n
  unfolding standing_to strips_to standing_strips flat_map capacity
  strips_are zero h = refl
  strips_are (suc n) h =
      ap capacity (strips_append P (standing_to s n) (stands_at s n (Number n)))
      ∙ capacity_append (standing_strips P (standing_to s n)) (standing_strips P (stands_at s n (Number n))) (standing_sixfold P (standing_to s n))
      (standing_sixfold P (stands_at s n (Number n)))
      ∙ ap₂ ◌+◌ (strips_are n (omega arith)) (place-count n (omega arith) (Number n) refl)

  -- all that stand: what the state says
  pub all_strips : 6 * s.placed_strips ≤ length w.placed → To s.taken ≡ s.placed_strips
  unfolding copies_fit standing_of placed_strips_of capacity
  all_strips h =
      let a = both_second (every Fits (standing_to s s.taken)) _ stood in
      let b = same-long eq (take (6 * s.placed_strips) w.placed) (standing_strips P (standing_to s s.taken)) a in
      let c = length-take-le (6 * s.placed_strips) w.placed h in
      sym (strips_are s.taken (omega arith)) ∙ fill (length (standing_strips P (standing_to s s.taken))) s.placed_strips (sym b ∙ c)
    where
      fill : (n m : ℕ) → n ≡ 6 * m → n / 6 ≡ m
      fill n m e = omega arith

  -- ---- how far to the right they reach

  abbrev Bounds : List Float
  Bounds = s.tables.inset_bounds

  place-right : (r : Float) (i : ℕ) → i < s.taken → (n : ℕ) → Number i ≡ n → right_of P r (stands_at s i n) ≡ right_with Bounds r (get_or s.layout.x i nan)
      (Kind i) n
  unfolding stands_at copy_at right_of right_with shape_at States.bounds_at bounds_at
  place-right r i h zero e = refl
  place-right r i h (suc o) e = ap (λ (p : Shape). larger r (get_or s.layout.x i nan ⊕ p.bounds.right)) (shape_is j s w (Kind i) o (turn i o h e))

  abbrev Over : Float → ℕ → ℕ → Float
  Over r m n = right_over Bounds s.order s.layout.orientation s.layout.x r m n

  right_to : (r : Float) (n : ℕ) → n ≤ s.taken → right_of P r (standing_to s n) ≡ Over r 0 n
  unfolding standing_to right_over right_of
  right_to r zero h = refl
  right_to r (suc n) h =
      let z : n ≡ 0 + n = omega arith in
      right_append P r (standing_to s n) (stands_at s n (Number n))
      ∙ ap (λ (q : Float). right_of P q (stands_at s n (Number n))) (right_to r n (omega arith))
      ∙ place-right (Over r 0 n) n (omega arith) (Number n) refl
      ∙ ap (λ (i : ℕ). right_with Bounds (Over r 0 n) (get_or s.layout.x i nan) (Kind i) (Number i)) z

  right_later : (r : Float) (n d : ℕ) → suc n + d ≤ s.taken → right_of P r (later s n d) ≡ Over r (suc n) d
  unfolding later right_over right_of
  right_later r n zero h = refl
  right_later r n (suc d) h =
      right_append P r (later s n d) (stands_at s (suc n + d) (Number (suc n + d)))
      ∙ ap (λ (q : Float). right_of P q (stands_at s (suc n + d) (Number (suc n + d)))) (right_later r n d (omega arith))
      ∙ place-right (Over r (suc n) d) (suc n + d) (omega arith) (Number (suc n + d)) refl

  pub right_is : (r : Float) (n : ℕ) → n < s.taken → right_of P r (others n (standing_of s)) ≡ Over (Over r 0 n) (suc n) (s.taken - suc n)
  unfolding standing_of
  right_is r n h =
      let d = s.taken - suc n in
      let e : s.taken ≡ suc n + d = omega arith in
      ap (λ (m : ℕ). right_of P r (others n (standing_to s m))) e
      ∙ ap (right_of P r) (others_are s n d)
      ∙ right_append P r (standing_to s n) (later s n d)
      ∙ ap (λ (q : Float). right_of P q (later s n d)) (right_to r n (omega arith))
      ∙ right_later (Over r 0 n) n d (omega arith)
