-- A copy that goes: what its functions require, and that the state and the rooms after it are the definition's. Assumes nothing.
use Prim.Native.Nat.{ℕ, suc, ◌+◌, ◌-◌, ◌*◌, ◌^◌, ◌≤◌, ◌<◌}
use native.Mathlib.Nat.{le_trans}
use native.Mathlib.Omega.{arith}
use mathlib.Core.Path.{◌≡◌, refl, sym, ap, ap₂, subst, ◌∙◌}
use mathlib.Core.Bool.{true}
use mathlib.Core.List.{List, [], ◌∷◌}
use lib.ListN.{length, get_or, take, replicate, length-take}
use lib.Dec.{leb, eqb}
use lib.Seq.{length-take-le}
use lib.Ieee.{Float, nan}
use borrow.Author.Tests.{leb-true, lt-ltb}
use Rattle.numbers.specs.Numbers.{pos_zero}
use Rattle.numbers.proofs.Truth.{clash, both_second}
use Rattle.trapezoid.specs.Strip.{capacity}
use Rattle.index.specs.declared.Index.{Index}
use Rattle.index.specs.Buckets.{strip_numbers, index_of, entries_of, firsts_of, standing_capacity}
use Rattle.index.proofs.Standing.{standing-few, standing-long}
use Rattle.job.specs.Jobs.{Job}
use Rattle.filling.specs.declared.State.{State}
use Rattle.filling.specs.Shapes.{Planner, Standing, others}
use Rattle.filling.specs.Rooms.{Rooms, rooms_of, laid, zeros}
use Rattle.filling.specs.State.{planner_at, copy_at, stands_at, standing_of}
use Rattle.filling.specs.Consistent.{same_numbers, numbers_lie, sheet_index, entries_for, firsts_for, entries_fit, strip_counts_fit, placed_strips_of}
use Rattle.filling.specs.Withdraw.{closed_up, strips_left, strips_without, right_of, layout_without, state_without, rooms_without, standing_here, withdrawn}
use Rattle.filling_laws.proofs.Ready.{tests_of, taken_upto, strips-within}
use Rattle.filling_laws.proofs.ReadyOrder.{slots-within}
use Rattle.close_up.proofs.Left.{left_many}
use Rattle.filling.proofs.Same.{lies-long}
use Rattle.withdraw.specs.standing.inner.Standing.{Slotted, strips_at, right_over}
use Rattle.withdraw.specs.withdraw_copy.inner.Leaving.{strips_before, strips_here, right_found, state_left, taken, Leaving}
use Rattle.withdraw.proofs.standing.Summing.{strips_more, strips_upto}
use Rattle.withdraw.proofs.withdraw_copy.Stood as Stood

module _ {j : Job} {s : State} {w : Rooms} {n copies : ℕ} {placed : List Float} {entries firsts : List ℕ}
    (L : Leaving j s w n copies placed entries firsts) where
  abbrev P : Planner
  P = planner_at j s.tables w

  -- ---- what is required

  pub few : s.taken ≤ 4096
  few = le_trans (taken_upto j s w L.passes) L.few

  pub slotted : Slotted s.order s.layout.orientation s.taken
  slotted = Stood.slotted j s w (slots-within j L.good) (tests_of j s w L.passes).copies (tests_of j s w L.passes).parts

  pub slotted_to : (m : ℕ) → m ≤ s.taken → Slotted s.order s.layout.orientation m
  slotted_to m h i o a e = slotted i o (omega arith) e

  within : s.placed_strips ≤ standing_capacity w.placed w.placed_firsts
  unfolding strip_counts_fit
  within =
      leb-true s.placed_strips (standing_capacity w.placed w.placed_firsts)
      (both_second (leb s.tables.apart_strips (capacity w.shapes)) _
      (both_second (leb s.tables.sheet_strips (standing_capacity w.sheet w.sheet_firsts)) _ (tests_of j s w L.passes).counts))

  pub numbered : s.placed_strips ≤ strip_numbers
  numbered = standing-few s.placed_strips w.placed w.placed_firsts within

  pub long_firsts : s.placed_strips ≤ length firsts
  long_firsts = subst (λ (l : List ℕ). s.placed_strips ≤ length l) L.firsts_is (standing-long s.placed_strips w.placed w.placed_firsts within)

  pub long-placed : 6 * s.placed_strips ≤ length placed
  long-placed = subst (λ (l : List Float). 6 * s.placed_strips ≤ length l) L.placed_is (strips-within j s w L.passes).placed

  all : strips_before s s.taken ≡ s.placed_strips
  all = Stood.all_strips j s w (slots-within j L.good) (tests_of j s w L.passes).copies (tests_of j s w L.passes).parts
      (strips-within j s w L.passes).placed

  pub both-few : strips_before s n + strips_here s n ≤ s.placed_strips
  both-few =
      let a = strips_more s.tables.parts s.order s.layout.orientation n in
      let b = strips_upto s.tables.parts s.order s.layout.orientation (n + 1) s.taken (let h = L.under in omega arith) in
      let c = all in
      omega (arith, a, b, c)

  -- ---- the same, as each call wants it

  pub early : n ≤ 4096
  early = let h = L.under in let f = few in omega arith

  pub in_layout : n < 4096
  in_layout = let h = L.under in let f = few in omega arith

  pub before : n ≤ s.taken
  before = let h = L.under in omega arith

  pub next : n + 1 ≤ s.taken
  next = let h = L.under in omega arith

  pub sum_fits : strips_before s n < 2 ^ 64
  sum_fits = let a = both-few in let b = numbered in omega (arith, a, b)

  pub gone_few : {a k : ℕ} → a ≡ strips_before s n → k ≡ strips_here s n → a + k ≤ s.placed_strips
  gone_few e f = let b = both-few in omega (arith, b, e, f)

  pub here-few : {k : ℕ} → k ≡ strips_here s n → k ≤ s.placed_strips
  here-few f = let b = both-few in omega (arith, b, f)

  pub within-order : s.taken ≤ copies
  within-order = subst (λ (c : ℕ). s.taken ≤ c) L.copies_are (taken_upto j s w L.passes)

  pub few-copies : copies ≤ 4096
  few-copies = subst (λ (c : ℕ). c ≤ 4096) L.copies_are L.few

  lie : numbers_lie (entries_for s.tables.sheet_bounds (placed_strips_of s w)) w.placed_entries ≡ true
  unfolding entries_fit planner_at
  lie = both_second (numbers_lie (entries_for s.tables.sheet_bounds P.sheet) w.sheet_entries) _ (tests_of j s w L.passes).entries

  many : capacity (placed_strips_of s w) ≡ s.placed_strips
  unfolding capacity placed_strips_of
  many = let e = length-take-le (6 * s.placed_strips) w.placed (strips-within j s w L.passes).placed in omega arith

  -- the entries of all placed strips lie in their room
  pub entries_fit_lem : (ix : Index) → ix ≡ index_of s.tables.sheet_bounds.left s.tables.sheet_bounds.right
      → length (entries_of ix (take (6 * s.placed_strips) placed) s.placed_strips) ≤ length entries
  unfolding entries_for sheet_index placed_strips_of
  entries_fit_lem ix e =
      subst (λ (l : List ℕ). length (entries_of ix (take (6 * s.placed_strips) placed) s.placed_strips) ≤ length l) L.entries_is
      (subst (λ (l : List Float). length (entries_of ix (take (6 * s.placed_strips) l) s.placed_strips) ≤ length w.placed_entries) L.placed_is
      (subst (λ (i : Index). length (entries_of i (placed_strips_of s w) s.placed_strips) ≤ length w.placed_entries) (sym e)
      (subst (λ (m : ℕ). length (entries_of (index_of s.tables.sheet_bounds.left s.tables.sheet_bounds.right) (placed_strips_of s w) m)
      ≤ length w.placed_entries) many (lies-long (entries_for s.tables.sheet_bounds (placed_strips_of s w)) w.placed_entries lie))))

  -- ---- the copy that goes

  abbrev Gone : Standing
  Gone =
      record {
        copy = copy_at s n;
        orientation = L.stands.0;
        x = get_or s.layout.x n nan;
        y = get_or s.layout.y n nan;
        gap = get_or s.layout.gap n nan;
      }

  here : standing_here s n ≡ Gone ∷ []
  unfolding standing_here stands_at
  here = rw (lt-ltb n s.taken L.under, standing_here) (ap (stands_at s n) L.stands.1)

  -- ---- the state and the rooms after

  abbrev Whole : List Float
  Whole = take (6 * s.placed_strips) w.placed

  abbrev Left : List Float
  Left = strips_without P s n Gone (placed_strips_of s w)

  strips-left : (a k : ℕ) → a ≡ strips_before s n → k ≡ strips_here s n → strips_left a k Whole ≡ Left
  unfolding strips_without placed_strips_of
  strips-left a k ea ek =
      let T = tests_of j s w L.passes in
      let W = slots-within j L.good in
      let h = L.under in
      ap₂ (λ (a k : ℕ). strips_left a k Whole) (ea ∙ sym (Stood.strips_are j s w W T.copies T.parts n (omega arith)))
      (ek ∙ ap (strips_at s.tables.parts (get_or s.order n 0)) L.stands.1
      ∙ sym (Stood.here-count j s w W T.copies T.parts n h L.stands.0 L.stands.1 (get_or s.layout.x n nan) (get_or s.layout.y n nan)
      (get_or s.layout.gap n nan)))

  right_are : right_of P P.bounds.left (others n (standing_of s)) ≡ right_found s n
  unfolding planner_at
  right_are =
      let T = tests_of j s w L.passes in
      let b = s.tables.sheet_bounds.left in
      let over = right_over s.tables.inset_bounds s.order s.layout.orientation s.layout.x in
      let e : suc n ≡ n + 1 = omega arith in
      Stood.right_is j s w (slots-within j L.good) T.copies T.parts b n L.under ∙ ap (λ (m : ℕ). over (over b 0 n) m (s.taken - m)) e

  abbrev Made : ℕ → ℕ → Float → State
  Made c strips right =
      record {
        tables = s.tables;
        order = closed_up n c (get_or s.order n 0) s.order;
        taken = s.taken - 1;
        next_column = replicate 1024 1;
        look_counts = replicate 1024 0;
        placed_strips = strips;
        layout = layout_without s.layout n s.taken right;
      }

  module _ (a k : ℕ) (ea : a ≡ strips_before s n) (ek : k ≡ strips_here s n) where
    count_left : s.placed_strips - k ≡ capacity Left
    count_left =
        let b = both-few in
        let l = length-take-le (6 * s.placed_strips) w.placed (strips-within j s w L.passes).placed in
        sym (left_many Whole a k s.placed_strips (omega (arith, b, ea, ek)) l) ∙ ap capacity (strips-left a k ea ek)

    state-same : (right : Float) → right ≡ right_found s n → state_left s n copies k right ≡ state_without j P s n Gone Left
    unfolding state_without copy_at
    state-same right e = ap₂ (λ (c m : ℕ). Made c m right) (sym L.copies_are) count_left ∙ ap (Made j.copies (capacity Left)) (e ∙ sym right_are)

    abbrev In : List Float → List Float
    In room = strips_left a k (take (6 * s.placed_strips) room)

    module _ (ix : Index) (ei : ix ≡ index_of s.tables.sheet_bounds.left s.tables.sheet_bounds.right) where
      rooms_same : (placed' : List Float) (entries' firsts' : List ℕ) → placed' ≡ laid (In placed) (zeros pos_zero placed)
          → entries' ≡ laid (entries_of ix (In placed) (capacity (In placed))) (zeros 0 entries)
          → firsts' ≡ laid (firsts_of ix (In placed) (capacity (In placed))) (zeros 0 firsts)
          → rooms_of w.shapes w.sheet placed' w.sheet_entries entries' w.sheet_firsts firsts' ≡ rooms_without P w Left
      unfolding rooms_without entries_for firsts_for sheet_index planner_at
      rooms_same placed' entries' firsts' p e f =
          let x = strips-left a k ea ek in
          let P1 = p ∙ ap (λ (l : List Float). laid (In l) (zeros pos_zero l)) (sym L.placed_is) ∙ ap (λ (l : List Float). laid l (zeros pos_zero w.placed))
          x in
          let E1 = e ∙ ap₂ (λ (l : List Float) (r : List ℕ). laid (entries_of ix (In l) (capacity (In l))) (zeros 0 r)) (sym L.placed_is)
          (sym L.entries_is)
          ∙ ap₂ (λ (i : Index) (l : List Float). laid (entries_of i l (capacity l)) (zeros 0 w.placed_entries)) ei x in
          let F1 = f ∙ ap₂ (λ (l : List Float) (r : List ℕ). laid (firsts_of ix (In l) (capacity (In l))) (zeros 0 r)) (sym L.placed_is) (sym L.firsts_is)
          ∙ ap₂ (λ (i : Index) (l : List Float). laid (firsts_of i l (capacity l)) (zeros 0 w.placed_firsts)) ei x in
          ap₂ (λ (l : List Float) (m : List ℕ). rooms_of w.shapes w.sheet l w.sheet_entries m w.sheet_firsts firsts') P1 E1
          ∙ ap (rooms_of w.shapes w.sheet _ w.sheet_entries _ w.sheet_firsts) F1

      -- the reply is the definition's
      pub leaves : (r : State) (right : Float) (placed' : List Float) (entries' firsts' : List ℕ) → right ≡ right_found s n → r ≡ state_left s n copies k right
          → placed' ≡ laid (In placed) (zeros pos_zero placed)
          → entries' ≡ laid (entries_of ix (In placed) (capacity (In placed))) (zeros 0 entries)
          → firsts' ≡ laid (firsts_of ix (In placed) (capacity (In placed))) (zeros 0 firsts)
          → taken r (rooms_of w.shapes w.sheet placed' w.sheet_entries entries' w.sheet_firsts firsts') ≡ withdrawn j P s w n (standing_here s n)
      unfolding withdrawn
      leaves r right placed' entries' firsts' er es p e f =
          ap₂ taken (es ∙ state-same right er) (rooms_same placed' entries' firsts' p e f) ∙ sym (ap (withdrawn j P s w n) here)
