-- 31's tests in the code's order are the definition's; the tests by cases. Assumes nothing.
use Prim.Native.Nat.{ℕ, ◌+◌, ◌*◌, ◌≤◌, ◌<◌}
use native.Mathlib.Omega.{arith}
use mathlib.Core.Path.{◌≡◌, refl, sym, ap, ap₂, ◌∙◌}
use mathlib.Core.Logic.{◌⊎◌, inl, inr}
use mathlib.Core.Bool.{Bool, true, false, ◌&&◌}
use mathlib.Core.List.{List}
use lib.ListN.{length, get_or, take, length-map}
use lib.Seq.{length-take-le}
use lib.Dec.{leb}
use lib.Ieee.{Float}
use Rattle.numbers.proofs.Truth.{either, both_first, both_second}
use Rattle.trapezoid.specs.Strip.{capacity}
use Rattle.index.specs.Buckets.{standing_capacity}
use Rattle.job.specs.Jobs.{Job}
use Rattle.filling.specs.declared.Tables.{Tables}
use Rattle.filling.specs.declared.State.{State}
use Rattle.filling.specs.Rooms.{Rooms}
use Rattle.filling.specs.Order.{rearranged}
use Rattle.filling.specs.State.{orientation_counts, planner_at, order_of, standing_of, tracks_of}
use Rattle.filling.specs.Consistent.{every, strips_fit, bounds_fit, taken_fits, strip_counts_fit, parts_fit, track_table_fits, resolution_fits, shape_fits, planner_fits}
use Rattle.filling.specs.Consistent.{layout_fits, gaps_fit, copies_fit, numbers_lie, entries_for, entries_fit, sheet_strips_of, placed_strips_of, firsts_for, firsts_fit, consistent}
use Rattle.accounts.specs.tables.inner.Tabled.{Tabled}
use Rattle.consistent.specs.strip_tests.inner.Gaps.{gaps_test}
use Rattle.consistent.specs.slot_tests.inner.Slots.{Slots, slots_test}
use Rattle.consistent.specs.copy_tests.inner.Copies.{held, copies_test}
use Rattle.consistent.specs.inner.Tests.{slots_of, state_test, counts_test, strip_room_test, standing_test, rooms_test}
use Rattle.consistent.proofs.strip_tests.GapTests.{gaps_are}
use Rattle.consistent.proofs.copy_tests.SameCopies.{copies_are}
use Rattle.consistent.proofs.SameSlots.{slots_same}
use Rattle.consistent.proofs.Cases.{rooms-held}

-- ---- the same tests in another order

same_truth : (a b : Bool) → (a ≡ true → b ≡ true) → (b ≡ true → a ≡ true) → a ≡ b
same_truth true b f g = sym (f refl)
same_truth false true f g = g refl
same_truth false false f g = refl

halves : (a b : Bool) → a && b ≡ true → (a ≡ true) × (b ≡ true)
halves a b e = (both_first a b e, both_second a b e)

module _ (t c p r res sh b ss st l gp tr cp e f g h : Bool) where
  abbrev Coded : Bool
  Coded = (t && (res && (b && l))) && (r && (gp && ((c && ((p && (ss && tr)) && ((sh && (g && e)) && (st && (h && f))))) && cp)))

  abbrev Defined : Bool
  Defined = t && (c && (p && (r && ((res && (sh && (b && ss))) && (st && (l && (gp && (tr && (cp && ((e && f) && (g && h)))))))))))

  there : Coded ≡ true → Defined ≡ true
  there q =
      let q0 = halves (t && (res && (b && l))) (r && (gp && ((c && ((p && (ss && tr)) && ((sh && (g && e)) && (st && (h && f))))) && cp))) q in
      let q1 = halves t (res && (b && l)) q0.0 in
      let q2 = halves res (b && l) q1.1 in
      let q3 = halves b l q2.1 in
      let q4 = halves r (gp && ((c && ((p && (ss && tr)) && ((sh && (g && e)) && (st && (h && f))))) && cp)) q0.1 in
      let q5 = halves gp ((c && ((p && (ss && tr)) && ((sh && (g && e)) && (st && (h && f))))) && cp) q4.1 in
      let q15 = halves (c && ((p && (ss && tr)) && ((sh && (g && e)) && (st && (h && f))))) cp q5.1 in
      let q6 = halves c ((p && (ss && tr)) && ((sh && (g && e)) && (st && (h && f)))) q15.0 in
      let q7 = halves (p && (ss && tr)) ((sh && (g && e)) && (st && (h && f))) q6.1 in
      let q8 = halves p (ss && tr) q7.0 in
      let q9 = halves ss tr q8.1 in
      let q10 = halves (sh && (g && e)) (st && (h && f)) q7.1 in
      let q11 = halves sh (g && e) q10.0 in
      let q12 = halves g e q11.1 in
      let q13 = halves st (h && f) q10.1 in
      let q14 = halves h f q13.1 in
      rw (q1.0, q6.0, q8.0, q4.0, q2.0, q11.0, q3.0, q9.0, q13.0, q3.1, q5.0, q9.1, q15.1, q12.1, q14.1, q12.0, q14.0)

  back : Defined ≡ true → Coded ≡ true
  back q =
      let q1 = halves t (c && (p && (r && ((res && (sh && (b && ss))) && (st && (l && (gp && (tr && (cp && ((e && f) && (g && h))))))))))) q in
      let q2 = halves c (p && (r && ((res && (sh && (b && ss))) && (st && (l && (gp && (tr && (cp && ((e && f) && (g && h)))))))))) q1.1 in
      let q3 = halves p (r && ((res && (sh && (b && ss))) && (st && (l && (gp && (tr && (cp && ((e && f) && (g && h))))))))) q2.1 in
      let q4 = halves r ((res && (sh && (b && ss))) && (st && (l && (gp && (tr && (cp && ((e && f) && (g && h)))))))) q3.1 in
      let q5 = halves (res && (sh && (b && ss))) (st && (l && (gp && (tr && (cp && ((e && f) && (g && h))))))) q4.1 in
      let q6 = halves res (sh && (b && ss)) q5.0 in
      let q7 = halves sh (b && ss) q6.1 in
      let q8 = halves b ss q7.1 in
      let q9 = halves st (l && (gp && (tr && (cp && ((e && f) && (g && h)))))) q5.1 in
      let q10 = halves l (gp && (tr && (cp && ((e && f) && (g && h))))) q9.1 in
      let q15 = halves gp (tr && (cp && ((e && f) && (g && h)))) q10.1 in
      let q11 = halves tr (cp && ((e && f) && (g && h))) q15.1 in
      let q16 = halves cp ((e && f) && (g && h)) q11.1 in
      let q12 = halves (e && f) (g && h) q16.1 in
      let q13 = halves e f q12.0 in
      let q14 = halves g h q12.1 in
      rw (q1.0, q2.0, q3.0, q4.0, q6.0, q7.0, q8.0, q8.1, q9.0, q10.0, q15.0, q11.0, q16.0, q13.0, q13.1, q14.0, q14.1)

  reordered : Coded ≡ Defined
  reordered = same_truth Coded Defined there back

-- ---- of a job whose tables are known

module _ (j : Job) (s : State) (w : Rooms) (rows : List ℕ) (areas : List Float) (kinds copies : ℕ) (T : Tabled j rows areas) (ek : length j.kinds ≡ kinds)
    (ec : j.copies ≡ copies) where
  abbrev t : Tables
  t = s.tables

  abbrev given : Slots
  given = slots_of t.sheet_bounds t.resolution s.taken t.inset_bounds t.parts w.shapes t.apart_strips s.next_column
      s.look_counts

  abbrev sheet : List Float
  sheet = take (6 * t.sheet_strips) w.sheet

  abbrev standing : List Float
  standing = take (6 * s.placed_strips) w.placed

  abbrev counts : Bool
  counts =
      leb t.sheet_strips (standing_capacity w.sheet w.sheet_firsts)
      && (leb t.apart_strips (capacity w.shapes) && leb s.placed_strips (standing_capacity w.placed w.placed_firsts))

  abbrev room_fits : List Float → List ℕ → List ℕ → Bool
  room_fits part es fs = strips_fit part && (numbers_lie (firsts_for t.sheet_bounds part) fs && numbers_lie (entries_for t.sheet_bounds part) es)

  abbrev stands : Bool
  stands = room_fits sheet w.sheet_entries w.sheet_firsts && room_fits standing w.placed_entries w.placed_firsts

  turns-long : length (orientation_counts j) ≡ kinds
  unfolding orientation_counts
  turns-long = length-map j.kinds (λ k. length k.orientations) ∙ ek

  turns : (i : ℕ) → i < length (orientation_counts j) → get_or (orientation_counts j) i 0 ≡ get_or rows (4 * i + 3) 0
  turns i l = T.orientations i (let e = turns-long in omega arith)

  slots_are : slots_test given rows kinds ≡ parts_fit j t w && (every (every shape_fits) (planner_at j t w).shapes && track_table_fits (planner_at j t w) s.taken
      (planner_at j t w).shapes (tracks_of j s))
  unfolding parts_fit planner_at tracks_of
  slots_are = ap (slots_test given rows) (sym turns-long) ∙ slots_same t w.shapes s.taken s.next_column s.look_counts (planner_at j t w) refl refl
      rows (orientation_counts j) turns

  abbrev roomed : Bool
  roomed = rooms_test given rows kinds
      (counts_test t.sheet_strips t.apart_strips s.placed_strips w.sheet w.shapes w.placed w.sheet_firsts w.placed_firsts)
      (standing_test t.sheet_bounds sheet standing w.sheet_entries w.placed_entries w.sheet_firsts w.placed_firsts)

  abbrev copied : Bool
  copied = copies_test (held rows kinds t.parts (take (6 * t.apart_strips) w.shapes) standing) s.order s.layout.orientation
      s.layout.x s.layout.y s.taken 0 0

  abbrev fitting : Bool
  fitting = copies_fit j (planner_at j t w) (standing_of s) standing

  whole : 6 * s.placed_strips ≤ length w.placed → 6 * capacity standing ≡ length standing
  unfolding capacity
  whole h = let e = length-take-le (6 * s.placed_strips) w.placed h in omega arith

  -- rooms that pass hold whole strips
  copies-same : roomed && copied ≡ roomed && fitting
  copies-same = go (either roomed)
    where
      go : (roomed ≡ true) ⊎ (roomed ≡ false) → roomed && copied ≡ roomed && fitting
      go (inl e) =
          let h = rooms-held given rows kinds t.sheet_strips t.apart_strips s.placed_strips w.sheet w.shapes w.placed w.sheet_firsts
          w.placed_firsts (standing_test t.sheet_bounds sheet standing w.sheet_entries w.placed_entries w.sheet_firsts w.placed_firsts) e in
          ap (λ b. roomed && b) (copies_are j s w rows kinds turns-long (λ i l. turns i (let z = turns-long in omega arith)) standing (whole h.1))
      go (inr e) = ap (λ b. b && copied) e ∙ sym (ap (λ b. b && fitting) e)

  tests_are :
      state_test s.taken j.copies t.resolution t.sheet_bounds s.layout.right s.layout.unplaced_area
      && (rearranged j (take j.copies s.order) && (gaps_fit s && (roomed && fitting)))
      ≡ consistent j s w
  unfolding state_test rooms_test counts_test strip_room_test standing_test consistent taken_fits strip_counts_fit order_of planner_fits sheet_strips_of placed_strips_of
      entries_fit firsts_fit planner_at
  tests_are =
      ap (λ (b : Bool). (leb s.taken j.copies && (resolution_fits t.resolution && (bounds_fit t.sheet_bounds &&
      layout_fits s.layout.right s.layout.unplaced_area)))
      && (rearranged j (take j.copies s.order) && (gaps_fit s && ((counts && (b && stands)) && fitting)))) slots_are
      ∙ reordered (leb s.taken j.copies) counts (parts_fit j t w) (rearranged j (take j.copies s.order)) (resolution_fits t.resolution)
      (strips_fit sheet) (bounds_fit t.sheet_bounds)
      (every (every shape_fits) (planner_at j t w).shapes) (strips_fit standing) (layout_fits s.layout.right s.layout.unplaced_area) (gaps_fit s)
      (track_table_fits (planner_at j t w) s.taken (planner_at j t w).shapes (tracks_of j s)) fitting
      (numbers_lie (entries_for t.sheet_bounds sheet) w.sheet_entries) (numbers_lie (entries_for t.sheet_bounds standing) w.placed_entries)
      (numbers_lie (firsts_for t.sheet_bounds sheet) w.sheet_firsts) (numbers_lie (firsts_for t.sheet_bounds standing) w.placed_firsts)

  pub consistent_is :
      state_test s.taken copies t.resolution t.sheet_bounds s.layout.right s.layout.unplaced_area
      && (rearranged j (take copies s.order) && (gaps_test s.layout.orientation s.layout.gap s.taken && (roomed && copied)))
      ≡ consistent j s w
  consistent_is =
      ap (λ (n : ℕ). state_test s.taken n t.resolution t.sheet_bounds s.layout.right s.layout.unplaced_area
      && (rearranged j (take n s.order) && (gaps_test s.layout.orientation s.layout.gap s.taken && (roomed && copied)))) (sym ec)
      ∙ (ap₂ (λ (g b : Bool). state_test s.taken j.copies t.resolution t.sheet_bounds s.layout.right s.layout.unplaced_area
      && (rearranged j (take j.copies s.order) && (g && b))) (gaps_are s) copies-same ∙ tests_are)
