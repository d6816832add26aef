-- Storing a line's strips by counts is what the definition says of strips and entries: 20, 21, or that they stand. Assumes nothing.
use Rattle.std.specs.Prelude.{Option, Some, None, Result, Ok, Err}
use Rattle.filling.specs.declared.Refusal.{Refusal}
use Prim.Native.Nat.{ℕ, ◌+◌, ◌-◌, ◌*◌, ◌/◌, ◌≤◌, ◌<◌}
use native.Mathlib.Omega.{arith}
use mathlib.Core.Path.{◌≡◌, sym, ap, ap₂, subst, ◌∙◌}
use mathlib.Core.Logic.{inl, inr}
use mathlib.Core.Bool.{true, false}
use mathlib.Core.List.{List, ◌++◌}
use lib.ListN.{length, take}
use lib.Seq.{length-take-le}
use lib.Dec.{ltb, leb}
use lib.Ieee.{Float}
use borrow.Author.Tests.{lt-ltb, le-ltb, ltb-true, ltb-false, leb-true, leb-false}
use Rattle.numbers.proofs.Truth.{either}
use Rattle.trapezoid.specs.Strip.{strip_at, capacity, moved_by}
use Rattle.index.specs.declared.Index.{Index}
use Rattle.index.specs.Buckets.{entries_of, standing_capacity}
use Rattle.frames.specs.declared.Point.{Point}
use Rattle.job.specs.Jobs.{Job}
use Rattle.filling.specs.declared.Refusal.TheVariants as Why
use Rattle.filling.specs.Shapes.{Planner, planner_of, moved_strips}
use Rattle.filling.specs.Rooms.{Rooms}
use Rattle.filling.specs.Consistent.{sheet_index, entries_for}
use Rattle.filling.specs.NextCopy.{store_verdict}
use Rattle.filling.proofs.Steps.{refuse_yes, refuse_no}
use Rattle.store.specs.inner.Storing.{moved_to, widths_to, rest_of, together}
use Rattle.store.proofs.Strips.{after-strip, after-before, strips-count, strips-take, strips-same, prefix_strip}
use Rattle.store.proofs.Widths.{entries-same, entries-sum}
use Rattle.store.proofs.Whole.{rest-enough, rest_short}
use Rattle.judge_lines.specs.declared.Standing.{Standing}
use Rattle.judge_lines.specs.inner.Judging.{Stored, stored, rest_stored, stored_of, Within}

-- ---- the code's answer by its two tests

module _ (ix : Index) (apart : List Float) (q : Point) (room : ℕ) (s : Standing) (placed : List Float) where
  abbrev k : ℕ
  k = capacity apart

  abbrev width : ℕ
  width = widths_to ix apart q.x (capacity apart)

  abbrev Done : Stored
  Done = stored (Ok (record { strips = s.strips + k; entries = s.entries - width })) (moved_to apart q.x q.y s.strips placed k)

  stored_short : room - s.strips < k → stored_of ix apart q room s placed ≡ stored (Err Why.StripRoom) placed
  unfolding stored_of
  stored_short h = rw (lt-ltb (room - s.strips) (capacity apart) h, stored_of)

  stored-rest : k ≤ room - s.strips → stored_of ix apart q room s placed ≡ rest_stored (rest_of s.entries width) apart q s placed
  unfolding stored_of
  stored-rest h = rw (le-ltb (room - s.strips) (capacity apart) h, stored_of)

  stored_full : k ≤ room - s.strips → leb width s.entries ≡ false → stored_of ix apart q room s placed ≡ stored (Err Why.EntryRoom) placed
  unfolding rest_stored
  stored_full h e = stored-rest h ∙ ap (λ (r : Option ℕ). rest_stored r apart q s placed) (rest_short s.entries width e)

  stored-done : k ≤ room - s.strips → leb width s.entries ≡ true → stored_of ix apart q room s placed ≡ Done
  unfolding rest_stored
  stored-done h e = stored-rest h ∙ ap (λ (r : Option ℕ). rest_stored r apart q s placed) (rest-enough s.entries width e)

  -- a property of the answer
  pub stored_cases : (A : Stored → Type 0) → (room - s.strips < k → A (stored (Err Why.StripRoom) placed))
      → (k ≤ room - s.strips → s.entries < width → A (stored (Err Why.EntryRoom) placed)) → (k ≤ room - s.strips → width ≤ s.entries → A Done)
      → A (stored_of ix apart q room s placed)
  stored_cases A a b c = elim (either (ltb (room - s.strips) (capacity apart))) [
    | inl e ↦ (let h = ltb-true (room - s.strips) (capacity apart) e in subst A (sym (stored_short h)) (a h))
    | inr e ↦
        let h : k ≤ room - s.strips = ltb-false (room - s.strips) (capacity apart) e in
        elim (either (leb width s.entries)) [
          | inl d ↦ subst A (sym (stored-done h d)) (c h (leb-true width s.entries d))
          | inr d ↦ subst A (sym (stored_full h d)) (b h (leb-false width s.entries d))
        ]
  ]

  pub stored-within : s.strips ≤ room → Within room (stored_of ix apart q room s placed).line
  stored-within h = stored_cases (λ (z : Stored). Within room z.line) (λ a. tt) (λ a b. tt) (λ a b. omega (arith, h, a))

-- ---- with the strips and their number as the code has them

module _ (ix : Index) (apart aparts : List Float) (e : aparts ≡ apart) (q : Point) (room : ℕ) (s : Standing) (placed : List Float) (k : ℕ)
    (d : k ≡ capacity aparts) where
  abbrev Of : List Float → Stored
  Of l = stored_of ix l q room s placed

  abbrev rest : Option ℕ
  rest = rest_of s.entries (widths_to ix aparts q.x (capacity aparts))

  pub line_short : room - s.strips < k → stored (Err Why.StripRoom) placed ≡ Of apart
  line_short h = sym (stored_short ix aparts q room s placed (subst (λ (n : ℕ). room - s.strips < n) d h)) ∙ ap Of e

  pub line_full : k ≤ room - s.strips → (r : Option ℕ) → r ≡ rest → r ≡ None → stored (Err Why.EntryRoom) placed ≡ Of apart
  unfolding rest_stored
  line_full h r a b =
      sym (stored-rest ix aparts q room s placed (subst (λ (n : ℕ). n ≤ room - s.strips) d h)
      ∙ ap (λ (z : Option ℕ). rest_stored z aparts q s placed) (sym a ∙ b)) ∙ ap Of e

  pub line-done : k ≤ room - s.strips → (r : Option ℕ) → r ≡ rest → (left : ℕ) → r ≡ Some left → (placed' : List Float)
      → placed' ≡ moved_to aparts q.x q.y s.strips placed (capacity aparts)
      → stored (Ok (record { strips = s.strips + k; entries = left })) placed' ≡ Of apart
  unfolding rest_stored
  line-done h r a left b placed' f =
      ap₂ (λ (n : ℕ) (z : List Float). stored (Ok (record { strips = s.strips + n; entries = left })) z) d f
      ∙ (sym (stored-rest ix aparts q room s placed (subst (λ (n : ℕ). n ≤ room - s.strips) d h)
      ∙ ap (λ (z : Option ℕ). rest_stored z aparts q s placed) (sym a ∙ b)) ∙ ap Of e)

-- the strips stand, or the definition refuses them so
abbrev pub StoredAs : Job → Rooms → List Float → Result Standing Refusal → List Float → Type 0
StoredAs j w now (Ok t) placed' =
    (store_verdict (planner_of j) w now ≡ (Ok tt)) × (take (6 * t.strips) placed' ≡ now)
    × (length w.placed_entries ≡ t.entries + length (entries_for (planner_of j).bounds now))
StoredAs j w now (Err r) placed' = store_verdict (planner_of j) w now ≡ Err r

-- ---- the definition's verdict

module _ (j : Job) (w : Rooms) (apart : List Float) (q : Point) (s : Standing) (placed st : List Float) (room : ℕ)
    (stands : take (6 * s.strips) placed ≡ st) (room_is : standing_capacity w.placed w.placed_firsts ≡ room)
    (entries : length w.placed_entries ≡ s.entries + length (entries_for (planner_of j).bounds st))
    (long : 6 * room ≤ length placed) (upto : s.strips ≤ room) where
  abbrev P : Planner
  P = planner_of j

  abbrev Ix : Index
  Ix = sheet_index (planner_of j).bounds

  abbrev n : ℕ
  n = s.strips

  abbrev m : ℕ
  m = capacity apart

  abbrev w₁ : ℕ
  w₁ = widths_to Ix apart q.x m

  -- the strips that would stand
  abbrev pub Now : List Float
  Now = st ++ moved_strips apart q.x q.y

  now_is : together apart q.x q.y n placed ≡ Now
  now_is = ap (λ (l : List Float). l ++ moved_strips apart q.x q.y) stands

  now_count : capacity Now ≡ n + m
  now_count = ap capacity (sym now_is) ∙ strips-count apart q.x q.y n placed (omega arith)

  verdict_short : room - n < m → store_verdict P w Now ≡ Err Why.StripRoom
  unfolding store_verdict
  verdict_short h =
      refuse_yes _ Why.StripRoom _
      (lt-ltb (standing_capacity w.placed w.placed_firsts) (capacity Now) (let a = now_count in omega (arith, a, h, room_is, upto)))

  module _ (fits : m ≤ room - n) where
    six : 6 * (n + m) ≤ length placed
    six = omega arith

    pub now_taken : take (6 * (n + m)) (moved_to apart q.x q.y n placed m) ≡ Now
    now_taken = sym (strips-take apart q.x q.y n placed six) ∙ now_is

    strip-new : (i : ℕ) → i < m → strip_at (together apart q.x q.y n placed) (n + i) ≡ moved_by (strip_at apart i) q.x q.y
    strip-new i h = strips-same apart q.x q.y n placed six (n + i) (omega arith) ∙ after-strip apart q.x q.y n placed m i h six

    strip-old : (i : ℕ) → i < n → strip_at (together apart q.x q.y n placed) i ≡ strip_at st i
    strip-old i h =
        strips-same apart q.x q.y n placed six i (omega arith)
        ∙ (after-before apart q.x q.y n placed m i h ∙ (sym (prefix_strip placed n i h) ∙ ap (λ (l : List Float). strip_at l i) stands))

    old-count : capacity st ≡ n
    unfolding capacity
    old-count = let a = ap length (sym stands) in let b = length-take-le (6 * n) placed (omega arith) in let c : length st / 6 ≡ n = omega arith in c

    now_entries : length (entries_for (planner_of j).bounds Now) ≡ length (entries_for (planner_of j).bounds st) + w₁
    unfolding entries_for
    now_entries =
        ap (λ (l : List Float). length (entries_of Ix l (capacity Now))) (sym now_is)
        ∙ (ap (λ (i : ℕ). length (entries_of Ix (together apart q.x q.y n placed) i)) now_count
        ∙ (entries-sum Ix apart q.x q.y (together apart q.x q.y n placed) n m strip-new
        ∙ (ap (λ (l : List ℕ). length l + w₁) (entries-same Ix (together apart q.x q.y n placed) st n strip-old)
        ∙ ap (λ (i : ℕ). length (entries_of Ix st i) + w₁) (sym old-count))))

    roomy : standing_capacity w.placed w.placed_firsts ≡ room → capacity Now ≤ standing_capacity w.placed w.placed_firsts
    roomy e = let a = now_count in omega (arith, a, e, fits, upto)

    verdict_full : s.entries < w₁ → store_verdict P w Now ≡ Err Why.EntryRoom
    unfolding store_verdict
    verdict_full h =
        refuse_no _ Why.StripRoom _ (le-ltb (standing_capacity w.placed w.placed_firsts) (capacity Now) (roomy room_is))
        ∙ refuse_yes _ Why.EntryRoom (Ok tt)
        (lt-ltb (length w.placed_entries) (length (entries_for (planner_of j).bounds Now)) (let a = now_entries in omega (arith, a, h, entries)))

    verdict-done : w₁ ≤ s.entries → store_verdict P w Now ≡ (Ok tt)
    unfolding store_verdict
    verdict-done h =
        refuse_no _ Why.StripRoom _ (le-ltb (standing_capacity w.placed w.placed_firsts) (capacity Now) (roomy room_is))
        ∙ refuse_no _ Why.EntryRoom (Ok tt)
        (le-ltb (length w.placed_entries) (length (entries_for (planner_of j).bounds Now)) (let a = now_entries in omega (arith, a, h, entries)))

    entries-left : w₁ ≤ s.entries → length w.placed_entries ≡ s.entries - w₁ + length (entries_for (planner_of j).bounds Now)
    entries-left h = let a = now_entries in omega (arith, a, h, entries)

  pub stored_is : (ix : Index) → ix ≡ Ix → (r : Result Standing Refusal) (placed' : List Float) → stored r placed' ≡ stored_of ix apart q room s placed → StoredAs j w Now r placed'
  stored_is ix e r placed' d =
      subst (λ (z : Stored). StoredAs j w Now z.line z.placed) (sym (d ∙ ap (λ (i : Index). stored_of i apart q room s placed) e))
      (stored_cases Ix apart q room s placed (λ (z : Stored). StoredAs j w Now z.line z.placed) verdict_short (λ a b. verdict_full a b)
      (λ a b. (verdict-done a b, now_taken a, entries-left a b)))
