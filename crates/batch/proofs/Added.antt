-- State and rooms with one copy added to some that 31 lets pass: 31 lets them pass exactly where what was added passes. Assumes nothing.
use Prim.Native.Nat.{ℕ, zero, suc, ◌+◌, ◌*◌}
use native.Mathlib.Omega.{arith}
use mathlib.Core.Path.{◌≡◌, refl, sym, ap, ap₂, subst, ◌∙◌}
use mathlib.Core.Logic.{◌⊎◌, inl, inr}
use mathlib.Core.Bool.{Bool, true, false, ◌&&◌, and-true}
use mathlib.Core.List.{List, [], ◌∷◌, ◌++◌}
use lib.ListN.{length, get_or, set, drop}
use lib.Seq.{drop_at}
use lib.Ieee.{Float, eq}
use borrow.Author.Tests.{leb-true, le-leb}
use Rattle.numbers.proofs.Truth.{either, clash, both_first, both_second}
use Rattle.trapezoid.specs.Strip.{strip_at, capacity}
use Rattle.job.specs.Jobs.{Job}
use Rattle.filling.specs.declared.State.{State}
use Rattle.filling.specs.Shapes.{Shape, Planner, Standing, standing_strips}
use Rattle.filling.specs.Search.{Track, last_of}
use Rattle.filling.specs.Rooms.{Rooms}
use Rattle.filling.specs.Order.{rearranged}
use Rattle.filling.specs.State.{slot_rows, orientation_counts, planner_at, order_of, stands_at, standing_of, tracks_of}
use Rattle.filling.specs.Consistent.{every, strip_fits, strips_fit, taken_fits, strip_counts_fit, parts_fit, column_fits, track_fits, tracks_fit, track_table_fits}
use Rattle.filling.specs.Consistent.{planner_fits, layout_fits, gap_fits, gaps_fit, entries_fit, orientation_fits, position_fits, same, same_doubles, copies_fit}
use Rattle.filling.specs.Consistent.{placed_strips_of, firsts_fit, consistent}
use Rattle.filling.proofs.Reading.{Sixfold, capacity_append}
use Rattle.filling.proofs.AtPlace.{strips_append}
use Rattle.filling.proofs.FirstsKept.{placed_sixfold, placed_are}
use Rattle.filling.proofs.Numbers31 as Numbers31
use Rattle.filling.proofs.Numbers31.{every-up_from, up_from-every, strip-right}
use Rattle.filling.proofs.Stood.{same-strips, Stands}
use Rattle.filling_laws.proofs.Ready.{Tests, tests_of}
use Rattle.batch.specs.inner.Tested.{place_fits, copy_fits}

-- ---- Booleans

and_pairs : (a b c d : Bool) → (a && b) && (c && d) ≡ (a && c) && (b && d)
and_pairs false b c d = refl
and_pairs true true c d = refl
and_pairs true false true d = refl
and_pairs true false false d = refl

-- five tests that hold, and what is left
all_hold : {a b c d e : Bool} (f : Bool) → a ≡ true → b ≡ true → c ≡ true → d ≡ true → e ≡ true → a && (b && (c && (d && (e && f)))) ≡ f
all_hold f p q r s t = rw (p, q, r, s, t)

-- the others: the copies are judged where the strips fit
others-hold : (f l g t c p : Bool) {m n : Bool} → m ≡ true → n ≡ true → (f ≡ true → c ≡ p)
    → f && (l && (g && (t && (c && (m && n))))) ≡ f && (l && (t && (p && g)))
others-hold false l g t c p i k h = refl
others-hold true false g t c p i k h = refl
others-hold true true g t c p i k h = rw (i, k, h refl) (ordered g t p)
  where
    ordered : (g t p : Bool) → g && (t && (p && true)) ≡ t && (p && g)
    ordered true true true = refl
    ordered true true false = refl
    ordered true false p = refl
    ordered false true true = refl
    ordered false true false = refl
    ordered false false p = refl

-- ---- a test of all where some are new

module _ {A : Type 0} (test : A → Bool) where
  every-new : (xs ys : List A) → every test xs ≡ true → every test (xs ++ ys) ≡ every test ys
  unfolding every
  every-new [] ys h = refl
  every-new (x ∷ xs) ys h = rw (both_first (test x) (every test xs) h, every-new xs ys (both_second (test x) (every test xs) h))

  every-both : (other : A → Bool) (xs : List A) → every (λ x. test x && other x) xs ≡ every test xs && every other xs
  unfolding every
  every-both other [] = refl
  every-both other (x ∷ xs) =
      ap (λ (b : Bool). (test x && other x) && b) (every-both other xs) ∙ and_pairs (test x) (other x) (every test xs) (every other xs)

same_append : (a b c : List Float) → same_doubles a b ≡ true → same_doubles c c ≡ true → same_doubles (a ++ c) (b ++ c) ≡ true
unfolding same
same_append [] [] c h k = k
same_append [] (y ∷ b) c h k = absurd (clash h refl)
same_append (x ∷ a) [] c h k = absurd (clash h refl)
same_append (x ∷ a) (y ∷ b) c h k = rw (both_first (eq x y) (same_doubles a b) h, same_append a b c (both_second (eq x y) (same_doubles a b) h) k)

-- strips that fit, with more behind them
strips-new : (st new : List Float) → Sixfold st → Sixfold new → strips_fit st ≡ true → strips_fit (st ++ new) ≡ strips_fit new
strips-new st new s t h = go (either (strips_fit new)) (either (strips_fit (st ++ new)))
  where
    back : strips_fit (st ++ new) ≡ true → strips_fit new ≡ true
    back b = unfold strips_fit in
        (let c = capacity_append st new s t in
        every-up_from (λ n. strip_fits (strip_at new n)) (capacity new) 0
        (λ i l u. ap strip_fits (sym (strip-right st new i s))
        ∙ up_from-every (λ n. strip_fits (strip_at (st ++ new) n)) (capacity (st ++ new)) 0 (unfold strips_fit in b) (capacity st + i) (omega arith) (omega arith)))

    go : (strips_fit new ≡ true) ⊎ (strips_fit new ≡ false) → (strips_fit (st ++ new) ≡ true) ⊎ (strips_fit (st ++ new) ≡ false)
        → strips_fit (st ++ new) ≡ strips_fit new
    go (inl a) b = Numbers31.strips_append st new s t h a ∙ sym a
    go (inr a) (inl b) = b ∙ sym (back b)
    go (inr a) (inr b) = b ∙ sym a

-- ---- tracks: one copy more has been taken, and kind k's are new

module _ (p : Planner) (n : ℕ) where
  track_more : (last : ℕ) (t : Track) → track_fits n last t ≡ true → track_fits (suc n) last t ≡ true
  unfolding track_fits
  track_more last t h =
      let a = both_first (column_fits last t.next_column) _ h in
      let b = leb-true t.look_count (suc last + n) (both_second (column_fits last t.next_column) _ h) in
      rw (a, le-leb t.look_count (suc last + suc n) (omega arith))

  row_more : (ss : List Shape) (ts : List Track) → tracks_fit p n ss ts ≡ true → tracks_fit p (suc n) ss ts ≡ true
  unfolding tracks_fit
  row_more [] ts h = refl
  row_more (s ∷ ss) [] h = refl
  row_more (s ∷ ss) (t ∷ ts) h = rw (
    track_more (last_of p s) t (both_first (track_fits n (last_of p s) t) _ h),
    row_more ss ts (both_second (track_fits n (last_of p s) t) _ h),
  )

  table_more : (sss : List (List Shape)) (tss : List (List Track)) → track_table_fits p n sss tss ≡ true → track_table_fits p (suc n) sss tss ≡ true
  unfolding track_table_fits
  table_more [] tss h = refl
  table_more (ss ∷ sss) [] h = refl
  table_more (ss ∷ sss) (ts ∷ tss) h = rw (
    row_more ss ts (both_first (tracks_fit p n ss ts) _ h),
    table_more sss tss (both_second (tracks_fit p n ss ts) _ h),
  )

  table-new : (sss : List (List Shape)) (tss : List (List Track)) (k : ℕ) (ts : List Track) → length sss ≡ length tss → track_table_fits p n sss tss ≡ true
      → track_table_fits p (suc n) sss (set tss k ts) ≡ tracks_fit p (suc n) (get_or sss k []) (get_or (set tss k ts) k [])
  unfolding track_table_fits tracks_fit
  table-new [] [] k ts e h = refl
  table-new [] (us ∷ tss) k ts e h = absurd (omega arith)
  table-new (ss ∷ sss) [] k ts e h = absurd (omega arith)
  table-new (ss ∷ sss) (us ∷ tss) zero ts e h = rw (table_more sss tss (both_second (tracks_fit p n ss us) _ h)) (and-true (tracks_fit p (suc n) ss ts))
  table-new (ss ∷ sss) (us ∷ tss) (suc k) ts e h =
      rw (row_more ss us (both_first (tracks_fit p n ss us) _ h)) (table-new sss tss k ts (omega arith) (both_second (tracks_fit p n ss us) _ h))

-- as many rows as kinds
rows_many : {A : Type 0} (f : ℕ → A) (k : ℕ) (ns : List ℕ) → length (slot_rows f k ns) ≡ length ns
unfolding slot_rows
rows_many f k [] = refl
rows_many f k (n ∷ ns) = ap suc (rows_many f (suc k) ns)

-- ---- one copy added

-- the copy at the place that was next, if it stands
abbrev pub One : State → State → List Standing
One s t = stands_at t s.taken (get_or t.layout.orientation s.taken 0)

-- t and w' are s and w with the copy added: its strips, its kind's tracks; what needs no test
pub record Added (j : Job) (s : State) (w : Rooms) (t : State) (w' : Rooms) (strips : List Float) (tracks : List Track) : Type 0 where
  pub taken : t.taken ≡ suc s.taken
  pub taken-fits : taken_fits j t ≡ true
  pub counts : strip_counts_fit t.tables t.placed_strips w' ≡ true
  pub parts : parts_fit j t.tables w' ≡ true
  pub order : order_of j t ≡ order_of j s
  pub plan : planner_at j t.tables w' ≡ planner_at j s.tables w
  pub placed : placed_strips_of t w' ≡ placed_strips_of s w ++ strips
  pub sixfold : Sixfold strips
  pub table : tracks_of j t ≡ set (tracks_of j s) (get_or t.order s.taken 0) tracks
  pub standing : standing_of t ≡ standing_of s ++ One s t
  pub turned : every (orientation_fits (orientation_counts j)) (One s t) ≡ true
  pub strips_are : standing_strips (planner_at j s.tables w) (One s t) ≡ strips
  pub entries : entries_fit (planner_at j s.tables w) w' (placed_strips_of s w ++ strips) ≡ true
  pub firsts : firsts_fit t w' ≡ true

module _ (j : Job) (s : State) (w : Rooms) (h : consistent j s w ≡ true) (t : State) (w' : Rooms) (strips : List Float) (tracks : List Track)
    (a : Added j s w t w' strips tracks) where
  abbrev P : Planner
  P = planner_at j s.tables w

  abbrev P' : Planner
  P' = planner_at j t.tables w'

  abbrev St : List Float
  St = placed_strips_of s w

  abbrev K : ℕ
  K = get_or t.order s.taken 0

  H : Tests j s w
  H = tests_of j s w h

  -- 31's test of the gaps
  gaps-before : every (λ c. gap_fits c.gap) (standing_of s) ≡ true
  unfolding consistent gaps_fit
  gaps-before = both_first (gaps_fit s) _ (rw (H.taken, H.counts, H.parts, H.order, H.planner, H.strips, H.layout) at h)

  copies-before : every (Stands j) (standing_of s) && same_doubles St (standing_strips P (standing_of s)) ≡ true
  unfolding copies_fit
  copies-before = H.copies

  strips_now : strips_fit (placed_strips_of t w') ≡ strips_fit (drop (6 * s.placed_strips) (placed_strips_of t w'))
  strips_now =
      let six = placed_sixfold j s w h in
      let c = placed_are j s w h in
      let d : drop (6 * s.placed_strips) (St ++ strips) ≡ strips = drop_at St strips (6 * s.placed_strips) (omega arith) in
      subst (λ (l : List Float). strips_fit l ≡ strips_fit (drop (6 * s.placed_strips) l)) (sym a.placed)
      (strips-new St strips six a.sixfold H.strips ∙ ap strips_fit (sym d))

  tables-long : length P'.shapes ≡ length (tracks_of j s)
  unfolding planner_at tracks_of
  tables-long = rows_many _ 0 (orientation_counts j) ∙ sym (rows_many _ 0 (orientation_counts j))

  tracks_now : track_table_fits P' t.taken P'.shapes (tracks_of j t) ≡ tracks_fit P' t.taken (get_or P'.shapes K []) (get_or (tracks_of j t) K [])
  tracks_now =
      let before = subst (λ (p : Planner). track_table_fits p s.taken p.shapes (tracks_of j s) ≡ true) (sym a.plan) H.tracks in
      let Row = get_or P'.shapes K [] in
      subst (λ (n : ℕ). track_table_fits P' n P'.shapes (tracks_of j t) ≡ tracks_fit P' n Row (get_or (tracks_of j t) K [])) (sym a.taken)
      (subst (λ (l : List (List Track)). track_table_fits P' (suc s.taken) P'.shapes l ≡ tracks_fit P' (suc s.taken) Row (get_or l K []))
      (sym a.table) (table-new P' s.taken P'.shapes (tracks_of j s) K tracks tables-long before))

  gaps_now : gaps_fit t ≡ every (λ c. gap_fits c.gap) (One s t)
  unfolding gaps_fit
  gaps_now = ap (every (λ c. gap_fits c.gap)) a.standing ∙ every-new (λ c. gap_fits c.gap) (standing_of s) (One s t) gaps-before

  -- the copies, where the new strips fit
  copies_now : strips_fit (drop (6 * s.placed_strips) (placed_strips_of t w')) ≡ true
      → copies_fit j P' (standing_of t) (placed_strips_of t w') ≡ every position_fits (One s t)
  unfolding copies_fit
  copies_now f =
      let stands = every-new (Stands j) (standing_of s) (One s t) (both_first (every (Stands j) (standing_of s)) _ copies-before) in
      ap₂ ◌&&◌ (ap (every (Stands j)) a.standing ∙ stands ∙ every-both (orientation_fits (orientation_counts j)) position_fits (One s t)) same
      ∙ and-true _ ∙ ap (λ (b : Bool). b && every position_fits (One s t)) a.turned
    where
      new-fit : strips_fit strips ≡ true
      new-fit =
          let six = placed_sixfold j s w h in
          sym (strips-new St strips six a.sixfold H.strips) ∙ ap strips_fit (sym a.placed) ∙ strips_now ∙ f

      both : standing_strips P (standing_of s ++ One s t) ≡ standing_strips P (standing_of s) ++ strips
      both = strips_append P (standing_of s) (One s t) ∙ ap (λ (l : List Float). standing_strips P (standing_of s) ++ l) a.strips_are

      same : same_doubles (placed_strips_of t w') (standing_strips P' (standing_of t)) ≡ true
      same =
          ap₂ (λ (l : List Float) (p : Planner). same_doubles l (standing_strips p (standing_of t))) a.placed a.plan
          ∙ ap (λ (l : List Float). same_doubles (St ++ strips) l) (ap (standing_strips P) a.standing ∙ both)
          ∙ same_append St (standing_strips P (standing_of s)) strips (both_second (every (Stands j) (standing_of s)) _ copies-before)
          (same-strips strips a.sixfold new-fit)

  entries_now : entries_fit P' w' (placed_strips_of t w') ≡ true
  entries_now = ap₂ (λ (p : Planner) (l : List Float). entries_fit p w' l) a.plan a.placed ∙ a.entries

  -- 31 after the copy: what it wrote
  pub added-31 : consistent j t w' ≡ copy_fits j s.taken s.placed_strips t w'
  unfolding consistent copy_fits place_fits
  added-31 =
      all_hold _ a.taken-fits a.counts a.parts (ap (rearranged j) a.order ∙ H.order) (ap planner_fits a.plan ∙ H.planner)
      ∙ others-hold (strips_fit (placed_strips_of t w')) (layout_fits t.layout.right t.layout.unplaced_area) (gaps_fit t)
      (track_table_fits P' t.taken P'.shapes (tracks_of j t)) (copies_fit j P' (standing_of t) (placed_strips_of t w')) (every position_fits (One s t))
      entries_now a.firsts (λ f. copies_now (sym strips_now ∙ f))
      ∙ wrote
    where
      wrote : strips_fit (placed_strips_of t w') && (layout_fits t.layout.right t.layout.unplaced_area
          && (track_table_fits P' t.taken P'.shapes (tracks_of j t) && (every position_fits (One s t) && gaps_fit t)))
          ≡ strips_fit (drop (6 * s.placed_strips) (placed_strips_of t w')) && (layout_fits t.layout.right t.layout.unplaced_area
          && (tracks_fit P' t.taken (get_or P'.shapes K []) (get_or (tracks_of j t) K []) && every (λ c. position_fits c && gap_fits c.gap) (One s t)))
      wrote =
          ap₂ (λ (f r : Bool). f && (layout_fits t.layout.right t.layout.unplaced_area && r)) strips_now
          (ap₂ ◌&&◌ tracks_now
          (ap (λ (g : Bool). every position_fits (One s t) && g) gaps_now ∙ sym (every-both position_fits (λ c. gap_fits c.gap) (One s t))))
