-- 31 after a copy taken, from any state that it lets pass: only what the copy wrote has to be judged. Assumes nothing.
use Rattle.std.specs.Prelude.{Result, Ok, Err}
use Rattle.filling.specs.declared.Refusal.{Refusal}
use Prim.Native.Nat.{ℕ, suc, ◌*◌, ◌≤◌, ◌<◌}
use native.Mathlib.Omega.{arith}
use mathlib.Core.Path.{◌≡◌, refl, sym, ap, ap₂, subst, ◌∙◌}
use mathlib.Core.Logic.{◌⊎◌, inl, inr}
use mathlib.Core.Bool.{true, false, ◌&&◌}
use mathlib.Core.List.{List, [], ◌∷◌, ◌++◌, flat_map, append-nil}
use lib.ListN.{length, get_or, set, take, drop}
use lib.Seq.{get_or-set_same}
use lib.Dec.{leb, ltb}
use lib.Ieee.{Float, nan}
use borrow.Author.Tests.{ltb-false, le-leb, lt-ltb}
use Rattle.numbers.proofs.Truth.{below_or_not, both_first, both_second}
use Rattle.numbers.specs.Numbers.{larger}
use Rattle.trapezoid.specs.Strip.{capacity}
use Rattle.index.specs.Buckets.{standing_capacity}
use Rattle.slabs.proofs.Merging.{All}
use Rattle.job.specs.Jobs.{Job}
use Rattle.filling.specs.declared.State.{State}
use Rattle.filling.specs.declared.Refusal.TheVariants as Why
use Rattle.filling.specs.Shapes.{Planner, Shape, Copy, Standing, standing_strips}
use Rattle.filling.specs.Search.{Found, Track, search_all, searched_all}
use Rattle.filling.specs.Choice.{Choice, choices, best, standing_at}
use Rattle.filling.specs.Rooms.{Rooms}
use Rattle.filling.specs.State.{orientation_counts, shape_at, planner_at, order_of, copy_at, stands_at, standing_of, track_at, tracks_of}
use Rattle.filling.specs.Consistent.{every, taken_fits, strip_counts_fit, parts_fit, numbers_lie, entries_for, entries_fit, orientation_fits, placed_strips_of}
use Rattle.filling.specs.Consistent.{firsts_fit, consistent}
use Rattle.filling.specs.NextCopy.{new_strips, store_verdict, winner_verdict, copy_verdict, entered, state_with, layout_after, state_after, stored, rooms_after}
use Rattle.filling.specs.NextCopy.{Step, place_copy, place_next, core_step}
use Rattle.filling.proofs.Reading.{Sixfold, sixfold_nil, sixfold_append, take-laid, laid-capacity, rows-length, kinds_many}
use Rattle.filling.proofs.Sizes.{Sized}
use Rattle.filling.proofs.Entered.{standing_now, tracks_write, searched-length}
use Rattle.filling.proofs.Steps.{new_sixfold, standing_more, later_accepted, refused≢accepted, no_step-refused, place-refused, place-taken, winner-accepted}
use Rattle.filling.proofs.FirstBuckets.{numbers-laid}
use Rattle.filling.proofs.FirstsKept.{after_firsts, firsts_of_lem, placed_sixfold}
use Rattle.filling.proofs.Stood.{choices-under, best_all}
use Rattle.filling_laws.proofs.Ready.{Tests, tests_of}
use Rattle.filling_laws.proofs.ReadyOrder.{next-first, none_left}
use Rattle.batch.specs.inner.Tested.{copy_fits, Shaped}
use Rattle.batch.proofs.Added.{One, Added, added-31}

-- the strips of the winner
new_of : Planner → ℕ → List Choice → List Float
new_of p k [] = []
new_of p k (a ∷ as') = new_strips p k (best a as')

-- the winner, where there is one
winner_of : Copy → List Choice → List Standing
winner_of c [] = []
winner_of c (a ∷ as') = standing_at c (best a as') ∷ []

new-six : (p : Planner) (k : ℕ) (cs : List Choice) → Sixfold (new_of p k cs)
unfolding new_of
new-six p k [] = sixfold_nil
new-six p k (a ∷ as') = new_sixfold p k (best a as')

winner-strips : (p : Planner) (c : Copy) (cs : List Choice) → standing_strips p (winner_of c cs) ≡ new_of p c.kind cs
unfolding winner_of new_of standing_strips flat_map
winner-strips p c [] = refl
winner-strips p c (a ∷ as') = standing_more p [] c (best a as')

winner-turned : (ns : List ℕ) (c : Copy) (cs : List Choice) → All (λ (a : Choice). a.orientation < get_or ns c.kind 0) cs
    → every (orientation_fits ns) (winner_of c cs) ≡ true
unfolding winner_of every orientation_fits standing_at
winner-turned ns c [] u = refl
winner-turned ns c (a ∷ as') u =
    let l = best_all (λ (a : Choice). a.orientation < get_or ns c.kind 0) a as' u.0 u.1 in
    rw (lt-ltb (best a as').orientation (get_or ns c.kind 0) l)

-- ---- the state after a copy of the next kind

module _ (j : Job) (z : Sized j) (s : State) (w : Rooms) (f : Shaped s) (h : consistent j s w ≡ true) (next : s.taken < j.copies) where
  abbrev k : ℕ
  k = get_or s.order s.taken 0

  abbrev P : Planner
  P = planner_at j s.tables w

  abbrev St : List Float
  St = placed_strips_of s w

  abbrev Ss : List Shape
  Ss = get_or (planner_at j s.tables w).shapes (get_or s.order s.taken 0) []

  abbrev Fs : List Found
  Fs = search_all P St Ss (get_or (tracks_of j s) k [])

  abbrev Ts : List Track
  Ts = searched_all P Ss (get_or (tracks_of j s) k []) Fs

  abbrev Now : List Choice → State
  Now cs = state_after P k Ts s St cs

  abbrev Left : List Choice → Rooms
  Left cs = rooms_after P k w St cs

  abbrev Next : Copy
  Next = copy_at s s.taken

  H : Tests j s w
  H = tests_of j s w h

  rows_of_shapes : length Ss ≡ get_or (orientation_counts j) k 0
  unfolding planner_at
  rows_of_shapes = rows-length (shape_at s.tables w.shapes) 0 (orientation_counts j) k

  tracks_many : length Ts ≡ get_or (orientation_counts j) k 0
  unfolding tracks_of
  tracks_many =
      let rows = rows-length (track_at s.next_column s.look_counts) 0 (orientation_counts j) k in
      searched-length P St Ss (get_or (tracks_of j s) k []) (rows_of_shapes ∙ sym rows) ∙ rows

  taken_now : (cs : List Choice) → (Now cs).taken ≡ suc s.taken
  unfolding state_after state_with
  taken_now [] = refl
  taken_now (a ∷ as') = refl

  taken-fits : (cs : List Choice) → taken_fits j (Now cs) ≡ true
  unfolding taken_fits state_after state_with
  taken-fits [] = le-leb (suc s.taken) j.copies next
  taken-fits (a ∷ as') = le-leb (suc s.taken) j.copies next

  parts_now : (cs : List Choice) → parts_fit j (Now cs).tables (Left cs) ≡ true
  unfolding state_after state_with rooms_after stored parts_fit
  parts_now [] = H.parts
  parts_now (a ∷ as') = H.parts

  order_now : (cs : List Choice) → (Now cs).order ≡ s.order
  unfolding state_after state_with
  order_now [] = refl
  order_now (a ∷ as') = refl

  plan_now : (cs : List Choice) → planner_at j (Now cs).tables (Left cs) ≡ P
  unfolding state_after state_with rooms_after stored planner_at
  plan_now [] = refl
  plan_now (a ∷ as') = refl

  now_six : (cs : List Choice) → Sixfold (St ++ new_of P k cs)
  now_six cs = sixfold_append St (new_of P k cs) (placed_sixfold j s w h) (new-six P k cs)

  placed_now : (cs : List Choice) → placed_strips_of (Now cs) (Left cs) ≡ St ++ new_of P k cs
  unfolding state_after state_with rooms_after stored placed_strips_of new_of
  placed_now [] = sym (append-nil (placed_strips_of s w))
  placed_now (a ∷ as') =
      let now = St ++ new_strips P k (best a as') in
      take-laid now w.placed (6 * capacity now) (now_six (a ∷ as'))

  counts_now : (cs : List Choice) → winner_verdict P w k St cs ≡ (Ok tt) → strip_counts_fit (Now cs).tables (Now cs).placed_strips (Left cs) ≡ true
  unfolding state_after state_with rooms_after stored winner_verdict store_verdict strip_counts_fit new_of
  counts_now [] v = H.counts
  counts_now (a ∷ as') v =
      let now = St ++ new_strips P k (best a as') in
      let room = standing_capacity w.placed w.placed_firsts in
      let l : ltb room (capacity now) ≡ false = (later_accepted (ltb room (capacity now)) Why.StripRoom _ v).0 in
      let m : capacity now ≤ room = ltb-false room (capacity now) l in
      let e = laid-capacity P.bounds now w.placed w.placed_firsts (now_six (a ∷ as')) m in
      let b = both_second (leb s.tables.sheet_strips (standing_capacity w.sheet w.sheet_firsts)) _ H.counts in
      rw (
        both_first (leb s.tables.sheet_strips (standing_capacity w.sheet w.sheet_firsts)) _ H.counts,
        both_first (leb s.tables.apart_strips (capacity w.shapes)) _ b,
        e,
        le-leb (capacity now) room m,
      )

  -- ---- what the copy's entry in the layout says

  in_list : {A : Type 0} (l : List A) → length l ≡ 4096 → s.taken < length l
  in_list l e = let a = z.few in omega arith

  module _ (strips out : ℕ) (x y gap area right : Float) where
    abbrev N : State
    N = state_with s k Ts strips (entered s.layout s.taken out x y gap area right)

    tracks_now : tracks_of j N ≡ set (tracks_of j s) k Ts
    unfolding tracks_of state_with
    tracks_now =
        let a = z.kinds in
        let b = kinds_many j in
        tracks_write s.next_column s.look_counts k (orientation_counts j) Ts z.turns (omega arith) f.next-columns f.look_counts tracks_many

    one_is : One s N ≡ stands_at N s.taken out
    unfolding state_with entered
    one_is = ap (stands_at N s.taken) (get_or-set_same s.layout.orientation s.taken out 0 (in_list s.layout.orientation f.orientations))

    one_more : standing_of N ≡ standing_of s ++ One s N
    one_more =
        standing_now s k Ts strips out x y gap area right (in_list s.layout.orientation f.orientations)
        ∙ ap (λ (l : List Standing). standing_of s ++ l) (sym one_is)

    stands_one : (o : ℕ) → stands_at N s.taken (suc o) ≡ record { copy = Next; orientation = o; x = x; y = y; gap = gap } ∷ []
    unfolding stands_at copy_at state_with entered
    stands_one o = rw (
      get_or-set_same s.layout.x s.taken x nan (in_list s.layout.x f.xs),
      get_or-set_same s.layout.y s.taken y nan (in_list s.layout.y f.ys),
      get_or-set_same s.layout.gap s.taken gap nan (in_list s.layout.gap f.gaps),
    )

  table_now : (cs : List Choice) → tracks_of j (Now cs) ≡ set (tracks_of j s) k Ts
  unfolding state_after layout_after
  table_now [] = tracks_now _ _ _ _ _ _ _
  table_now (a ∷ as') = tracks_now _ _ _ _ _ _ _

  standing_more_now : (cs : List Choice) → standing_of (Now cs) ≡ standing_of s ++ One s (Now cs)
  unfolding state_after layout_after
  standing_more_now [] = one_more _ _ _ _ _ _ _
  standing_more_now (a ∷ as') = one_more _ _ _ _ _ _ _

  one_now : (cs : List Choice) → One s (Now cs) ≡ winner_of Next cs
  unfolding state_after layout_after winner_of standing_at stands_at
  one_now [] = one_is _ _ _ _ _ _ _
  one_now (a ∷ as') =
      let c = best a as' in
      let n = capacity (St ++ new_strips P k c) in
      let r = larger s.layout.right c.right in
      one_is n (suc c.orientation) c.x c.y c.gap s.layout.unplaced_area r
      ∙ stands_one n (suc c.orientation) c.x c.y c.gap s.layout.unplaced_area r c.orientation

  entries_now : (cs : List Choice) → entries_fit P (Left cs) (St ++ new_of P k cs) ≡ true
  unfolding entries_fit rooms_after stored new_of
  entries_now [] = ap (λ (l : List Float). entries_fit P w l) (append-nil St) ∙ H.entries
  entries_now (a ∷ as') =
      let now = St ++ new_strips P k (best a as') in
      ap₂ ◌&&◌ (both_first (numbers_lie (entries_for P.bounds P.sheet) w.sheet_entries) _ H.entries)
      (numbers-laid (entries_for P.bounds now) w.placed_entries)

  firsts_now : (cs : List Choice) → firsts_fit (Now cs) (Left cs) ≡ true
  unfolding planner_at
  firsts_now cs = after_firsts P k Ts s w St cs refl (placed_sixfold j s w h) (firsts_of_lem j s w h)

  added : (cs : List Choice) → All (λ (c : Choice). c.orientation < get_or (orientation_counts j) k 0) cs → winner_verdict P w k St cs ≡ (Ok tt)
      → Added j s w (Now cs) (Left cs) (new_of P k cs) Ts
  unfolding copy_at
  added cs u v =
      record {
        taken = taken_now cs;
        taken-fits = taken-fits cs;
        counts = counts_now cs v;
        parts = parts_now cs;
        order = kept cs;
        plan = plan_now cs;
        placed = placed_now cs;
        sixfold = new-six P k cs;
        table = table_now cs ∙ ap (λ (l : List ℕ). set (tracks_of j s) (get_or l s.taken 0) Ts) (sym (order_now cs));
        standing = standing_more_now cs;
        turned = ap (every (orientation_fits (orientation_counts j))) (one_now cs) ∙ winner-turned (orientation_counts j) Next cs u;
        strips_are = ap (standing_strips P) (one_now cs) ∙ winner-strips P Next cs;
        entries = entries_now cs;
        firsts = firsts_now cs;
      }
    where
      kept : (cs : List Choice) → order_of j (Now cs) ≡ order_of j s
      kept cs = unfold order_of in ap (take j.copies) (order_now cs)

  under : All (λ (c : Choice). c.orientation < get_or (orientation_counts j) k 0) (choices P 0 Ss Fs)
  under = choices-under P (get_or (orientation_counts j) k 0) 0 Ss Fs (let a = rows_of_shapes in omega arith)

  -- ---- the core step

  abbrev Judged : Step → Type 0
  Judged r = consistent j r.state r.rooms ≡ copy_fits j s.taken s.placed_strips r.state r.rooms

  module _ (iv : List Float) where
    abbrev Placed : Step
    Placed = place_copy P St (get_or (tracks_of j s) k []) k s w iv

    placed-31 : Placed.verdict ≡ (Ok tt) → Judged Placed
    placed-31 v = go (copy_verdict P w iv k St Ss (get_or (tracks_of j s) k []) Fs) refl
      where
        go : (u : Result (Unit {0}) Refusal) → copy_verdict P w iv k St Ss (get_or (tracks_of j s) k []) Fs ≡ u → Judged Placed
        go (Ok tt) d =
            let cs = choices P 0 Ss Fs in
            subst Judged (sym (place-taken P St (get_or (tracks_of j s) k []) k s w iv d))
            (added-31 j s w h (Now cs) (Left cs) (new_of P k cs) Ts (added cs under (winner-accepted P St (get_or (tracks_of j s) k []) k s w iv d)))
        go (Err r) d = absurd (refused≢accepted
            (sym (ap (λ (q : Step). q.verdict) (place-refused P St (get_or (tracks_of j s) k []) k s w iv r d) ∙ no_step-refused r s w iv) ∙ v))

-- the same of the copies to come
abbrev KeptBy : Job → State → Rooms → List Float → List ℕ → Type 0
KeptBy j s w iv l =
    let r = place_next j s w iv l in
    r.verdict ≡ (Ok tt) → consistent j r.state r.rooms ≡ copy_fits j s.taken s.placed_strips r.state r.rooms

-- from any state that 31 lets pass, whoever made it: after a copy taken 31 lets the next call pass exactly where what the copy wrote passes
pub step-31 : (j : Job) → Sized j → (s : State) (w : Rooms) → Shaped s → consistent j s w ≡ true → (iv : List Float) → (core_step j s w iv).verdict ≡ (Ok tt)
    → consistent j (core_step j s w iv).state (core_step j s w iv).rooms
    ≡ copy_fits j s.taken s.placed_strips (core_step j s w iv).state (core_step j s w iv).rooms
unfolding core_step
step-31 j z s w f h iv = go (below_or_not s.taken j.copies)
  where
    go : (s.taken < j.copies) ⊎ (j.copies ≤ s.taken) → KeptBy j s w iv (drop s.taken (order_of j s))
    go (inl l) = subst (KeptBy j s w iv) (sym (next-first j s w h l)) (unfold place_next in placed-31 j z s w f h l iv)
    go (inr l) =
        subst (KeptBy j s w iv) (sym (none_left j s w h l))
        (unfold place_next in (λ v. absurd (refused≢accepted (sym (no_step-refused Why.OrderUsedUp s w iv) ∙ v))))
