-- The states and rooms that a start makes and every call keeps: 31 lets them pass. Assumes nothing.
use Rattle.std.specs.Prelude.{Ok}
use mathlib.Core.Path.{◌≡◌, refl, sym, ap, ◌∙◌}
use mathlib.Core.Bool.{Bool, true}
use mathlib.Core.List.{List, [], ◌∷◌, flat_map}
use Prim.Native.Nat.{ℕ, suc, ◌+◌, ◌≤◌}
use native.Mathlib.Omega.{arith}
use lib.ListN.{length}
use lib.Ieee.{Float}
use borrow.Author.Tests.{le-leb}
use Rattle.numbers.specs.Numbers.{pos_zero}
use Rattle.trapezoid.specs.Strip.{capacity}
use Rattle.index.specs.Buckets.{up_from, entries_of, by_bucket, numbers_in}
use Rattle.strips.specs.declared.Rect.{Rect}
use Rattle.job.specs.Jobs.{Job}
use Rattle.filling.specs.declared.State.{State}
use Rattle.filling.specs.Shapes.{Planner, planner_of, Shape, Standing, standing_strips}
use Rattle.filling.specs.Search.{Found, Track, last_of}
use Rattle.filling.specs.Plain.{Plain, plain_start}
use Rattle.filling.specs.Rooms.{Rooms, Lent, zeros}
use Rattle.filling.specs.Order.{rearranged}
use Rattle.filling.specs.State.{order_of, standing_of, without_of, empty_layout}
use Rattle.filling.specs.Consistent.{every, bounded, copies_fit, strips_fit, taken_fits, strip_counts_fit, parts_fit, column_fits, track_fits, tracks_fit}
use Rattle.filling.specs.Consistent.{track_table_fits, gap_fits, gaps_fit, numbers_lie, entries_for, entries_fit, firsts_fit, consistent}
use Rattle.filling.specs.Start.{first_state, first_rooms, start_verdict}
use Rattle.filling.proofs.Sizes.{Sized}
use Rattle.filling.proofs.Rows.{Row, no_more, and_more, Table, no_kind, and_kind}
use Rattle.filling.proofs.Steps as Steps
use Rattle.filling.proofs.Begin.{first-order, first-standing, first-without, first-parts, first-counts, prepared-few, rearranged-length, begun}
use Rattle.filling.proofs.FirstBuckets.{numbers-laid, numbers-none, first_firsts}
use Rattle.filling.proofs.Searches.{fresh, closed, reached, spent}
use Rattle.filling.proofs.Demand3.{Tracked, Kept, first-kept}
use Rattle.filling.proofs.AtPlace.{each-counted}
use Rattle.filling.proofs.Stood.{same-strips, Stands, Reaches}
use Rattle.filling.proofs.Numbers31.{WithinBounds, Fine, summed, layout-fits, left-bounded}

-- ---- tracks

fits_one : (p : Planner) (st : List Float) (n : ℕ) (s : Shape) (t : Track) (fs : List Found) → Tracked p st n s t fs → track_fits n (last_of p s) t ≡ true
unfolding track_fits column_fits
fits_one p st n s t fs (fresh m l e, f) = rw (m, l, le-leb 0 (last_of p s) (omega arith), le-leb 0 (suc (last_of p s) + n) (omega arith))
fits_one p st n s t fs (closed o m l e, f) = rw (m, l, le-leb 0 (suc (last_of p s) + n) (omega arith))
fits_one p st n s t fs (reached c y g gs o b h m e l, f) = rw (m, le-leb c (last_of p s) b, le-leb t.look_count (suc (last_of p s) + n) (omega arith))
fits_one p st n s t fs (spent gs o h m e l, f) = rw (m, le-leb t.look_count (suc (last_of p s) + n) (omega arith))

fits_row : (p : Planner) (st : List Float) (n : ℕ) {ss : List Shape} {ts : List Track} {fss : List (List Found)} → Row (Tracked p st n) ss ts fss → tracks_fit p
    n ss ts ≡ true
unfolding tracks_fit
fits_row p st n no_more = refl
fits_row p st n (and_more {s = s} {t = t} {fs = fs} h r) = rw (fits_one p st n s t fs h, fits_row p st n r)

fits-table : (p : Planner) (st : List Float) (n : ℕ) {sss : List (List Shape)} {tss : List (List Track)} {fsss : List (List (List Found))} → Table
    (Tracked p st n) sss tss fsss → track_table_fits p n sss tss ≡ true
unfolding track_table_fits
fits-table p st n no_kind = refl
fits-table p st n (and_kind h r) = rw (fits_row p st n h, fits-table p st n r)

-- ---- entries

-- no strip has no entry
no_entries : (b : Rect) → entries_for b [] ≡ []
unfolding entries_for capacity entries_of up_from by_bucket numbers_in flat_map
no_entries b = go (up_from 512 0)
  where
    go : (l : List ℕ) → flat_map (λ b. numbers_in b 0 []) l ≡ []
    go [] = refl
    go (a ∷ l) = go l

-- ---- own states

pub record Own (j : Job) (order : List ℕ) (s : State) (w : Rooms) (q : Plain) : Type 0 where
  pub kept : Kept j s w q
  pub fine : Fine j s
  pub order_kept : order_of j s ≡ order
  pub few : s.taken ≤ j.copies
  pub counts : strip_counts_fit s.tables s.placed_strips w ≡ true
  pub parts : parts_fit j s.tables w ≡ true
  pub sheet_entries : numbers_lie (entries_for (planner_of j).bounds (planner_of j).sheet) w.sheet_entries ≡ true
  pub placed_entries : numbers_lie (entries_for (planner_of j).bounds (standing_strips (planner_of j) (standing_of s))) w.placed_entries ≡ true
  pub firsts : firsts_fit s w ≡ true
  pub stands : every (Stands j) (standing_of s) ≡ true
  pub reaches : every (Reaches (planner_of j)) (standing_of s) ≡ true

copies-fit : (j : Job) (s : State) → every (Stands j) (standing_of s) ≡ true → strips_fit (standing_strips (planner_of j) (standing_of s)) ≡ true → copies_fit j
    (planner_of j) (standing_of s) (standing_strips (planner_of j) (standing_of s)) ≡ true
unfolding copies_fit
copies-fit j s a b = rw (a, same-strips (standing_strips (planner_of j) (standing_of s)) (Steps.standing_sixfold (planner_of j) (standing_of s)) b)

pub own_consistent : (j : Job) (order : List ℕ) (s : State) (w : Rooms) (q : Plain) → Sized j → WithinBounds (planner_of j) → rearranged j order ≡ true → Own j
    order s w q → consistent j s w ≡ true
unfolding consistent taken_fits entries_fit
own_consistent j order s w q z b r h =
    let few : length (without_of s) ≤ 4096 = unfold without_of in (let a = each-counted s s.taken in let f = h.few in let g = z.few in omega arith) in
    rw (
      le-leb s.taken j.copies h.few,
      h.counts,
      h.parts,
      h.order_kept,
      r,
      h.kept.linked.plan,
      b.own,
      h.kept.linked.stand,
      h.fine.strips,
      layout-fits j s b few h.fine,
      h.fine.gaps,
      fits-table (planner_of j) (standing_strips (planner_of j) (standing_of s)) s.taken h.kept.paired.table,
      copies-fit j s h.stands h.fine.strips,
      h.sheet_entries,
      h.placed_entries,
      h.firsts,
    )

-- ---- the start

pub first_fine : (j : Job) (z : Sized j) → WithinBounds (planner_of j) → (order : List ℕ) → length order ≡ j.copies → Fine j (first_state (planner_of j) order)
first_fine j z b order n =
    record {
      strips = ap (λ c. strips_fit (standing_strips (planner_of j) c)) (first-standing j z order n) ∙ none-fit j;
      right = ap bounded (first-right j order) ∙ left-bounded (planner_of j) b.own;
      gaps = first-gaps;
      area = first-area j order ∙ ap (summed (planner_of j) pos_zero) (sym (first-without j z order n));
    }
  where
    none-fit : (j : Job) → strips_fit (standing_strips (planner_of j) []) ≡ true
    none-fit j = unfold strips_fit in (unfold standing_strips in (unfold flat_map in (unfold capacity in (unfold up_from in (unfold every in refl)))))

    first-gaps : gaps_fit (first_state (planner_of j) order) ≡ true
    first-gaps = unfold gaps_fit in (ap (every (λ c. gap_fits c.gap)) (first-standing j z order n) ∙ (unfold every in refl))

    first-right : (j : Job) (order : List ℕ) → (first_state (planner_of j) order).layout.right ≡ (planner_of j).bounds.left
    first-right j order = unfold first_state in (unfold empty_layout in refl)

    first-area : (j : Job) (order : List ℕ) → (first_state (planner_of j) order).layout.unplaced_area ≡ summed (planner_of j) pos_zero []
    first-area j order = unfold first_state in (unfold empty_layout in (unfold summed in refl))

pub first-few : (j : Job) (order : List ℕ) → (first_state (planner_of j) order).taken ≤ j.copies
unfolding first_state
first-few j order = omega arith

pub first-sheet : (j : Job) (w : Rooms) → numbers_lie (entries_for (planner_of j).bounds (planner_of j).sheet) (first_rooms (planner_of j) w).sheet_entries ≡ true
unfolding first_rooms
first-sheet j w = numbers-laid (entries_for (planner_of j).bounds (planner_of j).sheet) (zeros 0 w.sheet_entries)

pub first-placed : (j : Job) (z : Sized j) (order : List ℕ) → length order ≡ j.copies → (room : List ℕ) → numbers_lie
    (entries_for (planner_of j).bounds (standing_strips (planner_of j) (standing_of (first_state (planner_of j) order)))) room ≡ true
unfolding standing_strips flat_map
first-placed j z order n room =
    ap (λ c. numbers_lie (entries_for (planner_of j).bounds (standing_strips (planner_of j) c)) room) (first-standing j z order n)
    ∙ ap (λ es. numbers_lie es room) (no_entries (planner_of j).bounds)
    ∙ numbers-none room

-- no copy stands yet
pub first_passes : (j : Job) (z : Sized j) (order : List ℕ) → length order ≡ j.copies → (test : Standing → Bool) → every test
    (standing_of (first_state (planner_of j) order)) ≡ true
unfolding every
first_passes j z order n test = ap (every test) (first-standing j z order n)

pub own_start : (j : Job) (z : Sized j) → WithinBounds (planner_of j) → (order : List ℕ) (l : Lent) → start_verdict j order l ≡ Ok tt
    → Own j order (first_state (planner_of j) order) (first_rooms (planner_of j) l.rooms) (plain_start (planner_of j) order)
unfolding first_state
own_start j z b order l v =
    let n = rearranged-length j order (begun j order l v).rearranges in
    record {
      kept = first-kept j z order l v;
      fine = first_fine j z b order n;
      order_kept = first-order j z order n;
      few = first-few j order;
      counts = first-counts j z l.rooms (prepared-few (planner_of j) l.rooms (begun j order l v).prepared);
      parts = first-parts j z l.rooms;
      sheet_entries = first-sheet j l.rooms;
      placed_entries = first-placed j z order n (first_rooms (planner_of j) l.rooms).placed_entries;
      firsts = first_firsts j order l.rooms (first_rooms (planner_of j) l.rooms) refl refl;
      stands = first_passes j z order n (Stands j);
      reaches = first_passes j z order n (Reaches (planner_of j));
    }
