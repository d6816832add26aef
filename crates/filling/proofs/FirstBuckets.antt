-- The bucket numbers of the standing strips (document 02, W3): "true for every standing strip after every operation that is given true ones", and a false
-- one is refused with 31. Assumes nothing.
use Rattle.std.specs.Prelude.{Result, Ok, Err}
use mathlib.Core.Path.{◌≡◌, refl, sym, ap, ap₂, ◌∙◌}
use mathlib.Core.Bool.{true, ◌&&◌}
use mathlib.Core.List.{List, [], ◌∷◌, ◌++◌}
use Prim.Native.Nat.{ℕ, ◌+◌, ◌-◌, ◌*◌, ◌≤◌}
use native.Mathlib.Omega.{arith}
use lib.ListN.{length, get_or, take, drop, length-take, length-drop, take-append-drop}
use lib.Seq.{ext_get_or, get_or-drop}
use lib.Dec.{eqb}
use lib.Ieee.{Float}
use borrow.Author.Tests.{eq-eqb, eqb-true}
use Rattle.numbers.proofs.Truth.{clash, both_first, both_second}
use Rattle.trapezoid.specs.Strip.{capacity}
use Rattle.index.specs.declared.Index.{Index}
use Rattle.index.specs.Buckets.{up_from, firsts_of}
use Rattle.index.specs.inner.Listing.{FirstBuckets}
use Rattle.index.proofs.FirstBuckets.{length_firsts, firsts_list, list_firsts}
use Rattle.strips.specs.declared.Rect.{Rect}
use Rattle.job.specs.Jobs.{Job, Answer, accepted, refused, read_job}
use Rattle.filling.specs.declared.State.{State}
use Rattle.filling.specs.declared.Refusal.{Refusal}
use Rattle.filling.specs.declared.Refusal.TheVariants as Why
use Rattle.filling.specs.Shapes.{Planner, planner_of}
use Rattle.filling.specs.Rooms.{Rooms, Lent, laid, zeros, zero_rooms, only_positions}
use Rattle.filling.specs.State.{zero_tables, zero_state}
use Rattle.filling.specs.Consistent.{same, same_numbers, numbers_lie, sheet_index, sheet_strips_of, placed_strips_of, firsts_for, firsts_fit}
use Rattle.filling.specs.Start.{tables_of, first_state, first_rooms, start_verdict, no_start, good_start, start_job, start_given, start_of}
use Rattle.filling.specs.Fill.{Filling, filled, stopped, fill_order, not_planned, planned_with, planned_by, fill_job, fill_given, fill_of}
use Rattle.filling.proofs.Same.{same_self}
use Rattle.filling.proofs.Reading.{take-laid}
use Rattle.filling.proofs.Begin.{sheet-read, start-refused, start-good, start-accepted}
use Rattle.filling.proofs.Runs.{fill-stopped, fill-runs}

-- ---- a room that begins with given numbers

itself : (l : List ℕ) → same_numbers l l ≡ true
itself l = same_self eqb l 0 (λ i b. eq-eqb _ _ refl)

same_is : (l m : List ℕ) → same_numbers l m ≡ true → l ≡ m
unfolding same
same_is [] [] h = refl
same_is [] (b ∷ m) h = absurd (clash h refl)
same_is (a ∷ l) [] h = absurd (clash h refl)
same_is (a ∷ l) (b ∷ m) h =
    ap₂ ◌∷◌ (eqb-true a b (both_first (eqb a b) (same_numbers l m) h)) (same_is l m (both_second (eqb a b) (same_numbers l m) h))

pub numbers-laid : (ns room : List ℕ) → numbers_lie ns (laid ns room) ≡ true
unfolding numbers_lie
numbers-laid ns room = ap (same_numbers ns) (take-laid ns room (length ns) refl) ∙ itself ns

pub numbers-none : (room : List ℕ) → numbers_lie [] room ≡ true
unfolding numbers_lie same
numbers-none room = refl

-- ---- what the test says of each number

module _ (ix : Index) (part : List Float) (n : ℕ) (firsts : List ℕ) where
  begins : numbers_lie (firsts_of ix part n) firsts ≡ true → take n firsts ≡ firsts_of ix part n
  unfolding numbers_lie
  begins h =
      sym (same_is (firsts_of ix part n) (take (length (firsts_of ix part n)) firsts) h ∙ ap (λ (m : ℕ). take m firsts) (length_firsts ix part n))

  -- number i of the room is the bucket of x0 of strip i
  pub numbers_are : numbers_lie (firsts_of ix part n) firsts ≡ true → FirstBuckets ix part n firsts
  numbers_are h =
      let a : length (take n firsts) ≡ n = ap length (begins h) ∙ length_firsts ix part n in
      let b = length-take n firsts in
      list_firsts ix part n firsts (begins h) (omega arith)

  -- and where they are, the room begins with them
  pub numbers_lie_lem : FirstBuckets ix part n firsts → numbers_lie (firsts_of ix part n) firsts ≡ true
  unfolding numbers_lie
  numbers_lie_lem F =
      ap (same_numbers (firsts_of ix part n)) (ap (λ (m : ℕ). take m firsts) (length_firsts ix part n) ∙ firsts_list ix part n firsts F)
      ∙ itself (firsts_of ix part n)

-- ---- numbers written in front of a room

-- where n numbers are true and the rest is as it was, they are laid over the room
pub numbers-written : (ix : Index) (standing : List Float) (n : ℕ) (before after : List ℕ) → length after ≡ length before → FirstBuckets ix standing n after
    → ((i : ℕ) → n ≤ i → get_or after i 0 ≡ get_or before i 0) → after ≡ laid (firsts_of ix standing n) before
unfolding laid
numbers-written ix standing n before after e F old =
    let rest : drop n after ≡ drop n before =
    ext_get_or 0 (drop n after) (drop n before) (length-drop n after ∙ (ap (λ (m : ℕ). m - n) e ∙ sym (length-drop n before)))
    (λ i l. get_or-drop n after i 0 ∙ (old (n + i) (omega arith) ∙ sym (get_or-drop n before i 0))) in
    sym (take-append-drop n after)
    ∙ (ap (λ (l : List ℕ). l ++ drop n after) (firsts_list ix standing n after F)
    ∙ ap (λ (l : List ℕ). firsts_of ix standing n ++ l) (rest ∙ ap (λ (m : ℕ). drop m before) (sym (length_firsts ix standing n))))

-- the numbers of a part's strips
abbrev pub Numbered : Rect → List Float → List ℕ → Type 0
Numbered b part firsts = FirstBuckets (sheet_index b) part (capacity part) firsts

part_mean : (b : Rect) (part : List Float) (firsts : List ℕ)
    → (numbers_lie (firsts_for b part) firsts ≡ true → Numbered b part firsts) × (Numbered b part firsts → numbers_lie (firsts_for b part) firsts ≡ true)
unfolding firsts_for
part_mean b part firsts = (numbers_are (sheet_index b) part (capacity part) firsts, numbers_lie_lem (sheet_index b) part (capacity part) firsts)

-- a number for each standing strip, the bucket of its x0
pub firsts_mean : (s : State) (w : Rooms) → let b = s.tables.sheet_bounds in
    (firsts_fit s w ≡ true → Numbered b (sheet_strips_of s w) w.sheet_firsts × Numbered b (placed_strips_of s w) w.placed_firsts)
    × (Numbered b (sheet_strips_of s w) w.sheet_firsts → Numbered b (placed_strips_of s w) w.placed_firsts → firsts_fit s w ≡ true)
unfolding firsts_fit
firsts_mean s w =
    let b = s.tables.sheet_bounds in
    let c = numbers_lie (firsts_for b (sheet_strips_of s w)) w.sheet_firsts in
    let d = numbers_lie (firsts_for b (placed_strips_of s w)) w.placed_firsts in
    let m = part_mean b (sheet_strips_of s w) w.sheet_firsts in
    let n = part_mean b (placed_strips_of s w) w.placed_firsts in
    (λ h. (m.0 (both_first c d h), n.0 (both_second c d h)), λ F G. ap₂ ◌&&◌ (m.1 F) (n.1 G))

-- ---- no strip stands

no_firsts : (b : Rect) → firsts_for b [] ≡ []
unfolding firsts_for capacity firsts_of up_from
no_firsts b = refl

pub none_lie : (b : Rect) (room : List ℕ) → numbers_lie (firsts_for b []) room ≡ true
none_lie b room = ap (λ (ns : List ℕ). numbers_lie ns room) (no_firsts b) ∙ numbers-none room

zero_firsts : (w : Rooms) → firsts_fit zero_state w ≡ true
unfolding firsts_fit sheet_strips_of placed_strips_of zero_state zero_tables
zero_firsts w = let b = zero_tables.sheet_bounds in ap₂ ◌&&◌ (none_lie b w.sheet_firsts) (none_lie b w.placed_firsts)

-- ---- a start

-- the sheet's numbers of a start
sheet_lie : (j : Job) (lent w : Rooms) → w.sheet ≡ (first_rooms (planner_of j) lent).sheet → w.sheet_firsts ≡ (first_rooms (planner_of j) lent).sheet_firsts
    → numbers_lie (firsts_for (planner_of j).bounds (take (6 * (tables_of (planner_of j)).sheet_strips) w.sheet)) w.sheet_firsts ≡ true
sheet_lie j lent w a b =
    let p = planner_of j in
    ap₂ (λ (part : List Float) (room : List ℕ). numbers_lie (firsts_for p.bounds part) room)
    (ap (take (6 * (tables_of p).sheet_strips)) a ∙ sheet-read j lent)
    (b ∙ laid-first p)
    ∙ numbers-laid (firsts_for p.bounds p.sheet) (zeros 0 lent.sheet_firsts)
  where
    laid-first : (p : Planner) → (first_rooms p lent).sheet_firsts ≡ laid (firsts_for p.bounds p.sheet) (zeros 0 lent.sheet_firsts)
    laid-first p = unfold first_rooms in refl

-- the state that a start returns, in rooms whose sheet and sheet's numbers are the start's, whatever the placed rooms hold
pub first_firsts : (j : Job) (order : List ℕ) (lent w : Rooms)
    → w.sheet ≡ (first_rooms (planner_of j) lent).sheet → w.sheet_firsts ≡ (first_rooms (planner_of j) lent).sheet_firsts
    → firsts_fit (first_state (planner_of j) order) w ≡ true
unfolding firsts_fit sheet_strips_of placed_strips_of first_state tables_of
first_firsts j order lent w a b = ap₂ ◌&&◌ (sheet_lie j lent w a b) (none_lie (planner_of j).bounds w.placed_firsts)

start-true : (j : Job) (order : List ℕ) (l : Lent) (v : Result (Unit {0}) Refusal) → start_verdict j order l ≡ v
    → firsts_fit (start_job j order l).state (start_job j order l).lent.rooms ≡ true
unfolding good_start no_start
start-true j order l (Ok tt) d =
    rw (start-good j order l d) (first_firsts j order l.rooms (first_rooms (planner_of j) l.rooms) refl refl)
start-true j order l (Err k) d = rw (start-refused j order l k d) (zero_firsts (only_positions l []).rooms)

-- a start, accepted or refused, whatever it is given
pub start_firsts : (bytes order : List ℕ) (l : Lent) → firsts_fit (start_of bytes order l).state (start_of bytes order l).lent.rooms ≡ true
unfolding start_of
start_firsts bytes order l = go (read_job bytes)
  where
    go : (a : Answer) → firsts_fit (start_given a order l).state (start_given a order l).lent.rooms ≡ true
    go (refused k) = unfold start_given in (unfold no_start in zero_firsts (only_positions l []).rooms)
    go (accepted j) = unfold start_given in start-true j order l (start_verdict j order l) refl

-- the numbers that an accepted start leaves for the sheet: those of its strips, then zeros
pub accepted-start_firsts : (bytes order : List ℕ) (l : Lent) (j : Job) → read_job bytes ≡ accepted j → (start_of bytes order l).verdict ≡ Ok tt
    → (start_of bytes order l).lent.rooms.sheet_firsts ≡ laid (firsts_for (planner_of j).bounds (planner_of j).sheet) (zeros 0 l.rooms.sheet_firsts)
unfolding first_rooms
accepted-start_firsts bytes order l j e v = ap (λ (w : Rooms). w.sheet_firsts) (start-accepted bytes order l j e v).rooms_is

-- ---- a filling leaves no standing strip: zeros in every room but that of the positions

pub planned_rooms : (j : Job) (l : Lent) (s : State) (n : ℕ) → (planned_with j l s n).lent.rooms ≡ zero_rooms l.rooms
unfolding planned_with only_positions
planned_rooms j l s n = refl

pub not_planned_rooms : (r : Refusal) (l : Lent) → (not_planned r l).lent.rooms ≡ zero_rooms l.rooms
unfolding not_planned only_positions
not_planned_rooms r l = refl

pub fill-rooms : (bytes order : List ℕ) (l : Lent) → (fill_of bytes order l).lent.rooms ≡ zero_rooms l.rooms
unfolding fill_of
fill-rooms bytes order l = go (read_job bytes)
  where
    by : (j : Job) (f : Filling) → (planned_by j l f).lent.rooms ≡ zero_rooms l.rooms
    by j (filled s) = unfold planned_by in planned_rooms j l s 0
    by j (stopped r) = unfold planned_by in not_planned_rooms r l

    made : (j : Job) (v : Result (Unit {0}) Refusal) → start_verdict j order l ≡ v → (fill_job j order l).lent.rooms ≡ zero_rooms l.rooms
    made j (Ok tt) d = rw (fill-runs j order l d) (by j (fill_order j l order))
    made j (Err r) d = rw (fill-stopped j order l r d) (not_planned_rooms r l)

    go : (a : Answer) → (fill_given a order l).lent.rooms ≡ zero_rooms l.rooms
    go (refused k) = unfold fill_given in not_planned_rooms (Why.Job k) l
    go (accepted j) = unfold fill_given in made j (start_verdict j order l) refl

pub zero-numbers : (w z : Rooms) → w ≡ zero_rooms z → (w.sheet_firsts ≡ zeros 0 z.sheet_firsts) × (w.placed_firsts ≡ zeros 0 z.placed_firsts)
unfolding zero_rooms
zero-numbers w z e = (ap (λ (r : Rooms). r.sheet_firsts) e, ap (λ (r : Rooms). r.placed_firsts) e)

-- so every number of both rooms is zero, whatever it answers
pub fill_firsts : (bytes order : List ℕ) (l : Lent)
    → ((fill_of bytes order l).lent.rooms.sheet_firsts ≡ zeros 0 l.rooms.sheet_firsts)
    × ((fill_of bytes order l).lent.rooms.placed_firsts ≡ zeros 0 l.rooms.placed_firsts)
fill_firsts bytes order l = zero-numbers (fill_of bytes order l).lent.rooms l.rooms (fill-rooms bytes order l)
