-- Between the copies of a filling: what placing the next one requires. Assumes nothing.
use Prim.Native.Nat.{ℕ, zero, suc, ◌+◌, ◌*◌, ◌/◌, ◌^◌, ◌<◌}
use native.Mathlib.Omega.{arith}
use mathlib.Core.Path.{◌≡◌, refl, sym, ap, subst, ◌∙◌}
use mathlib.Core.Bool.{true}
use mathlib.Core.List.{List, [], ◌∷◌, ◌++◌, map}
use lib.ListN.{length, get_or, take, drop, replicate, length-map, take-append-drop}
use lib.Dec.{T}
use lib.Ieee.{Float, binary64, fits, of_bits}
use Rattle.numbers.specs.Numbers.{pos_zero}
use Rattle.numbers.proofs.Doubles.{finite}
use Rattle.trapezoid.specs.Strip.{capacity}
use Rattle.index.specs.declared.Index.{Index}
use Rattle.index.specs.inner.Listing.{Laid}
use Rattle.job.specs.Jobs.{Job}
use Rattle.job.proofs.Accepted.{job_good}
use Rattle.filling.specs.declared.State.{State}
use Rattle.filling.specs.Shapes.{Planner, planner_of}
use Rattle.filling.specs.Rooms.{Rooms, laid, zeros}
use Rattle.filling.specs.Order.{rearranged}
use Rattle.filling.specs.State.{by_slot, slot_shape, Part, flat_parts, orientation_counts, apart_room, inset_room, planner_at}
use Rattle.filling.specs.Consistent.{sheet_index, consistent}
use Rattle.filling.specs.Start.{parts_from, tables_of, first_state, first_rooms}
use Rattle.filling.proofs.Reading.{length-by_slot, length-bounds, kinds_many, parts-length}
use Rattle.filling.proofs.Sizes.{sized}
use Rattle.filling.proofs.Begin.{first_linked}
use Rattle.filling.proofs.WithinBounds.{jobs_within, framed}
use Rattle.filling.proofs.OwnStates.{own_consistent}
use Rattle.choose.specs.inner.Choosing.{surroundings}
use Rattle.place.specs.declared.Totals.{Totals}
use Rattle.place.specs.inner.Standing.{Standing, Fixed}
use Rattle.filling_laws.proofs.ReadyNumbers.{RectFits}
use Rattle.filling_laws.proofs.ReadyStrips.{AllFit, drop-fit}
use Rattle.filling_laws.proofs.Ready.{InDoubles, ready_fixed, ready-counts, ready-standing}
use Rattle.filling_laws.specs.fill_laws.inner.Prepared.{Given, Prepared, state_by, rooms_by}
use Rattle.filling_laws.proofs.fill_laws.Between.{Held, given_is, kind-below, slots-below}

-- ---- the tables' lengths

length-parts : (l : List Part) → length (flat_parts l) ≡ 4 * length l
unfolding flat_parts
length-parts [] = refl
length-parts (b ∷ l) = let e = length-parts l in omega arith

pub bounds_long : (p : Planner) → length (tables_of p).inset_bounds ≡ 4096
unfolding tables_of
bounds_long p =
    let a = length-bounds (map (λ s. s.bounds) (by_slot (slot_shape p))) in
    let b = length-map (by_slot (slot_shape p)) (λ s. s.bounds) in
    let c = length-by_slot (slot_shape p) in
    omega arith

pub parts_long : (p : Planner) → length (tables_of p).parts ≡ 4096
unfolding tables_of
parts_long p =
    let a = length-parts (parts_from 0 0 (by_slot (slot_shape p))) in
    let b = parts-length (by_slot (slot_shape p)) 0 0 in
    let c = length-by_slot (slot_shape p) in
    omega arith

-- ---- doubles

append_fit : (l m : List Float) → AllFit l → AllFit m → AllFit (l ++ m)
append_fit [] m a b i = b i
append_fit (x ∷ l) m a b zero = a 0
append_fit (x ∷ l) m a b (suc i) = append_fit l m (λ j. a (suc j)) b i

zeros-fit : (n : ℕ) → AllFit (replicate n pos_zero)
unfolding fits of_bits
zeros-fit zero i = tt
zeros-fit (suc n) zero = tt
zeros-fit (suc n) (suc i) = zeros-fit n i

-- what a filling is given are doubles: so are all numbers that code holds
pub record Doubles (g : Given) : Type 0 where
  pub resolution : T (fits binary64 g.resolution)
  pub inset_bounds : AllFit g.inset_bounds
  pub apart : AllFit g.apart
  pub inset : AllFit g.inset
  pub sheet : AllFit g.sheet

module _ (j : Job) (g : Given) (h : Prepared j g) (order : List ℕ) (r : rearranged j order ≡ true) where
  abbrev P : Planner
  P = planner_of j

  sheet_is : take (6 * (tables_of P).sheet_strips) (first_rooms P h.lent).sheet ≡ P.sheet
  unfolding planner_at first_state
  sheet_is = ap (λ (p : Planner). p.sheet) (first_linked j (sized h.bytes j h.read) order h.lent).plan

  bounds-fit : RectFits P.bounds
  bounds-fit =
      let f = framed j (job_good h.bytes j h.read).good in
      record { left = (finite f.left.num).fit; bottom = (finite f.bottom.num).fit; right = (finite f.right.num).fit; top = (finite f.top.num).fit }

  sheet-fit : AllFit g.sheet → AllFit (first_rooms P h.lent).sheet
  unfolding first_rooms laid zeros
  sheet-fit a = append_fit P.sheet _ (subst AllFit (h.sheet ∙ sheet_is) a) (drop-fit (length P.sheet) (replicate (length h.lent.sheet) pos_zero) (zeros-fit (length h.lent.sheet)))

  shapes-fit : AllFit g.apart → AllFit g.inset → AllFit (first_rooms P h.lent).shapes
  unfolding apart_room inset_room
  shapes-fit a b =
      let room = (first_rooms P h.lent).shapes in
      let n = 6 * (tables_of P).apart_strips in
      subst AllFit (take-append-drop n room) (append_fit (take n room) (drop n room) (subst AllFit h.apart a) (subst AllFit h.inset b))

  module _ (wide i : ℕ) (t : Totals) (placed : List Float) (entries firsts looks next orientation : List ℕ) (x y gap : List Float)
      (b : Held j h.lent order wide i t placed entries firsts looks next orientation x y gap) (below : i < length order) (D : Doubles g) (fit : AllFit placed) where
    abbrev S : State
    S = state_by P order i next looks t orientation x y gap

    abbrev W : Rooms
    W = rooms_by P h.lent placed entries firsts

    abbrev k : ℕ
    k = get_or order i 0

    in_doubles : InDoubles S W
    unfolding tables_of
    in_doubles =
        record {
          resolution = subst (λ (z : Float). T (fits binary64 z)) h.resolution D.resolution;
          sheet_bounds = bounds-fit;
          inset_bounds = subst AllFit h.inset_bounds D.inset_bounds;
          shapes = shapes-fit D.apart D.inset;
          sheet = sheet-fit D.sheet;
          placed = fit;
        }

    consistent_is : consistent j S W ≡ true
    consistent_is = own_consistent j order S W b.plain (sized h.bytes j h.read) (jobs_within h.bytes j h.read) r b.own

    kind : k < length (orientation_counts j)
    kind = let e = kinds_many j in let l = kind-below j g h order r i below in omega arith

    turn : (o : ℕ) → o < get_or g.rows (4 * k + 3) 0 → o < get_or (orientation_counts j) k 0
    turn o l = subst (λ (n : ℕ). o < n) (sym (h.tabled.orientations k (kind-below j g h order r i below))) l

    own_laid : Laid (sheet_index P.bounds) (take (6 * (tables_of P).sheet_strips) (first_rooms P h.lent).sheet) (capacity (take (6 * (tables_of P).sheet_strips) (first_rooms P h.lent).sheet)) (first_rooms P h.lent).sheet_entries g.sheet_starts
    own_laid = subst (λ (g' : Given). Laid g'.index g'.sheet (capacity g'.sheet) g'.sheet_entries g'.sheet_starts) (given_is j g h order r) h.sheet_laid

    fixed_own : (o : ℕ) → o < get_or g.rows (4 * k + 3) 0
        → Fixed (sheet_index P.bounds) (surroundings (wide / 2) P.bounds P.resolution (tables_of P).inset_bounds (tables_of P).parts (apart_room (tables_of P) (first_rooms P h.lent).shapes) (inset_room (tables_of P) (first_rooms P h.lent).shapes) (take (6 * (tables_of P).sheet_strips) (first_rooms P h.lent).sheet) (take (6 * t.placed_strips) placed)) (first_rooms P h.lent).sheet_entries g.sheet_starts (16 * k + o)
    unfolding tables_of
    fixed_own o l =
        ready_fixed j S W consistent_is in_doubles k kind o (turn o l) (wide / 2) (take (6 * t.placed_strips) placed) g.sheet_starts (bounds_long P) (parts_long P) (let a = slots-below j g h order r i below in omega arith) own_laid

    pub held_fixed : (o : ℕ) → o < get_or g.rows (4 * k + 3) 0
        → Fixed g.index (surroundings (wide / 2) g.bounds g.resolution g.inset_bounds g.parts g.apart g.inset g.sheet (take (6 * t.placed_strips) placed)) g.sheet_entries g.sheet_starts (16 * k + o)
    held_fixed o l =
        subst (λ (g' : Given). Fixed g'.index (surroundings (wide / 2) g'.bounds g'.resolution g'.inset_bounds g'.parts g'.apart g'.inset g'.sheet (take (6 * t.placed_strips) placed)) g'.sheet_entries g'.sheet_starts (16 * k + o)) (sym (given_is j g h order r))
        (fixed_own o l)

    pub held-counts : (o : ℕ) → o < get_or g.rows (4 * k + 3) 0 → get_or looks (16 * k + o) 0 + 4000000002 < 2 ^ 64
    held-counts o l = ready-counts j S W consistent_is in_doubles k kind o (turn o l) (sized h.bytes j h.read).few

    pub held-standing : (starts : List ℕ) → Laid g.index placed t.placed_strips entries starts → Standing g.index placed t.placed_strips entries starts
    held-standing starts L =
        subst (λ (z : Index). Standing z placed t.placed_strips entries starts) (sym h.index)
        (stands starts (subst (λ (z : Index). Laid z placed t.placed_strips entries starts) h.index L))
      where
        stands : (starts : List ℕ) → Laid (sheet_index P.bounds) placed t.placed_strips entries starts → Standing (sheet_index P.bounds) placed t.placed_strips entries starts
        stands starts L = unfold tables_of in ready-standing j S W consistent_is in_doubles starts L
