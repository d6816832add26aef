-- Before the first copy: what holds of any placed rooms, and that the filling is the definition's. Assumes nothing.
use Rattle.std.specs.Prelude.{Result, Ok}
use Prim.Native.Nat.{ℕ, ◌+◌, ◌*◌, ◌≤◌, ◌<◌, min}
use native.Mathlib.Omega.{arith}
use mathlib.Core.Path.{◌≡◌, refl, sym, ap, ap₂, ◌∙◌}
use mathlib.Core.Bool.{Bool, true, false, not, ◌&&◌}
use mathlib.Core.List.{List, [], ◌∷◌, ◌++◌}
use lib.ListN.{length, get_or, replicate, length-replicate, get_or-replicate}
use lib.Seq.{slice_empty}
use lib.Dec.{ltb, leb}
use borrow.Author.Tests.{le-ltb, le-leb}
use lib.Ieee.{Float}
use Rattle.numbers.specs.Numbers.{pos_zero}
use Rattle.trapezoid.specs.Strip.{capacity}
use Rattle.index.specs.declared.Index.{Index}
use Rattle.index.specs.Buckets.{up_from, keep, strip_numbers, standing_capacity}
use Rattle.index.specs.inner.Listing.{Laid, entered_from}
use Rattle.job.specs.Jobs.{Job, accepted, read_job}
use Rattle.filling.specs.declared.State.{State}
use Rattle.filling.specs.declared.Refusal.{Refusal}
use Rattle.filling.specs.Refusals.{refuse_if}
use Rattle.filling.specs.Shapes.{Planner, planner_of, standing_strips}
use Rattle.filling.specs.Plain.{plain_start}
use Rattle.filling.specs.Rooms.{Rooms, Lent, position_capacity}
use Rattle.filling.specs.Order.{rearranged}
use Rattle.filling.specs.State.{planner_at, standing_of, empty_layout}
use Rattle.filling.specs.Consistent.{strip_counts_fit, parts_fit, entries_for, placed_strips_of}
use Rattle.filling.specs.Start.{apart_strips_of, inset_strips, tables_of, first_state, first_rooms, prepare_verdict, start_verdict}
use Rattle.filling.specs.Fill.{fill_from, fill_order}
use Rattle.filling.proofs.Reading.{length-zeros}
use Rattle.filling.proofs.Sizes.{Sized, sized}
use Rattle.filling.proofs.Steps.{Linked}
use Rattle.filling.proofs.Begin.{first-order, first-parts, first-counts, first_linked, rearranged-length}
use Rattle.filling.proofs.Demand3.{first-kept}
use Rattle.filling.proofs.WithinBounds.{jobs_within}
use Rattle.filling.proofs.Stood.{Stands, Reaches}
use Rattle.filling.proofs.OwnStates.{Own, first_fine, first-few, first-sheet, first-placed, first_passes}
use Rattle.filling.proofs.FirstBuckets.{first_firsts}
use Rattle.filling_laws.specs.fill_laws.inner.Prepared.{rooms_by}
use Rattle.filling_laws.proofs.fill_laws.Alike.{Alike, fill_alike}

-- ---- no strip stands

pub laid_none : (ix : Index) (placed : List Float) (entries : List ℕ) → Laid ix placed 0 entries (replicate 513 0)
unfolding entered_from up_from keep
laid_none ix placed entries =
    record {
      table = length-replicate {A = ℕ} 513 0;
      first = refl;
      rise = λ b c h l. let x = at b (omega arith) in let y = at c l in omega arith;
      within = λ b l. let x = at b l in omega arith;
      block = λ b l. ap₂ (λ (f t : ℕ). lib.Seq.slice f t entries) (at b (omega arith)) (at (b + 1) (omega arith)) ∙ slice_empty 0 entries;
      room = omega arith;
    }
  where
    at : (b : ℕ) → b < 513 → get_or {A = ℕ} (replicate 513 0) b 0 ≡ 0
    at b h = get_or-replicate {A = ℕ} 513 b 0 0 h

-- ---- rooms in which a start is accepted

not_below : (n : ℕ) → ltb n n ≡ false
not_below n = le-ltb n n (omega arith)

refuse_none : (t : Bool) (r : Refusal) (v : Result (Unit {0}) Refusal) → t ≡ false → v ≡ (Ok tt) → refuse_if t r v ≡ (Ok tt)
unfolding refuse_if
refuse_none t r v e d = rw (e, refuse_if) d

module _ (j : Job) (few : capacity (planner_of j).sheet ≤ strip_numbers) (order : List ℕ) (r : rearranged j order ≡ true) where
  abbrev P : Planner
  P = planner_of j

  enough : Lent
  enough =
      record {
        rooms = record { shapes = apart_strips_of P ++ inset_strips P; sheet = P.sheet; placed = []; sheet_entries = entries_for P.bounds P.sheet; placed_entries = []; sheet_firsts = replicate (capacity P.sheet) 0; placed_firsts = [] };
        intervals = [];
        positions = replicate (6 * j.copies) pos_zero;
      }

  prepared : prepare_verdict P enough.rooms ≡ (Ok tt)
  unfolding prepare_verdict enough standing_capacity
  prepared = refuse_none _ _ _ (le-ltb (min (min (capacity P.sheet) (length {A = ℕ} (replicate (capacity P.sheet) 0))) strip_numbers) (capacity P.sheet) (let e = length-replicate {A = ℕ} (capacity P.sheet) 0 in omega (arith, few, e))) (refuse_none _ _ _ (not_below (length (entries_for P.bounds P.sheet))) (refuse_none _ _ _ (not_below (capacity (apart_strips_of P ++ inset_strips P))) refl))

  started : start_verdict j order enough ≡ (Ok tt)
  unfolding start_verdict enough
  started = refuse_none _ _ _ (le-ltb (position_capacity (replicate (6 * j.copies) pos_zero)) j.copies (let e = length-replicate (6 * j.copies) pos_zero in omega arith)) (refuse_none _ _ _ (ap not r) prepared)

-- ---- what holds of a job before its first copy, whatever the placed rooms hold

module _ (bytes : List ℕ) (j : Job) (read : read_job bytes ≡ accepted j) (few : capacity (planner_of j).sheet ≤ strip_numbers) (order : List ℕ) (r : rearranged j order ≡ true) (lent : Rooms) (placed : List Float) (entries firsts : List ℕ) where
  abbrev p : Planner
  p = planner_of j

  abbrev z : Sized j
  z = sized bytes j read

  abbrev before : State
  before = first_state p order

  abbrev w : Rooms
  w = rooms_by p lent placed entries firsts

  plan : planner_at j before.tables w ≡ p
  unfolding planner_at
  plan = (first_linked j z order lent).plan

  stand : placed_strips_of before w ≡ standing_strips p (standing_of before)
  unfolding placed_strips_of first_state standing_strips standing_of Rattle.filling.specs.State.standing_to mathlib.Core.List.flat_map
  stand = refl

  linked : Linked j before w
  linked = let l = first_linked j z order lent in record { plan = plan; stand = stand; numbers = l.numbers; xs = l.xs; ys = l.ys; gaps = l.gaps; next-columns = l.next-columns; look_counts = l.look_counts }

  counts : strip_counts_fit before.tables before.placed_strips w ≡ true
  unfolding strip_counts_fit first_state
  counts = go (leb (tables_of p).sheet_strips (standing_capacity (first_rooms p lent).sheet (first_rooms p lent).sheet_firsts)) (leb (tables_of p).apart_strips (capacity (first_rooms p lent).shapes)) (leb 0 (standing_capacity (first_rooms p lent).placed (first_rooms p lent).placed_firsts)) (first-counts j z lent few) (le-leb 0 (standing_capacity placed firsts) (omega arith))
    where
      go : (a b c : Bool) {d : Bool} → a && (b && c) ≡ true → d ≡ true → a && (b && d) ≡ true
      go true true c e f = f
      go true false c e f = e
      go false b c e f = e

  parts : parts_fit j before.tables w ≡ true
  unfolding parts_fit first_state
  parts = first-parts j z lent

  pub own_first : Own j order before w (plain_start p order)
  own_first =
      let b = jobs_within bytes j read in
      let n = rearranged-length j order r in
      record {
        kept = record { linked = linked; paired = (first-kept j z order (enough j few order r) (started j few order r)).paired };
        fine = first_fine j z b order n;
        order_kept = first-order j z order n;
        few = first-few j order;
        counts = counts;
        parts = parts;
        sheet_entries = first-sheet j lent;
        placed_entries = first-placed j z order n entries;
        firsts = first_firsts j order lent w refl refl;
        stands = first_passes j z order n (Stands j);
        reaches = first_passes j z order n (Reaches p);
      }

  alike : (l : Lent) → length l.rooms.placed ≡ length placed → length l.rooms.placed_entries ≡ length entries → length l.rooms.placed_firsts ≡ length firsts → Alike j before w (first_rooms p l.rooms)
  unfolding first_rooms
  alike l a b c =
      record {
        planner = plan ∙ sym (first_linked j z order l.rooms).plan;
        standing = stand ∙ sym (first_linked j z order l.rooms).stand;
        placed = sym (length-zeros pos_zero l.rooms.placed ∙ a);
        entries = sym (length-zeros 0 l.rooms.placed_entries ∙ b);
        firsts = sym (length-zeros 0 l.rooms.placed_firsts ∙ c);
      }

  pub fill-first : (l : Lent) → length l.rooms.placed ≡ length placed → length l.rooms.placed_entries ≡ length entries → length l.rooms.placed_firsts ≡ length firsts → fill_from j l.intervals (length order) before w ≡ fill_order j l order
  unfolding fill_order
  fill-first l a b c = fill_alike j l.intervals l.intervals refl (length order) before w (first_rooms p l.rooms) (alike l a b c)
