-- After a start, and as long as the tables are what it left, the leaf hands back the strips of the job's own orientation. Assumes nothing.
use Rattle.std.specs.Prelude.{Ok}
use Prim.Native.Nat.{ℕ, zero, suc, ◌+◌, ◌*◌, ◌<◌}
use mathlib.Core.Path.{◌≡◌, refl, sym, ap, subst, ◌∙◌}
use mathlib.Core.Bool.{Bool, false, ◌&&◌, cond}
use mathlib.Core.List.{List, [], ◌∷◌}
use native.Mathlib.Omega.{arith}
use lib.ListN.{length, get_or}
use lib.Dec.{ltb}
use borrow.Author.Tests.{ltb-true, not-false}
use Rattle.job.specs.Jobs.{Job, accepted, read_job}
use Rattle.filling.specs.declared.Tables.{Tables}
use Rattle.filling.specs.declared.State.{State}
use Rattle.filling.specs.Refusals.{is_refused}
use Rattle.filling.specs.Shapes.{Shape, Planner, no_shape, shape_of, planner_of}
use Rattle.filling.specs.Rooms.{Rooms, Lent}
use Rattle.filling.specs.State.{orientation_counts, slot_rows, part_at, apart_room, inset_room, shape_at, planner_at}
use Rattle.filling.specs.Start.{first_state, start_of}
use Rattle.filling.specs.Leaf.{lacks, part_in, strips_by_kind}
use Rattle.filling.proofs.Sizes.{sized}
use Rattle.numbers.proofs.Truth.{both_first, both_second}
use Rattle.index.proofs.Flat.{get_d_up_from}
use Rattle.filling.proofs.Begin.{first_linked, start-accepted}
use Rattle.leaf.proofs.ByKind.{verdict_had}

-- one slot of what a table says by kind and orientation
slot_read : {A : Type 0} (f : ℕ → A) (d : A) (k : ℕ) (ns : List ℕ) (i o : ℕ) → o < get_or ns i 0
    → get_or (get_or (slot_rows f k ns) i []) o d ≡ f (16 * (k + i) + o)
unfolding slot_rows
slot_read f d k [] i o h = absurd (omega arith)
slot_read f d k (n ∷ ns) zero o h =
    let e : 16 * k + (0 + o) ≡ 16 * (k + 0) + o = omega arith in
    get_d_up_from (λ o. f (16 * k + o)) n 0 o d h ∙ ap f e
slot_read f d k (n ∷ ns) (suc i) o h =
    let e : 16 * (suc k + i) + o ≡ 16 * (k + suc i) + o = omega arith in
    slot_read f d (suc k) ns i o h ∙ ap f e

-- an orientation that the job has
module _ (j : Job) (k o : ℕ) (h : lacks j k o ≡ false) where
  pub has_kind : k < length j.kinds
  unfolding lacks
  has_kind =
      let a = ltb k (length j.kinds) in
      let b = ltb o (get_or (orientation_counts j) k 0) in
      ltb-true k (length j.kinds) (both_first a b (not-false (a && b) h))

  pub has_turn : o < get_or (orientation_counts j) k 0
  unfolding lacks
  has_turn =
      let a = ltb k (length j.kinds) in
      let b = ltb o (get_or (orientation_counts j) k 0) in
      ltb-true o (get_or (orientation_counts j) k 0) (both_second a b (not-false (a && b) h))

  module _ (t : Tables) (w : Rooms) (p : planner_at j t w ≡ planner_of j) where
    shape_is : shape_at t w.shapes (16 * k + o) ≡ shape_of (planner_of j) k o
    unfolding shape_of planner_at
    shape_is =
        let z : 16 * k + o ≡ 16 * (0 + k) + o = omega arith in
        ap (shape_at t w.shapes) z
        ∙ sym (slot_read (shape_at t w.shapes) no_shape 0 (orientation_counts j) k o has_turn)
        ∙ ap (λ (q : Planner). get_or (get_or q.shapes k []) o no_shape) p

    part_is : (flag : Bool)
        → part_in flag (part_at t.parts (16 * k + o)) (apart_room t w.shapes) (inset_room t w.shapes)
        ≡ cond flag (shape_at t w.shapes (16 * k + o)).inset (shape_at t w.shapes (16 * k + o)).apart
    unfolding part_in shape_at
    part_is flag = refl

    -- the strips that document 01 gives the orientation
    pub handed : (bytes : List ℕ) → read_job bytes ≡ accepted j → (flag : Bool)
        → strips_by_kind bytes t.parts (apart_room t w.shapes) (inset_room t w.shapes) k o flag
        ≡ cond flag (shape_of (planner_of j) k o).inset (shape_of (planner_of j) k o).apart
    unfolding strips_by_kind is_refused
    handed bytes e flag = rw (sym (verdict_had bytes k o j e h)) (part_is flag ∙ ap (λ (s : Shape). cond flag s.inset s.apart) shape_is)

  -- after a start that was not refused
  pub handed_after-start : (bytes order : List ℕ) (l : Lent) → read_job bytes ≡ accepted j → (start_of bytes order l).verdict ≡ (Ok tt) → (flag : Bool)
      → let r = start_of bytes order l in
      strips_by_kind bytes r.state.tables.parts (apart_room r.state.tables r.lent.rooms.shapes)
      (inset_room r.state.tables r.lent.rooms.shapes) k o flag
      ≡ cond flag (shape_of (planner_of j) k o).inset (shape_of (planner_of j) k o).apart
  handed_after-start bytes order l e v flag =
      let s = start-accepted bytes order l j e v in
      handed (start_of bytes order l).state.tables (start_of bytes order l).lent.rooms
      (subst (λ (x : State). planner_at j x.tables (start_of bytes order l).lent.rooms ≡ planner_of j) (sym s.state_is)
      (subst (λ (x : Rooms). planner_at j (first_state (planner_of j) order).tables x ≡ planner_of j) (sym s.rooms_is)
      (first_linked j (sized bytes j e) order l.rooms).plan)) bytes e flag
