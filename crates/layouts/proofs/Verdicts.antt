-- When a line is accepted, and what the lines after it come to; what of stored strips fits where all fit. Assumes nothing.
use Rattle.std.specs.Prelude.{Result, Ok, Err}
use Prim.Native.Nat.{ℕ, ◌+◌, ◌≤◌, ◌<◌}
use native.Mathlib.Omega.{arith}
use mathlib.Core.Path.{◌≡◌}
use mathlib.Core.Bool.{Bool, true, false, not, ◌&&◌}
use mathlib.Core.List.{List, [], ◌∷◌, ◌++◌, map, flat_map}
use lib.ListN.{length}
use lib.Dec.{leb, ltb}
use borrow.Author.Tests.{le-ltb, ltb-false, lt-leb, leb-false, not-false}
use lib.Ieee.{Float}
use Rattle.trapezoid.specs.Strip.{capacity}
use Rattle.index.specs.Buckets.{up_from, standing_capacity}
use Rattle.strips.specs.declared.Rect.{Rect}
use Rattle.bits.specs.declared.Refusal.TheVariants as Input
use Rattle.frames.specs.declared.Frame.{Frame}
use Rattle.job.specs.Jobs.{Job, frame_of}
use Rattle.filling.specs.declared.Refusal.{Refusal}
use Rattle.filling.specs.declared.Refusal.TheVariants as Why
use Rattle.filling.specs.Refusals.{refuse_if}
use Rattle.filling.specs.Shapes.{Planner, shape_of, moved_strips}
use Rattle.filling.specs.Rooms.{Rooms}
use Rattle.filling.specs.Order.{count_in}
use Rattle.filling.specs.Consistent.{sheet_index, entries_for}
use Rattle.filling.specs.Leaf.{lacks}
use Rattle.filling.specs.NextCopy.{store_verdict}
use Rattle.filling.proofs.Reading.{Sixfold, sixfold_nil, sixfold_append, sixfold_flat, capacity_append}
use Rattle.filling.proofs.Steps.{later_accepted}
use Rattle.close_up.proofs.EntryCounts.{entries_append}
use Rattle.layouts.specs.declared.PutLine.{PutLine}
use Rattle.layouts.specs.Layouts.{is_finite, place_of, line_strips, in_range, clear, quantity_of, place_verdict, line_verdict, layout_from}

-- ---- strips and entries

-- the strips of lines
abbrev pub Strips : Planner → Frame → List PutLine → List Float
Strips p f ls = flat_map (line_strips p f) ls

pub line_sixfold : (p : Planner) (f : Frame) (l : PutLine) → Sixfold (line_strips p f l)
unfolding line_strips moved_strips
line_sixfold p f l = sixfold_flat (map _ (up_from (capacity (shape_of p l.kind l.orientation).apart) 0))

pub lines_sixfold : (p : Planner) (f : Frame) (ls : List PutLine) → Sixfold (Strips p f ls)
unfolding flat_map
lines_sixfold p f [] = sixfold_nil
lines_sixfold p f (l ∷ ls) = sixfold_append (line_strips p f l) (Strips p f ls) (line_sixfold p f l) (lines_sixfold p f ls)

-- entries of strips one after another add up
pub entries-together : (b : Rect) (st new : List Float) → Sixfold st → Sixfold new
    → length (entries_for b (st ++ new)) ≡ length (entries_for b st) + length (entries_for b new)
unfolding entries_for
entries-together b st new s t = entries_append (sheet_index b) st new s t

module _ (p : Planner) (w : Rooms) where
  pub stored_if : (st : List Float) → capacity st ≤ standing_capacity w.placed w.placed_firsts
      → length (entries_for p.bounds st) ≤ length w.placed_entries → store_verdict p w st ≡ (Ok tt)
  unfolding store_verdict refuse_if
  stored_if st a b =
      rw (le-ltb (standing_capacity w.placed w.placed_firsts) (capacity st) a, le-ltb (length w.placed_entries) (length (entries_for p.bounds st)) b)

  pub if_stored : (st : List Float) → store_verdict p w st ≡ (Ok tt)
      → (capacity st ≤ standing_capacity w.placed w.placed_firsts) × (length (entries_for p.bounds st) ≤ length w.placed_entries)
  unfolding store_verdict
  if_stored st v =
      let room = standing_capacity w.placed w.placed_firsts in
      let entries = length (entries_for p.bounds st) in
      let a = later_accepted (ltb room (capacity st)) Why.StripRoom (refuse_if (ltb (length w.placed_entries) entries) Why.EntryRoom (Ok tt)) v in
      let b = later_accepted (ltb (length w.placed_entries) entries) Why.EntryRoom (Ok tt) a.1 in
      (ltb-false room (capacity st) a.0, ltb-false (length w.placed_entries) entries b.0)

  -- a part of what fits fits
  pub stored_less : (st new : List Float) → Sixfold st → Sixfold new → store_verdict p w (st ++ new) ≡ (Ok tt) → store_verdict p w st ≡ (Ok tt)
  stored_less st new s t v =
      let h = if_stored (st ++ new) v in
      let c = capacity_append st new s t in
      let e = entries-together p.bounds st new s t in
      stored_if st (omega (arith, h.0)) (omega (arith, h.1))

-- ---- a line

module _ (j : Job) (p : Planner) (w : Rooms) (kinds : List ℕ) (st : List Float) (l : PutLine) where
  abbrev F : Frame
  F = frame_of j.header

  -- what an accepted line passes
  pub record Passes : Type 0 where
    pub read : is_finite l.x && is_finite l.y ≡ true
    pub has : lacks j l.kind l.orientation ≡ false
    pub few : count_in l.kind kinds < quantity_of j l.kind
    pub range : in_range p (shape_of p l.kind l.orientation) (place_of F l) ≡ true
    pub clears : clear p st (shape_of p l.kind l.orientation) (place_of F l) ≡ true
    pub stores : store_verdict p w (st ++ line_strips p F l) ≡ (Ok tt)

  pub passes-accepted : Passes → line_verdict j p w kinds st l ≡ (Ok tt)
  unfolding line_verdict place_verdict refuse_if
  passes-accepted h =
      rw (h.read, h.has, lt-leb (quantity_of j l.kind) (count_in l.kind kinds) h.few, h.range, h.clears, h.stores)

  abbrev Stored : Result (Unit {0}) Refusal
  Stored = store_verdict p w (st ++ line_strips p F l)

  abbrev Off : Bool
  Off = not (in_range p (shape_of p l.kind l.orientation) (place_of F l))

  abbrev Hit : Bool
  Hit = not (clear p st (shape_of p l.kind l.orientation) (place_of F l))

  abbrev Used : Bool
  Used = leb (quantity_of j l.kind) (count_in l.kind kinds)

  abbrev From25 : Result (Unit {0}) Refusal
  From25 = refuse_if Used Why.TooManyOfKind (refuse_if Off Why.OutsideRange (refuse_if Hit Why.InTheWay Stored))

  pub accepted-passes : line_verdict j p w kinds st l ≡ (Ok tt) → Passes
  unfolding line_verdict place_verdict
  accepted-passes v =
      let lacking = lacks j l.kind l.orientation in
      let a = later_accepted (not (is_finite l.x && is_finite l.y)) (Why.Job Input.NonFinite) (refuse_if lacking Why.MissingShape From25) v in
      let b = later_accepted lacking Why.MissingShape From25 a.1 in
      let c = later_accepted Used Why.TooManyOfKind (refuse_if Off Why.OutsideRange (refuse_if Hit Why.InTheWay Stored)) b.1 in
      let d = later_accepted Off Why.OutsideRange (refuse_if Hit Why.InTheWay Stored) c.1 in
      let e = later_accepted Hit Why.InTheWay Stored d.1 in
      record {
        read = not-false (is_finite l.x && is_finite l.y) a.0;
        has = b.0;
        few = leb-false (quantity_of j l.kind) (count_in l.kind kinds) c.0;
        range = not-false (in_range p (shape_of p l.kind l.orientation) (place_of F l)) d.0;
        clears = not-false (clear p st (shape_of p l.kind l.orientation) (place_of F l)) e.0;
        stores = e.1;
      }

  -- the lines after it
  pub line_on : (ls : List PutLine) → line_verdict j p w kinds st l ≡ (Ok tt)
      → layout_from j p w kinds st (l ∷ ls) ≡ layout_from j p w (kinds ++ (l.kind ∷ [])) (st ++ line_strips p F l) ls
  unfolding layout_from
  line_on ls v = rw (v, layout_from)

  pub line-bad : (ls : List PutLine) (r : Refusal) → line_verdict j p w kinds st l ≡ Err r
      → layout_from j p w kinds st (l ∷ ls) ≡ record { verdict = Err r; line = length kinds }
  unfolding layout_from
  line-bad ls r v = rw (v, layout_from)
