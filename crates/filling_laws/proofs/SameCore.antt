-- The core step of the definition of filling, over a state and the contents of the rooms, is what the code leaves. Assumes nothing.
use Prim.{⊥}
use Prim.Native.Nat.{ℕ, zero, suc, ◌+◌, ◌*◌, ◌<◌, ◌≤◌}
use native.Mathlib.Omega.{arith}
use mathlib.Core.Path.{◌≡◌, refl, sym, ap, ◌∙◌}
use mathlib.Core.List.{List, [], ◌∷◌, map}
use lib.ListN.{length, get_or, take, drop}
use lib.Ieee.{Float}
use Rattle.index.specs.Buckets.{up_from}
use Rattle.index.specs.inner.Listing.{FirstBuckets}
use Rattle.job.specs.Jobs.{Job}
use Rattle.filling.specs.declared.State.{State}
use Rattle.filling.specs.Shapes.{Planner}
use Rattle.filling.specs.Search.{Track}
use Rattle.filling.specs.Rooms.{Rooms}
use Rattle.filling.specs.State as States
use Rattle.filling.specs.State.{slot_rows, orientation_counts, apart_room, inset_room, shape_at, planner_at, order_of, track_at, tracks_of}
use Rattle.filling.specs.Consistent.{sheet_index, placed_strips_of}
use Rattle.filling.specs.NextCopy.{place_copy, place_next, core_step}
use Rattle.choose.specs.inner.Choosing.{part_at, bounds_at}
use Rattle.store.specs.inner.Storing.{FirstsLaid}
use Rattle.place.specs.inner.Placing.{Placed}
use Rattle.filling_laws.proofs.SameCopy.{step_from, ss, ts, code_of, same_step}

-- row i of a table by kind and orientation
rows_at : {A : Type 0} (f : ℕ → A) (k : ℕ) (ns : List ℕ) (i : ℕ) → i < length ns → get_or (slot_rows f k ns) i [] ≡ map (λ o. f (16 * (k + i) + o)) (up_from (get_or ns i 0) 0)
unfolding slot_rows
rows_at f k [] i h = absurd (no h)
  where
    no : i < zero → ⊥
    no h = omega arith
rows_at f k (n ∷ ns) zero h = let e : k + 0 ≡ k = omega arith in rw e
rows_at f k (n ∷ ns) (suc i) h = let e : suc k + i ≡ k + suc i = omega arith in rows_at f (suc k) ns i (omega arith) ∙ ap (λ (z : ℕ). map (λ o. f (16 * z + o)) (up_from (get_or ns i 0) 0)) e

pub row : {A : Type 0} (f : ℕ → A) (ns : List ℕ) (k : ℕ) → k < length ns → get_or (slot_rows f 0 ns) k [] ≡ map (λ o. f (16 * k + o)) (up_from (get_or ns k 0) 0)
row f ns k h = rows_at f 0 ns k h ∙ ap (λ (z : ℕ). map (λ o. f (16 * z + o)) (up_from (get_or ns k 0) 0)) (let e : 0 + k ≡ k = omega arith in e)

module _ (j : Job) (s : State) (w : Rooms) (intervals : List Float) (k : ℕ) (starts : List ℕ) (kind : k < length (orientation_counts j)) (room : 6 * s.placed_strips ≤ length w.placed)
    (slots : 16 * k + get_or (orientation_counts j) k 0 ≤ length s.look_counts) where
  abbrev p : Planner
  p = planner_at j s.tables w

  abbrev n : ℕ
  n = get_or (orientation_counts j) k 0

  abbrev apart : List Float
  apart = apart_room s.tables w.shapes

  abbrev inset : List Float
  inset = inset_room s.tables w.shapes

  -- the shapes of kind k
  shaped : get_or p.shapes k [] ≡ ss p k s w intervals s.tables.inset_bounds s.tables.parts apart inset n starts room slots
  unfolding planner_at shape_at States.part_at States.bounds_at part_at bounds_at
  shaped = row (shape_at s.tables w.shapes) (orientation_counts j) k kind

  -- their tracks
  tracked : get_or (tracks_of j s) k [] ≡ ts p k s w intervals s.tables.inset_bounds s.tables.parts apart inset n starts room slots
  unfolding tracks_of
  tracked = row (track_at s.next_column s.look_counts) (orientation_counts j) k kind

  next_is : (ks : List ℕ) → place_next j s w intervals (k ∷ ks) ≡ place_copy p (take (6 * s.placed_strips) w.placed) (get_or (tracks_of j s) k []) k s w intervals
  unfolding place_next placed_strips_of
  next_is ks = refl

  core_is : (ks : List ℕ) → drop s.taken (order_of j s) ≡ k ∷ ks → core_step j s w intervals ≡ place_next j s w intervals (k ∷ ks)
  unfolding core_step
  core_is ks e = ap (place_next j s w intervals) e

  -- what the code leaves
  abbrev code : Placed
  code = code_of p k s w intervals s.tables.inset_bounds s.tables.parts apart inset n starts room slots

  -- the code's answer, state and rooms for the next copy, of kind k
  pub same_core : (ks : List ℕ) → drop s.taken (order_of j s) ≡ k ∷ ks → (firsts : List ℕ)
      → FirstBuckets (sheet_index p.bounds) w.placed s.placed_strips w.placed_firsts
      → FirstsLaid (sheet_index p.bounds) code.left.placed code.left.reply.totals.placed_strips w.placed_firsts firsts
      → step_from s w intervals firsts code ≡ core_step j s w intervals
  same_core ks e firsts K F =
      same_step p k s w intervals s.tables.inset_bounds s.tables.parts apart inset n starts room slots shaped firsts K F
      ∙ (ap (λ (z : List Track). place_copy p (take (6 * s.placed_strips) w.placed) z k s w intervals) (sym tracked)
      ∙ sym (core_is ks e ∙ next_is ks))
