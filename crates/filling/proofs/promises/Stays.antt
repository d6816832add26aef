-- A start, every list of calls after it and a filling leave no number that is not finite, and no minus zero. Assumes nothing.
use Rattle.std.specs.Prelude.{Ok}
use Prim.Native.Nat.{ℕ, zero, suc, ◌*◌, ◌/◌, ◌%◌, ◌≤◌, ◌<◌}
use native.Mathlib.Omega.{arith}
use mathlib.Core.Path.{◌≡◌, sym, subst}
use mathlib.Core.Bool.{Bool, true, false, cond}
use mathlib.Core.List.{List, [], ◌∷◌, ◌++◌, map}
use lib.ListN.{length, get_or, set, replicate}
use lib.Dec.{lit≤}
use lib.Ieee.{Float, lt}
use Rattle.numbers.specs.Numbers.{larger, pos_zero}
use Rattle.numbers.proofs.Doubles.{Number, Small, finite, add_upto, add-number}
use Rattle.trapezoid.proofs.Sizes.{small_more}
use Rattle.slabs.proofs.Merging.{All, all_append}
use Rattle.index.specs.Buckets.{up_from}
use Rattle.frames.specs.Frames as Frames
use Rattle.job.specs.Jobs.{Job, frame_of, accepted, read_job}
use Rattle.job.proofs.Accepted.{GoodJob, job_good}
use Rattle.filling.specs.declared.State.{State}
use Rattle.filling.specs.Shapes.{Planner, planner_of, Shape, Standing, standing_strips}
use Rattle.filling.specs.Choice.{Choice, best, standing_at}
use Rattle.filling.specs.Rooms.{Rooms, Lent, zeros}
use Rattle.filling.specs.State.{by_slot, slot_shape, flat_bounds, empty_layout, standing_to, standing_of, without_of, tracks_of}
use Rattle.filling.specs.Start.{apart_strips_of, inset_strips, tables_of, first_state, first_rooms, start_verdict}
use Rattle.filling.specs.NextCopy.{new_strips, entered, state_with, layout_after, state_after, stored, rooms_after, Step}
use Rattle.filling.specs.Consistent.{placed_strips_of}
use Rattle.filling.specs.Search.{search_all, Track}
use Rattle.filling.specs.Plain.{Plain, plain_start, plain_take}
use Rattle.filling.proofs.Sizes.{Sized, sized}
use Rattle.filling.proofs.Reading.{sixteen_get}
use Rattle.filling.proofs.Numbers31.{Good, Goods, and_good, best-good, row_good}
use Rattle.filling.proofs.WithinBounds.{sheet-good, jobs_within, framed, resolution_in, shape, area, place, sums}
use Rattle.filling.proofs.WithinBoundsStrips.{FineShape, all_up_from, set-numbers}
use Rattle.filling.proofs.Steps as Steps
use Rattle.filling.proofs.Steps.{Took, ChoicesNow, TracksNow, rows_of_shapes}
use Rattle.filling.proofs.AtPlace.{each-counted}
use Rattle.filling.proofs.Stood.{Reach, best_all, choices-under}
use Rattle.filling.proofs.OwnStates.{Own, own_start}
use Rattle.filling.proofs.OwnKept.{own_took}
use Rattle.filling.proofs.promises.Numbers.{Numbers, RectNumbers, StateNumbers, RoomNumbers, zero_is, all_replicate, all_zeros, all_take, all_laid}
use Rattle.filling.proofs.promises.Numbers.{all_set, all_flat_map, all_bounds, framed-numbers}

-- ---- what a start prepares

module _ (j : Job) (g : GoodJob j) where
  abbrev P : Planner
  P = planner_of j

  slot_fine : (i : ℕ) → FineShape (slot_shape P i)
  unfolding slot_shape
  slot_fine i = shape j g (i / 16) (i % 16)

  apart_all : Numbers (apart_strips_of P)
  unfolding apart_strips_of by_slot
  apart_all = all_flat_map (λ s. s.apart) (slot_shape P) (λ i. (slot_fine i).apart_numbers) 1024 0

  inset_all : Numbers (inset_strips P)
  unfolding inset_strips by_slot
  inset_all = all_flat_map (λ s. s.inset) (slot_shape P) (λ i. (slot_fine i).inset_numbers) 1024 0

  sheet_all : Numbers P.sheet
  unfolding planner_of
  sheet_all = set-numbers (Frames.framed (frame_of j.header) j.sheet) g.sheet_points (sheet-good j g) true

  bounds_all : Numbers (flat_bounds (map (λ s. s.bounds) (by_slot (slot_shape P))))
  unfolding by_slot
  bounds_all = all_bounds (map (slot_shape P) (up_from 1024 0)) (all_up_from (λ (s : Shape). RectNumbers s.bounds) (slot_shape P) 1024 0
      (λ i b. framed-numbers (slot_shape P i).bounds (slot_fine i).frame))

  pub first-numbers : (order : List ℕ) → StateNumbers (first_state P order)
  unfolding first_state tables_of empty_layout
  first-numbers order =
      record {
        resolution = (resolution_in j g).num;
        sheet_bounds = framed-numbers P.bounds (framed j g);
        inset_bounds = bounds_all;
        xs = all_replicate 4096;
        ys = all_replicate 4096;
        gaps = all_replicate 4096;
        right = (framed j g).left.num;
        unplaced_area = zero_is;
      }

  pub first-rooms : (w : Rooms) → RoomNumbers (first_rooms P w)
  unfolding first_rooms
  first-rooms w =
      record {
        shapes = all_laid (apart_strips_of P ++ inset_strips P) (zeros pos_zero w.shapes) (all_append Number (apart_strips_of P) (inset_strips P) apart_all inset_all)
            (all_zeros w.shapes);
        sheet = all_laid P.sheet (zeros pos_zero w.sheet) sheet_all (all_zeros w.sheet);
        placed = all_zeros w.placed;
      }

-- ---- a copy taken

-- what holds along the copies
pub record Sound (s : State) (w : Rooms) : Type 0 where
  pub numbers : StateNumbers s
  pub rooms : RoomNumbers w
  pub right : Small 710000 s.layout.right
  pub orientations : (i : ℕ) → get_or s.layout.orientation i 0 ≤ 16

set_upto : (l : List ℕ) (i a m : ℕ) → ((n : ℕ) → get_or l n 0 ≤ m) → a ≤ m → (n : ℕ) → get_or (set l i a) n 0 ≤ m
set_upto [] i a m h b n = h n
set_upto (c ∷ l) zero a m h b zero = b
set_upto (c ∷ l) zero a m h b (suc n) = h (suc n)
set_upto (c ∷ l) (suc i) a m h b zero = h zero
set_upto (c ∷ l) (suc i) a m h b (suc n) = set_upto l i a m (λ n. h (suc n)) b n

pub larger-small : {n : ℕ} (a b : Float) → Small n a → Small n b → Small n (larger a b)
unfolding larger
larger-small {n} a b h k = go (lt a b)
  where
    go : (t : Bool) → Small n (cond t b a)
    go true = k
    go false = h

module _ (j : Job) (g : GoodJob j) (z : Sized j) (order : List ℕ) (s : State) (w : Rooms) (q : Plain) (h : Own j order s w q) where
  own_area : Number s.layout.unplaced_area
  own_area =
      let few : length (without_of s) ≤ 4096 = unfold without_of in (let a = each-counted s s.taken in let f = h.few in let e = z.few in omega arith) in
      subst Number (sym h.fine.area) (sums (planner_of j) (area j g) (without_of s) few).num

-- a choice among the orientations of kind k: its place, and its right side
record Chosen (p : Planner) (k : ℕ) (c : Choice) : Type 0 where
  x : Small 610000 c.x
  y : Small 200000 c.y
  gap : Small 400000 c.gap
  right : Small 710000 c.right
  strips : Numbers (new_strips p k c)
  orientation : c.orientation < 16

module _ (j : Job) (g : GoodJob j) (k : ℕ) where
  right-small : (c : Choice) → Good (planner_of j) k c → Small 610000 c.x → Small 710000 c.right
  right-small c G X =
      let R = (shape j g k c.orientation).frame.right in
      let r = add_upto (finite X.num) (finite R.num) X.bound R.bound (lit≤ tt) in
      subst (λ (v : Float). Small 710000 v) (sym G.right_is) (record { num = add-number X.num (finite R.num) r.0; bound = r.1 })

  chosen : (c : Choice) → Good (planner_of j) k c → c.orientation < 16 → Chosen (planner_of j) k c
  unfolding new_strips
  chosen c G o =
      let r = place j g k c.orientation c.x c.y c.gap G.place in
      record {
        x = r.0;
        y = r.1;
        gap = r.2;
        right = right-small c G r.0;
        strips = (shape j g k c.orientation).moved_numbers c.x c.y r.0 r.1;
        orientation = o;
      }

  best-chosen : (c : Choice) (cs : List Choice) → Goods (planner_of j) k (c ∷ cs) → All (λ (d : Choice). d.orientation < 16) (c ∷ cs) → Chosen (planner_of j) k
      (best c cs)
  best-chosen c cs (and_good G Gs) u = chosen (best c cs) (best-good (planner_of j) k Gs c G) (best_all (λ (d : Choice). d.orientation < 16) c cs u.0 u.1)

module _ (p : Planner) (k : ℕ) (ts : List Track) (s : State) (w : Rooms) (st : List Float) (S : Sound s w) where
  abbrev Now : List Choice → State
  Now cs = state_after p k ts s st cs

  sound_none : Number (Now []).layout.unplaced_area → Sound (Now []) (rooms_after p k w st [])
  unfolding state_after state_with layout_after entered rooms_after
  sound_none a =
      let N = S.numbers in
      record {
        numbers =
            record {
              resolution = N.resolution;
              sheet_bounds = N.sheet_bounds;
              inset_bounds = N.inset_bounds;
              xs = all_set s.layout.x s.taken pos_zero N.xs zero_is;
              ys = all_set s.layout.y s.taken pos_zero N.ys zero_is;
              gaps = all_set s.layout.gap s.taken pos_zero N.gaps zero_is;
              right = N.right;
              unplaced_area = a;
            };
        rooms = S.rooms;
        right = S.right;
        orientations = set_upto s.layout.orientation s.taken 0 16 S.orientations (lit≤ tt);
      }

  sound-placed : (c : Choice) (cs : List Choice) → Numbers st → Chosen p k (best c cs) → Sound (Now (c ∷ cs)) (rooms_after p k w st (c ∷ cs))
  unfolding state_after state_with layout_after entered rooms_after stored
  sound-placed c cs h C =
      let N = S.numbers in
      let W = S.rooms in
      let d = best c cs in
      let r = larger-small s.layout.right d.right S.right C.right in
      record {
        numbers =
            record {
              resolution = N.resolution;
              sheet_bounds = N.sheet_bounds;
              inset_bounds = N.inset_bounds;
              xs = all_set s.layout.x s.taken d.x N.xs C.x.num;
              ys = all_set s.layout.y s.taken d.y N.ys C.y.num;
              gaps = all_set s.layout.gap s.taken d.gap N.gaps C.gap.num;
              right = r.num;
              unplaced_area = N.unplaced_area;
            };
        rooms = record {
          shapes = W.shapes;
          sheet = W.sheet;
          placed = all_laid (st ++ new_strips p k d) w.placed
              (all_append Number st (new_strips p k d) h C.strips) W.placed;
        };
        right = r;
        orientations = set_upto s.layout.orientation s.taken (suc d.orientation) 16 S.orientations C.orientation;
      }

module _ (bytes : List ℕ) (j : Job) (e : read_job bytes ≡ accepted j) (order : List ℕ) where
  abbrev g : GoodJob j
  g = (job_good bytes j e).good

  abbrev z : Sized j
  z = sized bytes j e

  -- how far right a standing copy reaches
  abbrev pub Near : Standing → Type 0
  Near c = Small 710000 (Reach (planner_of j) c)

  -- an own state whose numbers are sound
  pub record Held (s : State) (w : Rooms) (q : Plain) : Type 0 where
    pub own : Own j order s w q
    pub sound : Sound s w
    pub reaches : All Near (standing_of s)

  module _ (s : State) (w : Rooms) (q : Plain) (h : Held s w q) where
    pub standing_all : Numbers (standing_strips (planner_of j) (standing_of s))
    unfolding placed_strips_of
    standing_all = subst Numbers h.own.kept.linked.stand (all_take Number (6 * s.placed_strips) w.placed h.sound.rooms.placed)

    under : (k : ℕ) → All (λ (c : Choice). c.orientation < 16) (ChoicesNow j s k)
    under k = choices-under (planner_of j) 16 0 (get_or (planner_of j).shapes k [])
        (search_all (planner_of j) (standing_strips (planner_of j) (standing_of s)) (get_or (planner_of j).shapes k []) (get_or (tracks_of j s) k []))
        (let a = sixteen_get z.turns k in let b = rows_of_shapes j s w h.own.kept.linked k in omega arith)

    sound_now : (k : ℕ) (cs : List Choice) → Goods (planner_of j) k cs → All (λ (c : Choice). c.orientation < 16) cs
        → Number (state_after (planner_of j) k (TracksNow j s k) s (standing_strips (planner_of j) (standing_of s)) cs).layout.unplaced_area
        → Sound (state_after (planner_of j) k (TracksNow j s k) s (standing_strips (planner_of j) (standing_of s)) cs)
        (rooms_after (planner_of j) k w (standing_strips (planner_of j) (standing_of s)) cs)
    sound_now k [] G u a = sound_none (planner_of j) k (TracksNow j s k) s w (standing_strips (planner_of j) (standing_of s)) h.sound a
    sound_now k (c ∷ cs) G u a = sound-placed (planner_of j) k (TracksNow j s k) s w (standing_strips (planner_of j) (standing_of s)) h.sound c cs standing_all
        (best-chosen j g k c cs G u)

    -- the copy that was taken
    new-near : (k : ℕ) (d : Choice) → Good (planner_of j) k d → Small 710000 d.right → Near (standing_at (record { place = s.taken; kind = k }) d)
    unfolding standing_at
    new-near k d G r = subst (λ (v : Float). Small 710000 v) G.right_is r

    reaches_now : (k : ℕ) (ks : List ℕ) (e : Steps.Nexts j s k ks) (cs : List Choice) → Goods (planner_of j) k cs
        → All (λ (c : Choice). c.orientation < 16) cs
        → All Near (standing_of (state_after (planner_of j) k (TracksNow j s k) s (standing_strips (planner_of j) (standing_of s)) cs))
    reaches_now k ks e [] G u =
        let l = h.own.kept.linked in
        subst (All Near) (sym (Steps.after-none-stands j z s w l k ks e (TracksNow j s k) (Steps.tracks_length j s w l k))) h.reaches
    reaches_now k ks e (c ∷ cs) (and_good G Gs) u =
        let l = h.own.kept.linked in
        let d = best c cs in
        subst (All Near) (sym (Steps.after-one-stands j z s w l k ks e (TracksNow j s k) (Steps.tracks_length j s w l k) c cs))
        (all_append Near (standing_of s) (standing_at (record { place = s.taken; kind = k }) d ∷ []) h.reaches
        (new-near k d (best-good (planner_of j) k Gs c G) (best-chosen j g k c cs (and_good G Gs) u).right, tt))

    pub held-took : (r : Step) → Took j s w r → Held r.state r.rooms (plain_take (planner_of j) q q.to_come_lem)
    held-took r t =
        let o = own_took j z (jobs_within bytes j e) order s w q h.own r t in
        let k = t.kind in
        let a = own_area j g z order r.state r.rooms (plain_take (planner_of j) q q.to_come_lem) o in
        record {
          own = o;
          sound = rw (t.state_is, t.rooms_is) (sound_now k (ChoicesNow j s k) (row_good (planner_of j) k (standing_strips (planner_of j) (standing_of s))
              (get_or (tracks_of j s) k [])) (under k) (rw t.state_is at a));
          reaches = rw t.state_is (reaches_now k t.rest t.order_is (ChoicesNow j s k)
              (row_good (planner_of j) k (standing_strips (planner_of j) (standing_of s)) (get_or (tracks_of j s) k [])) (under k));
        }

  pub held_start : (l : Lent) → start_verdict j order l ≡ Ok tt → Held (first_state (planner_of j) order) (first_rooms (planner_of j) l.rooms)
      (plain_start (planner_of j) order)
  held_start l v =
      record {
        own = own_start j z (jobs_within bytes j e) order l v;
        sound = record { numbers = first-numbers j g order; rooms = first-rooms j g l.rooms; right = first-right; orientations = first-orientations };
        reaches = none-stands;
      }
    where
      none-stands : All Near (standing_of (first_state (planner_of j) order))
      none-stands = unfold standing_of in (unfold standing_to in (unfold first_state in tt))

      first-right : Small 710000 (first_state (planner_of j) order).layout.right
      first-right = unfold first_state in (unfold empty_layout in small_more (framed j g).left (lit≤ tt))

      zeros_upto : (n i : ℕ) → get_or (replicate n 0) i 0 ≤ 16
      zeros_upto zero i = lit≤ tt
      zeros_upto (suc n) zero = lit≤ tt
      zeros_upto (suc n) (suc i) = zeros_upto n i

      first-orientations : (i : ℕ) → get_or (first_state (planner_of j) order).layout.orientation i 0 ≤ 16
      first-orientations i = unfold first_state in (unfold empty_layout in zeros_upto 4096 i)
