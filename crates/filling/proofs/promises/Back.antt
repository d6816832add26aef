-- A copy taken back leaves no number that is not finite, and no minus zero. Assumes nothing.
use Prim.Native.Nat.{ℕ, zero, suc, ◌+◌, ◌*◌, ◌≤◌}
use native.Mathlib.Omega.{arith}
use mathlib.Core.Path.{◌≡◌, sym, subst}
use mathlib.Core.Bool.{true, not}
use mathlib.Core.List.{List, [], ◌∷◌, map}
use lib.ListN.{get_or, take, drop}
use lib.Dec.{lit≤, eqb}
use lib.Ieee.{Float}
use Rattle.numbers.specs.Numbers.{larger, pos_zero}
use Rattle.numbers.proofs.Doubles.{Number, Small}
use Rattle.trapezoid.specs.Strip.{capacity}
use Rattle.trapezoid.proofs.Sizes.{small_more}
use Rattle.slabs.proofs.Merging.{All, all_append}
use Rattle.job.specs.Jobs.{Job, accepted, read_job}
use Rattle.job.proofs.Accepted.{job_good}
use Rattle.filling.specs.declared.State.{State}
use Rattle.filling.specs.Shapes.{Planner, planner_of, Standing, others, copy_strips, standing_strips}
use Rattle.filling.specs.Rooms.{Rooms, zeros}
use Rattle.filling.specs.Order.{rearranged}
use Rattle.filling.specs.State.{order_of, standing_to, standing_of}
use Rattle.filling.specs.Consistent.{placed_strips_of}
use Rattle.filling.specs.NextCopy.{Step}
use Rattle.filling.specs.Plain.{Plain, plain_take, plain_back, copy_after, standing_after}
use Rattle.filling.specs.Withdraw.{closed_up, strips_left, strips_without, right_of, layout_without, state_without, rooms_without, Reply}
use Rattle.filling.proofs.Sizes.{sized}
use Rattle.filling.proofs.Steps.{Took}
use Rattle.filling.proofs.Withdrawn as Withdrawn
use Rattle.filling.proofs.Withdrawn.{Went, Left}
use Rattle.filling.proofs.Stood.{Reach}
use Rattle.filling.proofs.WithinBoundsPlaces.{all_kept}
use Rattle.filling.proofs.WithinBounds.{jobs_within, framed}
use Rattle.filling.proofs.OwnKept.{own_back, back-rearranged}
use Rattle.filling.proofs.promises.Numbers.{Numbers, zero_is, all_zeros, all_take, all_drop, all_closed, all_laid}
use Rattle.filling.proofs.promises.Stays.{Sound, Near, Held, held-took, larger-small}

-- ---- lists

right_near : (p : Planner) (n : ℕ) (r : Float) (cs : List Standing) → Small n r → All (λ (c : Standing). Small n (Reach p c)) cs → Small n (right_of p r cs)
unfolding right_of
right_near p n r [] S h = S
right_near p n r (c ∷ cs) S h = right_near p n (larger r (Reach p c)) cs (larger-small r (Reach p c) S h.0) h.1

near-after : (p : Planner) (m n : ℕ) (cs : List Standing) → All (λ (c : Standing). Small m (Reach p c)) cs
    → All (λ (c : Standing). Small m (Reach p c)) (map (standing_after n) cs)
unfolding standing_after copy_after
near-after p m n [] h = tt
near-after p m n (c ∷ cs) h = (h.0, near-after p m n cs h.1)

-- numbers up to m at every place, and all up to m
each_upto : (m : ℕ) (l : List ℕ) → ((i : ℕ) → get_or l i 0 ≤ m) → All (λ (a : ℕ). a ≤ m) l
each_upto m [] h = tt
each_upto m (a ∷ l) h = (h zero, each_upto m l (λ i. h (suc i)))

all_upto : (m : ℕ) (l : List ℕ) → All (λ (a : ℕ). a ≤ m) l → (i : ℕ) → get_or l i 0 ≤ m
all_upto m [] h i = omega arith
all_upto m (a ∷ l) h zero = h.0
all_upto m (a ∷ l) h (suc i) = all_upto m l h.1 i

-- ---- an own state whose numbers are sound, whatever its order has become

pub record HeldSo (bytes : List ℕ) (j : Job) (e : read_job bytes ≡ accepted j) (s : State) (w : Rooms) (q : Plain) : Type 0 where
  pub order : List ℕ
  pub held : Held bytes j e order s w q
  pub rearranges : rearranged j order ≡ true

module _ (bytes : List ℕ) (j : Job) (e : read_job bytes ≡ accepted j) (s : State) (w : Rooms) (q : Plain) (h : HeldSo bytes j e s w q) where
  pub so_took : (r : Step) → Took j s w r → HeldSo bytes j e r.state r.rooms (plain_take (planner_of j) q q.to_come_lem)
  so_took r t = record { order = h.order; held = held-took bytes j e h.order s w q h.held r t; rearranges = h.rearranges }

  module _ (n : ℕ) (r : Reply) (t : Went j s w n r) where
    abbrev H : Held bytes j e h.order s w q
    H = h.held

    left-numbers : Numbers (Left j s n)
    unfolding strips_without strips_left placed_strips_of
    left-numbers =
        let p = planner_of j in
        let a = capacity (standing_strips p (standing_to s n)) in
        let m = capacity (copy_strips p t.copy) in
        let l = placed_strips_of s w in
        let N = all_take Number (6 * s.placed_strips) w.placed H.sound.rooms.placed in
        subst Numbers (Withdrawn.left_is j s w H.own.kept.linked n t.under t.copy t.copy_is)
        (all_append Number (take (6 * a) l) (drop (6 * (a + m)) l) (all_take Number (6 * a) l N) (all_drop Number (6 * (a + m)) l N))

    others-near : All (Near bytes j e h.order) (others n (standing_of s))
    unfolding others
    others-near =
        all_kept (Near bytes j e h.order) (Near bytes j e h.order) (λ (c : Standing). not (eqb c.copy.place n)) (standing_of s) H.reaches
        (λ c f u. f)

    right-small : Small 710000 (right_of (planner_of j) (planner_of j).bounds.left (others n (standing_of s)))
    right-small =
        right_near (planner_of j) 710000 (planner_of j).bounds.left (others n (standing_of s))
        (small_more (framed j (job_good bytes j e).good).left (lit≤ tt)) others-near

    sound_gone : Sound (state_without j (planner_of j) s n t.copy (Left j s n)) (rooms_without (planner_of j) w (Left j s n))
    unfolding state_without layout_without rooms_without
    sound_gone =
        let N = H.sound.numbers in
        let W = H.sound.rooms in
        record {
          numbers =
              record {
                resolution = N.resolution;
                sheet_bounds = N.sheet_bounds;
                inset_bounds = N.inset_bounds;
                xs = all_closed Number n s.taken pos_zero s.layout.x zero_is N.xs;
                ys = all_closed Number n s.taken pos_zero s.layout.y zero_is N.ys;
                gaps = all_closed Number n s.taken pos_zero s.layout.gap zero_is N.gaps;
                right = right-small.num;
                unplaced_area = N.unplaced_area;
              };
          rooms =
              record { shapes = W.shapes; sheet = W.sheet; placed = all_laid (Left j s n) (zeros pos_zero w.placed) left-numbers (all_zeros w.placed) };
          right = right-small;
          orientations =
              all_upto 16 (closed_up n s.taken 0 s.layout.orientation)
              (all_closed (λ (a : ℕ). a ≤ 16) n s.taken 0 s.layout.orientation (lit≤ tt)
              (each_upto 16 s.layout.orientation H.sound.orientations));
        }

    reaches_gone : All (Near bytes j e h.order) (standing_of (state_without j (planner_of j) s n t.copy (Left j s n)))
    reaches_gone =
        subst (All (Near bytes j e h.order)) (sym (Withdrawn.gone_standing j (sized bytes j e) s w H.own.kept.linked n r t))
        (near-after (planner_of j) 710000 n (others n (standing_of s)) others-near)

    pub so_back : HeldSo bytes j e r.state r.rooms (plain_back (planner_of j) n q)
    so_back =
        record {
          order = order_of j r.state;
          held =
              record {
                own = own_back j (sized bytes j e) (jobs_within bytes j e) h.order s w q H.own n r t;
                sound = rw (t.state_is, t.rooms_is) sound_gone;
                reaches = rw t.state_is reaches_gone;
              };
          rearranges = back-rearranged j (sized bytes j e) (jobs_within bytes j e) h.order s w q H.own n r t;
        }
