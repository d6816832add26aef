-- After an accepted start, whatever the calls: right is the largest x + b2 of the standing copies, from s0. Assumes nothing.
use Rattle.std.specs.Prelude.{Ok}
use mathlib.Core.Path.{◌≡◌, refl, sym, ap, ◌∙◌}
use mathlib.Core.List.{List, [], ◌∷◌, ◌++◌, map}
use Prim.Native.Nat.{ℕ}
use lib.ListN.{get_or}
use lib.Ieee.{Float}
use Rattle.numbers.specs.Numbers.{◌⊕◌, larger}
use Rattle.job.specs.Jobs.{Job, accepted, read_job}
use Rattle.filling.specs.declared.State.{State}
use Rattle.filling.specs.Shapes.{Planner, planner_of, Standing, shape_of, others, standing_strips}
use Rattle.filling.specs.Choice.{Choice, best, standing_at}
use Rattle.filling.specs.Plain.{Plain, plain_start, plain_take, plain_back, copy_after, standing_after}
use Rattle.filling.specs.Rooms.{Rooms, Lent}
use Rattle.filling.specs.State.{empty_layout, standing_to, standing_of, tracks_of}
use Rattle.filling.specs.Start.{first_state, start_of}
use Rattle.filling.specs.NextCopy.{entered, state_with, layout_after, state_after, Step}
use Rattle.filling.specs.Withdraw.{right_of, layout_without, state_without, Reply}
use Rattle.filling.specs.Calls.{Call, after_calls}
use Rattle.filling.proofs.Sizes.{Sized, sized}
use Rattle.filling.proofs.Steps as Steps
use Rattle.filling.proofs.Steps.{Took, ChoicesNow, TracksNow}
use Rattle.filling.proofs.Withdrawn as Withdrawn
use Rattle.filling.proofs.Withdrawn.{Went, Left}
use Rattle.filling.proofs.Begin.{start-accepted}
use Rattle.filling.proofs.Runs.{calls_keep}
use Rattle.filling.proofs.Demand3.{Kept, took_keeps, back-kept, first-kept}
use Rattle.filling.proofs.Numbers31.{Goods, and_good, best-good, row_good}

right_snoc : (p : Planner) (r : Float) (cs : List Standing) (c : Standing) → right_of p r (cs ++ (c ∷ [])) ≡ larger (right_of p r cs)
    (c.x ⊕ (shape_of p c.copy.kind c.orientation).bounds.right)
unfolding right_of
right_snoc p r [] c = refl
right_snoc p r (d ∷ cs) c = right_snoc p (larger r (d.x ⊕ (shape_of p d.copy.kind d.orientation).bounds.right)) cs c

right-after : (p : Planner) (n : ℕ) (r : Float) (cs : List Standing) → right_of p r (map (standing_after n) cs) ≡ right_of p r cs
unfolding right_of standing_after copy_after
right-after p n r [] = refl
right-after p n r (c ∷ cs) = right-after p n (larger r (c.x ⊕ (shape_of p c.copy.kind c.orientation).bounds.right)) cs

abbrev Found : Job → State → Type 0
Found j s = s.layout.right ≡ right_of (planner_of j) (planner_of j).bounds.left (standing_of s)

record With (j : Job) (s : State) (w : Rooms) (q : Plain) : Type 0 where
  kept : Kept j s w q
  right : Found j s

module _ (j : Job) (z : Sized j) (s : State) (w : Rooms) (q : Plain) (h : With j s w q) where
  abbrev P : Planner
  P = planner_of j

  abbrev St : List Float
  St = standing_strips (planner_of j) (standing_of s)

  right_now : (k : ℕ) (ks : List ℕ) (n : Steps.Nexts j s k ks) (cs : List Choice) → Goods P k cs → Found j (state_after P k (TracksNow j s k) s St cs)
  right_now k ks n [] g = same ∙ h.right ∙ ap (right_of P P.bounds.left) (sym
      (Steps.after-none-stands j z s w h.kept.linked k ks n (TracksNow j s k) (Steps.tracks_length j s w h.kept.linked k)))
    where
      same : (state_after P k (TracksNow j s k) s St []).layout.right ≡ s.layout.right
      same = unfold state_after in (unfold state_with in (unfold layout_after in (unfold entered in refl)))
  right_now k ks n (c ∷ cs) (and_good G Gs) =
      let d = best c cs in
      let new = standing_at (record { place = s.taken; kind = k }) d in
      larger_of ∙ ap (larger s.layout.right) (best-good P k Gs c G).right_is ∙ ap
      (λ (r : Float). larger r (d.x ⊕ (shape_of P k d.orientation).bounds.right)) h.right
      ∙ sym last ∙ ap (right_of P P.bounds.left) (sym (Steps.after-one-stands j z s w h.kept.linked k ks n (TracksNow j s k)
      (Steps.tracks_length j s w h.kept.linked k) c cs))
    where
      larger_of : (state_after P k (TracksNow j s k) s St (c ∷ cs)).layout.right ≡ larger s.layout.right (best c cs).right
      larger_of = unfold state_after in (unfold state_with in (unfold layout_after in (unfold entered in refl)))

      last : right_of P P.bounds.left (standing_of s ++ (standing_at (record { place = s.taken; kind = k }) (best c cs) ∷ [])) ≡ larger
          (right_of P P.bounds.left (standing_of s)) ((best c cs).x ⊕ (shape_of P k (best c cs).orientation).bounds.right)
      last = unfold standing_at in right_snoc P P.bounds.left (standing_of s) (standing_at (record { place = s.taken; kind = k }) (best c cs))

  took-with : (r : Step) → Took j s w r → With j r.state r.rooms (plain_take P q q.to_come_lem)
  took-with r t =
      record {
        kept = took_keeps j z s w q h.kept r t;
        right = rw t.state_is (right_now t.kind t.rest t.order_is (ChoicesNow j s t.kind)
            (row_good P t.kind St (get_or (tracks_of j s) t.kind [])));
      }

  back-with : (n : ℕ) (r : Reply) → Went j s w n r → With j r.state r.rooms (plain_back P n q)
  back-with n r t = record {
    kept = back-kept j z s w q h.kept n r t;
    right = rw t.state_is
        (anew ∙ sym (right-after P n P.bounds.left (others n (standing_of s))) ∙ ap (right_of P P.bounds.left)
        (sym (Withdrawn.gone_standing j z s w h.kept.linked n r t)));
  }
    where
      anew : (state_without j P s n t.copy (Left j s n)).layout.right ≡ right_of P P.bounds.left (others n (standing_of s))
      anew = unfold state_without in (unfold layout_without in refl)

-- "Right is the largest winning x + b2, from s0", "found anew from the standing copies"
pub right-found : (bytes order : List ℕ) (l : Lent) (j : Job) → read_job bytes ≡ accepted j → (start_of bytes order l).verdict ≡ Ok tt → (calls : List Call)
    → let s = (after_calls bytes calls (start_of bytes order l).state (start_of bytes order l).lent.rooms).state in s.layout.right ≡ right_of (planner_of j)
    (planner_of j).bounds.left (standing_of s)
right-found bytes order l j e v calls =
    let z = sized bytes j e in
    let b = start-accepted bytes order l j e v in
    let a : With j (start_of bytes order l).state (start_of bytes order l).lent.rooms (plain_start (planner_of j) order) = rw (b.state_is, b.rooms_is)
    (record { kept = first-kept j z order l b.verdict_is; right = first }) in
    (calls_keep j (With j) (λ s w q k. k.kept.linked) (took-with j z) (back-with j z) bytes e calls (start_of bytes order l).state
    (start_of bytes order l).lent.rooms (plain_start (planner_of j) order) a).right
  where
    first : Found j (first_state (planner_of j) order)
    first = unfold standing_of in (unfold standing_to in (unfold first_state in (unfold empty_layout in (unfold right_of in refl))))
