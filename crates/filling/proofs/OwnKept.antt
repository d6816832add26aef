-- A copy taken, and a copy taken back, leaves an own state. Assumes nothing.
use Rattle.std.specs.Prelude.{Ok}
use mathlib.Core.Path.{◌≡◌, refl, sym, ap, subst, ◌∙◌}
use mathlib.Core.Bool.{Bool, true, false, not, ◌&&◌}
use mathlib.Core.List.{List, [], ◌∷◌, ◌++◌, map}
use Prim.Native.Nat.{ℕ, ◌+◌, ◌*◌, ◌≤◌, ◌<◌}
use native.Mathlib.Omega.{arith}
use lib.ListN.{length, get_or, take, drop, length-append, length-take, length-drop}
use lib.Dec.{leb, eqb, ltb, nltb→le}
use lib.Ieee.{Float}
use borrow.Author.Tests.{le-leb, lt-ltb}
use Rattle.numbers.specs.Numbers.{◌⊕◌, pos_zero}
use Rattle.trapezoid.specs.Strip.{capacity}
use Rattle.index.specs.Buckets.{standing_capacity}
use Rattle.slabs.proofs.Merging.{All}
use Rattle.job.specs.Jobs.{Job}
use Rattle.filling.specs.declared.State.{State}
use Rattle.filling.specs.declared.Refusal.TheVariants as Why
use Rattle.filling.specs.Shapes.{Planner, planner_of, shape_of, others, copy_strips, standing_strips}
use Rattle.filling.specs.Search.{Track, search_all}
use Rattle.filling.specs.Choice.{Choice, best, standing_at}
use Rattle.filling.specs.Plain.{Plain, plain_take, plain_back, standing_after}
use Rattle.filling.specs.Rooms.{Rooms, laid, zeros}
use Rattle.filling.specs.Order.{rearranged}
use Rattle.filling.specs.State.{orientation_counts, planner_at, order_of, standing_to, standing_of, without_of, tracks_of}
use Rattle.filling.specs.Consistent.{every, bounded, orientation_fits, position_fits, strips_fit, strip_counts_fit, parts_fit, gap_fits, gaps_fit, numbers_lie}
use Rattle.filling.specs.Consistent.{entries_for, placed_strips_of, firsts_for, firsts_fit}
use Rattle.filling.specs.NextCopy.{new_strips, store_verdict, winner_verdict, state_with, state_after, stored, rooms_after, Step}
use Rattle.filling.specs.Withdraw.{strips_left, strips_without, layout_without, state_without, rooms_without, Reply}
use Rattle.filling.proofs.Reading.{Sixfold, sixfold_append, laid-capacity, length-zeros}
use Rattle.filling.proofs.Sizes.{Sized}
use Rattle.filling.proofs.Steps as Steps
use Rattle.filling.proofs.Steps.{Took, later_accepted}
use Rattle.filling.proofs.FirstBuckets.{numbers-laid}
use Rattle.filling.proofs.FirstsKept.{after_firsts, back_firsts, placed-count}
use Rattle.filling.proofs.Demand3.{took_keeps, back-kept}
use Rattle.filling.proofs.AtPlace.{strips-after}
use Rattle.filling.proofs.Withdrawn as Withdrawn
use Rattle.filling.proofs.Withdrawn.{Went, Left}
use Rattle.filling.proofs.Reordered.{reordered}
use Rattle.filling.proofs.Stood.{strips_stay, others_pass, every-kept, Stands, Reaches, stands_same, reaches_same, right-bounded, summed-after}
use Rattle.filling.proofs.Stood.{choices-under, best_all}
use Rattle.filling.proofs.Numbers31.{WithinBounds, Fine, summed, every_append, left-bounded, gaps_of, Goods, and_good, best-good, row_good, fine-none}
use Rattle.filling.proofs.Numbers31.{fine-placed}
use Rattle.filling.proofs.OwnStates.{Own}

-- ---- a copy taken

counts_more : (a b : Bool) (n r m l : ℕ) → a && (b && leb n r) ≡ true → m ≤ l → a && (b && leb m l) ≡ true
counts_more true true n r m l u v = le-leb m l v
counts_more true false n r m l u v = u
counts_more false b n r m l u v = u

zeros-capacity : (room : List Float) (firsts : List ℕ) → standing_capacity (zeros pos_zero room) (zeros 0 firsts) ≡ standing_capacity room firsts
unfolding standing_capacity capacity
zeros-capacity room firsts = rw (length-zeros pos_zero room, length-zeros {A = ℕ} 0 firsts)

module _ (j : Job) (z : Sized j) (b : WithinBounds (planner_of j)) (order : List ℕ) (s : State) (w : Rooms) (q : Plain) (h : Own j order s w q) where
  abbrev P : Planner
  P = planner_of j

  abbrev St : List Float
  St = standing_strips (planner_of j) (standing_of s)

  bounds_are : P.bounds ≡ s.tables.sheet_bounds
  unfolding planner_at
  bounds_are = sym (ap (λ p. p.bounds) h.kept.linked.plan)

  module _ (k : ℕ) (ks : List ℕ) (e : Steps.Nexts j s k ks) where
    abbrev Ts : List Track
    Ts = Steps.TracksNow j s k

    abbrev Now : List Choice → State
    Now cs = state_after P k Ts s St cs

    lts : length Ts ≡ get_or (orientation_counts j) k 0
    lts = Steps.tracks_length j s w h.kept.linked k

    fine_now : (cs : List Choice) → Goods P k cs → Fine j (Now cs)
    fine_now [] g = fine-none j b s h.fine k Ts (Steps.after-none-stands j z s w h.kept.linked k ks e Ts lts)
        (Steps.after-one-misses j z s w h.kept.linked k ks e Ts lts)
    fine_now (c ∷ cs) g = fine-placed j b s h.fine k Ts c cs g (Steps.after-one-stands j z s w h.kept.linked k ks e Ts lts c cs)
        (Steps.after-none-misses j z s w h.kept.linked k ks e Ts lts c cs)

    order_now : (cs : List Choice) → order_of j (Now cs) ≡ order
    unfolding state_after state_with order_of
    order_now [] = h.order_kept
    order_now (c ∷ cs) = h.order_kept

    few_now : (cs : List Choice) → (Now cs).taken ≤ j.copies
    few_now cs = let a = Steps.in_job j z s w h.kept.linked k ks e in rw (Steps.after-taken j s k Ts cs) a

    parts_now : (cs : List Choice) → parts_fit j (Now cs).tables (rooms_after P k w St cs) ≡ true
    unfolding state_after state_with rooms_after stored parts_fit
    parts_now [] = h.parts
    parts_now (c ∷ cs) = h.parts

    sheet_now : (cs : List Choice) → numbers_lie (entries_for P.bounds P.sheet) (rooms_after P k w St cs).sheet_entries ≡ true
    unfolding rooms_after stored
    sheet_now [] = h.sheet_entries
    sheet_now (c ∷ cs) = h.sheet_entries

    placed_now : (cs : List Choice) → numbers_lie (entries_for P.bounds (standing_strips P (standing_of (Now cs)))) (rooms_after P k w St cs).placed_entries ≡
        true
    unfolding rooms_after stored
    placed_now [] = ap (λ c. numbers_lie (entries_for P.bounds (standing_strips P c)) w.placed_entries)
        (Steps.after-none-stands j z s w h.kept.linked k ks e Ts lts) ∙ h.placed_entries
    placed_now (c ∷ cs) =
        let now = St ++ new_strips P k (best c cs) in
        let a : standing_strips P (standing_of (Now (c ∷ cs))) ≡ now = ap (standing_strips P) (Steps.after-one-stands j z s w h.kept.linked k ks e Ts lts c cs)
        ∙ Steps.standing_more P (standing_of s) (record { place = s.taken; kind = k }) (best c cs) in
        ap (λ st. numbers_lie (entries_for P.bounds st) (laid (entries_for P.bounds now) w.placed_entries)) a ∙ numbers-laid (entries_for P.bounds now)
        w.placed_entries

    firsts_now : (cs : List Choice) → firsts_fit (Now cs) (rooms_after P k w St cs) ≡ true
    firsts_now cs = after_firsts P k Ts s w St cs bounds_are (Steps.standing_sixfold P (standing_of s)) h.firsts

    new-stands : (d : Choice) → d.orientation < get_or (orientation_counts j) k 0 → (bounded d.x ≡ true) × (bounded d.y ≡ true)
        → every (Stands j) (standing_at (record { place = s.taken; kind = k }) d ∷ []) ≡ true
    unfolding every standing_at orientation_fits position_fits
    new-stands d o y = rw (lt-ltb d.orientation (get_or (orientation_counts j) k 0) o, y.0, y.1)

    stands_now : (cs : List Choice) → Goods P k cs → All (λ (c : Choice). c.orientation < get_or (orientation_counts j) k 0) cs → every (Stands j)
        (standing_of (Now cs)) ≡ true
    stands_now [] g u = ap (every (Stands j)) (Steps.after-none-stands j z s w h.kept.linked k ks e Ts lts) ∙ h.stands
    stands_now (c ∷ cs) (and_good g gs) u =
        let d = best c cs in
        let o = best_all (λ (c : Choice). c.orientation < get_or (orientation_counts j) k 0) c cs u.0 u.1 in
        ap (every (Stands j)) (Steps.after-one-stands j z s w h.kept.linked k ks e Ts lts c cs)
        ∙ every_append (Stands j) (standing_of s) (standing_at (record { place = s.taken; kind = k }) d ∷ []) h.stands
        (new-stands d o (b.position k d.orientation d.x d.y d.gap (best-good P k gs c g).place))

    new_reaches : (d : Choice) → bounded (d.x ⊕ (shape_of P k d.orientation).bounds.right) ≡ true
        → every (Reaches P) (standing_at (record { place = s.taken; kind = k }) d ∷ []) ≡ true
    unfolding every standing_at
    new_reaches d r = rw r

    reaches_now : (cs : List Choice) → Goods P k cs → every (Reaches P) (standing_of (Now cs)) ≡ true
    reaches_now [] g = ap (every (Reaches P)) (Steps.after-none-stands j z s w h.kept.linked k ks e Ts lts) ∙ h.reaches
    reaches_now (c ∷ cs) (and_good g gs) =
        let d = best c cs in
        ap (every (Reaches P)) (Steps.after-one-stands j z s w h.kept.linked k ks e Ts lts c cs)
        ∙ every_append (Reaches P) (standing_of s) (standing_at (record { place = s.taken; kind = k }) d ∷ []) h.reaches
        (new_reaches d (b.right k d.orientation d.x d.y d.gap (best-good P k gs c g).place))

    under_now : All (λ (c : Choice). c.orientation < get_or (orientation_counts j) k 0) (Steps.ChoicesNow j s k)
    under_now =
        let ss = get_or P.shapes k [] in
        choices-under P (get_or (orientation_counts j) k 0) 0 ss (search_all P St ss (get_or (tracks_of j s) k []))
        (let a = Steps.rows_of_shapes j s w h.kept.linked k in omega arith)

    counts_now : (cs : List Choice) → winner_verdict P w k St cs ≡ Ok tt → strip_counts_fit (Now cs).tables (Now cs).placed_strips (rooms_after P k w St cs)
        ≡ true
    unfolding state_after state_with rooms_after stored winner_verdict store_verdict strip_counts_fit
    counts_now [] v = h.counts
    counts_now (c ∷ cs) v =
        let now = St ++ new_strips P k (best c cs) in
        let room = standing_capacity w.placed w.placed_firsts in
        let later = standing_capacity (laid now w.placed) (laid (firsts_for P.bounds now) w.placed_firsts) in
        let l : ltb room (capacity now) ≡ false = (later_accepted (ltb room (capacity now)) Why.StripRoom _ v).0 in
        let m : capacity now ≤ room = nltb→le room (capacity now) (rw l tt) in
        let six : Sixfold now = sixfold_append St (new_strips P k (best c cs)) (Steps.standing_sixfold P (standing_of s)) (Steps.new_sixfold P k (best c cs)) in
        let n : capacity now ≤ later = subst (λ (i : ℕ). capacity now ≤ i) (sym (laid-capacity P.bounds now w.placed w.placed_firsts six m)) m in
        counts_more (leb s.tables.sheet_strips (standing_capacity w.sheet w.sheet_firsts)) (leb s.tables.apart_strips (capacity w.shapes))
        s.placed_strips room (capacity now) later h.counts n

  pub own_took : (r : Step) → Took j s w r → Own j order r.state r.rooms (plain_take P q q.to_come_lem)
  own_took r t =
      let k = t.kind in
      let cs = Steps.ChoicesNow j s k in
      let a = took_keeps j z s w q h.kept r t in
      rw (t.state_is, t.rooms_is)
      (record {
        kept = rw (t.state_is, t.rooms_is) at a;
        fine = fine_now k t.rest t.order_is cs (row_good P k St (get_or (tracks_of j s) k []));
        order_kept = order_now k t.rest t.order_is cs;
        few = few_now k t.rest t.order_is cs;
        counts = counts_now k t.rest t.order_is cs t.fits;
        parts = parts_now k t.rest t.order_is cs;
        sheet_entries = sheet_now k t.rest t.order_is cs;
        placed_entries = placed_now k t.rest t.order_is cs;
        firsts = firsts_now k t.rest t.order_is cs;
        stands = stands_now k t.rest t.order_is cs (row_good P k St (get_or (tracks_of j s) k [])) (under_now k t.rest t.order_is);
        reaches = reaches_now k t.rest t.order_is cs (row_good P k St (get_or (tracks_of j s) k []));
      })

  -- ---- a copy taken back

  module _ (n : ℕ) (r : Reply) (t : Went j s w n r) where
    abbrev G : State
    G = Withdrawn.Gone j z s w h.kept.linked n r t

    abbrev Vs : Rooms
    Vs = Withdrawn.Cleared j z s w h.kept.linked n r t

    left_sixfold : Sixfold (Left j s n)
    left_sixfold = Steps.standing_sixfold P (others n (standing_of s))

    standing : standing_of G ≡ map (standing_after n) (others n (standing_of s))
    standing = Withdrawn.gone_standing j z s w h.kept.linked n r t

    strips_are : standing_strips P (standing_of G) ≡ Left j s n
    strips_are = ap (standing_strips P) standing ∙ strips-after P n (others n (standing_of s))

    strips_gone : strips_fit (standing_strips P (standing_of G)) ≡ true
    unfolding others
    strips_gone = ap strips_fit strips_are ∙ strips_stay P (λ c. not (eqb c.copy.place n)) (standing_of s) h.fine.strips

    right_gone : bounded G.layout.right ≡ true
    unfolding state_without layout_without others
    right_gone =
        right-bounded P P.bounds.left (others n (standing_of s)) (left-bounded P b.own)
        (every-kept (Reaches P) (λ c. not (eqb c.copy.place n)) (standing_of s) h.reaches)

    gaps_gone : gaps_fit G ≡ true
    unfolding standing_after
    gaps_gone =
        gaps_of G (map (standing_after n) (others n (standing_of s))) standing
        ∙ others_pass (λ c. gap_fits c.gap) n (λ c. refl) (standing_of s) (sym (gaps_of s (standing_of s) refl) ∙ h.fine.gaps)

    area-kept : G.layout.unplaced_area ≡ s.layout.unplaced_area
    unfolding state_without layout_without
    area-kept = refl

    area_gone : G.layout.unplaced_area ≡ summed P pos_zero (without_of G)
    area_gone =
        area-kept ∙ h.fine.area ∙ sym (summed-after P n pos_zero (without_of s))
        ∙ ap (summed P pos_zero) (sym (Withdrawn.gone_without j z s w h.kept.linked n r t))

    few_gone : G.taken ≤ j.copies
    unfolding state_without
    few_gone = let a = h.few in omega arith

    fewer : capacity (Left j s n) ≤ s.placed_strips
    unfolding capacity placed_strips_of strips_without strips_left
    fewer =
        let a = capacity (standing_strips P (standing_to s n)) in
        let m = capacity (copy_strips P t.copy) in
        let l = placed_strips_of s w in
        let e : length (take (6 * a) l ++ drop (6 * (a + m)) l) ≡ length (Left j s n) = ap length
        (Withdrawn.left_is j s w h.kept.linked n t.under t.copy t.copy_is) in
        let c = length-append (take (6 * a) l) (drop (6 * (a + m)) l) in
        let d = length-take (6 * a) l in
        let f = length-drop (6 * (a + m)) l in
        let i = length-take (6 * s.placed_strips) w.placed in
        omega arith

    room_for : capacity (Left j s n)
        ≤ standing_capacity (laid (Left j s n) (zeros pos_zero w.placed)) (laid (firsts_for P.bounds (Left j s n)) (zeros 0 w.placed_firsts))
    room_for =
        let a = fewer in
        let c = placed-count j s w t.fits in
        let d = zeros-capacity w.placed w.placed_firsts in
        let e = laid-capacity P.bounds (Left j s n) (zeros pos_zero w.placed) (zeros 0 w.placed_firsts) left_sixfold (omega arith) in
        omega arith

    counts_gone : strip_counts_fit G.tables G.placed_strips Vs ≡ true
    unfolding state_without rooms_without strip_counts_fit
    counts_gone =
        counts_more (leb s.tables.sheet_strips (standing_capacity w.sheet w.sheet_firsts)) (leb s.tables.apart_strips (capacity w.shapes))
        s.placed_strips (standing_capacity w.placed w.placed_firsts) (capacity (Left j s n))
        (standing_capacity (laid (Left j s n) (zeros pos_zero w.placed)) (laid (firsts_for P.bounds (Left j s n)) (zeros 0 w.placed_firsts))) h.counts
        room_for

    parts_gone : parts_fit j G.tables Vs ≡ true
    unfolding state_without rooms_without parts_fit
    parts_gone = h.parts

    sheet_gone : numbers_lie (entries_for P.bounds P.sheet) Vs.sheet_entries ≡ true
    unfolding rooms_without
    sheet_gone = h.sheet_entries

    placed_gone : numbers_lie (entries_for P.bounds (standing_strips P (standing_of G))) Vs.placed_entries ≡ true
    unfolding rooms_without
    placed_gone =
        let es = entries_for P.bounds (Left j s n) in
        ap (λ st. numbers_lie (entries_for P.bounds st) (laid es (zeros 0 w.placed_entries))) strips_are ∙ numbers-laid es (zeros 0 w.placed_entries)

    firsts_gone : firsts_fit G Vs ≡ true
    firsts_gone = back_firsts j P s w n t.copy (Left j s n) bounds_are left_sixfold h.firsts

    pub own_back : Own j (order_of j r.state) r.state r.rooms (plain_back P n q)
    own_back =
        let a = back-kept j z s w q h.kept n r t in
        rw (t.state_is, t.rooms_is)
        (record {
          kept = rw (t.state_is, t.rooms_is) at a;
          fine = record { strips = strips_gone; right = right_gone; gaps = gaps_gone; area = area_gone };
          order_kept = refl;
          few = few_gone;
          counts = counts_gone;
          parts = parts_gone;
          sheet_entries = sheet_gone;
          placed_entries = placed_gone;
          firsts = firsts_gone;
          stands = ap (every (Stands j)) standing ∙ others_pass (Stands j) n (stands_same j n) (standing_of s) h.stands;
          reaches = ap (every (Reaches P)) standing ∙ others_pass (Reaches P) n (reaches_same P n) (standing_of s) h.reaches;
        })

    -- its order is still a rearrangement of the job's copies
    pub back-rearranged : rearranged j (order_of j r.state) ≡ true
    unfolding order_of state_without
    back-rearranged =
        let f = Withdrawn.taken-few j s w t.fits in
        let u = t.under in
        rw t.state_is
        (rw (← t.kind_is) (reordered n j.copies s.order (omega arith) (Withdrawn.order-long j s w t.fits) j (Withdrawn.order-whole j s w t.fits)))
