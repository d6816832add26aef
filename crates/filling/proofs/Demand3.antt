-- Demand 3: after an accepted start and every list of next copies and withdrawals, and after every filling that is not refused, the copies stand where the
-- plain planner has them, those without a place are its own, and each look count is that of its searches. Assumes nothing.
use Rattle.std.specs.Prelude.{Ok}
use mathlib.Core.Path.{◌≡◌, refl, sym, ap, ap₂, subst, subst₂, ◌∙◌}
use mathlib.Core.Bool.{false}
use mathlib.Core.List.{List, [], ◌∷◌, ◌++◌, map}
use Prim.Native.Nat.{ℕ, suc, ◌+◌, ◌-◌, ◌≤◌}
use native.Mathlib.Omega.{arith}
use lib.ListN.{length, get_or, set, replicate}
use lib.Ieee.{Float}
use Rattle.job.specs.Jobs.{Job, accepted, read_job}
use Rattle.filling.specs.declared.State.{State}
use Rattle.filling.specs.Shapes.{Planner, planner_of, Shape, Copy, Standing, copies_from, named, others, standing_strips}
use Rattle.filling.specs.Search.{Found, Track}
use Rattle.filling.specs.Choice.{Choice, choices, best, standing_at}
use Rattle.filling.specs.Plain.{Plain, take_next, no_searches, plain_back, last_place, copy_after, standing_after, plain_start, plain_search, plain_searched_all}
use Rattle.filling.specs.Plain.{plain_settled, plain_place, plain_take, plain_planner, finds}
use Rattle.filling.specs.Rooms.{Rooms, Lent}
use Rattle.filling.specs.State.{orientation_counts, standing_of, without_of, tracks_of}
use Rattle.filling.specs.Start.{start_verdict, first_state, first_rooms, start_of}
use Rattle.filling.specs.NextCopy.{new_strips, state_after, Step}
use Rattle.filling.specs.Accounts.{look_counts_of}
use Rattle.filling.specs.Fill.{fill_order, fill_given, fill_of}
use Rattle.filling.specs.Reports.{Reports}
use Rattle.filling.specs.Withdraw.{Reply, state_without}
use Rattle.filling.specs.Calls.{Call, request_of, after_calls, refusals, state_outcome, plain_outcome, plain_after}
use Rattle.filling.proofs.FirstFree.{Grows, grows_append}
use Rattle.filling.proofs.Reading.{to_come}
use Rattle.filling.proofs.Sizes.{Sized, sized}
use Rattle.filling.proofs.Rows.{Relation, Row, Table, table-map, table_get, table-set, fresh_table, same-found, row_searched, table-counts}
use Rattle.filling.proofs.Steps as Steps
use Rattle.filling.proofs.Steps.{Linked, Took, standing_more, standing_sixfold}
use Rattle.filling.proofs.Withdrawn as Withdrawn
use Rattle.filling.proofs.Withdrawn.{Went}
use Rattle.filling.proofs.Runs.{calls_keep, fill_keeps, fill_reports}
use Rattle.filling.proofs.Begin.{tracks_read, first_linked, first_to_come, first-standing, first-without, rearranged-length, begun, start-accepted}
use Rattle.filling.proofs.Searches.{Fit, fresh, same-search, fit-searched, finds_more, expects, grown}

-- ---- the state and the plain planner's

-- after n copies: the track fits the searches, and there were at most n finds
abbrev pub Tracked : Planner → List Float → ℕ → Relation
Tracked p st n s t fs = Fit p st s t fs × (finds fs ≤ n)

pub record Paired (j : Job) (s : State) (q : Plain) : Type 0 where
  pub to_come_lem : to_come j s ≡ q.to_come_lem
  pub stand : standing_of s ≡ q.standing
  pub left_out : without_of s ≡ q.without
  pub table : Table (Tracked (planner_of j) (standing_strips (planner_of j) (standing_of s)) s.taken) (planner_of j).shapes (tracks_of j s) q.searches

module _ (j : Job) (z : Sized j) (s : State) (w : Rooms) (h : Linked j s w) (q : Plain) (a : Paired j s q) (k : ℕ) (ks : List ℕ)
    (e : Steps.Nexts j s k ks) where
  abbrev P : Planner
  P = planner_of j

  abbrev St : List Float
  St = standing_strips (planner_of j) (standing_of s)

  abbrev N : Copy
  N = record { place = s.taken; kind = k }

  abbrev Ss : List Shape
  Ss = get_or (planner_of j).shapes k []

  abbrev Fss : List (List Found)
  Fss = get_or q.searches k []

  abbrev Ts : List Track
  Ts = Steps.TracksNow j s k

  abbrev Searches : List (List (List Found))
  Searches = set q.searches k (plain_searched_all (planner_of j) St Ss Fss)

  row : Row (Tracked P St s.taken) Ss (get_or (tracks_of j s) k []) Fss
  row = table_get (Tracked P St s.taken) a.table k

  more_finds : (n m : ℕ) (s : Shape) (t : Track) (fs : List Found) → n ≤ m → Tracked P St n s t fs → Tracked P St m s t fs
  more_finds n m s t fs l f = let g = f.1 in (f.0, omega arith)

  table_now : Table (Tracked P St (suc s.taken)) P.shapes (set (tracks_of j s) k Ts) Searches
  table_now =
      table-set (Tracked P St (suc s.taken)) (table-map (Tracked P St s.taken) (Tracked P St (suc s.taken))
      (λ s' t fs f. more_finds s.taken (suc s.taken) s' t fs (omega arith) f) a.table) k Ts (plain_searched_all P St Ss Fss)
      (row_searched P St (Tracked P St s.taken) (Tracked P St (suc s.taken))
      (λ s' t fs f. (fit-searched P St s' t fs f.0, (let g = f.1 in let m = finds_more P St s' fs in omega arith))) row)

  lts : length Ts ≡ get_or (orientation_counts j) k 0
  lts = Steps.tracks_length j s w h k

  -- as the plain planner settles the same choices
  settled : (cs : List Choice) → Paired j (state_after P k Ts s St cs) (plain_settled N (copies_from (suc s.taken) ks) Searches q cs)
  unfolding plain_settled
  settled [] =
      record {
        to_come_lem = Steps.after_to_come j z s w h k ks e Ts lts [];
        stand = Steps.after-none-stands j z s w h k ks e Ts lts ∙ a.stand;
        left_out = Steps.after-one-misses j z s w h k ks e Ts lts ∙ ap (λ l. l ++ (N ∷ [])) a.left_out;
        table = rw (Steps.after_tracks j z s w h k ks e Ts lts [], Steps.after-none-stands j z s w h k ks e Ts lts, Steps.after-taken j s k Ts []) table_now;
      }
  settled (c ∷ cs) =
      let new = standing_at N (best c cs) in
      let g : Grows St (standing_strips P (standing_of s ++ (new ∷ []))) = rw (standing_more P (standing_of s) N (best c cs))
      (grows_append St (new_strips P k (best c cs)) (standing_sixfold P (standing_of s))) in
      record {
        to_come_lem = Steps.after_to_come j z s w h k ks e Ts lts (c ∷ cs);
        stand = Steps.after-one-stands j z s w h k ks e Ts lts c cs ∙ ap (λ l. l ++ (new ∷ [])) a.stand;
        left_out = Steps.after-none-misses j z s w h k ks e Ts lts c cs ∙ a.left_out;
        table =
            rw (Steps.after_tracks j z s w h k ks e Ts lts (c ∷ cs), Steps.after-one-stands j z s w h k ks e Ts lts c cs, Steps.after-taken j s k Ts (c ∷ cs))
            (table-map (Tracked P St (suc s.taken)) (Tracked P (standing_strips P (standing_of s ++ (new ∷ []))) (suc s.taken))
            (λ s' t fs f. (grown P St (standing_strips P (standing_of s ++ (new ∷ []))) s' g t fs f.0, f.1)) table_now);
      }

  -- the choices are the plain planner's
  same-choices : Steps.ChoicesNow j s k ≡ choices P 0 Ss (map (plain_search P St) Ss)
  same-choices = ap (choices P 0 Ss) (same-found P St (Tracked P St s.taken) (Tracked P St s.taken) (λ s' t fs f. same-search P St s' t fs f.0) row)

  paired_now : Paired j (state_after P k Ts s St (Steps.ChoicesNow j s k)) (plain_take P q q.to_come_lem)
  unfolding plain_take plain_place
  paired_now =
      let t : q.to_come_lem ≡ N ∷ copies_from (suc s.taken) ks = sym a.to_come_lem ∙ Steps.to_come_is j z s w h k ks e in
      let u : St ≡ standing_strips P q.standing = ap (standing_strips P) a.stand in
      let cs = Steps.ChoicesNow j s k in
      subst (λ (l : List Copy). Paired j (state_after P k Ts s St cs) (plain_take P q l)) (sym t)
      (subst₂ (λ (σ : List Float) (ds : List Choice). Paired j (state_after P k Ts s St cs)
      (plain_settled N (copies_from (suc s.taken) ks) (set q.searches k (plain_searched_all P σ Ss Fss)) q ds))
      u
      (same-choices ∙ ap (λ σ. choices P 0 Ss (map (plain_search P σ) Ss)) u)
      (settled cs))

-- ---- a copy taken

pub record Kept (j : Job) (s : State) (w : Rooms) (q : Plain) : Type 0 where
  pub linked : Linked j s w
  pub paired : Paired j s q

pub took_keeps : (j : Job) → Sized j → (s : State) (w : Rooms) (q : Plain) → Kept j s w q → (r : Step) → Took j s w r → Kept j r.state r.rooms
    (plain_take (planner_of j) q q.to_come_lem)
took_keeps j z s w q a r t =
    rw (t.state_is, t.rooms_is)
    (record {
      linked = Steps.after_linked j z s w a.linked t.kind t.rest t.order_is (Steps.TracksNow j s t.kind)
          (Steps.tracks_length j s w a.linked t.kind) (Steps.ChoicesNow j s t.kind);
      paired = paired_now j z s w a.linked q a.paired t.kind t.rest t.order_is;
    })

-- ---- a copy taken back: nothing is remembered, so nothing that is remembered can be wrong

module _ (j : Job) (z : Sized j) (s : State) (w : Rooms) (q : Plain) (a : Kept j s w q) (n : ℕ) (r : Reply) (t : Went j s w n r) where
  abbrev Emptied : State
  Emptied = Withdrawn.Gone j z s w a.linked n r t

  tracks_fresh : (order : List ℕ) → tracks_of j Emptied ≡ tracks_of j (first_state (planner_of j) order)
  unfolding tracks_of state_without first_state
  tracks_fresh order = refl

  back_paired : Paired j Emptied (plain_back (planner_of j) n q)
  unfolding plain_back no_searches last_place finds
  back_paired =
      let p = planner_of j in
      let c = a.paired in
      let named_is : named n q.standing ≡ t.copy ∷ [] = ap (named n) (sym c.stand) ∙ Withdrawn.gone_named j z s w a.linked n r t in
      let all : length q.to_come_lem + length q.standing + length q.without - 1 ≡ j.copies - 1 =
      ap (λ (l : List Copy). length l + length q.standing + length q.without - 1) (sym c.to_come_lem) ∙ ap
      (λ (l : List Standing). length (to_come j s) + length l + length q.without - 1) (sym c.stand) ∙ ap
      (λ (l : List Copy). length (to_come j s) + length (standing_of s) + length l - 1) (sym c.left_out) ∙ ap (λ (m : ℕ). m - 1)
      (Withdrawn.all_copies j z s w a.linked n r t)
      in
      record {
        to_come_lem =
            Withdrawn.gone_to_come j z s w a.linked n r t
            ∙ ap₂ (λ (l : List Copy) (m : ℕ). map (copy_after n) l ++ (record { place = m; kind = t.copy.copy.kind } ∷ [])) c.to_come_lem (sym all)
            ∙ ap (λ (l : List Standing). map (copy_after n) q.to_come_lem ++ map (λ (d : Standing). record
            { place = length q.to_come_lem + length q.standing + length q.without - 1; kind = d.copy.kind }) l) (sym named_is);
        stand = Withdrawn.gone_standing j z s w a.linked n r t ∙ ap (λ (l : List Standing). map (standing_after n) (others n l)) c.stand;
        left_out = Withdrawn.gone_without j z s w a.linked n r t ∙ ap (map (copy_after n)) c.left_out;
        table = rw (tracks_fresh [], tracks_read j z []) (fresh_table (Tracked p (standing_strips p (standing_of Emptied)) Emptied.taken)
            (λ s'. (fresh refl refl refl, omega arith)) p.shapes);
      }

  pub back-kept : Kept j r.state r.rooms (plain_back (planner_of j) n q)
  back-kept = rw (t.state_is, t.rooms_is) (record { linked = Withdrawn.gone_linked j z s w a.linked n r t; paired = back_paired })

-- ---- the start

pub first-kept : (j : Job) (z : Sized j) (order : List ℕ) (l : Lent) → start_verdict j order l ≡ Ok tt → Kept j (first_state (planner_of j) order)
    (first_rooms (planner_of j) l.rooms) (plain_start (planner_of j) order)
unfolding plain_start no_searches first_state finds
first-kept j z order l v =
    let n = rearranged-length j order (begun j order l v).rearranges in
    let p = planner_of j in
    record {
      linked = first_linked j z order l.rooms;
      paired = record {
        to_come_lem = first_to_come j z order n;
        stand = first-standing j z order n;
        left_out = first-without j z order n;
        table = rw (tracks_read j z order) (fresh_table (Tracked p (standing_strips p (standing_of (first_state p order))) (first_state p order).taken)
            (λ s. (fresh refl refl refl, omega arith)) p.shapes);
      };
    }

-- ---- the claim

outcome_is : (j : Job) (s : State) (q : Plain) → Paired j s q → state_outcome j s ≡ plain_outcome (planner_of j) q
unfolding state_outcome plain_outcome look_counts_of
outcome_is j s q a =
    rw (
      a.stand,
      a.left_out,
      table-counts (planner_of j) (Tracked (planner_of j) (standing_strips (planner_of j) (standing_of s)) s.taken)
          (λ s' t fs f. expects (planner_of j) (standing_strips (planner_of j) (standing_of s)) s' t fs f.0) a.table,
    )

after_calls_lem : (bytes order : List ℕ) (l : Lent) (j : Job) → read_job bytes ≡ accepted j → (start_of bytes order l).verdict ≡ Ok tt → (calls : List Call)
    → let r = after_calls bytes calls (start_of bytes order l).state (start_of bytes order l).lent.rooms in state_outcome j r.state ≡ plain_after j order
    (map request_of calls) (refusals r.verdicts)
unfolding plain_after plain_planner
after_calls_lem bytes order l j e v calls =
    let z = sized bytes j e in
    let b = start-accepted bytes order l j e v in
    let a : Kept j (start_of bytes order l).state (start_of bytes order l).lent.rooms (plain_start (planner_of j) order) = rw (b.state_is, b.rooms_is)
    (first-kept j z order l b.verdict_is) in
    outcome_is j _ _ (calls_keep j (Kept j) (λ s w q k. k.linked) (took_keeps j z) (λ s w q k n r t. back-kept j z s w q k n r t) bytes e calls
    (start_of bytes order l).state (start_of bytes order l).lent.rooms (plain_start (planner_of j) order) a).paired

after-fill : (bytes order : List ℕ) (l : Lent) (j : Job) → read_job bytes ≡ accepted j → (fill_of bytes order l).verdict ≡ Ok tt → Reports j l
    (fill_of bytes order l) (plain_after j order (replicate (length order) take_next) (replicate (length order) false))
unfolding fill_of fill_given fill_order plain_after plain_planner
after-fill bytes order l j e v =
    let z = sized bytes j e in
    let p = planner_of j in
    let o = plain_after j order (replicate (length order) take_next) (replicate (length order) false) in
    rw e (fill_reports j order l o
    (λ u s f. outcome_is j s _ (fill_keeps j (Kept j) (λ s w q k. k.linked) (took_keeps j z) l.intervals (length order) (first_state p order) s
    (first_rooms p l.rooms) (plain_start p order) (first-kept j z order l u) f).1.paired)
    (rw e at v))

-- Demand 3. "After an accepted start of a job in a given order, take every list of next-copy calls, refused ones included, each given the same job,
-- whatever interval room, and the state, strips and entries that the call before returned or left .. After it the copies standing, with orientation,
-- x and y, and those without a place are exactly those of document 01's plain planner .. Each orientation's look count equals its last found column plus
-- its finds, or, once it has found none, its last column plus one plus its finds .. it is 0 for an orientation with a range that document 01 calls
-- reversed, or not yet searched. For one filling in a given order that is not refused, all this holds as after one call for every copy of that order,
-- none refused." Document 02, W4: "Demand 3 then takes lists of both calls .. the look equation speaks of those since."
pub demand-3 : (bytes order : List ℕ) (l : Lent) (j : Job) → read_job bytes ≡ accepted j
    → ((start_of bytes order l).verdict ≡ Ok tt
    → (calls : List Call)
    → let r = after_calls bytes calls (start_of bytes order l).state (start_of bytes order l).lent.rooms in state_outcome j r.state ≡ plain_after j order
    (map request_of calls) (refusals r.verdicts))
    × ((fill_of bytes order l).verdict ≡ Ok tt → Reports j l (fill_of bytes order l)
    (plain_after j order (replicate (length order) take_next) (replicate (length order) false)))
demand-3 bytes order l j e = (after_calls_lem bytes order l j e, after-fill bytes order l j e)
