-- Document 02, W6, layouts from the bureau: what is promised, each claim with its whole statement, and its proof cited. Assumes nothing.
use Rattle.std.specs.Prelude.{Ok, Err}
use Prim.Native.Nat.{ℕ, ◌≤◌, ◌<◌}
use mathlib.Core.Path.{◌≡◌, sym, subst}
use mathlib.Core.Bool.{not, ◌&&◌}
use mathlib.Core.List.{List, map, flat_map}
use lib.ListN.{length, get_or, take}
use Rattle.numbers.specs.Numbers.{pos_zero}
use Rattle.bits.specs.declared.Refusal as Input
use Rattle.job.specs.Jobs.{Job, accepted, refused, read_job, frame_of}
use Rattle.filling.specs.declared.State.{State}
use Rattle.filling.specs.declared.Refusal.{Refusal}
use Rattle.filling.specs.declared.Refusal.TheVariants as Why
use Rattle.filling.specs.Refusals.{is_refused}
use Rattle.filling.specs.Shapes.{planner_of}
use Rattle.filling.specs.Rooms.{Rooms, Lent, laid, zeros}
use Rattle.filling.specs.State.{standing_of}
use Rattle.filling.specs.Start.{prepare_verdict, start_of}
use Rattle.filling.specs.Accounts.{positions, flat_positions}
use Rattle.filling.specs.Fill.{fill_of}
use Rattle.nesting.specs.Nest.{nest_of}
use Rattle.batch.specs.BatchCalls.{Operation, Rest, after_operations, operations_calls}
use Rattle.batch.proofs.Operations as ProvedLists
use Rattle.layouts.specs.declared.PutLine.{PutLine}
use Rattle.layouts.specs.Layouts.{lines_of, line_strips, line_verdict, not_judged, layout_job, layout_given, layout_of}
use Rattle.layouts.specs.Legal.{legal_layout, room_suffices}
use Rattle.layouts.specs.PlanLayout.{layout_numbers}
use Rattle.layouts.proofs.Exact as ProvedExact
use Rattle.layouts.proofs.FirstBad as ProvedLine
use Rattle.layouts.proofs.Made as ProvedMade
use Rattle.claims.specs.LayoutCases.{layout_plates, layout_accepted, layout_refused, layout_rooms, layout_others}
use Rattle.claims.proofs.plan_promises.Replies as ProvedReplies
use Rattle.claims.proofs.OwnPlans as ProvedPlans
use Rattle.claims.proofs.LayoutComputed as ProvedCases

-- "accept it, where room suffices, exactly if no kind is used more often than its quantity, each x lies in its orientation's range or is one of its
-- columns .., each y lies in its range, and no y lies inside a forbidden interval against the sheet or an earlier copy in the list": of any lines
pub layout-exact : (j : Job) (ls : List PutLine) (w : Rooms) → not (is_refused (layout_job j ls w).verdict) ≡ (legal_layout j ls && room_suffices j ls w)
layout-exact j ls w = ProvedExact.exact j w ls

-- and of a list as it is given, for a job that is accepted
pub layout-exact_list : (bytes given : List ℕ) (w : Rooms) (j : Job) → read_job bytes ≡ accepted j
    → not (is_refused (layout_of bytes given w).judgement.verdict) ≡ (legal_layout j (lines_of given) && room_suffices j (lines_of given) w)
layout-exact_list = ProvedExact.exact_of

-- "then at the first bad line": the line is that of the first line that is refused, and that line's own verdict is the answer; the lines before it are
-- accepted; an accepted list has no line left
pub layout-line : (j : Job) (ls : List PutLine) (w : Rooms) → prepare_verdict (planner_of j) w ≡ Ok tt
    → let n = (layout_job j ls w).line in
    (n ≤ length ls)
    × (layout_job j (take n ls) w ≡ record { verdict = Ok tt; line = n })
    × ((layout_job j ls w).verdict ≡ Ok tt → n ≡ length ls)
    × ((r : Refusal) → (layout_job j ls w).verdict ≡ Err r
    → (n < length ls) × ((d : PutLine)
    → line_verdict j (planner_of j) w (map (λ l. l.kind) (take n ls)) (flat_map (line_strips (planner_of j) (frame_of j.header)) (take n ls)) (get_or ls n d)
    ≡ Err r))
layout-line j ls w e = let h = ProvedLine.line_says j ls w e in (h.within, h.before, h.whole, h.bad)

-- "It refuses a job as the plan does": with its number before the first line, as it does where sheet or shapes do not fit their rooms
pub layout-job : (bytes given : List ℕ) (w : Rooms)
    → ((k : Input.Refusal) → read_job bytes ≡ refused k → (layout_of bytes given w).judgement ≡ record { verdict = Err (Why.Job k); line = 0 })
    × ((j : Job) (r : Refusal) → read_job bytes ≡ accepted j → prepare_verdict (planner_of j) w ≡ Err r
    → (layout_of bytes given w).judgement ≡ record { verdict = Err r; line = 0 })
unfolding layout_of layout_given not_judged
layout-job bytes given w = ((λ k e. rw e), λ j r e v. rw e (ProvedExact.job_unprepared j w r v (lines_of given)))

-- "rooms are left as the whole plan leaves them"
pub layout-left : (bytes given : List ℕ) (l : Lent) → (layout_of bytes given l.rooms).rooms ≡ (nest_of bytes l).lent.rooms
unfolding layout_of
layout-left bytes given l = sym (ProvedReplies.nest_rooms bytes l)

-- "Every layout our planner makes is accepted in filling order": after an accepted start and any single calls and batches, the list of the standing copies
-- is accepted in the rooms that the start was lent
pub calls_accepted : (bytes order : List ℕ) (l : Lent) (j : Job) → read_job bytes ≡ accepted j → (start_of bytes order l).verdict ≡ Ok tt
    → (os : List Operation)
    → let cs = standing_of (after_operations bytes os (start_of bytes order l).state (start_of bytes order l).lent.rooms).state in
    (layout_of bytes (layout_numbers j cs) l.rooms).judgement ≡ record { verdict = Ok tt; line = length cs }
calls_accepted bytes order l j e v os =
    let s = (start_of bytes order l).state in
    let w = (start_of bytes order l).lent.rooms in
    subst
    (λ (r : Rest). (layout_of bytes (layout_numbers j (standing_of r.state)) l.rooms).judgement
    ≡ record { verdict = Ok tt; line = length (standing_of r.state) })
    (sym (ProvedLists.operations_calls_lem bytes os s w)) (ProvedMade.calls_accepted bytes j e l order v (operations_calls bytes os s w))

-- the copies of an accepted filling: they are those of its position room
pub fill-accepted : (bytes order : List ℕ) (l : Lent) (j : Job) → read_job bytes ≡ accepted j → (fill_of bytes order l).verdict ≡ Ok tt
    → (s : State)
    × ((fill_of bytes order l).lent.positions ≡ laid (flat_positions (positions j (standing_of s))) (zeros pos_zero l.positions))
    × ((layout_of bytes (layout_numbers j (standing_of s)) l.rooms).judgement ≡ record { verdict = Ok tt; line = length (standing_of s) })
fill-accepted bytes order l j e v =
    let r = ProvedMade.fill-accepted bytes j e l order v in
    (r.0, r.1.positions_are, r.1.list_accepted)

-- and those of an accepted whole plan
pub nest_accepted : (bytes : List ℕ) (l : Lent) (j : Job) → read_job bytes ≡ accepted j → (nest_of bytes l).verdict ≡ Ok tt
    → (s : State)
    × ((nest_of bytes l).lent.positions ≡ laid (flat_positions (positions j (standing_of s))) (zeros pos_zero l.positions))
    × ((layout_of bytes (layout_numbers j (standing_of s)) l.rooms).judgement ≡ record { verdict = Ok tt; line = length (standing_of s) })
nest_accepted bytes l j e v =
    let r = ProvedPlans.nest_accepted bytes j e l v in
    (r.0, r.1.positions_are, r.1.list_accepted)

-- case 4's plates: the plan's own, a minus zero, every refusal of a line, rooms that are short by one
pub layout_cases : (layout_plates.got ≡ layout_plates.want) × (layout_accepted.got ≡ layout_accepted.want)
    × (layout_refused.got ≡ layout_refused.want) × (layout_rooms.got ≡ layout_rooms.want) × (layout_others.got ≡ layout_others.want)
layout_cases =
    (ProvedCases.plates_accepted, ProvedCases.lists_accepted, ProvedCases.lists_refused, ProvedCases.rooms-refused, ProvedCases.others-judged)
