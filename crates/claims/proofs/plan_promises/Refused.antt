-- A whole plan is refused exactly where a line of the tables holds, with the number first met. Assumes nothing.
use Rattle.std.specs.Prelude.{Result, Ok, Err}
use Rattle.filling.specs.declared.Refusal.{Refusal}
use Prim.Native.Nat.{ℕ, zero, suc, ◌%◌}
use mathlib.Core.Path.{◌≡◌, refl, sym, ap, ◌∙◌}
use mathlib.Core.Bool.{Bool, true, false}
use mathlib.Core.List.{List, [], ◌∷◌, ◌++◌}
use lib.ListN.{length, get_or}
use lib.Dec.{leb, ltb}
use Rattle.random.specs.SplitMix64.{next_state, mixed}
use Rattle.job.specs.Jobs.{Job, Answer, accepted, refused, read_job}
use Rattle.filling.specs.declared.Refusal.TheVariants as Why
use Rattle.filling.specs.Refusals.{refuse_if}
use Rattle.filling.specs.Shapes.{planner_of}
use Rattle.filling.specs.Rooms.{Lent, position_capacity}
use Rattle.filling.specs.Fill.{Filling, filled, stopped, fill_order, not_planned, planned_with}
use Rattle.filling.specs.RefusalLines.{first_met, given_lines, position_line, prepare_lines, order_lines}
use Rattle.filling.proofs.Refused.{or_later, met_append, prepare_met, filling_verdict, order_met}
use Rattle.nesting.specs.CopyOrder.{copy_order}
use Rattle.nesting.specs.Rounds.{Kept, Swaps, kept, ended, better_than, swappable, swapped, judged, one_round, rounds, first_kept, swap_search}
use Rattle.nesting.specs.Nest.{nest_verdict, nested, nest_job, nest_given, nest_of}
use Rattle.claims.proofs.plan_promises.Demand1.{nest_stops, nest_runs}
use Rattle.nesting.specs.RefusalLines.{round_lines, rounds_lines, search_lines, nest_lines}

-- what the swap search is refused with
abbrev swaps_verdict : Swaps → Result (Unit {0}) Refusal
swaps_verdict (kept q) = Ok tt
swaps_verdict (ended r) = Err r

none_later : (v : Result (Unit {0}) Refusal) → v ≡ or_later v (Ok tt)
none_later (Ok tt) = refl
none_later (Err k) = refl

judged-verdict : (random : ℕ) (order : List ℕ) (q : Kept) (f : Filling) → swaps_verdict (judged random order q f) ≡ filling_verdict f
unfolding judged
judged-verdict random order q (stopped r) = refl
judged-verdict random order q (filled s) = go (better_than s.layout q.state.layout)
  where
    go : (t : Bool)
        → swaps_verdict (elim t [
          | true ↦ kept (record { random = random; order = order; state = s; improvements = suc q.improvements })
          | false ↦ kept (record { random = random; order = q.order; state = q.state; improvements = q.improvements })
        ]) ≡ Ok tt
    go true = refl
    go false = refl

first-verdict : (j : Job) (order : List ℕ) (f : Filling) → swaps_verdict (first_kept j order f) ≡ filling_verdict f
unfolding first_kept
first-verdict j order (stopped r) = refl
first-verdict j order (filled s) = refl

module _ (j : Job) (l : Lent) where
  round_met : (q : Kept) → swaps_verdict (one_round j l q) ≡ first_met (round_lines j l q)
  unfolding one_round round_lines first_met
  round_met q = go (swappable j.kinds (get_or q.order A 0) (get_or q.order B 0))
    where
      A : ℕ
      A = mixed (next_state q.random) % length q.order

      B : ℕ
      B = mixed (next_state (next_state q.random)) % length q.order

      again : List ℕ
      again = swapped A B q.order

      go : (t : Bool)
          → swaps_verdict (elim t [
            | true ↦ judged (next_state (next_state q.random)) again q (fill_order j l again)
            | false ↦ kept (record { random = next_state (next_state q.random); order = q.order; state = q.state; improvements = q.improvements })
          ]) ≡ first_met (elim t [ true ↦ order_lines j l again | false ↦ [] ])
      go true = judged-verdict (next_state (next_state q.random)) again q (fill_order j l again) ∙ order_met j l again
      go false = refl

  rounds_met : (n : ℕ) (q : Swaps) → swaps_verdict (rounds j l n q) ≡ or_later (swaps_verdict q) (first_met (rounds_lines j l n q))
  unfolding rounds rounds_lines first_met
  rounds_met zero (kept q) = refl
  rounds_met zero (ended r) = refl
  rounds_met (suc n) (ended r) = refl
  rounds_met (suc n) (kept q) =
      rounds_met n (one_round j l q)
      ∙ ap (λ v. or_later v (first_met (rounds_lines j l n (one_round j l q)))) (round_met q)
      ∙ sym (met_append (round_lines j l q) (rounds_lines j l n (one_round j l q)))

  first_met_lem : swaps_verdict (first_kept j (copy_order j) (fill_order j l (copy_order j))) ≡ first_met (order_lines j l (copy_order j))
  first_met_lem = first-verdict j (copy_order j) (fill_order j l (copy_order j)) ∙ order_met j l (copy_order j)

  search_met : swaps_verdict (swap_search j l) ≡ first_met (search_lines j l)
  unfolding swap_search search_lines first_met
  search_met = go (leb 2 (length (copy_order j)))
    where
      Q : Swaps
      Q = first_kept j (copy_order j) (fill_order j l (copy_order j))

      go : (t : Bool) → swaps_verdict (elim t [ true ↦ rounds j l j.header.rounds Q | false ↦ Q ])
          ≡ first_met (order_lines j l (copy_order j) ++ elim t [ true ↦ rounds_lines j l j.header.rounds Q | false ↦ [] ])
      go true =
          rounds_met j.header.rounds Q
          ∙ ap (λ v. or_later v (first_met (rounds_lines j l j.header.rounds Q))) first_met_lem
          ∙ sym (met_append (order_lines j l (copy_order j)) (rounds_lines j l j.header.rounds Q))
      go false = first_met_lem ∙ none_later (first_met (order_lines j l (copy_order j))) ∙ sym (met_append (order_lines j l (copy_order j)) [])

  nested-verdict : (q : Swaps) → (nested j l q).verdict ≡ swaps_verdict q
  unfolding nested planned_with not_planned
  nested-verdict (kept q) = refl
  nested-verdict (ended r) = refl

  before_met : nest_verdict j l ≡ first_met (position_line j l ∷ prepare_lines (planner_of j) l.rooms)
  unfolding nest_verdict first_met position_line
  before_met = ap (refuse_if (ltb (position_capacity l.positions) j.copies) Why.PositionRoom) (prepare_met (planner_of j) l.rooms)

  nest_met : (nest_job j l).verdict ≡ first_met (nest_lines j l)
  unfolding nest_lines not_planned
  nest_met = go (nest_verdict j l) refl ∙ sym (met_append (position_line j l ∷ prepare_lines (planner_of j) l.rooms) (search_lines j l))
    where
      later : Result (Unit {0}) Refusal
      later = first_met (search_lines j l)

      go : (v : Result (Unit {0}) Refusal) → nest_verdict j l ≡ v → (nest_job j l).verdict ≡ or_later (first_met (position_line j l ∷ prepare_lines (planner_of j) l.rooms)) later
      go (Ok tt) d =
          ap (λ r. r.verdict) (nest_runs j l d) ∙ nested-verdict (swap_search j l) ∙ search_met ∙ ap (λ v. or_later v later) (sym d ∙ before_met)
      go (Err k) d = ap (λ r. r.verdict) (nest_stops j l k d) ∙ ap (λ v. or_later v later) (sym d ∙ before_met)

-- "A call is refused exactly where a line of the tables holds for it, with the number first met": a job that is refused has its own number
pub nest_refused_where : (bytes : List ℕ) (l : Lent) → (nest_of bytes l).verdict ≡ first_met (given_lines (read_job bytes) (λ j. nest_lines j l))
unfolding nest_of
nest_refused_where bytes l = go (read_job bytes)
  where
    go : (a : Answer) → (nest_given a l).verdict ≡ first_met (given_lines a (λ j. nest_lines j l))
    go (refused k) = unfold nest_given in (unfold not_planned in (unfold given_lines in (unfold first_met in (unfold refuse_if in refl))))
    go (accepted j) = unfold nest_given in (unfold given_lines in nest_met j l)
