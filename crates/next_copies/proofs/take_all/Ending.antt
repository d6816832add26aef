-- What ends the copies, and what taking them from a state is given. Assumes nothing.
use Rattle.std.specs.Prelude.{Result, Ok, Err}
use Prim.{⊥}
use Prim.Native.Nat.{ℕ, suc, ◌+◌, ◌-◌, ◌<◌, ◌≤◌}
use native.Mathlib.Omega.{arith}
use native.Mathlib.Nat.{le_trans}
use mathlib.Core.Path.{◌≡◌, refl, sym, ap, ◌∙◌}
use mathlib.Core.Logic.{inl, inr}
use mathlib.Core.Bool.{Bool, true, false}
use mathlib.Core.List.{List}
use lib.ListN.{length, length-take, drop_of_length-le}
use lib.Dec.{eqb}
use lib.Ieee.{Float}
use borrow.Author.Tests.{eqb-true, eqb-false}
use Rattle.numbers.proofs.Truth.{below_or_not}
use Rattle.numbers.specs.Numbers.{pos_zero}
use Rattle.job.specs.Jobs.{Job}
use Rattle.filling.specs.declared.State.{State}
use Rattle.filling.specs.declared.Refusal.{Refusal}
use Rattle.filling.specs.declared.Refusal.TheVariants as Why
use Rattle.filling.specs.Rooms.{Rooms, zeros}
use Rattle.filling.specs.State.{order_of}
use Rattle.filling.specs.NextCopy.{Step, no_step, place_next, core_step}
use Rattle.batch.specs.NextCopies.{Batch, none_taken}
use Rattle.batch.specs.inner.Tested.{step_tested, tested_from, more_taken}
use Rattle.batch.proofs.Taking.{zeros_again, tested_none, tested_stop}
use Rattle.take_copies.specs.inner.Run.{rest_of}
use Rattle.next_copies.specs.take_all.inner.Spread.{ended_by, last_verdict}

module _ (j : Job) (S : State) (W : Rooms) (intervals : List Float) where
  abbrev Z : List Float
  Z = zeros pos_zero intervals

  -- ---- a step that is refused before any copy
  stop : (k : ℕ) (fits : Bool) (why : Refusal) → step_tested j S W Z fits ≡ no_step why S W Z → tested_from j (suc k) S W Z fits ≡ none_taken (Err why) S W Z
  unfolding no_step
  stop k fits why e =
      tested_stop j k S W Z fits why (ap (λ (r : Step). r.verdict) e)
      ∙ (ap (λ (r : Step). none_taken (Err why) r.state r.rooms r.intervals) e ∙ ap (none_taken (Err why) S W) (zeros_again intervals))

  -- 23
  order_short : length (order_of j S) ≤ j.copies
  unfolding order_of
  order_short = let a = length-take j.copies S.order in omega arith

  used_up : j.copies ≤ S.taken → core_step j S W Z ≡ no_step Why.OrderUsedUp S W Z
  unfolding core_step place_next
  used_up h = ap (place_next j S W Z) (drop_of_length-le (order_of j S) (le_trans order_short h))

  stop_used_up : (k : ℕ) → j.copies ≤ S.taken → tested_from j (suc k) S W Z true ≡ none_taken (Err Why.OrderUsedUp) S W Z
  unfolding step_tested
  stop_used_up k h = stop k true Why.OrderUsedUp (used_up h)

  -- 31
  pub stop_inconsistent : (k : ℕ) → tested_from j (suc k) S W Z false ≡ none_taken (Err Why.Inconsistent) S W Z
  unfolding step_tested
  stop_inconsistent k = stop k false Why.Inconsistent refl

  -- ---- the end
  module _ (n took : ℕ) (few : took ≤ n) where
    abbrev by : Result (Unit {0}) Refusal → Batch
    by v = record { took = took; verdict = v; state = S; rooms = W; intervals = Z }

    none_more : (v : Result (Unit {0}) Refusal) → more_taken took (none_taken v S W Z) ≡ by v
    unfolding more_taken none_taken
    none_more v = let e : took + 0 ≡ took = omega arith in ap (λ (m : ℕ). record { took = m; verdict = v; state = S; rooms = W; intervals = Z }) e

    short_ends : (fits : Bool) (k : ℕ) → n - took ≡ suc k → (fits ≡ true → j.copies ≤ S.taken)
        → tested_from j (n - took) S W Z fits ≡ none_taken (ended_by false fits) S W Z
    short_ends true k e h = ap (λ (i : ℕ). tested_from j i S W Z true) e ∙ stop_used_up k (h refl)
    short_ends false k e h = ap (λ (i : ℕ). tested_from j i S W Z false) e ∙ stop_inconsistent k

    by_count : (fits t : Bool) → eqb took n ≡ t → (took < n → fits ≡ true → j.copies ≤ S.taken)
        → tested_from j (n - took) S W Z fits ≡ none_taken (ended_by t fits) S W Z
    by_count fits true e h =
        let q = eqb-true took n e in
        let z : n - took ≡ 0 = omega arith in
        ap (λ (i : ℕ). tested_from j i S W Z fits) z ∙ tested_none j S W Z fits
    by_count fits false e h =
        let q = eqb-false took n e in
        let l : took < n = below q in
        let k : ℕ = n - took - 1 in
        let z : n - took ≡ suc k = omega (arith, l) in
        short_ends fits k z (h l)
      where
        below : (took ≡ n → ⊥) → took < n
        below q = elim (below_or_not took n) [ inl l ↦ l | inr l ↦ absurd (q (omega (arith, l, few))) ]

    by_last : (v : Result (Unit {0}) Refusal) (fits : Bool) → (v ≡ (Ok tt) → took < n → fits ≡ true → j.copies ≤ S.taken)
        → rest_of j v (n - took) S W Z fits ≡ none_taken (last_verdict v fits took n) S W Z
    by_last (Ok tt) fits h = by_count fits (eqb took n) refl (h refl)
    by_last (Err k) fits h = refl

    pub ended : (v : Result (Unit {0}) Refusal) (fits : Bool) (q : Batch) → (v ≡ (Ok tt) → took < n → fits ≡ true → j.copies ≤ S.taken)
        → more_taken took (rest_of j v (n - took) S W Z fits) ≡ q → by (last_verdict v fits took n) ≡ q
    ended v fits q h e = sym (ap (more_taken took) (by_last v fits h) ∙ none_more (last_verdict v fits took n)) ∙ e

-- where fewer are taken than are asked for and none is refused, the order is used up
pub short_of : (copies taken most took n : ℕ) → (most < n → copies ≤ taken + most) → took ≡ most → took < n → copies ≤ taken + took
short_of copies taken most took n h e l =
    let m : most < n = omega (arith, e, l) in
    let c = h m in omega (arith, c, e)

-- the same answer, part by part
pub answer_is : (took : ℕ) (v v' : Result (Unit {0}) Refusal) → v ≡ v' → (s s' : State) → s ≡ s' → (w : Rooms) (i i' : List Float) → i ≡ i'
    → ◌≡◌ {A = Batch} (record { took = took; verdict = v; state = s; rooms = w; intervals = i })
    (record { took = took; verdict = v'; state = s'; rooms = w; intervals = i' })
answer_is took v v' e s s' f w i i' g =
    ap (λ (v : Result (Unit {0}) Refusal). record { took = took; verdict = v; state = s; rooms = w; intervals = i }) e
    ∙ (ap (λ (s : State). record { took = took; verdict = v'; state = s; rooms = w; intervals = i }) f
    ∙ ap (λ (i : List Float). record { took = took; verdict = v'; state = s'; rooms = w; intervals = i }) g)
