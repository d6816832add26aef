-- What code leaves of a step is the definition's. Assumes nothing.
use Rattle.std.specs.Prelude.{Some, None, Result, Ok, Err}
use Prim.Native.Nat.{ℕ, ◌+◌, ◌*◌, ◌/◌, ◌≤◌}
use native.Mathlib.Numerals.{add-one}
use mathlib.Core.Path.{◌≡◌, refl, sym, ap, subst, subst⁻¹, ◌∙◌}
use mathlib.Core.List.{List, map}
use lib.ListN.{length, get_or, take, replicate}
use lib.Ieee.{Float}
use Rattle.numbers.specs.Numbers.{pos_zero}
use Rattle.job.specs.Jobs.{Job}
use Rattle.filling.specs.declared.State.{State}
use Rattle.filling.specs.declared.Refusal.{Refusal}
use Rattle.filling.specs.Rooms.{Rooms, zeros}
use Rattle.filling.specs.State.{apart_room, inset_room, planner_at, orientation_counts}
use Rattle.filling.specs.Consistent.{sheet_index}
use Rattle.filling.specs.NextCopy as Next
use Rattle.filling.specs.NextCopy.{entered, no_step, core_step}
use Rattle.filling.proofs.Steps.{accepted≢refused, refused≢accepted, same-refusal}
use Rattle.rooms.specs.tracks.inner.Tracks.{next_columns, look_counts_from}
use Rattle.choose.specs.declared.Grid.{Grid}
use Rattle.choose.specs.inner.Choosing.{grid_of, surroundings_in}
use Rattle.place.specs.declared.Copy.{Copy}
use Rattle.place.specs.declared.Totals.{Totals}
use Rattle.place.specs.declared.Step.{Step}
use Rattle.place.specs.inner.Placing.{Outcome}
use Rattle.place.specs.inner.Placing.{totals_of, copy_of, verdict_of, Placed, done, place_of}
use Rattle.store.specs.inner.Storing.{FirstsLaid}
use Rattle.filling_laws.proofs.Firsts.{firsts_stay}
use Rattle.filling_laws.proofs.SameCopy.{step_by, step_from}
use Rattle.filling_laws.proofs.SameCore.{same_core}
use Rattle.filling_laws.proofs.Ready.{strips-within}
use Rattle.filling_laws.proofs.ReadyOrder.{slots-within, next-first}
use Rattle.step.specs.declared.Stepped.{Stepped}
use Rattle.step.specs.inner.Going.{rooms, Going, taken_of, answer_of, step_of}
use Rattle.step.proofs.Allowed.{kind, turns, listed, known, turns_are}
use Rattle.step.proofs.Kept.{place_kept}

pub refused_by_lem : (o : Outcome) (k : Refusal) → verdict_of o ≡ Err k → o ≡ Err k
refused_by_lem (Ok c) k e = absurd (accepted≢refused e)
refused_by_lem (Err r) k e = ap Err (same-refusal e)

pub room-zeros : (l m : List Float) → length m ≡ length l → zeros pos_zero m ≡ zeros pos_zero l
unfolding zeros
room-zeros l m e = ap (λ (n : ℕ). replicate n pos_zero) e

module _ {j : Job} {s : State} {w : Rooms} {rows : List ℕ} {areas : List Float} {sheet_starts starts : List ℕ}
    (G : Going j s w rows areas sheet_starts starts) (intervals : List Float) (many : length s.look_counts ≡ 1024) where
  abbrev k : ℕ
  k = kind G

  abbrev n : ℕ
  n = turns G

  -- ---- what code leaves of the copy

  abbrev pub placed_by : Grid → Copy → Totals → List ℕ → List ℕ → Placed
  placed_by g q t counts next =
      place_of g.index (surroundings_in (length intervals / 2) g s.tables.inset_bounds s.tables.parts w.shapes
      (take (6 * s.tables.sheet_strips) w.sheet) (take (6 * t.placed_strips) w.placed))
      q.area q.slot q.orientations t w.placed w.placed_entries starts w.placed_firsts counts next

  abbrev pub code : Placed
  code = placed_by (grid_of s.tables) (copy_of s.order rows areas s.taken) (totals_of s) s.look_counts s.next_column

  pub code_of : (g : Grid) (q : Copy) (t : Totals) (counts next : List ℕ) → g ≡ grid_of s.tables → q ≡ copy_of s.order rows areas s.taken
      → t ≡ totals_of s → counts ≡ s.look_counts → next ≡ s.next_column → placed_by g q t counts next ≡ code
  code_of g q t counts next a b c d e =
      ap (λ (g : Grid). placed_by g q t counts next) a
      ∙ (ap (λ (q : Copy). placed_by (grid_of s.tables) q t counts next) b
      ∙ (ap (λ (t : Totals). placed_by (grid_of s.tables) (copy_of s.order rows areas s.taken) t counts next) c
      ∙ (ap (λ (l : List ℕ). placed_by (grid_of s.tables) (copy_of s.order rows areas s.taken) (totals_of s) l next) d
      ∙ ap (λ (l : List ℕ). placed_by (grid_of s.tables) (copy_of s.order rows areas s.taken) (totals_of s) s.look_counts l) e)))

  -- ---- it is the definition's

  abbrev by : ℕ → Float → Placed
  by m a = placed_by (grid_of s.tables) (record { slot = 16 * k; orientations = m; area = a }) (totals_of s) s.look_counts s.next_column

  -- firsts are the bucket numbers of the strips that it leaves
  abbrev pub Written : List ℕ → Placed → Type 0
  Written firsts d = FirstsLaid (sheet_index s.tables.sheet_bounds) d.left.placed d.left.reply.totals.placed_strips w.placed_firsts firsts

  pub written_by : (g : Grid) → g ≡ grid_of s.tables → (placed : List Float) (n : ℕ) (firsts : List ℕ)
      → FirstsLaid g.index placed n w.placed_firsts firsts → FirstsLaid (sheet_index s.tables.sheet_bounds) placed n w.placed_firsts firsts
  written_by g e placed n firsts F = subst (λ (g : Grid). FirstsLaid g.index placed n w.placed_firsts firsts) e F

  abbrev by_job : Placed
  by_job = by (get_or (orientation_counts j) k 0) (get_or (map (λ a. a.area) j.kinds) k pos_zero)

  core_by : (firsts : List ℕ) → Written firsts by_job → step_from s w intervals firsts by_job ≡ core_step j s w intervals
  unfolding planner_at apart_room inset_room
  core_by firsts F =
      let l = listed G in
      same_core j s w intervals k starts l (strips-within j s w G.passes).placed
      (subst⁻¹ (λ (m : ℕ). 16 * k + get_or (orientation_counts j) k 0 ≤ m) many (slots-within j G.good k l)) _ (next-first j s w G.passes G.left)
      firsts G.placed_kept F

  by_code : by_job ≡ code
  by_code = ap (λ (m : ℕ). by m (get_or (map (λ a. a.area) j.kinds) k pos_zero)) (turns_are G) ∙ ap (λ (a : Float). by n a) (G.tabled.area k (known G))

  core_code : (firsts : List ℕ) → Written firsts code → step_from s w intervals firsts code ≡ core_step j s w intervals
  core_code firsts F = sym (ap (step_from s w intervals firsts) by_code) ∙ core_by firsts (subst⁻¹ (Written firsts) by_code F)

  -- ---- the answer

  module _ (r : Step) (placed : List Float) (entries begins tracks firsts : List ℕ) where
    abbrev left : Placed
    left = done r placed entries begins (look_counts_from tracks) (next_columns tracks)

    abbrev answered : Stepped → List Float → Next.Step
    answered a zeroed = step_of a (rooms w.shapes w.sheet placed w.sheet_entries entries w.sheet_firsts firsts) zeroed

    -- a copy that is taken
    abbrev written_as : ℕ → Next.Step
    written_as m = answered (record { verdict = Ok tt; state = taken_of m s r tracks }) (zeros pos_zero intervals)

    written : (o : Outcome) → verdict_of o ≡ (Ok tt) → written_as (s.taken + 1) ≡ step_by o s w intervals firsts left
    unfolding entered
    written (Ok (Some c)) e = ap written_as (add-one s.taken)
    written (Ok None) e = ap written_as (add-one s.taken)
    written (Err why) e = absurd (refused≢accepted e)

    -- a copy that is refused: the old state and rooms
    no_step_lem : (why : Refusal) → step_of (record { verdict = Err why; state = s }) w (zeros pos_zero intervals) ≡ no_step why s w intervals
    unfolding no_step
    no_step_lem why = refl

    refused : left ≡ code → Written firsts left → (why : Refusal) → r.outcome ≡ Err why
        → answered (record { verdict = Err why; state = s }) (zeros pos_zero intervals) ≡ step_from s w intervals firsts left
    refused e F why o =
        let q = copy_of s.order rows areas s.taken in
        let ix = sheet_index s.tables.sheet_bounds in
        let h = place_kept ix (totals_of s) w.placed w.placed_entries starts w.placed_firsts _ q.area q.slot q.orientations
        s.look_counts s.next_column why (sym (ap (λ (p : Placed). p.left.reply.outcome) e) ∙ o) in
        let a = ap (λ (p : Placed). p.left.placed) e ∙ h.0 in
        let t = ap (λ (p : Placed). p.left.reply.totals) e ∙ h.2 in
        let K = subst (λ (l : List Float). FirstsLaid ix l s.placed_strips w.placed_firsts firsts) a
        (subst (λ (t : Totals). FirstsLaid ix placed t.placed_strips w.placed_firsts firsts) t F) in
        let old : Stepped = record { verdict = Err why; state = s } in
        ap (λ (l : List Float). step_of old (rooms w.shapes w.sheet l w.sheet_entries entries w.sheet_firsts firsts) (zeros pos_zero intervals)) a
        ∙ (ap (λ (l : List ℕ). step_of old (rooms w.shapes w.sheet w.placed w.sheet_entries l w.sheet_firsts firsts) (zeros pos_zero intervals))
        (ap (λ (p : Placed). p.left.entries) e ∙ h.1)
        ∙ (ap (λ (l : List ℕ). step_of old (rooms w.shapes w.sheet w.placed w.sheet_entries w.placed_entries w.sheet_firsts l)
        (zeros pos_zero intervals)) (firsts_stay ix w.placed s.placed_strips w.placed_firsts firsts G.placed_kept K)
        ∙ (no_step_lem why ∙ sym (ap (λ (a : Outcome). step_by a s w intervals firsts left) o))))

    by_verdict : left ≡ code → Written firsts left → (v : Result (Unit {0}) Refusal) → verdict_of r.outcome ≡ v
        → answered (answer_of s r tracks v) (zeros pos_zero intervals) ≡ step_from s w intervals firsts left
    by_verdict e F (Ok tt) v = written r.outcome v
    by_verdict e F (Err why) v = refused e F why (refused_by_lem r.outcome why v)

    pub step-answer : left ≡ code → Written firsts left → (a : Stepped) → a ≡ answer_of s r tracks (verdict_of r.outcome)
        → (zeroed : List Float) → zeroed ≡ zeros pos_zero intervals → answered a zeroed ≡ core_step j s w intervals
    step-answer e F a q zeroed z =
        ap (λ (l : List Float). answered a l) z
        ∙ (ap (λ (b : Stepped). answered b (zeros pos_zero intervals)) q
        ∙ (by_verdict e F (verdict_of r.outcome) refl
        ∙ (ap (step_from s w intervals firsts) e ∙ core_code firsts (subst (Written firsts) e F))))
