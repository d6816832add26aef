-- A start with an order that is right, from what its calls leave. Assumes nothing.
use Rattle.std.specs.Prelude.{Ok, Err}
use mathlib.Core.Path.{◌≡◌, refl, sym, ap, ap₂, subst, ◌∙◌}
use mathlib.Core.List.{List}
use Prim.Native.Nat.{ℕ}
use lib.ListN.{length, replicate}
use lib.Ieee.{Float}
use Rattle.numbers.specs.Numbers.{pos_zero}
use Rattle.job.specs.Jobs.{Job}
use Rattle.filling.specs.declared.Refusal.{Refusal}
use Rattle.filling.specs.declared.Tables.{Tables}
use Rattle.filling.specs.Shapes.{Planner, planner_of}
use Rattle.filling.specs.Rooms.{Lent, laid, zeros, zero_rooms, only_positions}
use Rattle.filling.specs.Start.{tables_of, first_state, first_rooms, prepare_verdict, start_verdict, Start, no_start, good_start, start_job}
use Rattle.filling.proofs.Reading.{length-zeros, zeros-same}
use Rattle.filling.proofs.Begin.{start-refused, start-good}
use Rattle.prepare.specs.declared.Prepared.{Prepared}
use Rattle.prepare.specs.inner.Ready.{given, PreparedIs}
use Rattle.start.specs.declared.replies.Started.{Started}
use Rattle.start.specs.replies.inner.Answers.{not_started, started_with}
use Rattle.start.specs.ordered.inner.Beginning.{Cleared, Begun}

-- ---- refused
pub not_begun : (k : Refusal) (l : Lent) (shapes sheet : List Float) (entries firsts : List ℕ) → Cleared l shapes sheet entries firsts → Begun (not_started k) (no_start k l) shapes sheet entries firsts
unfolding not_started no_start only_positions zero_rooms
not_begun k l shapes sheet entries firsts C = record { verdict_is = refl; state_is = refl; shapes_are = C.shapes_zero; sheet_is = C.sheet_zero; entries_are = C.entries_zero; firsts_are = C.firsts_zero }

module _ (j : Job) (order : List ℕ) (l : Lent) (r : Started) (shapes sheet : List Float) (entries firsts : List ℕ) where
  pub begun_refused : (k : Refusal) → start_verdict j order l ≡ Err k → r ≡ not_started k → Cleared l shapes sheet entries firsts → Begun r (start_job j order l) shapes sheet entries firsts
  begun_refused k e d C = subst (λ (x : Started). Begun x (start_job j order l) shapes sheet entries firsts) (sym d) (subst (λ (s : Start). Begun (not_started k) s shapes sheet entries firsts) (sym (start-refused j order l k e)) (not_begun k l shapes sheet entries firsts C))

-- ---- prepared
verdict_by_length : (p : Planner) (l : Lent) (shapes sheet : List Float) (entries firsts : List ℕ) → Cleared l shapes sheet entries firsts
    → prepare_verdict p (given shapes sheet entries firsts) ≡ prepare_verdict p l.rooms
unfolding prepare_verdict Rattle.index.specs.Buckets.standing_capacity Rattle.trapezoid.specs.Strip.capacity
verdict_by_length p l shapes sheet entries firsts C =
    let a = ap length C.shapes_zero ∙ length-zeros pos_zero l.rooms.shapes in
    let b = ap length C.sheet_zero ∙ length-zeros pos_zero l.rooms.sheet in
    let c = ap length C.entries_zero ∙ length-zeros 0 l.rooms.sheet_entries in
    let d = ap length C.firsts_zero ∙ length-zeros 0 l.rooms.sheet_firsts in
    rw (a, b, c, d)

module _ (j : Job) (order : List ℕ) (l : Lent) (shapes₀ sheet₀ : List Float) (entries₀ firsts₀ : List ℕ) (C : Cleared l shapes₀ sheet₀ entries₀ firsts₀)
    (v : start_verdict j order l ≡ prepare_verdict (planner_of j) l.rooms)
    (p : Prepared) (shapes sheet : List Float) (entries firsts : List ℕ) (P : PreparedIs p (planner_of j) (given shapes₀ sheet₀ entries₀ firsts₀) shapes sheet entries firsts) where
  verdict_is : start_verdict j order l ≡ p.verdict
  verdict_is = v ∙ sym (verdict_by_length (planner_of j) l shapes₀ sheet₀ entries₀ firsts₀ C) ∙ sym P.verdict_is

  pub not-ready : (k : Refusal) (r : Started) (shapes' sheet' : List Float) (entries' firsts' : List ℕ)
      → p.verdict ≡ Err k → r ≡ not_started k → length shapes ≡ length shapes₀ → length sheet ≡ length sheet₀ → length entries ≡ length entries₀
      → length firsts ≡ length firsts₀ → shapes' ≡ zeros pos_zero shapes → sheet' ≡ zeros pos_zero sheet → entries' ≡ zeros 0 entries
      → firsts' ≡ zeros 0 firsts → Begun r (start_job j order l) shapes' sheet' entries' firsts'
  not-ready k r shapes' sheet' entries' firsts' e d a b c f x y z u =
      begun_refused j order l r shapes' sheet' entries' firsts' k (verdict_is ∙ e) d
      (record {
        shapes_zero = x ∙ zeros-same pos_zero shapes l.rooms.shapes (a ∙ ap length C.shapes_zero ∙ length-zeros pos_zero l.rooms.shapes);
        sheet_zero = y ∙ zeros-same pos_zero sheet l.rooms.sheet (b ∙ ap length C.sheet_zero ∙ length-zeros pos_zero l.rooms.sheet);
        entries_zero = z ∙ zeros-same 0 entries l.rooms.sheet_entries (c ∙ ap length C.entries_zero ∙ length-zeros 0 l.rooms.sheet_entries);
        firsts_zero = u ∙ zeros-same 0 firsts l.rooms.sheet_firsts (f ∙ ap length C.firsts_zero ∙ length-zeros 0 l.rooms.sheet_firsts);
      })

  module _ (e : p.verdict ≡ (Ok tt)) (table : List ℕ) (o : table ≡ laid order (replicate 4096 0)) where
    begins : Begun (started_with p.tables table) (good_start (planner_of j) order l) shapes sheet entries firsts
    unfolding good_start first_state first_rooms started_with tables_of
    begins =
        let R = P.ready e in
        record {
          verdict_is = refl;
          state_is = ap₂ (λ (t : Tables) (o : List ℕ). (started_with t o).state) R.tables_are o;
          shapes_are = R.shapes_are ∙ ap (laid _) C.shapes_zero;
          sheet_is = R.sheet_is ∙ ap (laid _) C.sheet_zero;
          entries_are = R.entries_are ∙ ap (laid _) C.entries_zero;
          firsts_are = R.firsts_are ∙ ap (laid _) C.firsts_zero;
        }

    pub ready : (r : Started) → r ≡ started_with p.tables table → Begun r (start_job j order l) shapes sheet entries firsts
    ready r d =
        subst (λ (x : Started). Begun x (start_job j order l) shapes sheet entries firsts) (sym d)
        (subst (λ (s : Start). Begun (started_with p.tables table) s shapes sheet entries firsts) (sym (start-good j order l (verdict_is ∙ e))) begins)
