-- `swaps::rounds` meets its contract. Assumes nothing.
use Rattle.std.specs.Prelude.{Err}
use Rattle.std.proofs.Common.{rules}
use native.Mathlib.Omega.{arith}
use mathlib.Core.Path.{◌≡◌, ap, sym, ◌∙◌}
use Prim.Native.Nat.{ℕ}
use lib.ListN.{length}
use Rattle.job.specs.Jobs.{Job}
use Rattle.filling.specs.Rooms.{Lent}
use Rattle.filling.specs.Fill.{fill_order}
use Rattle.nesting.specs.Rounds.{rounds, first_kept}
use Rattle.filling_laws.specs.fill_laws.inner.Prepared.{given_in}
use Rattle.swaps.specs.inner.Turns.{rounds_for}
use Rattle.swaps.proofs.Going.{going_first, going_on, going_stops, going_end, first_ended, few-rounds, some_rounds, rounds_upto, later_copies, fits}
use Rattle.swaps.proofs.rounds.Goals.{then-order-lt2, else-order-lt2}
use Rattle.swaps.proofs.rounds.Goals as goal

pub fill_half-requires : goal.fill_half-requires
fill_half-requires c = let p = c.requires in (p.0, p.1, p.2, p.3, omega arith, p.5)

pub returns-in_err-totals : goal.returns-in_err-totals
returns-in_err-totals c = let a = c.args in
    let why = c.in_err-totals.field-0.0 in
    let e : c.from_residual.result ≡ Err why = search rules in
    rw e (
      λ (j : Job) P r (l : Lent) e1 e2 e3 e4 s. first_ended j l a.order.now (rounds_for (length a.order.now) a.n) why (c.in_err-totals.ensures.0 j P r l e1 e2 e3 e4),
      λ j r. r,
      tt,
    )

pub loop-init : goal.loop-init
loop-init c = let a = c.args in
    let g = given_in a.g a.rows.now a.areas.now a.inset_bounds.now a.parts.now a.shapes.now a.sheet.now a.sheet_entries.now
    a.sheet_starts.now in
    going_first g a.seed c.if-order-lt2.turns a.order.now a.placed.now a.entries.now a.room.now a.firsts.now c.in_ok-totals.totals _ _
    (λ j P r l w. c.in_ok-totals.ensures.0 j P r l w.0 w.1 w.2 w.3)

pub round-requires : goal.round-requires
round-requires c = let a = c.args in
    let p = c.requires in
    let h = c.loop in
    let f = c.fill_half.auto in
    let t : c.if-order-lt2.turns ≡ rounds_for (length a.order.now) a.n = elim c.if-order-lt2.branch [
      | then-order-lt2 w ↦ few-rounds _ a.n _ w.if-order-lt2.true w.turns-is
      | else-order-lt2 w ↦ some_rounds _ a.n _ w.if-order-lt2.false w.turns-is
    ] in
    let few = h.invariant.few in
    let many = rounds_upto (length a.order.now) a.n _ t in (
      (p.0.0, p.0.1, h.invariant.arranged p.0.0 p.0.2),
      p.1,
      fits (h.auto.tracks ∙ f.tracks) p.2,
      fits (h.auto.spots ∙ f.spots) p.3,
      omega arith,
      h.invariant.in_half,
      fits h.auto.order (later_copies (length a.order.now) a.n _ h.counter t c.loop-test.true),
      p.5,
    )

pub returns-in_err-best : goal.returns-in_err-best
returns-in_err-best c = let a = c.args in
    let h = c.loop in
    let f = c.fill_half.auto in
    let why = c.in_err-best.field-0.0 in
    let g = given_in a.g a.rows.now a.areas.now a.inset_bounds.now a.parts.now a.shapes.now a.sheet.now a.sheet_entries.now
    a.sheet_starts.now in
    let t : c.if-order-lt2.turns ≡ rounds_for (length a.order.now) a.n = elim c.if-order-lt2.branch [
      | then-order-lt2 w ↦ few-rounds _ a.n _ w.if-order-lt2.true w.turns-is
      | else-order-lt2 w ↦ some_rounds _ a.n _ w.if-order-lt2.false w.turns-is
    ] in
    let e : c.from_residual-in_err-best.result ≡ Err why = search rules in
    rw e (
      λ (j : Job) P r (l : Lent) e1 e2 e3 e4 s.
          going_stops g a.seed c.if-order-lt2.turns a.order.now a.placed.now a.entries.now a.room.now a.firsts.now h.counter (record { best = h.best; order = h.order; tracks = h.tracks; spots = h.spots }) h.invariant
          c.loop-test.true why (λ j P r l w. c.in_err-best.ensures.0 j P r l (w.0 ∙ sym (h.auto.placed ∙ f.placed)) (w.1 ∙ sym (h.auto.entries ∙ f.entries)) (w.2 ∙ sym (h.auto.room ∙ f.room))
          (w.3 ∙ sym (h.auto.firsts ∙ f.firsts)))
          j P r l (e1, e2, e3, e4) s
          ∙ ap (λ (m : ℕ). rounds j l m (first_kept j a.order.now (fill_order j l a.order.now))) t,
      λ j r. c.in_err-best.ensures.1 j (h.invariant.arranged j r),
      tt,
    )

pub loop-preserved : goal.loop-preserved
loop-preserved c = let a = c.args in
    let h = c.loop in
    let f = c.fill_half.auto in
    let g = given_in a.g a.rows.now a.areas.now a.inset_bounds.now a.parts.now a.shapes.now a.sheet.now a.sheet_entries.now
    a.sheet_starts.now in
    going_on g a.seed c.if-order-lt2.turns a.order.now a.placed.now a.entries.now a.room.now a.firsts.now h.counter (record { best = h.best; order = h.order; tracks = h.tracks; spots = h.spots }) h.invariant
    c.loop-test.true _ (λ j P r l w. c.in_ok-best.ensures.0 j P r l (w.0 ∙ sym (h.auto.placed ∙ f.placed)) (w.1 ∙ sym (h.auto.entries ∙ f.entries)) (w.2 ∙ sym (h.auto.room ∙ f.room))
    (w.3 ∙ sym (h.auto.firsts ∙ f.firsts)))
    c.in_ok-best.ensures.1 c.in_ok-best.ensures.2.0 c.in_ok-best.ensures.2.1

pub returns : goal.returns
returns c = let a = c.args in
    let h = c.loop in
    let g = given_in a.g a.rows.now a.areas.now a.inset_bounds.now a.parts.now a.shapes.now a.sheet.now a.sheet_entries.now
    a.sheet_starts.now in
    let t : c.if-order-lt2.turns ≡ rounds_for (length a.order.now) a.n = elim c.if-order-lt2.branch [
      | then-order-lt2 w ↦ few-rounds _ a.n _ w.if-order-lt2.true w.turns-is
      | else-order-lt2 w ↦ some_rounds _ a.n _ w.if-order-lt2.false w.turns-is
    ] in (
      λ (j : Job) P r (l : Lent) e1 e2 e3 e4 s.
          going_end g a.seed c.if-order-lt2.turns a.order.now a.placed.now a.entries.now a.room.now a.firsts.now h.counter (record { best = h.best; order = h.order; tracks = h.tracks; spots = h.spots }) h.invariant
          (omega (arith, c.loop-test.false)) j P r l (e1, e2, e3, e4) s
          ∙ ap (λ (m : ℕ). rounds j l m (first_kept j a.order.now (fill_order j l a.order.now))) t,
      h.invariant.arranged,
      h.invariant.in_half,
    )
