use Prim.Native.Nat.{ℕ, ◌≤◌}
use mathlib.Core.Path.{sym, subst⁻¹, ◌∙◌}
use lib.ListN.{length-replicate}
use Rattle.step.specs.inner.Going.{rooms}
use Rattle.step.proofs.step_job.Opening.{step_used_up, going, numbers}
use Rattle.filling.proofs.Runs.{step-consistent, step_inconsistent}
use Rattle.step.proofs.step_job.step_job.Goals as goal

pub agree-requires : goal.agree-requires
agree-requires c = let a = c.args in
    let p = c.requires in
    let w = rooms a.shapes.now a.sheet.now a.placed.now a.sheet_entries.now a.entries.now a.sheet_firsts.now a.firsts.now in
    let n = numbers p.0 a.rows.now a.areas.now a.kinds a.copies p.1 in
    (n.kinds_few, n.rows_long, n.turns_few, n.copies_few, length-replicate {A = ℕ} 513 0, length-replicate {A = ℕ} 513 0)

pub step_copy-requires : goal.step_copy-requires
step_copy-requires c = let a = c.args in
    let p = c.requires in
    let w = rooms a.shapes.now a.sheet.now a.placed.now a.sheet_entries.now a.entries.now a.sheet_firsts.now a.firsts.now in (
      p.0,
      going p.0 a.state w a.rows.now a.areas.now a.kinds a.copies c.agree.new.sheet_starts
          c.agree.new.starts p.1 (sym (c.agree.ensures.0 p.0 a.areas.now p.1.tabled p.1.kinds_are
          p.1.copies_are) ∙ c.if-not-agree.false) c.if-copies-state.false (c.agree.ensures.1 c.if-not-agree.false).0
          (c.agree.ensures.1 c.if-not-agree.false).1 (c.agree.ensures.1 c.if-not-agree.false).2 (c.agree.ensures.1 c.if-not-agree.false).3,
    )

pub returns : goal.returns
returns c = let a = c.args in
    let p = c.requires in
    let w = rooms a.shapes.now a.sheet.now a.placed.now a.sheet_entries.now a.entries.now a.sheet_firsts.now a.firsts.now in
    λ j O. c.step_copy.ensures j (going j a.state w a.rows.now a.areas.now a.kinds a.copies c.agree.new.sheet_starts
    c.agree.new.starts O (sym (c.agree.ensures.0 j a.areas.now O.tabled O.kinds_are O.copies_are) ∙
    c.if-not-agree.false) c.if-copies-state.false (c.agree.ensures.1 c.if-not-agree.false).0 (c.agree.ensures.1 c.if-not-agree.false).1
    (c.agree.ensures.1 c.if-not-agree.false).2 (c.agree.ensures.1 c.if-not-agree.false).3) ∙ sym (step-consistent j
    a.state w a.intervals.now (sym (c.agree.ensures.0 j a.areas.now O.tabled O.kinds_are O.copies_are) ∙ c.if-not-agree.false))

pub returns-then-not-agree : goal.returns-then-not-agree
returns-then-not-agree c = let a = c.args in
    let p = c.requires in
    let w = rooms a.shapes.now a.sheet.now a.placed.now a.sheet_entries.now a.entries.now a.sheet_firsts.now a.firsts.now in
    λ j O. c.refuse.ensures w ∙ sym (step_inconsistent j a.state w a.intervals.now
    (sym (c.agree.ensures.0 j a.areas.now O.tabled O.kinds_are O.copies_are) ∙ c.if-not-agree.true))

pub returns-then-copies-state : goal.returns-then-copies-state
returns-then-copies-state c = let a = c.args in
    let p = c.requires in
    let w = rooms a.shapes.now a.sheet.now a.placed.now a.sheet_entries.now a.entries.now a.sheet_firsts.now a.firsts.now in
    λ j O. c.refuse-then-copies-state.ensures w ∙ step_used_up j a.state w a.intervals.now
    (sym (c.agree.ensures.0 j a.areas.now O.tabled O.kinds_are O.copies_are) ∙
    c.if-not-agree.false) (subst⁻¹ (λ (n : ℕ). n ≤ a.state.taken) O.copies_are
    c.if-copies-state.true)
