-- `withdraw::withdraw_job::withdraw_job` meets its contract. Assumes nothing.
use Prim.Native.Nat.{ℕ}
use mathlib.Core.Path.{sym, ◌∙◌}
use lib.ListN.{length-replicate}
use native.Mathlib.Nat.{le_trans}
use Rattle.filling.specs.Rooms.{rooms_of}
use Rattle.filling.proofs.Withdrawn.{withdraw-consistent, withdraw_inconsistent}
use Rattle.filling_laws.proofs.Ready.{taken_upto}
use Rattle.step.proofs.step_job.Opening.{numbers}
use Rattle.withdraw.proofs.withdraw_job.Answering.{stands-none, leaving}
use Rattle.withdraw.proofs.withdraw_job.withdraw_job.Goals as goal

pub slice_bounds-agree-end : goal.slice_bounds-agree-end
slice_bounds-agree-end c = sym (length-replicate {A = ℕ} 513 0)

pub slice_bounds-agree-end-2 : goal.slice_bounds-agree-end-2
slice_bounds-agree-end-2 c = sym (length-replicate {A = ℕ} 513 0)

pub agree-requires : goal.agree-requires
agree-requires c = let a = c.args in
    let p = c.requires in
    let n = numbers p.0 a.rows.now p.1 a.kinds a.copies p.2 in
    (n.kinds_few, n.rows_long, n.turns_few, n.copies_few, length-replicate {A = ℕ} 513 0, length-replicate {A = ℕ} 513 0)

pub stands-requires : goal.stands-requires
stands-requires c = let a = c.args in
    let p = c.requires in
    let w = rooms_of a.shapes.now a.sheet.now a.placed.now a.sheet_entries.now a.entries.now a.sheet_firsts.now a.firsts.now in
    le_trans (taken_upto p.0 a.state w (sym (c.agree.ensures.0 p.0 p.1 p.2.tabled p.2.kinds_are
    p.2.copies_are) ∙ c.if-agree.true)) p.2.few

pub withdraw_copy-after-requires : goal.withdraw_copy-after-requires
withdraw_copy-after-requires c = let a = c.args in
    let p = c.requires in
    let w = rooms_of a.shapes.now a.sheet.now a.placed.now a.sheet_entries.now a.entries.now a.sheet_firsts.now a.firsts.now in (
      p.0,
      w,
      leaving p.0 a.state w a.place p.2 (sym (c.agree.ensures.0 p.0 p.1 p.2.tabled p.2.kinds_are p.2.copies_are) ∙
          c.if-agree.true) (sym c.stands.ensures ∙
          c.if-stands.true),
    )

pub shape_of-placed-then-stands : goal.shape_of-placed-then-stands
shape_of-placed-then-stands c = c.withdraw_copy-after.auto.placed

pub shape_of-entries-then-stands : goal.shape_of-entries-then-stands
shape_of-entries-then-stands c = c.withdraw_copy-after.auto.entries

pub shape_of-firsts-then-stands : goal.shape_of-firsts-then-stands
shape_of-firsts-then-stands c = c.withdraw_copy-after.auto.firsts

pub returns-then-stands : goal.returns-then-stands
returns-then-stands c = let a = c.args in
    let w = rooms_of a.shapes.now a.sheet.now a.placed.now a.sheet_entries.now a.entries.now a.sheet_firsts.now a.firsts.now in
    λ j areas O.
    let e = sym (c.agree.ensures.0 j areas O.tabled O.kinds_are O.copies_are) ∙ c.if-agree.true in
    c.withdraw_copy-after.ensures j w
    (leaving j a.state w a.place O e (sym c.stands.ensures ∙ c.if-stands.true)) ∙ sym (withdraw-consistent j a.state w a.place e)

pub returns-then-agree : goal.returns-then-agree
returns-then-agree c = let a = c.args in
    let w = rooms_of a.shapes.now a.sheet.now a.placed.now a.sheet_entries.now a.entries.now a.sheet_firsts.now a.firsts.now in
    λ j areas O.
    let e = sym (c.agree.ensures.0 j areas O.tabled O.kinds_are O.copies_are) ∙
    c.if-agree.true in
    c.refuse.ensures w ∙ sym (stands-none j a.state w a.place e (sym c.stands.ensures ∙ c.if-stands.false))

pub returns : goal.returns
returns c = let a = c.args in
    let w = rooms_of a.shapes.now a.sheet.now a.placed.now a.sheet_entries.now a.entries.now a.sheet_firsts.now a.firsts.now in
    λ j areas O.
    c.refuse-2.ensures w ∙ sym (withdraw_inconsistent j a.state w a.place
    (sym (c.agree.ensures.0 j areas O.tabled O.kinds_are O.copies_are) ∙ c.if-agree.false))
