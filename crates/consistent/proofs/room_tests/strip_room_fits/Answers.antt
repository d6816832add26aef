-- `consistent::room_tests::strip_room_fits` meets its contract. Assumes nothing.
use mathlib.Core.Path.{sym, ◌∙◌}
use Rattle.consistent.proofs.strip_tests.Bounding.{never}
use Rattle.consistent.proofs.Cases.{room-strips, room_firsts, room-entries, laid-there, kept_there}
use Rattle.consistent.proofs.room_tests.strip_room_fits.Goals.{then-strips_fit, else-strips_fit}
use Rattle.consistent.proofs.room_tests.strip_room_fits.Goals as goal

pub returns-then-firsts_lie : goal.returns-then-firsts_lie
returns-then-firsts_lie c =
    let a = c.args in
    elim c.if-strips_fit.branch [
      | then-strips_fit w ↦
          let f = w.firsts_lie.ensures in
          let t = sym w.value-is ∙ c.if-firsts_lie.true in (
            c.entries_lie.ensures.0 ∙ room-entries a.bounds a.part.now a.entries.now a.firsts.now
                (sym c.strips_fit.ensures ∙ w.if-strips_fit.true) c.new-ix.ensures (sym f.0 ∙ t),
            λ e. (
              laid-there a.bounds c.new-ix.ensures a.part.now _ _ (c.entries_lie.ensures.1 e),
              kept_there a.bounds c.new-ix.ensures a.part.now a.firsts.now (f.1 t),
            ),
          )
      | else-strips_fit w ↦ absurd (cc)
    ]

pub returns-else-firsts_lie : goal.returns-else-firsts_lie
returns-else-firsts_lie c =
    let a = c.args in (
      c.if-firsts_lie.false
          ∙ sym (elim c.if-strips_fit.branch [
            | then-strips_fit w ↦ room_firsts a.bounds a.part.now a.entries.now a.firsts.now
                (sym c.strips_fit.ensures ∙ w.if-strips_fit.true) c.new-ix.ensures
                (sym w.firsts_lie.ensures.0 ∙ (sym w.value-is ∙ c.if-firsts_lie.false))
            | else-strips_fit w ↦ room-strips a.bounds a.part.now a.entries.now a.firsts.now (sym c.strips_fit.ensures ∙ w.if-strips_fit.false)
          ]),
      λ e. never (sym c.if-firsts_lie.false ∙ e),
    )
