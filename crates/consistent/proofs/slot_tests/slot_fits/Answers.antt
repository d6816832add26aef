-- `consistent::slot_tests::slot_fits` meets its contract. Assumes nothing.
use mathlib.Core.Path.{sym, ◌∙◌}
use Rattle.consistent.specs.slot_tests.inner.Slots.{slots}
use Rattle.consistent.proofs.slot_tests.Testing.{told-few}
use Rattle.consistent.proofs.slot_tests.slot_fits.Goals.{then-part_fits, else-part_fits}
use Rattle.consistent.proofs.slot_tests.slot_fits.Goals as goal

pub track_fits-requires : goal.track_fits-requires
track_fits-requires c =
    let a = c.args in (
      elim c.if-part_fits.branch [
        | then-part_fits w ↦ told-few (slots a.bounds a.resolution a.taken a.inset_bounds.now a.parts.now a.apart.now a.inset.now a.next_column.now a.look_counts.now) a.slot c.bounds_at-b.ensures c.new.ensures c.requires.0
            (w.shape_fits.ensures.1 (sym w.value-is ∙ c.if-shape_fits.true))
        | else-part_fits w ↦ absurd (cc)
      ],
      c.requires.0.few,
    )
