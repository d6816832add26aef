-- `take_copy::copy_tests::copy_fits` meets its contract. Assumes nothing.
use mathlib.Core.Bool.{not}
use mathlib.Core.Path.{sym, ◌∙◌, ap}
use Rattle.consistent.proofs.strip_tests.Bounding.{passed, failed}
use Rattle.take_copy.proofs.copy_tests.Testing.{told-strips, copy-strips, copy-layout, copy_tracks, copy_outcome}
use Rattle.take_copy.proofs.copy_tests.copy_fits.Goals as goal

pub returns-then-not-strips_fit : goal.returns-then-not-strips_fit
returns-then-not-strips_fit c = let a = c.args in
    sym (copy-strips a.g a.copy a.taken a.strips a.step a.inset_bounds.now a.placed.now a.tracks.now
    (failed (told-strips a.g a.copy a.taken a.strips a.step a.inset_bounds.now a.placed.now a.tracks.now
    c.strips_fit.ensures)
    (ap not c.if-not-strips_fit.true)))

pub returns-then-not-layout_fits : goal.returns-then-not-layout_fits
returns-then-not-layout_fits c = let a = c.args in
    sym (copy-layout a.g a.copy a.taken a.strips a.step a.inset_bounds.now a.placed.now a.tracks.now
    (passed (told-strips a.g a.copy a.taken a.strips a.step a.inset_bounds.now a.placed.now a.tracks.now
    c.strips_fit.ensures)
    (ap not c.if-not-strips_fit.false)) (failed c.layout_fits.ensures (ap not c.if-not-layout_fits.true)))

pub tracks_fit-requires : goal.tracks_fit-requires
tracks_fit-requires c = let p = c.requires in (p.2, p.3, p.4, p.5, p.6, p.7, p.8)

pub returns-then-not-tracks_fit : goal.returns-then-not-tracks_fit
returns-then-not-tracks_fit c = let a = c.args in
    sym (copy_tracks a.g a.copy a.taken a.strips a.step a.inset_bounds.now a.placed.now a.tracks.now
    (passed (told-strips a.g a.copy a.taken a.strips a.step a.inset_bounds.now a.placed.now a.tracks.now
    c.strips_fit.ensures)
    (ap not c.if-not-strips_fit.false)) (passed c.layout_fits.ensures (ap not c.if-not-layout_fits.false))
    (failed c.tracks_fit.ensures (ap not c.if-not-tracks_fit.true)))

pub returns : goal.returns
returns c = let a = c.args in
    c.outcome_fits.ensures ∙ copy_outcome a.g a.copy a.taken a.strips a.step a.inset_bounds.now a.placed.now a.tracks.now
    (passed (told-strips a.g a.copy a.taken a.strips a.step a.inset_bounds.now a.placed.now a.tracks.now
    c.strips_fit.ensures)
    (ap not c.if-not-strips_fit.false)) (passed c.layout_fits.ensures
    (ap not c.if-not-layout_fits.false)) (passed c.tracks_fit.ensures (ap not c.if-not-tracks_fit.false))
