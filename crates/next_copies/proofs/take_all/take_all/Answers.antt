-- `next_copies::take_all::take_all` meets its contract. Assumes nothing.
use Rattle.rooms.proofs.Zeroing.{zeroed-doubles}
use native.Mathlib.Omega.{arith}
use native.Mathlib.Nat.{le_of_eq}
use mathlib.Core.Path.{refl, sym, ◌∙◌}
use Rattle.step.proofs.Steps.{room-zeros}
use Rattle.next_copies.proofs.take_all.Begin.{spread_of}
use Rattle.next_copies.proofs.take_all.Ending.{ended, short_of, answer_is}
use Rattle.next_copies.proofs.take_all.take_all.Goals as goal

pub slice_bounds-run_state-end : goal.slice_bounds-run_state-end
slice_bounds-run_state-end c = sym c.tracks_of-tracks.ensures.0

pub slice_bounds-run_state-end-2 : goal.slice_bounds-run_state-end-2
slice_bounds-run_state-end-2 c = let l = c.well_formed.1.1.1.1.0.1.1.1.1.1.1.1.1.0.1.1 in sym l.0.1.0.1

pub slice_bounds-run_state-end-3 : goal.slice_bounds-run_state-end-3
slice_bounds-run_state-end-3 c = let l = c.well_formed.1.1.1.1.0.1.1.1.1.1.1.1.1.0.1.1 in sym l.1.0.1.0.1

pub slice_bounds-run_state-end-4 : goal.slice_bounds-run_state-end-4
slice_bounds-run_state-end-4 c = let l = c.well_formed.1.1.1.1.0.1.1.1.1.1.1.1.1.0.1.1 in sym l.1.1.0.1.0.1

pub slice_bounds-run_state-end-5 : goal.slice_bounds-run_state-end-5
slice_bounds-run_state-end-5 c = let l = c.well_formed.1.1.1.1.0.1.1.1.1.1.1.1.1.0.1.1 in sym l.1.1.1.0.1.0.1

pub run_state-run-requires : goal.run_state-run-requires
run_state-run-requires c = let p = c.requires in
    let s = c.args.state in
    let t = c.tracks_of-tracks in
    let l = c.well_formed.1.1.1.1.0.1.1.1.1.1.1.1.1.0.1.1 in (
      (p.0, p.1),
      spread_of s t.result t.ensures.1 t.ensures.2,
      record {
        orientations = l.0.1.0.1;
        xs = l.1.0.1.0.1;
        ys = l.1.1.0.1.0.1;
        gaps = l.1.1.1.0.1.0.1;
      },
      le_of_eq (sym t.ensures.0),
    )

pub slice_bounds-state_after-end : goal.slice_bounds-state_after-end
slice_bounds-state_after-end c = sym (c.run_state-run.auto.tracks ∙ c.tracks_of-tracks.ensures.0)

pub state_after-after-requires : goal.state_after-after-requires
state_after-after-requires c = let B = c.requires.1 in (
  le_of_eq (sym (c.run_state-run.auto.tracks ∙ c.tracks_of-tracks.ensures.0)),
  omega
      (arith, B.left, B.few, c.run_state-run.ensures.1),
)

pub shape_of-placed : goal.shape_of-placed
shape_of-placed c = c.run_state-run.auto.placed

pub shape_of-entries : goal.shape_of-entries
shape_of-entries c = c.run_state-run.auto.entries

pub shape_of-starts : goal.shape_of-starts
shape_of-starts c = c.run_state-run.auto.starts

pub shape_of-intervals : goal.shape_of-intervals
shape_of-intervals c = c.fill.auto.self ∙ c.run_state-run.auto.room

pub shape_of-firsts : goal.shape_of-firsts
shape_of-firsts c = c.run_state-run.auto.firsts

pub returns : goal.returns
returns c = let a = c.args in
    let r = c.run_state-run in
    let o = r.result in
    λ j B m h.
    answer_is o.took _ _ c.last_verdict.ensures _ _ c.state_after-after.ensures _ _ _
    ((zeroed-doubles _ c.fill.ensures.after) ∙ room-zeros a.intervals.now _ r.auto.room)
    ∙ ended j _ _ a.intervals.now a.n o.took (omega (arith, m, r.ensures.1)) o.last.verdict o.last.fits _
    (λ v l t. short_of j.copies a.state.taken a.most o.took a.n h (r.ensures.2 v t) l) (r.ensures.0 j a.intervals.now a.n B refl m)
