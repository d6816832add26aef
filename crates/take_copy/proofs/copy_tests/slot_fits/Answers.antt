-- `take_copy::copy_tests::slot_fits` meets its contract. Assumes nothing.
use native.Mathlib.Omega.{arith}
use Rattle.take_copy.proofs.copy_tests.Testing.{told-few, told_slot}
use Rattle.take_copy.proofs.copy_tests.slot_fits.Goals as goal

pub bounds_at-b-requires : goal.bounds_at-b-requires
bounds_at-b-requires c = let h = c.requires.3 in let l = c.requires.4 in omega arith

pub overflow_mul-slot : goal.overflow_mul-slot
overflow_mul-slot c = let h = c.requires.3 in let t = c.requires.5 in omega arith

pub offset_bounds-tracks-slot : goal.offset_bounds-tracks-slot
offset_bounds-tracks-slot c = let h = c.requires.3 in let t = c.requires.5 in omega arith

pub bounds-tracks-slot : goal.bounds-tracks-slot
bounds-tracks-slot c = let h = c.requires.3 in let t = c.requires.5 in omega arith

pub overflow_mul-slot-2 : goal.overflow_mul-slot-2
overflow_mul-slot-2 c = let h = c.requires.3 in let t = c.requires.5 in omega arith

pub overflow_add-slot : goal.overflow_add-slot
overflow_add-slot c = let h = c.requires.3 in let t = c.requires.5 in omega arith

pub offset_bounds-tracks-slot-2 : goal.offset_bounds-tracks-slot-2
offset_bounds-tracks-slot-2 c = let h = c.requires.3 in let t = c.requires.5 in omega arith

pub bounds-tracks-slot-2 : goal.bounds-tracks-slot-2
bounds-tracks-slot-2 c = let h = c.requires.3 in let t = c.requires.5 in omega arith

pub track_fits-requires : goal.track_fits-requires
track_fits-requires c = let a = c.args in
    let p = c.requires in (
      told-few a.bounds a.resolution a.inset_bounds.now a.slot c.bounds_at-b.ensures c.new-k.ensures
          p.0 p.1 p.6,
      let t = p.2 in let s = p.3 in omega arith,
    )

pub returns : goal.returns
returns c = let a = c.args in
    told_slot a.bounds a.resolution a.inset_bounds.now a.slot c.bounds_at-b.ensures
    c.new-k.ensures a.taken a.tracks.now c.requires.3
    c.track_fits.ensures
