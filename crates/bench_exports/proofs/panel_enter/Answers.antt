-- `bench_exports::panel_enter` meets its contract. Assumes nothing.
use Rattle.bench_exports.proofs.panel_enter.Goals as goal

pub shape_of-entries : goal.shape_of-entries
shape_of-entries c = c.enter_copy.auto.entries

pub shape_of-starts : goal.shape_of-starts
shape_of-starts c = c.enter_copy.auto.starts

pub shape_of-gains : goal.shape_of-gains
shape_of-gains c = c.enter_copy.auto.gains

pub shape_of-firsts : goal.shape_of-firsts
shape_of-firsts c = c.enter_copy.auto.firsts

pub returns : goal.returns
returns c = let e = c.enter_copy.ensures in (e.0, e.2, e.3)
