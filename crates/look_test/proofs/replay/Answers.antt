-- `look_test::replay` meets its contract. Assumes nothing.
use Rattle.look_test.proofs.replay.Goals as goal

pub look_fresh-requires : goal.look_fresh-requires
look_fresh-requires c = let p = c.requires in
    (c.fair_column.ensures c.if-fair_column.true, c.fair_strips.ensures c.if-fair_strips.true, p.1, p.2)

pub shape_of-out-then-fair_strips : goal.shape_of-out-then-fair_strips
shape_of-out-then-fair_strips c = c.look_fresh.auto.out
