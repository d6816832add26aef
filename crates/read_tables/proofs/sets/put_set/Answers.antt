-- `read_tables::sets::put_set` meets its contract. Assumes nothing.
use native.Mathlib.Omega.{arith}
use Rattle.read_tables.proofs.Putting.{set-put, empty_put}
use Rattle.read_tables.proofs.sets.put_set.Goals as goal

pub returns-in_default : goal.returns-in_default
returns-in_default c = (empty_put c.args.bytes.now c.args.place c.args.w _ _ _ c.in_default.ensures.0 c.store.ensures, (omega arith, omega arith))

pub put_counts-requires : goal.put_counts-requires
put_counts-requires c =
    let d = c.in-Ok.ensures.1 in (omega (arith, d.0, c.read_set.auto.ends, c.requires.2), d.0, omega (arith, c.requires.0.0))

pub overflow_mul-m : goal.overflow_mul-m
overflow_mul-m c = omega (arith, c.in-Ok.ensures.1.1)

pub put_doubles-requires : goal.put_doubles-requires
put_doubles-requires c =
    let d = c.in-Ok.ensures.1 in (omega (arith, d.1, c.read_set.auto.room, c.requires.1), omega (arith, d.1), omega (arith, c.requires.0.1))

pub returns : goal.returns
returns c =
    let d = c.in-Ok.ensures.1 in (
      set-put c.args.bytes.now c.args.place c.args.w _ _ _ c.read_set.new.room c.read_set.new.ends c.in-Ok.n c.in-Ok.m _ _ _ _ c.in-Ok.ensures.0
          (omega (arith, d.0, c.read_set.auto.ends, c.requires.2)) c.put_counts.ensures.0 c.put_doubles.ensures.0,
      (c.put_counts.ensures.1, omega (arith, c.put_doubles.ensures.1, d.1)),
    )
