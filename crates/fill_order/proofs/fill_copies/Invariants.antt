use Rattle.std.specs.Prelude.{Ok}
use Rattle.filling_laws.specs.fill_laws.inner.Prepared.{given_in}
use Rattle.filling_laws.proofs.fill_laws.Copies.{Going}
use Rattle.fill_order.proofs.fill_copies.Given as goal

abbrev pub invariant-loop-i : goal.invariant-loop-i
invariant-loop-i l = Going (given_in l.g l.rows l.areas l.inset_bounds l.parts l.shapes l.sheet l.sheet_entries l.sheet_starts) l.order l.initial.placed l.initial.entries l.initial.starts l.initial.gains l.initial.room l.initial.tracks l.initial.spots l.initial.firsts
    l.placed l.entries l.starts l.gains l.room l.tracks l.spots l.firsts (Ok tt) l.t l.i
