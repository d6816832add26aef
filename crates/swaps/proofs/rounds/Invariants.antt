use Rattle.filling_laws.specs.fill_laws.inner.Prepared.{given_in}
use Rattle.swaps.proofs.Going.{Going}
use Rattle.swaps.proofs.rounds.Given as goal

abbrev pub invariant-loop : goal.invariant-loop
invariant-loop l =
    Going (given_in l.g l.rows l.areas l.inset_bounds l.parts l.shapes l.sheet l.sheet_entries l.sheet_starts) l.seed l.turns l.fn.order
    l.fn.placed l.fn.entries l.fn.room l.fn.firsts l.counter (record { best = l.best; order = l.order; tracks = l.tracks; spots = l.spots })
