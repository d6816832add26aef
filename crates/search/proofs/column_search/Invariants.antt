use Rattle.search.proofs.Turns.{Goes}
use Prim.Native.Nat.{◌+◌, ◌-◌}
use Rattle.search.proofs.column_search.Given as goal

abbrev pub invariant-loop-c : goal.invariant-loop-c
invariant-loop-c l = Goes l.k l.inset l.apart l.sheet l.placed l.initial.room l.slot l.last l.from l.initial.tracks l.room l.tracks l.c

abbrev pub decreases-loop-c : goal.decreases-loop-c
decreases-loop-c l = l.last + 1 - l.c
