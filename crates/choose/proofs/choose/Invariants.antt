use Rattle.choose.proofs.Turns.{Picks}
use Rattle.choose.proofs.choose.Given as goal

abbrev pub invariant-loop-o : goal.invariant-loop-o
invariant-loop-o l = Picks l.g l.inset_bounds l.parts l.shapes l.sheet l.placed l.initial.room l.slot l.n l.initial.tracks l.room l.tracks l.best l.o
