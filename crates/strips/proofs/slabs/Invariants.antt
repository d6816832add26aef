use mathlib.Core.Path.{◌≡◌}
use Rattle.slabs.specs.Slab.{up}
use Rattle.slabs.specs.inner.Tables.{down, edge_at, hold}
use Rattle.strips.specs.Strips.{distinct, slabs}
use Rattle.slabs.proofs.xs.Lines.{at}
use Rattle.strips.proofs.SlabWalk.{to_come_lem}
use Rattle.strips.proofs.slabs.Given as goal

abbrev pub invariant-loop-k : goal.invariant-loop-k
invariant-loop-k l = to_come_lem (up (edge_at l.es) 0 l.count) l.sheet l.bottom l.top (record { room = l.room; count = l.held }) (at l.line) l.xa l.k ≡ hold (record { room = l.initial.room; count = l.from }) (slabs (up (edge_at l.es) 0 l.count) l.sheet l.bottom l.top (distinct (down (at l.line) l.m)))
