use Prim.Native.Nat.{◌-◌}
use mathlib.Core.Path.{◌≡◌}
use mathlib.Core.List.{◌++◌}
use Rattle.slabs.specs.Slab.{up}
use Rattle.slabs.specs.inner.Tables.{edge_at}
use Rattle.strips.specs.Strips.{loop_edges}
use Rattle.strips.proofs.loop_edges.Given as goal

abbrev pub invariant-loop-i : goal.invariant-loop-i
invariant-loop-i l = up (edge_at l.es) 0 l.i ++ loop_edges l.points l.first l.i (l.end - l.i) ≡ up (edge_at l.initial.es) 0 l.first ++ loop_edges l.points l.first l.first (l.end - l.first)
