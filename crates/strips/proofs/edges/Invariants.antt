use lib.ListN.{drop}
use mathlib.Core.Path.{◌≡◌}
use mathlib.Core.List.{◌++◌}
use Rattle.slabs.specs.Slab.{up}
use Rattle.slabs.specs.inner.Tables.{edge_at}
use Rattle.strips.specs.Strips.{edges}
use Rattle.strips.specs.inner.Tables.{Loops}
use Rattle.strips.proofs.edges.Given as goal

abbrev pub invariant-loop-e : goal.invariant-loop-e
invariant-loop-e l = Loops l.first (drop l.e-index l.ends) l.n × (up (edge_at l.es) 0 l.first ++ edges l.points l.first (drop l.e-index l.ends) ≡ edges l.points 0 l.ends)
