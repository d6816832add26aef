use mathlib.Core.Path.{◌≡◌}
use Rattle.search.specs.columns.inner.Stands.{column_x}
use Rattle.layouts.specs.Layouts.{among_columns}
use Rattle.placement.proofs.range.among.Given as goal

abbrev pub invariant-loop-c : goal.invariant-loop-c
invariant-loop-c l = among_columns (column_x l.k) l.c l.x ≡ among_columns (column_x l.k) l.last l.x
