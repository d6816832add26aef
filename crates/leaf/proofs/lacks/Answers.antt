-- `leaf::lacks` meets its contract. Assumes nothing.
use mathlib.Core.Path.{◌∙◌}
use borrow.Author.Tests.{le-leb}
use Rattle.leaf.proofs.ByKind.{no_kind, by_rows}
use Rattle.leaf.proofs.lacks.Goals as goal

pub returns-then-kinds-kind : goal.returns-then-kinds-kind
returns-then-kinds-kind c = let a = c.args in
    λ j areas t e. le-leb a.kinds a.kind c.if-kinds-kind.true ∙ no_kind j a.rows.now areas t a.kinds a.kind a.orientation e c.if-kinds-kind.true

pub returns-else-kinds-kind : goal.returns-else-kinds-kind
returns-else-kinds-kind c = let a = c.args in
    λ j areas t e. by_rows j a.rows.now areas t a.kinds a.kind a.orientation e c.if-kinds-kind.false
