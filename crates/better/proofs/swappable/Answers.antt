-- `better::swappable` meets its contract. Assumes nothing.
use mathlib.Core.List.{List}
use mathlib.Core.Bool.{not}
use mathlib.Core.Path.{sym, ap, ◌∙◌}
use lib.Ieee.{Float}
use Rattle.numbers.proofs.Truth.{clash}
use Rattle.job.specs.Jobs.{Job}
use borrow.Author.Tests.{eq-eqb, ne_eqb}
use Rattle.better.proofs.MaySwap.{equal_kinds, fills_apart, fills_alike}
use Rattle.better.proofs.swappable.Goals.{then-a-b, else-a-b}
use Rattle.better.proofs.swappable.Goals as goal

pub returns-then-fill_a-fill_b : goal.returns-then-fill_a-fill_b
returns-then-fill_a-fill_b c = λ (j : Job) (areas : List Float) t ha hb. let a = c.args in elim c.if-a-b.branch [
  | then-a-b w ↦ fills_alike j a.rows.now areas t a.a a.b ha hb _ (ap not (ne_eqb a.a a.b w.if-a-b.true)) (sym w.value-is ∙ c.if-fill_a-fill_b.true)
      c.same_priority.ensures
  | else-a-b w ↦ absurd (clash c.if-fill_a-fill_b.true (w.value-is ∙ ap not (eq-eqb a.a a.b w.if-a-b.false)))
]

pub returns-else-fill_a-fill_b : goal.returns-else-fill_a-fill_b
returns-else-fill_a-fill_b c = λ (j : Job) (areas : List Float) t ha hb. let a = c.args in elim c.if-a-b.branch [
  | then-a-b w ↦ c.if-fill_a-fill_b.false ∙ fills_apart j a.rows.now areas t a.a a.b ha hb (sym w.value-is ∙ c.if-fill_a-fill_b.false)
  | else-a-b w ↦ let e = ap not (eq-eqb a.a a.b w.if-a-b.false) in w.value-is ∙ (e ∙ equal_kinds j a.rows.now areas t a.a a.b ha hb e)
]
