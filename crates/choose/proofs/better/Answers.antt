use mathlib.Core.Path.{sym, ◌∙◌}
use Rattle.choose.proofs.Turns.{first-true, first-false}
use Rattle.choose.proofs.better.Goals as goal

pub returns-then-wins : goal.returns-then-wins
returns-then-wins c =
    rw (c.in_ok-a.was, c.in-Some.is, c.in_ok-b.was, c.in-Some-2.is) (sym (first-true _ _ (sym c.wins.ensures ∙ c.if-wins.true)))

pub returns-else-wins : goal.returns-else-wins
returns-else-wins c =
    rw (c.in_ok-a.was, c.in-Some.is, c.in_ok-b.was, c.in-Some-2.is) (sym (first-false _ _ (sym c.wins.ensures ∙ c.if-wins.false)))
