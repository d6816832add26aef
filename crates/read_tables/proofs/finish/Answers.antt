-- `read_tables::finish` meets its contract. Assumes nothing.
use mathlib.Core.Path.{sym, ◌∙◌}
use lib.Ieee.{of_bits}
use borrow.Author.Tests.{leb-true}
use Rattle.numbers.specs.Numbers.{pos_zero}
use Rattle.read_tables.proofs.Storing.{fill-cleared}
use Rattle.read_tables.proofs.Finishing.{four, finish_laid, finish_short}
use Rattle.read_tables.proofs.finish.Goals as goal

pub returns-then-not-all_fit : goal.returns-then-not-all_fit
returns-then-not-all_fit c = λ j e T. finish_short _ _ _ _ _ _ j T (sym c.all_fit.ensures ∙ c.if-not-all_fit.true)

pub returns : goal.returns
unfolding of_bits
returns c = λ j e T. let F = four _ _ _ _ (sym c.all_fit.ensures ∙ c.if-not-all_fit.false) in
    finish_laid _ _ _ _ _ _ j T _ _ _ _ _ (sym c.all_fit.ensures ∙ c.if-not-all_fit.false) e
    (fill-cleared 0 _ _ _ (leb-true _ _ F.0) (c.fill.ensures.after (λ y e. e)))
    (fill-cleared pos_zero _ _ _ (leb-true _ _ F.1) (c.fill-2.ensures.after (λ y e. e)))
    (fill-cleared 0 _ _ _ (leb-true _ _ F.2) (c.fill-3.ensures.after (λ y e. e)))
    (fill-cleared pos_zero _ _ _ (leb-true _ _ F.3) (c.fill-4.ensures.after (λ y e. e)))
