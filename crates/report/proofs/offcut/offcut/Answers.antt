-- `offcut`: zero where the difference is below it. Assumes nothing.
use mathlib.Core.Path.{◌≡◌, sym, ap, ◌∙◌}
use mathlib.Core.Bool.{Bool, true, false, cond}
use lib.Ieee.{Float, lt, of_bits}
use Rattle.numbers.specs.Numbers.{◌⊖◌, pos_zero}
use Rattle.filling.specs.Accounts.{not_below_zero}
use Rattle.report.proofs.offcut.offcut.Goals as goal

-- the test taken as it was found
below : (edge r reach : Float) → r ≡ reach → (b : Bool) → lt (edge ⊖ r) pos_zero ≡ b → cond b pos_zero (edge ⊖ r) ≡ not_below_zero (edge ⊖ reach)
unfolding not_below_zero
below edge r reach e b t = ap (λ (c : Bool). cond c pos_zero (edge ⊖ r)) (sym t) ∙ ap (λ (m : Float). cond (lt (edge ⊖ m) pos_zero) pos_zero (edge ⊖ m)) e

pub returns-then-left : goal.returns-then-left
unfolding of_bits
returns-then-left c = let a = c.args in
    below a.sheet_right c.reach-end.result _ c.reach-end.ensures true c.if-left.true

pub returns : goal.returns
unfolding of_bits
returns c = let a = c.args in
    below a.sheet_right c.reach-end.result _ c.reach-end.ensures false c.if-left.false
