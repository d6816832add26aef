use mathlib.Core.Path.{sym, ◌∙◌}
use mathlib.Core.Bool.{true≢false}
use Rattle.look_test.proofs.Tested.{all_strips}
use Rattle.look_test.proofs.fair_strips.Goals.{then-all_bounded, else-all_bounded, then-all_bounded-2, else-all_bounded-2}
use Rattle.look_test.proofs.fair_strips.Goals as goal

pub returns-then-all_bounded-3 : goal.returns-then-all_bounded-3
returns-then-all_bounded-3 c = λ e.
    elim c.if-all_bounded-2.branch [
      | then-all_bounded-2 v ↦ elim c.if-all_bounded.branch [
        | then-all_bounded w ↦ record {
          sheets = all_strips _ (c.all_bounded.ensures w.if-all_bounded.true);
          places = all_strips _ (w.all_bounded-then-all_bounded.ensures (sym w.value-is ∙ v.if-all_bounded-2.true));
          insets = all_strips _ (v.all_bounded-then-all_bounded-2.ensures (sym v.value-is ∙ c.if-all_bounded-3.true));
          aparts = all_strips _ (c.all_bounded-then-all_bounded-3.ensures e);
        }
        | else-all_bounded w ↦ absurd (true≢false (sym v.if-all_bounded-2.true ∙ (w.value-is ∙ w.if-all_bounded.false)))
      ]
      | else-all_bounded-2 v ↦ absurd (true≢false (sym c.if-all_bounded-3.true ∙ (v.value-is ∙ v.if-all_bounded-2.false)))
    ]
