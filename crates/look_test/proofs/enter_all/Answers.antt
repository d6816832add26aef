-- `look_test::enter_all` meets its contract. Assumes nothing.
use native.Mathlib.Omega.{arith}
use mathlib.Core.Path.{◌∙◌}
use lib.ListN.{length}
use Rattle.index.proofs.NewIndex.{none-laid}
use Rattle.look_test.proofs.Tested.{capacity-room, all_zero, replicated, entered}
use Rattle.look_test.proofs.enter_all.Goals as goal

pub enter_copy-requires : goal.enter_copy-requires
enter_copy-requires c = let g = c.args in
    let p = c.requires in
    let cap = c.capacity-n in
    let z = all_zero _ (replicated (length g.starts.now) _ (c.fill.ensures.after (λ y e. e))) in
    let room = capacity-room g.standing.now in (
      omega arith,
      omega (arith, cap.ensures),
      p.2,
      none-laid g.ix g.standing.now g.entries.now _ (c.fill.auto.self ∙ p.1) z,
      omega
          (arith, cap.ensures, p.0),
      omega (arith, cap.ensures, p.0, p.3),
    )

pub returns : goal.returns
returns c = let g = c.args in
    let cap = c.capacity-n in
    let p = c.requires in
    let E = c.enter_copy in
    let room = capacity-room g.standing.now in
    λ e. entered g.ix g.standing.now _ _ _ _ _ cap.ensures (omega (arith, cap.ensures, p.0, p.3)) E.auto.firsts
    (E.ensures.1 e) (E.ensures.2 e)
