use native.Mathlib.Omega.{arith}
use Rattle.look.proofs.height.Rearranging.{rearranged-refl, rearranged_trans}
use Rattle.look.proofs.height.next_turn.Goals as goal

pub sort-requires : goal.sort-requires
sort-requires c = let e = c.heapify.ensures.size in omega arith

pub returns-then-turn-eq-SORTED_AT : goal.returns-then-turn-eq-SORTED_AT
returns-then-turn-eq-SORTED_AT c = rearranged_trans _ _ _ _ c.heapify.ensures c.sort.ensures

pub returns-then-turn : goal.returns-then-turn
returns-then-turn c = rearranged-refl _ _

pub returns : goal.returns
returns c = rearranged-refl _ _
