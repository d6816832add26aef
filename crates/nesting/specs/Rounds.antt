-- Document 01, "Order and swaps": the rounds and their swaps. Definitions only. Assumes nothing.
use Rattle.std.specs.Prelude.{ℕ, zero, suc, ◌%◌, Bool, true, false, not, ◌&&◌, ◌||◌, List, [], length, get_or, set, leb, eqb, pos}
use Rattle.std.specs.Bool.{beq}
use Rattle.std.specs.Float.Ieee.{lt, eq}
use Rattle.numbers.specs.Numbers.{pos_zero}
use Rattle.random.specs.SplitMix64.{next_state, mixed}
use Rattle.kinds.specs.Kinds.{Kind}
use Rattle.job.specs.Jobs.{Job}
use Rattle.filling.specs.declared.State.{State}
use Rattle.filling.specs.declared.Layout.{Layout}
use Rattle.filling.specs.declared.Refusal.{Refusal}
use Rattle.filling.specs.Rooms.{Lent}
use Rattle.filling.specs.Fill.{Filling, filled, stopped, fill_order}
use Rattle.nesting.specs.CopyOrder.{same_priority, copy_order}

-- nesting.rs's better_than: "a smaller unplaced area, or equal area and smaller right"
unfoldable pub better_than : Layout → Layout → Bool
better_than a b =
    lt a.unplaced_area b.unplaced_area || eq a.unplaced_area b.unplaced_area && lt a.right b.right

-- the state of the draws, the order and its filling that are kept so far, and the improvements
pub record Kept : Type 0 where
  pub random : ℕ
  pub order : List ℕ
  pub state : State
  pub improvements : ℕ

-- "In a filling the first met is given": a refusal met in any round is the plan's
pub data Swaps : Type 0 where
  kept : Kept → Swaps
  ended : Refusal → Swaps

-- a kind that the job lacks
unfoldable pub no_kind : Kind
no_kind = record { quantity = 0; fill = false; priority = pos 0; area = pos_zero; orientations = [] }

-- "If the kinds are equal, or differ in fill or priority, the round ends"
unfoldable pub swappable : List Kind → ℕ → ℕ → Bool
swappable ks a b =
    let k = get_or ks a no_kind in
    let l = get_or ks b no_kind in
    not (eqb a b) && (beq k.fill l.fill && same_priority k l)

-- "Else they are swapped": the copies at i and j
unfoldable pub swapped : ℕ → ℕ → List ℕ → List ℕ
swapped i j order = set (set order i (get_or order j 0)) j (get_or order i 0)

-- "is kept and counted as an improvement, else swapped back"
unfoldable pub judged : ℕ → List ℕ → Kept → Filling → Swaps
judged random order q (stopped r) = ended r
judged random order q (filled s) =
    elim (better_than s.layout q.state.layout) [
      | true ↦ kept (record { random = random; order = order; state = s; improvements = suc q.improvements })
      | false ↦ kept (record { random = random; order = q.order; state = q.state; improvements = q.improvements })
    ]

-- "each round draws i, then j, modulo their number. If .., the round ends, both draws spent. Else they are swapped and filled anew"
unfoldable pub one_round : Job → Lent → Kept → Swaps
one_round j l q =
    let first = next_state q.random in
    let second = next_state first in
    let a = mixed first % length q.order in
    let b = mixed second % length q.order in
    elim (swappable j.kinds (get_or q.order a 0) (get_or q.order b 0)) [
      | true ↦ let order = swapped a b q.order in judged second order q (fill_order j l order)
      | false ↦ kept (record { random = second; order = q.order; state = q.state; improvements = q.improvements })
    ]

-- so many rounds; a refusal ends them
unfoldable pub rounds : Job → Lent → ℕ → Swaps → Swaps
rounds j l zero q = q
rounds j l (suc n) (ended r) = ended r
rounds j l (suc n) (kept q) = rounds j l n (one_round j l q)

-- the first filling
unfoldable pub first_kept : Job → List ℕ → Filling → Swaps
first_kept j order (stopped r) = ended r
first_kept j order (filled s) = kept (record { random = j.header.seed; order = order; state = s; improvements = 0 })

-- "With two or more copies, each round .."
unfoldable pub swap_search : Job → Lent → Swaps
swap_search j l =
    let order = copy_order j in
    let q = first_kept j order (fill_order j l order) in
    elim (leb 2 (length order)) [ true ↦ rounds j l j.header.rounds q | false ↦ q ]
