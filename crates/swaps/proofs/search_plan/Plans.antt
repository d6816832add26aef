-- What the search's plan is: of a given order without rounds, the filling's; of the copies in their order, the whole plan's. Assumes nothing.
use Prim.Native.Nat.{ℕ}
use mathlib.Core.Path.{◌≡◌, refl, ap, sym, ◌∙◌}
use mathlib.Core.Bool.{Bool, true, false}
use mathlib.Core.List.{List}
use lib.ListN.{length}
use lib.Dec.{leb}
use Rattle.job.specs.Jobs.{Job}
use Rattle.filling.specs.Rooms.{Lent}
use Rattle.filling.specs.Fill.{Filling, filled, stopped, fill_order, planned_by}
use Rattle.nesting.specs.CopyOrder.{copy_order}
use Rattle.nesting.specs.Rounds.{Swaps, rounds, first_kept, swap_search}
use Rattle.nesting.specs.Nest.{nested}
use Rattle.swaps.specs.inner.Turns.{rounds_for, searched}

first_planned : (j : Job) (l : Lent) (order : List ℕ) (f : Filling) → nested j l (first_kept j order f) ≡ planned_by j l f
unfolding nested first_kept planned_by
first_planned j l order (filled s) = refl
first_planned j l order (stopped k) = refl

no_rounds : (j : Job) (l : Lent) (c : ℕ) (s : Swaps) → rounds j l (rounds_for c 0) s ≡ s
unfolding rounds
no_rounds j l c s = go (leb 2 c)
  where
    go : (t : Bool) → ◌≡◌ {A = Swaps} (rounds j l (elim t [ true ↦ 0 | false ↦ 0 ]) s) s
    go true = refl
    go false = refl

-- the plan of a filling in a given order
pub filling_planned : (j : Job) (l : Lent) (order : List ℕ) → nested j l (searched j l order 0) ≡ planned_by j l (fill_order j l order)
filling_planned j l order =
    ap (nested j l) (no_rounds j l (length order) (first_kept j order (fill_order j l order))) ∙ first_planned j l order (fill_order j l order)

two_or_more : (j : Job) (l : Lent) (n m : ℕ) (q : Swaps) → (elim (leb 2 m) [ true ↦ rounds j l n q | false ↦ q ]) ≡ rounds j l (rounds_for m n) q
unfolding rounds
two_or_more j l n m q = go (leb 2 m)
  where
    go : (t : Bool) → ◌≡◌ {A = Swaps} (elim t [ true ↦ rounds j l n q | false ↦ q ]) (rounds j l (elim t [ true ↦ n | false ↦ 0 ]) q)
    go true = refl
    go false = refl

-- the swap search
pub search-whole : (j : Job) (l : Lent) (order : List ℕ) (n : ℕ) → order ≡ copy_order j → j.header.rounds ≡ n → searched j l order n ≡ swap_search j l
unfolding swap_search
search-whole j l order n eo en =
    ap (λ (o : List ℕ). searched j l o n) eo
    ∙ (ap (searched j l (copy_order j)) (sym en)
    ∙ sym (two_or_more j l j.header.rounds (length (copy_order j)) (first_kept j (copy_order j) (fill_order j l (copy_order j)))))
