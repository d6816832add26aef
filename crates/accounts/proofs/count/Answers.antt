-- `accounts::count` meets its contract: both tables count the copies before i. Assumes nothing.
use Rattle.std.proofs.Common.{◌≡◌, ℕ, ◌+◌, ◌-◌, get_or, sym, refl, ap, ◌∙◌, ap₂, arith, length-set}
use Rattle.accounts.specs.inner.Counting.{sum_to, kind_to, stands_in, misses_in, by_kind}
use Rattle.accounts.proofs.Counts.{stands-most, misses-rest, misses-most, sum-none, sum-next, sum-few, counted_none, counted_next, counted-most, counted-table}
use Rattle.accounts.proofs.count.Goals as goal

pub loop-i-init : goal.loop-i-init
loop-i-init c = let a = c.args in (
  omega arith,
  counted_none (stands_in a.orientation.now) a.order.now a.placed_of.now c.requires.3,
  counted_none (misses_in a.orientation.now) a.order.now a.unplaced_of.now c.requires.4,
  sum-none (stands_in a.orientation.now),
  refl,
  refl,
)

pub overflow_add-placed_of : goal.overflow_add-placed_of
overflow_add-placed_of c = let l = c.loop-i in
    let a = c.args in
    let b = c.requires.2 l.i (omega arith) in
    let e = c.stands-s.ensures in
    let m = stands-most (get_or a.orientation.now l.i 0) in
    let g = counted-most (stands_in a.orientation.now) a.order.now l.placed_of l.i l.invariant.1 (λ i. stands-most (get_or a.orientation.now i 0)) (get_or a.order.now l.i 0) b in
    omega arith

pub overflow_sub-unplaced_of : goal.overflow_sub-unplaced_of
overflow_sub-unplaced_of c = let l = c.loop-i in
    let a = c.args in
    let b = c.requires.2 l.i (omega arith) in
    let e = c.stands-s.ensures in
    let m = stands-most (get_or a.orientation.now l.i 0) in
    omega arith

pub overflow_add-unplaced_of : goal.overflow_add-unplaced_of
overflow_add-unplaced_of c = let l = c.loop-i in
    let a = c.args in
    let b = c.requires.2 l.i (omega arith) in
    let e = c.stands-s.ensures in
    let m = stands-most (get_or a.orientation.now l.i 0) in
    let g = counted-most (misses_in a.orientation.now) a.order.now l.unplaced_of l.i l.invariant.2 (λ i. misses-most (get_or a.orientation.now i 0)) (get_or a.order.now l.i 0) b in
    omega arith

pub overflow_add-placed : goal.overflow_add-placed
overflow_add-placed c = let l = c.loop-i in
    let a = c.args in
    let b = c.requires.2 l.i (omega arith) in
    let e = c.stands-s.ensures in
    let m = stands-most (get_or a.orientation.now l.i 0) in
    let y = l.invariant.3 in
    let w = sum-few (stands_in a.orientation.now) l.i (λ i. stands-most (get_or a.orientation.now i 0)) in
    omega arith

pub loop-i-preserved : goal.loop-i-preserved
loop-i-preserved c = let l = c.loop-i in let p = c.requires in let a = c.args in let e = c.stands-s.ensures in (
  omega arith,
  counted_next (stands_in a.orientation.now) a.order.now l.placed_of l.i c.stands-s.result l.invariant.1 (p.2 l.i (omega arith)) e,
  counted_next (misses_in a.orientation.now) a.order.now l.unplaced_of l.i (1 - c.stands-s.result) l.invariant.2 (p.2 l.i (omega arith)) (ap (λ (n : ℕ). 1 - n) e ∙ misses-rest (get_or a.orientation.now l.i 0)),
  ap₂ ◌+◌ l.invariant.3 e ∙ sym (sum-next (stands_in a.orientation.now) l.i),
  simp length-set l.invariant.4,
  simp length-set l.invariant.5,
)

pub returns : goal.returns
returns c = let l = c.loop-i in let a = c.args in
    let e : l.i ≡ a.n = let g = l.invariant.0 in omega arith in (
      l.invariant.3 ∙ ap (sum_to (stands_in a.orientation.now)) e,
      counted-table (stands_in a.orientation.now) a.order.now l.placed_of l.i l.invariant.1 ∙ ap (λ (n : ℕ). by_kind (λ k. kind_to (stands_in a.orientation.now) a.order.now k n)) e,
      counted-table (misses_in a.orientation.now) a.order.now l.unplaced_of l.i l.invariant.2 ∙ ap (λ (n : ℕ). by_kind (λ k. kind_to (misses_in a.orientation.now) a.order.now k n)) e,
    )
