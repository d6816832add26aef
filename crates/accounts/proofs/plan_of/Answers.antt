-- `accounts::plan_of` meets its contract: what each part counts is what the definition says. Assumes nothing.
use Rattle.std.proofs.Common.{get_or, refl, ◌∙◌, arith}
use Rattle.accounts.specs.inner.Counting.{stands_in}
use Rattle.accounts.proofs.Counts.{stands-most, sum-few}
use Rattle.accounts.proofs.Turns.{sums_few, starts_are}
use Rattle.accounts.proofs.Plans.{plan_is, positions_are}
use Rattle.accounts.proofs.plan_of.Goals as goal

pub count-placed-requires : goal.count-placed-requires
count-placed-requires c = let p = c.requires in (p.2, p.3, λ i h. let b = c.requires.7 i h in let k = c.requires.0 in omega arith, refl, refl, p.8)

pub sum_up-requires : goal.sum_up-requires
sum_up-requires c = let a = c.args in (
  c.count-placed.auto.placed_of,
  refl,
  sums_few a.order.now a.orientation.now a.taken c.count-placed.new.placed_of c.count-placed.ensures.1
      c.requires.8,
)

pub lay-requires : goal.lay-requires
lay-requires c = let p = c.requires in let a = c.args in (
  p.2,
  p.3,
  p.4,
  p.5,
  λ i h. let b = c.requires.7 i h in let k = c.requires.0 in omega arith,
  c.sum_up.ensures ∙
      starts_are a.order.now a.orientation.now a.taken c.count-placed.new.placed_of c.count-placed.ensures.1,
  refl,
  p.9,
  p.10,
)

pub overflow_sub-result : goal.overflow_sub-result
overflow_sub-result c = let a = c.args in let e = c.count-placed.ensures.0 in let m = sum-few (stands_in a.orientation.now) a.taken
    (λ i. stands-most (get_or a.orientation.now i 0)) in
    omega arith

pub returns : goal.returns
returns c = let a = c.args in let n = c.count-placed in let p = c.requires in
    λ j areas s h k t u. (
      plan_is j a.rows.now areas s a.order.now a.orientation.now a.x.now a.y.now a.gap.now a.look_counts.now a.kinds
          a.taken h k t a.right a.unplaced_area a.offcut a.improvements n.result n.new.placed_of n.new.unplaced_of
          c.look_table.new.table u n.ensures.0 n.ensures.1 n.ensures.2 c.look_table.ensures,
      positions_are j a.rows.now areas s a.order.now a.orientation.now a.x.now a.y.now a.gap.now a.look_counts.now a.kinds
          a.taken h k t c.lay.new.room a.room.now (c.lay.ensures a.kinds p.0 p.7),
    )
