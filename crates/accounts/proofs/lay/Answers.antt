-- `accounts::lay` meets its contract: the first i copies are counted and laid. Assumes nothing.
use Rattle.std.proofs.Common.{◌≡◌, ℕ, refl, ◌∙◌, subst, arith}
use Rattle.accounts.specs.inner.Counting.{stands_in}
use Rattle.accounts.specs.inner.Laying.{state_of}
use Rattle.accounts.proofs.Counts.{counted_none}
use Rattle.accounts.proofs.ByKind.{Filled, filled_none, filled-end}
use Rattle.accounts.proofs.Turns.{put-fits, put-counted, put-filled}
use Rattle.accounts.proofs.lay.Goals as goal

pub loop-i-init : goal.loop-i-init
loop-i-init c = let a = c.args in (
  omega arith,
  counted_none (stands_in a.orientation.now) a.order.now a.copies.now c.requires.6,
  filled_none
      (state_of a.order.now a.orientation.now a.x.now a.y.now a.gap.now) a.n a.room.now,
  refl,
)

pub put-requires : goal.put-requires
put-requires c = let l = c.loop-i in let p = c.requires in let a = c.args in
    put-fits a.order.now a.orientation.now a.x.now a.y.now a.gap.now a.n a.starts.now l.copies a.room.now l.room l.i (omega arith)
    (p.4 l.i (omega arith)) p.5 p.7 l.invariant.1 l.invariant.2

pub loop-i-preserved : goal.loop-i-preserved
loop-i-preserved c = let l = c.loop-i in let p = c.requires in let a = c.args in let u = c.put in (
  omega arith,
  put-counted a.order.now a.orientation.now a.x.now a.y.now a.gap.now a.n a.starts.now l.copies a.room.now l.room
      l.i (omega arith) (p.4 l.i (omega arith)) p.5 p.7 l.invariant.1 l.invariant.2 u.new.copies u.ensures.0,
  put-filled a.order.now a.orientation.now a.x.now a.y.now a.gap.now a.n a.starts.now l.copies a.room.now l.room
      l.i (omega arith) (p.4 l.i (omega arith)) p.5 p.7 l.invariant.1 l.invariant.2 u.new.room u.ensures.1,
  u.auto.copies ∙ l.invariant.3,
)

pub returns : goal.returns
returns c = let l = c.loop-i in let a = c.args in
    let e : l.i ≡ a.n = let g = l.invariant.0 in omega arith in
    λ m h g. filled-end (state_of a.order.now a.orientation.now a.x.now a.y.now a.gap.now) a.n a.room.now l.room m g
    (subst (λ (i : ℕ). Filled (state_of a.order.now a.orientation.now a.x.now a.y.now a.gap.now) a.n a.room.now l.room i) e
    l.invariant.2)
