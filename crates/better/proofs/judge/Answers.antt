-- `better::judge` meets its contract. Assumes nothing.
use mathlib.Core.Path.{refl}
use mathlib.Core.Logic.{inl, inr}
use mathlib.Core.List.{List}
use lib.Ieee.{Float}
use Prim.Native.Nat.{ℕ}
use native.Mathlib.Omega.{arith}
use Rattle.filling.specs.Shapes.{Planner}
use Rattle.nesting.specs.Rounds.{swapped}
use Rattle.better.proofs.Judging.{judge_better, judge_worse}
use Rattle.better.proofs.round_laws.Swapping.{swapped_is}
use Rattle.better.proofs.judge.Goals as goal

pub returns-then-better_than : goal.returns-then-better_than
returns-then-better_than c = let a = c.args in (
  λ (p : Planner) (tracks : List ℕ) (spots : List Float). judge_better p a.b a.t a.order.now (swapped a.i a.k a.order.now) tracks spots
      c.better_than.result c.better_than.ensures c.if-better_than.true,
  inl refl,
  omega arith,
  omega arith,
)

pub returns : goal.returns
returns c = let a = c.args in
    let e = swapped_is a.order.now _ a.i a.k c.requires.2 c.requires.3 c.swap.ensures.after in (
      λ (p : Planner) (tracks : List ℕ) (spots : List Float). judge_worse p a.b a.t a.order.now (swapped a.i a.k a.order.now) tracks spots
          c.better_than.result c.better_than.ensures c.if-better_than.false _ e,
      inr e,
      omega arith,
      c.requires.1,
    )
