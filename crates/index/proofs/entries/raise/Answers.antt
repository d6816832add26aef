use mathlib.Core.Path.{refl, sym, ◌∙◌}
use Prim.Native.Nat.{◌+◌}
use native.Mathlib.Omega.{arith}
use lib.ListN.{get_or, length-set}
use lib.Seq.{get_or-set_other}
use Rattle.index.proofs.entries.Raising.{raised_on, raised-end}
use Rattle.index.proofs.entries.raise.Goals as goal

pub loop-b-init : goal.loop-b-init
loop-b-init c = (omega arith, refl, λ d h. refl, refl)

pub loop-b-preserved : goal.loop-b-preserved
loop-b-preserved c = let l = c.loop-b in
    let g = c.args in
    let v = get_or l.table (l.b + 1) 0 + 1 in (
      omega (arith, l.invariant.0),
      length-set l.table (l.b + 1) v ∙ l.invariant.1,
      λ d a. get_or-set_other l.table (l.b + 1) (d + 1) v 0 (λ q. omega (arith, q, a)) ∙ l.invariant.2 d (omega arith),
      sym (raised_on g.hi l.b l.table (omega arith)) ∙ l.invariant.3,
    )

pub shape_of-table : goal.shape_of-table
shape_of-table c = c.loop-b.invariant.1

pub returns : goal.returns
returns c = let l = c.loop-b in sym (raised-end c.args.hi l.b l.table (omega arith)) ∙ l.invariant.3
