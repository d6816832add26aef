-- `consistent::copy_tests::copies_fit` meets its contract. Assumes nothing.
use Prim.Native.Nat.{ℕ}
use native.Mathlib.Nat.{sub-zero}
use native.Mathlib.Omega.{arith}
use mathlib.Core.Path.{sym, ap, ◌∙◌}
use lib.Dec.{eqb}
use Rattle.consistent.specs.copy_tests.inner.Copies.{held, copies_test}
use Rattle.consistent.proofs.copy_tests.CopyCases.{copies_on, copies-not, copies-end}
use Rattle.consistent.proofs.copy_tests.copies_fit.Goals as goal

pub loop-i-init : goal.loop-i-init
loop-i-init c = let a = c.args in
    ap (λ (n : ℕ). copies_test (held a.rows.now a.kinds a.parts.now a.apart.now a.placed.now) a.order.now a.orientation.now
    a.x.now a.y.now n 0 0) (sub-zero a.taken)

pub loop-i-preserved : goal.loop-i-preserved
loop-i-preserved c = let a = c.args in
    let l = c.loop-i in
    let e = sym c.past_copy.ensures ∙ c.in-Some.is in
    sym (copies_on (held a.rows.now a.kinds a.parts.now a.apart.now a.placed.now) a.order.now a.orientation.now a.x.now
    a.y.now a.taken l.i l.at (omega arith) e) ∙ l.invariant

pub returns-in_default : goal.returns-in_default
returns-in_default c = let a = c.args in
    let l = c.loop-i in
    let e = sym c.past_copy.ensures ∙ c.in_default.is in
    sym (sym l.invariant ∙ copies-not (held a.rows.now a.kinds a.parts.now a.apart.now a.placed.now) a.order.now a.orientation.now
    a.x.now a.y.now a.taken l.i l.at (omega arith) e)

pub returns : goal.returns
returns c = let a = c.args in
    let l = c.loop-i in
    ap (eqb l.at) c.capacity.ensures
    ∙ (copies-end (held a.rows.now a.kinds a.parts.now a.apart.now a.placed.now) a.order.now a.orientation.now a.x.now
    a.y.now a.taken l.i l.at (omega arith) ∙ l.invariant)
