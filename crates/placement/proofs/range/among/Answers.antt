-- `among` meets its contract: from the last column on down. Assumes nothing.
use native.Mathlib.Omega.{arith}
use mathlib.Core.Path.{◌≡◌, sym, ap, ◌∙◌}
use mathlib.Core.Bool.{false}
use Prim.Native.Nat.{ℕ}
use lib.Ieee.{Float, eq}
use Rattle.search.specs.columns.inner.Stands.{column_x}
use Rattle.placement.proofs.range.Columned.{among_here, among_below, among_first}
use Rattle.placement.proofs.range.among.Goals as goal

pub returns-then-x : goal.returns-then-x
returns-then-x c = let a = c.args in
    let l = c.loop-c in
    sym (among_here (column_x a.k) a.x l.c (sym (ap (λ (z : Float). eq z a.x) c.x.ensures) ∙ c.if-x.true)) ∙ l.invariant

pub loop-c-preserved : goal.loop-c-preserved
loop-c-preserved c = let a = c.args in
    let l = c.loop-c in
    sym (among_below (column_x a.k) a.x l.c (omega arith) (sym (ap (λ (z : Float). eq z a.x) c.x.ensures) ∙ c.if-x.false)) ∙ l.invariant

pub returns-else-x : goal.returns-else-x
returns-else-x c = let a = c.args in
    let l = c.loop-c in
    let h : l.c ≡ 0 = omega arith in
    let e : eq (column_x a.k l.c) a.x ≡ false = sym (ap (λ (z : Float). eq z a.x) c.x.ensures) ∙ c.if-x.false in
    sym (among_first (column_x a.k) a.x l.c (omega arith) ∙ ap (λ (n : ℕ). eq (column_x a.k n) a.x) (sym h) ∙ e) ∙ l.invariant
