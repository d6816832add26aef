-- `slabs::insert` meets its contract. Assumes nothing.
use Prim.Native.Nat.{◌+◌, ◌-◌}
use mathlib.Core.Path.{◌≡◌, ◌∙◌}
use mathlib.Core.Logic.{inl, inr}
use native.Mathlib.Omega.{arith}
use Rattle.slabs.proofs.Rows.{insert_row, insert_row_last, stops}
use Rattle.slabs.proofs.Sorting.{over_start}
use Rattle.slabs.specs.Slab.{insert}
use Rattle.slabs.specs.inner.Tables.{down, crossing_of, crossing_at, Orders}
use Rattle.slabs.proofs.insert.Goals as goal

pub loop-k-init : goal.loop-k-init
loop-k-init g c = λ order h. over_start (crossing_at c.args.rows.now) c.args.n (insert order (crossing_of c.args.c) (down (crossing_at c.args.rows.now) c.args.n))

pub returns-then-not-first : goal.returns-then-not-first
unfolding Orders
returns-then-not-first g c = λ order h.
    let l = c.loop-k in let a = c.args in
    let e : l.k - 1 + 1 ≡ l.k = omega arith in
    insert_row_last order l.rows c.put_row.new.rows a.n l.k a.c (omega arith) (omega arith) (rw e at c.put_row.ensures)
    (inr (stops order l.rows l.k a.c c.row_at-b.result c.first.result c.row_at-b.ensures (h c.row_at-b.result a.c c.first.result c.first.ensures) c.if-not-first.true)) ∙ l.invariant order h

pub loop-k-preserved : goal.loop-k-preserved
unfolding Orders
loop-k-preserved g c = λ order h.
    let l = c.loop-k in let a = c.args in let p = c.put_row-in-loop-k in
    let e : l.k - 1 + 1 ≡ l.k = omega arith in
    insert_row order l.rows p.new.rows a.n l.k a.c c.row_at-b.result c.first.result (omega arith) (omega arith) (omega arith) (rw e at p.ensures) c.row_at-b.ensures
    (h c.row_at-b.result a.c c.first.result c.first.ensures) c.if-not-first.false ∙ l.invariant order h

pub returns : goal.returns
returns g c = λ order h.
    let l = c.loop-k in let a = c.args in
    let z : l.k ≡ 0 = omega arith in
    insert_row_last order l.rows c.put_row-2.new.rows a.n l.k a.c (omega arith) (omega arith) (rw z c.put_row-2.ensures) (inl z) ∙ l.invariant order h
