-- `look_test::look_fresh` meets its contract. Assumes nothing.
use Prim.Native.Nat.{ℕ}
use mathlib.Core.Path.{sym, ◌∙◌}
use native.Mathlib.Omega.{arith}
use lib.ListN.{length-replicate}
use Rattle.look_test.proofs.Tested.{lookable}
use Rattle.look_test.proofs.look_fresh.Goals as goal

pub slice_bounds-enter_both-end : goal.slice_bounds-enter_both-end
slice_bounds-enter_both-end c = c.table-se.ensures

pub slice_bounds-enter_both-end-2 : goal.slice_bounds-enter_both-end-2
slice_bounds-enter_both-end-2 c = sym (length-replicate {A = ℕ} 513 1)

pub slice_bounds-enter_both-end-3 : goal.slice_bounds-enter_both-end-3
slice_bounds-enter_both-end-3 c = c.table-pe.ensures

pub slice_bounds-enter_both-end-4 : goal.slice_bounds-enter_both-end-4
slice_bounds-enter_both-end-4 c = sym (length-replicate {A = ℕ} 513 1)

pub slice_bounds-enter_both-end-5 : goal.slice_bounds-enter_both-end-5
slice_bounds-enter_both-end-5 c = sym (length-replicate {A = ℕ} 512 1)

pub slice_bounds-enter_both-end-6 : goal.slice_bounds-enter_both-end-6
slice_bounds-enter_both-end-6 c = sym (length-replicate {A = ℕ} 1020 1)

pub slice_bounds-enter_both-end-7 : goal.slice_bounds-enter_both-end-7
slice_bounds-enter_both-end-7 c = sym (length-replicate {A = ℕ} 1020 1)

pub enter_both-requires : goal.enter_both-requires
enter_both-requires c = let p = c.requires in
    let k = length-replicate {A = ℕ} 1020 1 in
    (p.2, p.3, length-replicate {A = ℕ} 513 1, length-replicate {A = ℕ} 513 1, length-replicate {A = ℕ} 512 1, omega (arith, k), omega (arith, k))

pub slice_bounds-look_twice-end : goal.slice_bounds-look_twice-end
slice_bounds-look_twice-end c = c.table-se.ensures ∙ sym c.enter_both.auto.se

pub slice_bounds-look_twice-end-then-enter_both : goal.slice_bounds-look_twice-end-then-enter_both
slice_bounds-look_twice-end-then-enter_both c = sym (c.enter_both.auto.ss ∙ length-replicate {A = ℕ} 513 1)

pub slice_bounds-look_twice-end-then-enter_both-2 : goal.slice_bounds-look_twice-end-then-enter_both-2
slice_bounds-look_twice-end-then-enter_both-2 c = c.table-pe.ensures ∙ sym c.enter_both.auto.pe

pub slice_bounds-look_twice-end-then-enter_both-3 : goal.slice_bounds-look_twice-end-then-enter_both-3
slice_bounds-look_twice-end-then-enter_both-3 c = sym (c.enter_both.auto.ps ∙ length-replicate {A = ℕ} 513 1)

pub slice_bounds-look_twice-end-then-enter_both-4 : goal.slice_bounds-look_twice-end-then-enter_both-4
slice_bounds-look_twice-end-then-enter_both-4 c = sym (c.enter_both.auto.sf ∙ length-replicate {A = ℕ} 1020 1)

pub slice_bounds-look_twice-end-then-enter_both-5 : goal.slice_bounds-look_twice-end-then-enter_both-5
slice_bounds-look_twice-end-then-enter_both-5 c = sym (c.enter_both.auto.pf ∙ length-replicate {A = ℕ} 1020 1)

pub look_twice-requires : goal.look_twice-requires
look_twice-requires c = let n = c.new-ix in
    let e = c.enter_both.ensures c.if-enter_both.true in
    let p = c.requires in
    (lookable _ _ _ _ _ _ _ _ _ _ _ _ _ n.result n.ensures p.0 p.1 e.0.laid e.1.laid, e.0.kept, e.1.kept)

pub shape_of-out-then-enter_both : goal.shape_of-out-then-enter_both
shape_of-out-then-enter_both c = c.look_twice.auto.out
