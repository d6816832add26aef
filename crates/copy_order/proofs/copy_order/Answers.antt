-- `copy_order::copy_order` meets its contract. Assumes nothing.
use Prim.Native.Nat.{ℕ}
use lib.ListN.{length}
use mathlib.Core.Path.{◌≡◌, ap, ◌∙◌}
use mathlib.Core.List.{List, flat_map}
use native.Mathlib.Omega.{arith}
use Rattle.slabs.specs.inner.Tables.{down}
use Rattle.job.specs.Jobs.{Job}
use Rattle.filling.specs.Rooms.{laid}
use Rattle.copy_order.specs.inner.KindTables.{copies_at, copies_in}
use Rattle.copy_order.proofs.Lines.{at}
use Rattle.copy_order.proofs.Tabling.{line-length, line-order}
use Rattle.copy_order.proofs.copy_order.Goals as goal

pub put_kinds-requires : goal.put_kinds-requires
put_kinds-requires c = let s = c.sort_kinds in let e : length c.sort_kinds.new.line ≡ 64 = s.auto.line in
    let l : length (flat_map (copies_at c.args.rows.now) (down (at c.sort_kinds.new.line) c.args.kinds)) ≡ copies_in
    c.args.rows.now c.args.kinds = line-length c.args.rows.now c.args.areas.now c.sort_kinds.new.line
    c.args.kinds s.ensures.0 in
    (omega arith, omega arith, s.ensures.1, omega arith)

pub returns : goal.returns
returns c = λ (j : Job) t l. let e = line-order c.args.rows.now c.args.areas.now j t c.sort_kinds.new.line c.args.kinds l
    c.sort_kinds.ensures.0 in
    (c.put_kinds.ensures.0 ∙ ap length e, c.put_kinds.ensures.1 ∙ ap (λ (o : List ℕ). laid o c.args.order.now) e)
