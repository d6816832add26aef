-- `put_lines::field_after` meets its contract. Assumes nothing.
use native.Mathlib.Omega.{arith}
use Rattle.put_lines.proofs.Fields.{field_is, digits_inside}
use Rattle.put_lines.proofs.field_after.Goals as goal

pub overflow_add-result : goal.overflow_add-result
overflow_add-result c = let a = c.args in
    omega (arith, digits_inside a.bytes.now a.base a.most a.f.next c.digits_from-d.result c.digits_from-d.ensures)

pub returns : goal.returns
returns c = let a = c.args in
    field_is a.bytes.now a.base a.least a.most a.b a.f c.digits_from-d.result c.written.result c.digits_from-d.ensures c.written.ensures
