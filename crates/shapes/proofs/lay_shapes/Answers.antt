-- `shapes::lay_shapes` meets its contract. Assumes nothing.
use Rattle.std.specs.Prelude.{None}
use borrow.Author.Rules.{rules}
use lib.Dec.{lit<}
use mathlib.Core.Path.{◌≡◌, ◌∙◌}
use native.Mathlib.Omega.{arith}
use Rattle.shapes.proofs.Whole.{first_fits, none-laid, some-laid, both-laid}
use Rattle.shapes.proofs.lay_shapes.Goals as goal

pub returns-in_err-apart : goal.returns-in_err-apart
returns-in_err-apart c = let a = c.args in let g = c.lay_slots in
    let e : c.from_residual.result ≡ None = search rules in
    rw e (none-laid a.f a.bytes.now a.rows.now a.places.now a.kinds a.shapes.now g.new.shapes a.parts.now g.new.parts g.result g.new.shapes a.inset_bounds.now
    g.new.parts g.ensures c.in_err-apart.was)

pub lay_slots-requires-2 : goal.lay_slots-requires-2
lay_slots-requires-2 c = let a = c.args in let g = c.lay_slots in
    let h = first_fits a.f a.bytes.now a.rows.now a.places.now a.kinds a.shapes.now g.new.shapes a.parts.now g.new.parts g.result _ g.ensures c.in_ok-apart.was in
    (c.requires.0, c.requires.1, lit< tt, omega (arith, h), omega arith)

pub returns-in_err-inset : goal.returns-in_err-inset
returns-in_err-inset c = let a = c.args in let g = c.lay_slots in let h = c.lay_slots-2 in
    let e : c.from_residual-in_err-inset.result ≡ None = search rules in
    rw e (some-laid a.f a.bytes.now a.rows.now a.places.now a.kinds a.shapes.now g.new.shapes a.parts.now g.new.parts g.result h.new.shapes a.inset_bounds.now
    h.new.parts _ g.ensures c.in_ok-apart.was h.result h.ensures c.in_err-inset.was)

pub returns : goal.returns
returns c = let a = c.args in let g = c.lay_slots in let h = c.lay_slots-2 in
    both-laid a.f a.bytes.now a.rows.now a.places.now a.kinds a.shapes.now g.new.shapes a.parts.now g.new.parts g.result h.new.shapes c.lay_bounds.new.table
    h.new.parts _ g.ensures c.in_ok-apart.was h.result h.ensures _ a.inset_bounds.now c.in_ok-inset.was c.lay_bounds.ensures
    (h.auto.parts ∙ g.auto.parts ∙ c.requires.3) (c.lay_bounds.auto.table ∙ c.requires.2)
