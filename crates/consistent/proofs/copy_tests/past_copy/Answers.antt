-- `consistent::copy_tests::past_copy` meets its contract. Assumes nothing.
use Rattle.std.specs.Prelude.{Some}
use mathlib.Core.Bool.{not}
use Prim.Native.Nat.{ℕ, ◌+◌, ◌-◌}
use native.Mathlib.Omega.{arith}
use mathlib.Core.Path.{ap, ◌∙◌}
use mathlib.Core.List.{List}
use lib.Ieee.{Float}
use Rattle.trapezoid.specs.Strip.{capacity}
use Rattle.choose.specs.declared.Part.{Part}
use Rattle.choose.specs.inner.Choosing.{apart_part}
use Rattle.consistent.specs.copy_tests.inner.Copies.{held, lies_test}
use Rattle.numbers.proofs.Truth.{both_first}
use Rattle.consistent.proofs.strip_tests.Bounding.{passed, failed}
use Rattle.consistent.proofs.copy_tests.CopyCases.{strips-few, lies_within, turn_told, past-none, past_not, past-strips, past_all}
use Rattle.consistent.proofs.copy_tests.past_copy.Goals as goal

pub returns-then-number-eq0 : goal.returns-then-number-eq0
returns-then-number-eq0 c = let a = c.args in
    past-none (held a.rows.now a.kinds a.parts.now a.apart.now a.placed.now) a.kind a.x a.y a.at a.number c.if-number-eq0.true

pub returns-then-not-may_stand : goal.returns-then-not-may_stand
returns-then-not-may_stand c = let a = c.args in
    let w = held a.rows.now a.kinds a.parts.now a.apart.now a.placed.now in
    let h = c.if-number-eq0.false in
    past_not w a.kind a.x a.y a.at a.number (a.number - 1) (omega arith) (failed c.may_stand.ensures (ap not c.if-not-may_stand.true))

pub overflow_mul-kind : goal.overflow_mul-kind
overflow_mul-kind c = let a = c.args in
    let k = turn_told a.rows.now a.kinds a.kind (a.number - 1) (both_first _ _ (passed c.may_stand.ensures (ap not c.if-not-may_stand.false))) in
    let f = c.requires.0 in
    let l = k.0 in
    omega arith

pub overflow_add-kind : goal.overflow_add-kind
overflow_add-kind c = let a = c.args in
    let k = turn_told a.rows.now a.kinds a.kind (a.number - 1) (both_first _ _ (passed c.may_stand.ensures (ap not c.if-not-may_stand.false))) in
    let f = c.requires.0 in
    let l = k.0 in
    let m = k.1 in
    let n = c.requires.2 a.kind l in
    omega arith

pub part_at-p-requires : goal.part_at-p-requires
part_at-p-requires c = let a = c.args in
    let k = turn_told a.rows.now a.kinds a.kind (a.number - 1) (both_first _ _ (passed c.may_stand.ensures (ap not c.if-not-may_stand.false))) in
    let f = c.requires.0 in
    let g = c.requires.3 in
    let l = k.0 in
    let m = k.1 in
    let n = c.requires.2 a.kind l in
    omega arith

pub returns-then-not-strips_lie : goal.returns-then-not-strips_lie
returns-then-not-strips_lie c = let a = c.args in
    let w = held a.rows.now a.kinds a.parts.now a.apart.now a.placed.now in
    let h = c.if-number-eq0.false in
    let q = c.part_of-part.ensures ∙ ap (λ (p : Part). apart_part p a.apart.now) c.part_at-p.ensures in
    let e = c.strips_lie.ensures ∙ ap (λ (l : List Float). lies_test l a.x a.y a.placed.now a.at) q in
    past-strips w a.kind a.x a.y a.at a.number (a.number - 1) (omega arith) (passed c.may_stand.ensures (ap not c.if-not-may_stand.false)) (failed e (ap not c.if-not-strips_lie.true))

pub overflow_add-result : goal.overflow_add-result
overflow_add-result c = let a = c.args in
    let z = lies_within c.part_of-part.result.now a.x a.y a.placed.now a.at
    (passed c.strips_lie.ensures (ap not c.if-not-strips_lie.false)) in
    let k = c.capacity.ensures in
    let few = strips-few (a.at + c.capacity.result) a.placed.now (omega arith) c.well_formed.1.1.1.1.0.0 in
    omega (arith, few)

pub returns : goal.returns
returns c = let a = c.args in
    let w = held a.rows.now a.kinds a.parts.now a.apart.now a.placed.now in
    let h = c.if-number-eq0.false in
    let q = c.part_of-part.ensures ∙ ap (λ (p : Part). apart_part p a.apart.now)
    c.part_at-p.ensures in
    let e = c.strips_lie.ensures ∙ ap (λ (l : List Float). lies_test l a.x a.y a.placed.now a.at) q in
    ap (λ (n : ℕ). Some (a.at + n)) (c.capacity.ensures ∙ ap capacity q)
    ∙ past_all w a.kind a.x a.y a.at a.number (a.number - 1) (omega arith) (passed c.may_stand.ensures (ap not c.if-not-may_stand.false)) (passed e (ap not c.if-not-strips_lie.false))
