-- `put_lines::digits_from` meets its contract: what is left of the digits is the rest of the definition's. Assumes nothing.
use Prim.Native.Nat.{ℕ, ◌+◌, ◌-◌, ◌≤◌}
use native.Mathlib.Omega.{arith}
use mathlib.Core.Path.{◌≡◌, ap, subst, ◌∙◌}
use Rattle.put_lines.specs.PutLines.{byte_at, digit_of}
use Rattle.put_lines.proofs.Numerals.{Going, going_start, going_on, going-fits, going_stop, going_end}
use Rattle.put_lines.proofs.digits_from.Goals as goal

pub loop-end-init : goal.loop-end-init
loop-end-init c = let a = c.args in
    let e : a.most ≡ a.p + a.most - a.p = omega arith in
    subst (λ (n : ℕ). Going a.bytes.now a.base a.most a.p 0 a.p n) e (going_start a.bytes.now a.base a.most a.p c.requires.1)

pub returns-then-base-d : goal.returns-then-base-d
returns-then-base-d c = let a = c.args in
    let l = c.loop-end in
    let d : c.digit_of-d.result ≡ digit_of (byte_at a.bytes.now l.end) = c.digit_of-d.ensures ∙ ap digit_of c.byte_at.ensures in
    going_stop a.bytes.now a.base a.most a.p l.value l.end _ (a.p + a.most - (l.end + 1)) (omega arith)
    (subst (λ (x : ℕ). a.base ≤ x) d c.if-base-d.true) l.invariant

pub overflow_mul-value : goal.overflow_mul-value
overflow_mul-value c = let a = c.args in
    let l = c.loop-end in
    let f = going-fits a.bytes.now a.base a.most a.p l.value l.end _ (a.p + a.most - (l.end + 1)) c.digit_of-d.result
    (omega arith) c.if-base-d.false l.invariant in
    omega (arith, f)

pub overflow_add-value : goal.overflow_add-value
overflow_add-value c = let a = c.args in
    let l = c.loop-end in
    let f = going-fits a.bytes.now a.base a.most a.p l.value l.end _ (a.p + a.most - (l.end + 1)) c.digit_of-d.result
    (omega arith) c.if-base-d.false l.invariant in
    omega (arith, f)

pub loop-end-preserved : goal.loop-end-preserved
loop-end-preserved c = let a = c.args in
    let l = c.loop-end in
    going_on a.bytes.now a.base a.most a.p l.value l.end _ (a.p + a.most - (l.end + 1)) c.digit_of-d.result (omega arith)
    (c.digit_of-d.ensures ∙ ap digit_of c.byte_at.ensures) c.if-base-d.false l.invariant

pub returns : goal.returns
returns c = let a = c.args in
    let l = c.loop-end in
    let e : l.end ≡ a.p + a.most = omega (arith, c.loop-end.auto) in
    going_end a.bytes.now a.base a.most a.p l.value (a.p + a.most) (a.p + a.most - (a.p + a.most)) (omega arith)
    (subst (λ (x : ℕ). Going a.bytes.now a.base a.most a.p l.value x (a.p + a.most - x)) e l.invariant)
