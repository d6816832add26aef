-- `leaf::shape_verdict` meets its contract. Assumes nothing.
use Rattle.std.specs.Prelude.{Err}
use mathlib.Core.Path.{◌≡◌, sym, ◌∙◌}
use native.Mathlib.Nat.{le_of_eq}
use Rattle.std.proofs.Common.{rules}
use Rattle.filling.specs.declared.Refusal.TheVariants as Why
use Rattle.job.proofs.Whole.{read_as}
use Rattle.leaf.proofs.ByKind.{no_job, few-kinds, lacked, had}
use Rattle.leaf.proofs.shape_verdict.Goals as goal

pub returns-in_err-h : goal.returns-in_err-h
returns-in_err-h c =
    let e : c.from_residual.result ≡ Err (Why.Job c.in_err-h.field-0.0) = search rules in
    e ∙ no_job _ _ _ _ (read_as _ c.read-j.result c.read-j.ensures.0 c.in_err-h.was)

pub lacks-requires : goal.lacks-requires
lacks-requires c = let t = c.read-j in
    (few-kinds _ _ _ _ _ _ _ (read_as _ t.result t.ensures.0 c.in_ok-h.was), le_of_eq (sym t.ensures.1))

pub returns-then-lacks : goal.returns-then-lacks
returns-then-lacks c = let t = c.read-j in
    let e = read_as _ t.result t.ensures.0 c.in_ok-h.was in
    lacked _ _ _ _ _ _ _ e (le_of_eq (sym t.ensures.1)) (le_of_eq (sym t.ensures.2)) _ _ _ c.lacks.ensures c.if-lacks.true

pub returns : goal.returns
returns c = let t = c.read-j in
    let e = read_as _ t.result t.ensures.0 c.in_ok-h.was in
    had _ _ _ _ _ _ _ e (le_of_eq (sym t.ensures.1)) (le_of_eq (sym t.ensures.2)) _ _ _ c.lacks.ensures c.if-lacks.false
