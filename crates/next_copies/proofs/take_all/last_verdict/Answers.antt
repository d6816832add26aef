-- `next_copies::take_all::last_verdict` meets its contract. Assumes nothing.
use mathlib.Core.Path.{sym, ap, ap₂, ◌∙◌}
use borrow.Author.Tests.{eq-eqb, ne_eqb}
use Rattle.next_copies.specs.take_all.inner.Spread.{ended_by, last_verdict}
use Rattle.next_copies.proofs.take_all.last_verdict.Goals as goal

pub returns-then-run-n : goal.returns-then-run-n
returns-then-run-n c = let a = c.args in
    let r = a.run in
    sym (ap (λ v. last_verdict v r.last.fits r.took a.n) c.in-Ok.is
    ∙ ap (λ t. ended_by t r.last.fits) (eq-eqb r.took a.n c.if-run-n.true))

pub returns-then-last : goal.returns-then-last
returns-then-last c = let a = c.args in
    let r = a.run in
    sym (ap (λ v. last_verdict v r.last.fits r.took a.n) c.in-Ok.is
    ∙ ap₂ (λ t f. ended_by t f) (ne_eqb r.took a.n c.if-run-n.false) c.if-last.true)

pub returns-in-Err : goal.returns-in-Err
returns-in-Err c = let a = c.args in
    let r = a.run in
    sym (ap (λ v. last_verdict v r.last.fits r.took a.n) c.in-Err.is)

pub returns-else-last : goal.returns-else-last
returns-else-last c = let a = c.args in
    let r = a.run in
    sym (ap (λ v. last_verdict v r.last.fits r.took a.n) c.in-Ok.is
    ∙ ap₂ (λ t f. ended_by t f) (ne_eqb r.took a.n c.if-run-n.false) c.if-last.false)
