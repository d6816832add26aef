-- `start::begin_job` meets its contract. Assumes nothing.
use mathlib.Core.Path.{◌≡◌, sym, subst, ◌∙◌}
use Prim.Native.Nat.{◌≤◌, ◌<◌}
use Rattle.start.proofs.Starting.{job_is, few-kinds, order_is, order-fits, tables_of_lem, header_is, right-order, few-positions, wrong_order}
use mathlib.Core.Bool.{true, false}
use Rattle.job.specs.Jobs.{Job}
use Rattle.filling.specs.Order.{rearranged}
use Rattle.start.proofs.begin_job.Goals as goal

pub returns-then-positions-n : goal.returns-then-positions-n
returns-then-positions-n c = λ j l e C q. few-positions j c.args.order.now l c.refused.result c.args.shapes.now c.args.sheet.now c.args.sheet_entries.now
    c.args.sheet_firsts.now
    c.args.positions q (subst (λ (x : Job). c.args.positions < x.copies)
    (job_is c.args.bytes.now c.args.rows.now c.args.places.now c.args.h c.args.at c.args.copies c.requires.2 j e)
    c.if-positions-n.true) c.refused.ensures C

pub rearranged-requires : goal.rearranged-requires
rearranged-requires c = (few-kinds c.args.bytes.now c.args.rows.now c.args.places.now c.args.h c.args.at c.args.copies c.requires.2, c.requires.0)

pub begin_order-requires : goal.begin_order-requires
begin_order-requires c = (
  order-fits c.args.bytes.now c.args.rows.now c.args.places.now c.args.h c.args.at c.args.copies c.requires.2
      c.args.order.now c.requires.0 c.rearranged.result c.rearranged.ensures c.if-not-rearranged.false,
  c.requires.0,
  c.requires.1,
)

pub returns : goal.returns
returns c = λ j l e C q. c.begin_order.ensures j l
    (tables_of_lem c.args.bytes.now c.args.rows.now c.args.places.now c.args.h c.args.at c.args.copies c.requires.2 j e)
    (header_is c.args.bytes.now c.args.rows.now c.args.places.now c.args.h c.args.at c.args.copies c.requires.2 j e)
    C (right-order j c.args.order.now l c.args.positions q (subst (λ (x : Job). x.copies ≤ c.args.positions)
    (job_is c.args.bytes.now c.args.rows.now c.args.places.now c.args.h c.args.at c.args.copies c.requires.2 j e)
    c.if-positions-n.false) (subst (λ (x : Job). rearranged x c.args.order.now ≡ true)
    (job_is c.args.bytes.now c.args.rows.now c.args.places.now c.args.h c.args.at c.args.copies c.requires.2 j e)
    (sym (order_is c.args.bytes.now c.args.rows.now c.args.places.now c.args.h c.args.at c.args.copies c.requires.2
    c.args.order.now c.requires.0 c.rearranged.result c.rearranged.ensures) ∙ c.if-not-rearranged.false)))

pub returns-then-not-rearranged : goal.returns-then-not-rearranged
returns-then-not-rearranged c = λ j l e C q. wrong_order j c.args.order.now l c.refused-then-not-rearranged.result c.args.shapes.now c.args.sheet.now c.args.sheet_entries.now
    c.args.sheet_firsts.now
    c.args.positions q (subst (λ (x : Job). x.copies ≤ c.args.positions)
    (job_is c.args.bytes.now c.args.rows.now c.args.places.now c.args.h c.args.at c.args.copies c.requires.2 j e)
    c.if-positions-n.false) (subst (λ (x : Job). rearranged x c.args.order.now ≡ false)
    (job_is c.args.bytes.now c.args.rows.now c.args.places.now c.args.h c.args.at c.args.copies c.requires.2 j e)
    (sym (order_is c.args.bytes.now c.args.rows.now c.args.places.now c.args.h c.args.at c.args.copies c.requires.2
    c.args.order.now c.requires.0 c.rearranged.result c.rearranged.ensures) ∙ c.if-not-rearranged.true)) c.refused-then-not-rearranged.ensures C
