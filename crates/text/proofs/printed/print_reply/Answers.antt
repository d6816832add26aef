-- `text::printed::print_reply` meets its contract. Assumes nothing.
use Prim.Native.Nat.{◌≤◌}
use native.Mathlib.Nat.{le_of_eq}
use native.Mathlib.Omega.{arith}
use mathlib.Core.Path.{sym, ◌∙◌}
use lib.ListN.{length}
use Rattle.job.proofs.Whole.{read_as}
use Rattle.lines.proofs.Appending.{put-same}
use Rattle.filling.specs.declared.Refusal.TheVariants as Why
use Rattle.text.proofs.ByKind.{refusal-most}
use Rattle.text.proofs.Replies.{reply-most, reply_is}
use Rattle.text.proofs.printed.Printing.{kinds_few, turns_few, told, of_plan, of_refusal}
use Rattle.text.proofs.printed.print_reply.Goals as goal

pub reply_text-requires : goal.reply_text-requires
reply_text-requires c = let g = c.well_formed.1.1.0.1.1 in
    let p = c.requires in
    let j = c.read-j in
    let r : 256 ≤ length j.result.rows = le_of_eq (sym j.ensures.1) in
    let e = read_as _ j.result j.ensures.0 c.in-Ok.is in
    let f = kinds_few _ _ _ _ _ _ _ e in
    let u = g.1.1.1.0.1.0.1 in
    let v = g.1.1.1.1.0.1.0.1 in
    let w = g.1.1.1.1.1.0.1.0.1 in (
      p.2,
      f,
      omega (arith, f, r),
      turns_few _ _ _ _ _ _ _ e r (le_of_eq (sym j.ensures.2)),
      p.0,
      p.1,
      omega (arith, f, u),
      omega (arith, f, v),
      omega (arith, f, w),
    )

pub returns-in-Ok : goal.returns-in-Ok
returns-in-Ok c = let a = c.args in
    let j = c.read-j in
    let t = c.reply_text.ensures in
    let r : 256 ≤ length j.result.rows = le_of_eq (sym j.ensures.1) in
    let s : 64 ≤ length j.result.areas = le_of_eq (sym j.ensures.2) in
    let e = read_as _ j.result j.ensures.0 c.in-Ok.is in
    let m = reply-most j.result.rows c.in-Ok.h.kinds a.positions.now a.plan a.verdict (kinds_few _ _ _ _ _ _ _ e) c.requires.0
    (turns_few _ _ _ _ _ _ _ e r s) in
    let b = told _ _ _ _ _ _ _ e r s in (
      omega (arith, m, t.wrote.next),
      λ l f. put-same (reply_is _ _ _ b.0 _ b.1 a.verdict a.plan l a.positions.now f
          ∙ sym (of_plan _ _ _ _ _ _ _ e (record { verdict = a.verdict; plan = a.plan; lent = l }))) t,
    )

pub returns-in-Err : goal.returns-in-Err
returns-in-Err c = let a = c.args in
    let t = c.refusal_text.ensures in
    let e = read_as _ c.read-j.result c.read-j.ensures.0 c.in-Err.is in
    let m = refusal-most (Why.Job c.in-Err.k) in
    (omega (arith, m, t.wrote.next), λ l f. put-same (sym (of_refusal _ _ e (record { verdict = a.verdict; plan = a.plan; lent = l }))) t)
