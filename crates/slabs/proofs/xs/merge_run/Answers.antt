-- `slabs::xs::merge_run` meets its contract. Assumes nothing.
use Prim.Native.Nat.{◌+◌, ◌-◌, ◌<◌}
use lib.Ieee.{lt}
use mathlib.Core.Path.{◌∙◌}
use native.Mathlib.Omega.{arith}
use Rattle.slabs.proofs.xs.Lines.{at, led_pos, led_first, not_led, merge-number_up, merge-number-down, merge-start, merge-end}
use Rattle.slabs.proofs.xs.merge_run.Goals as goal

pub loop-j-init : goal.loop-j-init
loop-j-init c = let a = c.args in (omega arith, omega arith, merge-start a.line.now a.run.now a.m a.c)

pub loop-j-smaller-then-leads : goal.loop-j-smaller-then-leads
loop-j-smaller-then-leads c = omega (arith, led_pos c.loop-j.i (lt (at c.loop-j.line (c.loop-j.i - 1)) (at c.args.run.now (c.loop-j.j - 1))) c.leads.result c.leads.ensures c.if-leads.true)

pub loop-j-preserved-then-leads : goal.loop-j-preserved-then-leads
loop-j-preserved-then-leads c = let l = c.loop-j in let a = c.args in let g = c.leads in
    let b = lt (at l.line (l.i - 1)) (at a.run.now (l.j - 1)) in
    let p : 0 < l.i = led_pos l.i b g.result g.ensures c.if-leads.true in (
      omega arith,
      omega arith,
      merge-number_up l.line a.run.now l.i l.j (a.m + a.c) (omega arith) (omega arith) (omega arith) p (led_first l.i b g.result g.ensures c.if-leads.true) ∙ l.invariant.2,
    )

pub loop-j-preserved : goal.loop-j-preserved
loop-j-preserved c = let l = c.loop-j in let a = c.args in let g = c.leads in
    let b = lt (at l.line (l.i - 1)) (at a.run.now (l.j - 1)) in (
      omega arith,
      omega arith,
      merge-number-down l.line a.run.now l.i l.j (a.m + a.c) (omega arith) (omega arith) (omega arith) (not_led l.i b g.result g.ensures c.if-leads.false) ∙ l.invariant.2,
    )

pub returns : goal.returns
returns c = let l = c.loop-j in let a = c.args in
    merge-end l.line a.run.now l.i l.j (a.m + a.c) (omega arith) (omega arith) ∙ l.invariant.2
