use Prim.Native.Nat.{◌-◌, ◌<◌, ◌≤◌}
use mathlib.Core.Path.{◌≡◌, ◌∙◌}
use native.Mathlib.Omega.{arith}
use borrow.Author.Rules.{rules}
use Rattle.store.proofs.Whole.{counting_start, counting_next, counting_over, counting_end}
use Rattle.trapezoid.proofs.Strips.{strip_in_room}
use Rattle.store.proofs.entries_rest.Goals as goal

pub loop-j-init : goal.loop-j-init
loop-j-init c = counting_start c.args.ix c.args.apart.now c.args.x c.args.left

pub load-q-requires : goal.load-q-requires
load-q-requires c = strip_in_room c.args.apart.now _ _ c.capacity-count.ensures (omega arith)

pub returns-in_err-rest : goal.returns-in_err-rest
returns-in_err-rest c = let l = c.loop-j in
    let e : l.rest < c.width_at.result = search rules in
    c.from_residual.ensures ∙ counting_over c.args.ix c.args.apart.now c.args.x c.args.left l.rest l.j _ l.invariant
    c.capacity-count.ensures _ c.load-q.result (omega arith) c.load-q.ensures c.width_at.ensures e

pub loop-j-preserved : goal.loop-j-preserved
loop-j-preserved c = let l = c.loop-j in
    let e : c.width_at.result ≤ l.rest = search rules in
    let f : c.in_ok-rest.rest ≡ l.rest - c.width_at.result = search rules in
    rw f (counting_next c.args.ix c.args.apart.now c.args.x c.args.left l.rest l.j _ l.invariant
    c.capacity-count.ensures _ c.load-q.result (omega arith) c.load-q.ensures c.width_at.ensures e)

pub returns : goal.returns
returns c = counting_end c.args.ix c.args.apart.now c.args.x c.args.left c.loop-j.rest c.loop-j.j _ c.loop-j.invariant c.capacity-count.ensures (omega arith)
