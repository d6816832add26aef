use mathlib.Core.Path.{sym, ap, ◌∙◌}
use mathlib.Core.List.{map}
use Prim.Native.Nat.{ℕ, ◌+◌, ◌-◌}
use native.Mathlib.Omega.{arith}
use native.Mathlib.Nat.{sub-zero}
use lib.Ieee.{Float}
use Rattle.index.specs.Buckets.{up_from}
use Rattle.index.specs.inner.Listing.{interval_at, intervals}
use Rattle.look.specs.height.inner.Raising.{lift, raised, from_last}
use Rattle.look.proofs.height.Passes.{raise_on, raise_end, raise_back, raise_first}
use Rattle.look.proofs.height.Rearranging.{turn_even, turn_odd}
use Rattle.look.proofs.height.raise.Goals as goal

pub loop-k-preserved : goal.loop-k-preserved
loop-k-preserved c = let g = c.args in
    let l = c.loop-k in
    ap (λ (y : Float). raised y (map (interval_at g.room.now) (up_from (g.n - (l.k + 1)) (l.k + 1)))) (c.lifted-y.ensures ∙ ap (lift l.y) c.interval.ensures)
    ∙ (sym (raise_on g.room.now g.n l.k l.y (omega arith)) ∙ l.invariant)

pub loop-k-else-turn-eq0-preserved : goal.loop-k-else-turn-eq0-preserved
loop-k-else-turn-eq0-preserved c = let g = c.args in
    let l = c.loop-k-else-turn-eq0 in
    ap (λ (y : Float). raised y (from_last g.room.now (l.k - 1))) (c.lifted-y-in-loop-k-else-turn-eq0.ensures ∙ ap (lift l.y) c.interval-in-loop-k-else-turn-eq0.ensures)
    ∙ (sym (raise_back g.room.now l.k l.y (omega arith)) ∙ l.invariant)

pub returns-after-loop-k : goal.returns-after-loop-k
unfolding intervals
returns-after-loop-k c = let g = c.args in
    let l = c.loop-k in
    sym (raise_end g.room.now g.n l.k l.y (omega arith)) ∙ (l.invariant
    ∙ ap (λ (k : ℕ). raised g.from (map (interval_at g.room.now) (up_from k 0))) (sub-zero g.n)
    ∙ ap (raised g.from) (turn_even g.room.now g.n g.turn c.if-turn-eq0.true))

pub returns-after-loop-k-else-turn-eq0 : goal.returns-after-loop-k-else-turn-eq0
returns-after-loop-k-else-turn-eq0 c = let g = c.args in
    let l = c.loop-k-else-turn-eq0 in
    sym (raise_first g.room.now l.k l.y (omega arith)) ∙ (l.invariant ∙ ap (raised g.from) (turn_odd g.room.now g.n g.turn c.if-turn-eq0.false))
