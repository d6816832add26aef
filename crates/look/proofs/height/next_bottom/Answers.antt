use mathlib.Core.Path.{sym, ap, ◌∙◌}
use mathlib.Core.List.{map}
use Prim.Native.Nat.{ℕ, ◌+◌, ◌-◌}
use native.Mathlib.Omega.{arith}
use native.Mathlib.Nat.{sub-zero}
use lib.Ieee.{Float}
use Rattle.index.specs.Buckets.{up_from}
use Rattle.index.specs.inner.Listing.{interval_at, intervals}
use Rattle.look.specs.height.inner.Raising.{lower, lowered}
use Rattle.look.proofs.height.Clear.{lowered_bottom, lower_on, lower-end}
use Rattle.look.proofs.height.next_bottom.Goals as goal

pub loop-k-preserved : goal.loop-k-preserved
loop-k-preserved c = let g = c.args in
    ap (λ (b : Float). lowered g.h b (map (interval_at g.room.now) (up_from (g.n - (c.loop-k.k + 1)) (c.loop-k.k + 1)))) (c.lower_next-next.ensures ∙ ap (lower g.h c.loop-k.next) c.interval-i.ensures) ∙ (sym (lower_on g.room.now g.h g.n c.loop-k.k c.loop-k.next (omega arith)) ∙ c.loop-k.invariant)

pub returns : goal.returns
unfolding intervals
returns c = let g = c.args in
    sym (lower-end g.room.now g.h g.n c.loop-k.k c.loop-k.next (omega arith)) ∙ (c.loop-k.invariant ∙ (ap (λ (k : ℕ). lowered g.h g.y_high (map (interval_at g.room.now) (up_from k 0))) (sub-zero g.n) ∙ lowered_bottom g.h g.y_high (intervals g.room.now g.n)))
