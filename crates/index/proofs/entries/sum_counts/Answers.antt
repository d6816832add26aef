use mathlib.Core.Path.{◌≡◌, sym, subst}
use mathlib.Core.Bool.{true≢false}
use Prim.Native.Nat.{ℕ, ◌+◌}
use native.Mathlib.Omega.{arith}
use native.Mathlib.Nat.{le_refl}
use Rattle.index.specs.Buckets.{buckets}
use Rattle.index.specs.entries.inner.Cursors.{sum_of}
use Rattle.index.proofs.entries.Raising.{sum-none, sum-next, sum-rise, summed-none, summed_on}
use Rattle.index.proofs.entries.sum_counts.Goals as goal

pub loop-b-init : goal.loop-b-init
loop-b-init c = (omega arith, sym (sum-none c.args.counts.now), omega arith, summed-none c.args.counts.now)

pub loop-b-preserved : goal.loop-b-preserved
loop-b-preserved c = let s₀ = c.args.counts.now in
    let l = c.loop-b in
    let x = l.invariant.3.left l.b (le_refl l.b) in
    let y = sum-next s₀ l.b in (
      omega arith,
      omega (arith, x, y, l.invariant.1),
      omega (arith, c.if-room-sum.false, l.invariant.2),
      summed_on s₀ l.b l.sum l.counts (omega (arith, c.requires)) l.invariant.1 l.invariant.3,
    )

pub returns-then-room-sum : goal.returns-then-room-sum
returns-then-room-sum c = let s₀ = c.args.counts.now in
    let l = c.loop-b in
    let x = l.invariant.3.left l.b (le_refl l.b) in
    let y = sum-next s₀ l.b in
    let z = sum-rise s₀ (l.b + 1) buckets (omega arith) in
    (λ q. absurd (true≢false (sym q)), λ q. omega (arith, x, y, z, l.invariant.1, l.invariant.2, c.if-room-sum.true))

pub shape_of-counts-then-room-sum : goal.shape_of-counts-then-room-sum
shape_of-counts-then-room-sum c = c.loop-b.invariant.3.table

pub shape_of-counts : goal.shape_of-counts
shape_of-counts c = c.loop-b.invariant.3.table

pub returns : goal.returns
returns c = let s₀ = c.args.counts.now in
    let l = c.loop-b in
    let e : l.b ≡ buckets = omega (arith, l.invariant.0) in
    let S = l.invariant.3 in
    let w = subst (λ (k : ℕ). l.sum ≡ sum_of s₀ k) e l.invariant.1 in (
      λ q. record { table = S.table; first = S.first; begins = λ d h. S.done d (omega (arith, e, h)); within = omega (arith, w, l.invariant.2) },
      λ q. absurd
          (true≢false q),
    )
