-- `consistent::room_tests::entries_lie` meets its contract. Assumes nothing.
use Prim.Native.Nat.{ℕ}
use native.Mathlib.Omega.{arith}
use mathlib.Core.Path.{sym, subst⁻¹, ◌∙◌}
use Rattle.index.specs.inner.Listing.{FirstBuckets}
use Rattle.consistent.proofs.Cases.{room_for, walked, walked_laid}
use Rattle.consistent.proofs.room_tests.entries_lie.Goals as goal

pub walk_all-requires : goal.walk_all-requires
walk_all-requires c = let a = c.args in
    let e = c.capacity-n.ensures in (
      room_for c.capacity-n.result a.part.now (omega (arith, e)),
      c.requires.0,
      subst⁻¹ (λ (n : ℕ). FirstBuckets a.ix a.part.now n a.firsts.now) e c.requires.1,
    )

pub returns : goal.returns
returns c = let a = c.args in (
  c.is_some.ensures ∙ walked a.ix a.part.now c.capacity-n.result a.entries.now a.entries.now c.capacity-n.ensures c.walk_all.ensures.0,
  λ e. walked_laid a.ix a.part.now c.capacity-n.result a.entries.now _ c.capacity-n.ensures c.walk_all.result c.walk_all.ensures.1
      (sym c.is_some.ensures ∙ e),
)
