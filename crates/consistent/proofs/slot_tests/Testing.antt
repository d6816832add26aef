-- That a slot has few columns. Assumes nothing.
use Prim.Native.Nat.{ℕ, ◌≤◌}
use mathlib.Core.Path.{◌≡◌, sym, subst}
use Rattle.strips.specs.declared.Rect.{Rect}
use Rattle.search.specs.declared.columns.Columns.{Columns}
use Rattle.search.specs.columns.inner.Stands.{columns_of}
use Rattle.search.proofs.columns.Sizes.{BoundedRect, few-columns}
use Rattle.choose.specs.inner.Choosing.{bounds_at}
use Rattle.consistent.specs.slot_tests.inner.Slots.{Slots, Given}

module _ (w : Slots) (i : ℕ) {t : Rect} {c : Columns} (et : t ≡ bounds_at w.inset_bounds i) (ec : c ≡ columns_of w.bounds t w.resolution) where
  pub told-few : Given w → BoundedRect t → c.count ≤ 4000000000
  told-few g h = subst (λ (x : Columns). x.count ≤ 4000000000) (sym ec) (few-columns w.bounds t w.resolution g.bounded h g.resolving)
