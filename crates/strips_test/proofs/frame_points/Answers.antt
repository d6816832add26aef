-- `strips_test::frame_points` meets its contract. Assumes nothing.
use Prim.Native.Nat.{ℕ}
use mathlib.Core.Path.{sym, subst}
use mathlib.Core.List.{List}
use native.Mathlib.Omega.{arith}
use lib.ListN.{length-replicate}
use lib.Seq.{length-take-le}
use Rattle.strips.specs.inner.Tables.{Loops}
use Rattle.strips_test.proofs.frame_points.Goals as goal

pub slice_bounds-frame_set-end : goal.slice_bounds-frame_set-end
slice_bounds-frame_set-end c = sym (length-take-le _ c.lengthen.new.long (omega (arith, c.lengthen.auto.long, c.requires.1, length-replicate {A = ℕ} 64 0)))

pub frame_set-requires : goal.frame_set-requires
frame_set-requires c = (c.requires.0, subst (λ (l : List ℕ). Loops 0 l c.args.n) (sym c.lengthen.ensures) c.requires.2)
