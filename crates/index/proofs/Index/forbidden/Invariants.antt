use mathlib.Core.Path.{◌≡◌}
use Prim.Native.Nat.{◌-◌, ◌/◌, ◌<◌}
use lib.ListN.{length}
use Rattle.index.specs.inner.Listing.{collected, push_all, listed}
use Rattle.index.proofs.Index.forbidden.Given as goal

abbrev pub invariant-loop-j : goal.invariant-loop-j
invariant-loop-j l = (l.count ≡ length l.moving / 6) ×
    (l.count < 18446744073709551616) ×
    (length l.room ≡ length l.initial.room) × (push_all (collected l.room l.n) (listed l.self l.y_low l.y_high l.standing l.entries l.starts l.moving l.x (l.count - l.j) l.j) ≡ push_all
    (collected l.initial.room l.start) (listed l.self l.y_low l.y_high l.standing l.entries l.starts l.moving l.x l.count 0))
