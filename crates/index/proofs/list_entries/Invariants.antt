use mathlib.Core.Path.{◌≡◌}
use Prim.Native.Nat.{◌-◌, ◌≤◌}
use lib.ListN.{length}
use Rattle.index.specs.inner.Listing.{collected, push_all, list_entries_by}
use Rattle.index.proofs.list_entries.Given as goal

abbrev pub invariant-loop-e : goal.invariant-loop-e
invariant-loop-e l = (l.from ≤ l.e) × (length l.room ≡ length l.initial.room) ×
    (push_all (collected l.room l.n) (list_entries_by l.m l.first l.b l.standing l.firsts l.entries (l.to - l.e) l.e) ≡ push_all (collected l.initial.room l.start)
    (list_entries_by l.m l.first l.b l.standing l.firsts l.entries (l.to - l.from) l.from))
