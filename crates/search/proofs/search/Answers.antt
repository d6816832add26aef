-- `search`: one orientation, from its remembered column. Assumes nothing.
use Rattle.search.proofs.Turns.{search_in}
use Rattle.search.specs.inner.Searching.{answer_at}
use Rattle.rooms.specs.tracks.inner.Tracks.{slot_numbers}
use lib.ListN.{length}
use native.Mathlib.Omega.{arith}
use Prim.Native.Nat.{ℕ, ◌/◌, ◌+◌, ◌-◌, ◌≤◌, ◌<◌, ◌^◌}
use mathlib.Core.Path.{sym, subst}
use Rattle.search.proofs.search.Goals as goal

few : (n last s : ℕ) → n + 4000000002 < 2 ^ 64 → last ≤ 4000000001 → n + (last + 1 - s) < 2 ^ 64
few n last s h g = omega arith

pub column_search-found-requires : goal.column_search-found-requires
column_search-found-requires c = let p = c.requires in
    let l = c.last-last.ensures in
    ((λ d g h. p.0 d (subst (λ (n : ℕ). d ≤ n) l.0 h)), p.1, l.1, p.2, p.3, few _ _ _ p.4 l.1, p.5, p.6)

pub returns : goal.returns
returns c = let a = c.args in
    let p = c.requires in
    let s = c.column_search-found in
    search_in (answer_at (length a.room.now / 2) a.k a.inset.now a.apart.now a.sheet.now a.placed.now) a.k a.slot a.tracks.now _
    s.result c.last-last.result c.start-from.result c.next_of.result p.2
    (subst (λ (n : ℕ). slot_numbers ≤ n) (sym s.auto.tracks) p.3)
    c.last-last.ensures.0 c.start-from.ensures s.ensures.0 s.ensures.1 c.next_of.ensures
