use mathlib.Core.Path.{subst}
use Prim.Native.Nat.{ℕ, ◌/◌, ◌≤◌, ◌<◌}
use native.Mathlib.Omega.{arith}
use lib.ListN.{length}
use Rattle.index.proofs.Steps.{kept-length}
use Rattle.look.specs.Looking.{counted_in}
use Rattle.look.specs.inner.Ready.{look_of}
use Rattle.look.proofs.Answering.{lists, holds_finite, refused, seen, look_perm, look_finite, sheet_usable, placed_usable, both_pushed}
use Rattle.look.proofs.look_at.Goals as goal

pub forbidden-m-requires : goal.forbidden-m-requires
forbidden-m-requires c = let g = c.args in
    let q = c.requires in (
      sheet_usable g.ix g.x g.y_low g.y_high g.inset.now g.apart.now g.sheet.now g.placed.now g.sheet_entries.now
          g.sheet_starts.now g.placed_entries.now g.placed_starts.now q.0,
      q.1,
    )

pub forbidden-n-requires : goal.forbidden-n-requires
forbidden-n-requires c = let g = c.args in
    let q = c.requires in (
      placed_usable g.ix g.x g.y_low g.y_high g.inset.now g.apart.now g.sheet.now g.placed.now g.sheet_entries.now
          g.sheet_starts.now g.placed_entries.now g.placed_starts.now q.0,
      q.2,
    )

pub returns-then-room-n : goal.returns-then-room-n
unfolding look_of
returns-then-room-n c = let g = c.args in
    let p = c.requires.0 in
    let E = both_pushed g.room.now _ _ _ _ _ _ c.forbidden-m.ensures c.forbidden-n.ensures in
    let w = kept-length g.room.now _ 0 _ _ E in
    refused g.room.now _ _ (lists g.ix g.x g.y_low g.y_high g.inset.now g.apart.now g.sheet.now g.placed.now
    g.sheet_entries.now g.sheet_starts.now g.placed_entries.now g.placed_starts.now p)
    (counted_in g.x g.y_low g.y_high g.inset.now g.apart.now g.sheet.now g.placed.now) E
    (look_perm g.ix g.x g.y_low g.y_high g.inset.now g.apart.now g.sheet.now g.placed.now g.sheet_entries.now
    g.sheet_starts.now g.placed_entries.now g.placed_starts.now p) g.y_low g.y_high p.low p.high
    (look_finite g.ix g.x g.y_low g.y_high g.inset.now g.apart.now g.sheet.now g.placed.now g.sheet_entries.now
    g.sheet_starts.now g.placed_entries.now g.placed_starts.now p) (subst (λ (k : ℕ). k / 2 < c.forbidden-n.result) w c.if-room-n.true)

pub height-requires : goal.height-requires
height-requires c = let g = c.args in
    let p = c.requires.0 in
    let E = both_pushed g.room.now _ _ _ _ _ _ c.forbidden-m.ensures c.forbidden-n.ensures in
    let w = kept-length g.room.now _ 0 _ _ E in
    let h : c.forbidden-n.result ≤ length g.room.now / 2 = subst (λ (k : ℕ). c.forbidden-n.result ≤ k / 2) w c.if-room-n.false in (
      omega (arith, c.if-room-n.false),
      p.low,
      p.high,
      holds_finite g.room.now _ _
          (lists g.ix g.x g.y_low g.y_high g.inset.now g.apart.now g.sheet.now g.placed.now g.sheet_entries.now
          g.sheet_starts.now g.placed_entries.now g.placed_starts.now p)
          (counted_in g.x g.y_low g.y_high g.inset.now g.apart.now g.sheet.now g.placed.now) E
          (look_perm g.ix g.x g.y_low g.y_high g.inset.now g.apart.now g.sheet.now g.placed.now g.sheet_entries.now
          g.sheet_starts.now g.placed_entries.now g.placed_starts.now p) g.y_low g.y_high p.low p.high
          (look_finite g.ix g.x g.y_low g.y_high g.inset.now g.apart.now g.sheet.now g.placed.now g.sheet_entries.now
          g.sheet_starts.now g.placed_entries.now g.placed_starts.now p) h,
    )

pub returns : goal.returns
unfolding look_of
returns c = let g = c.args in
    let p = c.requires.0 in
    let E = both_pushed g.room.now _ _ _ _ _ _ c.forbidden-m.ensures c.forbidden-n.ensures in
    let w = kept-length g.room.now _ 0 _ _ E in
    let h : c.forbidden-n.result ≤ length g.room.now / 2 = subst (λ (k : ℕ). c.forbidden-n.result ≤ k / 2) w
    c.if-room-n.false in
    seen g.room.now _ _ (lists g.ix g.x g.y_low g.y_high g.inset.now g.apart.now g.sheet.now g.placed.now
    g.sheet_entries.now g.sheet_starts.now g.placed_entries.now g.placed_starts.now p)
    (counted_in g.x g.y_low g.y_high g.inset.now g.apart.now g.sheet.now g.placed.now) E
    (look_perm g.ix g.x g.y_low g.y_high g.inset.now g.apart.now g.sheet.now g.placed.now g.sheet_entries.now
    g.sheet_starts.now g.placed_entries.now g.placed_starts.now p) g.y_low g.y_high p.low p.high
    (look_finite g.ix g.x g.y_low g.y_high g.inset.now g.apart.now g.sheet.now g.placed.now g.sheet_entries.now
    g.sheet_starts.now g.placed_entries.now g.placed_starts.now p) h _ c.height.ensures
