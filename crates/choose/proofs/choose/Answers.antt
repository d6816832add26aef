-- `choose`: the orientations in turn. Assumes nothing.
use mathlib.Core.Path.{sym, subst, subst⁻¹}
use native.Mathlib.Omega.{arith}
use Prim.Native.Nat.{ℕ, ◌/◌, ◌+◌, ◌≤◌, ◌<◌, ◌^◌}
use Rattle.rooms.specs.tracks.inner.Tracks.{slot_numbers}
use Rattle.choose.specs.inner.Choosing.{surroundings_in, Ready}
use Rattle.choose.proofs.Turns.{at_next, at_last}
use Rattle.choose.proofs.choose.Goals as goal

sum_fits : (s o n : ℕ) → o < n → s + n ≤ 1024 → (s + o < 2 ^ 64) × (o + 1 < 2 ^ 64) × (s + o < 1024)
sum_fits s o n h k = (omega arith, omega arith, omega arith)

pub orientation-next-requires : goal.orientation-next-requires
orientation-next-requires c = let a = c.args in
    let p = c.requires in
    let l = c.loop-o in
    let v = l.invariant in
    let h : l.o < a.n = omega arith in (
      subst⁻¹ (λ (m : ℕ). Ready a.g.index (surroundings_in (m / 2) a.g a.inset_bounds.now a.parts.now a.shapes.now a.sheet.now
          a.placed.now)
          a.sheet_entries.now a.sheet_starts.now a.placed_entries.now a.placed_starts.now (a.slot + l.o)) v.wide (p.0 l.o h),
      (sum_fits a.slot l.o a.n h p.1).2,
      subst (λ (m : ℕ). slot_numbers ≤ m) (sym v.long) p.2,
      v.small l.o (omega arith) h,
      p.4,
      p.5,
      p.6,
    )

pub loop-o-preserved : goal.loop-o-preserved
loop-o-preserved c = let a = c.args in
    let l = c.loop-o in
    let s = c.orientation-next in
    let k = s.auto in
    at_next a.g a.inset_bounds.now a.parts.now a.shapes.now a.sheet.now a.placed.now a.room.now a.slot a.n a.tracks.now
    l.room _ l.tracks _ l.best s.result c.better-best.result l.o l.invariant (omega arith) s.ensures c.better-best.ensures k.room k.tracks

pub returns : goal.returns
returns c = let a = c.args in
    let l = c.loop-o in
    at_last a.g a.inset_bounds.now a.parts.now a.shapes.now a.sheet.now a.placed.now a.room.now a.slot a.n a.tracks.now
    l.room l.room l.tracks l.tracks l.best l.best l.best l.o l.invariant (omega arith)
