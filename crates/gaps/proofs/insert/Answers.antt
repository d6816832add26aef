use mathlib.Core.Path.{◌≡◌, sym, subst}
use mathlib.Core.List.{List}
use Prim.Native.Nat.{ℕ, ◌+◌, ◌-◌}
use native.Mathlib.Omega.{arith}
use Rattle.gaps.specs.inner.OpenGaps.{Inserted}
use Rattle.gaps.proofs.Inserting.{inserted_start, inserted_step}
use Rattle.gaps.proofs.insert.Goals as goal

pub loop-by-init : goal.loop-by-init
loop-by-init c = (omega arith, inserted_start _ _ _ _ _)

pub bounds-starts-b : goal.bounds-starts-b
bounds-starts-b c = let l = c.loop-by in
    let g = c.args in
    let p = c.requires in
    omega (arith, l.invariant.0, p.0)

pub bounds-starts-b-in-loop-by : goal.bounds-starts-b-in-loop-by
bounds-starts-b-in-loop-by c = let l = c.loop-by in
    let g = c.args in
    let p = c.requires in
    omega (arith, l.invariant.0, p.0)

pub move_bucket-requires : goal.move_bucket-requires
move_bucket-requires c = let l = c.loop-by in
    let g = c.args in
    let p = c.requires in
    let s = p.1 (g.lo + (l.by - 1)) (g.lo + (l.by - 1) + 1) (omega arith) (omega (arith, l.invariant.0, p.0)) in
    let t = p.1 (g.lo + (l.by - 1) + 1) (g.lo + g.width) (omega (arith, l.invariant.0)) p.0 in
    (s, omega (arith, t, l.invariant.0, l.invariant.1.size, p.2))

pub set_entry-requires : goal.set_entry-requires
set_entry-requires c = let l = c.loop-by in
    let g = c.args in
    let p = c.requires in
    let t = p.1 (g.lo + (l.by - 1) + 1) (g.lo + g.width) (omega (arith, l.invariant.0)) p.0 in
    (omega (arith, t, l.invariant.0, l.invariant.1.size, p.2, c.move_bucket.auto.s), omega (arith, p.3))

pub loop-by-preserved : goal.loop-by-preserved
loop-by-preserved c = let l = c.loop-by in
    let g = c.args in
    let p = c.requires in
    let e : l.by ≡ l.by - 1 + 1 = omega arith in
    let J = subst (λ (k : ℕ). Inserted g.lo g.width g.number g.starts.now g.entries.now k l.entries) e l.invariant.1 in
    let N = inserted_step g.lo g.width g.number g.starts.now g.entries.now p.0 p.1 p.2 (l.by - 1) l.entries c.move_bucket.new.s (omega (arith, l.invariant.0)) J c.move_bucket.ensures in
    (omega (arith, l.invariant.0), subst (λ (k : List ℕ). Inserted g.lo g.width g.number g.starts.now g.entries.now (l.by - 1) k) (sym c.set_entry.ensures) N)

pub shape_of-entries : goal.shape_of-entries
shape_of-entries c = c.loop-by.invariant.1.size

pub returns : goal.returns
returns c = let l = c.loop-by in
    let g = c.args in
    let e : l.by ≡ 0 = omega arith in
    subst (λ (k : ℕ). Inserted g.lo g.width g.number g.starts.now g.entries.now k l.entries) e l.invariant.1
