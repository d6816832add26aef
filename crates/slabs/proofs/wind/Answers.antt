-- `slabs::wind` meets its contract. Assumes nothing.
use Prim.Native.Nat.{◌-◌}
use lib.Ieee.{Float, lt}
use mathlib.Core.Path.{◌≡◌, refl, ap, sym, ◌∙◌}
use mathlib.Core.Bool.{Bool, true, false, cond, ◌&&◌}
use Rattle.std.proofs.Common.{true≢false}
use native.Mathlib.Omega.{arith}
use lib.IntN.{ℤ, pos, ◌-ℤ◌, +ℤ_invr}
use Rattle.slabs.proofs.Walks.{wind_step, wind_last, turned-low, turned-high}
use Rattle.slabs.specs.Slab.{walk}
use Rattle.slabs.specs.inner.Tables.{hold, down, crossing_at, zero_bits}
use Rattle.slabs.proofs.wind.Goals.{After-close-count, then-was, else-was, then-sheet, else-sheet}
use Rattle.slabs.proofs.wind.Goals as goal

pub loop-k-init : goal.loop-k-init
loop-k-init c = let a = c.args in (
  omega arith,
  omega arith,
  ap (λ (z : ℤ). hold (record { room = a.room.now; count = a.n }) (walk a.sheet a.top a.xa a.xb z a.bottom a.bottom (down (crossing_at a.rows.now) a.m))) (+ℤ_invr (pos a.m)),
)

is_second : (a b : Bool) → a ≡ true → b ≡ (a && b)
is_second true b e = refl
is_second false b e = absurd (true≢false (sym e))

is_none : (a b : Bool) → a ≡ false → a ≡ (a && b)
is_none true b e = absurd (true≢false e)
is_none false b e = refl

turn : (c : After-close-count) (la lb : Float) → la ≡ cond c.runs-was.result c.loop-k.la c.row_at-c.result.ya → lb ≡ cond c.runs-was.result c.loop-k.lb c.row_at-c.result.yb
    → hold (record { room = c.close-count.new.room; count = c.close-count.result }) (walk c.args.sheet c.args.top c.args.xa c.args.xb (pos c.turned-w.result -ℤ pos c.args.m) la lb (down (crossing_at c.args.rows.now) (c.loop-k.k - 1)))
    ≡ hold (record { room = c.loop-k.room; count = c.loop-k.count }) (walk c.args.sheet c.args.top c.args.xa c.args.xb (pos c.loop-k.w -ℤ pos c.args.m) c.loop-k.la c.loop-k.lb (down (crossing_at c.args.rows.now) c.loop-k.k))
turn c la lb ea eb = let l = c.loop-k in let a = c.args in let r = c.row_at-c in
    wind_step a.sheet a.top a.xa a.xb a.rows.now a.m l.k l.w c.turned-w.result (omega arith) (omega arith) l.la l.lb l.room c.close-count.new.room l.count c.close-count.result
    r.result c.runs-was.result c.runs-is.result c.if-was.close c.strip-s.result la lb
    r.ensures c.turned-w.ensures c.runs-was.ensures c.runs-is.ensures c.strip-s.ensures
    (elim c.if-was.branch [ then-was w ↦ w.close-is ∙ is_second _ _ w.if-was.true | else-was w ↦ w.close-is ∙ is_none _ _ w.if-was.false ])
    c.close-count.ensures ea eb

pub loop-k-preserved-then-not-was : goal.loop-k-preserved-then-not-was
loop-k-preserved-then-not-was c = let l = c.loop-k in let d = lt zero_bits c.row_at-c.result.d in let t = c.turned-w in (
  turned-low d l.w t.result l.k c.args.m t.ensures (omega arith) l.invariant.0,
  turned-high d l.w t.result l.k c.args.m t.ensures (omega arith) l.invariant.0 l.invariant.1,
  turn (goal.at.loop-k-preserved-then-not-was c).After-close-count _ _ (rw c.if-not-was.true) (rw c.if-not-was.true) ∙ l.invariant.2,
)

pub loop-k-preserved : goal.loop-k-preserved
loop-k-preserved c = let l = c.loop-k in let d = lt zero_bits c.row_at-c.result.d in let t = c.turned-w in (
  turned-low d l.w t.result l.k c.args.m t.ensures (omega arith) l.invariant.0,
  turned-high d l.w t.result l.k c.args.m t.ensures (omega arith) l.invariant.0 l.invariant.1,
  turn (goal.at.loop-k-preserved c).After-close-count _ _ (rw c.if-not-was.false) (rw c.if-not-was.false) ∙ l.invariant.2,
)

pub returns : goal.returns
returns c = let l = c.loop-k in let a = c.args in let s = c.strip-s-2 in
    c.close.ensures ∙ (wind_last a.sheet a.top a.xa a.xb (crossing_at a.rows.now) l.k (omega arith) (pos l.w -ℤ pos a.m) l.la l.lb l.room l.count c.if-sheet.close s.result s.ensures
    (elim c.if-sheet.branch [ then-sheet w ↦ w.close-is ∙ (w.runs.ensures ∙ is_second _ _ w.if-sheet.true) | else-sheet w ↦ w.close-is ∙ is_none _ _ w.if-sheet.false ]) ∙ l.invariant.2)
