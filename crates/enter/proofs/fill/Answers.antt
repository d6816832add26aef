use mathlib.Core.Path.{◌≡◌, sym, ◌∙◌, refl, subst}
use Prim.Native.Nat.{ℕ}
use native.Mathlib.Omega.{arith}
use Rattle.trapezoid.specs.Strip.{strip_at}
use Rattle.index.proofs.Steps.{bucket_top}
use Rattle.index.specs.inner.Listing.{entered_from}
use Rattle.enter.specs.inner.Gaps.{Blocks}
use Rattle.enter.specs.inner.EntryRoom.{start_of}
use Rattle.enter.proofs.GapFilling.{strip-room, fill_turn}
use Rattle.enter.proofs.fill.Goals as goal

pub loop-i-init : goal.loop-i-init
loop-i-init c = (omega arith, c.requires.0, refl, refl, c.requires.6, λ j a. refl)

pub kept_span-s-requires : goal.kept_span-s-requires
kept_span-s-requires c = let p = c.requires in
    let l = c.loop-i in
    (l.invariant.0, omega (arith, p.1), p.2, p.3, record { low = λ j a b. p.4.low j (omega arith) b; high = λ j a b. p.4.high j (omega arith) b })

pub fill_strip-requires : goal.fill_strip-requires
fill_strip-requires c = let l = c.loop-i in
    let g = c.args in
    let p = c.requires in
    let E = c.kept_span-s.ensures in
    let t = bucket_top g.ix (strip_at g.standing.now l.i).x1 in
    (l.invariant.4.table, omega (arith, t, E.1), strip-room g.ix g.standing.now l.i g.to _ _ (omega arith) E.0 E.1 l.entries l.starts (let z = l.invariant.2 in let y = p.5 in omega arith) l.invariant.4, omega (arith, p.7))

pub loop-i-preserved : goal.loop-i-preserved
loop-i-preserved c = let l = c.loop-i in
    let g = c.args in
    let p = c.requires in
    let E = c.kept_span-s.ensures in
    let F = fill_turn g.ix g.standing.now l.i g.to _ _ (omega arith) E.0 E.1 l.entries l.starts _ _ (let z = l.invariant.2 in let y = p.5 in omega arith) l.invariant.4 c.fill_strip.ensures in
    (omega (arith, l.invariant.0), omega arith, F.1 ∙ l.invariant.2, F.0.table ∙ sym p.6.table, F.0, λ j a. F.2 j a ∙ l.invariant.5 j a)

pub shape_of-entries : goal.shape_of-entries
shape_of-entries c = c.loop-i.invariant.2

pub shape_of-starts : goal.shape_of-starts
shape_of-starts c = c.loop-i.invariant.3

pub returns : goal.returns
returns c = let l = c.loop-i in
    let g = c.args in
    let e : l.i ≡ g.to = omega (arith, l.invariant.1) in
    (subst (λ (k : ℕ). Blocks (start_of g.ix g.standing.now g.to) (entered_from g.ix g.standing.now k) l.entries l.starts) e l.invariant.4, l.invariant.5)
