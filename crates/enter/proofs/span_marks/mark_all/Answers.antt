use mathlib.Core.Path.{◌≡◌, sym, ◌∙◌, subst}
use Prim.Native.Nat.{ℕ, ◌+◌, ◌-◌}
use native.Mathlib.Omega.{arith}
use Rattle.enter.proofs.span_marks.NewIn.{new-few}
use Rattle.enter.proofs.span_marks.Marking.{Marking, marking_none, marking_turn}
use Rattle.enter.proofs.span_marks.mark_all.Goals as goal

pub overflow_sub-to : goal.overflow_sub-to
overflow_sub-to c = c.requires.0

pub clear-requires : goal.clear-requires
clear-requires c = omega (arith, c.requires.5, c.requires.7)

pub loop-i-init : goal.loop-i-init
loop-i-init c = (
  omega arith,
  c.requires.0,
  c.clear.auto.marks ∙ c.requires.7,
  marking_none c.args.ix c.args.standing.now c.args.from c.args.to
      c.args.first c.args.end c.clear.new.marks c.clear.ensures,
)

pub kept_span-s-requires : goal.kept_span-s-requires
kept_span-s-requires c = let p = c.requires in
    let l = c.loop-i in (
      l.invariant.0,
      omega (arith, p.1),
      p.2,
      p.3,
      record {
        low = λ j a b. p.4.low j (omega arith) b;
        high = λ j a b. p.4.high j (omega arith) b;
      },
    )

pub mark-requires : goal.mark-requires
mark-requires c = let p = c.requires in
    let g = c.args in
    let l = c.loop-i in
    let E = c.kept_span-s.ensures in
    let w = p.6.low l.i l.invariant.0 c.loop-i-test.true in
    let h = p.6.high l.i l.invariant.0 c.loop-i-test.true in (
      omega (arith, h, E.1, p.5, l.invariant.2),
      omega (arith, w, E.0),
      λ a. (
          let k = l.invariant.3 c.kept_span-s.result.hi (omega (arith, w, E.0, a)) (omega (arith, h, E.1)) in
          let f = new-few g.ix g.standing.now (l.i - g.from) g.from c.kept_span-s.result.hi in (
            omega (arith, k, f, p.1),
            λ q. (
                let k = l.invariant.3 (c.kept_span-s.result.lo - 1) (omega (arith, q)) (omega (arith, h, E.1, a)) in
                let f = new-few g.ix g.standing.now (l.i - g.from) g.from (c.kept_span-s.result.lo - 1 + 1) in
                omega (arith, k, f, l.invariant.0)
                ),
          )
          ),
    )

pub loop-i-preserved : goal.loop-i-preserved
loop-i-preserved c = let l = c.loop-i in
    let g = c.args in
    let E = c.kept_span-s.ensures in (
      omega (arith, l.invariant.0),
      omega arith,
      c.mark.auto.marks ∙ l.invariant.2,
      marking_turn g.ix g.standing.now g.from g.to l.i g.first g.end _ _ l.marks c.mark.new.marks l.invariant.0 E.0 E.1
          c.mark.ensures l.invariant.3,
    )

pub shape_of-marks : goal.shape_of-marks
shape_of-marks c = c.loop-i.invariant.2 ∙ sym c.requires.7

pub returns : goal.returns
returns c = let l = c.loop-i in
    let g = c.args in
    let e : l.i ≡ g.to = omega (arith, l.invariant.1) in
    subst (λ (k : ℕ). Marking g.ix g.standing.now g.from g.to k g.first g.end l.marks) e l.invariant.3
