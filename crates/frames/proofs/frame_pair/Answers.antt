-- `frames::frame_pair` meets its contract. Assumes nothing.
use mathlib.Core.Path.{◌≡◌, ap, ap₂, ◌∙◌}
use mathlib.Core.Bool.{cond}
use mathlib.Core.List.{List}
use Prim.Native.Nat.{ℕ}
use lib.Ieee.{Float}
use Rattle.frames.specs.declared.Point.{Point}
use Rattle.frames.specs.Frames.{to, point_at}
use Rattle.frames.specs.inner.Turning.{set_point, framed_pair}
use Rattle.frames.proofs.frame_pair.Goals.{then-exchanged, else-exchanged}
use Rattle.frames.proofs.frame_pair.Goals as goal

pub returns : goal.returns
unfolding framed_pair point_at
returns c =
    let told : c.if-exchanged.a ≡ (cond c.args.exchanged c.args.j c.args.i, cond c.args.exchanged c.args.i c.args.j) = elim c.if-exchanged.branch [
      | then-exchanged w ↦ rw w.if-exchanged.true w.a-is
      | else-exchanged w ↦ rw w.if-exchanged.false w.a-is
    ]
    in
    c.put_point-2.ensures
    ∙ ap₂ (λ (l : List Float) (p : Point). set_point l c.args.j p)
    (c.put_point.ensures ∙ ap (λ (p : Point). set_point c.args.points.now c.args.i p) (c.to-p.ensures ∙ ap (λ (k : ℕ × ℕ). to c.args.f (point_at c.args.points.now k.0)) told))
    (c.to-q.ensures ∙ ap (λ (k : ℕ × ℕ). to c.args.f (point_at c.args.points.now k.1)) told)
