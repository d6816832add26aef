-- `judge_line`: 4, then the place in the frame. Assumes nothing.
use mathlib.Core.Path.{refl, sym, ap, ◌∙◌}
use Rattle.frames.specs.declared.Frame.{Frame}
use Rattle.frames.specs.Frames.{to}
use Rattle.judge_lines.proofs.Lines.{line_as}
use Rattle.judge_lines.proofs.Verdicts.{line_x, line_y, line_finite, line-place}
use Rattle.judge_lines.proofs.judge_line.Goals as goal

pub returns-in_default : goal.returns-in_default
returns-in_default c = let x = c.args in
    (tt, λ j w ks st t ri fi kept. line_x j w ks st x.l c.in_default.is)

pub returns-in_default-dy : goal.returns-in_default-dy
returns-in_default-dy c = let x = c.args in
    (tt, λ j w ks st t ri fi kept. line_y j w ks st x.l _ c.in-Some.is c.in_default-dy.is)

pub place_line-requires : goal.place_line-requires
place_line-requires c = c.requires

pub returns : goal.returns
returns c = let x = c.args in
    let E = c.place_line.ensures in (
      E.0,
      λ j w ks st t ri fi kept.
          line_as j w ks st x.l _ _ c.place_line.result _ _ (line_finite j w ks st x.l c.in-Some.x c.in-Some-dy.y
          c.in-Some.is c.in-Some-dy.is)
          (E.1 j w ks st x.l t ri kept refl refl
          (line-place j w ks st x.l c.in-Some.x c.in-Some-dy.y c.in-Some.is c.in-Some-dy.is
          ∙ (ap (λ (f : Frame). to f (record { x = c.in-Some.x; y = c.in-Some-dy.y })) fi ∙ sym c.to-at.ensures))),
    )
