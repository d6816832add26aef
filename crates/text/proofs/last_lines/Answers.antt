-- `text::last_lines` meets its contract: three lines one after the other. Assumes nothing.
use native.Mathlib.Omega.{arith}
use mathlib.Core.List.{[], ◌∷◌}
use Rattle.nesting.specs.Text.{right_word, area_word, last_lines}
use Rattle.lines.proofs.Appending.{put-both}
use Rattle.lines.proofs.Lines.{line_most}
use Rattle.text.proofs.last_lines.Goals as goal

pub line-requires-2 : goal.line-requires-2
line-requires-2 c = let u = c.line.ensures.wrote in
    omega (arith, c.requires, u.next, u.long, line_most right_word [] (c.args.plan.now.right ∷ []))

pub line-requires-3 : goal.line-requires-3
line-requires-3 c = let u = c.line.ensures.wrote in
    let v = c.line-2.ensures.wrote in
    omega (
      arith,
      c.requires,
      u.next,
      u.long,
      v.next,
      v.long,
      line_most right_word [] (c.args.plan.now.right ∷ []),
      line_most area_word [] (c.args.plan.now.unplaced_area ∷ []),
    )

pub returns : goal.returns
unfolding last_lines
returns c = put-both c.line.ensures (put-both c.line-2.ensures c.line-3.ensures)
