-- `program::line_text`: the line, zeros after it. Assumes nothing.
use Rattle.std.proofs.Common.{rules}
use mathlib.Core.List.{append-nil}
use Rattle.program.proofs.Answering.{text_in_finished}
use Rattle.program.proofs.line_text.Goals as goal

pub returns : goal.returns
returns c = let t = c.new-text.ensures in
    text_in_finished c.args.out.now _ _ _ _ _ _ t.1 t.2 (rw append-nil at c.line.ensures) c.finish.ensures (search rules)
