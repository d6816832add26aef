use Rattle.put_lines.proofs.Listing.{Listed}
use Rattle.put_lines.proofs.read.Given as goal

abbrev pub invariant-loop-n : goal.invariant-loop-n
invariant-loop-n l = Listed l.bytes l.initial.numbers l.numbers l.at l.n
