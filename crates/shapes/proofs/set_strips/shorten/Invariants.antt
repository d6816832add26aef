use mathlib.Core.Path.{◌≡◌}
use lib.ListN.{take}
use Rattle.shapes.proofs.set_strips.shorten.Given as goal

abbrev pub invariant-loop-i : goal.invariant-loop-i
invariant-loop-i l = take l.i l.short ≡ take l.i l.ends
