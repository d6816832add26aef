use Rattle.index.specs.inner.Listing.{intervals}
use Rattle.look.specs.height.inner.Raising.{Rearranged}
use Rattle.look.proofs.height.Passes.{above}
use Rattle.look.proofs.height.Rearranging.{Raised}
use Rattle.look.proofs.height.height.Given as goal

abbrev pub invariant-loop-y : goal.invariant-loop-y
invariant-loop-y l = Rearranged l.n l.initial.room l.room × Raised l.y_low (intervals l.initial.room l.n) l.y l.z

abbrev pub decreases-loop-y : goal.decreases-loop-y
decreases-loop-y l = above l.y
