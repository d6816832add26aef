-- For inner functions' contracts only: the strips of the set at a bit position. Definitions only. Assumes nothing.
use Rattle.std.specs.Prelude.{ℕ, ◌/◌, Bool, List, length}
use Rattle.trapezoid.specs.declared.Trapezoid.{Trapezoid}
use Rattle.strips.specs.Strips.{trapezoids}
use Rattle.frames.specs.declared.Frame.{Frame}
use Rattle.frames.specs.Frames.{framed}
use Rattle.kinds.specs.sets.Sets.{Set}
use Rattle.kinds.specs.sets.inner.Answers.{set_at}

-- the strips of a set; those of the sheet if the flag says so
unfoldable pub strips_of : Set → Bool → List Trapezoid
strips_of s sheet = trapezoids s.points (length s.points / 2) s.ends sheet

-- the strips of the set at a bit position, in the frame
unfoldable pub strips_at : Frame → List ℕ → ℕ → Bool → List Trapezoid
strips_at f bytes p sheet = strips_of (framed f (set_at bytes p)) sheet
