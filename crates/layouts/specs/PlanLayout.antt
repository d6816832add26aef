-- Document 02, W6: "Every layout our planner makes": its copies, in filling order, as the numbers of a list. Definitions only. Assumes nothing.
use Rattle.std.specs.Prelude.{ℕ}
use mathlib.Core.List.{List, [], ◌∷◌, flat_map}
use Rattle.std.specs.Float.{binary64}
use Rattle.std.specs.Float.Ieee.{to_bits}
use Rattle.frames.specs.declared.Frame.{Frame}
use Rattle.frames.specs.declared.Point.{Point}
use Rattle.frames.specs.Frames.{from}
use Rattle.job.specs.Jobs.{Job, frame_of}
use Rattle.filling.specs.Shapes.{Standing}

-- where on the sheet a standing copy lies: what its `put` line says
unfoldable pub sheet_place : Frame → Standing → Point
sheet_place f c = from f (record { x = c.x; y = c.y })

-- kind, orientation, and the bits of x and y
unfoldable pub copy_numbers : Frame → Standing → List ℕ
copy_numbers f c = c.copy.kind ∷ c.orientation ∷ to_bits binary64 (sheet_place f c).x ∷ to_bits binary64 (sheet_place f c).y ∷ []

-- the list of standing copies
unfoldable pub layout_numbers : Job → List Standing → List ℕ
layout_numbers j cs = flat_map (copy_numbers (frame_of j.header)) cs
