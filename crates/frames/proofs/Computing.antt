-- What a computed claim opens, of the definitions in specs/. Assumes nothing.
use Rattle.frames.specs.Frames.{from_right, from_top, along_x, turned, to, from, reversing, identity, point_at, loop_index, framed_points, coordinates, framed}

unfoldable pub frames_compute : Unit {0}
unfolding from_right from_top along_x turned to from reversing identity point_at loop_index framed_points coordinates framed
frames_compute = tt
