-- Lists of case 4's plates, judged: computed. Assumes nothing.
use mathlib.Core.Path.{◌≡◌, refl}
use Rattle.filling.specs.Leaf.{lacks}
use Rattle.nesting.proofs.Computing.{cases_compute}
use Rattle.layouts.specs.Layouts.{line_at, lines_of, is_finite, value_of, place_of, line_strips, among_columns, in_range, clear, quantity_of, place_verdict, line_verdict}
use Rattle.layouts.specs.Layouts.{layout_from, not_judged, layout_job, layout_given, layout_of}
use Rattle.claims.specs.LayoutCases.{judged_numbers, judged_bits, plate_answer, job_answer, plate, four_lines, emptied, layout_plates}
use Rattle.claims.specs.LayoutCases.{layout_accepted, layout_refused, layout_rooms, layout_others}

unfoldable pub layouts_compute-1 : Unit {0}
unfolding lacks line_at lines_of is_finite value_of place_of line_strips among_columns in_range clear quantity_of place_verdict line_verdict
    layout_from not_judged layout_job layout_given layout_of
layouts_compute-1 = tt

unfoldable pub layouts_compute : Unit {0}
unfolding layouts_compute-1 cases_compute judged_numbers judged_bits plate_answer job_answer plate four_lines emptied
    layout_plates layout_accepted layout_refused layout_rooms layout_others
layouts_compute = tt

pub plates_accepted : layout_plates.got ≡ layout_plates.want
unfolding layouts_compute
plates_accepted = refl

pub lists_accepted : layout_accepted.got ≡ layout_accepted.want
unfolding layouts_compute
lists_accepted = refl

pub lists_refused : layout_refused.got ≡ layout_refused.want
unfolding layouts_compute
lists_refused = refl

pub rooms-refused : layout_rooms.got ≡ layout_rooms.want
unfolding layouts_compute
rooms-refused = refl

pub others-judged : layout_others.got ≡ layout_others.want
unfolding layouts_compute
others-judged = refl
