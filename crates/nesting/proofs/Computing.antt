-- What a computed claim opens, of the definitions in specs/. Assumes nothing.
use mathlib.Core.List.{flat_map}
use Rattle.numbers.proofs.Computing.{numbers_compute}
use Rattle.trapezoid.proofs.Computing.{strip_computes}
use Rattle.slabs.proofs.Computing.{slab_computes}
use Rattle.strips.proofs.Computing.{strips_compute}
use Rattle.index.proofs.Computing.{buckets_compute, intervals_compute}
use Rattle.look.proofs.height.Computing.{height_computes}
use Rattle.look.proofs.Computing.{looking_computes}
use Rattle.job.proofs.Computing.{jobs_compute}
use Rattle.filling.proofs.Computing.{refusals_compute, columns_compute, shapes_compute, search_computes, choice_computes, rooms_compute, state_computes}
use Rattle.filling.proofs.Computing.{order_computes, consistent_computes, start_computes, next-copy_computes, accounts_compute, fill_computes}
use Rattle.filling.proofs.Computing.{withdraw_computes, calls_compute}
use Rattle.random.specs.SplitMix64.{next_state, mixed}
use Rattle.nesting.specs.CopyOrder.{same_priority, numbered, larger_first, higher_first, ahead, copy_order}
use Rattle.nesting.specs.Rounds.{better_than, no_kind, swappable, swapped, judged, one_round, rounds, first_kept, swap_search}
use Rattle.nesting.specs.Nest.{nest_verdict, nested, nest_job, nest_given, nest_of}
use Rattle.nesting.specs.Text.{decimal_up_to, decimal, hex_digit, hex_up_to, hex, line, plan_line, position_at, put_line, put_lines, left_line, left_lines}
use Rattle.nesting.specs.Text.{fill_line, fill_lines, look_line, look_lines, last_lines, plan_text, refusal_text, reply_text, printed_for, printed}
use Rattle.nesting.specs.Case4.{case4, case4_text}
use Rattle.nesting.specs.Sheets.{rectangle, triangle, clockwise, both, job_in, job_of, bits, room, rooms_sized, lent_sized, ample, rooms_bits, lent_bits}
use Rattle.nesting.specs.Cases.{plan_bits}
use Rattle.nesting.specs.Cases.{job_bits, draws_of, state_bits, after_bits, column_bits, planned_bits, called_bits, five_copies, nothing, four_plates}
use Rattle.nesting.specs.Cases.{plate_strips, four_strips, four_entries, four_firsts, rooms_left, four_standing, case4_plan, exact, case4_rooms, starred1}
use Rattle.nesting.specs.Cases.{starred2, starred3, starred4, starred4_fill, starred4_plan, starred4_text, starred5, starred5_calls, starred6, starred7}
use Rattle.nesting.specs.Cases.{starred8, starred9, starred10, starred11, gapped, gap_number, gap_numbers, gaps_judged, starred_gap, starred}
use Rattle.nesting.specs.Cases.{second_plates, starred_frame, next_copies, rooms_again, starred_back, starred_freed}

unfoldable pub copy-order_computes : Unit {0}
unfolding same_priority numbered larger_first higher_first ahead copy_order
copy-order_computes = tt

unfoldable pub rounds_compute : Unit {0}
unfolding better_than no_kind swappable swapped judged one_round rounds first_kept swap_search
rounds_compute = tt

unfoldable pub nest_computes : Unit {0}
unfolding nest_verdict nested nest_job nest_given nest_of
nest_computes = tt

unfoldable pub text_computes-1 : Unit {0}
unfolding decimal_up_to decimal hex_digit hex_up_to hex line plan_line position_at put_line put_lines left_line left_lines fill_line fill_lines look_line look_lines
text_computes-1 = tt

unfoldable pub text_computes-2 : Unit {0}
unfolding last_lines plan_text refusal_text reply_text printed_for printed
text_computes-2 = tt

unfoldable pub text_computes : Unit {0}
unfolding text_computes-1 text_computes-2
text_computes = tt

unfoldable pub cases_compute-1 : Unit {0}
unfolding numbers_compute strip_computes slab_computes strips_compute buckets_compute intervals_compute height_computes looking_computes jobs_compute
cases_compute-1 = tt

unfoldable pub cases_compute-2 : Unit {0}
unfolding refusals_compute columns_compute shapes_compute search_computes choice_computes rooms_compute state_computes order_computes
cases_compute-2 = tt

unfoldable pub cases_compute-3 : Unit {0}
unfolding consistent_computes start_computes next-copy_computes accounts_compute fill_computes withdraw_computes calls_compute next_state mixed
    copy-order_computes
cases_compute-3 = tt

unfoldable pub cases_compute-4 : Unit {0}
unfolding rounds_compute nest_computes text_computes flat_map rectangle triangle clockwise both job_in job_of bits room rooms_sized lent_sized ample rooms_bits
cases_compute-4 = tt

unfoldable pub cases_compute-5 : Unit {0}
unfolding lent_bits plan_bits job_bits draws_of state_bits after_bits column_bits planned_bits case4 called_bits five_copies nothing four_plates plate_strips
cases_compute-5 = tt

unfoldable pub cases_compute-6 : Unit {0}
unfolding four_strips four_entries four_firsts rooms_left four_standing case4_plan exact case4_rooms case4_text starred1 starred2 starred3 starred4 starred4_fill
cases_compute-6 = tt

unfoldable pub cases_compute-7 : Unit {0}
unfolding starred4_plan starred4_text starred5 starred5_calls starred6 starred7 starred8 starred9 starred10 starred11
    gapped gap_number gap_numbers gaps_judged starred_gap second_plates starred_frame
    next_copies rooms_again starred_back starred_freed starred
cases_compute-7 = tt

unfoldable pub cases_compute : Unit {0}
unfolding cases_compute-1 cases_compute-2 cases_compute-3 cases_compute-4 cases_compute-5 cases_compute-6 cases_compute-7
cases_compute = tt
