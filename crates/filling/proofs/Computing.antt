-- What a computed claim opens, of the definitions in specs/. Assumes nothing.
use lib.Ieee.{neg}
use Rattle.filling.specs.Refusals.{number_of, verdict_number, is_refused, refuse_if}
use Rattle.filling.specs.Columns.{ranges, reversed, columns, regular_column, last_column, column_at}
use Rattle.filling.specs.Shapes.{set_bounds, set_strips, shape_for, planner_of, no_bounds, no_shape, shape_of, copies_from, moved_strips, copy_strips}
use Rattle.filling.specs.Shapes.{named, others, standing_strips}
use Rattle.filling.specs.Search.{ranges_of, reversed_for, last_of, intervals_at, look_at, first_free, search, remembered, columns_from, looks, searched}
use Rattle.filling.specs.Search.{search_all, searched_all}
use Rattle.filling.specs.Choice.{choice_of, choices, wins, best, standing_at}
use Rattle.filling.specs.Rooms.{laid, zeros, zero_rooms, only_positions}
use Rattle.filling.specs.State.{by_slot, slot_shape, orientation_counts, slot_rows, flat_parts, part_at, flat_bounds, bounds_at, apart_room, inset_room, shape_at}
use Rattle.filling.specs.State.{planner_at, order_of, copy_at, stands_at, misses_at, standing_to, without_to, standing_of, without_of, remembered_of}
use Rattle.filling.specs.State.{remembered_number, track_at, tracks_of, zero_tables, empty_layout, zero_state}
use Rattle.filling.specs.Order.{count_in, in_full, rearranged}
use Rattle.filling.specs.Consistent.{every, bounded, strip_fits, strips_fit, bounds_fit, taken_fits, strip_counts_fit, part_fits, parts_fit, column_fits}
use Rattle.filling.specs.Consistent.{track_fits, tracks_fit, track_table_fits, resolution_fits, shape_fits}
use Rattle.filling.specs.Consistent.{planner_fits, layout_fits, gap_fits, gaps_fit, same, numbers_lie}
use Rattle.filling.specs.Consistent.{orientation_fits, position_fits, copies_fit}
use Rattle.filling.specs.Consistent.{sheet_index, entries_for, entries_fit, sheet_strips_of, placed_strips_of, firsts_for, firsts_fit, consistent}
use Rattle.filling.specs.Start.{apart_strips_of, inset_strips, parts_from, tables_of, first_state, first_rooms, prepare_verdict, start_verdict, no_start, good_start}
use Rattle.filling.specs.Start.{start_job, start_given, start_of}
use Rattle.filling.specs.NextCopy.{interval_counts, any_above, new_strips, store_verdict, winner_verdict, copy_verdict, entered, state_with, layout_after}
use Rattle.filling.specs.NextCopy.{state_after, stored, rooms_after, no_step, place_found, place_copy, place_next, core_step, step_job, step_given, next_copy_of}
use Rattle.filling.specs.Accounts.{positions_of_kind, framed_positions, place_on_sheet, on_sheet, positions, flat_positions}
use Rattle.filling.specs.Accounts.{placed_of_kind, unplaced_of_kind, looks_by_slot, look_counts_of, reach_of, not_below_zero, offcut_of, plan_of, no_plan}
use Rattle.filling.specs.Fill.{fill_from, fill_order, not_planned, planned_with, planned_by, fill_job, fill_given, fill_of}
use Rattle.filling.specs.Withdraw.{closed_up, strips_left, strips_without, right_of, layout_without, state_without, rooms_without, no_withdrawal, standing_here}
use Rattle.filling.specs.Withdraw.{withdrawn, withdraw_job, withdraw_given, withdraw_of}
use Rattle.filling.specs.Calls.{request_of, step_reply, call_step, after_calls, refusals, state_outcome, plain_outcome, plain_after}

unfoldable pub refusals_compute : Unit {0}
unfolding number_of verdict_number is_refused refuse_if
refusals_compute = tt

unfoldable pub columns_compute : Unit {0}
unfolding ranges reversed columns regular_column last_column column_at
columns_compute = tt

unfoldable pub shapes_compute : Unit {0}
unfolding set_bounds set_strips shape_for planner_of no_bounds no_shape shape_of copies_from named others moved_strips copy_strips standing_strips
shapes_compute = tt

unfoldable pub search_computes : Unit {0}
unfolding ranges_of reversed_for last_of intervals_at look_at first_free search remembered columns_from looks searched search_all searched_all
search_computes = tt

unfoldable pub choice_computes : Unit {0}
unfolding choice_of choices wins best standing_at
choice_computes = tt

unfoldable pub rooms_compute : Unit {0}
unfolding laid zeros zero_rooms only_positions
rooms_compute = tt

unfoldable pub state_computes-1 : Unit {0}
unfolding by_slot slot_shape orientation_counts slot_rows flat_parts part_at flat_bounds bounds_at apart_room inset_room shape_at planner_at order_of copy_at
state_computes-1 = tt

unfoldable pub state_computes-2 : Unit {0}
unfolding stands_at misses_at standing_to without_to standing_of without_of remembered_of remembered_number track_at tracks_of zero_tables empty_layout zero_state
state_computes-2 = tt

unfoldable pub state_computes : Unit {0}
unfolding state_computes-1 state_computes-2
state_computes = tt

unfoldable pub order_computes : Unit {0}
unfolding count_in in_full rearranged
order_computes = tt

unfoldable pub consistent_computes-1 : Unit {0}
unfolding every neg bounded strip_fits strips_fit bounds_fit taken_fits strip_counts_fit part_fits parts_fit column_fits track_fits tracks_fit track_table_fits
consistent_computes-1 = tt

unfoldable pub consistent_computes-2 : Unit {0}
unfolding resolution_fits shape_fits planner_fits layout_fits gap_fits gaps_fit same numbers_lie sheet_index entries_for entries_fit sheet_strips_of placed_strips_of
    firsts_for firsts_fit consistent
consistent_computes-2 = tt

unfoldable pub consistent_computes-3 : Unit {0}
unfolding orientation_fits position_fits same copies_fit
consistent_computes-3 = tt

unfoldable pub consistent_computes : Unit {0}
unfolding consistent_computes-1 consistent_computes-2 consistent_computes-3
consistent_computes = tt

unfoldable pub start_computes : Unit {0}
unfolding apart_strips_of inset_strips parts_from tables_of first_state first_rooms prepare_verdict start_verdict no_start good_start start_job start_given start_of
start_computes = tt

unfoldable pub next-copy_computes-1 : Unit {0}
unfolding interval_counts any_above new_strips store_verdict winner_verdict copy_verdict entered state_with layout_after state_after stored rooms_after no_step
next-copy_computes-1 = tt

unfoldable pub next-copy_computes-2 : Unit {0}
unfolding place_found place_copy place_next core_step step_job step_given next_copy_of
next-copy_computes-2 = tt

unfoldable pub next-copy_computes : Unit {0}
unfolding next-copy_computes-1 next-copy_computes-2
next-copy_computes = tt

unfoldable pub accounts_compute : Unit {0}
unfolding positions_of_kind framed_positions place_on_sheet on_sheet positions flat_positions placed_of_kind unplaced_of_kind looks_by_slot look_counts_of reach_of not_below_zero
    offcut_of plan_of no_plan
accounts_compute = tt

unfoldable pub fill_computes : Unit {0}
unfolding fill_from fill_order not_planned planned_with planned_by fill_job fill_given fill_of
fill_computes = tt

unfoldable pub withdraw_computes : Unit {0}
unfolding closed_up strips_left strips_without right_of layout_without state_without rooms_without no_withdrawal standing_here withdrawn withdraw_job withdraw_given
    withdraw_of
withdraw_computes = tt

unfoldable pub calls_compute : Unit {0}
unfolding request_of step_reply call_step after_calls refusals state_outcome plain_outcome plain_after
calls_compute = tt
