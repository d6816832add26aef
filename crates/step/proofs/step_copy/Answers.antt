-- `step_copy`: the next copy of a state and its rooms. Assumes nothing.
use Rattle.rooms.proofs.Zeroing.{zeroed-doubles}
use Prim.Native.Nat.{ℕ, ◌*◌, ◌/◌}
use native.Mathlib.Nat.{le_of_eq}
use mathlib.Core.Path.{sym, subst, ◌∙◌}
use lib.ListN.{length, take, length-replicate}
use lib.Seq.{length-take-le}
use lib.Dec.{T}
use borrow.Author.Rules.{rules}
use Rattle.rooms.specs.tracks.inner.Tracks.{next_columns, look_counts_from}
use Rattle.filling_laws.proofs.Ready.{InDoubles}
use Rattle.step.specs.inner.Going.{rooms}
use Rattle.step.proofs.After.{below}
use Rattle.step.proofs.Allowed.{each-fit, six, kind_few, taken-few, sheet-within, apart-within, slots-few, turns_few}
use Rattle.step.proofs.Allowed.{allowed_counts, allowed_fixed, allowed_standing, allowed_sheet_firsts, allowed_firsts}
use Rattle.step.proofs.Steps.{room-zeros, code_of, written_by, step-answer}
use Rattle.step.proofs.step_copy.Goals as goal

pub copy_at-copy-requires : goal.copy_at-copy-requires
copy_at-copy-requires c = let s = c.args.state in
    let G = c.requires.1 in (
      below s.taken (length s.order) (taken-few G) (c.well_formed.1.1.0.1.1.1.0.1.0.1),
      kind_few G,
      G.tabled.rows_long,
      G.tabled.areas_long,
    )

pub overflow_mul-end : goal.overflow_mul-end
overflow_mul-end c = let a = c.args in
    record { fits = six a.state.tables.sheet_strips (length a.sheet.now) (sheet-within c.requires.1) c.well_formed.1.1.1.1.0.0 }

pub slice_bounds-place_copy-end-3 : goal.slice_bounds-place_copy-end-3
slice_bounds-place_copy-end-3 c = let a = c.args in sym (length-take-le (6 * a.state.tables.sheet_strips) a.sheet.now (sheet-within c.requires.1))

pub place_copy-step-requires : goal.place_copy-step-requires
place_copy-step-requires c = let a = c.args in
    let s = a.state in
    let t = c.well_formed.1.1.0.1.1.0.1.1 in
    let b = t.1.0.1.1 in
    let i = t.1.1.1.1.0 in
    let G = c.requires.1 in
    let D : InDoubles s (rooms a.shapes.now a.sheet.now a.placed.now a.sheet_entries.now a.entries.now
    a.sheet_firsts.now a.firsts.now) =
    record {
      resolution = subst T (sym t.0.1) tt;
      sheet_bounds =
          record {
            left = subst T (sym b.0.1) tt;
            bottom = subst T (sym b.1.0.1) tt;
            right = subst T (sym b.1.1.0.1) tt;
            top = subst T (sym b.1.1.1.0.1) tt;
          };
      inset_bounds = each-fit s.tables.inset_bounds i.0 i.1.1;
      shapes = c.type_inv.shapes;
      sheet = c.type_inv.sheet;
      placed = search rules;
    } in (
      allowed_fixed G D (i.1.0.1)
          (t.1.1.1.1.1.0.1.0.1) (length a.intervals.now / 2)
          (take (6 * c.totals_of-t.result.placed_strips) a.placed.now) c.grid_of-g.result c.grid_of-g.ensures
          c.copy_at-copy.result c.copy_at-copy.ensures,
      slots-few G c.copy_at-copy.result c.copy_at-copy.ensures,
      le_of_eq (sym c.tracks_of-tracks.ensures.0),
      allowed_counts G c.copy_at-copy.result c.copy_at-copy.ensures D (look_counts_from c.tracks_of-tracks.result) c.tracks_of-tracks.ensures.2,
      allowed_standing G D c.grid_of-g.result c.grid_of-g.ensures c.totals_of-t.result c.totals_of-t.ensures,
      length-replicate {A = ℕ} 512 0,
      apart-within G c.grid_of-g.result c.grid_of-g.ensures,
      allowed_sheet_firsts G c.grid_of-g.result c.grid_of-g.ensures,
      allowed_firsts G c.grid_of-g.result c.grid_of-g.ensures c.totals_of-t.result c.totals_of-t.ensures,
    )

pub answer-requires : goal.answer-requires
answer-requires c = let G = c.requires.1 in (
  taken-few G,
  c.place_copy-step.ensures.2,
  turns_few G c.copy_at-copy.result c.copy_at-copy.ensures,
  le_of_eq (sym (c.place_copy-step.auto.tracks ∙ c.tracks_of-tracks.ensures.0)),
)

pub returns : goal.returns
returns c = let a = c.args in
    let m = c.well_formed.1.1.0.1.1.1.1.1.1.0.1.0.1 in
    let e = c.tracks_of-tracks.ensures in
    λ j G. step-answer G a.intervals.now m c.place_copy-step.result _ _ _ _ _
    (c.place_copy-step.ensures.0 ∙ code_of G a.intervals.now m c.grid_of-g.result c.copy_at-copy.result c.totals_of-t.result
    (look_counts_from c.tracks_of-tracks.result) (next_columns c.tracks_of-tracks.result)
    c.grid_of-g.ensures c.copy_at-copy.ensures c.totals_of-t.ensures e.2 e.1)
    (written_by G a.intervals.now m c.grid_of-g.result c.grid_of-g.ensures _ _ _ c.place_copy-step.ensures.3)
    c.answer.result c.answer.ensures _
    ((zeroed-doubles _ c.fill.ensures.after) ∙ room-zeros a.intervals.now _ c.place_copy-step.auto.room)
