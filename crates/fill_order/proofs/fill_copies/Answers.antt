-- `fill_copies`: what holds between copies is `Going`. Assumes nothing.
use Rattle.std.specs.Prelude.{Ok, Err}
use Prim.Native.Nat.{◌+◌, ◌*◌}
use mathlib.Core.Path.{◌≡◌, sym, ap, refl, subst}
use lib.Dec.{T}
use lib.Ieee.{of_bits}
use native.Mathlib.Nat.{lt_of_lt_of_le, le_refl}
use Rattle.std.proofs.Common.{rules}
use lib.ListN.{length}
use Rattle.place.specs.inner.Placing.{verdict_of}
use Rattle.filling_laws.proofs.ReadyStrips.{take-fit, drop-fit}
use Rattle.filling_laws.specs.fill_laws.inner.Prepared.{given_in}
use Rattle.filling_laws.proofs.fill_laws.Between.{kind-below}
use Rattle.filling_laws.proofs.fill_laws.Copies.{going-first, going-last, going_next, ready-next}
use Rattle.fill_order.proofs.fill_copies.Goals as goal

pub loop-i-init : goal.loop-i-init
unfolding of_bits
loop-i-init c = let a = c.args in
    let p = c.requires in
    let g = given_in a.g a.rows.now a.areas.now a.inset_bounds.now a.parts.now a.shapes.now a.sheet.now a.sheet_entries.now
    a.sheet_starts.now in
    going-first g a.order.now a.placed.now a.entries.now a.starts.now a.gains.now a.room.now a.tracks.now a.spots.now
    a.firsts.now _ refl
    p.5 p.4 p.6 c.type_inv.placed

pub copy_at-requires : goal.copy_at-requires
copy_at-requires c = let a = c.args in
    let p = c.requires in
    let g = given_in a.g a.rows.now a.areas.now a.inset_bounds.now a.parts.now a.shapes.now a.sheet.now a.sheet_entries.now
    a.sheet_starts.now in
    let i = c.loop-i.i in
    let h = c.loop-i-test.true in (
      h,
      lt_of_lt_of_le (kind-below p.0.0 g p.0.1 a.order.now p.0.2 i h) p.0.1.tabled.few,
      p.0.1.tabled.rows_long,
      p.0.1.tabled.areas_long,
    )

pub place_next-step-requires : goal.place_next-step-requires
place_next-step-requires c = let a = c.args in
    let p = c.requires in
    let l = c.loop-i in
    let q = c.copy_at in
    let g = given_in a.g a.rows.now a.areas.now a.inset_bounds.now a.parts.now a.shapes.now a.sheet.now a.sheet_entries.now
    a.sheet_starts.now in
    let n = 6 * a.g.apart_strips in
    ready-next g a.order.now a.placed.now a.entries.now a.starts.now a.gains.now a.room.now a.tracks.now a.spots.now
    a.firsts.now
    l.placed l.entries l.starts l.gains l.room l.tracks l.spots l.firsts (Ok tt) l.t l.i l.invariant c.loop-i-test.true
    p.0.0
    p.0.1 p.0.2
    (record {
      resolution = subst T (sym c.well_formed.0.1.1.1.1.0.1) tt;
      inset_bounds = c.type_inv.inset_bounds;
      apart = take-fit n _ c.type_inv.shapes;
      inset = drop-fit n _ c.type_inv.shapes;
      sheet = c.type_inv.sheet;
    })
    p.7 p.2 p.3 _ _ p.1 q.result.slot q.result.orientations (ap (λ z. z.slot) q.ensures) (ap (λ z. z.orientations) q.ensures)
    a.sheet_firsts.now p.8

pub returns-in_err-step : goal.returns-in_err-step
returns-in_err-step c = let a = c.args in
    let l = c.loop-i in
    let q = c.copy_at in
    let s = c.place_next-step in
    let k = s.auto in
    let g = given_in a.g a.rows.now a.areas.now a.inset_bounds.now a.parts.now a.shapes.now a.sheet.now a.sheet_entries.now
    a.sheet_starts.now in
    let why = c.in_err-step.field-0.0 in
    let e : c.from_residual.result ≡ Err why = search rules in
    let G = going_next g a.order.now a.placed.now a.entries.now a.starts.now a.gains.now a.room.now a.tracks.now a.spots.now
    a.firsts.now
    l.placed l.entries l.starts l.gains l.room l.tracks l.spots l.firsts (Ok tt) l.t l.i l.invariant c.loop-i-test.true
    s.result q.result.area q.result.slot q.result.orientations _ _ _ _ _ _ _ _
    (ap (λ z. z.area) q.ensures) (ap (λ z. z.slot) q.ensures) (ap (λ z. z.orientations) q.ensures)
    s.ensures.0 s.ensures.1 s.ensures.2 s.ensures.3 s.ensures.6 s.ensures.4 s.ensures.5
    k.placed k.entries k.starts k.gains k.room k.tracks k.spots k.firsts
    c.type_inv.placed (Err why) (length a.order.now) (sym (ap verdict_of c.in_err-step.was)) refl in
    λ j h r m d v f z.
    rw e (going-last g a.order.now a.placed.now a.entries.now a.starts.now a.gains.now a.room.now a.tracks.now a.spots.now
    a.firsts.now _ _ _ _ _ _ _ _ (Err why) s.result.totals (length a.order.now) G (le_refl (length a.order.now)) j h r m d v f z)

pub loop-i-preserved : goal.loop-i-preserved
loop-i-preserved c = let a = c.args in
    let l = c.loop-i in
    let q = c.copy_at in
    let s = c.place_next-step in
    let k = s.auto in
    let g = given_in a.g a.rows.now a.areas.now a.inset_bounds.now a.parts.now a.shapes.now a.sheet.now a.sheet_entries.now
    a.sheet_starts.now in
    going_next g a.order.now a.placed.now a.entries.now a.starts.now a.gains.now a.room.now a.tracks.now a.spots.now
    a.firsts.now
    l.placed l.entries l.starts l.gains l.room l.tracks l.spots l.firsts (Ok tt) l.t l.i l.invariant c.loop-i-test.true
    s.result q.result.area q.result.slot q.result.orientations _ _ _ _ _ _ _ _
    (ap (λ z. z.area) q.ensures) (ap (λ z. z.slot) q.ensures) (ap (λ z. z.orientations) q.ensures)
    s.ensures.0 s.ensures.1 s.ensures.2 s.ensures.3 s.ensures.6 s.ensures.4 s.ensures.5
    k.placed k.entries k.starts k.gains k.room k.tracks k.spots k.firsts
    c.type_inv.placed (Ok tt) (l.i + 1) (sym (ap verdict_of c.in_ok-step.was)) refl

pub shape_of-placed : goal.shape_of-placed
shape_of-placed c = c.loop-i.invariant.placed_long

pub shape_of-entries : goal.shape_of-entries
shape_of-entries c = c.loop-i.invariant.entries_long

pub shape_of-starts : goal.shape_of-starts
shape_of-starts c = c.loop-i.invariant.starts_long

pub shape_of-gains : goal.shape_of-gains
shape_of-gains c = c.loop-i.invariant.gains_long

pub shape_of-room : goal.shape_of-room
shape_of-room c = c.loop-i.invariant.room_long

pub shape_of-tracks : goal.shape_of-tracks
shape_of-tracks c = c.loop-i.invariant.tracks_long

pub shape_of-spots : goal.shape_of-spots
shape_of-spots c = c.loop-i.invariant.spots_long

pub shape_of-firsts : goal.shape_of-firsts
shape_of-firsts c = c.loop-i.invariant.firsts_long

pub returns : goal.returns
returns c = let a = c.args in
    let l = c.loop-i in
    let g = given_in a.g a.rows.now a.areas.now a.inset_bounds.now a.parts.now a.shapes.now a.sheet.now a.sheet_entries.now
    a.sheet_starts.now in
    λ j h r m d e f z.
    going-last g a.order.now a.placed.now a.entries.now a.starts.now a.gains.now a.room.now a.tracks.now a.spots.now
    a.firsts.now
    l.placed l.entries l.starts l.gains l.room l.tracks l.spots l.firsts (Ok tt) l.t l.i l.invariant c.loop-i-test.false j h r
    m d e f z
