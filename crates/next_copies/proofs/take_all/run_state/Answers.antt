-- `next_copies::take_all::run_state` meets its contract. Assumes nothing.
use Prim.Native.Nat.{ℕ, ◌*◌}
use mathlib.Core.Path.{sym, subst}
use lib.ListN.{length, length-replicate}
use lib.Seq.{length-take-le}
use lib.Dec.{T}
use Rattle.step.proofs.Allowed.{each-fit, six}
use Rattle.next_copies.proofs.take_all.Begin.{sheet-within, begun, going_in, equal_in}
use Rattle.next_copies.proofs.take_all.run_state.Goals as goal

pub overflow_mul-end : goal.overflow_mul-end
overflow_mul-end c = let a = c.args in record {
  fits = six a.state.tables.sheet_strips (length a.sheet.now) (sheet-within c.requires.0.1)
      c.well_formed.1.1.1.1.1.0.0;
}

pub slice_bounds-take_copies-end : goal.slice_bounds-take_copies-end
slice_bounds-take_copies-end c = let g = c.well_formed.1.0.1.1 in sym g.1.0.1.0.1

pub slice_bounds-take_copies-end-2 : goal.slice_bounds-take_copies-end-2
slice_bounds-take_copies-end-2 c = let t = c.well_formed.1.0.1.1.0.1.1 in sym t.1.1.1.1.0.1.0.1

pub slice_bounds-take_copies-end-3 : goal.slice_bounds-take_copies-end-3
slice_bounds-take_copies-end-3 c = let t = c.well_formed.1.0.1.1.0.1.1 in sym t.1.1.1.1.1.0.1.0.1

pub slice_bounds-take_copies-end-4 : goal.slice_bounds-take_copies-end-4
slice_bounds-take_copies-end-4 c = let a = c.args in sym (length-take-le (6 * a.state.tables.sheet_strips) a.sheet.now (sheet-within c.requires.0.1))

pub slice_bounds-take_copies-end-5 : goal.slice_bounds-take_copies-end-5
slice_bounds-take_copies-end-5 c = sym (length-replicate {A = ℕ} 512 0)

pub take_copies-requires : goal.take_copies-requires
take_copies-requires c = let a = c.args in
    let s = a.state in
    let p = c.requires in
    let g = c.well_formed.1.0.1.1 in
    let t = g.0.1.1 in
    let b = t.1.0.1.1 in
    let i = t.1.1.1.1.0 in
    let B = p.0.1 in (
      (
        p.0.0,
        s.tables,
        a.sheet.now,
        begun B c.grid_of.result c.grid_of.ensures i.1.0.1
            t.1.1.1.1.1.0.1.0.1 g.1.0.1.0.1
            (subst T (sym t.0.1) tt) (record {
              left = subst T (sym b.0.1) tt;
              bottom = subst T (sym b.1.0.1) tt;
              right = subst T (sym b.1.1.0.1) tt;
              top = subst T (sym b.1.1.1.0.1) tt;
            }) (each-fit s.tables.inset_bounds i.0 i.1.1) c.type_inv.sheet,
        going_in B a.tracks.now a.orientation.now a.x.now a.y.now a.gap.now p.1 c.totals_of.result c.totals_of.ensures,
      ),
      p.2,
      p.3,
      length-replicate {A = ℕ} 512 0,
    )

pub returns : goal.returns
returns c = let a = c.args in
    let s = a.state in
    let p = c.requires in
    let g = c.well_formed.1.0.1.1 in
    let t = g.0.1.1 in
    let b = t.1.0.1.1 in
    let i = t.1.1.1.1.0 in
    let e = c.take_copies.ensures in (
      (λ j intervals n B l m.
          equal_in B a.tracks.now a.orientation.now a.x.now a.y.now a.gap.now p.1 c.totals_of.result c.totals_of.ensures _ n
          _
          (e.0 j s.tables a.sheet.now intervals n
          (begun B c.grid_of.result c.grid_of.ensures i.1.0.1
          t.1.1.1.1.1.0.1.0.1 g.1.0.1.0.1
          (subst T (sym t.0.1) tt) (record {
            left = subst T (sym b.0.1) tt;
            bottom = subst T (sym b.1.0.1) tt;
            right = subst T (sym b.1.1.0.1) tt;
            top = subst T (sym b.1.1.1.0.1) tt;
          }) (each-fit s.tables.inset_bounds i.0 i.1.1) c.type_inv.sheet)
          (going_in B a.tracks.now a.orientation.now a.x.now a.y.now a.gap.now p.1 c.totals_of.result c.totals_of.ensures) l
          m)),
      e.1,
      e.2,
    )
