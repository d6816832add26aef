-- `take_copies::take_copies` meets its contract. What holds between two turns is `Running`. Assumes nothing.
use native.Mathlib.Omega.{arith}
use mathlib.Core.Path.{refl, ◌∙◌}
use Rattle.step.proofs.Allowed.{kind_few, taken-few}
use Rattle.take_copies.proofs.Running.{sizes_on, run_first}
use Rattle.take_copies.proofs.NextTurn.{less_after, run_next, run_few, run_whole}
use Rattle.take_copies.proofs.take_copies.Goals as goal

pub loop-took-init : goal.loop-took-init
loop-took-init c = run_first _ _ _ refl

pub overflow_add-at : goal.overflow_add-at
overflow_add-at c = let p = c.requires.0 in
    let B = p.3 in
    let R = c.loop-took.invariant in record { fits = omega (arith, B.left, B.few, R.within, c.loop-took-test.true) }

pub copy_at-requires : goal.copy_at-requires
copy_at-requires c = let p = c.requires.0 in
    let B = p.3 in
    let G = c.loop-took.invariant.going p.0 p.1 p.2 B p.4 c.loop-took-test.true in
    (omega (arith, taken-few G, B.long), kind_few G, B.tabled.rows_long, B.tabled.areas_long)

pub take_next-last-requires : goal.take_next-last-requires
take_next-last-requires c = let a = c.args in
    let p = c.requires in
    let q = p.0 in
    let B = q.3 in
    let R = c.loop-took.invariant in
    let G = R.going q.0 q.1 q.2 B q.4 c.loop-took-test.true in (
      (q.0, q.1, a.order.now, a.rows.now, a.areas.now, q.2, B.tabling, G, c.copy_at.ensures),
      sizes_on _ _ R.alike p.1,
      omega (arith, p.2, R.alike.tracks),
      R.alike.gains ∙ p.3,
    )

pub took_after-took-requires : goal.took_after-took-requires
took_after-took-requires c = let B = c.requires.0.3 in omega (arith, B.left, B.few, c.loop-took.invariant.within, c.loop-took-test.true)

pub loop-took-smaller : goal.loop-took-smaller
loop-took-smaller c = less_after c.loop-took.took c.loop-took.end _ c.loop-took-test.true c.loop-took.invariant.within c.take_next-last.result.verdict
    c.take_next-last.result.fits _ _
    c.took_after-took.ensures c.end_after-end.ensures

pub loop-took-preserved : goal.loop-took-preserved
loop-took-preserved c = let p = c.requires in
    let s = c.take_next-last in
    let R = c.loop-took.invariant in
    let k = s.auto in
    run_next _ _ _ _ _ s.result c.loop-took.took c.loop-took.end R c.loop-took-test.true (sizes_on _ _ R.alike p.1) c.copy_at.result
    c.copy_at.ensures
    s.ensures.0 s.ensures.1 s.ensures.2
    (record {
      placed = k.placed;
      entries = k.entries;
      starts = k.starts;
      gains = k.gains;
      room = k.room;
      tracks = k.tracks;
      orientation = k.orientation;
      x = k.x;
      y = k.y;
      gap = k.gap;
      firsts = k.firsts;
    }) _ _ c.took_after-took.ensures c.end_after-end.ensures

pub shape_of-placed : goal.shape_of-placed
shape_of-placed c = c.loop-took.invariant.alike.placed

pub shape_of-entries : goal.shape_of-entries
shape_of-entries c = c.loop-took.invariant.alike.entries

pub shape_of-starts : goal.shape_of-starts
shape_of-starts c = c.loop-took.invariant.alike.starts

pub shape_of-gains : goal.shape_of-gains
shape_of-gains c = c.loop-took.invariant.alike.gains

pub shape_of-room : goal.shape_of-room
shape_of-room c = c.loop-took.invariant.alike.room

pub shape_of-tracks : goal.shape_of-tracks
shape_of-tracks c = c.loop-took.invariant.alike.tracks

pub shape_of-orientation : goal.shape_of-orientation
shape_of-orientation c = c.loop-took.invariant.alike.orientation

pub shape_of-x : goal.shape_of-x
shape_of-x c = c.loop-took.invariant.alike.x

pub shape_of-y : goal.shape_of-y
shape_of-y c = c.loop-took.invariant.alike.y

pub shape_of-gap : goal.shape_of-gap
shape_of-gap c = c.loop-took.invariant.alike.gap

pub shape_of-firsts : goal.shape_of-firsts
shape_of-firsts c = c.loop-took.invariant.alike.firsts

pub returns : goal.returns
returns c = let l = c.loop-took in
    let R = l.invariant in
    let h = c.loop-took-test.false in (
      R.equal,
      run_few _ _ _ l.last l.took l.end R h,
      run_whole _ _ _ l.last l.took l.end R h,
      sizes_on _ _ R.alike c.requires.1,
    )
