-- `consistent::rooms_agree` meets its contract. Assumes nothing.
use Prim.Native.Nat.{◌*◌, ◌≤◌}
use native.Mathlib.Omega.{arith}
use mathlib.Core.Path.{sym, ◌∙◌}
use lib.ListN.{length}
use lib.Seq.{length-take-le}
use Rattle.consistent.proofs.strip_tests.Bounding.{never}
use Rattle.consistent.proofs.Cases.{both_yes, both_no, rooms-held}
use Rattle.consistent.proofs.rooms_agree.Goals.{Then-rooms_fit}
use Rattle.consistent.proofs.rooms_agree.Goals as goal

-- the strips that are counted lie in their rooms
held : (c : Then-rooms_fit) → (6 * c.args.apart_strips ≤ length c.args.shapes.now) × (6 * c.args.placed_strips ≤ length c.args.placed.now)
held c = rooms-held _ _ _ _ _ _ _ _ _ _ _ _ (sym c.rooms_fit.ensures.0 ∙ c.if-rooms_fit.true)

pub overflow_mul-apart_strips : goal.overflow_mul-apart_strips
overflow_mul-apart_strips c =
    let h = held (goal.at.overflow_mul-apart_strips c).Then-rooms_fit in
    let l = c.well_formed.1.1.1.1.1.1.1.1.1.1.1.1.0.0 in
    omega arith

pub overflow_mul-placed_strips : goal.overflow_mul-placed_strips
overflow_mul-placed_strips c =
    let h = held (goal.at.overflow_mul-placed_strips c).Then-rooms_fit in
    let l = c.well_formed.1.1.1.1.1.1.1.1.1.1.1.1.1.1.0.0 in
    omega arith

pub slice_bounds-copies_fit-end : goal.slice_bounds-copies_fit-end
slice_bounds-copies_fit-end c =
    sym (length-take-le (6 * c.args.apart_strips) c.args.shapes.now (held (goal.at.slice_bounds-copies_fit-end c).Then-rooms_fit).0)

pub slice_bounds-copies_fit-end-then-rooms_fit : goal.slice_bounds-copies_fit-end-then-rooms_fit
slice_bounds-copies_fit-end-then-rooms_fit c =
    sym (length-take-le (6 * c.args.placed_strips) c.args.placed.now (held (goal.at.slice_bounds-copies_fit-end-then-rooms_fit c).Then-rooms_fit).1)

pub copies_fit-requires : goal.copies_fit-requires
copies_fit-requires c = let p = c.requires in (p.1, p.2, p.3, p.0.parts_long, p.6, p.7, p.8, p.9)

pub returns-then-rooms_fit : goal.returns-then-rooms_fit
returns-then-rooms_fit c =
    let r = c.rooms_fit.ensures in
    (c.copies_fit.ensures ∙ both_yes _ _ (sym r.0 ∙ c.if-rooms_fit.true), λ e. r.1 c.if-rooms_fit.true)

pub returns-else-rooms_fit : goal.returns-else-rooms_fit
returns-else-rooms_fit c =
    let f = c.if-rooms_fit.false in
    (f ∙ sym (both_no _ _ (sym c.rooms_fit.ensures.0 ∙ f)), λ e. never (sym f ∙ e))
