use mathlib.Core.Path.{sym, ◌∙◌, refl}
use mathlib.Core.Bool.{Bool, true, false}
use Prim.Native.Nat.{◌+◌, ◌-◌, ◌≤◌}
use native.Mathlib.Omega.{arith}
use lib.ListN.{length, get_or}
use Rattle.trapezoid.specs.Strip.{strip_at}
use Rattle.index.specs.Buckets.{buckets}
use Rattle.index.proofs.Steps.{bucket_top}
use Rattle.enter.proofs.Marks.{start-strip}
use Rattle.enter.proofs.GapFilling.{copy-refused}
use Rattle.enter.proofs.OneStrip.{one-laid, one-entered}
use Rattle.enter.proofs.enter_one.Goals as goal

pub span_of-s-requires : goal.span_of-s-requires
span_of-s-requires c = c.requires.0

pub width-width-requires : goal.width-width-requires
width-width-requires c = let u = bucket_top c.args.ix (strip_at c.args.standing.now c.args.from).x1 in omega (arith, u, c.span_of-s.ensures.1)

pub bounds-starts-512 : goal.bounds-starts-512
bounds-starts-512 c = omega (arith, c.requires.1.table)

pub overflow_sub-entries : goal.overflow_sub-entries
overflow_sub-entries c = c.requires.1.within buckets (omega arith)

pub returns-then-entries-all : goal.returns-then-entries-all
returns-then-entries-all c = let g = c.args in
    let p = c.requires in
    let E = c.span_of-s.ensures in
    let s = start-strip g.ix g.standing.now g.from _ _ E.0 E.1 in (
      copy-refused g.ix g.standing.now g.from (g.from + 1) (length g.entries.now - get_or g.starts.now buckets 0) g.entries.now
          g.starts.now p.1 refl (omega (arith, s, c.width-width.ensures, c.if-entries-all.true)),
      λ q. absurd
          (mathlib.Core.Bool.true≢false (sym q)),
    )

pub overflow_add-end : goal.overflow_add-end
overflow_add-end c = let g = c.args in
    let p = c.requires in
    let E = c.span_of-s.ensures in
    let W = c.width-width.ensures in
    let t = bucket_top g.ix (strip_at g.standing.now g.from).x0 in
    let u = bucket_top g.ix (strip_at g.standing.now g.from).x1 in
    let e : c.span_of-s.result.lo + c.width-width.result ≤ buckets = omega (arith, t, u, W, E.0, E.1) in
    omega (arith, e, p.1.table)

pub offset_bounds-starts-end : goal.offset_bounds-starts-end
offset_bounds-starts-end c = let g = c.args in
    let p = c.requires in
    let E = c.span_of-s.ensures in
    let W = c.width-width.ensures in
    let t = bucket_top g.ix (strip_at g.standing.now g.from).x0 in
    let u = bucket_top g.ix (strip_at g.standing.now g.from).x1 in
    let e : c.span_of-s.result.lo + c.width-width.result ≤ buckets = omega (arith, t, u, W, E.0, E.1) in
    omega (arith, e, p.1.table)

pub bounds-starts-end : goal.bounds-starts-end
bounds-starts-end c = let g = c.args in
    let p = c.requires in
    let E = c.span_of-s.ensures in
    let W = c.width-width.ensures in
    let t = bucket_top g.ix (strip_at g.standing.now g.from).x0 in
    let u = bucket_top g.ix (strip_at g.standing.now g.from).x1 in
    let e : c.span_of-s.result.lo + c.width-width.result ≤ buckets = omega (arith, t, u, W, E.0, E.1) in
    omega (arith, e, p.1.table)

pub move_block-requires : goal.move_block-requires
move_block-requires c = let g = c.args in
    let p = c.requires in
    let E = c.span_of-s.ensures in
    let W = c.width-width.ensures in
    let t = bucket_top g.ix (strip_at g.standing.now g.from).x0 in
    let u = bucket_top g.ix (strip_at g.standing.now g.from).x1 in
    let e : c.span_of-s.result.lo + c.width-width.result ≤ buckets = omega (arith, t, u, W, E.0, E.1) in
    let z = p.1.within buckets (omega arith) in
    (p.1.rise (c.span_of-s.result.lo + c.width-width.result) buckets e (omega arith), omega (arith, z, c.if-entries-all.false))

pub insert-requires : goal.insert-requires
insert-requires c = let g = c.args in
    let p = c.requires in
    let E = c.span_of-s.ensures in
    let W = c.width-width.ensures in
    let t = bucket_top g.ix (strip_at g.standing.now g.from).x0 in
    let u = bucket_top g.ix (strip_at g.standing.now g.from).x1 in
    let e : c.span_of-s.result.lo + c.width-width.result ≤ buckets = omega (arith, t, u, W, E.0, E.1) in
    let z = p.1.within buckets (omega arith) in
    let r = p.1.rise (c.span_of-s.result.lo + c.width-width.result) buckets e (omega arith) in (
      omega (arith, e, p.1.table),
      λ b d h l. p.1.rise b d h (omega (arith, p.1.table)),
      omega
          (arith, r, z, c.if-entries-all.false, c.move_block.auto.s),
      p.2,
    )

pub step_up-requires : goal.step_up-requires
step_up-requires c = let g = c.args in
    let p = c.requires in
    let E = c.span_of-s.ensures in
    let W = c.width-width.ensures in
    let t = bucket_top g.ix (strip_at g.standing.now g.from).x0 in
    let u = bucket_top g.ix (strip_at g.standing.now g.from).x1 in
    let e : c.span_of-s.result.lo + c.width-width.result ≤ buckets = omega (arith, t, u, W, E.0, E.1) in
    let z = p.1.within buckets (omega arith) in
    (omega (arith, e, p.1.table), λ d h. (let r = p.1.rise d buckets (omega (arith, p.1.table)) (omega arith) in omega (arith, r, z, c.if-entries-all.false)))

pub overflow_add-end-2 : goal.overflow_add-end-2
overflow_add-end-2 c = let g = c.args in
    let p = c.requires in
    let E = c.span_of-s.ensures in
    let W = c.width-width.ensures in
    let t = bucket_top g.ix (strip_at g.standing.now g.from).x0 in
    let u = bucket_top g.ix (strip_at g.standing.now g.from).x1 in
    let e : c.span_of-s.result.lo + c.width-width.result ≤ buckets = omega (arith, t, u, W, E.0, E.1) in
    omega (arith, e)

pub shift-requires : goal.shift-requires
shift-requires c = let g = c.args in
    let p = c.requires in
    let E = c.span_of-s.ensures in
    let W = c.width-width.ensures in
    let t = bucket_top g.ix (strip_at g.standing.now g.from).x0 in
    let u = bucket_top g.ix (strip_at g.standing.now g.from).x1 in
    let e : c.span_of-s.result.lo + c.width-width.result ≤ buckets = omega (arith, t, u, W, E.0, E.1) in
    let z = p.1.within buckets (omega arith) in
    let P = c.step_up.ensures in (
      omega (arith, e, p.1.table, P.size),
      λ d a h. (let q = P.todo d (omega arith) in let r = p.1.rise d buckets (omega (arith, p.1.table, P.size))
          (omega arith) in omega (arith, q, r, z, c.well_formed.1.1.1.0.0, c.if-entries-all.false)),
    )

pub shape_of-entries : goal.shape_of-entries
shape_of-entries c = c.insert.auto.entries ∙ c.move_block.auto.s

pub shape_of-starts : goal.shape_of-starts
shape_of-starts c = c.shift.auto.starts ∙ c.step_up.auto.starts

pub returns : goal.returns
returns c = let g = c.args in
    let p = c.requires in
    let E = c.span_of-s.ensures in
    let z = p.1.within buckets (omega arith) in
    let f : get_or g.starts.now buckets 0 + c.width-width.result ≤ length g.entries.now = omega (arith, z, c.if-entries-all.false) in (
      one-entered g.ix g.standing.now g.from _ _ _ g.entries.now g.starts.now _ _ _ _ E.0 E.1 c.width-width.ensures p.1
          c.move_block.ensures c.insert.ensures c.step_up.ensures c.shift.ensures p.0 f,
      λ q. one-laid g.ix g.standing.now
          g.from _ _ _ g.entries.now g.starts.now _ _ _ _ E.0 E.1 c.width-width.ensures p.1 c.move_block.ensures
          c.insert.ensures c.step_up.ensures c.shift.ensures p.0 f,
    )
