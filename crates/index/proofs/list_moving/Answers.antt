use mathlib.Core.Path.{sym, ap, ◌∙◌, refl}
use mathlib.Core.List.{List, flat_map}
use Prim.Native.Nat.{ℕ, ◌+◌, ◌-◌, ◌<◌}
use native.Mathlib.Omega.{arith}
use Rattle.index.specs.declared.Interval.{Interval}
use Rattle.index.specs.Buckets.{up_from, bucket_in}
use Rattle.index.specs.inner.Listing.{Collected, collected, push_all, list_bucket, list_bucket_by, list_moving}
use Rattle.index.proofs.Steps.{kept-length, over_end, turn, bucket_top}
use Rattle.index.proofs.FirstBuckets.{moving_by}
use Rattle.index.proofs.list_moving.Goals as goal

pub loop-b-init : goal.loop-b-init
loop-b-init c = (refl, refl)

pub bounds-starts-b : goal.bounds-starts-b
bounds-starts-b c = let t = bucket_top c.args.ix c.args.m.x1 in omega (arith, c.bucket-last.ensures, c.requires.0.table)

pub bounds-starts-b-in-loop-b : goal.bounds-starts-b-in-loop-b
bounds-starts-b-in-loop-b c = let t = bucket_top c.args.ix c.args.m.x1 in omega (arith, c.bucket-last.ensures, c.requires.0.table)

pub list_entries-n-requires : goal.list_entries-n-requires
list_entries-n-requires c = let t = bucket_top c.args.ix c.args.m.x1 in
    let k : c.loop-b.b < 512 = omega (arith, c.bucket-last.ensures) in
    (c.requires.0.within (c.loop-b.b + 1) (omega arith), c.requires.0.strips c.loop-b.b k, c.requires.1.long)

pub loop-b-preserved : goal.loop-b-preserved
unfolding list_bucket_by
loop-b-preserved c = let g = c.args in
    let l = c.loop-b in
    let E = c.list_entries-n.ensures in (
      kept-length l.room _ l.n _ _ E ∙ l.invariant.0,
      turn (list_bucket_by g.m c.bucket-first.result g.standing.now g.firsts.now g.entries.now g.starts.now) l.room _ l.n _
          (c.bucket-last.result + 1) l.b _ (omega arith) E l.invariant.1,
    )

pub shape_of-room : goal.shape_of-room
shape_of-room c = c.loop-b.invariant.0

pub returns : goal.returns
unfolding list_moving
returns c = let g = c.args in
    let p = c.requires in
    let l = c.loop-b in
    let first = c.bucket-first.result in
    let last = c.bucket-last.result in
    let t = c.bucket-last.ensures in
    let h : last < 512 = omega (arith, t, bucket_top g.ix g.m.x1) in
    let s : List Interval → Collected = push_all (collected g.room.now g.start) in
    let f = bucket_in g.ix g.m.x0 in
    let list : ℕ → ℕ → List Interval = λ u. list_bucket g.ix g.m u g.standing.now g.entries.now g.starts.now in
    sym (over_end (list_bucket_by g.m first g.standing.now g.firsts.now g.entries.now g.starts.now) (collected l.room l.n) (last + 1)
    l.b (omega arith)) ∙ (l.invariant.1
    ∙ ap s (moving_by g.ix g.m first last g.standing.now g.firsts.now g.entries.now g.starts.now p.0 p.1 h)
    ∙ ap (λ (u : ℕ). s (flat_map (list u) (up_from (last + 1 - u) u))) c.bucket-first.ensures
    ∙ ap (λ (u : ℕ). s (flat_map (list f) (up_from (u + 1 - f) f))) t)

pub offset_bounds-starts-b : goal.offset_bounds-starts-b
offset_bounds-starts-b c = let t = bucket_top c.args.ix c.args.m.x1 in omega (arith, c.bucket-last.ensures)

pub overflow_add-to : goal.overflow_add-to
overflow_add-to c = let t = bucket_top c.args.ix c.args.m.x1 in omega (arith, c.bucket-last.ensures)

pub offset_bounds-starts-b-in-loop-b : goal.offset_bounds-starts-b-in-loop-b
offset_bounds-starts-b-in-loop-b c = let t = bucket_top c.args.ix c.args.m.x1 in omega (arith, c.bucket-last.ensures)

pub overflow_add-b-end : goal.overflow_add-b-end
overflow_add-b-end c = let t = bucket_top c.args.ix c.args.m.x1 in omega (arith, c.bucket-last.ensures)
