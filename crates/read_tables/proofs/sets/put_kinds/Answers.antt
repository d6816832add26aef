-- `read_tables::sets::put_kinds` meets its contract: the sets of i kinds are put. Assumes nothing.
use mathlib.Core.Path.{◌≡◌, refl, subst, ◌∙◌}
use Prim.Native.Nat.{ℕ}
use mathlib.Core.List.{[]}
use native.Mathlib.Omega.{arith}
use Rattle.kinds.specs.inner.Tables.{tabulate, kind_at}
use Rattle.kinds.proofs.Tables.{tabulate_more}
use Rattle.job_bits.specs.JobTables.{kind_counts, kind_points}
use Rattle.read_tables.specs.inner.Laying.{PutKinds}
use Rattle.read_tables.proofs.Storing.{stored-long}
use Rattle.read_tables.proofs.Putting.{put_more, put-nothing, kind-put}
use borrow.Author.Rules.{rules}
use Rattle.read_tables.proofs.sets.put_kinds.Goals as goal

pub loop-i-init : goal.loop-i-init
unfolding tabulate
loop-i-init c = (search rules, (λ areas. put-nothing _ _ _ _ _ _ refl), (omega arith, omega arith), refl, refl)

pub overflow_mul-turns : goal.overflow_mul-turns
overflow_mul-turns c = omega (arith, c.requires.1)

pub overflow_add-turns : goal.overflow_add-turns
overflow_add-turns c = omega (arith, c.requires.1)

pub offset_bounds-rows-i : goal.offset_bounds-rows-i
offset_bounds-rows-i c = omega (arith, c.requires.1)

pub bounds-rows-i : goal.bounds-rows-i
bounds-rows-i c = omega (arith, c.requires.1, c.requires.3)

pub put_orientations-v-requires : goal.put_orientations-v-requires
put_orientations-v-requires c = (
  (
    omega (arith, c.loop-i.invariant.2.0, c.requires.0.0, c.requires.1),
    omega
        (arith, c.loop-i.invariant.2.1, c.requires.0.1, c.requires.1),
  ),
  omega (arith, c.requires.1),
  c.requires.2
      c.loop-i.i (omega arith),
  c.requires.4,
  omega (arith, c.loop-i.invariant.3, c.requires.5),
  omega (arith, c.loop-i.invariant.4, c.requires.6),
)

pub loop-i-preserved : goal.loop-i-preserved
loop-i-preserved c = (
  omega arith,
  (λ areas. put_more _ _ _ _ _ _ _ _ _ _ _ _ _ _ (c.loop-i.invariant.1 areas)
      (kind-put c.args.bytes.now c.args.rows.now areas c.args.places.now c.loop-i.i _ _ _ _ _ _ c.put_orientations-v.ensures.0)
      (tabulate_more _ _)),
  (
    omega (arith, c.loop-i.invariant.2.0, c.put_orientations-v.ensures.1.0),
    omega
        (arith, c.loop-i.invariant.2.1, c.put_orientations-v.ensures.1.1),
  ),
  c.put_orientations-v.auto.room ∙ c.loop-i.invariant.3,
  c.put_orientations-v.auto.ends ∙ c.loop-i.invariant.4,
)

pub shape_of-room : goal.shape_of-room
shape_of-room c = c.loop-i.invariant.3

pub shape_of-ends : goal.shape_of-ends
shape_of-ends c = c.loop-i.invariant.4

pub shape_of-counts : goal.shape_of-counts
shape_of-counts c = stored-long _ _ _ _ _ (c.loop-i.invariant.1 []).counts

pub shape_of-coordinates : goal.shape_of-coordinates
shape_of-coordinates c = stored-long _ _ _ _ _ (c.loop-i.invariant.1 []).coordinates

pub returns : goal.returns
returns c = let e : c.loop-i.i ≡ c.args.n = omega (arith, c.loop-i.invariant.0) in λ areas. subst
    (λ (m : ℕ). PutKinds c.args.w c.args.counts.now c.args.coordinates.now kind_counts kind_points
    (tabulate (kind_at c.args.bytes.now c.args.rows.now areas c.args.places.now) m) c.loop-i.v c.loop-i.counts
    c.loop-i.coordinates) e (c.loop-i.invariant.1 areas)
