-- `read_tables::sets::put_orientations` meets its contract: i orientations are put. Assumes nothing.
use mathlib.Core.Path.{◌≡◌, refl, subst, ◌∙◌}
use Prim.Native.Nat.{ℕ}
use native.Mathlib.Omega.{arith}
use Rattle.kinds.specs.inner.Tables.{tabulate, orientations_of}
use Rattle.job_bits.specs.JobTables.{orientation_counts, orientation_points}
use Rattle.read_tables.specs.inner.Laying.{PutKinds}
use Rattle.read_tables.proofs.Storing.{stored-long}
use Rattle.read_tables.proofs.Putting.{put_more, put-nothing, orientations_on}
use borrow.Author.Rules.{rules}
use Rattle.read_tables.proofs.sets.put_orientations.Goals as goal

pub loop-i-init : goal.loop-i-init
unfolding orientations_of tabulate
loop-i-init c = (search rules, put-nothing _ _ _ _ _ _ refl, (omega arith, omega arith), refl, refl)

pub overflow_mul-kind : goal.overflow_mul-kind
overflow_mul-kind c = omega (arith, c.requires.1)

pub overflow_add-kind : goal.overflow_add-kind
overflow_add-kind c = omega (arith, c.requires.1, c.requires.2)

pub put_orientation-v-requires : goal.put_orientation-v-requires
put_orientation-v-requires c = (
  (
    omega (arith, c.loop-i.invariant.2.0, c.requires.0.0, c.requires.2),
    omega
        (arith, c.loop-i.invariant.2.1, c.requires.0.1, c.requires.2),
  ),
  omega (arith, c.requires.1, c.requires.2),
  c.requires.3,
  omega (arith, c.loop-i.invariant.3, c.requires.4),
  omega (arith, c.loop-i.invariant.4, c.requires.5),
)

pub loop-i-preserved : goal.loop-i-preserved
loop-i-preserved c = (
  omega arith,
  put_more _ _ _ _ _ _ _ _ _ _ _ _ _ _ c.loop-i.invariant.1 c.put_orientation-v.ensures.0 (orientations_on _ _ _ _),
  (omega (arith, c.loop-i.invariant.2.0, c.put_orientation-v.ensures.1.0), omega (arith, c.loop-i.invariant.2.1, c.put_orientation-v.ensures.1.1)),
  c.put_orientation-v.auto.room ∙ c.loop-i.invariant.3,
  c.put_orientation-v.auto.ends ∙ c.loop-i.invariant.4,
)

pub shape_of-room : goal.shape_of-room
shape_of-room c = c.loop-i.invariant.3

pub shape_of-ends : goal.shape_of-ends
shape_of-ends c = c.loop-i.invariant.4

pub shape_of-counts : goal.shape_of-counts
shape_of-counts c = stored-long _ _ _ _ _ c.loop-i.invariant.1.counts

pub shape_of-coordinates : goal.shape_of-coordinates
shape_of-coordinates c = stored-long _ _ _ _ _ c.loop-i.invariant.1.coordinates

pub returns : goal.returns
returns c = let e : c.loop-i.i ≡ c.args.n = omega (arith, c.loop-i.invariant.0) in (
  subst
      (λ (m : ℕ). PutKinds c.args.w c.args.counts.now c.args.coordinates.now orientation_counts orientation_points
      (orientations_of c.args.bytes.now c.args.places.now c.args.kind m) c.loop-i.v c.loop-i.counts c.loop-i.coordinates) e
      c.loop-i.invariant.1,
  (omega (arith, c.loop-i.invariant.2.0, c.requires.2), omega (arith, c.loop-i.invariant.2.1, c.requires.2)),
)
