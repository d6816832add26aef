-- `read_tables::put_rows` meets its contract: the rows of k kinds are put. Assumes nothing.
use mathlib.Core.Path.{◌≡◌, refl, subst}
use Prim.Native.Nat.{ℕ, ◌*◌}
use native.Mathlib.Omega.{arith}
use Rattle.kinds.specs.inner.Tables.{tabulate, kind_at}
use Rattle.job_bits.specs.JobTables.{rows_of}
use Rattle.read_tables.specs.inner.Laying.{Stored}
use Rattle.read_tables.proofs.Storing.{stored-none, stored_as}
use Rattle.read_tables.proofs.Putting.{no_rows, rows-stored}
use borrow.Author.Rules.{rules}
use Rattle.read_tables.proofs.put_rows.Goals as goal

pub loop-k-init : goal.loop-k-init
loop-k-init c = (search rules, refl, λ bytes areas places. stored_as _ _ _ _ _ _ _ (no_rows _) refl (stored-none _ _))

pub loop-k-preserved : goal.loop-k-preserved
loop-k-preserved c = (
  search rules,
  search rules,
  λ bytes areas places. rows-stored _ bytes _ areas places _ _ _
      (c.loop-k.invariant.2 bytes areas places) c.put_row.ensures,
)

pub shape_of-out : goal.shape_of-out
shape_of-out c = c.loop-k.invariant.1

pub returns : goal.returns
returns c = let e : c.loop-k.k ≡ c.args.n = omega (arith, c.loop-k.invariant.0) in λ bytes areas places. subst
    (λ (m : ℕ). Stored c.args.out.now 0 (rows_of (tabulate (kind_at bytes c.args.rows.now areas places) m)) c.loop-k.out (4 * m)) e
    (c.loop-k.invariant.2 bytes areas places)
