-- `read_tables::sets::put_loops` meets its contract: i loops are put. Assumes nothing.
use mathlib.Core.Path.{◌≡◌, sym, ap}
use Prim.Native.Nat.{ℕ, ◌+◌}
use native.Mathlib.Omega.{arith}
use native.Mathlib.Nat.{add-zero}
use lib.ListN.{take}
use Rattle.job_bits.specs.JobTables.{loop_counts}
use Rattle.read_tables.proofs.Storing.{stored-none, stored_as, stored-long}
use Rattle.read_tables.proofs.Putting.{no_loops, no_last, loops_on}
use borrow.Author.Rules.{rules}
use Rattle.read_tables.proofs.sets.put_loops.Goals as goal

pub loop-i-init : goal.loop-i-init
loop-i-init c = (search rules, stored_as _ _ _ _ _ _ _ (no_loops 0 c.args.ends.now) (sym (add-zero _)) (stored-none _ _), no_last c.args.ends.now)

pub loop-i-preserved : goal.loop-i-preserved
loop-i-preserved c = let r = loops_on _ _ _ _ _ _ _ _ c.loop-i.invariant.1 c.loop-i.invariant.2 (search rules) c.saturating_sub.ensures
    c.store.ensures in (search rules, r.0, r.1)

pub shape_of-counts : goal.shape_of-counts
shape_of-counts c = stored-long _ _ _ _ _ c.loop-i.invariant.1

pub returns : goal.returns
returns c = let e : c.loop-i.i ≡ c.args.n = omega (arith, c.loop-i.invariant.0) in stored_as _ _ _ _ _ _ _
    (ap (λ (k : ℕ). loop_counts 0 (take k c.args.ends.now)) e) (ap (λ (k : ℕ). c.args.at + k) e) c.loop-i.invariant.1
