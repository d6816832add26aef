-- `read_tables::stores::put_doubles` meets its contract: i doubles are put. Assumes nothing.
use mathlib.Core.Path.{◌≡◌, refl, sym, ap}
use Prim.Native.Nat.{ℕ, ◌+◌}
use native.Mathlib.Omega.{arith}
use native.Mathlib.Nat.{add-zero}
use lib.ListN.{take}
use Rattle.read_tables.proofs.Storing.{stored-none, stored_as, stored-long, table_on}
use borrow.Author.Rules.{rules}
use Rattle.read_tables.proofs.stores.put_doubles.Goals as goal

pub loop-i-init : goal.loop-i-init
loop-i-init c = (search rules, stored_as _ _ _ _ _ _ _ refl (sym (add-zero _)) (stored-none _ _))

pub loop-i-preserved : goal.loop-i-preserved
loop-i-preserved c = (
  search rules,
  table_on _ _ _ _ _ _ _ c.loop-i.invariant.1 (search rules)
      c.store.ensures,
)

pub shape_of-out : goal.shape_of-out
shape_of-out c = stored-long _ _ _ _ _ c.loop-i.invariant.1

pub returns : goal.returns
returns c = let e : c.loop-i.i ≡ c.args.n = omega (arith, c.loop-i.invariant.0) in (
  stored_as _ _ _ _ _ _ _ (ap (λ (k : ℕ). take k c.args.table.now) e)
      (ap (λ (k : ℕ). c.args.at + k) e) c.loop-i.invariant.1,
  search rules,
)
