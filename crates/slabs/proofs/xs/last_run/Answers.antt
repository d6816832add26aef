-- `slabs::xs::last_run` meets its contract. Assumes nothing.
use native.Mathlib.Omega.{arith}
use borrow.Author.Rules.{rules}
use Rattle.slabs.proofs.Places.{no_nan}
use Rattle.slabs.proofs.xs.last_run.Goals as goal

pub returns-then-no_nan : goal.returns-then-no_nan
returns-then-no_nan c = let a = c.args in (
  omega arith,
  λ h. (
    omega arith,
    no_nan a.left c.is_nan.result (search rules) c.is_nan.ensures.value c.if-not-is_nan.true,
    no_nan a.right c.is_nan-then-not-is_nan.result (search rules) c.is_nan-then-not-is_nan.ensures.value c.if-not-is_nan-2.true,
    c.no_nan.ensures c.if-no_nan.true,
  ),
)

pub returns-else-n-gt32 : goal.returns-else-n-gt32
returns-else-n-gt32 c = (omega arith, λ h. absurd (omega arith))
