-- `slabs::placed` meets its contract. Assumes nothing.
use mathlib.Core.Path.{◌≡◌, refl, sym}
use mathlib.Core.Bool.{Bool, true, false, not}
use Rattle.slabs.proofs.Forward.{placed_is}
use Rattle.slabs.proofs.Places.{no_nan}
use borrow.Author.Rules.{rules}
use borrow.Author.Tests.{not-true}
use Rattle.slabs.proofs.placed.Goals as goal

pub returns-then-not-is_nan : goal.returns-then-not-is_nan
returns-then-not-is_nan c = let a = c.args in let g = c.is_nan-then-not-is_nan in λ e.
    placed_is a.c (no_nan _ c.is_nan.result (search rules) c.is_nan.ensures.value c.if-not-is_nan.true) (no_nan a.c.ya g.result (search rules) g.ensures.value (not-true g.result e))
