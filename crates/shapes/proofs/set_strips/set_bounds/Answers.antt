-- `shapes::set_strips::set_bounds` meets its contract. Assumes nothing.
use Rattle.std.specs.Prelude.{Result, ℕ}
use Rattle.bits.specs.declared.Refusal.{Refusal}
use mathlib.Core.Path.{refl, ap, ◌∙◌}
use Rattle.kinds.specs.sets.inner.Answers.{set_read}
use native.Mathlib.Omega.{arith}
use Prim.Native.Nat.{◌*◌}
use lib.Seq.{length-take-le}
use Rattle.shapes.proofs.set_strips.ReadSets.{SetIn, set_in_lem, bounds_are, no_bounds_lem}
use Rattle.shapes.proofs.set_strips.set_bounds.Goals.{In-Ok}
use Rattle.shapes.proofs.set_strips.set_bounds.Goals as goal

here : (c : In-Ok) → SetIn c.args.f c.args.bytes.now c.args.at c.read_set.new.room c.read_set.new.ends c.in-Ok.field-0-0 c.in-Ok.m
here c = let a = c.args in let g = c.read_set in
    set_in_lem a.f a.bytes.now a.at g.new.room g.new.ends (omega arith) (omega arith) _ _ _ _ g.result g.ensures.0 g.ensures.1 c.in-Ok.is

pub bounds-requires : goal.bounds-requires
bounds-requires c = let S = here (goal.at.bounds-requires c).In-Ok in
    let l = length-take-le (2 * c.in-Ok.m) c.read_set.new.room (omega (arith, S.few)) in
    (S.some, omega (arith, l))

pub returns-in_default : goal.returns-in_default
returns-in_default c = let a = c.args in let g = c.read_set in
    no_bounds_lem a.f a.bytes.now a.at _ _ refl (g.ensures.0 ∙ ap (λ (t : Result (ℕ × ℕ × ℕ) Refusal). set_read t g.new.room g.new.ends) c.in_default.is)

pub returns : goal.returns
returns c = c.bounds.ensures ∙ bounds_are (here (goal.at.returns c).In-Ok) (omega arith)
