-- `shapes::set_strips::set_strips` meets its contract. Assumes nothing.
use Rattle.std.specs.Prelude.{Result}
use Rattle.bits.specs.declared.Refusal.{Refusal}
use mathlib.Core.Path.{sym, ap, subst, ◌∙◌}
use mathlib.Core.List.{List}
use native.Mathlib.Omega.{arith}
use Prim.Native.Nat.{ℕ, ◌*◌}
use lib.Seq.{length-take-le}
use Rattle.trapezoid.specs.declared.Trapezoid.{Trapezoid}
use Rattle.kinds.specs.sets.inner.Answers.{set_read}
use Rattle.shapes.proofs.set_strips.ReadSets.{SetIn, set_in_lem, strips_are, none-stored}
use Rattle.strips.specs.inner.Tables.{Loops, strips_stored}
use Rattle.shapes.proofs.set_strips.set_strips.Goals.{In-Ok}
use Rattle.shapes.proofs.set_strips.set_strips.Goals as goal

here : (c : In-Ok) → SetIn c.args.f c.args.bytes.now c.args.at c.read_set.new.room c.read_set.new.ends c.in-Ok.n c.in-Ok.m
here c = let a = c.args in let g = c.read_set in
    set_in_lem a.f a.bytes.now a.at g.new.room g.new.ends (omega arith) (omega arith) _ _ _ _ g.result g.ensures.0 g.ensures.1 c.in-Ok.is

pub shorten-requires : goal.shorten-requires
shorten-requires c = let S = here (goal.at.shorten-requires c).In-Ok in (omega (arith, S.loops), omega (arith, S.loops), S.ends_few)

pub trapezoids-requires : goal.trapezoids-requires
trapezoids-requires c = let S = here (goal.at.trapezoids-requires c).In-Ok in
    let l = length-take-le (2 * c.in-Ok.m) c.read_set.new.room (omega (arith, S.few)) in (
      S.some,
      omega (arith, l),
      subst (λ (es : List ℕ). Loops 0 es c.in-Ok.m) (sym c.shorten.ensures) S.lie,
      omega (arith, S.few),
      omega (arith, S.few),
      omega (arith, S.few),
      c.requires,
    )

pub returns-in_default : goal.returns-in_default
returns-in_default c = let a = c.args in let g = c.read_set in
    sym (none-stored a.f a.bytes.now a.at a.sheet a.room.now a.from _ c.requires
    (g.ensures.0 ∙ ap (λ (t : Result (ℕ × ℕ × ℕ) Refusal). set_read t g.new.room g.new.ends) c.in_default.is))

pub returns : goal.returns
returns c = let a = c.args in
    c.trapezoids.ensures ∙ ap (λ (l : List Trapezoid). strips_stored l a.room.now a.from)
    (strips_are (here (goal.at.returns c).In-Ok) (omega arith) c.shorten.new.short a.sheet c.shorten.ensures)
