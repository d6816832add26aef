use Rattle.std.specs.Prelude.{Some}
use mathlib.Core.Path.{◌≡◌, sym, ap, ◌∙◌}
use lib.Ieee.{lt}
use Rattle.index.specs.inner.Listing.{heights_of}
use Rattle.index.proofs.Steps.{meeting_apart, meeting_over}
use Rattle.index.proofs.forbidden.Goals as goal

ap2 : {A B C : Type 0} (f : A → B → C) {a a' : A} {b b' : B} → a ≡ a' → b ≡ b' → f a b ≡ f a' b'
ap2 f p q = rw (p, q)

pub returns-then-a-b : goal.returns-then-a-b
returns-then-a-b c = let g = c.args in
    let L = c.larger-a.ensures in
    let S = c.smaller-b.ensures in
    ap Some (c.heights.ensures ∙ ap2 (heights_of g.p g.m) L S) ∙ sym (meeting_over g.m g.p (ap2 lt (sym L) (sym S) ∙ c.if-a-b.true))

pub returns : goal.returns
returns c = let g = c.args in
    sym (meeting_apart g.m g.p (ap2 lt (sym c.larger-a.ensures) (sym c.smaller-b.ensures) ∙ c.if-a-b.false))
