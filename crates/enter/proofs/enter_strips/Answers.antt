use mathlib.Core.Path.{◌≡◌, subst}
use mathlib.Core.Bool.{true}
use Prim.Native.Nat.{ℕ, ◌+◌}
use native.Mathlib.Omega.{arith}
use Rattle.index.specs.inner.Listing.{Laid}
use Rattle.enter.specs.inner.Gaps.{rooms, entering}
use Rattle.enter.specs.inner.EntryRoom.{enter_of}
use Rattle.enter.proofs.enter_strips.Goals as goal

pub enter_one-requires : goal.enter_one-requires
enter_one-requires c = (omega (arith, c.requires.1, c.if-to-from-eq1.true), c.requires.3, omega (arith, c.requires.4, c.if-to-from-eq1.true))

pub returns-then-to-from-eq1 : goal.returns-then-to-from-eq1
returns-then-to-from-eq1 c = let g = c.args in
    let e : g.from + 1 ≡ g.to = omega (arith, c.if-to-from-eq1.true) in
    subst (λ (k : ℕ). (entering c.enter_one.result c.enter_one.new.entries c.enter_one.new.starts ≡ enter_of g.ix
    g.standing.now k (rooms g.entries.now g.starts.now)) × (c.enter_one.result ≡ true → Laid g.ix g.standing.now k
    c.enter_one.new.entries c.enter_one.new.starts)) e c.enter_one.ensures

pub enter_many-requires : goal.enter_many-requires
enter_many-requires c = c.requires

pub returns : goal.returns
returns c = c.enter_many.ensures

pub shape_of-entries-then-to-from-eq1 : goal.shape_of-entries-then-to-from-eq1
shape_of-entries-then-to-from-eq1 c = c.enter_one.auto.entries

pub shape_of-starts-then-to-from-eq1 : goal.shape_of-starts-then-to-from-eq1
shape_of-starts-then-to-from-eq1 c = c.enter_one.auto.starts

pub shape_of-entries : goal.shape_of-entries
shape_of-entries c = c.enter_many.auto.entries

pub shape_of-starts : goal.shape_of-starts
shape_of-starts c = c.enter_many.auto.starts

pub shape_of-gains : goal.shape_of-gains
shape_of-gains c = c.enter_many.auto.gains
