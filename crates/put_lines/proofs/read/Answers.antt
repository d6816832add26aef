-- `put_lines::read` meets its contract: the lines so far stand in the room, and what is left of the text is the rest of the definition's. Assumes nothing.
use Prim.Native.Nat.{◌/◌}
use native.Mathlib.Omega.{arith}
use Rattle.std.specs.Prelude.{Ok}
use mathlib.Core.Path.{◌≡◌, sym, subst, ◌∙◌}
use mathlib.Core.Bool.{false}
use lib.ListN.{length}
use borrow.Author.Tests.{not-true, not-false}
use Rattle.put_lines.specs.declared.Line.{Line}
use Rattle.put_lines.specs.inner.Storing.{list_in}
use Rattle.put_lines.proofs.Listing.{listed_start, listed_on, listed-end, listed_many, listed-bad}
use Rattle.put_lines.proofs.read.Goals as goal

pub loop-n-init : goal.loop-n-init
loop-n-init c = listed_start c.args.bytes.now c.args.numbers.now

pub returns-then-not-begins : goal.returns-then-not-begins
returns-then-not-begins c = let a = c.args in
    let l = c.loop-n in
    listed-end a.bytes.now a.numbers.now l.numbers l.at l.n l.invariant (sym c.begins.ensures ∙ c.if-not-begins.true)

pub returns-then-not-l : goal.returns-then-not-l
returns-then-not-l c = let a = c.args in
    let l = c.loop-n in
    listed-bad a.bytes.now a.numbers.now l.numbers l.at l.n l.invariant (sym c.begins.ensures ∙ c.if-not-begins.false) (omega arith)
    (subst (λ (k : Line). k.good ≡ false) c.line_from-l.ensures (not-true _ c.if-not-l.true))

pub loop-n-preserved : goal.loop-n-preserved
loop-n-preserved c = let a = c.args in
    let l = c.loop-n in
    listed_on a.bytes.now a.numbers.now l.numbers c.store_line.new.numbers l.at l.n c.line_from-l.result
    (sym c.begins.ensures ∙ c.if-not-begins.false) (omega arith) c.line_from-l.ensures (not-false _ c.if-not-l.false) c.store_line.ensures l.invariant

pub returns-then-begins : goal.returns-then-begins
returns-then-begins c = let a = c.args in
    let l = c.loop-n in
    let e : l.n ≡ length a.numbers.now / 4 = omega (arith, l.invariant.few) in
    listed_many a.bytes.now a.numbers.now l.numbers l.at l.n l.invariant (sym c.begins-2.ensures ∙ c.if-begins.true) e

pub returns : goal.returns
returns c = let a = c.args in
    let l = c.loop-n in
    let e : l.n ≡ length a.numbers.now / 4 = omega (arith, l.invariant.few) in
    subst (λ k. record { found = Ok (k, l.at); numbers = l.numbers } ≡ list_in a.bytes.now a.numbers.now) e
    (listed-end a.bytes.now a.numbers.now l.numbers l.at l.n l.invariant (sym c.begins-2.ensures ∙ c.if-begins.false))
