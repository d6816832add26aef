-- `column_search`: the search of what is left is the search of the start. Assumes nothing.
use Rattle.search.proofs.Turns.{at-end, at_overflow, at_free, at_full}
use Rattle.std.specs.Prelude.{Ok, Err}
use Rattle.look.specs.declared.height.Look.TheVariants.{Free, Full}
use native.Mathlib.Omega.{arith}
use borrow.Author.Rules.{rules}
use Prim.Native.Nat.{ℕ, ◌+◌, ◌-◌, ◌≤◌, ◌<◌, ◌^◌}
use mathlib.Core.Path.{◌≡◌, sym, ap, ◌∙◌, refl, subst}
use Rattle.rooms.specs.tracks.inner.Tracks.{slot_numbers}
use Rattle.search.proofs.column_search.Goals as goal

one_less : (n last c : ℕ) → n + (last + 1 - c) < 2 ^ 64 → c ≤ last → n + 1 < 2 ^ 64
one_less n last c h g = omega arith

pub column_step-requires : goal.column_step-requires
column_step-requires c =
    let a = c.args in
    let p = c.requires in
    let v = c.loop-c.invariant in
    let h = c.if-last-c.false in
    (p.0 _ v.on h, p.1, p.3, subst (λ (n : ℕ). slot_numbers ≤ n) (sym v.long) p.4, one_less _ a.last c.loop-c.c v.small h, p.6, p.7)

pub returns-then-last-c : goal.returns-then-last-c
returns-then-last-c c = let a = c.args in
    let l = c.loop-c in (
      at-end a.k a.inset.now a.apart.now a.sheet.now a.placed.now a.room.now a.slot a.last a.from a.tracks.now
          l.room l.tracks l.c l.invariant c.if-last-c.true,
      l.invariant.nexts,
      tt,
    )

pub returns-in-Free : goal.returns-in-Free
returns-in-Free c = let a = c.args in
    let l = c.loop-c in
    let s = c.column_step in (
      at_free a.k a.inset.now a.apart.now a.sheet.now a.placed.now a.room.now a.slot a.last a.from a.tracks.now
          l.room l.room l.tracks _ l.c s.result l.invariant c.if-last-c.false s.ensures.0 s.ensures.1 s.ensures.2 _ _ (c.in_ok-y.was ∙ ap Ok c.in-Free.is),
      s.ensures.2 ∙ l.invariant.nexts,
      c.if-last-c.false,
    )

pub returns-in_err-y : goal.returns-in_err-y
returns-in_err-y c = let a = c.args in
    let l = c.loop-c in
    let s = c.column_step in
    let e : c.from_residual.result ≡ Err c.in_err-y.field-0.0 = search rules in
    rw e (
      at_overflow a.k a.inset.now a.apart.now a.sheet.now a.placed.now a.room.now a.slot a.last a.from a.tracks.now
          l.room l.room l.tracks _ l.c s.result l.invariant c.if-last-c.false s.ensures.0 s.ensures.1 s.ensures.2 _ c.in_err-y.was,
      s.ensures.2 ∙ l.invariant.nexts,
      tt,
    )

pub loop-c-preserved : goal.loop-c-preserved
loop-c-preserved c = let a = c.args in
    let l = c.loop-c in
    let s = c.column_step in
    at_full a.k a.inset.now a.apart.now a.sheet.now a.placed.now a.room.now a.slot a.last a.from a.tracks.now
    l.room _ l.tracks _ l.c s.result l.invariant c.if-last-c.false s.ensures.0 s.ensures.1 s.ensures.2 c.requires.3 s.auto.room s.auto.tracks
    (c.in_ok-y.was ∙ ap Ok c.in-Full.is)
