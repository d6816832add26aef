use mathlib.Core.Path.{◌≡◌, sym, ◌∙◌, subst}
use mathlib.Core.Logic.{inl, inr}
use mathlib.Core.Bool.{true≢false}
use mathlib.Core.List.{List}
use Prim.Native.Nat.{ℕ, ◌+◌, ◌≤◌, ◌<◌}
use native.Mathlib.Omega.{arith}
use lib.ListN.{get_or}
use Rattle.numbers.proofs.Truth.{below_or_not}
use Rattle.index.proofs.entries.at_cursors.Goals as goal

found : (es cs : List ℕ) (number lo b : ℕ) → ((d : ℕ) → lo ≤ d → d < b → get_or es (get_or cs (d + 1) 0) 0 ≡ number) → get_or es (get_or cs (b + 1) 0) 0 ≡ number
    → (d : ℕ) → lo ≤ d → d < b + 1 → get_or es (get_or cs (d + 1) 0) 0 ≡ number
found es cs number lo b f e d h l =
    elim (below_or_not d b) [
      | inl m ↦ f d h m
      | inr m ↦ let q : b ≡ d = omega arith in subst (λ (k : ℕ). get_or es (get_or cs (k + 1) 0) 0 ≡ number) q e
    ]

pub loop-b-init : goal.loop-b-init
loop-b-init c = (omega arith, λ d h l. absurd (omega (arith, h, l)))

pub entry-requires : goal.entry-requires
entry-requires c = let l = c.loop-b in c.requires.1 l.b l.invariant.0 (omega arith)

pub loop-b-preserved : goal.loop-b-preserved
loop-b-preserved c = let g = c.args in
    let l = c.loop-b in (
      omega (arith, l.invariant.0),
      found g.entries.now g.cursors.now g.number g.lo l.b l.invariant.1
          (sym c.entry.ensures ∙ c.if-entry-number.false),
    )

pub returns-then-entry-number : goal.returns-then-entry-number
returns-then-entry-number c = let l = c.loop-b in
    (λ q. absurd (true≢false (sym q)), λ q. (l.b, l.invariant.0, omega arith, λ e. c.if-entry-number.true (c.entry.ensures ∙ e)))

pub returns : goal.returns
returns c = let l = c.loop-b in (λ q d h k. l.invariant.1 d h (omega (arith, k)), λ q. absurd (true≢false q))
