-- Laws of the comparisons of kinds. Assumes nothing.
use Prim.Native.Nat.{ℕ, suc, ◌+◌, ◌-◌, ◌*◌, ◌≤◌, ◌<◌, min}
use native.Mathlib.Omega.{arith}
use mathlib.Core.Path.{◌≡◌, refl, ap, sym, ◌∙◌}
use mathlib.Core.Bool.{Bool, true, false, not, ◌&&◌, ◌||◌, beq}
use mathlib.Core.List.{List}
use lib.ListN.{get_or}
use lib.IntN.{negsuc}
use lib.Dec.{ltb, eqb}
use lib.Ieee.{Float, nan, lt, eq}
use borrow.Author.Tests.{le-ltb, ltb-true, ltb-false}
use Rattle.kinds.specs.Kinds.{lower, signed}
use Rattle.nesting.specs.CopyOrder.{Numbered, same_priority, larger_first, higher_first, ahead}
use Rattle.copy_order.specs.inner.KindTables.{numbered_at}

-- a number past 32 bits stands for −1, as 4,294,967,295 does
past-bits : (p : ℕ) → 4294967296 ≤ p → signed 4294967295 ≡ signed p
unfolding signed
past-bits p h = ap negsuc (sym e) ∙ sym negative
  where
    e : 4294967296 - suc p ≡ 0
    e = omega arith

    negative : signed p ≡ negsuc (4294967296 - suc p)
    negative = rw (le-ltb p 2147483648 (omega arith), signed)

-- a priority as 32 bits
pub in_bits : (p m : ℕ) → m ≡ min p 4294967295 → (m < 4294967296) × (signed m ≡ signed p)
in_bits p m e = (omega arith, go (ltb p 4294967296) refl)
  where
    go : (t : Bool) → ltb p 4294967296 ≡ t → signed m ≡ signed p
    go true f = let h = ltb-true p 4294967296 f in let z : m ≡ p = omega arith in ap signed z
    go false f = let h = ltb-false p 4294967296 f in let z : m ≡ 4294967295 = omega arith in ap signed z ∙ past-bits p h

-- one of two alone is a fill kind
apart : (f g h : Bool) → not (beq f g) ≡ true → g ≡ ((not f && g) || beq f g && h)
apart true true h e = cc
apart true false h e = refl
apart false true h e = refl
apart false false h e = cc

-- both are, or neither
alike : (f g h : Bool) → not (beq f g) ≡ false → h ≡ ((not f && g) || beq f g && h)
alike true true h e = refl
alike true false h e = cc
alike false true h e = cc
alike false false h e = refl

module _ (rows : List ℕ) (areas : List Float) (a b : ℕ) where
  abbrev one : Numbered
  one = numbered_at rows areas a

  abbrev two : Numbered
  two = numbered_at rows areas b

  abbrev pub lower_at : ℕ → ℕ → Bool
  lower_at x y = lower (signed (get_or rows (4 * x + 2) 0)) (signed (get_or rows (4 * y + 2) 0))

  abbrev pub larger_at : Bool
  larger_at = lt (get_or areas b nan) (get_or areas a nan) || eq (get_or areas b nan) (get_or areas a nan) && ltb a b

  pub higher_yes : (r : Bool) → r ≡ lower_at b a → r ≡ true → r ≡ higher_first one two
  unfolding higher_first numbered_at
  higher_yes r e t = rw (sym e ∙ t) t

  pub higher_no : (r s : Bool) → r ≡ lower_at b a → r ≡ false → s ≡ lower_at a b → s ≡ true → not s ≡ higher_first one two
  unfolding higher_first same_priority numbered_at
  higher_no r s e t f u = rw (u, sym e ∙ t, sym f ∙ u)

  pub higher_same : (r s q : Bool) → r ≡ lower_at b a → r ≡ false → s ≡ lower_at a b → s ≡ false → q ≡ larger_at → q ≡ higher_first one two
  unfolding higher_first same_priority larger_first numbered_at
  higher_same r s q e t f u g = rw (sym e ∙ t, sym f ∙ u) g

  abbrev fill_at : ℕ → Bool
  fill_at k = eqb (get_or rows (4 * k + 1) 0) 1

  pub ahead_apart : not (beq (fill_at a) (fill_at b)) ≡ true → fill_at b ≡ ahead one two
  unfolding ahead numbered_at
  ahead_apart e = apart (fill_at a) (fill_at b) (higher_first one two) e

  pub ahead_alike : (q : Bool) → not (beq (fill_at a) (fill_at b)) ≡ false → q ≡ higher_first one two → q ≡ ahead one two
  unfolding ahead numbered_at
  ahead_alike q e f = f ∙ alike (fill_at a) (fill_at b) (higher_first one two) e
