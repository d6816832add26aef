-- The new entries of the first b buckets. Assumes nothing.
use Prim.Native.Nat.{ℕ, zero, suc, ◌+◌, ◌-◌, ◌<◌, ◌≤◌}
use native.Mathlib.Omega.{arith}
use native.Mathlib.Numerals.{add-one}
use mathlib.Core.Path.{◌≡◌, refl, ap, subst}
use mathlib.Core.List.{List}
use lib.ListN.{get_or}
use Rattle.gaps.specs.inner.OpenGaps.{before}

pub before-next : (g : List ℕ) (b : ℕ) → before g (b + 1) ≡ before g b + get_or g b 0
unfolding before
before-next g b = ap (before g) (add-one b)

pub before-first : (g : List ℕ) → before g 0 ≡ 0
unfolding before
before-first g = refl

before_up : (g : List ℕ) (b d : ℕ) → before g b ≤ before g (b + d)
before_up g b zero = let e : b + 0 ≡ b = omega arith in rw e (native.Mathlib.Nat.le_refl (before g b))
before_up g b (suc d) =
    let e : b + suc d ≡ b + d + 1 = omega arith in
    let h = before_up g b d in
    let s = before-next g (b + d) in
    rw e (omega arith)

pub before-rise : (g : List ℕ) (b c : ℕ) → b ≤ c → before g b ≤ before g c
before-rise g b c h = let e : b + (c - b) ≡ c = omega arith in subst (λ (k : ℕ). before g b ≤ before g k) e (before_up g b (c - b))

pub before-pos : (g : List ℕ) (b left : ℕ) → left ≡ before g b → 0 < left → 0 < b
before-pos g zero left e h = absurd (no (before-first g))
  where
    no : before g 0 ≡ 0 → ⊥
    no z = omega arith
before-pos g (suc b) left e h = omega arith

pub before_back : (g : List ℕ) (b : ℕ) → 0 < b → before g b ≡ before g (b - 1) + get_or g (b - 1) 0
before_back g b h = let e : b - 1 + 1 ≡ b = omega arith in subst (λ (k : ℕ). before g k ≡ before g (b - 1) + get_or g (b - 1) 0) e (before-next g (b - 1))
