-- `from` of a place at the lower left, and of nothing. Assumes nothing.
use Prim.Native.Nat.{◌*◌}
use native.Mathlib.Omega.{arith}
use mathlib.Core.Path.{◌≡◌, refl, sym, ap, ◌∙◌}
use mathlib.Core.Bool.{Bool, true, false, not, cond}
use lib.IntN.{pos}
use lib.Dec.{eqb}
use lib.Ieee.{Float, nan, inf, fin, eq, neg, level, up, down}
use Rattle.numbers.specs.Numbers.{pos_zero, plus_zero}
use Rattle.frames.specs.declared.Frame.{Frame}
use Rattle.frames.specs.declared.Point.{Point}
use Rattle.frames.specs.Frames.{from_right, from_top, along_x, lower_left, turned, from}

-- ---- plus zero twice, minus included

-- a double and its negative are zero together
zero_neg : (x : Float) → eq (neg x) pos_zero ≡ eq x pos_zero
unfolding eq neg
zero_neg nan = refl
zero_neg (inf s) = refl
zero_neg (fin s m e) = go (eqb (m * up e * down (pos 0)) 0) refl s
  where
    none : 0 * up (pos 0) * down e ≡ 0
    none = omega arith

    go : (b : Bool) → eqb (m * up e * down (pos 0)) 0 ≡ b → (s : Bool)
        → level (not s) (m * up e * down (pos 0)) false (0 * up (pos 0) * down e) ≡ level s (m * up e * down (pos 0)) false (0 * up (pos 0) * down e)
    go true h true = rw (none, h)
    go true h false = rw (none, h)
    go false h s = rw (none, h)

pub plus-zero_twice : (x : Float) → plus_zero (plus_zero x) ≡ plus_zero x
unfolding plus_zero eq
plus-zero_twice x = go (eq x pos_zero) refl
  where
    go : (b : Bool) → eq x pos_zero ≡ b → plus_zero (cond b pos_zero x) ≡ cond b pos_zero x
    go true e = refl
    go false e = rw e

minus_plus-zero : (x : Float) → plus_zero (neg (plus_zero x)) ≡ plus_zero (neg x)
unfolding plus_zero neg
minus_plus-zero x = go (eq x pos_zero) refl
  where
    go : (b : Bool) → eq x pos_zero ≡ b → plus_zero (neg (cond b pos_zero x)) ≡ plus_zero (neg x)
    go true e = unfold eq in (sym (ap (λ (t : Bool). cond t pos_zero (neg x)) (zero_neg x ∙ e)))
    go false e = refl

turned_twice : (t : Bool) (x : Float) → turned t (plus_zero x) ≡ turned t x
unfolding turned
turned_twice false x = plus-zero_twice x
turned_twice true x = minus_plus-zero x

-- at the lower left `from` only makes a minus zero plus zero
pub from-lower-left : (f : Frame) (p : Point) → from f (from lower_left p) ≡ from f p
unfolding from along_x from_right from_top turned
from-lower-left f p = λ t.
    cond (along_x f)
    (record { x = turned_twice (from_right f) p.y t; y = turned_twice (from_top f) p.x t })
    (record { x = turned_twice (from_right f) p.x t; y = turned_twice (from_top f) p.y t })

turned_zero : (t : Bool) → turned t pos_zero ≡ pos_zero
unfolding turned plus_zero neg eq
turned_zero true = refl
turned_zero false = refl

either_way : {A : Type 0} (b : Bool) (a : A) → cond b a a ≡ a
either_way true a = refl
either_way false a = refl

pub from_zero : (f : Frame) → from f (record { x = pos_zero; y = pos_zero }) ≡ record { x = pos_zero; y = pos_zero }
unfolding from
from_zero f =
    let at : ◌≡◌ {A = Point} (record { x = turned (from_right f) pos_zero; y = turned (from_top f) pos_zero }) (record { x = pos_zero; y = pos_zero }) =
    λ t. record { x = turned_zero (from_right f) t; y = turned_zero (from_top f) t } in
    either_way (along_x f) (record { x = turned (from_right f) pos_zero; y = turned (from_top f) pos_zero }) ∙ at
