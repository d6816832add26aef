-- Laws of a set's bounds, as the code works them. Assumes nothing.
use Prim.Native.Nat.{ℕ, suc, ◌+◌, ◌-◌, ◌*◌, ◌≤◌, ◌<◌}
use native.Mathlib.Omega.{arith}
use mathlib.Core.Path.{◌≡◌}
use mathlib.Core.List.{List}
use lib.ListN.{get_or}
use lib.Ieee.{nan, Float}
use Rattle.strips.specs.declared.Rect.{Rect}
use Rattle.strips.specs.Strips.{x_of, y_of, widened, bounds_on, bounds}

pub bounds-start : (pts : List Float) (n : ℕ) → bounds_on pts (record { left = get_or pts 0 nan; bottom = get_or pts 1 nan; right = get_or pts 0 nan; top = get_or pts 1 nan }) 0 (n - 0) ≡ bounds pts n
unfolding bounds x_of y_of
bounds-start pts n = let y : n - 0 ≡ n = omega arith in rw y

pub bounds-step : (pts : List Float) (b b' : Rect) (i n : ℕ) → i < n → b' ≡ widened b (get_or pts (2 * i) nan) (get_or pts (2 * i + 1) nan) → bounds_on pts b' (i + 1) (n - (i + 1)) ≡ bounds_on pts b i (n - i)
unfolding bounds_on x_of y_of
bounds-step pts b b' i n h e = let s : n - i ≡ suc (n - (i + 1)) = omega arith in rw (s, e)

pub bounds-end : (pts : List Float) (b : Rect) (i n : ℕ) → n ≤ i → bounds_on pts b i (n - i) ≡ b
unfolding bounds_on
bounds-end pts b i n h = let z : n - i ≡ 0 = omega arith in rw z
