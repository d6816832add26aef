-- The columns by cases. Assumes nothing.
use Prim.Native.Nat.{ℕ, zero, suc, ◌+◌, ◌-◌, ◌≤◌}
use native.Mathlib.Omega.{arith}
use Prim.{⊥}
use mathlib.Core.Path.{◌≡◌, refl}
use mathlib.Core.Bool.{Bool, true, false}
use lib.Dec.{leb}
use lib.Ieee.{lt}
use Rattle.numbers.specs.Numbers.{plus_zero}
use Rattle.search.specs.declared.columns.Columns.{Columns}
use Rattle.search.specs.columns.inner.Stands.{reversed_of, regular_of, column_x, last_of, start_from, start_of}

pub x_regular : (k : Columns) (c : ℕ) → leb c k.count ≡ true → column_x k c ≡ plus_zero (regular_of k c)
unfolding column_x
x_regular k c e = rw (e, column_x)

pub x_extra : (k : Columns) (c : ℕ) → leb c k.count ≡ false → column_x k c ≡ plus_zero k.x_high
unfolding column_x
x_extra k c e = rw (e, column_x)

pub last_more : (k : Columns) → lt (regular_of k k.count) k.x_high ≡ true → last_of k ≡ suc k.count
unfolding last_of
last_more k e = rw (e, last_of)

pub last-same : (k : Columns) → lt (regular_of k k.count) k.x_high ≡ false → last_of k ≡ k.count
unfolding last_of
last-same k e = rw (e, last_of)

pub last-bound : (k : Columns) → k.count ≤ 4000000000 → last_of k ≤ 4000000001
last-bound k h = go (lt (regular_of k k.count) k.x_high) refl
  where
    go : (b : Bool) → lt (regular_of k k.count) k.x_high ≡ b → last_of k ≤ 4000000001
    go true e = rw (last_more k e) (omega arith)
    go false e = rw (last-same k e) (omega arith)

pub start-reversed : (k : Columns) (last n : ℕ) → reversed_of k ≡ true → start_of k last n ≡ last + 1
unfolding start_of
start-reversed k last n e = rw (e, start_of)

pub start_none : (k : Columns) (last n : ℕ) → reversed_of k ≡ false → n ≡ 0 → start_of k last n ≡ last + 1
unfolding start_of start_from
start_none k last n e z = rw (e, z, start_of)

from_at : (last n : ℕ) → (n ≡ 0 → ⊥) → start_from last n ≡ n - 1
unfolding start_from
from_at last zero h = absurd (h refl)
from_at last (suc c) h = let e : c ≡ suc c - 1 = omega arith in e

pub start_at : (k : Columns) (last n : ℕ) → reversed_of k ≡ false → (n ≡ 0 → ⊥) → start_of k last n ≡ n - 1
unfolding start_of
start_at k last n e z = rw (e, start_of) (from_at last n z)
