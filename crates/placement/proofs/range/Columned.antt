-- Whether a place lies in the ranges, by cases, and the columns from the last on down. Assumes nothing.
use Prim.Native.Nat.{ℕ, zero, suc, ◌-◌, ◌<◌, ◌≤◌}
use native.Mathlib.Omega.{arith}
use mathlib.Core.Path.{◌≡◌}
use mathlib.Core.Bool.{true, false, and-true, and-false}
use lib.Ieee.{Float, eq}
use Rattle.search.specs.declared.columns.Columns.{Columns}
use Rattle.search.specs.columns.inner.Stands.{reversed_of, column_x, last_of}
use Rattle.layouts.specs.Layouts.{among_columns}
use Rattle.placement.specs.range.inner.Ranged.{within, in_range_of}

module _ (column : ℕ → Float) (x : Float) where
  pub among_here : (c : ℕ) → eq (column c) x ≡ true → among_columns column c x ≡ true
  unfolding among_columns
  among_here zero h = h
  among_here (suc c) h = rw h

  pub among_below : (c : ℕ) → 0 < c → eq (column c) x ≡ false → among_columns column c x ≡ among_columns column (c - 1) x
  unfolding among_columns
  among_below zero l h = absurd (omega arith)
  among_below (suc c) l h = let z : suc c - 1 ≡ c = omega arith in rw (h, z)

  pub among_first : (c : ℕ) → c ≤ 0 → among_columns column c x ≡ eq (column 0) x
  unfolding among_columns
  among_first c l = let z : c ≡ 0 = omega arith in rw z

module _ (k : Columns) (x y : Float) where
  pub range_reversed : reversed_of k ≡ true → in_range_of k x y ≡ false
  unfolding in_range_of
  range_reversed e = rw e

  pub range_height : within k.y_low k.y_high y ≡ false → in_range_of k x y ≡ false
  unfolding in_range_of
  range_height e = rw (e, and-false, and-false)

  module _ (forth : reversed_of k ≡ false) (high : within k.y_low k.y_high y ≡ true) where
    pub range_in : within k.x_low k.x_high x ≡ true → in_range_of k x y ≡ true
    unfolding in_range_of
    range_in e = rw (forth, high, e)

    pub range_column : within k.x_low k.x_high x ≡ false → in_range_of k x y ≡ among_columns (column_x k) (last_of k) x
    unfolding in_range_of
    range_column e = rw (forth, high, e, and-true)
