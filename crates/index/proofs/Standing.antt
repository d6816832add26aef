-- What a room for standing strips and its room of kept buckets are used for. Assumes nothing.
use Prim.Native.Nat.{ℕ, ◌*◌, ◌/◌, ◌≤◌, min}
use native.Mathlib.Omega.{arith}
use mathlib.Core.List.{List}
use lib.ListN.{length}
use lib.Ieee.{Float}
use Rattle.trapezoid.specs.Strip.{capacity}
use Rattle.index.specs.Buckets.{strip_numbers, standing_capacity}

module _ (n : ℕ) (room : List Float) (firsts : List ℕ) where
  pub standing-within : n ≤ standing_capacity room firsts → 6 * n ≤ length room
  unfolding standing_capacity capacity
  standing-within h = let g : n ≤ min (min (length room / 6) (length firsts)) strip_numbers = h in omega arith

  pub standing-long : n ≤ standing_capacity room firsts → n ≤ length firsts
  unfolding standing_capacity
  standing-long h = let g : n ≤ min (min (capacity room) (length firsts)) strip_numbers = h in omega arith

  pub standing-few : n ≤ standing_capacity room firsts → n ≤ strip_numbers
  unfolding standing_capacity
  standing-few h = let g : n ≤ min (min (capacity room) (length firsts)) strip_numbers = h in omega arith

  pub standing_in : 6 * n ≤ length room → n ≤ length firsts → n ≤ strip_numbers → n ≤ standing_capacity room firsts
  unfolding standing_capacity capacity
  standing_in h long few = let g : n ≤ min (min (length room / 6) (length firsts)) strip_numbers = omega arith in g
