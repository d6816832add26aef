-- A set's points never pass 512. Assumes nothing.
use Rattle.std.specs.Prelude.{Result, Ok, Err}
use mathlib.Core.Path.{◌≡◌, refl}
use Prim.Native.Nat.{ℕ, ◌+◌, ◌≤◌}
use mathlib.Core.Bool.{Bool, true, false, cond}
use lib.Dec.{leb}
use borrow.Author.Tests.{leb-true}
use native.Mathlib.Omega.{arith}
use Rattle.bits.specs.declared.Refusal.{Refusal}
use Rattle.bits.specs.declared.Refusal.TheVariants.{CountOutOfRange}
use Rattle.bits.specs.Fields.{judge_count, in_set, judge_points}
use Rattle.bits.specs.inner.Answers.{count_of}

in_set-most : (before : ℕ) (t : Result ℕ Refusal) → before ≤ 512 → before + count_of (in_set before t) ≤ 512
unfolding in_set
in_set-most before (Ok k) h = go (leb (before + k) 512) (leb-true (before + k) 512)
  where
    go : (t : Bool) → (t ≡ true → before + k ≤ 512) → before + count_of (cond t (Ok k) (Err CountOutOfRange)) ≤ 512
    go true f = f refl
    go false f = omega arith
in_set-most before (Err k) h = omega arith

pub points-most : (before n : ℕ) → before ≤ 512 → before + count_of (judge_points before n) ≤ 512
unfolding judge_points
points-most before n h = in_set-most before (judge_count 3 512 n) h
