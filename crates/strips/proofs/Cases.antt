-- Document 01, "Sheets tried by hand": the starred cases 1 to 3 compute from the definitions. Assumes nothing.
use Prim.Native.Nat.{ℕ}
use mathlib.Core.Path.{◌≡◌, refl}
use mathlib.Core.Bool.{true, false}
use mathlib.Core.List.{List, [], ◌∷◌, map}
use lib.Ieee.{Float, binary64, to_bits}
use Rattle.numbers.specs.Numbers.{from_int}
use Rattle.trapezoid.specs.Strip.{flat, strip_at, heights_at}
use Rattle.numbers.proofs.Computing.{numbers_compute}
use Rattle.trapezoid.proofs.Computing.{strip_computes}
use Rattle.slabs.proofs.Computing.{slab_computes}
use Rattle.strips.specs.Strips.{trapezoids}
use Rattle.strips.proofs.Computing.{strips_compute}

abbrev numbers : List ℕ → List Float
numbers l = map (λ n. from_int n) l

abbrev bits : List Float → List ℕ
bits l = map (λ x. to_bits binary64 x) l

-- 1*: "Loop (0,0),(4,0),(0,4): one strip, 0..4, low 0 0, high 4 0"
pub case1 : bits (flat (trapezoids (numbers (0 ∷ 0 ∷ 4 ∷ 0 ∷ 0 ∷ 4 ∷ [])) 3 (3 ∷ []) false)) ≡ 0 ∷ 0x4010_0000_0000_0000 ∷ 0 ∷ 0 ∷ 0x4010_0000_0000_0000 ∷ 0 ∷ []
unfolding numbers_compute strip_computes slab_computes strips_compute
case1 = refl

-- "at 1 the high is 3"
pub case1_at : to_bits binary64 (heights_at (strip_at (flat (trapezoids (numbers (0 ∷ 0 ∷ 4 ∷ 0 ∷ 0 ∷ 4 ∷ [])) 3 (3 ∷ []) false)) 0) (from_int 1)).high ≡ 0x4008_0000_0000_0000
unfolding numbers_compute strip_computes slab_computes strips_compute
case1_at = refl

-- 2*: "A 4 × 3 rectangle drawn clockwise: no strip."
pub case2 : trapezoids (numbers (0 ∷ 0 ∷ 0 ∷ 3 ∷ 4 ∷ 3 ∷ 4 ∷ 0 ∷ [])) 4 (4 ∷ []) false ≡ []
unfolding numbers_compute strip_computes slab_computes strips_compute
case2 = refl

-- 3*: "The sheet: no strip."
pub case3 : trapezoids (numbers (0 ∷ 0 ∷ 10 ∷ 0 ∷ 10 ∷ 6 ∷ 0 ∷ 6 ∷ [])) 4 (4 ∷ []) true ≡ []
unfolding numbers_compute strip_computes slab_computes strips_compute
case3 = refl
