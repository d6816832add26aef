-- Document 01, "Order and swaps": the order of the copies. Definitions only. Assumes nothing.
use Rattle.std.specs.Prelude.{ℕ, suc, Bool, not, ◌&&◌, ◌||◌, replicate, ltb}
use Rattle.std.specs.Bool.{beq}
use mathlib.Core.List.{List, [], ◌∷◌, flat_map}
use Rattle.std.specs.Float.Ieee.{lt, eq}
use Rattle.slabs.specs.Slab.{sort}
use Rattle.kinds.specs.Kinds.{Kind, lower}
use Rattle.job.specs.Jobs.{Job}

-- two priorities are equal where neither is the lower
unfoldable pub same_priority : Kind → Kind → Bool
same_priority k l = not (lower k.priority l.priority) && not (lower l.priority k.priority)

-- a kind with its number
pub record Numbered : Type 0 where
  pub number : ℕ
  pub kind : Kind

-- the kinds with their numbers, from n on
unfoldable pub numbered : ℕ → List Kind → List Numbered
numbered n [] = []
numbered n (k ∷ ks) = record { number = n; kind = k } ∷ numbered (suc n) ks

-- "larger area first, smaller kind number"
unfoldable pub larger_first : Numbered → Numbered → Bool
larger_first a b =
    lt b.kind.area a.kind.area || eq b.kind.area a.kind.area && ltb a.number b.number

-- "higher priority first"
unfoldable pub higher_first : Numbered → Numbered → Bool
higher_first a b =
    lower b.kind.priority a.kind.priority || same_priority a.kind b.kind && larger_first a b

-- "ordinary kinds before fill kinds"
unfoldable pub ahead : Numbered → Numbered → Bool
ahead a b = (not a.kind.fill && b.kind.fill) || beq a.kind.fill b.kind.fill && higher_first a b

-- "Copies are ordered": the kinds of the job's copies
unfoldable pub copy_order : Job → List ℕ
copy_order j = flat_map (λ a. replicate a.kind.quantity a.number) (sort ahead (numbered 0 j.kinds))
