-- Document 01, "The job's bits": kinds. Definitions only. Assumes nothing.
use Rattle.std.specs.Prelude.{ℕ, zero, suc, ◌+◌, ◌-◌, ◌*◌, ◌^◌, Bool, true, false, List, [], ◌∷◌, ◌++◌, ℤ, pos, negsuc, get_or, ltb, eqb, Float}
use Rattle.std.specs.Float.{nan}
use Rattle.bits.specs.Reading.{Reader, ◌>>=◌, give, bits}
use Rattle.bits.specs.Fields.{quantity_field, orientations_field, count, area_range, number}
use Rattle.kinds.specs.declared.KindHead.{KindHead}
use Rattle.kinds.specs.sets.Sets.{Set, a_set}

pub record Orientation : Type 0 where
  pub apart : Set
  pub inset : Set

-- "per orientation the apart set, then the inset set"
unfoldable pub an_orientation : Reader Orientation
an_orientation = do
  a ← a_set
  i ← a_set
  give (record { apart = a; inset = i })

-- n orientations, after those read
unfoldable pub some_orientations : ℕ → List Orientation → Reader (List Orientation)
some_orientations zero os = give os
some_orientations (suc n) os = do
  o ← an_orientation
  some_orientations n (os ++ (o ∷ []))

-- "priority 32 two's complement"
unfoldable pub signed : ℕ → ℤ
signed b = elim (ltb b (2 ^ 31)) [ true ↦ pos b | false ↦ negsuc (2 ^ 32 - suc b) ]

-- the order of priorities
unfoldable pub lower : ℤ → ℤ → Bool
lower (pos a) (pos b) = ltb a b
lower (pos a) (negsuc b) = false
lower (negsuc a) (pos b) = true
lower (negsuc a) (negsuc b) = ltb b a

pub record Kind : Type 0 where
  pub quantity : ℕ
  pub fill : Bool
  pub priority : ℤ
  pub area : Float
  pub orientations : List Orientation

-- "Per kind: quantity 12 (1–4,095), fill 1, priority 32 two's complement, area 64, orientations 5 (1–16)"
unfoldable pub kind_head : Reader KindHead
kind_head = do
  q ← count quantity_field
  f ← bits 1
  r ← bits 32
  a ← number area_range
  n ← count orientations_field
  give (record { quantity = q; fill = f; priority = r; area = a; orientations = n })

-- in tables: kind k's quantity, fill, priority (32 bits) and orientations lie in rows from 4 k on, its area in areas at k
unfoldable pub head_at : List ℕ → List Float → ℕ → KindHead
head_at rows areas k =
    record {
      quantity = get_or rows (4 * k) 0;
      fill = get_or rows (4 * k + 1) 0;
      priority = get_or rows (4 * k + 2) 0;
      area = get_or areas k nan;
      orientations = get_or rows (4 * k + 3) 0;
    }

unfoldable pub kind_of : KindHead → List Orientation → Kind
kind_of h os = record { quantity = h.quantity; fill = eqb h.fill 1; priority = signed h.priority; area = h.area; orientations = os }

unfoldable pub a_kind : Reader Kind
a_kind = do
  h ← kind_head
  os ← some_orientations h.orientations []
  give (kind_of h os)

-- n kinds, after those read
unfoldable pub some_kinds : ℕ → List Kind → Reader (List Kind)
some_kinds zero ks = give ks
some_kinds (suc n) ks = do
  k ← a_kind
  some_kinds n (ks ++ (k ∷ []))

-- "copies in all"
unfoldable pub copies_of : List Kind → ℕ
copies_of [] = 0
copies_of (k ∷ ks) = k.quantity + copies_of ks
