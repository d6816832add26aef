-- An orientation that the job has: its slot lies in the tables, which say its strips and bounds; its columns are few. Assumes nothing.
use Prim.Native.Nat.{ℕ, zero, suc, ◌+◌, ◌*◌, ◌≤◌, ◌<◌}
use native.Mathlib.Omega.{arith}
use mathlib.Core.Path.{◌≡◌, sym, ap, ap₂, subst, ◌∙◌}
use mathlib.Core.Bool.{false}
use mathlib.Core.List.{List, [], ◌∷◌, map}
use lib.ListN.{length, get_or, take, drop}
use lib.Dec.{lit≤}
use lib.Ieee.{Float}
use Rattle.numbers.proofs.Doubles.{Small, finite}
use Rattle.trapezoid.proofs.Sizes.{small_more}
use Rattle.strips.specs.declared.Rect.{Rect}
use Rattle.strips.proofs.Sizes.{Framed}
use Rattle.index.specs.inner.Listing.{Bounded}
use Rattle.kinds.specs.Kinds.{Kind}
use Rattle.kinds.proofs.Accepted.{Every, GoodKind}
use Rattle.job.specs.Jobs.{Job}
use Rattle.job.proofs.Accepted.{job_good}
use Rattle.filling.specs.Shapes.{Shape, Planner, planner_of, shape_of}
use Rattle.filling.specs.State.{slot_shape, shape_at}
use Rattle.filling.specs.State as States
use Rattle.filling.specs.Start.{tables_of, first_rooms}
use Rattle.filling.specs.Leaf.{lacks}
use Rattle.filling.proofs.Reading.{slot_kind, slot_turn, sixteen_get}
use Rattle.filling.proofs.Sizes.{Sized, sized}
use Rattle.filling.proofs.Begin.{shape_read, sheet-read}
use Rattle.filling.proofs.WithinBounds as Within
use Rattle.search.specs.columns.inner.Stands.{columns_of}
use Rattle.search.proofs.columns.Sizes.{BoundedRect, few-columns}
use Rattle.choose.specs.declared.Grid.{Grid}
use Rattle.choose.specs.inner.Choosing.{bounds_at, part_at, inset_part, apart_part}
use Rattle.leaf.proofs.Handed.{has_kind, has_turn}
use Rattle.filling_laws.proofs.ReadyNumbers.{resolving}
use Rattle.filling_laws.proofs.fill_laws.Ready.{bounds_long, parts_long}
use Rattle.layouts.specs.Layouts.{quantity_of}
use Rattle.judge_lines.specs.inner.Judging.{TablesOf}

small-within : {x : Float} → Small 100000 x → Bounded 1000000 x
small-within {x} S = let w : Small 1000000 x = small_more S (lit≤ tt) in record { fine = finite S.num; bound = w.bound }

framed-within : (b : Rect) → Framed b → BoundedRect b
framed-within b f =
    record { left = small-within f.left; bottom = small-within f.bottom; right = small-within f.right; top = small-within f.top }

-- ---- quantities

most-copies : (ks : List Kind) → Every GoodKind ks → (k : ℕ) → get_or (map (λ a. a.quantity) ks) k 0 ≤ 4095
most-copies [] g k = omega arith
most-copies (a ∷ ks) g zero = g.0.quantity_most
most-copies (a ∷ ks) g (suc k) = most-copies ks g.1 k

-- ---- the tables

module _ {j : Job} {g : Grid} {kinds : ℕ} {rows : List ℕ} {ib : List Float} {parts : List ℕ} {shapes sheet : List Float}
    (t : TablesOf j g kinds rows ib parts shapes sheet) where
  abbrev P : Planner
  P = planner_of j

  abbrev z : Sized j
  z = sized t.prepared.bytes j t.prepared.read

  abbrev Room : List Float
  Room = (first_rooms P t.prepared.lent).shapes

  -- ---- the tables' lengths
  pub kinds_few : kinds ≤ 64
  kinds_few = subst (λ (n : ℕ). n ≤ 64) t.number z.kinds

  pub rows_long : 256 ≤ length rows
  rows_long = t.prepared.tabled.rows_long

  pub bounds_many : length ib ≡ 4096
  bounds_many = ap length t.prepared.inset_bounds ∙ bounds_long P

  pub parts_many : length parts ≡ 4096
  parts_many = ap length t.prepared.parts ∙ parts_long P

  pub sheet_is : sheet ≡ P.sheet
  sheet_is = t.prepared.sheet ∙ sheet-read j t.prepared.lent

  pub copies_few : (k : ℕ) → quantity_of j k ≤ 4095
  unfolding quantity_of
  copies_few k = most-copies j.kinds (job_good t.prepared.bytes j t.prepared.read).good.kinds k

  -- ---- orientation o of kind k
  module _ (k o : ℕ) (has : lacks j k o ≡ false) where
    pub kind_in : k < kinds
    kind_in = subst (λ (n : ℕ). k < n) t.number (has_kind j k o has)

    pub turn_in : o < 16
    turn_in = let a = has_turn j k o has in let b = sixteen_get z.turns k in omega arith

    pub slot_in : 16 * k + o < 1024
    slot_in = let a = kind_in in let b = kinds_few in let c = turn_in in omega arith

    slot_is : slot_shape P (16 * k + o) ≡ shape_of P k o
    unfolding slot_shape
    slot_is = ap₂ (shape_of P) (slot_kind k o turn_in) (slot_turn k o turn_in)

    read_is : shape_at (tables_of P) Room (16 * k + o) ≡ shape_of P k o
    read_is = shape_read j t.prepared.lent (16 * k + o) slot_in ∙ slot_is

    pub bounds_is : bounds_at ib (16 * k + o) ≡ (shape_of P k o).bounds
    unfolding shape_at bounds_at States.bounds_at
    bounds_is = ap (λ (l : List Float). bounds_at l (16 * k + o)) t.prepared.inset_bounds ∙ ap (λ (s : Shape). s.bounds) read_is

    pub apart_is : apart_part (part_at parts (16 * k + o)) (take (6 * g.apart_strips) shapes) ≡ (shape_of P k o).apart
    unfolding shape_at part_at States.part_at
    apart_is =
        ap₂ (λ (l : List ℕ) (m : List Float). apart_part (part_at l (16 * k + o)) m) t.prepared.parts t.prepared.apart
        ∙ ap (λ (s : Shape). s.apart) read_is

    pub inset_is : inset_part (part_at parts (16 * k + o)) (drop (6 * g.apart_strips) shapes) ≡ (shape_of P k o).inset
    unfolding shape_at part_at States.part_at
    inset_is =
        ap₂ (λ (l : List ℕ) (m : List Float). inset_part (part_at l (16 * k + o)) m) t.prepared.parts t.prepared.inset
        ∙ ap (λ (s : Shape). s.inset) read_is

    pub few : (columns_of g.bounds (bounds_at ib (16 * k + o)) g.resolution).count ≤ 4000000000
    few =
        let good = (job_good t.prepared.bytes j t.prepared.read).good in
        subst (λ (b : Rect). (columns_of g.bounds b g.resolution).count ≤ 4000000000) (sym bounds_is)
        (subst (λ (b : Rect). (columns_of b (shape_of P k o).bounds g.resolution).count ≤ 4000000000) (sym t.prepared.bounds)
        (subst (λ (r : Float). (columns_of P.bounds (shape_of P k o).bounds r).count ≤ 4000000000) (sym t.prepared.resolution)
        (few-columns P.bounds (shape_of P k o).bounds P.resolution (framed-within P.bounds (Within.framed j good))
        (framed-within (shape_of P k o).bounds (Within.shape j good k o).frame) (resolving (Within.resolution_in j good)))))

    -- what requires the slot of a table with four numbers to a slot
    pub slot_bounded : 4 * (16 * k + o) + 4 ≤ length ib
    slot_bounded = let a = bounds_many in let b = slot_in in omega arith

    pub slot_parted : 4 * (16 * k + o) + 4 ≤ length parts
    slot_parted = let a = parts_many in let b = slot_in in omega arith
