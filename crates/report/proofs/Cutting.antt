-- The parts of the rooms that a filling is lent, and what its report requires. Assumes nothing.
use Prim.Native.Nat.{ℕ, ◌+◌, ◌*◌, ◌≤◌, ◌<◌}
use native.Mathlib.Omega.{arith}
use mathlib.Core.Path.{◌≡◌, refl, sym, ap, ap₂, subst, ◌∙◌}
use mathlib.Core.Bool.{Bool, true, false, ◌&&◌, cond}
use mathlib.Core.List.{List, [], ◌++◌}
use lib.ListN.{length, get_or, take, drop, take-append-drop}
use lib.Dec.{ltb, ltb→lt}
use lib.Ieee.{Float}
use Rattle.trapezoid.specs.Strip.{part_of}
use Rattle.job.specs.Jobs.{Job}
use Rattle.filling.specs.Shapes.{Shape, planner_of, no_shape, shape_of}
use Rattle.filling.specs.State.{slot_shape, part_at}
use Rattle.filling.specs.Start.{apart_strips_of}
use Rattle.filling.specs.Order.{rearranged}
use Rattle.filling.proofs.Reading.{slot_kind, slot_turn}
use Rattle.filling.proofs.Sizes.{sized}
use Rattle.filling.proofs.Begin.{apart-room, apart-lies, lacking, rearranged-length}
use Rattle.filling_laws.specs.fill_laws.inner.Prepared.{Given, Prepared}
use Rattle.filling_laws.proofs.fill_laws.Between.{kind-below}
use Rattle.filling_laws.proofs.fill_laws.Ready.{parts_long}
use Rattle.report.specs.offcut.inner.Reaching.{apart_at, Parted}

-- the strips that a slot's part says, out of a room
abbrev lies : ℕ → List ℕ → List Float → List Float
lies i parts room = let q = part_at parts i in part_of room q.apart_start q.apart_count

-- the job's apart strips lie in the shapes room where the parts say
pub parted : (j : Job) (g : Given) → Prepared j g → (shapes : List Float) (n : ℕ) → g.apart ≡ take n shapes → Parted (planner_of j) g.parts shapes
unfolding apart_at
parted j g h shapes n e k o = go (ltb k 64) (ltb o 16) refl refl
  where
    room : apart_strips_of (planner_of j) ++ drop n shapes ≡ shapes
    room = ap (λ (l : List Float). l ++ drop n shapes) (sym (apart-room j h.lent) ∙ (sym h.apart ∙ e)) ∙ take-append-drop n shapes

    slot : o < 16 → slot_shape (planner_of j) (16 * k + o) ≡ shape_of (planner_of j) k o
    slot b = unfold slot_shape in ap₂ (shape_of (planner_of j)) (slot_kind k o b) (slot_turn k o b)

    found : k < 64 → o < 16 → (shape_of (planner_of j) k o).apart ≡ lies (16 * k + o) g.parts shapes
    found a b =
        let c = apart-lies j h.lent (16 * k + o) (omega arith) (drop n shapes) in
        ap (λ (s : Shape). s.apart) (sym (slot b)) ∙ (sym c ∙ ap₂ (lies (16 * k + o)) (sym h.parts) room)

    none : (a b : Bool) → ltb k 64 ≡ a → ltb o 16 ≡ b → a && b ≡ false → (shape_of (planner_of j) k o).apart ≡ []
    none a b p q r = ap (λ (s : Shape). s.apart) (lacking j (sized h.bytes j h.read) k o (ap₂ ◌&&◌ p q ∙ r)) ∙ (unfold no_shape in refl)

    go : (a b : Bool) → ltb k 64 ≡ a → ltb o 16 ≡ b → (shape_of (planner_of j) k o).apart ≡ cond (a && b) (lies (16 * k + o) g.parts shapes) []
    go true true p q = found (ltb→lt k 64 (rw p tt)) (ltb→lt o 16 (rw q tt))
    go true false p q = none true false p q refl
    go false b p q = none false b p q refl

-- at most 4,096 copies
pub order-few : (j : Job) (g : Given) → Prepared j g → (order : List ℕ) → rearranged j order ≡ true → length order ≤ 4096
order-few j g h order r =
    let a = rearranged-length j order r in
    let b = (sized h.bytes j h.read).few in
    omega arith

-- what the report requires
pub report_ready : (j : Job) (g : Given) → Prepared j g → (order : List ℕ) → length order ≤ 4096 → (kinds : ℕ) → length j.kinds ≡ kinds → rearranged j order ≡ true
    → (o x y gap looks room : ℕ) → o ≡ 4096 → x ≡ 4096 → y ≡ 4096 → gap ≡ 4096 → looks ≡ 1024
    → 6 * length order ≤ room
    → (kinds ≤ 64) × (256 ≤ length g.rows) × (length order ≤ o) × (length order ≤ x) × (length order ≤ y) × (1024 ≤ looks) × (4096 ≤ length g.parts)
    × ((i : ℕ) → i < length order → get_or order i 0 < kinds) × (length order ≤ 4096) × (6 * length order ≤ room) × (length order ≤ gap)
report_ready j g h order few kinds n r o x y gap looks room lo lx ly lg ll lr = (
  subst (λ (m : ℕ). m ≤ 64) n h.tabled.few,
  h.tabled.rows_long,
  long few lo,
  long few lx,
  long few ly,
  least ll,
  all_parts,
  λ i l. subst (λ (m : ℕ). get_or order i 0 < m) n (kind-below j g h order r i l),
  few,
  lr,
  long few lg,
)
  where
    all_parts : 4096 ≤ length g.parts
    all_parts = let a = ap length h.parts in let b = parts_long (planner_of j) in omega (arith, a, b)

    long : {a b : ℕ} → a ≤ 4096 → b ≡ 4096 → a ≤ b
    long h e = omega arith

    least : {b : ℕ} → b ≡ 1024 → 1024 ≤ b
    least e = omega arith
