-- The tests of the slots are the definition's: of every orientation its part, its shape and its track. Assumes nothing.
use Prim.Native.Nat.{ℕ, zero, suc, ◌+◌, ◌*◌, ◌<◌}
use native.Mathlib.Numerals.{add-one}
use native.Mathlib.Omega.{arith}
use mathlib.Core.Path.{◌≡◌, refl, sym, ap, ap₂, ◌∙◌}
use mathlib.Core.Bool.{Bool, true, false, ◌&&◌}
use mathlib.Core.List.{List, [], ◌∷◌, map}
use lib.ListN.{length, get_or, take, drop}
use lib.Dec.{leb, leb-suc-suc}
use lib.Ieee.{Float}
use borrow.Author.Tests.{le-leb}
use Rattle.trapezoid.specs.Strip.{capacity}
use Rattle.index.specs.Buckets.{up_from}
use Rattle.filling.specs.declared.Tables.{Tables}
use Rattle.filling.specs.Shapes.{Shape, Planner}
use Rattle.filling.specs.Search as Search
use Rattle.filling.specs.Search.{ranges_of, reversed_for}
use Rattle.filling.specs.State.{Part, slot_rows, remembered_of, track_at, apart_room, inset_room, shape_at}
use Rattle.filling.specs.State as States
use Rattle.filling.specs.Consistent.{every, shape_fits, part_fits, column_fits, track_fits, tracks_fit, track_table_fits}
use Rattle.search.specs.columns.inner.Stands.{columns_of}
use Rattle.search.proofs.columns.Same.{reversed-same, last-same}
use Rattle.choose.specs.inner.Choosing.{bounds_at, part_at}
use Rattle.consistent.specs.slot_tests.inner.Slots.{Slots, slots, part_test, last_for, track_test, shape_test, slot_test, kind_test, slots_test}

-- ---- one slot

column-same : (last n : ℕ) → leb n (last + 1) ≡ column_fits last (remembered_of n)
unfolding column_fits remembered_of
column-same last zero = le-leb 0 (last + 1) (omega arith)
column-same last (suc c) = ap (leb (suc c)) (add-one last) ∙ leb-suc-suc c last

pub track_same : (taken last : ℕ) (next looks : List ℕ) (i : ℕ) → track_test taken last (get_or next i 0) (get_or looks i 0) ≡ track_fits taken last (track_at next looks i)
unfolding track_test track_fits track_at
track_same taken last next looks i = ap₂ ◌&&◌ (column-same last (get_or next i 0)) (ap (λ n. leb (get_or looks i 0) (n + taken)) (add-one last))

last_is : (p : Planner) (s : Shape) → last_for (columns_of p.bounds s.bounds p.resolution) ≡ Search.last_of p s
unfolding last_for Search.last_of reversed_for ranges_of
last_is p s =
    ap₂ (λ (b : Bool) (n : ℕ). elim b [ true ↦ 0 | false ↦ n ]) (reversed-same p.bounds s.bounds p.resolution) (last-same p.bounds s.bounds p.resolution)

module _ (t : Tables) (room : List Float) (taken : ℕ) (next looks : List ℕ) (p : Planner) (eb : p.bounds ≡ t.sheet_bounds) (er : p.resolution ≡ t.resolution) where
  abbrev w : Slots
  w = slots t.sheet_bounds t.resolution taken t.inset_bounds t.parts (take (6 * t.apart_strips) room) (drop (6 * t.apart_strips) room) next looks

  abbrev parted : Part → Bool
  parted = part_fits (capacity (apart_room t room)) (capacity (inset_room t room))

  part_same : (i : ℕ) → part_test (capacity w.apart) (capacity w.inset) (part_at t.parts i) ≡ parted (States.part_at t.parts i)
  unfolding part_test part_fits part_at States.part_at apart_room inset_room
  part_same i = refl

  shape_same : (i : ℕ) → shape_test (part_at t.parts i) (bounds_at t.inset_bounds i) w.apart w.inset ≡ shape_fits (shape_at t room i)
  unfolding shape_test shape_fits shape_at part_at States.part_at bounds_at States.bounds_at apart_room inset_room
  shape_same i = refl

  bounds-same : (i : ℕ) → bounds_at t.inset_bounds i ≡ (shape_at t room i).bounds
  unfolding shape_at bounds_at States.bounds_at
  bounds-same i = refl

  pub last_of_slot : (i : ℕ) → last_for (columns_of t.sheet_bounds (bounds_at t.inset_bounds i) t.resolution) ≡ Search.last_of p (shape_at t room i)
  last_of_slot i =
      ap (λ b. last_for (columns_of t.sheet_bounds b t.resolution)) (bounds-same i)
      ∙ (ap₂ (λ b r. last_for (columns_of b (shape_at t room i).bounds r)) (sym eb) (sym er) ∙ last_is p (shape_at t room i))

  slot_same : (i : ℕ) → slot_test w i ≡ parted (States.part_at t.parts i) && (shape_fits (shape_at t room i) && track_fits taken (Search.last_of p (shape_at t room i)) (track_at next looks i))
  unfolding slot_test
  slot_same i =
      ap₂ ◌&&◌ (part_same i)
      (ap₂ ◌&&◌ (shape_same i) (ap (λ n. track_test taken n (get_or next i 0) (get_or looks i 0)) (last_of_slot i) ∙ track_same taken (Search.last_of p (shape_at t room i)) next looks i))

  -- ---- all of them

  shuffle : (a b c d e f : Bool) → (a && (b && c)) && (d && (e && f)) ≡ (a && d) && ((b && e) && (c && f))
  shuffle false b c d e f = refl
  shuffle true false c false e f = refl
  shuffle true false c true e f = refl
  shuffle true true false false e f = refl
  shuffle true true false true false f = refl
  shuffle true true false true true f = refl
  shuffle true true true d e f = refl

  row_same : (k n c : ℕ)
      → every (λ o. slot_test w (16 * k + o)) (up_from n c)
      ≡ every parted (map (λ o. States.part_at t.parts (16 * k + o)) (up_from n c))
      && (every shape_fits (map (λ o. shape_at t room (16 * k + o)) (up_from n c))
      && tracks_fit p taken (map (λ o. shape_at t room (16 * k + o)) (up_from n c)) (map (λ o. track_at next looks (16 * k + o)) (up_from n c)))
  unfolding every up_from tracks_fit
  row_same k zero c = refl
  row_same k (suc n) c =
      ap₂ ◌&&◌ (slot_same (16 * k + c)) (row_same k n (suc c))
      ∙ shuffle (parted (States.part_at t.parts (16 * k + c))) (shape_fits (shape_at t room (16 * k + c))) (track_fits taken (Search.last_of p (shape_at t room (16 * k + c))) (track_at next looks (16 * k + c)))
      (every parted (map (λ o. States.part_at t.parts (16 * k + o)) (up_from n (suc c))))
      (every shape_fits (map (λ o. shape_at t room (16 * k + o)) (up_from n (suc c))))
      (tracks_fit p taken (map (λ o. shape_at t room (16 * k + o)) (up_from n (suc c))) (map (λ o. track_at next looks (16 * k + o)) (up_from n (suc c))))

  rows_same : (rows : List ℕ) (k : ℕ) (ns : List ℕ) → ((i : ℕ) → i < length ns → get_or ns i 0 ≡ get_or rows (4 * (k + i) + 3) 0)
      → every (λ q. kind_test w (16 * q) (get_or rows (4 * q + 3) 0)) (up_from (length ns) k)
      ≡ every (every parted) (slot_rows (States.part_at t.parts) k ns)
      && (every (every shape_fits) (slot_rows (shape_at t room) k ns)
      && track_table_fits p taken (slot_rows (shape_at t room) k ns) (slot_rows (track_at next looks) k ns))
  unfolding every up_from slot_rows track_table_fits kind_test
  rows_same rows k [] h = refl
  rows_same rows k (n ∷ ns) h =
      let e : 4 * (k + 0) + 3 ≡ 4 * k + 3 = omega arith in
      ap₂ ◌&&◌
      (ap (λ m. every (λ o. slot_test w (16 * k + o)) (up_from m 0)) (sym (h 0 (omega arith) ∙ ap (λ i. get_or rows i 0) e)) ∙ row_same k n 0)
      (rows_same rows (suc k) ns (λ i l. let d : 4 * (k + suc i) + 3 ≡ 4 * (suc k + i) + 3 = omega arith in h (suc i) (omega arith) ∙ ap (λ m. get_or rows m 0) d))
      ∙ shuffle (every parted (map (λ o. States.part_at t.parts (16 * k + o)) (up_from n 0)))
      (every shape_fits (map (λ o. shape_at t room (16 * k + o)) (up_from n 0)))
      (tracks_fit p taken (map (λ o. shape_at t room (16 * k + o)) (up_from n 0)) (map (λ o. track_at next looks (16 * k + o)) (up_from n 0)))
      (every (every parted) (slot_rows (States.part_at t.parts) (suc k) ns))
      (every (every shape_fits) (slot_rows (shape_at t room) (suc k) ns))
      (track_table_fits p taken (slot_rows (shape_at t room) (suc k) ns) (slot_rows (track_at next looks) (suc k) ns))

  pub slots_same : (rows : List ℕ) (ns : List ℕ) → ((i : ℕ) → i < length ns → get_or ns i 0 ≡ get_or rows (4 * i + 3) 0)
      → slots_test w rows (length ns)
      ≡ every (every (part_fits (capacity (apart_room t room)) (capacity (inset_room t room)))) (slot_rows (States.part_at t.parts) 0 ns)
      && (every (every shape_fits) (slot_rows (shape_at t room) 0 ns)
      && track_table_fits p taken (slot_rows (shape_at t room) 0 ns) (slot_rows (track_at next looks) 0 ns))
  unfolding slots_test
  slots_same rows ns h = rows_same rows 0 ns (λ i l. let e : 4 * i + 3 ≡ 4 * (0 + i) + 3 = omega arith in h i l ∙ ap (λ m. get_or rows m 0) e)
