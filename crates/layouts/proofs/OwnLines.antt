-- Copies that stand legally, as lines: what is judged of them, and their numbers read again. Assumes nothing.
use Rattle.std.specs.Prelude.{Some, None}
use Prim.Native.Nat.{ℕ, zero, suc, ◌+◌, ◌*◌, ◌/◌, ◌≤◌, ◌<◌}
use native.Mathlib.Nat.{le_refl}
use native.Mathlib.Omega.{arith}
use mathlib.Core.Path.{◌≡◌, refl, ap, ap₂, ◌∙◌}
use mathlib.Core.Bool.{true, false}
use mathlib.Core.List.{List, [], ◌∷◌, ◌++◌, map, flat_map, map-append}
use lib.ListN.{length, get_or, take, drop, length-map, length-take, take-append-drop}
use lib.Seq.{take-suc, take-take}
use lib.Dec.{ltb, eqb}
use lib.Ieee.{Float, binary64, to_bits}
use lib.Ieee.Bits.{of_bits-to_bits}
use lib.Ieee.Scale as Scale
use borrow.Author.Tests.{lt-ltb, ltb-true, eqb-true}
use Rattle.numbers.specs.Numbers.{double_of}
use Rattle.numbers.proofs.Truth.{is_true, both_first, both_second}
use Rattle.numbers.proofs.Doubles.{Number, finite, same}
use Rattle.numbers.proofs.Patterns.{plus-number}
use Rattle.index.specs.Buckets.{up_from}
use Rattle.kinds.specs.Kinds.{Kind}
use Rattle.frames.specs.declared.Frame.{Frame}
use Rattle.frames.specs.declared.Point.{Point}
use Rattle.frames.proofs.Turned.{back_and_there, from-number}
use Rattle.job.specs.Jobs.{Job, frame_of}
use Rattle.filling.specs.declared.State.{State}
use Rattle.filling.specs.Shapes.{Planner, Standing, moved_strips, copy_strips, standing_strips}
use Rattle.filling.specs.Order.{count_in, in_full, rearranged}
use Rattle.filling.specs.State.{orientation_counts, order_of, copy_at, stands_at, standing_to, standing_of}
use Rattle.filling.specs.Consistent.{every, orientation_fits, position_fits}
use Rattle.filling.specs.Leaf.{lacks}
use Rattle.filling.proofs.Reading.{kinds_many, row_exists, up_from_list}
use Rattle.filling.proofs.CountIn.{count_none, count-append}
use Rattle.filling.proofs.Stood.{Stands}
use Rattle.layouts.specs.declared.PutLine.{PutLine}
use Rattle.layouts.specs.Layouts.{line_at, lines_of, is_finite, value_of, place_of, line_strips, quantity_of}
use Rattle.layouts.specs.Legal.{line_named, places_legal}
use Rattle.layouts.specs.PlanLayout.{sheet_place, copy_numbers, layout_numbers}
use Rattle.layouts.proofs.Legal.{point_of, own_shape, LegalAt, LegalFrom}
use Rattle.layouts.proofs.Verdicts.{Strips}
use Rattle.layouts.proofs.Exact.{Few}

-- a standing copy, as a line
abbrev pub line_of : Frame → Standing → PutLine
line_of f c = record { kind = c.copy.kind; orientation = c.orientation; x = Some (sheet_place f c).x; y = Some (sheet_place f c).y }

-- ---- what is judged of it

module _ (p : Planner) (f : Frame) where
  place_is : (st : List Float) (c : Standing) → LegalAt p st c → place_of f (line_of f c) ≡ point_of c
  unfolding place_of value_of sheet_place
  place_is st c h = back_and_there f (point_of c) h.x_number h.y_number

  strips_are : (st : List Float) (c : Standing) → LegalAt p st c → line_strips p f (line_of f c) ≡ copy_strips p c
  unfolding line_strips copy_strips
  strips_are st c h = ap (λ (q : Point). moved_strips (own_shape p c).apart q.x q.y) (place_is st c h)

  pub own_places : (st : List Float) (cs : List Standing) → LegalFrom p st cs → places_legal p f st (map (line_of f) cs) ≡ true
  unfolding LegalFrom places_legal
  own_places st [] h = refl
  own_places st (c ∷ cs) h =
      rw (place_is st c h.0, h.0.range, h.0.clears, strips_are st c h.0, own_places (st ++ copy_strips p c) cs h.1)

  pub own_strips : (st : List Float) (cs : List Standing) → LegalFrom p st cs → Strips p f (map (line_of f) cs) ≡ standing_strips p cs
  unfolding LegalFrom standing_strips flat_map
  own_strips st [] h = refl
  own_strips st (c ∷ cs) h = ap₂ ◌++◌ (strips_are st c h.0) (own_strips (st ++ copy_strips p c) cs h.1)

-- the job has its kind and orientation
has_shape : (j : Job) (c : Standing) → Stands j c ≡ true → lacks j c.copy.kind c.orientation ≡ false
unfolding lacks orientation_fits
has_shape j c h =
    let k = c.copy.kind in
    let t = both_first (ltb c.orientation (get_or (orientation_counts j) k 0)) (position_fits c) h in
    let b = row_exists (orientation_counts j) k c.orientation (ltb-true c.orientation (get_or (orientation_counts j) k 0) t) in
    let m = kinds_many j in
    rw (lt-ltb k (length j.kinds) (omega arith), t)

pub own_named : (j : Job) (f : Frame) (cs : List Standing) → every (Stands j) cs ≡ true → every (line_named j) (map (line_of f) cs) ≡ true
unfolding every line_named is_finite
own_named j f [] h = refl
own_named j f (c ∷ cs) h =
    rw (has_shape j c (both_first (Stands j c) (every (Stands j) cs) h), own_named j f cs (both_second (Stands j c) (every (Stands j) cs) h))

-- ---- quantities

-- every kind stands in an order as often as its quantity
in_full_lem : (order : List ℕ) (i : ℕ) (ks : List Kind) → in_full i ks order ≡ true → (k : ℕ) → k < length ks
    → count_in (i + k) order ≡ get_or (map (λ a. a.quantity) ks) k 0
unfolding in_full
in_full_lem order i [] h k l = absurd (omega arith)
in_full_lem order i (a ∷ ks) h zero l =
    let z : i + 0 ≡ i = omega arith in
    ap (λ (n : ℕ). count_in n order) z ∙ eqb-true (count_in i order) a.quantity (both_first (eqb (count_in i order) a.quantity) (in_full (suc i) ks order) h)
in_full_lem order i (a ∷ ks) h (suc k) l =
    let z : i + suc k ≡ suc i + k = omega arith in
    ap (λ (n : ℕ). count_in n order) z
    ∙ in_full_lem order (suc i) ks (both_second (eqb (count_in i order) a.quantity) (in_full (suc i) ks order) h) k (omega arith)

count-take : (k n : ℕ) (l : List ℕ) → count_in k (take n l) ≤ count_in k l
count-take k n l =
    let e = ap (count_in k) (take-append-drop n l) in
    let f = count-append k (take n l) (drop n l) in
    omega arith

module _ (s : State) (f : Frame) (k : ℕ) where
  abbrev Kinds : List Standing → List ℕ
  Kinds cs = map (λ l. l.kind) (map (line_of f) cs)

  one-stands : (n o : ℕ) → count_in k (Kinds (stands_at s n o)) ≤ count_in k (get_or s.order n 0 ∷ [])
  unfolding stands_at copy_at
  one-stands n zero = let z = count_none k in omega arith
  one-stands n (suc o) = le_refl _

  count-standing : (n : ℕ) → n ≤ length s.order → count_in k (Kinds (standing_to s n)) ≤ count_in k (take n s.order)
  unfolding standing_to
  count-standing zero h = let z = count_none k in omega arith
  count-standing (suc n) h =
      let o = get_or s.layout.orientation n 0 in
      let a = count-standing n (omega arith) in
      let b = one-stands n o in
      let m : Kinds (standing_to s n ++ stands_at s n o) ≡ Kinds (standing_to s n) ++ Kinds (stands_at s n o) =
      ap (map (λ l. l.kind)) (map-append (line_of f) (standing_to s n) (stands_at s n o))
      ∙ map-append (λ (l : PutLine). l.kind) (map (line_of f) (standing_to s n)) (map (line_of f) (stands_at s n o)) in
      let c : count_in k (Kinds (standing_to s n ++ stands_at s n o)) ≡ count_in k (Kinds (standing_to s n)) + count_in k (Kinds (stands_at s n o)) =
      ap (count_in k) m ∙ count-append k (Kinds (standing_to s n)) (Kinds (stands_at s n o)) in
      let d = ap (count_in k) (take-suc s.order n 0 (omega arith)) in
      let e = count-append k (take n s.order) (get_or s.order n 0 ∷ []) in
      omega arith

-- no kind stands more often than its quantity
pub few_stand : (j : Job) (f : Frame) (s : State) → rearranged j (order_of j s) ≡ true → s.taken ≤ j.copies → Few j [] (map (line_of f) (standing_of s))
unfolding rearranged order_of standing_of quantity_of
few_stand j f s r t k l =
    let O = take j.copies s.order in
    let long : j.copies ≤ length s.order = (let x = eqb-true (length O) j.copies (both_first (eqb (length O) j.copies) (in_full 0 j.kinds O) r) in
    let y = length-take j.copies s.order in omega arith) in
    let full = in_full_lem O 0 j.kinds (both_second (eqb (length O) j.copies) (in_full 0 j.kinds O) r) k l in
    let z : 0 + k ≡ k = omega arith in
    let f1 = ap (λ (n : ℕ). count_in n O) z in
    let a = count-standing s f k s.taken (omega arith) in
    let b = count-take k s.taken O in
    let c = ap (count_in k) (take-take s.taken j.copies s.order t) in
    let n = count_none k in
    omega arith

-- ---- the list as numbers

-- a number's bits are read as the number
number_read : (x : Float) → Number x → double_of (to_bits binary64 x) ≡ Some x
unfolding double_of
number_read x X =
    let p = plus-number x (finite X) in
    rw (of_bits-to_bits binary64 x X.fit, is_true (Scale.finite x) X.is_finite, same p.0 X p.1)

module _ (f : Frame) where
  abbrev Numbers : List Standing → List ℕ
  Numbers cs = flat_map (copy_numbers f) cs

  numbers-long : (cs : List Standing) → length (Numbers cs) ≡ 4 * length cs
  unfolding flat_map copy_numbers
  numbers-long [] = refl
  numbers-long (c ∷ cs) = let e = numbers-long cs in omega arith

  line_read : (p : Planner) (st : List Float) (cs : List Standing) → LegalFrom p st cs → (i : ℕ) → i < length cs → (d : PutLine)
      → line_at (Numbers cs) i ≡ get_or (map (line_of f) cs) i d
  unfolding LegalFrom flat_map copy_numbers line_at
  line_read p st [] h i b d = absurd (omega arith)
  line_read p st (c ∷ cs) h zero b d =
      let n = from-number f (point_of c) (finite h.0.x_number) (finite h.0.y_number) in
      let nx : Number (sheet_place f c).x = unfold sheet_place in n.0 in
      let ny : Number (sheet_place f c).y = unfold sheet_place in n.1 in
      rw (number_read (sheet_place f c).x nx, number_read (sheet_place f c).y ny)
  line_read p st (c ∷ cs) h (suc i) b d =
      let e : 4 * suc i ≡ suc (suc (suc (suc (4 * i)))) = omega arith in
      let e1 : suc (suc (suc (suc (4 * i)))) + 1 ≡ suc (suc (suc (suc (4 * i + 1)))) = omega arith in
      let e2 : suc (suc (suc (suc (4 * i)))) + 2 ≡ suc (suc (suc (suc (4 * i + 2)))) = omega arith in
      let e3 : suc (suc (suc (suc (4 * i)))) + 3 ≡ suc (suc (suc (suc (4 * i + 3)))) = omega arith in
      rw (e, e1, e2, e3) (line_read p (st ++ copy_strips p c) cs h.1 i (omega arith) d)

-- the lines of a list of standing copies
pub lines_are : (j : Job) (p : Planner) (st : List Float) (cs : List Standing) → LegalFrom p st cs
    → lines_of (layout_numbers j cs) ≡ map (line_of (frame_of j.header)) cs
unfolding lines_of layout_numbers
lines_are j p st cs h =
    let f = frame_of j.header in
    let none : PutLine = record { kind = 0; orientation = 0; x = None; y = None } in
    let n : length (Numbers f cs) / 4 ≡ length cs = (let e = numbers-long f cs in omega arith) in
    ap (λ (m : ℕ). map (line_at (Numbers f cs)) (up_from m 0)) n
    ∙ up_from_list (line_at (Numbers f cs)) (map (line_of f) cs) (length cs) none (length-map cs (line_of f)) (λ i b. line_read f p st cs h i b none)
