-- Both passes and the bounds together are the shapes by slot. Assumes nothing.
use Rattle.std.specs.Prelude.{Option, Some, None}
use mathlib.Core.Path.{◌≡◌, refl, sym, ap, ap₂, subst, ◌∙◌}
use mathlib.Core.List.{List, [], ◌∷◌, ◌++◌, map, flat_map, append-nil, append_assoc}
use Prim.Native.Nat.{ℕ, zero, suc, ◌+◌, ◌*◌, ◌/◌, ◌%◌, ◌≤◌, ◌<◌}
use native.Mathlib.Omega.{arith}
use lib.ListN.{length, get_or, length-append, length-map}
use lib.Seq.{ext_get_or}
use lib.Ieee.{Float, nan}
use Rattle.trapezoid.specs.declared.Trapezoid.{Trapezoid}
use Rattle.trapezoid.specs.Strip.{flat, capacity}
use Rattle.index.specs.Buckets.{up_from}
use Rattle.strips.specs.declared.Rect.{Rect}
use Rattle.strips.specs.inner.Tables as Tables
use Rattle.filling.specs.Shapes.{Shape, no_shape}
use Rattle.filling.specs.Rooms.{laid}
use Rattle.filling.specs.State.{by_slot, Part, flat_parts, part_at, flat_bounds, bounds_at}
use Rattle.filling.specs.Start.{parts_from}
use Rattle.filling.proofs.Reading.{flat_append, get_d_by_slot, length-by_slot, bounds_slot, length-bounds}
use Rattle.filling.proofs.WithinBoundsStrips.{capacity-flat}
use Rattle.shapes.proofs.set_strips.ReadSets.{laid-first}
use Rattle.frames.specs.declared.Frame.{Frame}
use Rattle.shapes.specs.slots.inner.Slots.{slot_strips, slot_bounds, slot_of, strips_to, Column, SlotsLaid, BoundsTo}
use Rattle.shapes.specs.inner.ShapeRooms.{ShapesAre}
use Rattle.shapes.proofs.slots.SlotWalk.{length-laid, laid_on}

-- ---- lists of four numbers to a slot

four_ext : {A : Type 0} (d : A) (n : ℕ) (xs ys : List A) → length xs ≡ 4 * n → length ys ≡ 4 * n
    → ((q : ℕ) → q < n → get_or xs (4 * q) d ≡ get_or ys (4 * q) d) → ((q : ℕ) → q < n → get_or xs (4 * q + 1) d ≡ get_or ys (4 * q + 1) d)
    → ((q : ℕ) → q < n → get_or xs (4 * q + 2) d ≡ get_or ys (4 * q + 2) d) → ((q : ℕ) → q < n → get_or xs (4 * q + 3) d ≡ get_or ys (4 * q + 3) d)
    → xs ≡ ys
four_ext {A = A} d n xs ys a b h0 h1 h2 h3 = ext_get_or d xs ys (a ∙ sym b) (λ i l. at i (i / 4) (i % 4) (omega arith) (omega arith) (omega arith))
  where
    here : (i j : ℕ) → i ≡ j → get_or xs j d ≡ get_or ys j d → get_or xs i d ≡ get_or ys i d
    here i j e h = subst (λ (k : ℕ). get_or xs k d ≡ get_or ys k d) (sym e) h

    at : (i q r : ℕ) → i ≡ 4 * q + r → q < n → r < 4 → get_or xs i d ≡ get_or ys i d
    at i q zero e h l = here i (4 * q) (omega arith) (h0 q h)
    at i q (suc zero) e h l = here i (4 * q + 1) (omega arith) (h1 q h)
    at i q (suc (suc zero)) e h l = here i (4 * q + 2) (omega arith) (h2 q h)
    at i q (suc (suc (suc zero))) e h l = here i (4 * q + 3) (omega arith) (h3 q h)
    at i q (suc (suc (suc (suc r)))) e h l = absurd (omega arith)

flat-parts-length : (ss : List Shape) (a b : ℕ) → length (flat_parts (parts_from a b ss)) ≡ 4 * length ss
unfolding flat_parts parts_from
flat-parts-length [] a b = refl
flat-parts-length (s ∷ ss) a b = let l = flat-parts-length ss (a + capacity s.apart) (b + capacity s.inset) in omega arith

part_tail : (a m b n : ℕ) (ps : List ℕ) (q : ℕ) → part_at (a ∷ m ∷ b ∷ n ∷ ps) (suc q) ≡ part_at ps q
unfolding part_at
part_tail a m b n ps q =
    let e : 4 * suc q ≡ suc (suc (suc (suc (4 * q)))) = omega arith in
    let e1 : suc (suc (suc (suc (4 * q)))) + 1 ≡ suc (suc (suc (suc (4 * q + 1)))) = omega arith in
    let e2 : suc (suc (suc (suc (4 * q)))) + 2 ≡ suc (suc (suc (suc (4 * q + 2)))) = omega arith in
    let e3 : suc (suc (suc (suc (4 * q)))) + 3 ≡ suc (suc (suc (suc (4 * q + 3)))) = omega arith in
    rw (e, e1, e2, e3)

-- ---- the strips of all slots

module _ (h : Shape → List Float) (f : ℕ → List Trapezoid) (s : ℕ → Shape) (is : (i : ℕ) → h (s i) ≡ flat (f i)) where
  strips-suc : (c : ℕ) → flat (strips_to f (suc c)) ≡ flat (strips_to f c) ++ flat (f c)
  unfolding strips_to
  strips-suc c = flat_append (strips_to f c) (f c)

  strips-from : (n c : ℕ) → flat (strips_to f c) ++ flat_map h (map s (up_from n c)) ≡ flat (strips_to f (c + n))
  unfolding up_from flat_map
  strips-from zero c = let e : c ≡ c + 0 = omega arith in append-nil (flat (strips_to f c)) ∙ ap (λ (k : ℕ). flat (strips_to f k)) e
  strips-from (suc n) c =
      let e : suc c + n ≡ c + suc n = omega arith in
      sym (append_assoc (flat (strips_to f c)) (h (s c)) (flat_map h (map s (up_from n (suc c)))))
      ∙ ap (λ (l : List Float). l ++ flat_map h (map s (up_from n (suc c)))) (ap (λ (l : List Float). flat (strips_to f c) ++ l) (is c) ∙ sym (strips-suc c))
      ∙ strips-from n (suc c)
      ∙ ap (λ (k : ℕ). flat (strips_to f k)) e

  strips_by_slot : flat_map h (by_slot s) ≡ flat (strips_to f 1024)
  unfolding by_slot strips_to flat
  strips_by_slot = strips-from 1024 0

  length-suc : (c : ℕ) → length (strips_to f (suc c)) ≡ length (strips_to f c) + capacity (h (s c))
  unfolding strips_to
  length-suc c = length-append (strips_to f c) (f c) ∙ ap (λ (k : ℕ). length (strips_to f c) + k) (sym (capacity-flat (f c)) ∙ sym (ap capacity (is c)))

-- ---- parts and bounds

module _ (f g : ℕ → List Trapezoid) (b : ℕ → Rect) (s : ℕ → Shape) (fs : (i : ℕ) → (s i).apart ≡ flat (f i)) (gs : (i : ℕ) → (s i).inset ≡ flat (g i))
    (bs : (i : ℕ) → (s i).bounds ≡ b i) where
  slot : (q : ℕ) → q < 1024 → get_or (by_slot s) q no_shape ≡ s q
  slot q h = get_d_by_slot s q no_shape h

  in_slots : (q : ℕ) → q < 1024 → q < length (by_slot s)
  in_slots q h = let l = length-by_slot s in omega arith

  abbrev wanted : ℕ → Part
  wanted q = record { apart_start = length (strips_to f q); apart_count = length (f q); inset_start = length (strips_to g q); inset_count = length (g q) }

  first_wanted : (c : ℕ) → record {
    apart_start = length (strips_to f c);
    apart_count = capacity (s c).apart;
    inset_start = length (strips_to g c);
    inset_count = capacity (s c).inset;
  } ≡ wanted c
  first_wanted c = rw (ap capacity (fs c) ∙ capacity-flat (f c), ap capacity (gs c) ∙ capacity-flat (g c))

  part-from : (n c q : ℕ) → q < n → part_at (flat_parts (parts_from (length (strips_to f c)) (length (strips_to g c)) (map s (up_from n c)))) q ≡ wanted (c + q)
  unfolding up_from parts_from flat_parts part_at
  part-from zero c q h = absurd (omega arith)
  part-from (suc n) c zero h = first_wanted c ∙ ap wanted (omega arith)
  part-from (suc n) c (suc q) h =
      let e : suc c + q ≡ c + suc q = omega arith in
      part_tail (length (strips_to f c)) (capacity (s c).apart) (length (strips_to g c)) (capacity (s c).inset)
      (flat_parts (parts_from (length (strips_to f c) + capacity (s c).apart) (length (strips_to g c) + capacity (s c).inset) (map s (up_from n (suc c))))) q
      ∙ ap₂ (λ (x y : ℕ). part_at (flat_parts (parts_from x y (map s (up_from n (suc c))))) q) (sym (length-suc (λ t. t.apart) f s fs c))
      (sym (length-suc (λ t. t.inset) g s gs c))
      ∙ part-from n (suc c) q (omega arith)
      ∙ ap wanted e

  part_is : (q : ℕ) → q < 1024 → part_at (flat_parts (parts_from 0 0 (by_slot s))) q ≡ wanted q
  unfolding by_slot strips_to
  part_is q h = part-from 1024 0 q h ∙ ap wanted (omega arith)

  module _ (parts₀ parts₁ parts : List ℕ) (C : Column 0 f 1024 parts₀ parts₁) (D : Column 1 g 1024 parts₁ parts) where
    first : (q : ℕ) → q < 1024 → get_or parts (4 * q) 0 ≡ length (strips_to f q)
    first q h =
        let e : 4 * q + 0 ≡ 4 * q = omega arith in
        let z : get_or parts (4 * q) 0 ≡ get_or parts₁ (4 * q) 0 = subst (λ (k : ℕ). get_or parts k 0 ≡ get_or parts₁ k 0) e
        (D.other q 0 (omega arith) (λ x. omega arith) (λ x. omega arith)) in
        z ∙ subst (λ (k : ℕ). get_or parts₁ k 0 ≡ length (strips_to f q)) e (C.start q h)

    second : (q : ℕ) → q < 1024 → get_or parts (4 * q + 1) 0 ≡ length (f q)
    second q h =
        let e : 4 * q + 0 + 1 ≡ 4 * q + 1 = omega arith in
        D.other q 1 (omega arith) (λ x. omega arith) (λ x. omega arith) ∙ subst (λ (k : ℕ). get_or parts₁ k 0 ≡ length (f q)) e (C.count q h)

    third : (q : ℕ) → q < 1024 → get_or parts (4 * q + 2) 0 ≡ length (strips_to g q)
    third q h = D.start q h

    fourth : (q : ℕ) → q < 1024 → get_or parts (4 * q + 3) 0 ≡ length (g q)
    fourth q h = let e : 4 * q + 2 + 1 ≡ 4 * q + 3 = omega arith in subst (λ (k : ℕ). get_or parts k 0 ≡ length (g q)) e (D.count q h)

    parts_are : length parts ≡ 4096 → parts ≡ flat_parts (parts_from 0 0 (by_slot s))
    unfolding part_at
    parts_are l =
        let m = length-by_slot s in
        let k = flat-parts-length (by_slot s) 0 0 in
        four_ext 0 1024 parts (flat_parts (parts_from 0 0 (by_slot s))) l (omega arith)
        (λ q h. first q h ∙ sym (ap (λ (p : Part). p.apart_start) (part_is q h)))
        (λ q h. second q h ∙ sym (ap (λ (p : Part). p.apart_count) (part_is q h)))
        (λ q h. third q h ∙ sym (ap (λ (p : Part). p.inset_start) (part_is q h)))
        (λ q h. fourth q h ∙ sym (ap (λ (p : Part). p.inset_count) (part_is q h)))

  bounds_is : (q : ℕ) → q < 1024 → bounds_at (flat_bounds (map (λ t. t.bounds) (by_slot s))) q ≡ b q
  bounds_is q h = bounds_slot (by_slot s) q (in_slots q h) ∙ ap (λ t. t.bounds) (slot q h) ∙ bs q

  bounds_are : (old new : List Float) → BoundsTo b 1024 old new → length new ≡ 4096 → new ≡ flat_bounds (map (λ t. t.bounds) (by_slot s))
  unfolding bounds_at
  bounds_are old new B l =
      let m = length-by_slot s in
      let n = length-map (by_slot s) (λ t. t.bounds) in
      let k = length-bounds (map (λ t. t.bounds) (by_slot s)) in
      four_ext nan 1024 new (flat_bounds (map (λ t. t.bounds) (by_slot s))) l (omega arith)
      (λ q h. ap (λ (r : Rect). r.left) (B.here q h ∙ sym (bounds_is q h)))
      (λ q h. ap (λ (r : Rect). r.bottom) (B.here q h ∙ sym (bounds_is q h)))
      (λ q h. ap (λ (r : Rect). r.right) (B.here q h ∙ sym (bounds_is q h)))
      (λ q h. ap (λ (r : Rect). r.top) (B.here q h ∙ sym (bounds_is q h)))

  -- ---- the room

  both : flat_map (λ t. t.apart) (by_slot s) ++ flat_map (λ t. t.inset) (by_slot s) ≡ flat (strips_to f 1024 ++ strips_to g 1024)
  both =
      ap₂ ◌++◌ (strips_by_slot (λ t. t.apart) f s fs) (strips_by_slot (λ t. t.inset) g s gs)
      ∙ sym (flat_append (strips_to f 1024) (strips_to g 1024))

  both-number : capacity (flat_map (λ t. t.apart) (by_slot s) ++ flat_map (λ t. t.inset) (by_slot s)) ≡ length (strips_to f 1024) + length (strips_to g 1024)
  both-number = ap capacity both ∙ capacity-flat (strips_to f 1024 ++ strips_to g 1024) ∙ length-append (strips_to f 1024) (strips_to g 1024)

  module _ (shapes₀ shapes₁ shapes bounds₀ bounds : List Float) (parts₀ parts₁ parts : List ℕ) (m n : ℕ) where
    pub all_laid : SlotsLaid (Some m) 0 f 1024 0 shapes₀ shapes₁ parts₀ parts₁ → SlotsLaid (Some n) 1 g 1024 m shapes₁ shapes parts₁ parts →
        BoundsTo b 1024 bounds₀ bounds
        → length parts ≡ 4096 → length bounds ≡ 4096 → ShapesAre (Some (m, n)) (by_slot s) shapes₀ shapes bounds parts
    unfolding capacity
    all_laid P Q B k l =
        let x = ap capacity (strips_by_slot (λ t. t.apart) f s fs) ∙ capacity-flat (strips_to f 1024) in
        let y = ap capacity (strips_by_slot (λ t. t.inset) g s gs) ∙ capacity-flat (strips_to g 1024) in
        let z = both-number in
        let v : length shapes₁ ≡ length shapes₀ = ap length P.2 ∙ length-laid (strips_to f 1024) shapes₀ 0 (omega (arith, P.0, P.1)) in
        let c : m ≡ 0 + length (strips_to f 1024) = omega (arith, P.0) in
        let w : shapes ≡ Tables.strips_laid (strips_to f 1024 ++ strips_to g 1024) shapes₀ 0 = Q.2 ∙ ap₂
        (λ (r : List Float) (k : ℕ). Tables.strips_laid (strips_to g 1024) r k) P.2 c ∙ laid_on (strips_to f 1024) (strips_to g 1024) shapes₀ 0
        (omega (arith, P.0, P.1)) in (
          P.0 ∙ sym x,
          Q.0 ∙ sym y,
          omega (arith, z, P.0, Q.0, Q.1, v),
          w ∙ laid-first (strips_to f 1024 ++ strips_to g 1024) shapes₀ ∙ ap (λ (l : List Float). laid l shapes₀) (sym both),
          bounds_are bounds₀ bounds B l,
          parts_are parts₀ parts₁ parts P.3 Q.3 k,
        )

    pub first_over : SlotsLaid None 0 f 1024 0 shapes₀ shapes₁ parts₀ parts₁ → ShapesAre None (by_slot s) shapes₀ shapes bounds parts
    first_over P = let z = both-number in omega (arith, z, P)

    pub second_over : SlotsLaid (Some m) 0 f 1024 0 shapes₀ shapes₁ parts₀ parts₁ → SlotsLaid None 1 g 1024 m shapes₁ shapes parts₁ parts →
        ShapesAre None (by_slot s) shapes₀ shapes bounds parts
    unfolding capacity
    second_over P Q =
        let z = both-number in
        let v : length shapes₁ ≡ length shapes₀ = ap length P.2 ∙ length-laid (strips_to f 1024) shapes₀ 0 (omega (arith, P.0, P.1)) in
        omega (arith, z, P.0, Q, v)

-- ---- what the calls leave

module _ (f : Frame) (bytes rows places : List ℕ) (kinds : ℕ) (shapes₀ shapes₁ : List Float) (parts₀ parts₁ : List ℕ) (r : Option ℕ) where
  abbrev FirstPass : Type 0
  FirstPass = SlotsLaid r 0 (slot_strips f bytes rows places kinds 0) 1024 0 shapes₀ shapes₁ parts₀ parts₁

  told : (t : Option ℕ) → FirstPass → r ≡ t → SlotsLaid t 0 (slot_strips f bytes rows places kinds 0) 1024 0 shapes₀ shapes₁ parts₀ parts₁
  told t P e = subst (λ (x : Option ℕ). SlotsLaid x 0 (slot_strips f bytes rows places kinds 0) 1024 0 shapes₀ shapes₁ parts₀ parts₁) e P

  pub first_fits : (m : ℕ) → FirstPass → r ≡ Some m → 6 * m ≤ length shapes₀
  first_fits m P e = let p = told (Some m) P e in omega (arith, p.1)

  module _ (shapes bounds : List Float) (parts : List ℕ) where
    pub none-laid : FirstPass → r ≡ None → ShapesAre None (by_slot (slot_of f bytes rows places kinds)) shapes₀ shapes bounds parts
    unfolding slot_of
    none-laid P e =
        first_over (slot_strips f bytes rows places kinds 0) (slot_strips f bytes rows places kinds 1) (slot_bounds f bytes rows places kinds)
        (slot_of f bytes rows places kinds) (λ i. refl) (λ i. refl) (λ i. refl) shapes₀ shapes₁ shapes bounds bounds parts₀ parts₁ parts 0 0
        (told None P e)

    module _ (m : ℕ) (P : FirstPass) (e : r ≡ Some m) (t : Option ℕ) (Q : SlotsLaid t 1 (slot_strips f bytes rows places kinds 1) 1024 m shapes₁ shapes
        parts₁ parts) where
      pub some-laid : t ≡ None → ShapesAre None (by_slot (slot_of f bytes rows places kinds)) shapes₀ shapes bounds parts
      unfolding slot_of
      some-laid d =
          second_over (slot_strips f bytes rows places kinds 0) (slot_strips f bytes rows places kinds 1) (slot_bounds f bytes rows places kinds)
          (slot_of f bytes rows places kinds) (λ i. refl) (λ i. refl) (λ i. refl) shapes₀ shapes₁ shapes bounds bounds parts₀ parts₁ parts m 0
          (told (Some m) P e)
          (subst (λ (x : Option ℕ). SlotsLaid x 1 (slot_strips f bytes rows places kinds 1) 1024 m shapes₁ shapes parts₁ parts) d Q)

      pub both-laid : (n : ℕ) (bounds₀ : List Float) → t ≡ Some n → BoundsTo (slot_bounds f bytes rows places kinds) 1024 bounds₀ bounds → length parts ≡
          4096 → length bounds ≡ 4096
          → ShapesAre (Some (m, n)) (by_slot (slot_of f bytes rows places kinds)) shapes₀ shapes bounds parts
      unfolding slot_of
      both-laid n bounds₀ d B k l =
          all_laid (slot_strips f bytes rows places kinds 0) (slot_strips f bytes rows places kinds 1) (slot_bounds f bytes rows places kinds)
          (slot_of f bytes rows places kinds) (λ i. refl) (λ i. refl) (λ i. refl) shapes₀ shapes₁ shapes bounds₀ bounds parts₀ parts₁ parts m n
          (told (Some m) P e)
          (subst (λ (x : Option ℕ). SlotsLaid x 1 (slot_strips f bytes rows places kinds 1) 1024 m shapes₁ shapes parts₁ parts) d Q)
          B k l
