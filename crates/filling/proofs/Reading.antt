-- What was laid into a room or a table by slot is read out again. Assumes nothing.
use mathlib.Core.Path.{◌≡◌, refl, sym, ap, ap₂, ◌∙◌}
use mathlib.Core.Logic.{◌⊎◌, inl, inr, ◌≢◌}
use mathlib.Core.Bool.{Bool, true}
use mathlib.Core.List.{List, [], ◌∷◌, ◌++◌, map, flat_map, append_assoc}
use Prim.Native.Nat.{ℕ, zero, suc, ◌+◌, ◌*◌, ◌/◌, ◌%◌, ◌≤◌, ◌<◌, min}
use native.Mathlib.Omega.{arith}
use lib.ListN.{length, get_or, set, take, drop, replicate, length-append, length-map, length-set, length-drop, length-replicate, get_or-map}
use lib.Seq.{sets, take_at, drop_at, ext_get_or, get_or-set_same, get_or-set_other}
use lib.Arith.{digits_div, digits_mod}
use lib.Dec.{leb}
use lib.Ieee.{Float}
use borrow.Author.Tests.{le-leb}
use Rattle.trapezoid.specs.declared.Trapezoid.{Trapezoid}
use Rattle.trapezoid.specs.Strip.{flat, capacity, part_of}
use Rattle.index.specs.Buckets.{up_from, strip_numbers, standing_capacity}
use Rattle.index.proofs.Flat.{length-up_from, get_d_up_from}
use Rattle.index.proofs.FirstBuckets.{length_firsts}
use Rattle.strips.specs.declared.Rect.{Rect}
use Rattle.job.specs.Jobs.{Job}
use Rattle.filling.specs.Shapes.{Shape, no_shape, Copy, copies_from}
use Rattle.filling.specs.Rooms.{laid, zeros}
use Rattle.filling.specs.State.{by_slot, slot_rows, Part, flat_parts, part_at, flat_bounds, bounds_at, order_of, orientation_counts}
use Rattle.filling.specs.Consistent.{every, sheet_index, firsts_for}
use Rattle.filling.specs.Start.{parts_from}
use Rattle.filling.specs.declared.State.{State}

-- ---- rooms

pub length-laid : {A : Type 0} (xs room : List A) → length xs ≤ length room → length (laid xs room) ≡ length room
unfolding laid
length-laid xs room h = let l = length-drop (length xs) room in simp length-append (omega arith)

pub laid-long : {A : Type 0} (xs room : List A) → length xs ≤ length (laid xs room)
unfolding laid
laid-long xs room = simp length-append (omega arith)

pub length-zeros : {A : Type 0} (z : A) (room : List A) → length (zeros z room) ≡ length room
unfolding zeros
length-zeros z room = length-replicate (length room) z

pub zeros-same : {A : Type 0} (z : A) (xs ys : List A) → length xs ≡ length ys → zeros z xs ≡ zeros z ys
unfolding zeros
zeros-same z xs ys e = ap (λ (n : ℕ). replicate n z) e

pub take-laid : {A : Type 0} (xs room : List A) (n : ℕ) → length xs ≡ n → take n (laid xs room) ≡ xs
unfolding laid
take-laid xs room n e = take_at xs (drop (length xs) room) n e

-- ---- strips: six numbers each

abbrev pub Sixfold : List Float → Type 0
Sixfold xs = length xs ≡ 6 * capacity xs

pub sixfold_of : (n : ℕ) (xs : List Float) → length xs ≡ 6 * n → Sixfold xs
unfolding capacity
sixfold_of n xs e = omega arith

pub sixfold_nil : Sixfold []
unfolding capacity
sixfold_nil = refl

pub sixfold_append : (xs ys : List Float) → Sixfold xs → Sixfold ys → Sixfold (xs ++ ys)
unfolding capacity
sixfold_append xs ys a b = let l = length-append xs ys in omega arith

pub capacity_append : (xs ys : List Float) → Sixfold xs → Sixfold ys → capacity (xs ++ ys) ≡ capacity xs + capacity ys
unfolding capacity
capacity_append xs ys a b = let l = length-append xs ys in omega arith

-- as many bucket numbers as strips
pub length-firsts_for : (b : Rect) (strips : List Float) → length (firsts_for b strips) ≡ capacity strips
unfolding firsts_for
length-firsts_for b strips = length_firsts (sheet_index b) strips (capacity strips)

-- strips laid with their numbers, where they fit: their rooms are used for as many as before
pub laid-capacity : (b : Rect) (l room : List Float) (firsts : List ℕ) → Sixfold l → capacity l ≤ standing_capacity room firsts
    → standing_capacity (laid l room) (laid (firsts_for b l) firsts) ≡ standing_capacity room firsts
unfolding standing_capacity capacity
laid-capacity b l room firsts q h =
    let c : length l / 6 ≤ min (min (length room / 6) (length firsts)) strip_numbers = h in
    let e : length (firsts_for b l) ≡ length l / 6 = length-firsts_for b l in
    ap₂ (λ (u v : ℕ). min (min (u / 6) v) strip_numbers) (length-laid l room (omega arith)) (length-laid (firsts_for b l) firsts (omega arith))

pub length-flat : (l : List Trapezoid) → length (flat l) ≡ 6 * length l
unfolding flat
length-flat [] = refl
length-flat (a ∷ l) = let e = length-flat l in omega arith

pub flat_append : (ss ts : List Trapezoid) → flat (ss ++ ts) ≡ flat ss ++ flat ts
unfolding flat
flat_append [] ts = refl
flat_append (s ∷ ss) ts = ap (λ (l : List Float). s.x0 ∷ s.x1 ∷ s.low0 ∷ s.low1 ∷ s.high0 ∷ s.high1 ∷ l) (flat_append ss ts)

pub sixfold_flat : (l : List Trapezoid) → Sixfold (flat l)
sixfold_flat l = sixfold_of (length l) (flat l) (length-flat l)

-- ---- bounds: four numbers each

pub length-bounds : (bs : List Rect) → length (flat_bounds bs) ≡ 4 * length bs
unfolding flat_bounds
length-bounds [] = refl
length-bounds (b ∷ bs) = let e = length-bounds bs in omega arith

-- ---- kinds

pub kinds_many : (j : Job) → length (orientation_counts j) ≡ length j.kinds
unfolding orientation_counts
kinds_many j = length-map j.kinds (λ k. length k.orientations)

-- ---- by slot

module _ {A : Type 0} where
  pub get_d_by_slot : (f : ℕ → A) (i : ℕ) (d : A) → i < 1024 → get_or (by_slot f) i d ≡ f i
  unfolding by_slot
  get_d_by_slot f i d h = get_d_up_from f 1024 0 i d h ∙ ap f (omega arith)

  pub length-by_slot : (f : ℕ → A) → length (by_slot f) ≡ 1024
  unfolding by_slot
  length-by_slot f = length-map (up_from 1024 0) f ∙ length-up_from 1024 0

  pub up_from-same : (f g : ℕ → A) (n c : ℕ) → ((i : ℕ) → c ≤ i → i < c + n → f i ≡ g i) → map f (up_from n c) ≡ map g (up_from n c)
  unfolding up_from
  up_from-same f g zero c h = refl
  up_from-same f g (suc n) c h = ap₂ ◌∷◌ (h c (omega arith) (omega arith)) (up_from-same f g n (suc c) (λ i a b. h i (omega arith) (omega arith)))

  pub up_from_list : (f : ℕ → A) (r : List A) (n : ℕ) (d : A) → length r ≡ n → ((o : ℕ) → o < n → f o ≡ get_or r o d) → map f (up_from n 0) ≡ r
  up_from_list f r n d e h =
      ext_get_or d (map f (up_from n 0)) r l
      (λ i k. let b : i < n = simp (length-map, length-up_from) at k in get_d_up_from f n 0 i d b ∙ ap f (omega arith) ∙ h i b)
    where
      l : length (map f (up_from n 0)) ≡ length r
      l = length-map (up_from n 0) f ∙ length-up_from n 0 ∙ sym e

-- ---- four numbers to a slot

parts_at : (qs : List Part) (i : ℕ) (d : Part) → i < length qs → part_at (flat_parts qs) i ≡ get_or qs i d
unfolding part_at flat_parts
parts_at [] i d h = absurd (omega arith)
parts_at (q ∷ qs) zero d h = refl
parts_at (q ∷ qs) (suc i) d h =
    let e : 4 * suc i ≡ suc (suc (suc (suc (4 * i)))) = omega arith in
    let e1 : suc (suc (suc (suc (4 * i)))) + 1 ≡ suc (suc (suc (suc (4 * i + 1)))) = omega arith in
    let e2 : suc (suc (suc (suc (4 * i)))) + 2 ≡ suc (suc (suc (suc (4 * i + 2)))) = omega arith in
    let e3 : suc (suc (suc (suc (4 * i)))) + 3 ≡ suc (suc (suc (suc (4 * i + 3)))) = omega arith in
    rw (e, e1, e2, e3) (parts_at qs i d (omega arith))

bounds_at_lem : (bs : List Rect) (i : ℕ) (d : Rect) → i < length bs → bounds_at (flat_bounds bs) i ≡ get_or bs i d
unfolding bounds_at flat_bounds
bounds_at_lem [] i d h = absurd (omega arith)
bounds_at_lem (b ∷ bs) zero d h = refl
bounds_at_lem (b ∷ bs) (suc i) d h =
    let e : 4 * suc i ≡ suc (suc (suc (suc (4 * i)))) = omega arith in
    let e1 : suc (suc (suc (suc (4 * i)))) + 1 ≡ suc (suc (suc (suc (4 * i + 1)))) = omega arith in
    let e2 : suc (suc (suc (suc (4 * i)))) + 2 ≡ suc (suc (suc (suc (4 * i + 2)))) = omega arith in
    let e3 : suc (suc (suc (suc (4 * i)))) + 3 ≡ suc (suc (suc (suc (4 * i + 3)))) = omega arith in
    rw (e, e1, e2, e3) (bounds_at_lem bs i d (omega arith))

pub bounds_slot : (ss : List Shape) (i : ℕ) → i < length ss → bounds_at (flat_bounds (map (λ s. s.bounds) ss)) i ≡ (get_or ss i no_shape).bounds
bounds_slot ss i h =
    let l = length-map ss (λ s. s.bounds) in
    bounds_at_lem (map (λ s. s.bounds) ss) i no_shape.bounds (omega arith) ∙ get_or-map (λ s. s.bounds) ss i no_shape

-- ---- parts of a room, one after another

module _ (f : Shape → List Float) where
  -- where the i-th begins
  pub starts : ℕ → List Shape → ℕ → ℕ
  starts a [] i = a
  starts a (s ∷ ss) zero = a
  starts a (s ∷ ss) (suc i) = starts (a + capacity (f s)) ss i

  abbrev pub AllSixfold : List Shape → Type 0
  AllSixfold ss = (i : ℕ) → i < length ss → Sixfold (f (get_or ss i no_shape))

  later : (s : Shape) (ss : List Shape) → AllSixfold (s ∷ ss) → AllSixfold ss
  later s ss h i l = h (suc i) (omega arith)

  pub sixfold_all : (ss : List Shape) → AllSixfold ss → Sixfold (flat_map f ss)
  unfolding flat_map
  sixfold_all [] h = sixfold_nil
  sixfold_all (s ∷ ss) h = sixfold_append (f s) (flat_map f ss) (h 0 (omega arith)) (sixfold_all ss (later s ss h))

  here : (a : ℕ) (pre part rest : List Float) → length pre ≡ 6 * a → Sixfold part → part_of (pre ++ (part ++ rest)) a (capacity part) ≡ part
  unfolding part_of capacity
  here a pre part rest e s =
      let l = length-append pre (part ++ rest) in
      let m = length-append part rest in
      let b : leb (a + length part / 6) (length (pre ++ (part ++ rest)) / 6) ≡ true = le-leb (a + length part / 6) (length (pre ++ (part ++ rest)) / 6) (omega arith) in
      let d : drop (6 * a) (pre ++ (part ++ rest)) ≡ part ++ rest = drop_at pre (part ++ rest) (6 * a) e in
      rw (b, d) (take_at part rest (6 * (length part / 6)) s)

  pub part-read : (ss : List Shape) (a : ℕ) (pre rest : List Float) (i : ℕ) → length pre ≡ 6 * a → AllSixfold ss → i < length ss
      → part_of (pre ++ (flat_map f ss ++ rest)) (starts a ss i) (capacity (f (get_or ss i no_shape))) ≡ f (get_or ss i no_shape)
  unfolding starts flat_map
  part-read [] a pre rest i e h l = absurd (omega arith)
  part-read (s ∷ ss) a pre rest zero e h l =
      ap (λ (room : List Float). part_of room a (capacity (f s))) (ap (λ z. pre ++ z) (append_assoc (f s) (flat_map f ss) rest))
      ∙ here a pre (f s) (flat_map f ss ++ rest) e (h 0 (omega arith))
  part-read (s ∷ ss) a pre rest (suc i) e h l =
      let n = length-append pre (f s) in
      let m = h 0 (omega arith) in
      ap (λ (room : List Float). part_of room (starts (a + capacity (f s)) ss i) (capacity (f (get_or ss i no_shape))))
      (ap (λ z. pre ++ z) (append_assoc (f s) (flat_map f ss) rest) ∙ sym (append_assoc pre (f s) (flat_map f ss ++ rest)))
      ∙ part-read ss (a + capacity (f s)) (pre ++ f s) rest i (omega arith) (later s ss h) (omega arith)

  -- each ends within them all
  pub starts-within : (ss : List Shape) (a i : ℕ) → AllSixfold ss → i < length ss → starts a ss i + capacity (f (get_or ss i no_shape)) ≤ a + capacity (flat_map f ss)
  unfolding starts flat_map
  starts-within [] a i h l = absurd (omega arith)
  starts-within (s ∷ ss) a zero h l = let c = capacity_append (f s) (flat_map f ss) (h 0 (omega arith)) (sixfold_all ss (later s ss h)) in omega arith
  starts-within (s ∷ ss) a (suc i) h l =
      let c = capacity_append (f s) (flat_map f ss) (h 0 (omega arith)) (sixfold_all ss (later s ss h)) in
      let r = starts-within ss (a + capacity (f s)) i (later s ss h) (omega arith) in
      omega arith

parts_are : (ss : List Shape) (a b i : ℕ) (d : Part) → i < length ss
    → get_or (parts_from a b ss) i d
    ≡ record { apart_start = starts (λ s. s.apart) a ss i; apart_count = capacity (get_or ss i no_shape).apart; inset_start = starts (λ s. s.inset) b ss i; inset_count = capacity (get_or ss i no_shape).inset }
unfolding parts_from starts
parts_are [] a b i d h = absurd (omega arith)
parts_are (s ∷ ss) a b zero d h = refl
parts_are (s ∷ ss) a b (suc i) d h = parts_are ss (a + capacity s.apart) (b + capacity s.inset) i d (omega arith)

pub parts-length : (ss : List Shape) (a b : ℕ) → length (parts_from a b ss) ≡ length ss
unfolding parts_from
parts-length [] a b = refl
parts-length (s ∷ ss) a b = ap suc (parts-length ss (a + capacity s.apart) (b + capacity s.inset))

no_part : Part
no_part = record { apart_start = 0; apart_count = 0; inset_start = 0; inset_count = 0 }

pub part_slot : (ss : List Shape) (i : ℕ) → i < length ss
    → part_at (flat_parts (parts_from 0 0 ss)) i
    ≡ record { apart_start = starts (λ s. s.apart) 0 ss i; apart_count = capacity (get_or ss i no_shape).apart; inset_start = starts (λ s. s.inset) 0 ss i; inset_count = capacity (get_or ss i no_shape).inset }
part_slot ss i h = let l = parts-length ss 0 0 in parts_at (parts_from 0 0 ss) i no_part (omega arith) ∙ parts_are ss 0 0 i no_part h

-- ---- tables

pub data Sixteen : List ℕ → Type 0 where
  no_turns : Sixteen []
  and_turns : {n : ℕ} {ns : List ℕ} → n ≤ 16 → Sixteen ns → Sixteen (n ∷ ns)

pub sixteen_get : {ns : List ℕ} → Sixteen ns → (k : ℕ) → get_or ns k 0 ≤ 16
sixteen_get no_turns k = omega arith
sixteen_get (and_turns l t) zero = l
sixteen_get (and_turns l t) (suc k) = sixteen_get t k

pub row_exists : (ns : List ℕ) (k o : ℕ) → o < get_or ns k 0 → k < length ns
row_exists [] k o h = absurd (omega arith)
row_exists (n ∷ ns) zero o h = omega arith
row_exists (n ∷ ns) (suc k) o h = let i = row_exists ns k o h in omega arith

module _ {A : Type 0} where
  pub rows-length : (f : ℕ → A) (k : ℕ) (ns : List ℕ) (i : ℕ) → length (get_or (slot_rows f k ns) i []) ≡ get_or ns i 0
  unfolding slot_rows
  rows-length f k [] i = refl
  rows-length f k (n ∷ ns) zero = length-map (up_from n 0) (λ o. f (16 * k + o)) ∙ length-up_from n 0
  rows-length f k (n ∷ ns) (suc i) = rows-length f (suc k) ns i

  pub rows-read : (f : ℕ → A) (d : A) (k : ℕ) (rows : List (List A)) → ((i o : ℕ) → i < length rows → o < length (get_or rows i []) → f (16 * (k + i) + o) ≡ get_or (get_or rows i []) o d) → slot_rows f k (map length rows) ≡ rows
  unfolding slot_rows
  rows-read f d k [] h = refl
  rows-read f d k (r ∷ rows) h =
      ap₂ ◌∷◌
      (up_from_list (λ o. f (16 * k + o)) r (length r) d refl (λ o b. let e : 16 * k + o ≡ 16 * (k + 0) + o = omega arith in ap f e ∙ h 0 o (omega arith) b))
      (rows-read f d (suc k) rows (λ i o a b. let e : 16 * (suc k + i) + o ≡ 16 * (k + suc i) + o = omega arith in ap f e ∙ h (suc i) o (omega arith) b))

  module _ (f g : ℕ → A) where
    rows_same : (k : ℕ) (ns : List ℕ) → Sixteen ns → ((i o : ℕ) → k ≤ i → o < 16 → g (16 * i + o) ≡ f (16 * i + o)) → slot_rows g k ns ≡ slot_rows f k ns
    unfolding slot_rows
    rows_same k ns no_turns h = refl
    rows_same k ns (and_turns {n = n} {ns = ms} l t) h =
        ap₂ ◌∷◌ (up_from-same (λ o. g (16 * k + o)) (λ o. f (16 * k + o)) n 0 (λ o a b. h k o (omega arith) (omega arith))) (rows_same (suc k) ms t (λ i o a b. h i o (omega arith) b))

    pub rows_write : (b k : ℕ) (ns : List ℕ) (ts : List A) (d : A) → Sixteen ns → length ts ≡ get_or ns k 0
        → ((i o : ℕ) → i ≢ b + k → o < 16 → g (16 * i + o) ≡ f (16 * i + o))
        → ((o : ℕ) → o < length ts → g (16 * (b + k) + o) ≡ get_or ts o d)
        → slot_rows g b ns ≡ set (slot_rows f b ns) k ts
    unfolding slot_rows
    rows_write b k ns ts d no_turns e other here = refl
    rows_write b zero ns ts d (and_turns {n = n} {ns = ms} l t) e other here =
        ap₂ ◌∷◌
        (up_from_list (λ o. g (16 * b + o)) ts n d e (λ o h. let z : 16 * b + o ≡ 16 * (b + 0) + o = omega arith in ap g z ∙ here o (omega arith)))
        (rows_same (suc b) ms t (λ i o h k. other i o (λ z. omega arith) k))
    rows_write b (suc k) ns ts d (and_turns {n = n} {ns = ms} l t) e other here =
        ap₂ ◌∷◌
        (up_from-same (λ o. g (16 * b + o)) (λ o. f (16 * b + o)) n 0 (λ o h h'. other b o (λ z. omega arith) (omega arith)))
        (rows_write (suc b) k ms ts d t e (λ i o h. other i o (λ z. h (omega arith))) (λ o h. let z : 16 * (suc b + k) + o ≡ 16 * (b + suc k) + o = omega arith in ap g z ∙ here o h))

  -- what holds of every slot holds of the rows
  row_every : (f : ℕ → A) (test : A → Bool) (k m c : ℕ) → k < 64 → c + m ≤ 16 → ((i : ℕ) → i < 1024 → test (f i) ≡ true) → every test (map (λ o. f (16 * k + o)) (up_from m c)) ≡ true
  unfolding every up_from
  row_every f test k zero c u v h = refl
  row_every f test k (suc m) c u v h = rw (h (16 * k + c) (omega arith), row_every f test k m (suc c) u (omega arith) h)

  pub rows-every : (f : ℕ → A) (test : A → Bool) (k : ℕ) (ns : List ℕ) → Sixteen ns → k + length ns ≤ 64 → ((i : ℕ) → i < 1024 → test (f i) ≡ true) → every (every test) (slot_rows f k ns) ≡ true
  unfolding slot_rows every
  rows-every f test k ns no_turns l h = refl
  rows-every f test k ns (and_turns {n = n} {ns = ms} u t) l h = rw (row_every f test k n 0 (omega arith) (omega arith) h, rows-every f test (suc k) ms t (omega arith) h)

  -- ---- a run of stores

  pub get_d_sets_other : (vs l : List A) (b i : ℕ) (d : A) → (i < b) ⊎ (b + length vs ≤ i) → get_or (sets l b vs) i d ≡ get_or l i d
  get_d_sets_other [] l b i d h = refl
  get_d_sets_other (a ∷ vs) l b i d h = get_d_sets_other vs (set l b a) (suc b) i d (next h) ∙ get_or-set_other l b i a d (apart h)
    where
      next : (i < b) ⊎ (b + suc (length vs) ≤ i) → (i < suc b) ⊎ (suc b + length vs ≤ i)
      next (inl h) = inl (omega arith)
      next (inr h) = inr (omega arith)

      apart : (i < b) ⊎ (b + suc (length vs) ≤ i) → i ≢ b
      apart (inl h) e = omega arith
      apart (inr h) e = omega arith

  pub get_d_sets_here : (vs l : List A) (b o : ℕ) (d : A) → o < length vs → b + length vs ≤ length l → get_or (sets l b vs) (b + o) d ≡ get_or vs o d
  get_d_sets_here [] l b o d h k = absurd (omega arith)
  get_d_sets_here (a ∷ vs) l b zero d h k =
      let e : b + 0 ≡ b = omega arith in
      ap (λ i. get_or (sets (set l b a) (suc b) vs) i d) e ∙ get_d_sets_other vs (set l b a) (suc b) b d (inl (omega arith)) ∙ get_or-set_same l b a d (omega arith)
  get_d_sets_here (a ∷ vs) l b (suc o) d h k =
      let e : b + suc o ≡ suc b + o = omega arith in
      let m : suc b + length vs ≤ length (set l b a) = simp length-set (omega arith) in
      ap (λ i. get_or (sets (set l b a) (suc b) vs) i d) e ∙ get_d_sets_here vs (set l b a) (suc b) o d (omega arith) m

pub slot_kind : (k o : ℕ) → o < 16 → (16 * k + o) / 16 ≡ k
slot_kind k o h = let e : 16 * k + o ≡ k * 16 + o = omega arith in ap (λ n. n / 16) e ∙ digits_div k h

pub slot_turn : (k o : ℕ) → o < 16 → (16 * k + o) % 16 ≡ o
slot_turn k o h = let e : 16 * k + o ≡ k * 16 + o = omega arith in ap (λ n. n % 16) e ∙ digits_mod k h

-- the copies to come
unfoldable pub to_come : Job → State → List Copy
to_come j s = copies_from s.taken (drop s.taken (order_of j s))
