-- One slot, and one turn of each pass over the slots. Assumes nothing.
use Rattle.std.specs.Prelude.{Option, Some, None}
use mathlib.Core.Path.{◌≡◌, refl, sym, ap, ap₂, subst, ◌∙◌}
use mathlib.Core.Logic.{◌⊎◌, inl, inr, ◌≢◌}
use mathlib.Core.Bool.{true, false}
use mathlib.Core.List.{List, [], ◌∷◌, ◌++◌, append_assoc}
use Prim.Native.Nat.{ℕ, zero, suc, ◌+◌, ◌-◌, ◌*◌, ◌/◌, ◌≤◌, ◌<◌}
use native.Mathlib.Omega.{arith}
use native.Mathlib.Numerals.{add-one}
use lib.ListN.{length, get_or, set, take, drop, length-set, length-append, length-drop}
use lib.Seq.{sets, length-take-le, get_or-set_same, get_or-set_other, take_at, drop-drop, drop-append-add}
use lib.Ieee.{Float, nan}
use borrow.Author.Tests.{le-ltb}
use Rattle.numbers.proofs.Truth.{below_or_not}
use Rattle.trapezoid.specs.declared.Trapezoid.{Trapezoid}
use Rattle.trapezoid.specs.Strip.{flat, capacity}
use Rattle.strips.specs.declared.Rect.{Rect}
use Rattle.strips.specs.inner.Tables.{strips_laid, strips_stored}
use Rattle.filling.specs.Shapes.{set_bounds, no_bounds}
use Rattle.filling.specs.State.{bounds_at}
use Rattle.filling.proofs.Reading.{length-flat, flat_append, get_d_sets_other, get_d_sets_here}
use Rattle.shapes.specs.set_strips.inner.SetStrips.{strips_at}
use Rattle.shapes.proofs.set_strips.ReadSets.{laid-nothing, nothing_stored, stored-number, stored-room, not-stored}
use Rattle.shapes.specs.slots.inner.Slots.{in_use, slot_strips, slot_bounds, strips_to, Column, SlotsLaid, BoundsTo}
use Rattle.kinds.specs.sets.inner.Answers.{set_at}
use Rattle.frames.specs.declared.Frame.{Frame}
use Rattle.frames.specs.Frames.{framed}

-- ---- a slot

pub not_in_use : (rows : List ℕ) (kinds i : ℕ) → kinds ≤ i / 16 → false ≡ in_use rows kinds i
unfolding in_use
not_in_use rows kinds i h = rw (le-ltb (i / 16) kinds h)

module _ (f : Frame) (bytes rows places : List ℕ) (kinds : ℕ) where
  pub strips_used : (which i : ℕ) → in_use rows kinds i ≡ true → strips_at f bytes (get_or places (2 * i + which) 0) false ≡ slot_strips f bytes rows places kinds
      which i
  unfolding slot_strips
  strips_used which i e = rw (e, slot_strips)

  pub strips_unused : (which i : ℕ) → in_use rows kinds i ≡ false → slot_strips f bytes rows places kinds which i ≡ []
  unfolding slot_strips
  strips_unused which i e = rw (e, slot_strips)

  pub nothing-laid : (which i : ℕ) (room : List Float) (from : ℕ) → in_use rows kinds i ≡ false → 6 * from ≤ length room → record
      { answer = Some 0; room = room } ≡ strips_stored (slot_strips f bytes rows places kinds which i) room from
  nothing-laid which i room from e h = sym (nothing_stored room from h) ∙ ap (λ (l : List Trapezoid). strips_stored l room from) (sym (strips_unused which i e))

  pub bounds_used : (i : ℕ) → in_use rows kinds i ≡ true → set_bounds (framed f (set_at bytes (get_or places (2 * i + 1) 0))) ≡ slot_bounds f bytes rows places kinds
      i
  unfolding slot_bounds
  bounds_used i e = rw (e, slot_bounds)

  pub bounds_unused : (i : ℕ) → in_use rows kinds i ≡ false → no_bounds ≡ slot_bounds f bytes rows places kinds i
  unfolding slot_bounds
  bounds_unused i e = rw (e, slot_bounds)

-- ---- strips after strips

pub length-laid : (ss : List Trapezoid) (room : List Float) (from : ℕ) → 6 * (from + length ss) ≤ length room → length (strips_laid ss room from) ≡ length room
unfolding strips_laid
length-laid ss room from h =
    let a = length-take-le (6 * from) room (omega arith) in
    let b = length-flat ss in
    let c = length-drop (6 * (from + length ss)) room in
    let d = length-append (take (6 * from) room) (flat ss ++ drop (6 * (from + length ss)) room) in
    let e = length-append (flat ss) (drop (6 * (from + length ss)) room) in
    omega arith

-- strips strips_laid after strips_laid strips
pub laid_on : (ss ts : List Trapezoid) (room : List Float) (from : ℕ) → 6 * (from + length ss) ≤ length room → strips_laid ts (strips_laid ss room from)
    (from + length ss) ≡ strips_laid (ss ++ ts) room from
unfolding strips_laid
laid_on ss ts room from h =
    let R = take (6 * from) room in
    let F = flat ss in
    let D = drop (6 * (from + length ss)) room in
    let a = length-take-le (6 * from) room (omega arith) in
    let b = length-flat ss in
    let c = length-append R F in
    let m : length (R ++ F) ≡ 6 * (from + length ss) = omega arith in
    let n = length-append ss ts in
    let s : R ++ (F ++ D) ≡ (R ++ F) ++ D = sym (append_assoc R F D) in
    let t : take (6 * (from + length ss)) (R ++ (F ++ D)) ≡ R ++ F = ap (take (6 * (from + length ss))) s ∙ take_at (R ++ F) D (6 * (from + length ss)) m in
    let k : 6 * (from + length ss + length ts) ≡ length (R ++ F) + 6 * length ts = omega arith in
    let l : 6 * (from + length ss) + 6 * length ts ≡ 6 * (from + length (ss ++ ts)) = omega arith in
    let d : drop (6 * (from + length ss + length ts)) (R ++ (F ++ D)) ≡ drop (6 * (from + length (ss ++ ts))) room = ap₂ drop k s ∙ drop-append-add (R ++ F) D
    (6 * length ts) ∙ drop-drop (6 * length ts) (6 * (from + length ss)) room ∙ ap (λ (x : ℕ). drop x room) l in
    ap₂ (λ (x y : List Float). x ++ (flat ts ++ y)) t d
    ∙ append_assoc R F (flat ts ++ drop (6 * (from + length (ss ++ ts))) room)
    ∙ ap (λ (x : List Float). R ++ x) (sym (append_assoc F (flat ts) (drop (6 * (from + length (ss ++ ts))) room)) ∙ ap
    (λ (x : List Float). x ++ drop (6 * (from + length (ss ++ ts))) room) (sym (flat_append ss ts)))

-- ---- the pass over the strips

module _ (f : ℕ → List Trapezoid) where
  pub strips-next : (i : ℕ) → strips_to f (i + 1) ≡ strips_to f i ++ f i
  unfolding strips_to
  strips-next i = ap (strips_to f) (add-one i)

  length-next : (i : ℕ) → length (strips_to f (i + 1)) ≡ length (strips_to f i) + length (f i)
  length-next i = ap length (strips-next i) ∙ length-append (strips_to f i) (f i)

  pub length_more : (i n : ℕ) → length (strips_to f i) ≤ length (strips_to f (i + n))
  length_more i zero = let e : i + 0 ≡ i = omega arith in rw e (omega arith)
  length_more i (suc n) =
      let e : i + suc n ≡ i + n + 1 = omega arith in
      let a = length_more i n in
      let b = length-next (i + n) in
      rw e (omega arith)

-- one slot more in the table
column_on : (which : ℕ) (f : ℕ → List Trapezoid) (i : ℕ) (old new : List ℕ) (a n : ℕ) → which < 2 → 4 * i + 4 ≤ length old → Column which f i old new → a ≡
    length (strips_to f i) → n ≡ length (f i)
    → Column which f (i + 1) old (set (set new (4 * i + 2 * which) a) (4 * i + 2 * which + 1) n)
column_on which f i old new a n w l C p q =
    record {
      size = length-set (set new (4 * i + 2 * which) a) (4 * i + 2 * which + 1) n ∙ length-set new (4 * i + 2 * which) a ∙ C.size;
      start = start;
      count = count;
      other = λ k r b c d. kept (4 * k + r) (λ e. omega arith) (λ e. omega arith) ∙ C.other k r b c d;
    }
  where
    kept : (x : ℕ) → x ≢ 4 * i + 2 * which → x ≢ 4 * i + 2 * which + 1 → get_or (set (set new (4 * i + 2 * which) a) (4 * i + 2 * which + 1) n) x 0 ≡ get_or new x 0
    kept x b c = get_or-set_other (set new (4 * i + 2 * which) a) (4 * i + 2 * which + 1) x n 0 c ∙ get_or-set_other new (4 * i + 2 * which) x a 0 b

    start-here : get_or (set (set new (4 * i + 2 * which) a) (4 * i + 2 * which + 1) n) (4 * i + 2 * which) 0 ≡ a
    start-here =
        get_or-set_other (set new (4 * i + 2 * which) a) (4 * i + 2 * which + 1) (4 * i + 2 * which) n 0 (λ e. omega arith)
        ∙ get_or-set_same new (4 * i + 2 * which) a 0 (omega (arith, C.size))

    count-here : get_or (set (set new (4 * i + 2 * which) a) (4 * i + 2 * which + 1) n) (4 * i + 2 * which + 1) 0 ≡ n
    count-here = get_or-set_same (set new (4 * i + 2 * which) a) (4 * i + 2 * which + 1) n 0 (omega (arith, C.size, length-set new (4 * i + 2 * which) a))

    start : (k : ℕ) → k < i + 1 → get_or (set (set new (4 * i + 2 * which) a) (4 * i + 2 * which + 1) n) (4 * k + 2 * which) 0 ≡ length (strips_to f k)
    start k h =
        elim (below_or_not k i) [
          | inl b ↦ kept (4 * k + 2 * which) (λ e. omega arith) (λ e. omega arith) ∙ C.start k b
          | inr b ↦ (let e : k ≡ i = omega arith in subst (λ (x : ℕ). get_or (set (set new (4 * i + 2 * which) a) (4 * i + 2 * which + 1) n) (4 * x + 2 * which) 0
              ≡ length (strips_to f x)) (sym e) (start-here ∙ p))
        ]

    count : (k : ℕ) → k < i + 1 → get_or (set (set new (4 * i + 2 * which) a) (4 * i + 2 * which + 1) n) (4 * k + 2 * which + 1) 0 ≡ length (f k)
    count k h =
        elim (below_or_not k i) [
          | inl b ↦ kept (4 * k + 2 * which + 1) (λ e. omega arith) (λ e. omega arith) ∙ C.count k b
          | inr b ↦ (let e : k ≡ i = omega arith in subst (λ (x : ℕ). get_or (set (set new (4 * i + 2 * which) a) (4 * i + 2 * which + 1) n)
              (4 * x + 2 * which + 1) 0 ≡ length (f x)) (sym e) (count-here ∙ q))
        ]

-- the strips of i slots lie in the room, and their numbers in the table
pub record StripsTo (which : ℕ) (f : ℕ → List Trapezoid) (from : ℕ) (room₀ : List Float) (parts₀ : List ℕ) (room : List Float) (parts : List ℕ)
    (i held : ℕ) : Type 0 where
  pub inside : i ≤ 1024
  pub number : held ≡ from + length (strips_to f i)
  pub fits : 6 * held ≤ length room₀
  pub room_is : room ≡ strips_laid (strips_to f i) room₀ from
  pub long : length room ≡ length room₀
  pub column : Column which f i parts₀ parts

module _ (which : ℕ) (f : ℕ → List Trapezoid) (from : ℕ) (room₀ : List Float) (parts₀ : List ℕ) (w : which < 2) (h : 6 * from ≤ length room₀) where
  pub strips-start : StripsTo which f from room₀ parts₀ room₀ parts₀ 0 from
  unfolding strips_to
  strips-start =
      record {
        inside = omega arith;
        number = omega arith;
        fits = h;
        room_is = sym (laid-nothing room₀ from);
        long = refl;
        column = record { size = refl; start = λ i b. absurd (none i b); count = λ i b. absurd (none i b); other = λ i r a b c. refl };
      }
    where
      none : (i : ℕ) → i < 0 → ⊥
      none i h = omega arith

  module _ (room : List Float) (parts : List ℕ) (i held : ℕ) (R : StripsTo which f from room₀ parts₀ room parts i held) where
    counted : (room' : List Float) (n : ℕ) (r : Option ℕ) → record { answer = r; room = room' } ≡ strips_stored (f i) room held → r ≡ Some n → (n ≡ length (f i))
        × (6 * (held + n) ≤ length room)
    counted room' n r e d = stored-number (f i) room room' held r e n d

    pub more_fits : (room' : List Float) (n : ℕ) (r : Option ℕ) → record { answer = r; room = room' } ≡ strips_stored (f i) room held → r ≡ Some n → 6 *
        (held + n) ≤ length room₀
    more_fits room' n r e d = let c = counted room' n r e d in omega (arith, c.1, R.long)

    room_on : (room' : List Float) (n : ℕ) (r : Option ℕ) → record { answer = r; room = room' } ≡ strips_stored (f i) room held → r ≡ Some n → room' ≡ strips_laid
        (strips_to f (i + 1)) room₀ from
    room_on room' n r e d =
        stored-room (f i) room room' held r e n d
        ∙ ap₂ (λ (x : List Float) (y : ℕ). strips_laid (f i) x y) R.room_is R.number
        ∙ laid_on (strips_to f i) (f i) room₀ from (omega (arith, R.number, R.fits))
        ∙ ap (λ (l : List Trapezoid). strips_laid l room₀ from) (sym (strips-next f i))

    pub strips_on : (room' : List Float) (n : ℕ) (r : Option ℕ) → i < 1024 → 4096 ≤ length parts₀ → record { answer = r; room = room' } ≡ strips_stored (f i) room
        held → r ≡ Some n
        → StripsTo which f from room₀ parts₀ room' (set (set parts (4 * i + 2 * which) (held - from)) (4 * i + 2 * which + 1) n) (i + 1) (held + n)
    strips_on room' n r a b e d =
        let c = counted room' n r e d in
        let m = length-next f i in
        let g = room_on room' n r e d in
        record {
          inside = omega arith;
          number = omega (arith, m, c.0, R.number);
          fits = omega (arith, c.1, R.long);
          room_is = g;
          long = ap length g ∙ length-laid (strips_to f (i + 1)) room₀ from (omega (arith, m, c.0, c.1, R.number, R.long));
          column = column_on which f i parts₀ parts (held - from) n w (omega arith) R.column (omega (arith, R.number)) c.0;
        }

    pub strips_over : (room' : List Float) (r : Option ℕ) → i < 1024 → record { answer = r; room = room' } ≡ strips_stored (f i) room held → r ≡ None → capacity
        room₀ < from + length (strips_to f 1024)
    unfolding capacity
    strips_over room' r a e d =
        let b = not-stored (f i) room room' held r e d in
        let m = length-next f i in
        let o : i + 1 + (1023 - i) ≡ 1024 = omega arith in
        let k : length (strips_to f (i + 1)) ≤ length (strips_to f 1024) = subst (λ (x : ℕ). length (strips_to f (i + 1)) ≤ length (strips_to f x)) o
        (length_more f (i + 1) (1023 - i)) in
        omega (arith, b, m, k, R.number, R.long)

    pub strips_all : 1024 ≤ i → SlotsLaid (Some (held - from)) which f 1024 from room₀ room parts₀ parts
    strips_all a =
        let e : i ≡ 1024 = omega (arith, R.inside) in
        let n : held ≡ from + length (strips_to f 1024) = subst (λ (x : ℕ). held ≡ from + length (strips_to f x)) e R.number in (
          omega arith,
          omega (arith, R.fits),
          subst (λ (x : ℕ). room ≡ strips_laid (strips_to f x) room₀ from) e R.room_is,
          subst
              (λ (x : ℕ). Column which f x parts₀ parts) e R.column,
        )

-- ---- the pass over the bounds

bounds-same : (old new : List Float) (q : ℕ) → ((r : ℕ) → r < 4 → get_or new (4 * q + r) nan ≡ get_or old (4 * q + r) nan) → bounds_at new q ≡ bounds_at old q
unfolding bounds_at
bounds-same old new q h =
    let e : 4 * q + 0 ≡ 4 * q = omega arith in
    rw (subst (λ (x : ℕ). get_or new x nan ≡ get_or old x nan) e (h 0 (omega arith)), h 1 (omega arith), h 2 (omega arith), h 3 (omega arith))

-- four stores
module _ (t : List Float) (i : ℕ) (b : Rect) (l : 4 * i + 4 ≤ length t) where
  abbrev after : List Float
  after = set (set (set (set t (4 * i) b.left) (4 * i + 1) b.bottom) (4 * i + 2) b.right) (4 * i + 3) b.top

  pub stores_in : (4 * i + 1 < length (set t (4 * i) b.left)) × (4 * i + 2 < length (set (set t (4 * i) b.left) (4 * i + 1) b.bottom)) ×
      (4 * i + 3 < length (set (set (set t (4 * i) b.left) (4 * i + 1) b.bottom) (4 * i + 2) b.right))
  stores_in =
      let a = length-set t (4 * i) b.left in
      let c = length-set (set t (4 * i) b.left) (4 * i + 1) b.bottom in
      let d = length-set (set (set t (4 * i) b.left) (4 * i + 1) b.bottom) (4 * i + 2) b.right in
      (omega arith, omega arith, omega arith)

  abbrev four : List Float
  four = b.left ∷ b.bottom ∷ b.right ∷ b.top ∷ []

  after_is : after ≡ sets t (4 * i) four
  after_is =
      let e1 : 4 * i + 1 ≡ suc (4 * i) = omega arith in
      let e2 : 4 * i + 2 ≡ suc (suc (4 * i)) = omega arith in
      let e3 : 4 * i + 3 ≡ suc (suc (suc (4 * i))) = omega arith in
      rw (e1, e2, e3)

  pub stores_other : (q : ℕ) → q ≢ i → bounds_at after q ≡ bounds_at t q
  stores_other q h = bounds-same t after q (λ r k. ap (λ (l : List Float). get_or l (4 * q + r) nan) after_is ∙ get_d_sets_other four t (4 * i) (4 * q + r) nan
      (side r k (below_or_not q i) (below_or_not i q)))
    where
      side : (r : ℕ) → r < 4 → (q < i) ⊎ (i ≤ q) → (i < q) ⊎ (q ≤ i) → (4 * q + r < 4 * i) ⊎ (4 * i + 4 ≤ 4 * q + r)
      side r k (inl m) n = inl (omega arith)
      side r k (inr m) (inl n) = inr (omega arith)
      side r k (inr m) (inr n) = absurd (h (omega arith))

  here : (r : ℕ) → r < 4 → get_or after (4 * i + r) nan ≡ get_or four r nan
  here r h = ap (λ (l : List Float). get_or l (4 * i + r) nan) after_is ∙ get_d_sets_here four t (4 * i) r nan h l

  pub stores_here : bounds_at after i ≡ b
  unfolding bounds_at
  stores_here =
      let e : 4 * i + 0 ≡ 4 * i = omega arith in
      rw (subst (λ (x : ℕ). get_or after x nan ≡ b.left) e (here 0 (omega arith)), here 1 (omega arith), here 2 (omega arith), here 3 (omega arith))

pub bounds-start : (f : ℕ → Rect) (t : List Float) → BoundsTo f 0 t t
bounds-start f t = record { size = refl; here = λ i b. absurd (none i b) }
  where
    none : (i : ℕ) → i < 0 → ⊥
    none i h = omega arith

pub bounds_on_lem : (f : ℕ → Rect) (old t t' : List Float) (i : ℕ) (b : Rect) → BoundsTo f i old t → length t' ≡ length t → b ≡ f i → bounds_at t' i ≡ b →
    ((q : ℕ) → q ≢ i → bounds_at t' q ≡ bounds_at t q) → BoundsTo f (i + 1) old t'
bounds_on_lem f old t t' i b B l e h o = record { size = l ∙ B.size; here = there }
  where
    there : (q : ℕ) → q < i + 1 → bounds_at t' q ≡ f q
    there q k =
        elim (below_or_not q i) [
          | inl m ↦ o q (λ e. omega arith) ∙ B.here q m
          | inr m ↦ (let d : q ≡ i = omega arith in subst (λ (x : ℕ). bounds_at t' x ≡ f x) (sym d) (h ∙ e))
        ]
