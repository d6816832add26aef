-- What refusal 31's tests say of strips, and of what stands by kind and orientation. Assumes nothing.
use Prim.Native.Nat.{ℕ, zero, suc, ◌+◌, ◌*◌, ◌<◌}
use native.Mathlib.Omega.{arith}
use mathlib.Core.Path.{◌≡◌, sym, ap, ◌∙◌}
use mathlib.Core.Bool.{Bool, true, false, not, cond}
use mathlib.Core.List.{List, [], ◌∷◌, map}
use lib.ListN.{length, get_or, take, drop}
use lib.Dec.{T, leb}
use lib.Ieee.{Float, nan, binary64, fits, lt}
use Rattle.numbers.proofs.Patterns.{nan-fits}
use Rattle.numbers.proofs.Truth.{both_first, both_second}
use Rattle.trapezoid.specs.Strip.{strip_at, capacity, part_of}
use Rattle.index.specs.Buckets.{up_from}
use Rattle.look.specs.inner.Ready.{BoundedStrip, BoundedStrips}
use Rattle.filling.specs.Shapes.{Shape, Planner}
use Rattle.filling.specs.Search.{Track, last_of}
use Rattle.filling.specs.State.{slot_rows}
use Rattle.filling.specs.Consistent.{every, bounded, strip_fits, strips_fit, track_fits, tracks_fit, track_table_fits}
use Rattle.filling_laws.proofs.ReadyNumbers.{bounded_is}

-- ---- every number of a list is a double: so is every list of doubles in code
abbrev pub AllFit : List Float → Type 0
AllFit l = (i : ℕ) → T (fits binary64 (get_or l i nan))

none-fit : AllFit []
none-fit i = nan-fits

pub take-fit : (n : ℕ) (l : List Float) → AllFit l → AllFit (take n l)
take-fit zero l h i = nan-fits
take-fit (suc n) [] h i = nan-fits
take-fit (suc n) (x ∷ xs) h zero = h 0
take-fit (suc n) (x ∷ xs) h (suc i) = take-fit n xs (λ j. h (suc j)) i

pub drop-fit : (n : ℕ) (l : List Float) → AllFit l → AllFit (drop n l)
drop-fit zero l h i = h i
drop-fit (suc n) [] h i = nan-fits
drop-fit (suc n) (x ∷ xs) h i = drop-fit n xs (λ j. h (suc j)) i

pub part-fit : (room : List Float) (a n : ℕ) → AllFit room → AllFit (part_of room a n)
unfolding part_of
part-fit room a n h = go (leb (a + n) (capacity room))
  where
    go : (t : Bool) → AllFit (cond t (take (6 * n) (drop (6 * a) room)) [])
    go true = take-fit (6 * n) (drop (6 * a) room) (drop-fit (6 * a) room h)
    go false = none-fit

-- ---- strips

up_from-every : (f : ℕ → Bool) (n c : ℕ) → every f (up_from n c) ≡ true → (i : ℕ) → i < n → f (c + i) ≡ true
unfolding every up_from
up_from-every f zero c e i h = absurd (omega arith)
up_from-every f (suc n) c e zero h = let z : c + 0 ≡ c = omega arith in ap f z ∙ both_first (f c) _ e
up_from-every f (suc n) c e (suc i) h = let z : c + suc i ≡ suc c + i = omega arith in ap f z ∙ up_from-every f n (suc c) (both_second (f c) _ e) i (omega arith)

strip_is : (l : List Float) (i : ℕ) → AllFit l → strip_fits (strip_at l i) ≡ true → BoundedStrip (strip_at l i)
unfolding strip_fits strip_at
strip_is l i f e =
    let a0 = get_or l (6 * i) nan in
    let a1 = get_or l (6 * i + 1) nan in
    let a2 = get_or l (6 * i + 2) nan in
    let a3 = get_or l (6 * i + 3) nan in
    let a4 = get_or l (6 * i + 4) nan in
    let e0 = both_second (not (lt a1 a0)) _ e in
    let e1 = both_second (bounded a0) _ e0 in
    let e2 = both_second (bounded a1) _ e1 in
    let e3 = both_second (bounded a2) _ e2 in
    let e4 = both_second (bounded a3) _ e3 in
    record {
      x0 = bounded_is (f (6 * i)) (both_first (bounded a0) _ e0);
      x1 = bounded_is (f (6 * i + 1)) (both_first (bounded a1) _ e1);
      low0 = bounded_is (f (6 * i + 2)) (both_first (bounded a2) _ e2);
      low1 = bounded_is (f (6 * i + 3)) (both_first (bounded a3) _ e3);
      high0 = bounded_is (f (6 * i + 4)) (both_first (bounded a4) _ e4);
      high1 = bounded_is (f (6 * i + 5)) (both_second (bounded a4) _ e4);
    }

pub strips_are : (l : List Float) → AllFit l → strips_fit l ≡ true → BoundedStrips l
unfolding strips_fit
strips_are l f e i h =
    let z : 0 + i ≡ i = omega arith in
    strip_is l i f (sym (ap (λ (n : ℕ). strip_fits (strip_at l n)) z) ∙ up_from-every (λ n. strip_fits (strip_at l n)) (capacity l) 0 e i h)

-- ---- by kind and orientation

row_every : {A : Type 0} (test : A → Bool) (f : ℕ → A) (n c : ℕ) → every test (map f (up_from n c)) ≡ true → (i : ℕ) → i < n → test (f (c + i)) ≡ true
unfolding every up_from
row_every test f zero c e i h = absurd (omega arith)
row_every test f (suc n) c e zero h = let z : c + 0 ≡ c = omega arith in ap (λ (m : ℕ). test (f m)) z ∙ both_first (test (f c)) _ e
row_every test f (suc n) c e (suc i) h = let z : c + suc i ≡ suc c + i = omega arith in ap (λ (m : ℕ). test (f m)) z ∙ row_every test f n (suc c) (both_second (test (f c)) _ e) i (omega arith)

rows-every : {A : Type 0} (test : A → Bool) (f : ℕ → A) (k : ℕ) (ns : List ℕ) → every (every test) (slot_rows f k ns) ≡ true → (i : ℕ) → i < length ns → (o : ℕ) → o < get_or ns i 0 → test (f (16 * (k + i) + o)) ≡ true
unfolding every slot_rows
rows-every test f k [] e i h o l = absurd (omega arith)
rows-every test f k (n ∷ ns) e zero h o l =
    let z : 0 + o ≡ o = omega arith in
    let y : k + 0 ≡ k = omega arith in
    ap (λ (m : ℕ). test (f (16 * m + o))) y ∙ (sym (ap (λ (m : ℕ). test (f (16 * k + m))) z) ∙ row_every test (λ m. f (16 * k + m)) n 0 (both_first (every test (map (λ m. f (16 * k + m)) (up_from n 0))) _ e) o l)
rows-every test f k (n ∷ ns) e (suc i) h o l =
    let z : k + suc i ≡ suc k + i = omega arith in
    ap (λ (m : ℕ). test (f (16 * m + o))) z ∙ rows-every test f (suc k) ns (both_second (every test (map (λ m. f (16 * k + m)) (up_from n 0))) _ e) i (omega arith) o l

-- a test of every slot holds of orientation o of kind k
pub slots-every : {A : Type 0} (test : A → Bool) (f : ℕ → A) (ns : List ℕ) → every (every test) (slot_rows f 0 ns) ≡ true → (k : ℕ) → k < length ns → (o : ℕ) → o < get_or ns k 0 → test (f (16 * k + o)) ≡ true
slots-every test f ns e k h o l = let z : 0 + k ≡ k = omega arith in sym (ap (λ (m : ℕ). test (f (16 * m + o))) z) ∙ rows-every test f 0 ns e k h o l

module _ (p : Planner) (taken : ℕ) (f : ℕ → Shape) (g : ℕ → Track) where
  row_track : (a n c : ℕ) → tracks_fit p taken (map (λ m. f (a + m)) (up_from n c)) (map (λ m. g (a + m)) (up_from n c)) ≡ true → (i : ℕ) → i < n → track_fits taken (last_of p (f (a + (c + i)))) (g (a + (c + i))) ≡ true
  unfolding tracks_fit up_from
  row_track a zero c e i h = absurd (omega arith)
  row_track a (suc n) c e zero h = let z : c + 0 ≡ c = omega arith in ap (λ (m : ℕ). track_fits taken (last_of p (f (a + m))) (g (a + m))) z ∙ both_first (track_fits taken (last_of p (f (a + c))) (g (a + c))) _ e
  row_track a (suc n) c e (suc i) h = let z : c + suc i ≡ suc c + i = omega arith in ap (λ (m : ℕ). track_fits taken (last_of p (f (a + m))) (g (a + m))) z ∙ row_track a n (suc c) (both_second (track_fits taken (last_of p (f (a + c))) (g (a + c))) _ e) i (omega arith)

  abbrev At : ℕ → Bool
  At m = track_fits taken (last_of p (f m)) (g m)

  rows_track : (k : ℕ) (ns : List ℕ) → track_table_fits p taken (slot_rows f k ns) (slot_rows g k ns) ≡ true → (i : ℕ) → i < length ns → (o : ℕ) → o < get_or ns i 0 → At (16 * (k + i) + o) ≡ true
  unfolding track_table_fits slot_rows
  rows_track k [] e i h o l = absurd (omega arith)
  rows_track k (n ∷ ns) e zero h o l =
      let z : 0 + o ≡ o = omega arith in
      let y : k + 0 ≡ k = omega arith in
      ap (λ (m : ℕ). At (16 * m + o)) y ∙ (sym (ap (λ (m : ℕ). At (16 * k + m)) z) ∙ row_track (16 * k) n 0 (both_first (tracks_fit p taken (map (λ m. f (16 * k + m)) (up_from n 0)) (map (λ m. g (16 * k + m)) (up_from n 0))) _ e) o l)
  rows_track k (n ∷ ns) e (suc i) h o l =
      let z : k + suc i ≡ suc k + i = omega arith in
      ap (λ (m : ℕ). At (16 * m + o)) z ∙ rows_track (suc k) ns (both_second (tracks_fit p taken (map (λ m. f (16 * k + m)) (up_from n 0)) (map (λ m. g (16 * k + m)) (up_from n 0))) _ e) i (omega arith) o l

  -- the test of the tracks, of orientation o of kind k
  pub slots_track : (ns : List ℕ) → track_table_fits p taken (slot_rows f 0 ns) (slot_rows g 0 ns) ≡ true → (k : ℕ) → k < length ns → (o : ℕ) → o < get_or ns k 0 → track_fits taken (last_of p (f (16 * k + o))) (g (16 * k + o)) ≡ true
  slots_track ns e k h o l = let z : 0 + k ≡ k = omega arith in sym (ap (λ (m : ℕ). At (16 * m + o)) z) ∙ rows_track 0 ns e k h o l
