-- A copy entered in a state: the copies that stand, those without a place, and the tracks. Assumes nothing.
use mathlib.Core.Path.{◌≡◌, refl, sym, ap, ap₂, ◌∙◌}
use mathlib.Core.Logic.{◌⊎◌, inl, inr, ◌≢◌}
use mathlib.Core.Bool.{true, false, not}
use mathlib.Core.List.{List, [], ◌∷◌, ◌++◌, map}
use Prim.Native.Nat.{ℕ, zero, suc, ◌+◌, ◌*◌, ◌≤◌, ◌<◌}
use native.Mathlib.Nat.{eq-or-lt_of_le}
use native.Mathlib.Omega.{arith}
use lib.ListN.{length, get_or, set, length-map, get_or-map}
use lib.Seq.{sets, get_or-set_same, get_or-set_other}
use lib.Dec.{T, ltb, ltb→lt, nltb→le}
use lib.Ieee.{Float, nan}
use Rattle.numbers.proofs.Truth.{either}
use Rattle.filling.specs.declared.State.{State}
use Rattle.filling.specs.Shapes.{Shape, Planner}
use Rattle.filling.specs.Search.{Remembered, column, none, Track, search_all, searched_all}
use Rattle.filling.specs.State.{slot_rows, copy_at, stands_at, misses_at, standing_to, without_to, standing_of, without_of, remembered_of, remembered_number, track_at}
use Rattle.filling.specs.NextCopy.{entered, state_with}
use Rattle.filling.proofs.Reading.{rows_write, Sixteen, sixteen_get, row_exists, get_d_sets_other, get_d_sets_here}

-- ---- a copy entered: what the new state says

module _ (s : State) (k : ℕ) (ts : List Track) (strips out : ℕ) (x y gap area right : Float) where
  abbrev pub Now : State
  Now = state_with s k ts strips (entered s.layout s.taken out x y gap area right)

  stands_same : (n o : ℕ) → n ≢ s.taken → stands_at Now n o ≡ stands_at s n o
  unfolding stands_at copy_at state_with entered
  stands_same n zero h = refl
  stands_same n (suc o) h = rw (get_or-set_other s.layout.x s.taken n x nan h, get_or-set_other s.layout.y s.taken n y nan h, get_or-set_other s.layout.gap s.taken n gap nan h)

  misses-same : (n o : ℕ) → misses_at Now n o ≡ misses_at s n o
  unfolding misses_at copy_at state_with
  misses-same n zero = refl
  misses-same n (suc o) = refl

  number_same : (n : ℕ) → n ≢ s.taken → get_or Now.layout.orientation n 0 ≡ get_or s.layout.orientation n 0
  unfolding state_with entered
  number_same n h = get_or-set_other s.layout.orientation s.taken n out 0 h

  standing-same : (n : ℕ) → n ≤ s.taken → standing_to Now n ≡ standing_to s n
  unfolding standing_to
  standing-same zero h = refl
  standing-same (suc n) h =
      let d : n ≢ s.taken = λ e. omega arith in
      ap₂ ◌++◌ (standing-same n (omega arith)) (ap (stands_at Now n) (number_same n d) ∙ stands_same n (get_or s.layout.orientation n 0) d)

  without-same : (n : ℕ) → n ≤ s.taken → without_to Now n ≡ without_to s n
  unfolding without_to
  without-same zero h = refl
  without-same (suc n) h =
      let d : n ≢ s.taken = λ e. omega arith in
      ap₂ ◌++◌ (without-same n (omega arith)) (ap (misses_at Now n) (number_same n d) ∙ misses-same n (get_or s.layout.orientation n 0))

  number_now : s.taken < length s.layout.orientation → get_or Now.layout.orientation s.taken 0 ≡ out
  unfolding state_with entered
  number_now h = get_or-set_same s.layout.orientation s.taken out 0 h

  pub standing_now : s.taken < length s.layout.orientation → standing_of Now ≡ standing_of s ++ stands_at Now s.taken out
  unfolding standing_of standing_to state_with
  standing_now h = ap₂ ◌++◌ (standing-same s.taken (omega arith)) (ap (stands_at Now s.taken) (number_now h))

  pub without_now : s.taken < length s.layout.orientation → without_of Now ≡ without_of s ++ misses_at Now s.taken out
  unfolding without_of without_to state_with
  without_now h = ap₂ ◌++◌ (without-same s.taken (omega arith)) (ap (misses_at Now s.taken) (number_now h))

-- ---- remembered columns and look counts

remembered-back : (m : Remembered) → remembered_of (remembered_number m) ≡ m
unfolding remembered_of remembered_number
remembered-back none = refl
remembered-back (column c) = refl

no_track : Track
no_track = record { next_column = none; look_count = 0 }

track_same : (m m' l l' : List ℕ) (i : ℕ) → get_or m i 0 ≡ get_or m' i 0 → get_or l i 0 ≡ get_or l' i 0 → track_at m l i ≡ track_at m' l' i
unfolding track_at
track_same m m' l l' i e f = rw (e, f)

track_read : (m l : List ℕ) (i : ℕ) (t : Track) → get_or m i 0 ≡ remembered_number t.next_column → get_or l i 0 ≡ t.look_count → track_at m l i ≡ t
unfolding track_at
track_read m l i t e f = rw (e, f, remembered-back)

off_row : (i k o n : ℕ) → i ≢ k → o < 16 → n ≤ 16 → (16 * i + o < 16 * k) ⊎ (16 * k + n ≤ 16 * i + o)
off_row i k o n h a b = go (either (ltb i k)) (ltb→lt i k) (nltb→le i k)
  where
    apart : (k ≡ i) ⊎ (k < i) → (16 * i + o < 16 * k) ⊎ (16 * k + n ≤ 16 * i + o)
    apart (inl e) = absurd (h (sym e))
    apart (inr l) = inr (omega arith)

    go : (ltb i k ≡ true) ⊎ (ltb i k ≡ false) → (T (ltb i k) → i < k) → (T (not (ltb i k)) → k ≤ i) → (16 * i + o < 16 * k) ⊎ (16 * k + n ≤ 16 * i + o)
    go (inl e) u v = let z : i < k = u (rw e tt) in inl (omega arith)
    go (inr e) u v = apart (eq-or-lt_of_le (v (rw e tt)))

-- new tracks stored in row k
pub tracks_write : (m l : List ℕ) (k : ℕ) (ns : List ℕ) (ts : List Track) → Sixteen ns → length ns ≤ 64 → length m ≡ 1024 → length l ≡ 1024 → length ts ≡ get_or ns k 0
    → slot_rows (track_at (sets m (16 * k) (map (λ t. remembered_number t.next_column) ts)) (sets l (16 * k) (map (λ t. t.look_count) ts))) 0 ns ≡ set (slot_rows (track_at m l) 0 ns) k ts
unfolding remembered_number no_track
tracks_write m l k ns ts h few em el e = rows_write (track_at m l) (track_at m' l') 0 k ns ts no_track h e other here
  where
    ms : List ℕ
    ms = map (λ t. remembered_number t.next_column) ts

    ls : List ℕ
    ls = map (λ t. t.look_count) ts

    m' : List ℕ
    m' = sets m (16 * k) ms

    l' : List ℕ
    l' = sets l (16 * k) ls

    fits : length ts ≤ 16
    fits = let b = sixteen_get h k in omega arith

    lm : length ms ≡ length ts
    lm = length-map ts (λ t. remembered_number t.next_column)

    ll : length ls ≡ length ts
    ll = length-map ts (λ t. t.look_count)

    other : (i o : ℕ) → i ≢ 0 + k → o < 16 → track_at m' l' (16 * i + o) ≡ track_at m l (16 * i + o)
    other i o a b =
        let d : i ≢ k = λ z. a (omega arith) in
        let c = fits in
        let cm = lm in
        let cl = ll in
        track_same m' m l' l (16 * i + o)
        (get_d_sets_other ms m (16 * k) (16 * i + o) 0 (off_row i k o (length ms) d b (omega arith)))
        (get_d_sets_other ls l (16 * k) (16 * i + o) 0 (off_row i k o (length ls) d b (omega arith)))

    here : (o : ℕ) → o < length ts → track_at m' l' (16 * (0 + k) + o) ≡ get_or ts o no_track
    here o b =
        let z : 16 * (0 + k) + o ≡ 16 * k + o = omega arith in
        let r = row_exists ns k o (omega arith) in
        let c = fits in
        let cm = lm in
        let cl = ll in
        ap (track_at m' l') z
        ∙ track_read m' l' (16 * k + o) (get_or ts o no_track)
        (get_d_sets_here ms m (16 * k) o 0 (omega arith) (omega arith) ∙ get_or-map (λ t. remembered_number t.next_column) ts o no_track)
        (get_d_sets_here ls l (16 * k) o 0 (omega arith) (omega arith) ∙ get_or-map (λ t. t.look_count) ts o no_track)

pub searched-length : (p : Planner) (st : List Float) (ss : List Shape) (ts : List Track) → length ss ≡ length ts → length (searched_all p ss ts (search_all p st ss ts)) ≡ length ts
unfolding searched_all search_all
searched-length p st [] [] e = refl
searched-length p st [] (t ∷ ts) e = absurd (omega arith)
searched-length p st (s ∷ ss) [] e = absurd (omega arith)
searched-length p st (s ∷ ss) (t ∷ ts) e = ap suc (searched-length p st ss ts (omega arith))
