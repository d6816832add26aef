-- What is written down of a copy, in the tracks and the spots. Assumes nothing.
use Prim.Native.Nat.{ℕ, ◌+◌, ◌*◌, ◌<◌, ◌≤◌}
use native.Mathlib.Omega.{arith}
use mathlib.Core.Path.{◌≡◌, sym, ap, subst, ◌∙◌}
use mathlib.Core.List.{List, ◌++◌}
use lib.ListN.{length, get_or, set, take, drop, length-set, get_or-append}
use lib.Seq.{get_or-append-add, get_or-drop, length_front, length-take-le}
use lib.Ieee.{Float, nan}
use Rattle.rooms.specs.tracks.inner.Tracks.{field, next_columns, look_counts_from, orientations, xs, ys, gaps, track_numbers, spot_numbers}
use Rattle.rooms.proofs.tracks.Fields.{field-same, field-before, field-take, field-set, field-kept, row_first, first-stored, place-number}

-- ---- the slots' numbers in the front of the tracks, which was lent
module _ (tracks front : List ℕ) (long : track_numbers ≤ length tracks) (same : length front ≡ length (take 2048 tracks)) where
  front_long : length front ≡ 2048
  front_long = same ∙ length-take-le 2048 tracks (omega arith)

  slots : (r : ℕ) → r < 2 → (at v : ℕ) → field 0 2 r 1024 (set (front ++ drop 2048 tracks) (2048 + at) v) ≡ field 0 2 r 1024 front
  slots r h at v =
      field-before 0 2 r 1024 (front ++ drop 2048 tracks) (2048 + at) v (λ i b. omega arith)
      ∙ field-same 0 2 r 1024 (front ++ drop 2048 tracks) front
      (λ i b. get_or-append front (drop 2048 tracks) 0 (2 * i + r) (let e = front_long in omega arith))

  pub looks-kept : (at v : ℕ) → look_counts_from (set (front ++ drop 2048 tracks) (2048 + at) v) ≡ look_counts_from front
  looks-kept = slots 1 (omega arith)

  pub nexts_kept : (at v : ℕ) → next_columns (set (front ++ drop 2048 tracks) (2048 + at) v) ≡ next_columns front
  nexts_kept = slots 0 (omega arith)

  pub whole_long : length (front ++ drop 2048 tracks) ≡ length tracks
  whole_long = length_front tracks front 2048 same

  behind : orientations (front ++ drop 2048 tracks) ≡ orientations tracks
  behind = field-same 0 1 2048 4096 (front ++ drop 2048 tracks) tracks at
    where
      at : (i : ℕ) → i < 4096 → get_or (front ++ drop 2048 tracks) (1 * i + 2048) 0 ≡ get_or tracks (1 * i + 2048) 0
      at i b =
          let e = front_long in
          let f : 1 * i + 2048 ≡ length front + i = omega arith in
          let g : 2048 + i ≡ 1 * i + 2048 = omega arith in
          ap (λ (n : ℕ). get_or (front ++ drop 2048 tracks) n 0) f
          ∙ (get_or-append-add front (drop 2048 tracks) i 0 ∙ (get_or-drop 2048 tracks i 0 ∙ ap (λ (n : ℕ). get_or tracks n 0) g))

  pub orientation-written : (at v : ℕ) → at < 4096 → orientations (set (front ++ drop 2048 tracks) (2048 + at) v) ≡ set (orientations tracks) at v
  orientation-written at v h =
      place-number 0 (front ++ drop 2048 tracks) 2048 4096 at v h (let e = whole_long in omega arith) ∙ ap (λ (l : List ℕ). set l at v) behind

-- the front's numbers are the table's
pub front-field : (tracks : List ℕ) (r : ℕ) → r < 2 → field 0 2 r 1024 (take 2048 tracks) ≡ field 0 2 r 1024 tracks
front-field tracks r h = field-take 0 2 r 1024 2048 tracks (λ i b. omega arith)

-- ---- a spot
module _ (spots : List Float) (long : spot_numbers ≤ length spots) (at : ℕ) (h : at < 4096) (a b g : Float) where
  abbrev First : List Float
  First = set spots (3 * at) a

  abbrev Second : List Float
  Second = set First (3 * at + 1) b

  first-long : spot_numbers ≤ length First
  first-long = subst (λ (n : ℕ). spot_numbers ≤ n) (sym (length-set spots (3 * at) a)) long

  second_long : spot_numbers ≤ length Second
  second_long = subst (λ (n : ℕ). spot_numbers ≤ n) (sym (length-set First (3 * at + 1) b)) first-long

  pub x_written : xs (set Second (3 * at + 2) g) ≡ set (xs spots) at a
  x_written =
      field-kept nan 3 2 0 4096 Second at g (omega arith) (omega arith) (λ e. absurd (omega arith))
      ∙ (field-kept nan 3 1 0 4096 First at b (omega arith) (omega arith) (λ e. absurd (omega arith))
      ∙ row_first nan 3 spots 4096 at a (omega arith) h (omega arith))

  pub y_written : ys (set Second (3 * at + 2) g) ≡ set (ys spots) at b
  y_written =
      field-kept nan 3 2 1 4096 Second at g (omega arith) (omega arith) (λ e. absurd (omega arith))
      ∙ (field-set nan 3 1 4096 First at b h (omega arith) (let e = first-long in omega arith)
      ∙ ap (λ (l : List Float). set l at b) (first-stored nan 3 1 4096 spots at a (omega arith) (λ e. absurd (omega arith))))

  pub gap-written : gaps (set Second (3 * at + 2) g) ≡ set (gaps spots) at g
  gap-written =
      field-set nan 3 2 4096 Second at g h (omega arith) (let e = second_long in omega arith)
      ∙ ap (λ (l : List Float). set l at g)
      (field-kept nan 3 1 2 4096 First at b (omega arith) (omega arith) (λ e. absurd (omega arith))
      ∙ first-stored nan 3 2 4096 spots at a (omega arith) (λ e. absurd (omega arith)))
