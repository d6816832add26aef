-- The placed room after a copy's strips are stored, strip by strip and as a list. Assumes nothing.
use Prim.{⊥}
use Prim.Native.Nat.{ℕ, zero, suc, ◌+◌, ◌*◌, ◌/◌, ◌<◌, ◌≤◌}
use native.Mathlib.Omega.{arith}
use mathlib.Core.Path.{◌≡◌, refl, sym, ap, ◌∙◌, subst}
use mathlib.Core.List.{List, ◌∷◌, ◌++◌, map, append_assoc, append-nil}
use lib.ListN.{length, get_or, set, take, drop, length-set, length-append, take-append-drop}
use lib.Seq.{get_or-set_same, get_or-set_other, get_or-take, length-take-le}
use lib.Dec.{ltb}
use lib.Ieee.{Float, nan}
use mathlib.Core.Bool.{Bool, true, false}
use borrow.Author.Tests.{ltb-true, ltb-false}
use Rattle.trapezoid.specs.declared.Trapezoid.{Trapezoid}
use Rattle.trapezoid.specs.Strip.{strip_at, flat, capacity, moved_by}
use Rattle.trapezoid.specs.inner.Writing.{set_strip}
use Rattle.trapezoid.proofs.Strips.{six, length-set_strip, take-strip, drop-strip}
use Rattle.index.specs.Buckets.{up_from}
use Rattle.filling.specs.Shapes.{moved_strips}
use Rattle.filling.specs.Rooms.{laid}
use Rattle.store.specs.inner.Storing.{moved_to, together}

-- ---- six numbers set
module _ (s : List Float) (a : ℕ) (v0 v1 v2 v3 v4 v5 : Float) where
  abbrev s1 : List Float
  s1 = set s a v0

  abbrev s2 : List Float
  s2 = set s1 (a + 1) v1

  abbrev s3 : List Float
  s3 = set s2 (a + 2) v2

  abbrev s4 : List Float
  s4 = set s3 (a + 3) v3

  abbrev s5 : List Float
  s5 = set s4 (a + 4) v4

  abbrev s6 : List Float
  s6 = set s5 (a + 5) v5

  six-other : (m : ℕ) → (m ≡ a → ⊥) → (m ≡ a + 1 → ⊥) → (m ≡ a + 2 → ⊥) → (m ≡ a + 3 → ⊥) → (m ≡ a + 4 → ⊥) → (m ≡ a + 5 → ⊥) → get_or s6 m nan ≡ get_or s m nan
  six-other m h0 h1 h2 h3 h4 h5 =
      get_or-set_other s5 (a + 5) m v5 nan h5 ∙ (get_or-set_other s4 (a + 4) m v4 nan h4 ∙ (get_or-set_other s3 (a + 3) m v3 nan h3 ∙ (get_or-set_other s2 (a + 2) m v2 nan h2 ∙ (get_or-set_other s1 (a + 1) m v1 nan h1 ∙ get_or-set_other s a m v0 nan h0))))

  module _ (r : a + 6 ≤ length s) where
    l1 : length s1 ≡ length s
    l1 = length-set s a v0

    l2 : length s2 ≡ length s
    l2 = length-set s1 (a + 1) v1 ∙ l1

    l3 : length s3 ≡ length s
    l3 = length-set s2 (a + 2) v2 ∙ l2

    l4 : length s4 ≡ length s
    l4 = length-set s3 (a + 3) v3 ∙ l3

    l5 : length s5 ≡ length s
    l5 = length-set s4 (a + 4) v4 ∙ l4

    g5 : get_or s6 (a + 5) nan ≡ v5
    g5 = get_or-set_same s5 (a + 5) v5 nan (omega (arith, l5))

    g4 : get_or s6 (a + 4) nan ≡ v4
    g4 = get_or-set_other s5 (a + 5) (a + 4) v5 nan (λ x. omega (arith, x)) ∙ get_or-set_same s4 (a + 4) v4 nan (omega (arith, l4))

    g3 : get_or s6 (a + 3) nan ≡ v3
    g3 = get_or-set_other s5 (a + 5) (a + 3) v5 nan (λ x. omega (arith, x)) ∙ (get_or-set_other s4 (a + 4) (a + 3) v4 nan (λ x. omega (arith, x)) ∙ get_or-set_same s3 (a + 3) v3 nan (omega (arith, l3)))

    g2 : get_or s6 (a + 2) nan ≡ v2
    g2 = get_or-set_other s5 (a + 5) (a + 2) v5 nan (λ x. omega (arith, x)) ∙ (get_or-set_other s4 (a + 4) (a + 2) v4 nan (λ x. omega (arith, x)) ∙ (get_or-set_other s3 (a + 3) (a + 2) v3 nan (λ x. omega (arith, x)) ∙ get_or-set_same s2 (a + 2) v2 nan (omega (arith, l2))))

    g1 : get_or s6 (a + 1) nan ≡ v1
    g1 = get_or-set_other s5 (a + 5) (a + 1) v5 nan (λ x. omega (arith, x)) ∙ (get_or-set_other s4 (a + 4) (a + 1) v4 nan (λ x. omega (arith, x)) ∙ (get_or-set_other s3 (a + 3) (a + 1) v3 nan (λ x. omega (arith, x)) ∙ (get_or-set_other s2 (a + 2) (a + 1) v2 nan (λ x. omega (arith, x)) ∙ get_or-set_same s1 (a + 1) v1 nan (omega (arith, l1)))))

    g0 : get_or s6 a nan ≡ v0
    g0 = get_or-set_other s5 (a + 5) a v5 nan (λ x. omega (arith, x)) ∙ (get_or-set_other s4 (a + 4) a v4 nan (λ x. omega (arith, x)) ∙ (get_or-set_other s3 (a + 3) a v3 nan (λ x. omega (arith, x)) ∙ (get_or-set_other s2 (a + 2) a v2 nan (λ x. omega (arith, x)) ∙ (get_or-set_other s1 (a + 1) a v1 nan (λ x. omega (arith, x)) ∙ get_or-set_same s a v0 nan (omega arith)))))

abbrev strip_of : Float → Float → Float → Float → Float → Float → Trapezoid
strip_of a b c d e f = record { x0 = a; x1 = b; low0 = c; low1 = d; high0 = e; high1 = f }

six-same : (a b c d e f a' b' c' d' e' f' : Float) → a ≡ a' → b ≡ b' → c ≡ c' → d ≡ d' → e ≡ e' → f ≡ f' → strip_of a b c d e f ≡ strip_of a' b' c' d' e' f'
six-same a b c d e f a' b' c' d' e' f' p0 p1 p2 p3 p4 p5 = rw (p0, p1, p2, p3, p4, p5)

-- ---- one strip
pub store_same : (s : List Float) (i : ℕ) (q : Trapezoid) → 6 * i + 6 ≤ length s → strip_at (set_strip s i q) i ≡ q
unfolding set_strip strip_at
store_same s i q r =
    six-same _ _ _ _ _ _ q.x0 q.x1 q.low0 q.low1 q.high0 q.high1
    (g0 s (6 * i) q.x0 q.x1 q.low0 q.low1 q.high0 q.high1 r)
    (g1 s (6 * i) q.x0 q.x1 q.low0 q.low1 q.high0 q.high1 r)
    (g2 s (6 * i) q.x0 q.x1 q.low0 q.low1 q.high0 q.high1 r)
    (g3 s (6 * i) q.x0 q.x1 q.low0 q.low1 q.high0 q.high1 r)
    (g4 s (6 * i) q.x0 q.x1 q.low0 q.low1 q.high0 q.high1 r)
    (g5 s (6 * i) q.x0 q.x1 q.low0 q.low1 q.high0 q.high1 r)

store_far : (s : List Float) (i m : ℕ) (q : Trapezoid) → m < 6 * i → get_or (set_strip s i q) m nan ≡ get_or s m nan
unfolding set_strip
store_far s i m q h =
    six-other s (6 * i) q.x0 q.x1 q.low0 q.low1 q.high0 q.high1 m (λ x. omega (arith, x)) (λ x. omega (arith, x)) (λ x. omega (arith, x)) (λ x. omega (arith, x)) (λ x. omega (arith, x)) (λ x. omega (arith, x))

pub store_before : (s : List Float) (i j : ℕ) (q : Trapezoid) → j < i → strip_at (set_strip s i q) j ≡ strip_at s j
unfolding strip_at
store_before s i j q h =
    six-same _ _ _ _ _ _ _ _ _ _ _ _ (store_far s i (6 * j) q (omega arith)) (store_far s i (6 * j + 1) q (omega arith)) (store_far s i (6 * j + 2) q (omega arith)) (store_far s i (6 * j + 3) q (omega arith)) (store_far s i (6 * j + 4) q (omega arith)) (store_far s i (6 * j + 5) q (omega arith))

pub prefix_strip : (room : List Float) (n i : ℕ) → i < n → strip_at (take (6 * n) room) i ≡ strip_at room i
unfolding strip_at
prefix_strip room n i h =
    six-same _ _ _ _ _ _ _ _ _ _ _ _ (get_or-take (6 * n) room (6 * i) nan (omega arith)) (get_or-take (6 * n) room (6 * i + 1) nan (omega arith)) (get_or-take (6 * n) room (6 * i + 2) nan (omega arith))
    (get_or-take (6 * n) room (6 * i + 3) nan (omega arith)) (get_or-take (6 * n) room (6 * i + 4) nan (omega arith)) (get_or-take (6 * n) room (6 * i + 5) nan (omega arith))

-- ---- a copy's strips
module _ (apart : List Float) (x y : Float) (n : ℕ) (placed : List Float) where
  abbrev pub moved : ℕ → Trapezoid
  moved i = moved_by (strip_at apart i) x y

  abbrev pub after : ℕ → List Float
  after j = moved_to apart x y n placed j

  pub after-length : (j : ℕ) → length (after j) ≡ length placed
  unfolding moved_to
  after-length zero = refl
  after-length (suc j) = length-set_strip (after j) (n + j) (moved j) ∙ after-length j

  pub after-before : (j i : ℕ) → i < n → strip_at (after j) i ≡ strip_at placed i
  unfolding moved_to
  after-before zero i h = refl
  after-before (suc j) i h = store_before (after j) (n + j) i (moved j) (omega arith) ∙ after-before j i h

  next-before : (j i : ℕ) → i < n + j → strip_at (after (suc j)) i ≡ strip_at (after j) i
  unfolding moved_to
  next-before j i h = store_before (after j) (n + j) i (moved j) h

  next-strip : (j : ℕ) → 6 * (n + j) + 6 ≤ length (after j) → strip_at (after (suc j)) (n + j) ≡ moved j
  unfolding moved_to
  next-strip j h = store_same (after j) (n + j) (moved j) h

  pub after-strip : (j i : ℕ) → i < j → 6 * (n + j) ≤ length placed → strip_at (after j) (n + i) ≡ moved i
  after-strip zero i h l = absurd (no h)
    where
      no : i < zero → ⊥
      no h = omega arith
  after-strip (suc j) i h l = go (ltb i j) refl (λ z. after-strip j i z (omega arith)) (after-length j)
    where
      go : (b : Bool) → ltb i j ≡ b → (i < j → strip_at (after j) (n + i) ≡ moved i) → length (after j) ≡ length placed → strip_at (after (suc j)) (n + i) ≡ moved i
      go true e r q = let z = ltb-true i j e in next-before j (n + i) (omega arith) ∙ r z
      go false e r q = let z = ltb-false i j e in let w : i ≡ j = omega arith in subst (λ (m : ℕ). strip_at (after (suc j)) (n + m) ≡ moved m) (sym w) (next-strip j (omega arith))

  -- the strips that are moved, as they lie
  abbrev list : ℕ → ℕ → List Float
  list j i = flat (map moved (up_from j i))

  list_snoc : (j i : ℕ) → list (suc j) i ≡ list j i ++ six (moved (i + j))
  unfolding up_from flat
  list_snoc zero i = let e : i + 0 ≡ i = omega arith in rw e
  list_snoc (suc j) i =
      let e : suc i + j ≡ i + suc j = omega arith in
      ap (λ (l : List Float). (moved i).x0 ∷ (moved i).x1 ∷ (moved i).low0 ∷ (moved i).low1 ∷ (moved i).high0 ∷ (moved i).high1 ∷ l) (list_snoc j (suc i) ∙ ap (λ (m : ℕ). list j (suc i) ++ six (moved m)) e)

  list_length : (j i : ℕ) → length (list j i) ≡ 6 * j
  unfolding up_from flat
  list_length zero i = refl
  list_length (suc j) i = let e = list_length j (suc i) in let z : suc (suc (suc (suc (suc (suc (length (list j (suc i)))))))) ≡ 6 * suc j = omega arith in z

  take_next : (j : ℕ) → 6 * (n + j + 1) ≤ length (after j) → take (6 * (n + j + 1)) (after (suc j)) ≡ take (6 * (n + j)) (after j) ++ six (moved j)
  unfolding moved_to
  take_next j h = take-strip (after j) (n + j) (moved j) h

  take-first : take (6 * n) (after 0) ≡ take (6 * n) placed ++ list 0 0
  unfolding moved_to up_from flat
  take-first = sym (append-nil (take (6 * n) placed))

  after-take : (j : ℕ) → 6 * (n + j) ≤ length placed → take (6 * (n + j)) (after j) ≡ take (6 * n) placed ++ list j 0
  after-take zero h = first
    where
      e : n + 0 ≡ n
      e = omega arith

      first : take (6 * (n + 0)) (after 0) ≡ take (6 * n) placed ++ list 0 0
      first = ap (λ (m : ℕ). take (6 * m) (after 0)) e ∙ take-first
  after-take (suc j) h =
      let e : n + suc j ≡ n + j + 1 = omega arith in
      let l = after-length j in
      ap (λ (m : ℕ). take (6 * m) (after (suc j))) e
      ∙ (take_next j (omega arith)
      ∙ (ap (λ (l : List Float). l ++ six (moved j)) (after-take j (omega arith))
      ∙ (append_assoc (take (6 * n) placed) (list j 0) (six (moved j))
      ∙ ap (λ (l : List Float). take (6 * n) placed ++ l) (sym (list_snoc j 0 ∙ ap (λ (m : ℕ). list j 0 ++ six (moved m)) (let z : 0 + j ≡ j = omega arith in z))))))

  after-drop : (j m : ℕ) → 6 * (n + j) ≤ m → drop m (after j) ≡ drop m placed
  unfolding moved_to
  after-drop zero m h = refl
  after-drop (suc j) m h = drop-strip (after j) (n + j) m (moved j) (omega arith) ∙ after-drop j m (omega arith)

  abbrev k : ℕ
  k = capacity apart

  abbrev strips : List Float
  strips = together apart x y n placed

  strips_are : strips ≡ take (6 * n) placed ++ list k 0
  unfolding moved_strips
  strips_are = refl

  strips-length : 6 * n ≤ length placed → length strips ≡ 6 * (n + k)
  strips-length h =
      let a = length-take-le (6 * n) placed h in
      let b = list_length k 0 in
      ap length strips_are ∙ (length-append (take (6 * n) placed) (list k 0) ∙ (let z : length (take (6 * n) placed) + length (list k 0) ≡ 6 * (n + k) = omega arith in z))

  pub strips-count : 6 * n ≤ length placed → capacity strips ≡ n + k
  unfolding capacity
  strips-count h = let e = strips-length h in let z : length strips / 6 ≡ n + k = omega arith in z

  module _ (fits : 6 * (n + k) ≤ length placed) where
    pub strips-take : strips ≡ take (6 * (n + k)) (after k)
    strips-take = strips_are ∙ sym (after-take k fits)

    -- the room begins with them, and the rest is as it was
    pub after-laid : after k ≡ laid strips placed
    unfolding laid
    after-laid =
        sym (take-append-drop (6 * (n + k)) (after k))
        ∙ (ap (λ (l : List Float). l ++ drop (6 * (n + k)) (after k)) (sym strips-take)
        ∙ ap (λ (l : List Float). strips ++ l) (after-drop k (6 * (n + k)) (omega arith) ∙ ap (λ (m : ℕ). drop m placed) (sym (strips-length (omega arith)))))

    pub strips-same : (i : ℕ) → i < n + k → strip_at strips i ≡ strip_at (after k) i
    strips-same i h = ap (λ (l : List Float). strip_at l i) strips-take ∙ prefix_strip (after k) (n + k) i h
