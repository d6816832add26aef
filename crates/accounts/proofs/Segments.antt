-- Positions stored in their room: the part that each kind has, and what is left alone. Assumes nothing.
use Rattle.std.proofs.Common.{◌≡◌, ℕ, zero, suc, ◌+◌, ◌-◌, ◌*◌, ◌≤◌, List, [], ◌∷◌, ◌++◌, length, get_or, take, drop, set, refl, ap, ◌∙◌, subst, append_assoc, arith, length-take-le, drop-drop, drop-set-lt, take-add, drop_at}
use lib.Seq.{sets, sets-eq, length-sets, take-set-le, drop-set-add, set-get_or}
use lib.Ieee.{Float}
use Rattle.filling.specs.Accounts.{Position, flat_positions}
use Rattle.accounts.specs.inner.Counting.{stands}
use Rattle.accounts.specs.inner.Laying.{set_position, put_position}

-- ---- a run of stores

module _ {A : Type 0} where
  drop_sets : (vs l : List A) (i a : ℕ) → i + length vs ≤ a → drop a (sets l i vs) ≡ drop a l
  drop_sets [] l i a h = refl
  drop_sets (v ∷ vs) l i a h = drop_sets vs (set l i v) (suc i) a (omega arith) ∙ drop-set-lt a l i v (omega arith)

  window_set : (l : List A) (i a n : ℕ) (v : A) → a + n ≤ i → take n (drop a (set l i v)) ≡ take n (drop a l)
  window_set l i a n v h =
      let e : a + (i - a) ≡ i = omega arith in
      subst (λ (k : ℕ). take n (drop a (set l k v)) ≡ take n (drop a l)) e
      (ap (take n) (drop-set-add a l (i - a) v) ∙ take-set-le n (drop a l) (i - a) v (omega arith))

  window_sets : (vs l : List A) (i a n : ℕ) → a + n ≤ i → take n (drop a (sets l i vs)) ≡ take n (drop a l)
  window_sets [] l i a n h = refl
  window_sets (v ∷ vs) l i a n h = window_sets vs (set l i v) (suc i) a n (omega arith) ∙ window_set l i a n v h

-- ---- one position

stored : (room : List Float) (p : ℕ) (q : Position) → set_position room p q ≡ sets room (6 * p) (flat_positions (q ∷ []))
unfolding set_position flat_positions
stored room p q =
    let a : 6 * p + 1 ≡ suc (6 * p) = omega arith in
    let b : 6 * p + 2 ≡ suc (suc (6 * p)) = omega arith in
    let d : 6 * p + 3 ≡ suc (suc (suc (6 * p))) = omega arith in
    let e : 6 * p + 4 ≡ suc (suc (suc (suc (6 * p)))) = omega arith in
    let f : 6 * p + 5 ≡ suc (suc (suc (suc (suc (6 * p))))) = omega arith in
    rw (a, b, d, e, f)

one-long : (q : Position) → length (flat_positions (q ∷ [])) ≡ 6
unfolding flat_positions
one-long q = refl

module _ (room : List Float) (p : ℕ) (q : Position) where
  pub position-long : length (set_position room p q) ≡ length room
  position-long = rw stored (length-sets room (6 * p) (flat_positions (q ∷ [])))

  pub position-after : (a : ℕ) → 6 * p + 6 ≤ a → drop a (set_position room p q) ≡ drop a room
  position-after a h = rw (stored room p q) (drop_sets (flat_positions (q ∷ [])) room (6 * p) a (rw (one-long q) h))

  pub position-before : (a n : ℕ) → a + n ≤ 6 * p → take n (drop a (set_position room p q)) ≡ take n (drop a room)
  position-before a n h = rw (stored room p q) (window_sets (flat_positions (q ∷ [])) room (6 * p) a n h)

  pub position_here : 6 * p + 6 ≤ length room → take 6 (drop (6 * p) (set_position room p q)) ≡ flat_positions (q ∷ [])
  unfolding flat_positions
  position_here h =
      let v = flat_positions (q ∷ []) in
      ap (λ (l : List Float). take 6 (drop (6 * p) l)) (stored room p q ∙ (sets-eq v room (6 * p) (omega arith) ∙ append_assoc (take (6 * p) room) v
      (drop (6 * p + length v) room)))
      ∙ ap (take 6) (drop_at (take (6 * p) room) (v ++ drop (6 * p + length v) room) (6 * p) (length-take-le (6 * p) room (omega arith)))

-- a kind's positions, from s on, with one more
pub segment_next : (room : List Float) (s c : ℕ) (q : Position) (ps : List Float) → 6 * (s + c) + 6 ≤ length room → take (6 * c) (drop (6 * s) room) ≡ ps
    → take (6 * (c + 1)) (drop (6 * s) (set_position room (s + c) q)) ≡ ps ++ flat_positions (q ∷ [])
segment_next room s c q ps h e =
    let a : 6 * (c + 1) ≡ 6 * c + 6 = omega arith in
    let b : 6 * s + 6 * c ≡ 6 * (s + c) = omega arith in
    rw a
    (take-add (6 * c) 6 (drop (6 * s) (set_position room (s + c) q))
    ∙ (ap (λ (l : List Float). l ++ take 6 (drop (6 * c) (drop (6 * s) (set_position room (s + c) q))))
    (position-before room (s + c) q (6 * s) (6 * c) (omega arith) ∙ e)
    ∙ ap (λ (l : List Float). ps ++ l)
    (ap (take 6) (drop-drop (6 * c) (6 * s) (set_position room (s + c) q)) ∙ (ap (λ (n : ℕ). take 6 (drop n (set_position room (s + c) q))) b
    ∙ position_here room (s + c) q h))))

-- ---- a copy that has no place, and one that stands

pub put-none : (copies : List ℕ) (k number : ℕ) → number ≡ 0 → copies ≡ set copies k (get_or copies k 0 + stands number)
unfolding stands
put-none copies k number e = let z : get_or copies k 0 + 0 ≡ get_or copies k 0 = omega arith in rw (e, z, set-get_or copies k 0)

pub put-none-room : (room : List Float) (p k c number : ℕ) (x y gap : Float) → number ≡ 0 → room ≡ put_position number room p k c x y gap
unfolding put_position
put-none-room room p k c number x y gap e = rw e

pub put_some : (copies : List ℕ) (k number : ℕ) → (number ≡ 0 → ⊥) → set copies k (get_or copies k 0 + 1) ≡ set copies k (get_or copies k 0 + stands number)
unfolding stands
put_some copies k zero h = absurd (h refl)
put_some copies k (suc o) h = refl

pub put-some-room : (room : List Float) (p k c number : ℕ) (x y gap : Float) → (number ≡ 0 → ⊥)
    → set_position room p (record { kind = k; copy = c; orientation = number - 1; x = x; y = y; gap = gap }) ≡ put_position number room p k c x y gap
unfolding put_position
put-some-room room p k c zero x y gap h = absurd (h refl)
put-some-room room p k c (suc o) x y gap h = let z : suc o - 1 ≡ o = omega arith in rw z
