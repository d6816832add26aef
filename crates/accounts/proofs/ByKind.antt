-- The positions by kind, then copy: the standing copies, counted and laid one by one. Assumes nothing.
use Rattle.std.proofs.Common.{◌≡◌, ℕ, zero, suc, ◌+◌, ◌-◌, ◌*◌, ◌<◌, ◌≤◌, Bool, true, false, eqb, List, [], ◌∷◌, ◌++◌, map, length, get_or, take, drop, sym, refl, ap, ◌∙◌, subst, ap₂, inl, inr, append-nil, add-one, arith, length-append, take-append-drop, take-add, eq-eqb, ne_eqb}
use mathlib.Core.List.{flat_map}
use lib.Ieee.{Float, nan}
use Rattle.numbers.proofs.Truth.{below_or_not, same_or_not}
use Rattle.index.specs.Buckets.{up_from}
use Rattle.index.proofs.Flat.{flat_snoc}
use Rattle.filling.specs.declared.State.{State}
use Rattle.filling.specs.Shapes.{Copy, Standing}
use Rattle.filling.specs.Rooms.{laid}
use Rattle.filling.specs.State.{copy_at, stands_at, misses_at, standing_to, without_to}
use Rattle.filling.specs.Order.{count_in}
use Rattle.filling.specs.Accounts.{Position, positions_of_kind, flat_positions}
use Rattle.filling.proofs.CountIn.{count_same, count-other, count-append}
use Rattle.accounts.specs.inner.Counting.{stands, misses, sum_to, count_if, kind_to, stands_in, misses_in}
use Rattle.accounts.specs.inner.Laying.{set_position, put_position}
use Rattle.accounts.proofs.Counts.{stands-none, stands-most, sum-few, sum-rise, kind-here, kind-other, kind-rise, kinds_few}
use Rattle.accounts.proofs.Segments.{position-long, position-after, position-before, segment_next, put-none-room}

-- ---- lists

pub flat_append : (ps qs : List Position) → flat_positions (ps ++ qs) ≡ flat_positions ps ++ flat_positions qs
unfolding flat_positions
flat_append [] qs = refl
flat_append (p ∷ ps) qs = rw (flat_append ps qs)

pub flat-long : (ps : List Position) → length (flat_positions ps) ≡ 6 * length ps
unfolding flat_positions
flat-long [] = refl
flat-long (p ∷ ps) = let e = flat-long ps in omega arith

kind_yes : (k n : ℕ) (c : Standing) (cs : List Standing) → c.copy.kind ≡ k → positions_of_kind k n (c ∷ cs)
    ≡ record { kind = k; copy = n; orientation = c.orientation; x = c.x; y = c.y; gap = c.gap } ∷ positions_of_kind k (suc n) cs
unfolding positions_of_kind
kind_yes k n c cs e = rw (eq-eqb c.copy.kind k e, positions_of_kind)

kind_no : (k n : ℕ) (c : Standing) (cs : List Standing) → (c.copy.kind ≡ k → ⊥) → positions_of_kind k n (c ∷ cs) ≡ positions_of_kind k n cs
unfolding positions_of_kind
kind_no k n c cs e = rw (ne_eqb c.copy.kind k e, positions_of_kind)

kind_nil : (k n : ℕ) → positions_of_kind k n [] ≡ []
unfolding positions_of_kind
kind_nil k n = refl

positions_more : (k n : ℕ) (cs ds : List Standing) → positions_of_kind k n (cs ++ ds) ≡ positions_of_kind k n cs ++ positions_of_kind k (n + length (positions_of_kind k n cs)) ds
positions_more k n [] ds = rw (kind_nil k n) (ap (λ (m : ℕ). positions_of_kind k m ds) (omega arith))
positions_more k n (c ∷ cs) ds = elim (same_or_not c.copy.kind k) [
  | inl e ↦
      rw (kind_yes k n c (cs ++ ds) e, kind_yes k n c cs e, positions_more k (suc n) cs ds)
      (let z : suc n + length (positions_of_kind k (suc n) cs) ≡ n + suc (length (positions_of_kind k (suc n) cs)) = omega arith in rw z)
  | inr e ↦ rw (kind_no k n c (cs ++ ds) e, kind_no k n c cs e, positions_more k n cs ds)
]

count-zero : (b : Bool) → count_if b 0 ≡ 0
unfolding count_if
count-zero true = refl
count-zero false = refl

-- ---- the copies of a state

module _ (s : State) where
  -- the order and the layout's numbers
  abbrev number : ℕ → ℕ
  number i = get_or s.layout.orientation i 0

  abbrev kind_at : ℕ → ℕ
  kind_at i = get_or s.order i 0

  abbrev stands_all : ℕ → ℕ
  stands_all = stands_in s.layout.orientation

  abbrev misses_all : ℕ → ℕ
  misses_all = misses_in s.layout.orientation

  abbrev stander : ℕ → ℕ → Standing
  stander i o = record { copy = copy_at s i; orientation = o; x = get_or s.layout.x i nan; y = get_or s.layout.y i nan; gap = get_or s.layout.gap i nan }

  standing-next : (i : ℕ) → standing_to s (i + 1) ≡ standing_to s i ++ stands_at s i (number i)
  unfolding standing_to
  standing-next i = rw (add-one i)

  one-count : (k m i o : ℕ) → length (positions_of_kind k m (stands_at s i o)) ≡ count_if (eqb (kind_at i) k) (stands o)
  unfolding stands_at copy_at stands count_if
  one-count k m i zero = rw (kind_nil k m) (sym (count-zero (eqb (kind_at i) k)))
  one-count k m i (suc o) = elim (same_or_not (kind_at i) k) [
    | inl e ↦ rw (kind_yes k m (stander i o) [] e, kind_nil k (suc m), eq-eqb (kind_at i) k e)
    | inr e ↦ rw (kind_no k m (stander i o) [] e, kind_nil k m, ne_eqb (kind_at i) k e)
  ]

  pub kind-count : (k n : ℕ) → length (positions_of_kind k 0 (standing_to s n)) ≡ kind_to stands_all s.order k n
  unfolding kind_to standing_to
  kind-count k zero = rw (kind_nil k 0)
  kind-count k (suc n) =
      rw (positions_more k 0 (standing_to s n) (stands_at s n (number n)), length-append (positions_of_kind k 0 (standing_to s n)) (positions_of_kind k (0 + length (positions_of_kind k 0 (standing_to s n))) (stands_at s n (number n))), kind-count k n)
      (ap (λ (m : ℕ). kind_to stands_all s.order k n + m) (one-count k (0 + kind_to stands_all s.order k n) n (number n)))

  standing-one : (i o : ℕ) → length (stands_at s i o) ≡ stands o
  unfolding stands_at stands
  standing-one i zero = refl
  standing-one i (suc o) = refl

  pub standing-count : (n : ℕ) → length (standing_to s n) ≡ sum_to stands_all n
  unfolding standing_to sum_to
  standing-count zero = refl
  standing-count (suc n) = rw (length-append (standing_to s n) (stands_at s n (number n)), standing-count n, standing-one n (number n))

  without-one : (i o : ℕ) → length (misses_at s i o) + stands o ≡ 1
  unfolding misses_at stands
  without-one i zero = refl
  without-one i (suc o) = refl

  without-rest : (n : ℕ) → length (without_to s n) + sum_to stands_all n ≡ n
  unfolding without_to sum_to
  without-rest zero = refl
  without-rest (suc n) = let l = length-append (without_to s n) (misses_at s n (number n)) in let a = without-rest n in let b = without-one n (number n) in omega arith

  pub without-count : (n : ℕ) → n - sum_to stands_all n ≡ length (without_to s n)
  without-count n = let a = without-rest n in omega arith

  map-append : (cs ds : List Copy) → map (λ c. c.kind) (cs ++ ds) ≡ map (λ c. c.kind) cs ++ map (λ c. c.kind) ds
  map-append [] ds = refl
  map-append (c ∷ cs) ds = ap (λ (l : List ℕ). c.kind ∷ l) (map-append cs ds)

  missing_one : (k i o : ℕ) → count_in k (map (λ c. c.kind) (misses_at s i o)) ≡ count_if (eqb (kind_at i) k) (misses o)
  unfolding misses_at copy_at misses count_if count_in
  missing_one k i zero = elim (same_or_not (kind_at i) k) [
    | inl e ↦ rw (eq-eqb (kind_at i) k e) (count_same k (kind_at i) [] (eq-eqb k (kind_at i) (sym e)))
    | inr e ↦ rw (ne_eqb (kind_at i) k e) (count-other k (kind_at i) [] (ne_eqb k (kind_at i) (λ z. e (sym z))))
  ]
  missing_one k i (suc o) = sym (count-zero (eqb (kind_at i) k))

  pub missing_count : (k n : ℕ) → count_in k (map (λ c. c.kind) (without_to s n)) ≡ kind_to misses_all s.order k n
  unfolding kind_to without_to count_in
  missing_count k zero = refl
  missing_count k (suc n) =
      rw (map-append (without_to s n) (misses_at s n (number n)), count-append k (map (λ c. c.kind) (without_to s n)) (map (λ c. c.kind) (misses_at s n (number n))), missing_count k n, missing_one k n (number n))

  -- ---- laying the first n copies

  module _ (n : ℕ) where
    abbrev pub start_of : ℕ → ℕ
    start_of k = sum_to (λ q. kind_to stands_all s.order q n) k

    start-suc : (k : ℕ) → start_of (suc k) ≡ start_of k + kind_to stands_all s.order k n
    unfolding sum_to
    start-suc k = refl

    pub start-most : (k : ℕ) → start_of k ≤ n
    start-most k = let a = kinds_few stands_all s.order k n in let b = sum-few stands_all n (λ i. stands-most (number i)) in omega arith

    -- each kind's part has its positions among the first i copies, and nothing else has changed
    pub record Filled (before room : List Float) (i : ℕ) : Type 0 where
      pub long : length room ≡ length before
      pub part : (k : ℕ) → take (6 * kind_to stands_all s.order k i) (drop (6 * start_of k) room) ≡ flat_positions (positions_of_kind k 0 (standing_to s i))
      pub rest : (m : ℕ) → ((q : ℕ) → q < n → kind_at q < m) → drop (6 * start_of m) room ≡ drop (6 * start_of m) before

    pub filled_none : (room : List Float) → Filled room room 0
    unfolding kind_to standing_to positions_of_kind flat_positions
    filled_none room = record { long = refl; part = λ k. refl; rest = λ m h. refl }

    -- where the next position of a kind goes
    module _ (i : ℕ) (h : i < n) where
      abbrev kind : ℕ
      kind = kind_at i

      abbrev copy : ℕ
      copy = kind_to stands_all s.order (kind_at i) i

      room-left : stands (number i) ≡ 1 → start_of kind + copy + 1 ≤ start_of (suc kind)
      room-left e =
          let a = kind-here stands_all s.order i in
          let b = kind-rise stands_all s.order kind (i + 1) n (omega arith) in
          let d = start-suc kind in
          omega arith

      pub place-fits : 6 * (start_of kind + copy) + 6 * stands (number i) ≤ 6 * n
      place-fits = elim (below_or_not 0 (stands (number i))) [
        | inl l ↦ let m = stands-most (number i) in let a = room-left (omega arith) in let b = start-most (suc kind) in omega arith
        | inr l ↦ let a = kind-rise stands_all s.order kind i n (omega arith) in let d = start-suc kind in let b = start-most (suc kind) in omega arith
      ]

      -- a copy without a place leaves everything as it is
      kind_still : (k : ℕ) → number i ≡ 0 → kind_to stands_all s.order k (i + 1) ≡ kind_to stands_all s.order k i
      kind_still k e = elim (same_or_not k kind) [
        | inl z ↦ rw z (let a = kind-here stands_all s.order i in let b = stands-none (number i) e in omega arith)
        | inr z ↦ kind-other stands_all s.order k i z
      ]

      standing_still : number i ≡ 0 → standing_to s (i + 1) ≡ standing_to s i
      unfolding stands_at
      standing_still e = standing-next i ∙ (ap (λ (o : ℕ). standing_to s i ++ stands_at s i o) e ∙ append-nil (standing_to s i))

      filled-without : (before room : List Float) → number i ≡ 0 → Filled before room i → Filled before room (i + 1)
      filled-without before room e f =
          record {
            long = f.long;
            part = λ k. subst (λ (m : ℕ). take (6 * m) (drop (6 * start_of k) room) ≡ flat_positions (positions_of_kind k 0 (standing_to s (i + 1))))
                (sym (kind_still k e))
                (subst (λ (l : List Standing). take (6 * kind_to stands_all s.order k i) (drop (6 * start_of k) room) ≡ flat_positions (positions_of_kind k 0 l))
                (sym (standing_still e)) (f.part k));
            rest = f.rest;
          }

      -- a copy that stands is the next position of its kind
      abbrev one : ℕ → Position
      one o =
          record { kind = kind; copy = copy; orientation = o; x = get_or s.layout.x i nan; y = get_or s.layout.y i nan; gap = get_or s.layout.gap i nan }

      standing_more : (o : ℕ) → number i ≡ suc o → standing_to s (i + 1) ≡ standing_to s i ++ (stander i o ∷ [])
      unfolding stands_at
      standing_more o e = standing-next i ∙ ap (λ (o : ℕ). standing_to s i ++ stands_at s i o) e

      positions-same : (o k : ℕ) → number i ≡ suc o → (k ≡ kind → ⊥) → positions_of_kind k 0 (standing_to s (i + 1)) ≡ positions_of_kind k 0 (standing_to s i)
      unfolding copy_at
      positions-same o k e z =
          rw (
            standing_more o e,
            positions_more k 0 (standing_to s i) (stander i o ∷ []),
            kind_no k (0 + length (positions_of_kind k 0 (standing_to s i)))
                (stander i o) [] (λ y. z (sym y)),
            kind_nil k (0 + length (positions_of_kind k 0 (standing_to s i))),
          )
          (append-nil (positions_of_kind k 0 (standing_to s i)))

      positions-next : (o : ℕ) → number i ≡ suc o → positions_of_kind kind 0 (standing_to s (i + 1)) ≡ positions_of_kind kind 0 (standing_to s i) ++ (one o ∷ [])
      unfolding copy_at
      positions-next o e =
          let a : 0 + length (positions_of_kind kind 0 (standing_to s i)) ≡ copy = let b = kind-count kind i in omega arith in
          rw (
            standing_more o e,
            positions_more kind 0 (standing_to s i) (stander i o ∷ []),
            a,
            kind_yes kind copy (stander i o) [] refl,
            kind_nil kind (suc copy),
          )

      -- where the parts of two kinds lie
      part-before : (k : ℕ) → k < kind → 6 * start_of k + 6 * kind_to stands_all s.order k i ≤ 6 * (start_of kind + copy)
      part-before k l =
          let a = kind-rise stands_all s.order k i n (omega arith) in
          let b = start-suc k in
          let d = sum-rise (λ q. kind_to stands_all s.order q n) (suc k) kind l in
          omega arith

      part-after : (k : ℕ) → kind < k → stands (number i) ≡ 1 → 6 * (start_of kind + copy) + 6 ≤ 6 * start_of k
      part-after k l e =
          let a = room-left e in
          let d = sum-rise (λ q. kind_to stands_all s.order q n) (suc kind) k l in
          omega arith

      stands_one : (o : ℕ) → number i ≡ suc o → stands (number i) ≡ 1
      unfolding stands
      stands_one o e = rw e

      part_same : (before room : List Float) (o k : ℕ) → number i ≡ suc o → (k ≡ kind → ⊥) → Filled before room i
          → take (6 * kind_to stands_all s.order k (i + 1)) (drop (6 * start_of k) (set_position room (start_of kind + copy) (one o)))
          ≡ flat_positions (positions_of_kind k 0 (standing_to s (i + 1)))
      part_same before room o k e z f =
          rw (kind-other stands_all s.order k i z, positions-same o k e z)
          (elim (below_or_not k kind) [
            | inl l ↦ position-before room (start_of kind + copy) (one o) (6 * start_of k) (6 * kind_to stands_all s.order k i) (part-before k l)
            | inr l ↦ ap (take (6 * kind_to stands_all s.order k i)) (position-after room (start_of kind + copy) (one o) (6 * start_of k)
                (part-after k (above l) (stands_one o e)))
          ] ∙ f.part k)
        where
          above : kind ≤ k → kind < k
          above l = elim (below_or_not kind k) [ inl m ↦ m | inr m ↦ absurd (z (omega arith)) ]

      part-next : (before room : List Float) (o : ℕ) → number i ≡ suc o → 6 * n ≤ length room → Filled before room i
          → take (6 * kind_to stands_all s.order kind (i + 1)) (drop (6 * start_of kind) (set_position room (start_of kind + copy) (one o)))
          ≡ flat_positions (positions_of_kind kind 0 (standing_to s (i + 1)))
      part-next before room o e w f =
          let u = stands_one o e in
          let a : kind_to stands_all s.order kind (i + 1) ≡ copy + 1 = let b = kind-here stands_all s.order i in omega arith in
          let g : 6 * (start_of kind + copy) + 6 ≤ length room = let b = place-fits in omega arith in
          rw (a, positions-next o e, flat_append (positions_of_kind kind 0 (standing_to s i)) (one o ∷ []))
          (segment_next room (start_of kind) copy (one o) (flat_positions (positions_of_kind kind 0 (standing_to s i))) g (f.part kind))

      filled-with : (before room : List Float) (o : ℕ) → number i ≡ suc o → 6 * n ≤ length room → Filled before room i
          → Filled before (set_position room (start_of kind + copy) (one o)) (i + 1)
      filled-with before room o e w f =
          record {
            long = position-long room (start_of kind + copy) (one o) ∙ f.long;
            part = λ k. elim (same_or_not k kind) [
              | inl z ↦ subst (λ (q : ℕ). take (6 * kind_to stands_all s.order q (i + 1))
                  (drop (6 * start_of q) (set_position room (start_of kind + copy) (one o))) ≡ flat_positions (positions_of_kind q 0 (standing_to s (i + 1)))) (sym z)
                  (part-next before room o e w f)
              | inr z ↦ part_same before room o k e z f
            ];
            rest = λ m g. position-after room (start_of kind + copy) (one o) (6 * start_of m) (part-after m (g i h) (stands_one o e)) ∙ f.rest m g;
          }

      abbrev put_next : List Float → List Float
      put_next room =
          put_position (number i) room (start_of kind + copy) kind copy (get_or s.layout.x i nan) (get_or s.layout.y i nan) (get_or s.layout.gap i nan)

      put_as : (room : List Float) (o : ℕ) → number i ≡ suc o → set_position room (start_of kind + copy) (one o) ≡ put_next room
      unfolding put_position
      put_as room o e = rw e

      pub filled_next : (before room : List Float) → 6 * n ≤ length room → Filled before room i → Filled before (put_next room) (i + 1)
      filled_next before room w f = go (number i) refl
        where
          go : (o : ℕ) → number i ≡ o → Filled before (put_next room) (i + 1)
          go zero e = subst (λ (r : List Float). Filled before r (i + 1)) (put-none-room room (start_of kind + copy) kind copy (number i)
              (get_or s.layout.x i nan) (get_or s.layout.y i nan) (get_or s.layout.gap i nan) e) (filled-without before room e f)
          go (suc o) e = subst (λ (r : List Float). Filled before r (i + 1)) (put_as room o e) (filled-with before room o e w f)

    -- ---- all of them

    laid_to : (before room : List Float) (m : ℕ) → Filled before room n → take (6 * start_of m) room
        ≡ flat_positions (flat_map (λ k. positions_of_kind k 0 (standing_to s n)) (up_from m 0))
    unfolding flat_map up_from sum_to flat_positions
    laid_to before room zero f = refl
    laid_to before room (suc m) f =
        let a : 6 * start_of (suc m) ≡ 6 * start_of m + 6 * kind_to stands_all s.order m n = let b = start-suc m in omega arith in
        let z : 0 + m ≡ m = omega arith in
        ap (λ (k : ℕ). take k room) a
        ∙ (take-add (6 * start_of m) (6 * kind_to stands_all s.order m n) room
        ∙ (ap₂ ◌++◌ (laid_to before room m f) (f.part m)
        ∙ (sym (flat_append (flat_map (λ k. positions_of_kind k 0 (standing_to s n)) (up_from m 0)) (positions_of_kind m 0 (standing_to s n)))
        ∙ ap flat_positions (sym (flat_snoc (λ k. positions_of_kind k 0 (standing_to s n)) m 0 ∙ ap (λ (k : ℕ). flat_map (λ k. positions_of_kind k 0 (standing_to s n)) (up_from m 0) ++ positions_of_kind k 0 (standing_to s n)) z)))))

    pub all_long : (m : ℕ) → length (flat_map (λ k. positions_of_kind k 0 (standing_to s n)) (up_from m 0)) ≡ start_of m
    unfolding flat_map up_from sum_to
    all_long zero = refl
    all_long (suc m) =
        let z : 0 + m ≡ m = omega arith in
        rw (flat_snoc (λ k. positions_of_kind k 0 (standing_to s n)) m 0, z, length-append (flat_map (λ k. positions_of_kind k 0 (standing_to s n)) (up_from m 0)) (positions_of_kind m 0 (standing_to s n)), all_long m, kind-count m n) (sym (start-suc m))

    pub filled-end : (before room : List Float) (m : ℕ) → ((q : ℕ) → q < n → kind_at q < m) → Filled before room n → room ≡ laid (flat_positions (flat_map (λ k. positions_of_kind k 0 (standing_to s n)) (up_from m 0))) before
    unfolding laid
    filled-end before room m g f =
        let ps = flat_map (λ k. positions_of_kind k 0 (standing_to s n)) (up_from m 0) in
        let e : length (flat_positions ps) ≡ 6 * start_of m = flat-long ps ∙ ap (λ (k : ℕ). 6 * k) (all_long m) in
        sym (take-append-drop (6 * start_of m) room) ∙ ap₂ ◌++◌ (laid_to before room m f) (f.rest m g ∙ ap (λ (k : ℕ). drop k before) (sym e))
