-- The look counts by slot. Assumes nothing.
use Rattle.std.proofs.Common.{◌≡◌, ℕ, zero, suc, ◌+◌, ◌*◌, ◌/◌, ◌%◌, ◌<◌, ◌≤◌, List, [], ◌∷◌, map, length, get_or, set, sym, refl, ap, ◌∙◌, inl, inr, arith, get_or-set_other, get_or-set_same, le-ltb, lt-ltb}
use lib.ListN.{length-map, get_or-map, get_or-eq_default}
use lib.Ieee.{Float}
use Rattle.numbers.proofs.Truth.{below_or_not, same_or_not}
use Rattle.index.specs.Buckets.{up_from}
use Rattle.index.proofs.Flat.{length-up_from, get_d_up_from}
use Rattle.job.specs.Jobs.{Job}
use Rattle.filling.specs.declared.State.{State}
use Rattle.filling.specs.Search.{Track}
use Rattle.filling.specs.State.{by_slot, orientation_counts, slot_rows, track_at, tracks_of}
use Rattle.filling.specs.Accounts.{looks_by_slot, look_counts_of}
use Rattle.filling.proofs.Reading.{up_from_list, up_from-same, kinds_many}
use Rattle.accounts.specs.tables.inner.Tabled.{Tabled}
use Rattle.accounts.specs.inner.Counting.{look_in}

-- ---- one slot

module _ (rows : List ℕ) (kinds : ℕ) (looks : List ℕ) (i : ℕ) where
  pub no_kind : kinds ≤ i / 16 → 0 ≡ look_in rows kinds looks i
  unfolding look_in
  no_kind h = rw (le-ltb (i / 16) kinds h)

  pub no_orientation : i / 16 < kinds → get_or rows (4 * (i / 16) + 3) 0 ≤ i % 16 → 0 ≡ look_in rows kinds looks i
  unfolding look_in
  no_orientation h l = rw (lt-ltb (i / 16) kinds h, le-ltb (i % 16) (get_or rows (4 * (i / 16) + 3) 0) l)

  pub has_orientation : i / 16 < kinds → i % 16 < get_or rows (4 * (i / 16) + 3) 0 → get_or looks i 0 ≡ look_in rows kinds looks i
  unfolding look_in
  has_orientation h l = rw (lt-ltb (i / 16) kinds h, lt-ltb (i % 16) (get_or rows (4 * (i / 16) + 3) 0) l)

-- ---- the table

pub table-next : (f : ℕ → ℕ) (t : List ℕ) (i v : ℕ) → i < length t → v ≡ f i → ((q : ℕ) → q < i → get_or t q 0 ≡ f q) → (q : ℕ) → q < i + 1 → get_or (set t i v) q 0 ≡ f q
table-next f t i v h e u q l = elim (same_or_not q i) [
  | inl z ↦ rw z (get_or-set_same t i v 0 h ∙ e)
  | inr z ↦ get_or-set_other t i q v 0 z ∙ u q (elim (below_or_not q i) [ inl m ↦ m | inr m ↦ absurd (z (omega arith)) ])
]

pub table-end : (f : ℕ → ℕ) (t : List ℕ) → length t ≡ 1024 → ((q : ℕ) → q < 1024 → get_or t q 0 ≡ f q) → t ≡ by_slot f
unfolding by_slot
table-end f t e u = sym (up_from_list f t 1024 0 e (λ q h. sym (u q h)))

-- ---- what the definition says of a slot

pub row_at_lem : {A : Type 0} (f : ℕ → A) (c : ℕ) (ns : List ℕ) (k : ℕ) → get_or (slot_rows f c ns) k [] ≡ map (λ o. f (16 * (c + k) + o)) (up_from (get_or ns k 0) 0)
unfolding slot_rows up_from
row_at_lem f c [] k = refl
row_at_lem f c (n ∷ ns) zero = let e : c + 0 ≡ c = omega arith in rw e
row_at_lem f c (n ∷ ns) (suc k) = let e : suc c + k ≡ c + suc k = omega arith in row_at_lem f (suc c) ns k ∙ ap (λ (m : ℕ). map (λ o. f (16 * m + o)) (up_from (get_or ns k 0) 0)) e

module _ (j : Job) (s : State) where
  abbrev track : ℕ → Track
  track = track_at s.next_column s.look_counts

  looks_row : (k : ℕ) → get_or (look_counts_of j s) k [] ≡ map (λ t. t.look_count) (map (λ o. track (16 * (0 + k) + o)) (up_from (get_or (orientation_counts j) k 0) 0))
  unfolding look_counts_of tracks_of
  looks_row k = get_or-map (map (λ t. t.look_count)) (slot_rows track 0 (orientation_counts j)) k [] ∙ ap (map (λ t. t.look_count)) (row_at_lem track 0 (orientation_counts j) k)

  looks-length : (k : ℕ) → length (get_or (look_counts_of j s) k []) ≡ get_or (orientation_counts j) k 0
  looks-length k =
      ap length (looks_row k)
      ∙ (length-map (map (λ o. track (16 * (0 + k) + o)) (up_from (get_or (orientation_counts j) k 0) 0)) (λ t. t.look_count)
      ∙ (length-map (up_from (get_or (orientation_counts j) k 0) 0) (λ o. track (16 * (0 + k) + o)) ∙ length-up_from (get_or (orientation_counts j) k 0) 0))

  looks_had : (k o : ℕ) → o < get_or (orientation_counts j) k 0 → get_or (get_or (look_counts_of j s) k []) o 0 ≡ get_or s.look_counts (16 * k + o) 0
  unfolding track_at
  looks_had k o h =
      let e : 16 * (0 + k) + (0 + o) ≡ 16 * k + o = omega arith in
      ap (λ (l : List ℕ). get_or l o 0) (looks_row k)
      ∙ (get_or-map (λ t. t.look_count) (map (λ o. track (16 * (0 + k) + o)) (up_from (get_or (orientation_counts j) k 0) 0)) o (record { next_column = (track 0).next_column; look_count = 0 })
      ∙ (ap (λ (t : Track). t.look_count) (get_d_up_from (λ o. track (16 * (0 + k) + o)) (get_or (orientation_counts j) k 0) 0 o (record { next_column = (track 0).next_column; look_count = 0 }) h)
      ∙ ap (λ (q : ℕ). get_or s.look_counts q 0) e))

  looks_lacked : (k o : ℕ) → get_or (orientation_counts j) k 0 ≤ o → get_or (get_or (look_counts_of j s) k []) o 0 ≡ 0
  looks_lacked k o h = get_or-eq_default (get_or (look_counts_of j s) k []) 0 {n = o} (let l = looks-length k in omega arith)

  module _ (rows : List ℕ) (areas : List Float) (t : Tabled j rows areas) where
    look_same : (i : ℕ) → look_in rows (length j.kinds) s.look_counts i ≡ get_or (get_or (look_counts_of j s) (i / 16) []) (i % 16) 0
    look_same i = elim (below_or_not (i / 16) (length j.kinds)) [
      | inl h ↦ elim (below_or_not (i % 16) (get_or rows (4 * (i / 16) + 3) 0)) [
        | inl l ↦
            let e : 16 * (i / 16) + i % 16 ≡ i = omega arith in
            sym (has_orientation rows (length j.kinds) s.look_counts i h l)
            ∙ (ap (λ (q : ℕ). get_or s.look_counts q 0) (sym e) ∙ sym (looks_had (i / 16) (i % 16) (let q = t.orientations (i / 16) h in omega arith)))
        | inr l ↦ sym (no_orientation rows (length j.kinds) s.look_counts i h l) ∙ sym (looks_lacked (i / 16) (i % 16) (let q = t.orientations (i / 16) h in omega arith))
      ]
      | inr h ↦
          let e : get_or (orientation_counts j) (i / 16) 0 ≡ 0 = get_or-eq_default (orientation_counts j) 0 {n = i / 16} (let l = kinds_many j in omega arith) in
          sym (no_kind rows (length j.kinds) s.look_counts i h) ∙ sym (looks_lacked (i / 16) (i % 16) (omega arith))
    ]

    pub looks-same : by_slot (look_in rows (length j.kinds) s.look_counts) ≡ looks_by_slot (look_counts_of j s)
    unfolding by_slot looks_by_slot
    looks-same = up_from-same (look_in rows (length j.kinds) s.look_counts) (λ i. get_or (get_or (look_counts_of j s) (i / 16) []) (i % 16) 0) 1024 0 (λ i a b. look_same i)
