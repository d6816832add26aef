-- A kind's tracks that are kept before a copy and put back after it are those before it. Assumes nothing.
use Prim.Native.Nat.{ℕ, ◌+◌, ◌-◌, ◌*◌, ◌<◌, ◌≤◌}
use native.Mathlib.Omega.{arith}
use mathlib.Core.Path.{◌≡◌, sym, subst, ◌∙◌}
use mathlib.Core.Logic.{◌⊎◌, inl, inr}
use mathlib.Core.List.{List}
use lib.ListN.{get_or}
use Rattle.numbers.proofs.Truth.{below_or_not}
use Rattle.rooms.specs.tracks.inner.Tracks.{field, next_columns, look_counts_from}
use Rattle.rooms.proofs.tracks.Fields.{field_at, field-same}
use Rattle.take_copy.specs.kept_tracks.inner.Kept.{Kept, PutBack, Outside}

module _ (slot : ℕ) (before kept placed after : List ℕ) (k : Kept slot 32 before kept) (b : PutBack slot 32 kept placed after) where
  module _ (r : ℕ) (l : r < 2) (o : Outside slot 16 (field 0 2 r 1024 placed) (field 0 2 r 1024 before)) where
    outer : (i : ℕ) → i < 1024 → (i < slot) ⊎ (slot + 16 ≤ i) → get_or placed (2 * i + r) 0 ≡ get_or before (2 * i + r) 0
    outer i h s = sym (field_at 0 2 r 1024 placed i 0 h) ∙ (o i s ∙ field_at 0 2 r 1024 before i 0 h)

    inner : (i : ℕ) → slot ≤ i → i < slot + 16 → get_or after (2 * i + r) 0 ≡ get_or before (2 * i + r) 0
    inner i g h =
        let q : ℕ = 2 * (i - slot) + r in
        let e : 2 * slot + q ≡ 2 * i + r = omega arith in
        let m : q < 32 = omega arith in
        subst (λ (p : ℕ). get_or after p 0 ≡ get_or before p 0) e (sym (b.there q m) ∙ k q m)

    at : (i : ℕ) → i < 1024 → get_or after (2 * i + r) 0 ≡ get_or before (2 * i + r) 0
    at i h = elim (below_or_not i slot) [
      | inl a ↦ b.ahead (2 * i + r) (omega arith) ∙ outer i h (inl a)
      | inr a ↦ elim (below_or_not i (slot + 16)) [
        | inl c ↦ inner i a c
        | inr c ↦ b.behind (2 * i + r) (omega arith) ∙ outer i h (inr c)
      ]
    ]

    field_back : field 0 2 r 1024 after ≡ field 0 2 r 1024 before
    field_back = field-same 0 2 r 1024 after before at

  pub tracks_back : Outside slot 16 (next_columns placed) (next_columns before) → Outside slot 16 (look_counts_from placed) (look_counts_from before)
      → (next_columns after ≡ next_columns before) × (look_counts_from after ≡ look_counts_from before)
  tracks_back n c = (field_back 0 (omega arith) n, field_back 1 (omega arith) c)
