-- Laws of the table of rows: a row put in, insertion, and the crossings gathered so far. Assumes nothing.
use Prim.Native.Nat.{ℕ, ◌+◌, ◌-◌, ◌*◌, ◌≤◌, ◌<◌}
use native.Mathlib.Omega.{arith}
use mathlib.Core.Path.{◌≡◌, refl, ap, sym, ◌∙◌}
use mathlib.Core.Logic.{◌⊎◌, inl, inr}
use mathlib.Core.List.{List, ◌∷◌}
use mathlib.Core.Bool.{Bool, true, false, not}
use lib.ListN.{length, get_or, set, length-set}
use lib.Seq.{get_or-set_same, get_or-set_other}
use lib.Ieee.{Float, nan, lt, eq, ne, binary64, of_bits, neg}
use Rattle.slabs.specs.declared.Edge.{Edge}
use Rattle.slabs.specs.declared.Row.{Row}
use Rattle.slabs.specs.Slab.{up, insert, sort, Crossing, direction, crossing, before, spans, spanning, crossings}
use Rattle.slabs.specs.inner.Tables.{down, row_at, set_row, crossing_of, crossing_at, zero_bits}
use Rattle.slabs.proofs.Sorting.{over, insert-step, insert-last, up_none, up_cons}

module _ (rs : List Float) (i : ℕ) (c : Row) where
  row_other : (k : ℕ) → (k < 3 * i) ⊎ (3 * i + 2 < k) → get_or (set_row rs i c) k nan ≡ get_or rs k nan
  unfolding set_row
  row_other k (inl h) =
      get_or-set_other (set (set rs (3 * i) c.ya) (3 * i + 1) c.yb) (3 * i + 2) k c.d nan (λ z. omega arith)
      ∙ (get_or-set_other (set rs (3 * i) c.ya) (3 * i + 1) k c.yb nan (λ z. omega arith)
      ∙ (get_or-set_other rs (3 * i) k c.ya nan (λ z. omega arith)))
  row_other k (inr h) =
      get_or-set_other (set (set rs (3 * i) c.ya) (3 * i + 1) c.yb) (3 * i + 2) k c.d nan (λ z. omega arith)
      ∙ (get_or-set_other (set rs (3 * i) c.ya) (3 * i + 1) k c.yb nan (λ z. omega arith)
      ∙ (get_or-set_other rs (3 * i) k c.ya nan (λ z. omega arith)))

  pub row_below : (j : ℕ) → j < i → crossing_at (set_row rs i c) j ≡ crossing_at rs j
  unfolding crossing_at row_at
  row_below j h = rw (row_other (3 * j) (inl (omega arith)), row_other (3 * j + 1) (inl (omega arith)), row_other (3 * j + 2) (inl (omega arith)))

  pub row_above : (j : ℕ) → i < j → crossing_at (set_row rs i c) j ≡ crossing_at rs j
  unfolding crossing_at row_at
  row_above j h = rw (row_other (3 * j) (inr (omega arith)), row_other (3 * j + 1) (inr (omega arith)), row_other (3 * j + 2) (inr (omega arith)))

  pub row_same : 3 * i + 3 ≤ length rs → crossing_at (set_row rs i c) i ≡ crossing_of c
  unfolding crossing_at row_at set_row
  row_same h =
      let r0 = rs in
      let r1 = set r0 (3 * i) c.ya in
      let r2 = set r1 (3 * i + 1) c.yb in
      let l1 : length r1 ≡ length r0 = length-set r0 (3 * i) c.ya in
      let l2 : length r2 ≡ length r1 = length-set r1 (3 * i + 1) c.yb in
      rw (
        get_or-set_same r2 (3 * i + 2) c.d nan (omega arith),
        get_or-set_other r2 (3 * i + 2) (3 * i + 1) c.d nan (λ z. omega arith),
        get_or-set_same r1 (3 * i + 1) c.yb nan (omega arith),
        get_or-set_other r2 (3 * i + 2) (3 * i) c.d nan (λ z. omega arith),
        get_or-set_other r1 (3 * i + 1) (3 * i) c.yb nan (λ z. omega arith),
        get_or-set_same r0 (3 * i) c.ya nan (omega arith),
      )

-- ---- a row put in, by any test
module _ (first : Crossing → Crossing → Bool) where
  pub insert_row : (rs rs' : List Float) (n k : ℕ) (c row : Row) (t : Bool) → 0 < k → k ≤ n → 3 * n + 3 ≤ length rs → rs' ≡ set_row rs k row → row ≡ row_at rs (k - 1) → t ≡ first (crossing_of row) (crossing_of c) → t ≡ true
      → over (crossing_at rs') (k - 1) (n - (k - 1)) (insert first (crossing_of c) (down (crossing_at rs') (k - 1))) ≡ over (crossing_at rs) k (n - k) (insert first (crossing_of c) (down (crossing_at rs) k))
  unfolding crossing_at
  insert_row rs rs' n k c row t p l len es er et e =
      insert-step first (crossing_at rs) (crossing_at rs') (crossing_of c) k n p l
      (λ i h. ap (λ (r : List Float). crossing_at r i) es ∙ row_below rs k row i h)
      (λ i h. ap (λ (r : List Float). crossing_at r i) es ∙ row_above rs k row i h)
      (ap (λ (r : List Float). crossing_at r k) es ∙ (row_same rs k row (omega arith) ∙ ap (λ (r : Row). crossing_of r) er))
      (ap (λ (r : Row). first (crossing_of r) (crossing_of c)) (sym er) ∙ (sym et ∙ e))

  pub insert_row_last : (rs rs' : List Float) (n k : ℕ) (c : Row) → k ≤ n → 3 * n + 3 ≤ length rs → rs' ≡ set_row rs k c → (k ≡ 0) ⊎ (first (crossing_at rs (k - 1)) (crossing_of c) ≡ false)
      → down (crossing_at rs') (n + 1) ≡ over (crossing_at rs) k (n - k) (insert first (crossing_of c) (down (crossing_at rs) k))
  insert_row_last rs rs' n k c l len es t =
      insert-last first (crossing_at rs) (crossing_at rs') (crossing_of c) k n l
      (λ i h. ap (λ (r : List Float). crossing_at r i) es ∙ row_below rs k c i h)
      (λ i h. ap (λ (r : List Float). crossing_at r i) es ∙ row_above rs k c i h)
      (ap (λ (r : List Float). crossing_at r k) es ∙ row_same rs k c (omega arith)) t

  -- the row that stopped an insertion
  pub stops : (rs : List Float) (k : ℕ) (c row : Row) (t : Bool) → row ≡ row_at rs (k - 1) → t ≡ first (crossing_of row) (crossing_of c) → t ≡ false → first (crossing_at rs (k - 1)) (crossing_of c) ≡ false
  unfolding crossing_at
  stops rs k c row t er et e = ap (λ (r : Row). first (crossing_of r) (crossing_of c)) (sym er) ∙ (sym et ∙ e)

-- ---- a crossing made
pub unequal : (a b : Float) → ne a b ≡ not (eq a b)
unfolding ne
unequal a b = refl

one_up : lt zero_bits (of_bits binary64 0x3ff0_0000_0000_0000) ≡ true
unfolding lt of_bits
one_up = refl

one_down : lt zero_bits (neg (of_bits binary64 0x3ff0_0000_0000_0000)) ≡ false
unfolding lt of_bits neg
one_down = refl

module _ (xa xb : Float) (e : Edge) (ya yb : Float) (ea : ya ≡ (crossing xa xb e).ya) (eb : yb ≡ (crossing xa xb e).yb) where
  pub cross_on : lt e.px e.qx ≡ true → crossing_of (record { ya = ya; yb = yb; d = of_bits binary64 0x3ff0_0000_0000_0000 }) ≡ crossing xa xb e
  unfolding crossing_of crossing direction
  cross_on t = rw (ea, eb, one_up, t)

  pub cross_back : lt e.px e.qx ≡ false → crossing_of (record { ya = ya; yb = yb; d = neg (of_bits binary64 0x3ff0_0000_0000_0000) }) ≡ crossing xa xb e
  unfolding crossing_of crossing direction
  cross_back t = rw (ea, eb, one_down, t)

-- ---- the crossings of the edges from number i on
module _ (xa xb : Float) where
  crossings_on : (e : Edge) (es : List Edge) → spans xa xb e ≡ true → crossings xa xb (e ∷ es) ≡ insert before (crossing xa xb e) (crossings xa xb es)
  unfolding crossings spanning sort
  crossings_on e es t = rw (t, spanning)

  crossings_off : (e : Edge) (es : List Edge) → spans xa xb e ≡ false → crossings xa xb (e ∷ es) ≡ crossings xa xb es
  unfolding crossings spanning
  crossings_off e es t = rw (t, spanning)

  pub gather_none : (f : ℕ → Edge) (g : ℕ → Crossing) (n : ℕ) → down g 0 ≡ crossings xa xb (up f n (n - n))
  unfolding crossings spanning sort down
  gather_none f g n = rw (up_none f n)

  module _ (f : ℕ → Edge) (i n : ℕ) (p : 0 < i) (l : i ≤ n) (e : Edge) (ee : e ≡ f (i - 1)) (t : Bool) (et : t ≡ spans xa xb e) where
    pub gather_on : (rs rs' : List Float) (m : ℕ) (c : Row) → t ≡ true → crossing_of c ≡ crossing xa xb e → down (crossing_at rs') (m + 1) ≡ insert before (crossing_of c) (down (crossing_at rs) m) → down (crossing_at rs) m ≡ crossings xa xb (up f i (n - i))
        → down (crossing_at rs') (m + 1) ≡ crossings xa xb (up f (i - 1) (n - (i - 1)))
    gather_on rs rs' m c y ec h inv =
        h ∙ sym (rw (up_cons f i n p l, ← ee, crossings_on e (up f i (n - i)) (sym et ∙ y), ec, inv))

    pub gather_off : (rs : List Float) (m : ℕ) → t ≡ false → down (crossing_at rs) m ≡ crossings xa xb (up f i (n - i)) → down (crossing_at rs) m ≡ crossings xa xb (up f (i - 1) (n - (i - 1)))
    gather_off rs m y inv = inv ∙ sym (rw (up_cons f i n p l, ← ee, crossings_off e (up f i (n - i)) (sym et ∙ y)))
