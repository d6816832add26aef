-- Laws of the table of edges and of a set's loops. Assumes nothing.
use Prim.Native.Nat.{ℕ, zero, suc, ◌+◌, ◌-◌, ◌*◌, ◌≤◌, ◌<◌}
use native.Mathlib.Omega.{arith}
use native.Mathlib.Numerals.{add-one}
use mathlib.Core.Path.{◌≡◌, refl, sym, ap, ◌∙◌}
use mathlib.Core.List.{List, [], ◌∷◌, ◌++◌, append_assoc}
use lib.ListN.{length, get_or, set, take, drop, length-set, drop_of_length-le}
use lib.Seq.{get_or-set_same, get_or-set_other, drop-cons, take-suc, take-suc-set}
use lib.Ieee.{Float, nan}
use Rattle.slabs.specs.declared.Edge.{Edge}
use Rattle.slabs.specs.Slab.{up}
use Rattle.slabs.specs.inner.Tables.{edge_at, set_edge}
use Rattle.slabs.proofs.Sorting.{up_ext, up_snoc}
use Rattle.strips.specs.Strips.{edge, after, loop_edges, edges}
use Rattle.strips.specs.inner.Tables.{Loops}

module _ (rs : List Float) (i : ℕ) (e : Edge) where
  edge_other : (k : ℕ) → (k < 6 * i) → get_or (set_edge rs i e) k nan ≡ get_or rs k nan
  unfolding set_edge
  edge_other k h =
      get_or-set_other (set (set (set (set (set rs (6 * i) e.px) (6 * i + 1) e.py) (6 * i + 2) e.qx) (6 * i + 3) e.qy) (6 * i + 4) e.lo) (6 * i + 5) k e.hi nan (λ z. omega arith)
      ∙ (get_or-set_other (set (set (set (set rs (6 * i) e.px) (6 * i + 1) e.py) (6 * i + 2) e.qx) (6 * i + 3) e.qy) (6 * i + 4) k e.lo nan (λ z. omega arith)
      ∙ (get_or-set_other (set (set (set rs (6 * i) e.px) (6 * i + 1) e.py) (6 * i + 2) e.qx) (6 * i + 3) k e.qy nan (λ z. omega arith)
      ∙ (get_or-set_other (set (set rs (6 * i) e.px) (6 * i + 1) e.py) (6 * i + 2) k e.qx nan (λ z. omega arith)
      ∙ (get_or-set_other (set rs (6 * i) e.px) (6 * i + 1) k e.py nan (λ z. omega arith)
      ∙ (get_or-set_other rs (6 * i) k e.px nan (λ z. omega arith))))))

  pub edge-below : (j : ℕ) → j < i → edge_at (set_edge rs i e) j ≡ edge_at rs j
  unfolding edge_at
  edge-below j h = rw (edge_other (6 * j) (omega arith), edge_other (6 * j + 1) (omega arith), edge_other (6 * j + 2) (omega arith), edge_other (6 * j + 3) (omega arith), edge_other (6 * j + 4) (omega arith), edge_other (6 * j + 5) (omega arith))

  edge_over : (k : ℕ) → (6 * i + 5 < k) → get_or (set_edge rs i e) k nan ≡ get_or rs k nan
  unfolding set_edge
  edge_over k h =
      get_or-set_other (set (set (set (set (set rs (6 * i) e.px) (6 * i + 1) e.py) (6 * i + 2) e.qx) (6 * i + 3) e.qy) (6 * i + 4) e.lo) (6 * i + 5) k e.hi nan (λ z. omega arith)
      ∙ (get_or-set_other (set (set (set (set rs (6 * i) e.px) (6 * i + 1) e.py) (6 * i + 2) e.qx) (6 * i + 3) e.qy) (6 * i + 4) k e.lo nan (λ z. omega arith)
      ∙ (get_or-set_other (set (set (set rs (6 * i) e.px) (6 * i + 1) e.py) (6 * i + 2) e.qx) (6 * i + 3) k e.qy nan (λ z. omega arith)
      ∙ (get_or-set_other (set (set rs (6 * i) e.px) (6 * i + 1) e.py) (6 * i + 2) k e.qx nan (λ z. omega arith)
      ∙ (get_or-set_other (set rs (6 * i) e.px) (6 * i + 1) k e.py nan (λ z. omega arith)
      ∙ (get_or-set_other rs (6 * i) k e.px nan (λ z. omega arith))))))

  pub edge-above : (j : ℕ) → i < j → edge_at (set_edge rs i e) j ≡ edge_at rs j
  unfolding edge_at
  edge-above j h = rw (edge_over (6 * j) (omega arith), edge_over (6 * j + 1) (omega arith), edge_over (6 * j + 2) (omega arith), edge_over (6 * j + 3) (omega arith), edge_over (6 * j + 4) (omega arith), edge_over (6 * j + 5) (omega arith))

  pub edge_same : 6 * i + 6 ≤ length rs → edge_at (set_edge rs i e) i ≡ e
  unfolding edge_at set_edge
  edge_same h =
      let r0 = rs in
      let r1 = set r0 (6 * i) e.px in
      let r2 = set r1 (6 * i + 1) e.py in
      let r3 = set r2 (6 * i + 2) e.qx in
      let r4 = set r3 (6 * i + 3) e.qy in
      let r5 = set r4 (6 * i + 4) e.lo in
      let l1 : length r1 ≡ length r0 = length-set r0 (6 * i) e.px in
      let l2 : length r2 ≡ length r1 = length-set r1 (6 * i + 1) e.py in
      let l3 : length r3 ≡ length r2 = length-set r2 (6 * i + 2) e.qx in
      let l4 : length r4 ≡ length r3 = length-set r3 (6 * i + 3) e.qy in
      let l5 : length r5 ≡ length r4 = length-set r4 (6 * i + 4) e.lo in
      rw (
        get_or-set_same r5 (6 * i + 5) e.hi nan (omega arith),
        get_or-set_other r5 (6 * i + 5) (6 * i + 4) e.hi nan (λ z. omega arith),
        get_or-set_same r4 (6 * i + 4) e.lo nan (omega arith),
        get_or-set_other r5 (6 * i + 5) (6 * i + 3) e.hi nan (λ z. omega arith),
        get_or-set_other r4 (6 * i + 4) (6 * i + 3) e.lo nan (λ z. omega arith),
        get_or-set_same r3 (6 * i + 3) e.qy nan (omega arith),
        get_or-set_other r5 (6 * i + 5) (6 * i + 2) e.hi nan (λ z. omega arith),
        get_or-set_other r4 (6 * i + 4) (6 * i + 2) e.lo nan (λ z. omega arith),
        get_or-set_other r3 (6 * i + 3) (6 * i + 2) e.qy nan (λ z. omega arith),
        get_or-set_same r2 (6 * i + 2) e.qx nan (omega arith),
        get_or-set_other r5 (6 * i + 5) (6 * i + 1) e.hi nan (λ z. omega arith),
        get_or-set_other r4 (6 * i + 4) (6 * i + 1) e.lo nan (λ z. omega arith),
        get_or-set_other r3 (6 * i + 3) (6 * i + 1) e.qy nan (λ z. omega arith),
        get_or-set_other r2 (6 * i + 2) (6 * i + 1) e.qx nan (λ z. omega arith),
        get_or-set_same r1 (6 * i + 1) e.py nan (omega arith),
        get_or-set_other r5 (6 * i + 5) (6 * i) e.hi nan (λ z. omega arith),
        get_or-set_other r4 (6 * i + 4) (6 * i) e.lo nan (λ z. omega arith),
        get_or-set_other r3 (6 * i + 3) (6 * i) e.qy nan (λ z. omega arith),
        get_or-set_other r2 (6 * i + 2) (6 * i) e.qx nan (λ z. omega arith),
        get_or-set_other r1 (6 * i + 1) (6 * i) e.py nan (λ z. omega arith),
        get_or-set_same r0 (6 * i) e.px nan (omega arith),
      )

module _ (es : List Float) (i : ℕ) (e : Edge) where
  -- the edge of point i, put after those of the points before it
  pub edge-step : (pts : List Float) (first end j : ℕ) → i < end → 6 * i + 6 ≤ length es → j ≡ after first i (end - (i + 1)) → e ≡ edge pts i j → up (edge_at (set_edge es i e)) 0 (i + 1) ++ loop_edges pts first (i + 1) (end - (i + 1)) ≡ up (edge_at es) 0 i ++ loop_edges pts first i (end - i)
  unfolding loop_edges
  edge-step pts first end j h l ej ee =
      let s : end - i ≡ suc (end - (i + 1)) = omega arith in
      rw (s, add-one i, up_snoc (edge_at (set_edge es i e)) 0 i, up_ext (edge_at es) (edge_at (set_edge es i e)) 0 i (λ k lt. edge-below es i e k (omega arith)), append_assoc, ← add-one i)
      (ap (λ (x : Edge). up (edge_at es) 0 i ++ (x ∷ loop_edges pts first (i + 1) (end - (i + 1)))) ((let z : 0 + i ≡ i = omega arith in ap (λ (k : ℕ). edge_at (set_edge es i e) k) z) ∙ (edge_same es i e l ∙ (ee ∙ ap (λ (k : ℕ). edge pts i k) ej))))

pub after_more : (first i n : ℕ) → 0 < n → after first i n ≡ i + 1
unfolding after
after_more first i zero h = absurd (omega arith)
after_more first i (suc n) h = refl

pub after_last : (first i n : ℕ) → n ≡ 0 → after first i n ≡ first
unfolding after
after_last first i zero h = refl
after_last first i (suc n) h = absurd (omega arith)

-- ---- the loops of a set
module _ (ends : List ℕ) (first n i : ℕ) (h : i < length ends) where
  pub loops_next : Loops first (drop i ends) n → (first ≤ get_or ends i 0) × (get_or ends i 0 ≤ n) × Loops (get_or ends i 0) (drop (i + 1) ends) n
  unfolding Loops
  loops_next c = rw (add-one i) (rw (drop-cons ends i 0 h) at c)

  -- the other way: a test of one end after another builds it
  pub loops_back : first ≤ get_or ends i 0 → get_or ends i 0 ≤ n → Loops (get_or ends i 0) (drop (i + 1) ends) n → Loops first (drop i ends) n
  unfolding Loops
  loops_back a b c = rw (drop-cons ends i 0 h) (a, b, rw (add-one i) at c)

  pub edges-next : (pts : List Float) (a b : List Edge) → b ≡ a ++ loop_edges pts first first (get_or ends i 0 - first) → b ++ edges pts (get_or ends i 0) (drop (i + 1) ends) ≡ a ++ edges pts first (drop i ends)
  unfolding edges
  edges-next pts a b e = rw (e, add-one i, drop-cons ends i 0 h, append_assoc)

-- ---- the ends of loops, stored one after the other
pub ends-stored : (copy ends : List ℕ) (i : ℕ) → i < length copy → i < length ends → take i copy ≡ take i ends
    → take (i + 1) (set copy i (get_or ends i 0)) ≡ take (i + 1) ends
ends-stored copy ends i a b e =
    let f : i + 1 ≡ suc i = add-one i in
    rw f (take-suc-set copy i (get_or ends i 0) a ∙ ap (λ (l : List ℕ). l ++ (get_or ends i 0 ∷ [])) e ∙ sym (take-suc ends i 0 b))

append-nil : {A : Type 0} (l : List A) → l ++ [] ≡ l
append-nil [] = refl
append-nil {A} (a ∷ l) = ap (λ (m : List A). a ∷ m) (append-nil l)

module _ (ends : List ℕ) (first n i : ℕ) (h : length ends ≤ i) where
  pub loops_end : Loops first (drop i ends) n → first ≡ n
  unfolding Loops
  loops_end c = rw (drop_of_length-le ends h) at c

  pub loops_done : first ≡ n → Loops first (drop i ends) n
  unfolding Loops
  loops_done e = rw (drop_of_length-le ends h) e

  pub edges-end : (pts : List Float) (a : List Edge) → a ++ edges pts first (drop i ends) ≡ a
  unfolding edges
  edges-end pts a = rw (drop_of_length-le ends h, append-nil a)

pub after_in : (first i end : ℕ) → first ≤ i → i < end → after first i (end - (i + 1)) < end
unfolding after
after_in first i end h l = go (end - (i + 1)) (omega arith)
  where
    go : (n : ℕ) → n ≤ end - (i + 1) → after first i n < end
    go zero k = omega arith
    go (suc n) k = omega arith

pub loop_done : (pts : List Float) (first i end : ℕ) (f : ℕ → Edge) → i ≤ end → end ≤ i → up f 0 i ++ loop_edges pts first i (end - i) ≡ up f 0 end
unfolding loop_edges
loop_done pts first i end f h l = let z : end - i ≡ 0 = omega arith in let e : i ≡ end = omega arith in rw (z, append-nil (up f 0 i), e)
