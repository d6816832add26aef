-- A plan depends on the first `taken` places of order and layout alone. Assumes nothing.
use Prim.Native.Nat.{ℕ, zero, suc, ◌≤◌, ◌<◌}
use native.Mathlib.Omega.{arith}
use mathlib.Core.Path.{◌≡◌, refl, sym, ap, ap₂, ◌∙◌}
use mathlib.Core.List.{List, [], ◌∷◌, ◌++◌}
use lib.ListN.{length, get_or, take, drop, replicate}
use lib.Seq.{get_or-take, length-take-le}
use lib.Ieee.{Float, nan}
use Rattle.numbers.specs.Numbers.{◌⊖◌, pos_zero}
use Rattle.job.specs.Jobs.{Job}
use Rattle.filling.specs.declared.State.{State}
use Rattle.filling.specs.Shapes.{Planner, planner_of}
use Rattle.filling.specs.Rooms.{laid}
use Rattle.filling.specs.State.{copy_at, stands_at, misses_at, standing_to, without_to, standing_of, without_of, tracks_of}
use Rattle.filling.specs.Start.{tables_of}
use Rattle.filling.specs.Accounts.{look_counts_of, not_below_zero, offcut_of, plan_of}
use Rattle.place.specs.declared.Totals.{Totals}
use Rattle.filling_laws.specs.fill_laws.inner.Prepared.{state_by}
use Rattle.accounts.specs.inner.Told.{PlanTold, Totalled}
use Rattle.report.specs.offcut.inner.Reaching.{reach_to, Parted}
use Rattle.report.proofs.offcut.Reached.{offcut_is}

-- ---- lists

front_at : {A : Type 0} (xs ys : List A) (i : ℕ) (d : A) → i < length xs → get_or (xs ++ ys) i d ≡ get_or xs i d
front_at [] ys i d h = absurd (omega arith)
front_at (x ∷ xs) ys zero d h = refl
front_at (x ∷ xs) ys (suc i) d h = front_at xs ys i d (omega arith)

laid_at : {A : Type 0} (xs room : List A) (i : ℕ) (d : A) → i < length xs → get_or (laid xs room) i d ≡ get_or xs i d
unfolding laid
laid_at xs room i d h = front_at xs (drop (length xs) room) i d h

written_at : {A : Type 0} (l room : List A) (n i : ℕ) (d : A) → i < n → n ≤ length l → get_or (laid (take n l) room) i d ≡ get_or l i d
written_at l room n i d h k = laid_at (take n l) room i d (let e = length-take-le n l k in omega arith) ∙ get_or-take n l i d h

-- ---- two states that agree on the first m places

module _ (s s' : State) (m : ℕ) (fo : (i : ℕ) → i < m → get_or s.order i 0 ≡ get_or s'.order i 0) (fn : (i : ℕ) → i < m → get_or s.layout.orientation i 0 ≡ get_or s'.layout.orientation i 0)
    (fx : (i : ℕ) → i < m → get_or s.layout.x i nan ≡ get_or s'.layout.x i nan) (fy : (i : ℕ) → i < m → get_or s.layout.y i nan ≡ get_or s'.layout.y i nan)
    (fg : (i : ℕ) → i < m → get_or s.layout.gap i nan ≡ get_or s'.layout.gap i nan) where
  stands_same : (i o : ℕ) → i < m → stands_at s i o ≡ stands_at s' i o
  unfolding stands_at copy_at
  stands_same i zero h = refl
  stands_same i (suc o) h = rw (fo i h, fx i h, fy i h, fg i h)

  misses-same : (i o : ℕ) → i < m → misses_at s i o ≡ misses_at s' i o
  unfolding misses_at copy_at
  misses-same i zero h = rw (fo i h)
  misses-same i (suc o) h = refl

  standing-same : (n : ℕ) → n ≤ m → standing_to s n ≡ standing_to s' n
  unfolding standing_to
  standing-same zero h = refl
  standing-same (suc n) h = ap₂ ◌++◌ (standing-same n (omega arith)) (stands_same n (get_or s.layout.orientation n 0) (omega arith) ∙ ap (stands_at s' n) (fn n (omega arith)))

  without-same : (n : ℕ) → n ≤ m → without_to s n ≡ without_to s' n
  unfolding without_to
  without-same zero h = refl
  without-same (suc n) h = ap₂ ◌++◌ (without-same n (omega arith)) (misses-same n (get_or s.layout.orientation n 0) (omega arith) ∙ ap (misses_at s' n) (fn n (omega arith)))

-- ---- the state that a filling leaves, with order and layout as they are lent

module _ (p : Planner) (order next looks : List ℕ) (t : Totals) (orientation : List ℕ) (x y gap : List Float) (io : length order ≤ length orientation)
    (ix : length order ≤ length x) (iy : length order ≤ length y) (ig : length order ≤ length gap) where
  abbrev s : State
  s = state_by p order (length order) next looks t orientation x y gap

  abbrev pub Lent' : State
  Lent' =
      record {
        tables = tables_of p;
        order = order;
        taken = length order;
        next_column = next;
        look_counts = looks;
        placed_strips = t.placed_strips;
        layout = record { orientation = orientation; x = x; y = y; gap = gap; unplaced_area = t.unplaced_area; right = t.right };
      }

  pub standing_is : standing_of s ≡ standing_of Lent'
  unfolding standing_of
  standing_is =
      standing-same s Lent' (length order)
      (λ i h. laid_at order (replicate 4096 0) i 0 h)
      (λ i h. written_at orientation (replicate 4096 0) (length order) i 0 h io)
      (λ i h. written_at x (replicate 4096 pos_zero) (length order) i nan h ix)
      (λ i h. written_at y (replicate 4096 pos_zero) (length order) i nan h iy)
      (λ i h. written_at gap (replicate 4096 pos_zero) (length order) i nan h ig)
      (length order) (omega arith)

  without_is : without_of s ≡ without_of Lent'
  unfolding without_of
  without_is =
      without-same s Lent' (length order)
      (λ i h. laid_at order (replicate 4096 0) i 0 h)
      (λ i h. written_at orientation (replicate 4096 0) (length order) i 0 h io)
      (λ i h. written_at x (replicate 4096 pos_zero) (length order) i nan h ix)
      (λ i h. written_at y (replicate 4096 pos_zero) (length order) i nan h iy)
      (λ i h. written_at gap (replicate 4096 pos_zero) (length order) i nan h ig)
      (length order) (omega arith)

  offcut-same : (q : Planner) → offcut_of q s ≡ offcut_of q Lent'
  unfolding offcut_of
  offcut-same q = rw standing_is

  pub plan_is : (j : Job) (n : ℕ) → plan_of j s n ≡ plan_of j Lent' n
  unfolding plan_of look_counts_of tracks_of
  plan_is j n = rw (standing_is, without_is, offcut-same (planner_of j))

  pub told : PlanTold Lent' order orientation x y gap looks (length order)
  told = record { order_is = refl; orientation_is = refl; x_is = refl; y_is = refl; gap_is = refl; looks_are = refl; taken_is = refl }

  pub totalled : (j : Job) (offcut : Float) → offcut_of (planner_of j) s ≡ offcut → Totalled j Lent' t.right t.unplaced_area offcut
  totalled j offcut e = record { right_is = refl; area_is = refl; offcut_is = sym (offcut-same (planner_of j)) ∙ e }

  -- what the code of the offcut answers is the offcut of that state
  pub offcut-told : (q : Planner) (parts : List ℕ) (shapes : List Float) (right r : Float) → Parted q parts shapes → p.bounds.right ≡ right
      → r ≡ not_below_zero (right ⊖ reach_to parts shapes order orientation x t.right (length order)) → offcut_of q s ≡ r
  unfolding tables_of
  offcut-told q parts shapes right r h e f =
      offcut-same q
      ∙ (sym (offcut_is q parts shapes h Lent')
      ∙ (ap (λ (z : Float). not_below_zero (z ⊖ reach_to parts shapes order orientation x t.right (length order))) e ∙ sym f))
