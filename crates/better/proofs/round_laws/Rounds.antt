-- What a round leaves is the definition's. Assumes nothing.
use Prim.Native.Nat.{ℕ, ◌%◌}
use mathlib.Core.Path.{◌≡◌, refl, ap, sym, ◌∙◌}
use mathlib.Core.Bool.{Bool, true, false}
use mathlib.Core.List.{List}
use lib.ListN.{length, get_or}
use lib.Ieee.{Float}
use Rattle.random.specs.SplitMix64.{next_state, mixed}
use Rattle.job.specs.Jobs.{Job}
use Rattle.filling.specs.Shapes.{Planner, planner_of}
use Rattle.filling.specs.Rooms.{Lent}
use Rattle.filling.specs.Fill.{Filling, filled, stopped, fill_order}
use Rattle.nesting.specs.Rounds.{Kept, Swaps, kept, swappable, swapped, judged, one_round}
use Rattle.better.specs.declared.Best.{Best}
use Rattle.better.specs.inner.Keeping.{kept_by}

-- ---- one round
module _ (j : Job) (l : Lent) (q : Kept) where
  round_with : ℕ → ℕ → ℕ → Bool → Swaps
  round_with second a b t =
      elim t [
        | true ↦ judged second (swapped a b q.order) q (fill_order j l (swapped a b q.order))
        | false ↦ kept (record { random = second; order = q.order; state = q.state; improvements = q.improvements })
      ]

  opened : one_round j l q ≡ round_with (next_state (next_state q.random)) (mixed (next_state q.random) % length q.order)
      (mixed (next_state (next_state q.random)) % length q.order) (swappable j.kinds
      (get_or q.order (mixed (next_state q.random) % length q.order) 0) (get_or q.order (mixed (next_state (next_state q.random)) % length q.order)
      0))
  unfolding one_round round_with
  opened = refl

  module _ (r1 r2 a b : ℕ) (t : Bool) (e1 : r1 ≡ next_state q.random) (ea : a ≡ mixed (next_state q.random) % length q.order) (e2 : r2 ≡ next_state r1)
      (eb : b ≡ mixed (next_state r1) % length q.order) (et : t ≡ swappable j.kinds (get_or q.order a 0) (get_or q.order b 0)) where
    drawn : one_round j l q ≡ round_with r2 a b (swappable j.kinds (get_or q.order a 0) (get_or q.order b 0))
    drawn =
        let f : r2 ≡ next_state (next_state q.random) = e2 ∙ ap next_state e1 in
        let g : b ≡ mixed (next_state (next_state q.random)) % length q.order = eb ∙ ap (λ (r : ℕ). mixed (next_state r) % length q.order) e1 in
        opened
        ∙ (ap (λ (x : ℕ). round_with x (mixed (next_state q.random) % length q.order) (mixed (next_state (next_state q.random)) % length q.order)
        (swappable j.kinds (get_or q.order (mixed (next_state q.random) % length q.order) 0)
        (get_or q.order (mixed (next_state (next_state q.random)) % length q.order) 0))) (sym f)
        ∙ (ap (λ (x : ℕ). round_with r2 x (mixed (next_state (next_state q.random)) % length q.order)
        (swappable j.kinds (get_or q.order x 0) (get_or q.order (mixed (next_state (next_state q.random)) % length q.order) 0))) (sym ea)
        ∙ ap (λ (x : ℕ). round_with r2 a x (swappable j.kinds (get_or q.order a 0) (get_or q.order x 0))) (sym g)))

    pub round-swaps : t ≡ true → one_round j l q ≡ judged r2 (swapped a b q.order) q (fill_order j l (swapped a b q.order))
    unfolding round_with
    round-swaps h = drawn ∙ ap (round_with r2 a b) (sym et ∙ h)

    pub round-ends : t ≡ false → one_round j l q ≡ kept (record { random = r2; order = q.order; state = q.state; improvements = q.improvements })
    unfolding round_with
    round-ends h = drawn ∙ ap (round_with r2 a b) (sym et ∙ h)

-- the state of the draws that stands in what was kept before decides nothing
other-random : (random : ℕ) (b b' : Best) (p : Planner) (order old bc bl bo : List ℕ) (bx by bg : List Float) (f : Filling) → b.totals ≡ b'.totals →
    b.improvements ≡ b'.improvements → judged random order (kept_by b p old bc bl bo bx by bg) f ≡ judged random order (kept_by b' p old bc bl bo bx by bg) f
unfolding judged
other-random random b b' p order old bc bl bo bx by bg (stopped k) e i = refl
other-random random b b' p order old bc bl bo bx by bg (filled s) e i = rw (e, i)

-- ---- a swap that is tried
module _ (j : Job) (l : Lent) (b : Best) (i k : ℕ) (order now : List ℕ) (e : now ≡ swapped i k order) (back : swapped i k now ≡ order) (bc bl bo : List ℕ)
    (bx by bg : List Float) where
  pub tried : (f : Filling) (s : Swaps) → f ≡ fill_order j l now → s ≡ judged b.random now (kept_by b (planner_of j) (swapped i k now) bc bl bo bx by bg) f
      → s ≡ judged b.random (swapped i k order) (kept_by b (planner_of j) order bc bl bo bx by bg) (fill_order j l (swapped i k order))
  tried f s g h =
      h
      ∙ (ap (judged b.random now (kept_by b (planner_of j) (swapped i k now) bc bl bo bx by bg)) g
      ∙ (ap (λ (o : List ℕ). judged b.random now (kept_by b (planner_of j) o bc bl bo bx by bg) (fill_order j l now)) back
      ∙ ap (λ (o : List ℕ). judged b.random o (kept_by b (planner_of j) order bc bl bo bx by bg) (fill_order j l o)) e))

module _ (j : Job) (l : Lent) (b : Best) (order bc bl bo : List ℕ) (bx by bg : List Float) (r1 r2 i k : ℕ) (t : Bool) (e1 : r1 ≡ next_state b.random)
    (ei : i ≡ mixed (next_state b.random) % length order) (e2 : r2 ≡ next_state r1) (ek : k ≡ mixed (next_state r1) % length order)
    (et : t ≡ swappable j.kinds (get_or order i 0) (get_or order k 0)) where
  abbrev after : Best
  after = record { random = r2; totals = b.totals; improvements = b.improvements; kept = b.kept }

  pub round_tried : t ≡ true → (s : Swaps) → s ≡ judged r2 (swapped i k order) (kept_by after (planner_of j) order bc bl bo bx by bg)
      (fill_order j l (swapped i k order)) → s ≡ one_round j l (kept_by b (planner_of j) order bc bl bo bx by bg)
  round_tried h s f =
      f
      ∙ (other-random r2 after b (planner_of j) (swapped i k order) order bc bl bo bx by bg (fill_order j l (swapped i k order)) refl refl
      ∙ sym (round-swaps j l (kept_by b (planner_of j) order bc bl bo bx by bg) r1 r2 i k t e1 ei e2 ek et h))

  pub round_over : t ≡ false → kept (kept_by after (planner_of j) order bc bl bo bx by bg) ≡ one_round j l (kept_by b (planner_of j) order bc bl bo bx by bg)
  round_over h = sym (round-ends j l (kept_by b (planner_of j) order bc bl bo bx by bg) r1 r2 i k t e1 ei e2 ek et h)
