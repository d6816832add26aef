-- What is kept of a filling that is judged. Assumes nothing.
use Prim.Native.Nat.{ℕ, suc, ◌+◌, ◌-◌}
use native.Mathlib.Numerals.{add-one}
use mathlib.Core.Path.{◌≡◌, ap, sym, ◌∙◌}
use mathlib.Core.Bool.{Bool, true, false, ◌&&◌, ◌||◌}
use mathlib.Core.List.{List}
use lib.ListN.{length}
use lib.Ieee.{Float, lt, eq}
use Rattle.filling.specs.declared.State.{State}
use Rattle.filling.specs.Shapes.{Planner}
use Rattle.filling.specs.Fill.{filled}
use Rattle.place.specs.declared.Totals.{Totals}
use Rattle.rooms.specs.tracks.inner.Tracks.{next_columns, look_counts_from, orientations, xs, ys, gaps, track_numbers, spot_numbers}
use Rattle.nesting.specs.Rounds.{Kept, Swaps, kept, better_than, judged}
use Rattle.filling_laws.specs.fill_laws.inner.Prepared.{state_by}
use Rattle.better.specs.declared.Best.{Best}
use Rattle.better.specs.inner.Keeping.{half, kept_in}

-- nesting.rs's better_than, of totals
abbrev pub better : Totals → Totals → Bool
better a b = lt a.unplaced_area b.unplaced_area || eq a.unplaced_area b.unplaced_area && lt a.right b.right

module _ (random : ℕ) (order : List ℕ) (q : Kept) (s : State) where
  judged_yes : better_than s.layout q.state.layout ≡ true
      → judged random order q (filled s) ≡ kept (record { random = random; order = order; state = s; improvements = suc q.improvements })
  unfolding judged
  judged_yes e = rw (e, judged)

  judged_no : better_than s.layout q.state.layout ≡ false
      → judged random order q (filled s) ≡ kept (record { random = random; order = q.order; state = q.state; improvements = q.improvements })
  unfolding judged
  judged_no e = rw (e, judged)

module _ (p : Planner) (b : Best) (t : Totals) (order old tracks : List ℕ) (spots : List Float) where
  -- the half that is not kept
  abbrev tracks' : List ℕ
  tracks' = half track_numbers (1 - b.kept) tracks

  abbrev spots' : List Float
  spots' = half spot_numbers (1 - b.kept) spots

  abbrev state' : State
  state' = state_by p order (length order) (next_columns tracks') (look_counts_from tracks') t (orientations tracks') (xs spots') (ys spots') (gaps spots')

  -- what the definition keeps
  abbrev judged_in : Swaps
  judged_in = judged b.random order (kept_in b p old tracks spots) (filled state')

  module _ (r : Bool) (is : r ≡ better t b.totals) where
    pub judge_better : r ≡ true
        → kept (kept_in (record { random = b.random; totals = t; improvements = b.improvements + 1; kept = 1 - b.kept }) p order tracks spots) ≡ judged_in
    unfolding better_than
    judge_better h = rw (add-one b.improvements) (sym (judged_yes b.random order (kept_in b p old tracks spots) state' (sym is ∙ h)))

    pub judge_worse : r ≡ false → (order' : List ℕ) → order' ≡ old → kept (kept_in b p order' tracks spots) ≡ judged_in
    unfolding better_than
    judge_worse h order' o =
        ap (λ (z : List ℕ). kept (kept_in b p z tracks spots)) o ∙ sym (judged_no b.random order (kept_in b p old tracks spots) state' (sym is ∙ h))
