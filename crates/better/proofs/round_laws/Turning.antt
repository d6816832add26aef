-- What a round leaves is the definition's. Assumes nothing.
use Rattle.std.specs.Prelude.{Option, Some, None}
use Prim.Native.Nat.{ℕ, ◌<◌}
use mathlib.Core.Path.{◌≡◌, refl, ap, ap₂, sym, subst, ◌∙◌}
use mathlib.Core.Logic.{◌⊎◌}
use mathlib.Core.Bool.{true, false}
use mathlib.Core.List.{List}
use lib.ListN.{length, get_or}
use lib.Ieee.{Float}
use Rattle.random.specs.SplitMix64.{next_state}
use Rattle.job.specs.Jobs.{Job}
use Rattle.filling.specs.Shapes.{Planner, planner_of}
use Rattle.filling.specs.Rooms.{Lent}
use Rattle.filling.specs.Order.{rearranged}
use Rattle.filling.specs.Fill.{Filling, fill_order}
use Rattle.rooms.specs.tracks.inner.Tracks.{next_columns, look_counts_from, orientations, xs, ys, gaps}
use Rattle.accounts.specs.tables.inner.Tabled.{Tabled}
use Rattle.nesting.specs.Rounds.{Kept, Swaps, kept, swapped, judged, one_round}
use Rattle.better.specs.declared.Best.{Best}
use Rattle.better.specs.inner.Keeping.{kept_by, kept_in, kept_tracks, kept_spots}
use Rattle.better.specs.inner.Turns.{Drew}
use Rattle.copy_order.proofs.Rearranged.{length-swapped}
use Rattle.better.proofs.round_laws.Swapping.{now_arranged, left_arranged, back}
use Rattle.better.proofs.round_laws.Rounds.{tried, round_tried, round_over}

-- what is kept before a round, with the state of its draws
abbrev pub after_draw : Best → ℕ → Best
after_draw b spent = record { random = spent; totals = b.totals; improvements = b.improvements; kept = b.kept }

module _ (random : ℕ) (rows order : List ℕ) (d : Option (ℕ × ℕ)) (spent : ℕ) (after : List ℕ) (w : Drew random rows order d spent after) where
  -- the order after the draws
  pub drew_arranged : (j : Job) → rearranged j order ≡ true → rearranged j after ≡ true
  drew_arranged j r = go d refl
    where
      go : (o : Option (ℕ × ℕ)) → d ≡ o → rearranged j after ≡ true
      go (Some (i, k)) e = let s = w.swaps i k e in now_arranged i k order after s.1 s.0.i_in s.0.k_in j r
      go None e = ap (rearranged j) (w.rests e).3 ∙ r

  module _ (i k : ℕ) (e : d ≡ Some (i, k)) where
    pub drew_places : (i < length after) × (k < length after)
    drew_places =
        let s = w.swaps i k e in
        let l : length after ≡ length order = ap length s.1 ∙ length-swapped i k order in
        (subst (λ (n : ℕ). i < n) (sym l) s.0.i_in, subst (λ (n : ℕ). k < n) (sym l) s.0.k_in)

    -- what is left of it: it stays, or the copies are swapped back
    pub drew_left : (left : List ℕ) → (left ≡ after) ⊎ (left ≡ swapped i k after) → (j : Job) → rearranged j order ≡ true → rearranged j left ≡ true
    drew_left left o j r = let s = w.swaps i k e in left_arranged i k order after s.1 s.0.i_in s.0.k_in left o j r

-- ---- one round
module _ (j : Job) (l : Lent) (areas : List Float) (b : Best) (rows order : List ℕ) (d : Option (ℕ × ℕ)) (spent : ℕ) (after : List ℕ)
    (w : Drew b.random rows order d spent after) (tabled : Tabled j rows areas)
    (below : (q : ℕ) → q < length order → get_or order q 0 < length j.kinds) (tracks : List ℕ) (spots : List Float) where
  abbrev P : Planner
  P = planner_of j

  abbrev u : List ℕ
  u = kept_tracks b tracks

  abbrev z : List Float
  z = kept_spots b spots

  -- what was kept, with the order as it is
  abbrev Was : List ℕ → Kept
  Was o = kept_by (after_draw b spent) P o (next_columns u) (look_counts_from u) (orientations u) (xs z) (ys z) (gaps z)

  -- none is swapped
  pub round_rests : d ≡ None → kept (kept_in (after_draw b spent) P after tracks spots) ≡ one_round j l (kept_in b P order tracks spots)
  round_rests e =
      let t = w.rests e in
      ap (λ (o : List ℕ). kept (Was o)) t.3
      ∙ round_over j l b order (next_columns u) (look_counts_from u) (orientations u) (xs z) (ys z) (gaps z) (next_state b.random) spent t.0 t.1 false
      refl t.2.i_is w.spent_is t.2.k_is (t.2.may_is j areas tabled below) refl

  -- two are swapped and filled anew; the kept half stays as it was
  pub round_swaps : (i k : ℕ) → d ≡ Some (i, k) → (f : Filling) (s : Swaps) (tracks' : List ℕ) (spots' : List Float)
      → kept_tracks b tracks' ≡ kept_tracks b tracks → kept_spots b spots' ≡ kept_spots b spots → f ≡ fill_order j l after
      → s ≡ judged spent after (kept_in (after_draw b spent) P (swapped i k after) tracks' spots') f
      → s ≡ one_round j l (kept_in b P order tracks spots)
  round_swaps i k e f s tracks' spots' et es ef h =
      let t = w.swaps i k e in
      round_tried j l b order (next_columns u) (look_counts_from u) (orientations u) (xs z) (ys z) (gaps z) (next_state b.random) spent i k true
      refl t.0.i_is w.spent_is t.0.k_is (t.0.may_is j areas tabled below) refl s
      (tried j l (after_draw b spent) i k order after t.1 (back i k order after t.1 t.0.i_in t.0.k_in)
      (next_columns u) (look_counts_from u) (orientations u) (xs z) (ys z) (gaps z) f s ef
      (h ∙ ap₂ (λ (x : List ℕ) (y : List Float). judged spent after (kept_by (after_draw b spent) P (swapped i k after) (next_columns x) (look_counts_from x)
      (orientations x) (xs y) (ys y) (gaps y)) f) et es))
