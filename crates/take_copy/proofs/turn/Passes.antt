-- The test of what a copy more wrote is that of the state after it. Assumes nothing.
use Rattle.std.specs.Prelude.{Result, Ok}
use Rattle.filling.specs.declared.Refusal.{Refusal}
use Prim.Native.Nat.{ℕ, ◌+◌, ◌<◌}
use native.Mathlib.Omega.{arith}
use mathlib.Core.Path.{◌≡◌, refl, sym, ap, ◌∙◌}
use mathlib.Core.List.{List}
use lib.ListN.{length, get_or}
use lib.Seq.{get_or-set_same}
use lib.Ieee.{Float, nan}
use Rattle.job.specs.Jobs.{Job}
use Rattle.filling.specs.declared.Tables.{Tables}
use Rattle.choose.specs.declared.Grid.{Grid}
use Rattle.choose.specs.inner.Choosing.{grid_of}
use Rattle.place.specs.declared.Copy.{Copy}
use Rattle.place.specs.declared.Totals.{Totals}
use Rattle.place.specs.declared.Step.{Step}
use Rattle.place.specs.inner.Placing.{copy_of, orientation_number, outcome_x, y_of, gap_of}
use Rattle.step.specs.inner.Going.{rooms, Going}
use Rattle.step.proofs.Allowed.{listed, turns_are, taken-few}
use Rattle.batch.specs.inner.Tested.{copy_fits}
use Rattle.take_copy.specs.copy_tests.inner.CopyTest.{copy_test}
use Rattle.take_copy.specs.turn.inner.Turning.{state_in, written_at, Tabling, Sizes}
use Rattle.take_copy.proofs.copy_tests.SameTest.{copy-test_is}

module _ {j : Job} {b : Tables} {order rows : List ℕ} {areas whole : List Float} {g : Grid} {insets : List Float} {parts : List ℕ} {sheet : List Float}
    (B : Tabling b g insets parts whole sheet) {at : ℕ} (tracks : List ℕ) {t : Totals} {orientation : List ℕ} {x y gap shapes placed : List Float}
    {sheet_entries entries sheet_firsts firsts sheet_starts starts : List ℕ}
    (G : Going j (state_in b order at tracks t orientation x y gap) (rooms shapes whole placed sheet_entries entries sheet_firsts firsts) rows areas sheet_starts
    starts) (Z : Sizes orientation x y gap) where
  below : (n : ℕ) → n ≡ 4096 → at < n
  below n e = let h = taken-few G in omega arith

  pub turn_passes : (q : Copy) → q ≡ copy_of order rows areas at → (r : Step) (u : Totals) → u ≡ r.totals → (v : Result (Unit {0}) Refusal) → v ≡ (Ok tt)
      → (tracks' orientation' : List ℕ) (x' y' gap' placed' : List Float) (entries' firsts' : List ℕ)
      → orientation' ≡ written_at v orientation at (orientation_number r.outcome) → x' ≡ written_at v x at (outcome_x r.outcome)
      → y' ≡ written_at v y at (y_of r.outcome) → gap' ≡ written_at v gap at (gap_of r.outcome)
      → copy_test g q (at + 1) t.placed_strips r insets placed' tracks' ≡ copy_fits j at t.placed_strips
      (state_in b order (at + 1) tracks' u orientation' x' y' gap') (rooms shapes whole placed' sheet_entries entries' sheet_firsts firsts')
  turn_passes q f r u e v a tracks' orientation' x' y' gap' placed' entries' firsts' o p c d =
      ap (λ (g : Grid). copy_test g q (at + 1) t.placed_strips r insets placed' tracks') B.grid
      ∙ (ap (λ (l : List Float). copy_test (grid_of b) q (at + 1) t.placed_strips r l placed' tracks') B.inset_bounds_are
      ∙ copy-test_is j (state_in b order (at + 1) tracks' u orientation' x' y' gap')
      (rooms shapes whole placed' sheet_entries entries' sheet_firsts firsts') at t.placed_strips tracks' q r (listed G) (ap (λ (q : Copy). q.slot) f)
      (ap (λ (q : Copy). q.orientations) f ∙ sym (turns_are G)) (sym e)
      (record {
        number = at_place 0 orientation orientation' _ (below (length orientation) Z.orientations) o;
        x = at_place nan x x' _ (below (length x) Z.xs) p;
        y = at_place nan y y' _ (below (length y) Z.ys) c;
        gap = at_place nan gap gap' _ (below (length gap) Z.gaps) d;
      }) refl refl)
    where
      at_place : {A : Type 0} (z : A) (l l' : List A) (u : A) → at < length l → l' ≡ written_at v l at u → get_or l' at z ≡ u
      at_place z l l' u h k =
          ap (λ (m : List _). get_or m at z) (k ∙ ap (λ (v : Result (Unit {0}) Refusal). written_at v l at u) a) ∙ get_or-set_same l at u z h
