-- What is drawn before a round. Assumes nothing.
use Rattle.std.specs.Prelude.{Option, Some, None}
use Prim.Native.Nat.{ℕ, ◌%◌, ◌<◌}
use native.Mathlib.Omega.{arith}
use mathlib.Core.Path.{◌≡◌, refl, ap, sym, subst₂, ◌∙◌}
use mathlib.Core.Bool.{Bool, true, false}
use mathlib.Core.List.{List}
use lib.ListN.{length, get_or}
use lib.Ieee.{Float}
use Rattle.random.specs.SplitMix64.{next_state, mixed}
use Rattle.job.specs.Jobs.{Job}
use Rattle.accounts.specs.tables.inner.Tabled.{Tabled}
use Rattle.nesting.specs.Rounds.{swappable, swapped}
use Rattle.better.specs.inner.Turns.{DrewAt, Drew}

some≢none : {i k : ℕ} → ◌≡◌ {A = Option (ℕ × ℕ)} (Some (i, k)) None → ⊥
some≢none e = let z : ◌≡◌ {A = ℕ} 0 1 = cc in omega arith

some_parts : {i k a b : ℕ} → ◌≡◌ {A = Option (ℕ × ℕ)} (Some (i, k)) (Some (a, b)) → (i ≡ a) × (k ≡ b)
some_parts {i} {k} {a} {b} e = let p : ◌≡◌ {A = ℕ × ℕ} (i, k) (a, b) = cc in (ap (λ q. q.0) p, ap (λ q. q.1) p)

module _ (random : ℕ) (rows order : List ℕ) (r1 r2 i k : ℕ) (e1 : r1 ≡ next_state random)
    (ei : i ≡ mixed (next_state random) % length order) (li : i < length order) (e2 : r2 ≡ next_state r1)
    (ek : k ≡ mixed (next_state r1) % length order) (lk : k < length order) (t : Bool)
    (m : (j : Job) (areas : List Float) → Tabled j rows areas → get_or order i 0 < length j.kinds → get_or order k 0 < length j.kinds
    → t ≡ swappable j.kinds (get_or order i 0) (get_or order k 0)) where
  drew_at : (u : Bool) → t ≡ u → DrewAt random rows order u i k
  drew_at u e =
      record {
        i_is = ei;
        k_is = ek ∙ ap (λ (x : ℕ). mixed (next_state x) % length order) e1;
        i_in = li;
        k_in = lk;
        may_is = λ j areas w below. sym e ∙ m j areas w (below i li) (below k lk);
      }

  pub drew_swapped : t ≡ true → (after : List ℕ) → after ≡ swapped i k order → Drew random rows order (Some (i, k)) r2 after
  drew_swapped e after s =
      record {
        spent_is = e2 ∙ ap next_state e1;
        swaps = λ a b d. let p = some_parts d in subst₂ (λ (x y : ℕ). DrewAt random rows order true x y × (after ≡ swapped x y order)) p.0 p.1 (drew_at true e, s);
        rests = λ d. absurd (some≢none d);
      }

  pub drew_rest : t ≡ false → Drew random rows order None r2 order
  drew_rest e =
      record {
        spent_is = e2 ∙ ap next_state e1;
        swaps = λ a b d. absurd (some≢none (sym d));
        rests = λ d. (i, k, drew_at false e, refl);
      }
