-- Which lines a withdrawal meets, and what it hands over where it meets none. Assumes nothing.
use Prim.Native.Nat.{ℕ, zero, suc, ◌≤◌, ◌<◌}
use native.Mathlib.Omega.{arith}
use mathlib.Core.Path.{◌≡◌, refl, sym, ap, ◌∙◌}
use mathlib.Core.Logic.{◌⊎◌, inl, inr}
use mathlib.Core.Bool.{true, false, not}
use mathlib.Core.List.{List, [], ◌∷◌}
use lib.ListN.{get_or}
use lib.Dec.{ltb, eqb}
use lib.Ieee.{Float}
use borrow.Author.Tests.{lt-ltb, le-ltb, ltb-true, ltb-false, ne_eqb}
use Rattle.numbers.proofs.Truth.{either, clash}
use Rattle.bits.specs.declared.Refusal as Bits
use Rattle.job.specs.Jobs.{Job, Answer, accepted, refused, read_job}
use Rattle.filling.specs.declared.State.{State}
use Rattle.filling.specs.declared.Refusal.TheVariants as Why
use Rattle.filling.specs.Shapes.{Standing}
use Rattle.filling.specs.Rooms.{Rooms}
use Rattle.filling.specs.State.{planner_at, stands_at}
use Rattle.filling.specs.Consistent.{consistent}
use Rattle.filling.specs.RefusalLines.{none_stands}
use Rattle.filling.specs.Withdraw.{no_withdrawal, standing_here, withdrawn, withdraw_job, withdraw_given, withdraw_of}
use Rattle.filling.proofs.Withdrawn.{withdraw-consistent}
use Rattle.step.specs.step_job.inner.Opened.{Opened}
use Rattle.withdraw.specs.withdraw_copy.inner.Leaving.{Leaving}

-- ---- whether a copy stands at a place

module _ (s : State) (n : ℕ) where
  here_is : n < s.taken → standing_here s n ≡ stands_at s n (get_or s.layout.orientation n 0)
  unfolding standing_here
  here_is h = rw (lt-ltb n s.taken h, standing_here)

  by_number : (o : ℕ) → not (eqb o 0) ≡ not (none_stands (stands_at s n o))
  unfolding none_stands stands_at
  by_number zero = refl
  by_number (suc o) = ap not (ne_eqb (suc o) 0 (λ e. omega arith))

  pub stands-early : n < s.taken → not (eqb (get_or s.layout.orientation n 0) 0) ≡ not (none_stands (standing_here s n))
  stands-early h = by_number (get_or s.layout.orientation n 0) ∙ ap (λ (l : List Standing). not (none_stands l)) (sym (here_is h))

  late : s.taken ≤ n → standing_here s n ≡ []
  unfolding standing_here
  late h = rw (le-ltb n s.taken h, standing_here)

  pub stands-late : s.taken ≤ n → false ≡ not (none_stands (standing_here s n))
  unfolding none_stands
  stands-late h = sym (ap (λ (l : List Standing). not (none_stands l)) (late h))

  -- where one stands, it has an orientation
  numbered : (o : ℕ) → not (none_stands (stands_at s n o)) ≡ true → (q : ℕ) × (o ≡ suc q)
  unfolding none_stands stands_at
  numbered zero e = absurd (clash e refl)
  numbered (suc o) e = (o, refl)

  pub standing : not (none_stands (standing_here s n)) ≡ true → (n < s.taken) × ((q : ℕ) × (get_or s.layout.orientation n 0 ≡ suc q))
  standing e = go (either (ltb n s.taken))
    where
      there : n < s.taken → (n < s.taken) × ((q : ℕ) × (get_or s.layout.orientation n 0 ≡ suc q))
      there h = (h, numbered (get_or s.layout.orientation n 0) (sym (ap (λ (l : List Standing). not (none_stands l)) (here_is h)) ∙ e))

      go : (ltb n s.taken ≡ true) ⊎ (ltb n s.taken ≡ false) → (n < s.taken) × ((q : ℕ) × (get_or s.layout.orientation n 0 ≡ suc q))
      go (inl h) = there (ltb-true n s.taken h)
      go (inr h) = absurd (clash e (sym (stands-late (ltb-false n s.taken h))))

-- ---- 31, then 24, then the copy goes

module _ (j : Job) (s : State) (w : Rooms) (n : ℕ) where
  none_is : (cs : List Standing) → not (none_stands cs) ≡ false → withdrawn j (planner_at j s.tables w) s w n cs ≡ no_withdrawal Why.NotStanding s w
  unfolding withdrawn none_stands
  none_is [] e = refl
  none_is (c ∷ cs) e = absurd (clash refl e)

  pub stands-none : consistent j s w ≡ true → not (none_stands (standing_here s n)) ≡ false → withdraw_job j s w n ≡ no_withdrawal Why.NotStanding s w
  stands-none e f = withdraw-consistent j s w n e ∙ none_is (standing_here s n) f

  pub leaving : {rows : List ℕ} {areas : List Float} {kinds copies : ℕ} → Opened j rows areas kinds copies → consistent j s w ≡ true
      → not (none_stands (standing_here s n)) ≡ true → Leaving j s w n copies w.placed w.placed_entries w.placed_firsts
  leaving O e f =
      let t = standing s n f in
      record {
        good = O.good;
        few = O.few;
        copies_are = O.copies_are;
        passes = e;
        under = t.0;
        stands = t.1;
        placed_is = refl;
        entries_is = refl;
        firsts_is = refl;
      }

-- ---- the job that was read

pub read-refused : (bytes : List ℕ) (k : Bits.Refusal) (s : State) (w : Rooms) (n : ℕ) → read_job bytes ≡ refused k
    → no_withdrawal (Why.Job k) s w ≡ withdraw_of bytes s w n
unfolding withdraw_of withdraw_given
read-refused bytes k s w n e = sym (ap (λ (a : Answer). withdraw_given a s w n) e)

pub read-accepted : (bytes : List ℕ) (j : Job) (s : State) (w : Rooms) (n : ℕ) → read_job bytes ≡ accepted j → withdraw_job j s w n ≡ withdraw_of bytes s w n
unfolding withdraw_of withdraw_given
read-accepted bytes j s w n e = sym (ap (λ (a : Answer). withdraw_given a s w n) e)
