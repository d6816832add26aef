-- What holds between rounds. Assumes nothing.
use Prim.Native.Nat.{ℕ, zero, suc, ◌+◌, ◌-◌, ◌≤◌, ◌<◌}
use native.Mathlib.Omega.{arith}
use mathlib.Core.Path.{◌≡◌, refl, ap, ap₂, sym, ◌∙◌}
use mathlib.Core.Bool.{Bool, true, false}
use lib.Dec.{leb}
use borrow.Author.Tests.{le-leb, lt-leb}
use Rattle.swaps.specs.inner.Turns.{rounds_for}
use mathlib.Core.List.{List}
use lib.ListN.{length}
use lib.Ieee.{Float}
use Rattle.std.specs.Prelude.{Ok}
use Rattle.job.specs.Jobs.{Job}
use Rattle.filling.specs.declared.Refusal.{Refusal}
use Rattle.filling.specs.Shapes.{Planner, planner_of}
use Rattle.filling.specs.Rooms.{Lent}
use Rattle.filling.specs.Order.{rearranged}
use Rattle.filling.specs.Fill.{stopped, fill_order}
use Rattle.place.specs.declared.Totals.{Totals}
use Rattle.rooms.specs.tracks.inner.Tracks.{track_numbers, spot_numbers}
use Rattle.nesting.specs.Rounds.{Kept, Swaps, kept, ended, judged, one_round, rounds, first_kept}
use Rattle.filling_laws.specs.fill_laws.inner.Prepared.{Given, Prepared, filling_in}
use Rattle.better.specs.declared.Best.{Best}
use Rattle.better.specs.inner.Keeping.{half, kept_in}

-- rooms as long as those that are lent
abbrev pub Long : Lent → List Float → List ℕ → List Float → List ℕ → Type 0
Long l placed entries room firsts =
    (length l.rooms.placed ≡ length placed) × (length l.rooms.placed_entries ≡ length entries) × (length l.intervals ≡ length room)
    × (length l.rooms.placed_firsts ≡ length firsts)

-- what is kept, as it lies in the tables
pub record Held : Type 0 where
  pub best : Best
  pub order : List ℕ
  pub tracks : List ℕ
  pub spots : List Float

abbrev pub kept_at : Planner → Held → Swaps
kept_at p a = kept (kept_in a.best p a.order a.tracks a.spots)

-- what holds after i rounds of n
pub record Going (g : Given) (seed n : ℕ) (order₀ : List ℕ) (placed₀ : List Float) (entries₀ : List ℕ) (room₀ : List Float) (firsts₀ : List ℕ)
    (i : ℕ) (a : Held) : Type 0 where
  pub few : a.best.improvements ≤ i
  pub in_half : a.best.kept ≤ 1
  pub arranged : (j : Job) → rearranged j order₀ ≡ true → rearranged j a.order ≡ true
  pub same : (j : Job) → Prepared j g → rearranged j order₀ ≡ true → (l : Lent) → Long l placed₀ entries₀ room₀ firsts₀ → j.header.seed ≡ seed
      → rounds j l (n - i) (kept_at (planner_of j) a) ≡ rounds j l n (first_kept j order₀ (fill_order j l order₀))

-- ---- rounds
pub rounds-ended : (j : Job) (l : Lent) (n : ℕ) (k : Refusal) → rounds j l n (ended k) ≡ ended k
unfolding rounds
rounds-ended j l zero k = refl
rounds-ended j l (suc n) k = refl

rounds_next : (j : Job) (l : Lent) (m : ℕ) (q : Kept) → 0 < m → rounds j l m (kept q) ≡ rounds j l (m - 1) (one_round j l q)
unfolding rounds
rounds_next j l zero q h = absurd (omega arith)
rounds_next j l (suc m) q h = let e : suc m - 1 ≡ m = omega arith in ap (λ (k : ℕ). rounds j l k (one_round j l q)) (sym e)

rounds-none : (j : Job) (l : Lent) (m : ℕ) (s : Swaps) → m ≤ 0 → rounds j l m s ≡ s
unfolding rounds
rounds-none j l zero s h = refl
rounds-none j l (suc m) s h = absurd (omega arith)

-- a filling that is refused in a round
pub judged-ended : (random : ℕ) (order : List ℕ) (q : Kept) (k : Refusal) → ended k ≡ judged random order q (stopped k)
unfolding judged
judged-ended random order q k = refl

-- ---- the first filling
pub first_ended : (j : Job) (l : Lent) (order : List ℕ) (n : ℕ) (k : Refusal) → stopped k ≡ fill_order j l order
    → ended k ≡ rounds j l n (first_kept j order (fill_order j l order))
unfolding first_kept
first_ended j l order n k e = sym (rounds-ended j l n k) ∙ ap (λ f. rounds j l n (first_kept j order f)) e

-- the first filling lies in the first half
abbrev pub first_best : ℕ → Totals → Best
first_best seed t = record { random = seed; totals = t; improvements = 0; kept = 0 }

first_held : (j : Job) (l : Lent) (order tracks : List ℕ) (spots : List Float) (seed : ℕ) (t : Totals) → j.header.seed ≡ seed
    → filling_in (Ok tt) (planner_of j) order (half track_numbers 0 tracks) t (half spot_numbers 0 spots) ≡ fill_order j l order
    → kept (kept_in (first_best seed t) (planner_of j) order tracks spots) ≡ first_kept j order (fill_order j l order)
unfolding first_kept
first_held j l order tracks spots seed t e f =
    ap (λ (r : ℕ). kept (kept_in (first_best r t) (planner_of j) order tracks spots)) (sym e) ∙ ap (first_kept j order) f

module _ (g : Given) (seed n : ℕ) (order₀ : List ℕ) (placed₀ : List Float) (entries₀ : List ℕ) (room₀ : List Float) (firsts₀ : List ℕ) where
  pub going_first : (t : Totals) (tracks : List ℕ) (spots : List Float)
      → ((j : Job) → Prepared j g → rearranged j order₀ ≡ true → (l : Lent) → Long l placed₀ entries₀ room₀ firsts₀
      → filling_in (Ok tt) (planner_of j) order₀ (half track_numbers 0 tracks) t (half spot_numbers 0 spots) ≡ fill_order j l order₀)
      → Going g seed n order₀ placed₀ entries₀ room₀ firsts₀ 0 (record { best = first_best seed t; order = order₀; tracks = tracks; spots = spots })
  going_first t tracks spots f =
      record {
        few = omega arith;
        in_half = omega arith;
        arranged = λ j r. r;
        same = λ j p r l w e. let z : n - 0 ≡ n = omega arith in ap₂ (rounds j l) z (first_held j l order₀ tracks spots seed t e (f j p r l w));
      }

  module _ (i : ℕ) (a : Held) (h : Going g seed n order₀ placed₀ entries₀ room₀ firsts₀ i a) (b : i < n) where
    -- a round's own promise, of what it leaves
    abbrev pub Rounded : (Planner → Swaps) → Type 0
    Rounded s = (j : Job) → Prepared j g → rearranged j a.order ≡ true → (l : Lent) → Long l placed₀ entries₀ room₀ firsts₀
        → s (planner_of j) ≡ one_round j l (kept_in a.best (planner_of j) a.order a.tracks a.spots)

    -- what is left to do
    on : (s : Planner → Swaps) → Rounded s → (j : Job) → Prepared j g → rearranged j order₀ ≡ true → (l : Lent) → Long l placed₀ entries₀ room₀ firsts₀
        → j.header.seed ≡ seed → rounds j l (n - i - 1) (s (planner_of j)) ≡ rounds j l n (first_kept j order₀ (fill_order j l order₀))
    on s f j p r l w e =
        ap (rounds j l (n - i - 1)) (f j p (h.arranged j r) l w)
        ∙ (sym (rounds_next j l (n - i) (kept_in a.best (planner_of j) a.order a.tracks a.spots) (omega arith)) ∙ h.same j p r l w e)

    pub going_on : (a' : Held) → Rounded (λ p. kept_at p a') → ((j : Job) → rearranged j a.order ≡ true → rearranged j a'.order ≡ true)
        → a'.best.improvements ≤ a.best.improvements + 1 → a'.best.kept ≤ 1 → Going g seed n order₀ placed₀ entries₀ room₀ firsts₀ (i + 1) a'
    going_on a' f r few' half' =
        record {
          few = let m = h.few in omega arith;
          in_half = half';
          arranged = λ j q. r j (h.arranged j q);
          same = λ j p q l w e.
              let z : n - (i + 1) ≡ n - i - 1 = omega arith in
              ap (λ (k : ℕ). rounds j l k (kept_at (planner_of j) a')) z ∙ on (λ p. kept_at p a') f j p q l w e;
        }

    pub going_stops : (k : Refusal) → Rounded (λ p. ended k) → (j : Job) → Prepared j g → rearranged j order₀ ≡ true → (l : Lent)
        → Long l placed₀ entries₀ room₀ firsts₀ → j.header.seed ≡ seed → ended k ≡ rounds j l n (first_kept j order₀ (fill_order j l order₀))
    going_stops k f j p q l w e = sym (rounds-ended j l (n - i - 1) k) ∙ on (λ p. ended k) f j p q l w e

  pub going_end : (i : ℕ) (a : Held) → Going g seed n order₀ placed₀ entries₀ room₀ firsts₀ i a → n ≤ i → (j : Job) → Prepared j g → rearranged j order₀ ≡ true
      → (l : Lent) → Long l placed₀ entries₀ room₀ firsts₀ → j.header.seed ≡ seed
      → kept_at (planner_of j) a ≡ rounds j l n (first_kept j order₀ (fill_order j l order₀))
  going_end i a h b j p q l w e = sym (rounds-none j l (n - i) (kept_at (planner_of j) a) (omega arith)) ∙ h.same j p q l w e

-- ---- how rounds are counted
pub few-rounds : (c n r : ℕ) → c < 2 → r ≡ 0 → r ≡ rounds_for c n
few-rounds c n r h e = rw (lt-leb 2 c h, rounds_for) e

pub some_rounds : (c n r : ℕ) → 2 ≤ c → r ≡ n → r ≡ rounds_for c n
some_rounds c n r h e = rw (le-leb 2 c h, rounds_for) e

pub rounds_upto : (c n r : ℕ) → r ≡ rounds_for c n → r ≤ n
rounds_upto c n r e = go (leb 2 c) e
  where
    go : (t : Bool) → r ≡ (elim t [ true ↦ n | false ↦ 0 ]) → r ≤ n
    go true f = omega arith
    go false f = omega arith

-- a round has copies to draw
pub later_copies : (c n r i : ℕ) → r ≡ rounds_for c n → i < r → 0 < c
later_copies zero n r i e h = let z : rounds_for 0 n ≡ 0 = refl in absurd (omega arith)
later_copies (suc c) n r i e h = omega arith

pub fits : {m n k : ℕ} → m ≡ n → k ≤ n → k ≤ m
fits e h = omega arith
