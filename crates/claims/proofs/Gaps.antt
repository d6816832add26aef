-- Document 02, W7: what is promised of a gap. Assumes nothing.
use Rattle.std.specs.Prelude.{Ok}
use Prim.Native.Nat.{ℕ, ◌+◌, ◌*◌, ◌≤◌, ◌<◌}
use native.Mathlib.Omega.{arith}
use mathlib.Core.Path.{◌≡◌, refl, sym, ap, subst}
use mathlib.Core.Logic.{◌⊎◌, inl, inr}
use mathlib.Core.Bool.{Bool, true, false, ◌&&◌}
use mathlib.Core.List.{List, [], ◌∷◌, map, Memᴰ}
use lib.Dec.{T, lit≤}
use lib.Ieee.{Float, binary64, fits, le}
use lib.Ieee.Scale.{finite}
use Rattle.numbers.specs.Numbers.{◌⊖◌, plus_zero, pos_zero}
use Rattle.numbers.proofs.Doubles.{k, o, u, Finite, Number, Upto}
use Rattle.numbers.proofs.Doubles as Doubles
use Rattle.numbers.proofs.Ranges.{zero_num, zero-key}
use Rattle.numbers.proofs.Truth.{either, below_or_not, clash, holds, both_first, both_second}
use Rattle.index.specs.declared.Interval.{Interval}
use Rattle.index.specs.Buckets.{keep}
use Rattle.index.proofs.Flat.{mem-map}
use Rattle.look.specs.height.Smallest.{inside, outside, next_bottom, clear_above, height_of}
use Rattle.look.specs.height.inner.Raising.{FiniteEnd, FiniteEnds}
use Rattle.look.proofs.height.SmallestHeight.{Real, real_of, real-end, le_is_true, is_le, inside-key, key-inside, outside_of, of_outside, height_clear}
use Rattle.look.proofs.height.SmallestHeight.{mem_keep, Smallest, height_free}
use Rattle.look.proofs.height.Clear.{next_low, next_finite, clear-number}
use Rattle.look.proofs.Counted.{same_look}
use Rattle.job.specs.Jobs.{Job, accepted, read_job}
use Rattle.filling.specs.declared.State.{State}
use Rattle.filling.specs.declared.Refusal.TheVariants as Why
use Rattle.filling.specs.Rooms.{Rooms, Lent}
use Rattle.filling.specs.Order.{rearranged}
use Rattle.filling.specs.State.{planner_at, order_of, standing_of, tracks_of}
use Rattle.filling.specs.Consistent.{every, bounded, taken_fits, strip_counts_fit, parts_fit, planner_fits, strips_fit, layout_fits, gaps_fit, track_table_fits}
use Rattle.filling.specs.Consistent.{copies_fit, entries_fit, firsts_fit, placed_strips_of, consistent}
use Rattle.filling.specs.Start.{start_verdict, start_of}
use Rattle.filling.specs.NextCopy.{step_given, no_step, next_copy_of}
use Rattle.filling.specs.Fill.{filled, fill_order}
use Rattle.filling.specs.Calls.{Call, after_calls}
use Rattle.filling.specs.promises.Doubles.{is_number}
use Rattle.filling.proofs.Runs.{step_inconsistent}
use Rattle.filling.proofs.WithinBoundsNumbers.{tested_bounded}
use Rattle.filling.proofs.promises.Doubles.{number_is}
use Rattle.filling.proofs.promises.Left.{calls_held, fill-held}
use Rattle.claims.specs.LookNumbers.{is_finite, ends_finite}
use Rattle.look.specs.declared.height.Look.TheVariants.{Free}

-- ---- one look

is_finite_lem : (x : Float) → is_finite x ≡ true → Finite x
unfolding is_finite
is_finite_lem x e = record { fit = holds (both_first (fits binary64 x) _ e); is_finite = holds (both_second (fits binary64 x) _ e) }

ends_finite_lem : (is : List Interval) → every ends_finite is ≡ true → FiniteEnds is
unfolding every ends_finite
ends_finite_lem [] e i m = elim m [ ]
ends_finite_lem (j ∷ is) e i (Memᴰ.head q) =
    let w = both_first (ends_finite j) _ e in
    subst (λ (i : Interval). FiniteEnd i) (sym q)
    (record { from = is_finite_lem j.from (both_first (is_finite j.from) _ w); to = is_finite_lem j.to (both_second (is_finite j.from) _ w) })
ends_finite_lem (j ∷ is) e i (Memᴰ.tail m) = ends_finite_lem is (both_second (ends_finite j) _ e) i m

limits : (x : Float) → T (fits binary64 x) → bounded x ≡ true → Upto 1000000 x
unfolding bounded
limits x f t = let w = both_second (finite x) _ t in (tested_bounded x f (both_first (le _ x) _ w) (both_second (le _ x) _ w)).bound

up : (l h : ℕ) → o ≤ l + 1000000 * u → l ≤ h → o ≤ h + 1000000 * u
up l h a b = omega arith

down : (m h : ℕ) → m ≤ o + 1000000 * u → h ≤ m → h ≤ o + 1000000 * u
down m h a b = omega arith

module _ (yl yh : Float) (is : List Interval) (L : is_finite yl ≡ true) (H : is_finite yh ≡ true) (E : every ends_finite is ≡ true) where
  abbrev F : FiniteEnds is
  F = ends_finite_lem is E

  -- the same intervals in another order, or some of them more often
  pub any_order : (js : List Interval) → every ends_finite js ≡ true → ((i : Interval) → Memᴰ i is → Memᴰ i js)
      → ((i : Interval) → Memᴰ i js → Memᴰ i is) → height_of yl yh is ≡ height_of yl yh js
  any_order js E' to back = same_look yl yh (is_finite_lem yl L) (is_finite_lem yh H) is js F (ends_finite_lem js E') to back

  module _ (h g : Float) (e : height_of yl yh is ≡ Free h g) where
    pub gap_is : g ≡ plus_zero (next_bottom yh is h) ⊖ h
    unfolding clear_above
    gap_is = height_clear yl yh is (is_finite_lem yl L) (is_finite_lem yh H) F h g e

    -- every height from the one answered to the next bottom lies in no interval
    pub clear_to_next : (z : Float) → is_finite z ≡ true → le h z ≡ true → le z (next_bottom yh is h) ≡ true → outside is z ≡ true
    clear_to_next z Z a b = of_outside is z (λ i m. at i m (either (inside z i)))
      where
        S : Smallest yl yh is h
        S = height_free yl yh is (is_finite_lem yl L) (is_finite_lem yh H) F h g e

        X : Real h
        X = real_of (Doubles.finite S.number)

        N : Real (next_bottom yh is h)
        N = real_of (next_finite yh h (is_finite_lem yh H) is F)

        R : Real z
        R = real_of (is_finite_lem z Z)

        at : (i : Interval) → Memᴰ i is → (inside z i ≡ true) ⊎ (inside z i ≡ false) → inside z i ≡ false
        at i m (inr f) = f
        at i m (inl f) = absurd (clash (key-inside X (real-end (F i m)) low high) (outside_of is h S.out i m))
          where
            q : (k i.from < k z) × (k z < k i.to)
            q = inside-key R (real-end (F i m)) f

            high : k h < k i.to
            high = let c = le_is_true X R a in omega (arith, q.1)

            low : k i.from < k h
            low = elim (below_or_not (k i.from) (k h)) [
              | inl l ↦ l
              | inr l ↦ absurd
                  (let n = next_low yh h (is_finite_lem yh H) is F i.from (Memᴰ.tail (bottom l)) in let c = le_is_true R N b in omega (arith, q.0))
            ]
              where
                bottom : k h ≤ k i.from → Memᴰ i.from (keep (λ b. le h b) (map (λ (i : Interval). i.from) is))
                bottom l =
                    mem_keep (λ b. le h b) i.from (map (λ (i : Interval). i.from) is)
                    (mem-map (λ (i : Interval). i.from) i is m) (is_le X (real_of (F i m).from) l)

    -- within 31's limits the gap is finite, no minus zero and not below zero
    pub gap-number : bounded yl ≡ true → bounded yh ≡ true → (is_number g ≡ true) × (le pos_zero g ≡ true)
    gap-number a b =
        subst (λ (v : Float). (is_number v ≡ true) × (le pos_zero v ≡ true)) (sym (height_clear yl yh is (is_finite_lem yl L) (is_finite_lem yh H) F h g e))
        (number_is _ c.0, from)
      where
        S : Smallest yl yh is h
        S = height_free yl yh is (is_finite_lem yl L) (is_finite_lem yh H) F h g e

        within : (x : Float) → is_finite x ≡ true → bounded x ≡ true → Upto 1000000 x
        within x f t = limits x (is_finite_lem x f).fit t

        Y : Upto 1000000 h
        Y = record { at_least = up (k yl) (k h) (within yl L a).at_least S.from; at_most = down (k yh) (k h) (within yh H b).at_most S.upto }

        c : Number (clear_above yh is h) × (o ≤ k (clear_above yh is h)) × Upto 2000000 (clear_above yh is h)
        c = clear-number yh h (is_finite_lem yh H) (Doubles.finite S.number) S.upto is F 1000000 (within yh H b) Y (lit≤ tt)

        from : le pos_zero (clear_above yh is h) ≡ true
        from =
            is_le (real_of (Doubles.finite (zero_num binary64))) (real_of (Doubles.finite c.0))
            (subst (λ (n : ℕ). n ≤ k (clear_above yh is h)) (sym (zero-key binary64)) c.1)

-- ---- states

pub under : (a b : Bool) → b ≡ false → a && b ≡ false
under true b e = e
under false b e = refl

gaps_inconsistent : (j : Job) (s : State) (w : Rooms) → gaps_fit s ≡ false → consistent j s w ≡ false
unfolding consistent
gaps_inconsistent j s w f =
    let p = planner_at j s.tables w in
    let placed = placed_strips_of s w in
    let rest =
    track_table_fits p s.taken p.shapes (tracks_of j s) && (copies_fit j p (standing_of s) placed && (entries_fit p w placed && firsts_fit s w)) in
    under (taken_fits j s) _ (under (strip_counts_fit s.tables s.placed_strips w) _ (under (parts_fit j s.tables w) _
    (under (rearranged j (order_of j s)) _ (under (planner_fits p) _ (under (strips_fit placed) _
    (under (layout_fits s.layout.right s.layout.unplaced_area) _ (ap (λ (t : Bool). t && rest) f)))))))

-- a gap that does not fit is 31
pub gaps-refused : (bytes : List ℕ) (j : Job) → read_job bytes ≡ accepted j → (s : State) (w : Rooms) (iv : List Float) → gaps_fit s ≡ false
    → next_copy_of bytes s w iv ≡ no_step Why.Inconsistent s w iv
unfolding next_copy_of step_given
gaps-refused bytes j e s w iv f = rw e (step_inconsistent j s w iv (gaps_inconsistent j s w f))

-- own gaps fit
pub calls_gaps : (bytes order : List ℕ) (l : Lent) (j : Job) → read_job bytes ≡ accepted j → (start_of bytes order l).verdict ≡ Ok tt → (calls : List Call)
    → gaps_fit (after_calls bytes calls (start_of bytes order l).state (start_of bytes order l).lent.rooms).state ≡ true
calls_gaps bytes order l j e v calls = (calls_held bytes order l j e v calls).held.own.fine.gaps

pub fill-gaps : (bytes order : List ℕ) (l : Lent) (j : Job) → read_job bytes ≡ accepted j → start_verdict j order l ≡ Ok tt
    → (s : State) → fill_order j l order ≡ filled s → gaps_fit s ≡ true
fill-gaps bytes order l j e v s d = (fill-held bytes order l j e v s d).1.own.fine.gaps
