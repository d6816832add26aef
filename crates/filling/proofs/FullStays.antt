-- A full look stays full where more intervals count: of all doubles, with no premise on their size. Assumes nothing.
use Prim.Native.Nat.{ℕ, ◌≤◌}
use native.Mathlib.Omega.{arith}
use mathlib.Core.Path.{◌≡◌, refl, sym, ap, ◌∙◌, subst}
use mathlib.Core.Logic.{◌⊎◌, inl, inr}
use mathlib.Core.Bool.{true, ◌&&◌, true≢false}
use mathlib.Core.List.{List, [], ◌∷◌, Memᴰ}
use lib.Dec.{T}
use lib.Ieee.{Float, nan, inf, fin, binary64, fits, lt, le}
use Rattle.numbers.proofs.Truth.{both_first, both_second}
use Rattle.numbers.proofs.Keys as Keys
use Rattle.numbers.proofs.Doubles.{k}
use Rattle.index.specs.declared.Interval.{Interval}
use Rattle.index.specs.Buckets.{keep}
use Rattle.index.specs.Intervals.{counts_of}
use Rattle.look.specs.declared.height.Look.{Look}
use Rattle.look.specs.declared.height.Look.TheVariants.{Free, Full}
use Rattle.look.proofs.height.SmallestHeight.{Real, le_is_true, is_le, outside_of, of_outside, keep_mem, mem_keep, lowest_full, RealEnd, candidate_real, nearest}
use Rattle.look.specs.height.Smallest.{outside, candidates, free_at, lowest, height_of}
use Rattle.filling.proofs.Lists.{Within}

-- ---- doubles that are no NaN, by their keys

lt_reals : (x y : Float) → lt x y ≡ true → T (Keys.real x) × T (Keys.real y)
unfolding lt
lt_reals nan y e = absurd (true≢false (sym e))
lt_reals (inf s) nan e = absurd (true≢false (sym e))
lt_reals (inf s) (inf t) e = (tt, tt)
lt_reals (inf s) (fin t n d) e = (tt, tt)
lt_reals (fin s m d) nan e = absurd (true≢false (sym e))
lt_reals (fin s m d) (inf t) e = (tt, tt)
lt_reals (fin s m d) (fin t n c) e = (tt, tt)

pub le_reals : (x y : Float) → le x y ≡ true → T (Keys.real x) × T (Keys.real y)
unfolding le lt lib.Ieee.eq
le_reals nan y e = absurd (true≢false (sym e))
le_reals (inf s) nan e = absurd (true≢false (sym e))
le_reals (inf s) (inf t) e = (tt, tt)
le_reals (inf s) (fin t n d) e = (tt, tt)
le_reals (fin s m d) nan e = absurd (true≢false (sym e))
le_reals (fin s m d) (inf t) e = (tt, tt)
le_reals (fin s m d) (fin t n c) e = (tt, tt)

-- ---- the look

lowest-some : (yh : Float) (is : List Interval) (cs : List Float) (h g : Float) → lowest yh is cs ≡ Free h g → (c : Float) × Memᴰ c cs
unfolding lowest free_at
lowest-some yh is [] h g e = absurd (let z : ◌≡◌ {A = ℕ} 0 1 = cc in omega arith)
lowest-some yh is (c ∷ cs) h g e = (c, Memᴰ.head refl)

no_members : {A : Type 0} (xs : List A) → ((a : A) → Memᴰ a xs → ⊥) → xs ≡ []
no_members [] h = refl
no_members (x ∷ xs) h = absurd (h x (Memᴰ.head refl))

-- an interval that counts, whose ends are doubles
pub record Counts (yl yh : Float) (i : Interval) : Type 0 where
  pub counts : counts_of yl yh i ≡ true
  pub from_fits : T (fits binary64 i.from)
  pub to_fits : T (fits binary64 i.to)

abbrev pub AllCount : Float → Float → List Interval → Type 0
AllCount yl yh is = (i : Interval) → Memᴰ i is → Counts yl yh i

module _ (yl yh : Float) (i : Interval) (c : Counts yl yh i) where
  order : lt i.from i.to ≡ true
  unfolding counts_of
  order = both_first (lt i.from i.to) _ c.counts

  above : lt yl i.to ≡ true
  unfolding counts_of
  above = both_first (lt yl i.to) _ (both_second (lt i.from i.to) _ c.counts)

  ends : RealEnd i
  ends =
      let r = lt_reals i.from i.to order in
      record { from = record { fit = c.from_fits; is_real = r.0 }; to = record { fit = c.to_fits; is_real = r.1 } }

module _ (yl yh : Float) (fl : T (fits binary64 yl)) (fh : T (fits binary64 yh)) where
  real? : (x : Float) → T (Keys.real x) ⊎ (x ≡ nan)
  real? nan = inr refl
  real? (inf s) = inl tt
  real? (fin s m e) = inl tt

  pub full_stays : (is js : List Interval) → AllCount yl yh is → AllCount yl yh js → Within is js → height_of yl yh is ≡ Full → height_of yl yh js ≡ Full
  unfolding height_of
  full_stays is js ci cj w e = go (height_of yl yh js) refl (real? yl)
    where
      none : yl ≡ nan → (i : Interval) → Counts yl yh i → ⊥
      none z i c = subst (λ (x : Float). T (Keys.real x)) z (lt_reals yl i.to (above yl yh i c)).0

      height : (c : Float) → Memᴰ c (candidates yl js) → le c yh && outside js c ≡ true → T (Keys.real yl) → ⊥
      height c m t L =
          let Y : Real yl = record { fit = fl; is_real = L } in
          let C = candidate_real yl js Y (λ i n. ends yl yh i (cj i n)) c m in
          let H : Real yh = record { fit = fh; is_real = (le_reals c yh (both_first (le c yh) _ t)).1 } in
          let o : outside is c ≡ true = of_outside is c (λ i n. outside_of js c (both_second (le c yh) _ t) i (w i n)) in
          let d = nearest yl is Y (λ i n. ends yl yh i (ci i n)) c C.0 C.1 o in
          let D = candidate_real yl is Y (λ i n. ends yl yh i (ci i n)) d.0 d.1 in
          let d2 = d.2 in
          let u : k c ≤ k yh = le_is_true C.0 H (both_first (le c yh) _ t) in
          lowest_full yh is (keep (λ c. le c yh && outside is c) (candidates yl is)) e d.0
          (mem_keep (λ c. le c yh && outside is c) d.0 (candidates yl is) d.1 (rw (is_le D.0 H (omega arith), d.3)))

      go : (l : Look) → height_of yl yh js ≡ l → T (Keys.real yl) ⊎ (yl ≡ nan) → height_of yl yh js ≡ Full
      go Full f L = f
      go (Free h g) f (inl L) =
          let s = lowest-some yh js (keep (λ c. le c yh && outside js c) (candidates yl js)) h g f in
          let m = keep_mem (λ c. le c yh && outside js c) s.0 (candidates yl js) s.1 in
          absurd (height s.0 m.0 m.1 L)
      go (Free h g) f (inr z) =
          let a : is ≡ [] = no_members is (λ i m. none z i (ci i m)) in
          let b : js ≡ [] = no_members js (λ i m. none z i (cj i m)) in
          ap (height_of yl yh) (b ∙ sym a) ∙ e
