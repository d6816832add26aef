-- What 31 asks of the standing copies, along every copy taken and taken back. Assumes nothing.
use mathlib.Core.Path.{◌≡◌, refl, sym, ap, ◌∙◌}
use mathlib.Core.Logic.{◌⊎◌, inl, inr}
use mathlib.Core.Bool.{Bool, true, false, not, ◌&&◌}
use mathlib.Core.List.{List, [], ◌∷◌, ◌++◌, map}
use Prim.Native.Nat.{ℕ, zero, suc, ◌+◌, ◌*◌, ◌/◌, ◌%◌, ◌≤◌, ◌<◌}
use native.Mathlib.Omega.{arith}
use lib.ListN.{length, get_or}
use lib.Dec.{eqb}
use lib.Ieee.{Float, nan, lt, eq, ne}
use lib.Ieee.Scale.{finite}
use lib.Ieee.Compare.{differs_from_itself}
use Rattle.numbers.proofs.Truth.{either, clash, both_first, both_second}
use Rattle.numbers.specs.Numbers.{◌⊕◌, larger, pos_zero}
use Rattle.trapezoid.specs.Strip.{strip_at, capacity}
use Rattle.index.specs.Buckets.{keep}
use Rattle.index.proofs.Steps.{keep_yes, keep_no}
use Rattle.slabs.proofs.Merging.{All, all_append}
use Rattle.job.specs.Jobs.{Job}
use Rattle.filling.specs.Shapes.{Planner, Shape, Copy, Standing, shape_of, others, standing_strips}
use Rattle.filling.specs.Search.{Found, at, nowhere}
use Rattle.filling.specs.Choice.{Choice, choice_of, choices, wins, best}
use Rattle.filling.specs.Plain.{copy_after, standing_after}
use Rattle.filling.specs.State.{orientation_counts}
use Rattle.filling.proofs.Same.{same_self}
use Rattle.filling.specs.Consistent.{every, bounded, strip_fits, strips_fit, orientation_fits, position_fits, same_doubles}
use Rattle.filling.specs.Withdraw.{right_of}
use Rattle.filling.proofs.Reading.{Sixfold, capacity_append}
use Rattle.filling.proofs.Steps.{standing_sixfold}
use Rattle.filling.proofs.FirstFree.{grows_append}
use Rattle.filling.proofs.Numbers31 as Numbers31
use Rattle.filling.proofs.Numbers31.{summed, every-up_from, up_from-every, strip-right, larger-bounded}
use Rattle.filling.proofs.AtPlace.{strips_append}

-- ---- equal numbers

itself : (x : Float) → finite x ≡ true → eq x x ≡ true
unfolding ne
itself x f = go (either (eq x x))
  where
    go : (eq x x ≡ true) ⊎ (eq x x ≡ false) → eq x x ≡ true
    go (inl e) = e
    go (inr e) = let n : x ≡ nan = differs_from_itself x (rw e tt) in absurd (clash f (ap finite n))

bounded_finite : (x : Float) → bounded x ≡ true → finite x ≡ true
unfolding bounded
bounded_finite x h = both_first (finite x) _ h

module _ (l : List Float) (i : ℕ) (h : strip_fits (strip_at l i) ≡ true) where
  abbrev Fits : ℕ → Bool
  Fits r = bounded (get_or l (6 * i + r) nan)

  all_fit : (bounded (get_or l (6 * i) nan) && (Fits 1 && (Fits 2 && (Fits 3 && (Fits 4 && Fits 5))))) ≡ true
  unfolding strip_fits strip_at
  all_fit = both_second (not (lt (get_or l (6 * i + 1) nan) (get_or l (6 * i) nan))) _ h

  number_fits : (r : ℕ) → r < 6 → Fits r ≡ true
  number_fits r b =
      let first = bounded (get_or l (6 * i) nan) in
      let a = both_second first _ all_fit in
      let c = both_second (Fits 1) _ a in
      let d = both_second (Fits 2) _ c in
      let e = both_second (Fits 3) _ d in
      go r b (both_first first _ all_fit) (both_first (Fits 1) _ a) (both_first (Fits 2) _ c) (both_first (Fits 3) _ d) (both_first (Fits 4) _ e)
      (both_second (Fits 4) _ e)
    where
      go : (r : ℕ) → r < 6 → bounded (get_or l (6 * i) nan) ≡ true → Fits 1 ≡ true → Fits 2 ≡ true → Fits 3 ≡ true → Fits 4 ≡ true → Fits 5 ≡ true → Fits r ≡ true
      go zero b p0 p1 p2 p3 p4 p5 = let z : 6 * i ≡ 6 * i + 0 = omega arith in ap (λ (n : ℕ). bounded (get_or l n nan)) (sym z) ∙ p0
      go (suc zero) b p0 p1 p2 p3 p4 p5 = p1
      go (suc (suc zero)) b p0 p1 p2 p3 p4 p5 = p2
      go (suc (suc (suc zero))) b p0 p1 p2 p3 p4 p5 = p3
      go (suc (suc (suc (suc zero)))) b p0 p1 p2 p3 p4 p5 = p4
      go (suc (suc (suc (suc (suc zero))))) b p0 p1 p2 p3 p4 p5 = p5
      go (suc (suc (suc (suc (suc (suc r)))))) b p0 p1 p2 p3 p4 p5 = absurd (omega arith)

-- strips that 31 lets pass are equal to themselves
pub same-strips : (l : List Float) → Sixfold l → strips_fit l ≡ true → same_doubles l l ≡ true
unfolding strips_fit capacity
same-strips l s h =
    same_self eq l nan
    (λ i b.
    let e : i ≡ 6 * (i / 6) + i % 6 = omega arith in
    itself (get_or l i nan) (ap (λ (n : ℕ). finite (get_or l n nan)) e ∙ bounded_finite (get_or l (6 * (i / 6) + i % 6) nan)
    (number_fits l (i / 6) (up_from-every (λ n. strip_fits (strip_at l n)) (length l / 6) 0 h (i / 6) (omega arith) (omega arith)) (i % 6) (omega arith))))

-- ---- strips of some of the copies

module _ (st new : List Float) (s : Sixfold st) (t : Sixfold new) (h : strips_fit (st ++ new) ≡ true) where
  each : (i : ℕ) → i < capacity (st ++ new) → strip_fits (strip_at (st ++ new) i) ≡ true
  unfolding strips_fit
  each i b = up_from-every (λ n. strip_fits (strip_at (st ++ new) n)) (capacity (st ++ new)) 0 h i (omega arith) (omega arith)

  fit-front : strips_fit st ≡ true
  unfolding strips_fit
  fit-front =
      let c = capacity_append st new s t in
      every-up_from (λ n. strip_fits (strip_at st n)) (capacity st) 0 (λ i a b. ap strip_fits ((grows_append st new s).same i (omega arith)) ∙ each i (omega arith))

  fit-back : strips_fit new ≡ true
  unfolding strips_fit
  fit-back =
      let c = capacity_append st new s t in
      every-up_from (λ n. strip_fits (strip_at new n)) (capacity new) 0 (λ i a b. ap strip_fits (sym (strip-right st new i s)) ∙ each (capacity st + i)
      (omega arith))

-- ---- tests of every standing copy

module _ {A : Type 0} (test : A → Bool) where
  pub every-kept : (keeps : A → Bool) (xs : List A) → every test xs ≡ true → every test (keep keeps xs) ≡ true
  unfolding every keep
  every-kept keeps [] a = refl
  every-kept keeps (x ∷ xs) a = go (both_first (test x) (every test xs) a) (every-kept keeps xs (both_second (test x) (every test xs) a)) (either (keeps x))
    where
      go : test x ≡ true → every test (keep keeps xs) ≡ true → (keeps x ≡ true) ⊎ (keeps x ≡ false) → every test (keep keeps (x ∷ xs)) ≡ true
      go b r (inl e) = ap (every test) (keep_yes keeps x xs e) ∙ rw (b, r)
      go b r (inr e) = ap (every test) (keep_no keeps x xs e) ∙ r

-- a standing copy's orientation and position, and how far right it reaches
abbrev pub Stands : Job → Standing → Bool
Stands j c = orientation_fits (orientation_counts j) c && position_fits c

abbrev pub Reach : Planner → Standing → Float
Reach p c = c.x ⊕ (shape_of p c.copy.kind c.orientation).bounds.right

abbrev pub Reaches : Planner → Standing → Bool
Reaches p c = bounded (Reach p c)

-- a test that says the same of a copy that has moved up
module _ (test : Standing → Bool) (n : ℕ) (same : (c : Standing) → test (standing_after n c) ≡ test c) where
  moved_pass : (cs : List Standing) → every test cs ≡ true → every test (map (standing_after n) cs) ≡ true
  unfolding every
  moved_pass [] h = refl
  moved_pass (c ∷ cs) h = rw (same c, both_first (test c) (every test cs) h, moved_pass cs (both_second (test c) (every test cs) h))

  pub others_pass : (cs : List Standing) → every test cs ≡ true → every test (map (standing_after n) (others n cs)) ≡ true
  unfolding others
  others_pass cs h = moved_pass (others n cs) (every-kept test (λ c. not (eqb c.copy.place n)) cs h)

pub stands_same : (j : Job) (n : ℕ) (c : Standing) → Stands j (standing_after n c) ≡ Stands j c
unfolding standing_after copy_after orientation_fits position_fits
stands_same j n c = refl

pub reaches_same : (p : Planner) (n : ℕ) (c : Standing) → Reaches p (standing_after n c) ≡ Reaches p c
unfolding standing_after copy_after
reaches_same p n c = refl

-- right, found anew, is bounded
pub right-bounded : (p : Planner) (r : Float) (cs : List Standing) → bounded r ≡ true → every (Reaches p) cs ≡ true → bounded (right_of p r cs) ≡ true
unfolding right_of every
right-bounded p r [] b h = b
right-bounded p r (c ∷ cs) b h = right-bounded p (larger r (Reach p c)) cs (larger-bounded r (Reach p c) b (both_first (Reaches p c) (every (Reaches p) cs) h))
    (both_second (Reaches p c) (every (Reaches p) cs) h)

-- the strips of those that stay
pub strips_stay : (p : Planner) (keeps : Standing → Bool) (cs : List Standing) → strips_fit (standing_strips p cs) ≡ true → strips_fit
    (standing_strips p (keep keeps cs)) ≡ true
unfolding keep
strips_stay p keeps [] h = h
strips_stay p keeps (c ∷ cs) h = go (strips_stay p keeps cs (fit-back (standing_strips p (c ∷ [])) (standing_strips p cs) (standing_sixfold p (c ∷ []))
    (standing_sixfold p cs) whole)) (either (keeps c))
  where
    whole : strips_fit (standing_strips p (c ∷ []) ++ standing_strips p cs) ≡ true
    whole = ap strips_fit (sym (strips_append p (c ∷ []) cs)) ∙ h

    front : strips_fit (standing_strips p (c ∷ [])) ≡ true
    front = fit-front (standing_strips p (c ∷ [])) (standing_strips p cs) (standing_sixfold p (c ∷ [])) (standing_sixfold p cs) whole

    go : strips_fit (standing_strips p (keep keeps cs)) ≡ true → (keeps c ≡ true) ⊎ (keeps c ≡ false) → strips_fit (standing_strips p (keep keeps (c ∷ cs))) ≡ true
    go r (inl e) =
        ap (λ (l : List Standing). strips_fit (standing_strips p l)) (keep_yes keeps c cs e)
        ∙ ap strips_fit (strips_append p (c ∷ []) (keep keeps cs))
        ∙ Numbers31.strips_append (standing_strips p (c ∷ [])) (standing_strips p (keep keeps cs)) (standing_sixfold p (c ∷ []))
        (standing_sixfold p (keep keeps cs)) front r
    go r (inr e) = ap (λ (l : List Standing). strips_fit (standing_strips p l)) (keep_no keeps c cs e) ∙ r

-- areas do not depend on places
pub summed-after : (p : Planner) (n : ℕ) (a : Float) (cs : List Copy) → summed p a (map (copy_after n) cs) ≡ summed p a cs
unfolding summed copy_after
summed-after p n a [] = refl
summed-after p n a (c ∷ cs) = summed-after p n (a ⊕ get_or p.areas c.kind pos_zero) cs

-- ---- choices

pub best_all : (Q : Choice → Type 0) (a : Choice) (cs : List Choice) → Q a → All Q cs → Q (best a cs)
unfolding best
best_all Q a [] q h = q
best_all Q a (b ∷ cs) q h = go (wins b a) (best_all Q b cs h.0 h.1) (best_all Q a cs q h.1)
  where
    go : (t : Bool) → Q (best b cs) → Q (best a cs) → Q (elim t [ true ↦ best b cs | false ↦ best a cs ])
    go true x y = x
    go false x y = y

-- an orientation that is chosen is one of the kind's
pub choices-under : (p : Planner) (m o : ℕ) (ss : List Shape) (fs : List Found) → o + length ss ≤ m → All (λ (c : Choice). c.orientation < m)
    (choices p o ss fs)
unfolding choices
choices-under p m o [] fs h = tt
choices-under p m o (s ∷ ss) [] h = tt
choices-under p m o (s ∷ ss) (f ∷ fs) h = all_append (λ (c : Choice). c.orientation < m) (choice_of p o s f) (choices p (suc o) ss fs) (one f)
    (choices-under p m (suc o) ss fs (omega arith))
  where
    one : (f : Found) → All (λ (c : Choice). c.orientation < m) (choice_of p o s f)
    one nowhere = unfold choice_of in tt
    one (at c y g) = unfold choice_of in (omega arith, tt)
