-- Vertical edges span no slab: without them the strips are the same. Assumes nothing.
use Prim.Native.Nat.{ℕ, ◌+◌, ◌*◌, ◌≤◌}
use native.Mathlib.Omega.{arith}
use native.Mathlib.Numerals.{add-one}
use mathlib.Core.Path.{◌≡◌, refl, ap, sym, ◌∙◌}
use mathlib.Core.List.{List, [], ◌∷◌, ◌++◌}
use mathlib.Core.Bool.{Bool, true, false, not, ◌&&◌}
use lib.ListN.{length}
use lib.Ieee.{Float, le, lt, eq}
use Rattle.trapezoid.specs.declared.Trapezoid.{Trapezoid}
use Rattle.slabs.specs.declared.Edge.{Edge}
use Rattle.slabs.specs.Slab.{up, sort, spans, Crossing, crossing, before, spanning, crossings, walk, slab}
use Rattle.slabs.specs.inner.Tables.{edge_at, set_edge}
use Rattle.slabs.proofs.Sorting.{up_snoc, up_ext}
use Rattle.slabs.proofs.Forward.{spanning_off}
use Rattle.strips.specs.inner.Tables.{slanted}
use Rattle.strips.specs.Strips.{strips_between, slabs}
use Rattle.strips.proofs.EdgeTable.{edge-below, edge-above, edge_same}

slanted_yes : (e : Edge) (es : List Edge) → not (eq e.px e.qx) ≡ true → slanted (e ∷ es) ≡ e ∷ slanted es
unfolding slanted
slanted_yes e es h = rw (h, slanted)

slanted_no : (e : Edge) (es : List Edge) → not (eq e.px e.qx) ≡ false → slanted (e ∷ es) ≡ slanted es
unfolding slanted
slanted_no e es h = rw (h, slanted)

slanted_append : (a b : List Edge) → slanted (a ++ b) ≡ slanted a ++ slanted b
unfolding slanted
slanted_append [] b = refl
slanted_append (e ∷ a) b = go (not (eq e.px e.qx)) refl (slanted_append a b)
  where
    go : (t : Bool) → not (eq e.px e.qx) ≡ t → slanted (a ++ b) ≡ slanted a ++ slanted b → slanted (e ∷ (a ++ b)) ≡ slanted (e ∷ a) ++ slanted b
    go true h i = slanted_yes e (a ++ b) h ∙ (ap (λ (l : List Edge). e ∷ l) i ∙ ap (λ (l : List Edge). l ++ slanted b) (sym (slanted_yes e a h)))
    go false h i = slanted_no e (a ++ b) h ∙ (i ∙ ap (λ (l : List Edge). l ++ slanted b) (sym (slanted_no e a h)))

-- ---- one turn of the loop, at edge i, with m kept
module _ (f : ℕ → Edge) (i : ℕ) where
  slanted_snoc : slanted (up f 0 (i + 1)) ≡ slanted (up f 0 i) ++ slanted (f i ∷ [])
  slanted_snoc = let z : 0 + i ≡ i = omega arith in ap (λ (n : ℕ). slanted (up f 0 n)) (add-one i) ∙ (ap slanted (up_snoc f 0 i) ∙ (ap (λ (n : ℕ). slanted (up f 0 i ++ (f n ∷ []))) z ∙ slanted_append (up f 0 i) (f i ∷ [])))

  pub past_vertical : (l : List Edge) → not (eq (f i).px (f i).qx) ≡ false → l ≡ slanted (up f 0 i) → l ≡ slanted (up f 0 (i + 1))
  unfolding slanted
  past_vertical l h e = e ∙ (sym (nil (slanted (up f 0 i))) ∙ sym (slanted_snoc ∙ ap (λ (x : List Edge). slanted (up f 0 i) ++ x) (slanted_no (f i) [] h)))
    where
      nil : (l : List Edge) → l ++ [] ≡ l
      nil [] = refl
      nil (a ∷ l) = ap (λ (m : List Edge). a ∷ m) (nil l)

  pub moved-slanted : (es es' : List Float) (m : ℕ) → 6 * m + 6 ≤ length es → edge_at es i ≡ f i → es' ≡ set_edge es m (edge_at es i) → not (eq (f i).px (f i).qx) ≡ true → up (edge_at es) 0 m ≡ slanted (up f 0 i) → up (edge_at es') 0 (m + 1) ≡ slanted (up f 0 (i + 1))
  unfolding slanted
  moved-slanted es es' m len ef e h inv =
      let z : 0 + m ≡ m = omega arith in
      ap (λ (n : ℕ). up (edge_at es') 0 n) (add-one m) ∙ (up_snoc (edge_at es') 0 m
      ∙ (ap (λ (n : ℕ). up (edge_at es') 0 m ++ (edge_at es' n ∷ [])) z
      ∙ (ap (λ (l : List Edge). l ++ (edge_at es' m ∷ [])) (up_ext (edge_at es) (edge_at es') 0 m (λ k b. ap (λ (r : List Float). edge_at r k) e ∙ edge-below es m (edge_at es i) k (omega arith)) ∙ inv)
      ∙ (ap (λ (x : Edge). slanted (up f 0 i) ++ (x ∷ [])) (ap (λ (r : List Float). edge_at r m) e ∙ (edge_same es m (edge_at es i) len ∙ ef))
      ∙ sym (slanted_snoc ∙ ap (λ (x : List Edge). slanted (up f 0 i) ++ x) (slanted_yes (f i) [] h))))))

-- what lies from i + 1 on is as it was
pub rest-kept : (es₀ es es' : List Float) (i m : ℕ) → m ≤ i → es' ≡ set_edge es m (edge_at es i) → ((q : ℕ) → i ≤ q → edge_at es q ≡ edge_at es₀ q) → (q : ℕ) → i + 1 ≤ q → edge_at es' q ≡ edge_at es₀ q
rest-kept es₀ es es' i m h e k q l = ap (λ (r : List Float). edge_at r q) e ∙ (edge-above es m (edge_at es i) q (omega arith) ∙ k q (omega arith))

-- ---- the strips are the same
and-false : (a b : Bool) → a && (b && false) ≡ false
and-false true true = refl
and-false true false = refl
and-false false b = refl

vertical_out : (xa xb : Float) (e : Edge) → not (eq e.px e.qx) ≡ false → spans xa xb e ≡ false
unfolding spans
vertical_out xa xb e h = ap (λ (t : Bool). le e.lo xa && (le xb e.hi && t)) h ∙ and-false (le e.lo xa) (le xb e.hi)

spanning_on : (xa xb : Float) (e : Edge) (a b : List Edge) → spanning xa xb a ≡ spanning xa xb b → spanning xa xb (e ∷ a) ≡ spanning xa xb (e ∷ b)
unfolding spanning
spanning_on xa xb e a b h = go (spans xa xb e)
  where
    go : (t : Bool) → ◌≡◌ {A = List Crossing} (elim t [ true ↦ crossing xa xb e ∷ spanning xa xb a | false ↦ spanning xa xb a ]) (elim t [ true ↦ crossing xa xb e ∷ spanning xa xb b | false ↦ spanning xa xb b ])
    go true = ap (λ (l : List Crossing). crossing xa xb e ∷ l) h
    go false = h

spanning-slanted : (xa xb : Float) (es : List Edge) → spanning xa xb (slanted es) ≡ spanning xa xb es
unfolding slanted
spanning-slanted xa xb [] = refl
spanning-slanted xa xb (e ∷ es) = go (not (eq e.px e.qx)) refl (spanning-slanted xa xb es)
  where
    go : (t : Bool) → not (eq e.px e.qx) ≡ t → spanning xa xb (slanted es) ≡ spanning xa xb es → spanning xa xb (slanted (e ∷ es)) ≡ spanning xa xb (e ∷ es)
    go true h i = ap (λ (l : List Edge). spanning xa xb l) (slanted_yes e es h) ∙ spanning_on xa xb e (slanted es) es i
    go false h i = ap (λ (l : List Edge). spanning xa xb l) (slanted_no e es h) ∙ (i ∙ sym (spanning_off xa xb e es (vertical_out xa xb e h)))

module _ (es : List Edge) (sheet : Bool) (bottom top : Float) where
  between-slanted : (a b : Float) → strips_between (slanted es) sheet bottom top a b ≡ strips_between es sheet bottom top a b
  unfolding strips_between slab crossings
  between-slanted a b = ap (λ (l : List Crossing). elim (lt a b) [ true ↦ walk sheet top a b (lib.IntN.pos 0) bottom bottom (sort before l) | false ↦ [] ]) (spanning-slanted a b es)

  pub slabs-slanted : (l : List Float) → slabs (slanted es) sheet bottom top l ≡ slabs es sheet bottom top l
  unfolding slabs
  slabs-slanted [] = refl
  slabs-slanted (a ∷ []) = refl
  slabs-slanted (a ∷ b ∷ l) = ap (λ (x : List Trapezoid). x ++ slabs (slanted es) sheet bottom top (b ∷ l)) (between-slanted a b) ∙ ap (λ (x : List Trapezoid). strips_between es sheet bottom top a b ++ x) (slabs-slanted (b ∷ l))
