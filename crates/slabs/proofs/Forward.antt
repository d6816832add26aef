-- Crossings gathered from the first edge to the last, each put after its equals. Assumes nothing.
use Prim.Native.Nat.{ℕ, ◌+◌}
use native.Mathlib.Omega.{arith}
use native.Mathlib.Numerals.{add-one}
use mathlib.Core.Path.{◌≡◌, refl, ap, sym, ◌∙◌, subst}
use mathlib.Core.Logic.{inl, inr}
use mathlib.Core.List.{List, [], ◌∷◌, ◌++◌}
use mathlib.Core.Bool.{Bool, true, false}
use lib.Ieee.{Float}
use Rattle.numbers.specs.Numbers.{◌⊕◌}
use Rattle.numbers.proofs.Truth.{either}
use Rattle.slabs.specs.declared.Edge.{Edge}
use Rattle.slabs.specs.declared.Row.{Row}
use Rattle.slabs.specs.Slab.{up, insert, sort, Crossing, crossing, before, spans, spanning, crossings}
use Rattle.slabs.specs.inner.Tables.{down, merge, crossing_of, behind, Number, Placed}
use Rattle.slabs.proofs.Sorting.{insert_on, insert-here, up_snoc}
use Rattle.slabs.proofs.Merging.{All, merge-right, merge-left, merge_none, merge-sort, all_append}
use Rattle.slabs.proofs.Places.{in_place}

-- ---- a crossing that has a place
pub placed_is : (c : Row) → Number (c.ya ⊕ c.yb) → Number c.ya → Placed (crossing_of c)
unfolding Placed crossing_of
placed_is c p q = (p, q)

-- ---- sorted lists with one more at the end
pub stays : (x a : Crossing) → before x a ≡ true → behind a x ≡ false
unfolding behind
stays x a e = rw e

pub goes : (x a : Crossing) → before x a ≡ false → behind a x ≡ true
unfolding behind
goes x a e = rw e

behind-merge : (x : Crossing) (l : List Crossing) → merge before l (x ∷ []) ≡ insert behind x l
unfolding merge insert
behind-merge x [] = refl
behind-merge x (a ∷ l) = elim (either (before x a)) [
  | inl e ↦ merge-right before a x l [] e ∙ (ap (λ (t : List Crossing). x ∷ t) (merge_none before (a ∷ l)) ∙ sym (insert-here behind x a l (stays x a e)))
  | inr e ↦ merge-left before a x l [] e ∙ (ap (λ (t : List Crossing). a ∷ t) (behind-merge x l) ∙ sym (insert_on behind x a l (goes x a e)))
]

sort_snoc : (l : List Crossing) (x : Crossing) → All Placed l → Placed x → insert behind x (sort before l) ≡ sort before (l ++ (x ∷ []))
unfolding sort insert
sort_snoc l x pl px = sym (behind-merge x (sort before l)) ∙ merge-sort before Placed in_place l (x ∷ []) pl (px, tt)

-- ---- the crossings of one edge more
module _ (xa xb : Float) where
  spanning_on : (e : Edge) (es : List Edge) → spans xa xb e ≡ true → spanning xa xb (e ∷ es) ≡ crossing xa xb e ∷ spanning xa xb es
  unfolding spanning
  spanning_on e es t = rw (t, spanning)

  pub spanning_off : (e : Edge) (es : List Edge) → spans xa xb e ≡ false → spanning xa xb (e ∷ es) ≡ spanning xa xb es
  unfolding spanning
  spanning_off e es t = rw (t, spanning)

  spanning-none : spanning xa xb [] ≡ []
  unfolding spanning
  spanning-none = refl

  spanning_append : (l r : List Edge) → spanning xa xb (l ++ r) ≡ spanning xa xb l ++ spanning xa xb r
  spanning_append [] r = sym (ap (λ (t : List Crossing). t ++ spanning xa xb r) spanning-none)
  spanning_append (e ∷ l) r = elim (either (spans xa xb e)) [
    | inl t ↦ spanning_on e (l ++ r) t ∙ (ap (λ (z : List Crossing). crossing xa xb e ∷ z) (spanning_append l r) ∙ sym (ap (λ (z : List Crossing). z ++ spanning xa xb r) (spanning_on e l t)))
    | inr t ↦ spanning_off e (l ++ r) t ∙ (spanning_append l r ∙ sym (ap (λ (z : List Crossing). z ++ spanning xa xb r) (spanning_off e l t)))
  ]

  append_none : (l : List Crossing) → l ++ [] ≡ l
  append_none [] = refl
  append_none (a ∷ l) = ap (λ (t : List Crossing). a ∷ t) (append_none l)

  up_more : (f : ℕ → Edge) (i : ℕ) (e : Edge) → e ≡ f i → up f 0 (i + 1) ≡ up f 0 i ++ (e ∷ [])
  up_more f i e ee = let z : 0 + i ≡ i = omega arith in rw (add-one i, ee) (up_snoc f 0 i ∙ ap (λ (j : ℕ). up f 0 i ++ (f j ∷ [])) z)

  more_on : (f : ℕ → Edge) (i : ℕ) (e : Edge) → e ≡ f i → spans xa xb e ≡ true → spanning xa xb (up f 0 (i + 1)) ≡ spanning xa xb (up f 0 i) ++ (crossing xa xb e ∷ [])
  more_on f i e ee t =
      ap (spanning xa xb) (up_more f i e ee) ∙ (spanning_append (up f 0 i) (e ∷ []) ∙ ap (λ (z : List Crossing). spanning xa xb (up f 0 i) ++ z) (spanning_on e [] t ∙ ap (λ (z : List Crossing). crossing xa xb e ∷ z) spanning-none))

  more_off : (f : ℕ → Edge) (i : ℕ) (e : Edge) → e ≡ f i → spans xa xb e ≡ false → spanning xa xb (up f 0 (i + 1)) ≡ spanning xa xb (up f 0 i)
  more_off f i e ee t =
      ap (spanning xa xb) (up_more f i e ee) ∙ (spanning_append (up f 0 i) (e ∷ []) ∙ (ap (λ (z : List Crossing). spanning xa xb (up f 0 i) ++ z) (spanning_off e [] t ∙ spanning-none) ∙ append_none (spanning xa xb (up f 0 i))))

  -- what was gathered of the edges before number i
  pub record Gathered (f : ℕ → Edge) (g : ℕ → Crossing) (m i : ℕ) : Type 0 where
    pub rows : down g m ≡ crossings xa xb (up f 0 i)
    pub places : All Placed (spanning xa xb (up f 0 i))

  pub forward_none : (f : ℕ → Edge) (g : ℕ → Crossing) → Gathered f g 0 0
  unfolding crossings spanning sort down up
  forward_none f g = record { rows = refl; places = tt }

  pub forward_all : (f : ℕ → Edge) (g : ℕ → Crossing) (m i n : ℕ) → i ≡ n → Gathered f g m i → down g m ≡ crossings xa xb (up f 0 n)
  forward_all f g m i n e inv = inv.rows ∙ ap (λ (k : ℕ). crossings xa xb (up f 0 k)) e

  module _ (f : ℕ → Edge) (i : ℕ) (e : Edge) (ee : e ≡ f i) (t : Bool) (et : t ≡ spans xa xb e) where
    pub forward_on : (g g' : ℕ → Crossing) (m : ℕ) (c : Row) → t ≡ true → crossing_of c ≡ crossing xa xb e → Placed (crossing_of c) → down g' (m + 1) ≡ insert behind (crossing_of c) (down g m) → Gathered f g m i → Gathered f g' (m + 1) (i + 1)
    unfolding crossings
    forward_on g g' m c y ec pc h inv =
        let l = spanning xa xb (up f 0 i) in
        let pe = subst Placed ec pc in
        let s = more_on f i e ee (sym et ∙ y) in
        record {
          rows = h ∙ (ap (λ (z : Crossing). insert behind z (down g m)) ec ∙ (ap (insert behind (crossing xa xb e)) inv.rows ∙ (sort_snoc l (crossing xa xb e) inv.places pe ∙ ap (sort before) (sym s))));
          places = subst (All Placed) (sym s) (all_append Placed l (crossing xa xb e ∷ []) inv.places (pe, tt));
        }

    pub forward_off : (g : ℕ → Crossing) (m : ℕ) → t ≡ false → Gathered f g m i → Gathered f g m (i + 1)
    unfolding crossings
    forward_off g m y inv =
        let s = more_off f i e ee (sym et ∙ y) in
        record { rows = inv.rows ∙ ap (sort before) (sym s); places = subst (All Placed) (sym s) inv.places }
