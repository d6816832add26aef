-- Laws of the walk over the x's, without equal ones. Assumes nothing.
use Prim.Native.Nat.{ℕ, zero, suc, ◌-◌, ◌≤◌, ◌<◌}
use native.Mathlib.Omega.{arith}
use mathlib.Core.Path.{◌≡◌, ap, sym, ◌∙◌}
use mathlib.Core.List.{List, [], ◌∷◌, ◌++◌}
use mathlib.Core.Bool.{Bool, true, false, not}
use lib.Ieee.{Float, lt, eq}
use borrow.Author.Tests.{not-true, not-false}
use Rattle.slabs.specs.declared.Edge.{Edge}
use Rattle.slabs.specs.Slab.{slab, up, sort}
use Rattle.slabs.specs.inner.Tables.{down, edge_at, Held, hold}
use Rattle.slabs.proofs.Sorting.{down-suc, down-zero}
use Rattle.slabs.proofs.Storing.{hold_append}
use Rattle.strips.specs.declared.Rect.{Rect}
use Rattle.strips.specs.Strips.{x_of, frame, distinct_from, distinct, xs, strips_between, slabs, edges, bounds, trapezoids}
use Rattle.strips.specs.inner.Tables.{slanted}
use Rattle.strips.proofs.Slanted.{slabs-slanted}
use Rattle.slabs.specs.xs.inner.Xs.{x_at, sides}
use Rattle.slabs.proofs.xs.Lines.{at}

from-same : (a b : Float) (bs : List Float) → eq a b ≡ true → distinct_from a (b ∷ bs) ≡ distinct_from a bs
unfolding distinct_from
from-same a b bs e = rw (e, distinct_from)

from-other : (a b : Float) (bs : List Float) → eq a b ≡ false → distinct_from a (b ∷ bs) ≡ b ∷ distinct_from b bs
unfolding distinct_from
from-other a b bs e = rw (e, distinct_from)

pred-down : (f : ℕ → Float) (k : ℕ) → 0 < k → down f k ≡ f (k - 1) ∷ down f (k - 1)
pred-down f zero p = absurd (omega arith)
pred-down f (suc j) p = let d : suc j - 1 ≡ j = omega arith in rw d (down-suc f j)

module _ (es : List Edge) (sheet : Bool) (bottom top : Float) where
  pub between_yes : (xa xb : Float) → lt xa xb ≡ true → strips_between es sheet bottom top xa xb ≡ slab es sheet bottom top xa xb
  unfolding strips_between
  between_yes xa xb e = rw (e, strips_between)

  pub between_no : (xa xb : Float) → lt xa xb ≡ false → strips_between es sheet bottom top xa xb ≡ []
  unfolding strips_between
  between_no xa xb e = rw (e, strips_between)

  -- what is held once the strips after a are held too; k x's are to come
  abbrev pub to_come_lem : Held → (ℕ → Float) → Float → ℕ → Held
  to_come_lem h f a k = hold h (slabs es sheet bottom top (a ∷ distinct_from a (down f k)))

  module _ (f : ℕ → Float) where
    pub walk_on : (h : Held) (k : ℕ) (a : Float) (t : Bool) → 0 < k → t ≡ not (eq a (f (k - 1))) → t ≡ true → to_come_lem (hold h (strips_between es sheet bottom top a (f (k - 1)))) f (f (k - 1)) (k - 1) ≡ to_come_lem h f a k
    unfolding slabs
    walk_on h k a t p et e =
        sym (hold_append h (strips_between es sheet bottom top a (f (k - 1))) (slabs es sheet bottom top (f (k - 1) ∷ distinct_from (f (k - 1)) (down f (k - 1)))))
        ∙ ap (λ (l : List Float). hold h (slabs es sheet bottom top (a ∷ l))) (sym (ap (λ (l : List Float). distinct_from a l) (pred-down f k p) ∙ from-other a (f (k - 1)) (down f (k - 1)) (not-true (eq a (f (k - 1))) (sym et ∙ e))))

    pub walk-past : (h : Held) (k : ℕ) (a : Float) (t : Bool) → 0 < k → t ≡ not (eq a (f (k - 1))) → t ≡ false → to_come_lem h f a (k - 1) ≡ to_come_lem h f a k
    walk-past h k a t p et e =
        ap (λ (l : List Float). hold h (slabs es sheet bottom top (a ∷ l))) (sym (ap (λ (l : List Float). distinct_from a l) (pred-down f k p) ∙ from-same a (f (k - 1)) (down f (k - 1)) (not-false (eq a (f (k - 1))) (sym et ∙ e))))

    pub walk_start : (h : Held) (m : ℕ) → 0 < m → to_come_lem h f (f (m - 1)) (m - 1) ≡ hold h (slabs es sheet bottom top (distinct (down f m)))
    unfolding distinct
    walk_start h m p = ap (λ (l : List Float). hold h (slabs es sheet bottom top (distinct l))) (sym (pred-down f m p))

    pub walk_end : (h : Held) (k : ℕ) (a : Float) → k ≤ 0 → to_come_lem h f a k ≡ h
    unfolding slabs distinct_from hold
    walk_end h k a p = let z : k ≡ 0 = omega arith in rw (z, down-zero f)

-- ---- the whole
pub strips-held : (pts : List Float) (n m c : ℕ) (ends : List ℕ) (sheet : Bool) (es es' line : List Float) (b : Rect) → b ≡ bounds pts n → down (at line) m ≡ sort lt (up (x_at pts) 0 n ++ sides sheet b.left b.right) → up (edge_at es) 0 n ≡ edges pts 0 ends → up (edge_at es') 0 c ≡ slanted (up (edge_at es) 0 n)
    → slabs (up (edge_at es') 0 c) sheet b.bottom b.top (distinct (down (at line) m)) ≡ trapezoids pts n ends sheet
unfolding trapezoids xs x_of x_at frame sides
strips-held pts n m c ends sheet es es' line b eb ex ee ec =
    ap (λ (l : List Edge). slabs l sheet b.bottom b.top (distinct (down (at line) m))) (ec ∙ ap slanted ee)
    ∙ (slabs-slanted (edges pts 0 ends) sheet b.bottom b.top (distinct (down (at line) m)) ∙ rw (ex, eb))
