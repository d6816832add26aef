-- Places that are legal stay so where fewer copies stand before them. Assumes nothing.
use Prim.Native.Nat.{ℕ, ◌+◌, ◌-◌, ◌<◌}
use native.Mathlib.Omega.{arith}
use mathlib.Core.Path.{◌≡◌, refl, sym, ap, subst, ◌∙◌}
use mathlib.Core.Logic.{◌⊎◌, inl, inr}
use mathlib.Core.Bool.{Bool, true, false, not, ◌&&◌}
use mathlib.Core.List.{List, [], ◌∷◌, ◌++◌, map, flat_map, append-nil, append_assoc}
use lib.Ieee.{Float}
use Rattle.numbers.proofs.Truth.{either, both_first, both_second, below_or_not}
use Rattle.numbers.proofs.Doubles.{Number}
use Rattle.trapezoid.specs.declared.Trapezoid.{Trapezoid}
use Rattle.trapezoid.specs.Strip.{strip_at, capacity}
use Rattle.index.specs.declared.Interval.{Interval}
use Rattle.index.specs.Buckets.{up_from, keep}
use Rattle.index.specs.Intervals.{interval_in, meeting_of, forbidden_of}
use Rattle.index.proofs.Steps.{keep_yes, keep_no}
use Rattle.look.specs.height.Smallest.{inside, outside}
use Rattle.frames.specs.declared.Point.{Point}
use Rattle.filling.specs.Shapes.{Planner, Shape, Standing, shape_of, copy_strips, standing_strips}
use Rattle.filling.specs.Plain.{copy_after, standing_after}
use Rattle.filling.specs.Consistent.{every}
use Rattle.filling.specs.NextCopy.{new_strips}
use Rattle.filling.proofs.Reading.{Sixfold, sixfold_append, capacity_append}
use Rattle.filling.proofs.Steps.{new_sixfold}
use Rattle.filling.proofs.FirstFree.{grows_append}
use Rattle.filling.proofs.Numbers31.{every-up_from, up_from-every, strip-right}
use Rattle.layouts.specs.Layouts.{in_range, clear}

-- ---- outside of lists of intervals

pub outside_append : (is js : List Interval) (y : Float) → outside (is ++ js) y ≡ outside is y && outside js y
unfolding outside
outside_append [] js y = refl
outside_append (i ∷ is) js y = go (inside y i) (outside_append is js y)
  where
    go : (t : Bool) → outside (is ++ js) y ≡ outside is y && outside js y → not t && outside (is ++ js) y ≡ not t && outside is y && outside js y
    go true e = refl
    go false e = e

outside-flat : (f : ℕ → List Interval) (y : Float) (l : List ℕ) → outside (flat_map f l) y ≡ every (λ i. outside (f i) y) l
unfolding flat_map every
outside-flat f y [] = unfold outside in refl
outside-flat f y (i ∷ l) = outside_append (f i) (flat_map f l) y ∙ ap (λ (b : Bool). outside (f i) y && b) (outside-flat f y l)

module _ (standing moving : List Float) (x y : Float) where
  abbrev Pair : ℕ → ℕ → List Interval
  Pair j i = interval_in (meeting_of (strip_at moving j) x (strip_at standing i))

  abbrev Row : ℕ → List Interval
  Row j = flat_map (Pair j) (up_from (capacity standing) 0)

  -- a height that lies in no forbidden interval lies in none of any pair of strips
  pub clear-each : outside (forbidden_of standing moving x) y ≡ true → (j i : ℕ) → j < capacity moving → i < capacity standing
      → outside (interval_in (meeting_of (strip_at moving j) x (strip_at standing i))) y ≡ true
  unfolding forbidden_of
  clear-each h j i a b =
      let rows = up_from-every (λ m. outside (Row m) y) (capacity moving) 0 (sym (outside-flat Row y (up_from (capacity moving) 0)) ∙ h) in
      let row : outside (Row j) y ≡ true = rows j (omega arith) (omega arith) in
      up_from-every (λ n. outside (Pair j n) y) (capacity standing) 0 (sym (outside-flat (Pair j) y (up_from (capacity standing) 0)) ∙ row) i
      (omega arith) (omega arith)

  pub each-clear : ((j i : ℕ) → j < capacity moving → i < capacity standing
      → outside (interval_in (meeting_of (strip_at moving j) x (strip_at standing i))) y ≡ true) → outside (forbidden_of standing moving x) y ≡ true
  unfolding forbidden_of
  each-clear h =
      outside-flat Row y (up_from (capacity moving) 0)
      ∙ every-up_from (λ m. outside (Row m) y) (capacity moving) 0
      (λ j a b. outside-flat (Pair j) y (up_from (capacity standing) 0)
      ∙ every-up_from (λ n. outside (Pair j n) y) (capacity standing) 0 (λ i c d. h j i (omega arith) (omega arith)))

-- ---- strips among others

-- every strip of the first is one of the second
abbrev pub Among : List Float → List Float → Type 0
Among st st' = (i : ℕ) → i < capacity st → (n : ℕ) × (n < capacity st') × (strip_at st i ≡ strip_at st' n)

pub among_self : (st : List Float) → Among st st
among_self st i h = (i, h, refl)

pub among_more : (st st' new : List Float) → Sixfold st' → Among st st' → Among st (st' ++ new)
among_more st st' new s a i h =
    let g = grows_append st' new s in
    let t = a i h in
    let m = g.more in
    (t.0, omega (arith, t.1), t.2 ∙ g.same t.0 t.1)

-- the same strips behind both
pub among_behind : (st st' new : List Float) → Sixfold st → Sixfold st' → Sixfold new → Among st st' → Among (st ++ new) (st' ++ new)
among_behind st st' new s s' t a i h = elim (below_or_not i (capacity st)) [
  | inl l ↦ let e = among_more st st' new s' a i l in (e.0, e.1, sym ((grows_append st new s).same i l) ∙ e.2)
  | inr l ↦
      let c = capacity_append st new s t in
      let c' = capacity_append st' new s' t in
      let d : i ≡ capacity st + (i - capacity st) = omega arith in (
        capacity st' + (i - capacity st),
        omega arith,
        ap (strip_at (st ++ new)) d ∙ strip-right st new (i - capacity st) s ∙ sym (strip-right st' new (i - capacity st) s'),
      )
]

-- fewer strips forbid less
clear_among : (st st' moving : List Float) (x y : Float) → Among st st' → outside (forbidden_of st' moving x) y ≡ true → outside (forbidden_of st moving x) y ≡
    true
clear_among st st' moving x y a h = each-clear st moving x y (λ j i b c. let t = a i c in
    ap (λ (s : Trapezoid). outside (interval_in (meeting_of (strip_at moving j) x s)) y) t.2 ∙ clear-each st' moving x y h j t.0 b t.1)

-- ---- legal places

-- a copy's place, and its shape
abbrev pub point_of : Standing → Point
point_of c = record { x = c.x; y = c.y }

abbrev pub own_shape : Planner → Standing → Shape
own_shape p c = shape_of p c.copy.kind c.orientation

-- a copy lies in its ranges, clear of the sheet and of the strips before it; its place is no minus zero
pub record LegalAt (p : Planner) (st : List Float) (c : Standing) : Type 0 where
  pub range : in_range p (own_shape p c) (point_of c) ≡ true
  pub clears : clear p st (own_shape p c) (point_of c) ≡ true
  pub x_number : Number c.x
  pub y_number : Number c.y

-- each after the strips of those before it
unfoldable pub LegalFrom : Planner → List Float → List Standing → Type 0
LegalFrom p st [] = Unit {0}
LegalFrom p st (c ∷ cs) = LegalAt p st c × LegalFrom p (st ++ copy_strips p c) cs

legal_among : (p : Planner) (st st' : List Float) (c : Standing) → Among st st' → LegalAt p st' c → LegalAt p st c
unfolding clear
legal_among p st st' c a h =
    let s = own_shape p c in
    let on_sheet = outside (forbidden_of p.sheet s.inset c.x) c.y in
    record {
      range = h.range;
      clears = rw (
        both_first on_sheet (outside (forbidden_of st' s.apart c.x) c.y) h.clears,
        clear_among st st' s.apart c.x c.y a (both_second on_sheet (outside (forbidden_of st' s.apart c.x) c.y) h.clears),
      );
      x_number = h.x_number;
      y_number = h.y_number;
    }

pub legal_snoc : (p : Planner) (st : List Float) (cs : List Standing) (c : Standing) → LegalFrom p st cs → LegalAt p (st ++ standing_strips p cs) c
    → LegalFrom p st (cs ++ (c ∷ []))
unfolding LegalFrom standing_strips flat_map
legal_snoc p st [] c h k = (subst (λ (l : List Float). LegalAt p l c) (append-nil st) k, tt)
legal_snoc p st (d ∷ cs) c h k = (
  h.0,
  legal_snoc p (st ++ copy_strips p d) cs c h.1
      (subst (λ (l : List Float). LegalAt p l c) (sym (append_assoc st (copy_strips p d) (flat_map (copy_strips p) cs))) k),
)

-- some of them, after fewer strips
pub legal_kept : (p : Planner) (test : Standing → Bool) (st st' : List Float) (cs : List Standing) → Sixfold st → Sixfold st' → Among st st'
    → LegalFrom p st' cs → LegalFrom p st (keep test cs)
unfolding LegalFrom keep copy_strips new_strips
legal_kept p test st st' [] s s' a h = tt
legal_kept p test st st' (c ∷ cs) s s' a h =
    let u = copy_strips p c in
    let t : Sixfold u = new_sixfold p c.copy.kind (record { orientation = c.orientation; x = c.x; y = c.y; gap = c.gap; right = c.x; top = c.y }) in
    go (legal_kept p test (st ++ u) (st' ++ u) cs (sixfold_append st u s t) (sixfold_append st' u s' t) (among_behind st st' u s s' t a) h.1)
    (legal_kept p test st (st' ++ u) cs s (sixfold_append st' u s' t) (among_more st st' u s' a) h.1) (either (test c))
  where
    go : LegalFrom p (st ++ copy_strips p c) (keep test cs) → LegalFrom p st (keep test cs) → (test c ≡ true) ⊎ (test c ≡ false)
        → LegalFrom p st (keep test (c ∷ cs))
    go x y (inl e) = subst (LegalFrom p st) (sym (keep_yes test c cs e)) (unfold LegalFrom in (legal_among p st st' c a h.0, x))
    go x y (inr e) = subst (LegalFrom p st) (sym (keep_no test c cs e)) y

-- a copy that has moved up in the order lies where it lay
pub legal_after : (p : Planner) (n : ℕ) (st : List Float) (cs : List Standing) → LegalFrom p st cs → LegalFrom p st (map (standing_after n) cs)
unfolding LegalFrom standing_after copy_after copy_strips
legal_after p n st [] h = tt
legal_after p n st (c ∷ cs) h = (
  record { range = h.0.range; clears = h.0.clears; x_number = h.0.x_number; y_number = h.0.y_number },
  legal_after p n (st ++ copy_strips p c) cs h.1,
)
