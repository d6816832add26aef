-- A line's tests in the code's order are the definition's. Assumes nothing.
use Rattle.std.specs.Prelude.{Option, Some, None, Result, Ok, Err}
use Prim.Native.Nat.{ℕ, ◌+◌, ◌*◌, ◌≤◌, ◌<◌}
use native.Mathlib.Omega.{arith}
use mathlib.Core.Path.{◌≡◌, refl, sym, ap, ap₂, ◌∙◌}
use mathlib.Core.Bool.{Bool, true, false, not, ◌&&◌}
use mathlib.Core.List.{List, ◌++◌}
use lib.ListN.{get_or, take, drop}
use lib.Dec.{leb}
use lib.Ieee.{Float}
use borrow.Author.Tests.{le-leb, lt-leb}
use Rattle.strips.specs.declared.Rect.{Rect}
use Rattle.index.specs.Intervals.{forbidden_of}
use Rattle.look.specs.height.Smallest.{outside}
use Rattle.bits.specs.declared.Refusal.TheVariants as Input
use Rattle.frames.specs.declared.Point.{Point}
use Rattle.frames.specs.Frames.{to}
use Rattle.job.specs.Jobs.{Job, frame_of}
use Rattle.filling.specs.declared.Refusal.{Refusal}
use Rattle.filling.specs.declared.Refusal.TheVariants as Why
use Rattle.filling.specs.Refusals.{refuse_if}
use Rattle.filling.specs.Shapes.{Shape, Planner, planner_of, shape_of}
use Rattle.filling.specs.Rooms.{Rooms}
use Rattle.filling.specs.Order.{count_in}
use Rattle.filling.specs.Leaf.{lacks}
use Rattle.filling.specs.NextCopy.{store_verdict}
use Rattle.filling.proofs.Steps.{refuse_yes, refuse_no, later_accepted}
use Rattle.accounts.specs.tables.inner.Tabled.{Tabled}
use Rattle.search.specs.declared.columns.Columns.{Columns}
use Rattle.search.specs.columns.inner.Stands.{columns_of}
use Rattle.choose.specs.declared.Grid.{Grid}
use Rattle.choose.specs.inner.Choosing.{bounds_at, part_at, inset_part, apart_part}
use Rattle.leaf.proofs.Handed.{has_kind}
use Rattle.placement.specs.range.inner.Ranged.{in_range_of}
use Rattle.placement.proofs.range.Same.{in_range_is}
use Rattle.layouts.specs.declared.PutLine.{PutLine}
use Rattle.layouts.specs.Layouts.{is_finite, value_of, place_of, line_strips, in_range, clear, quantity_of, place_verdict, line_verdict}
use Rattle.judge_lines.specs.inner.Judging.{known_by, place_fits, fits_by, TablesOf}
use Rattle.judge_lines.proofs.Slots as Slots

-- v where the first accepts
unfoldable pub then : Result (Unit {0}) Refusal → Result (Unit {0}) Refusal → Result (Unit {0}) Refusal
then (Ok tt) v = v
then (Err r) v = Err r

two_then : (a b : Bool) (A B : Refusal) (v : Result (Unit {0}) Refusal) → refuse_if a A (refuse_if b B v) ≡ then (refuse_if a A (refuse_if b B (Ok tt))) v
unfolding refuse_if then
two_then true b A B v = refl
two_then false true A B v = refl
two_then false false A B v = refl

four_then : (a b c d : Bool) (A B C D : Refusal) (v : Result (Unit {0}) Refusal)
    → refuse_if a A (refuse_if b B (refuse_if c C (refuse_if d D v))) ≡ then (refuse_if a A (refuse_if b B (refuse_if c C (refuse_if d D (Ok tt))))) v
unfolding refuse_if then
four_then true b c d A B C D v = refl
four_then false true c d A B C D v = refl
four_then false false true d A B C D v = refl
four_then false false false true A B C D v = refl
four_then false false false false A B C D v = refl

-- ---- 9 and 25

module _ (j : Job) (n k o : ℕ) where
  pub known_not : lacks j k o ≡ true → Err Why.MissingShape ≡ known_by j n k o
  unfolding known_by
  known_not e = sym (refuse_yes _ Why.MissingShape _ e)

  module _ (rows : List ℕ) (areas : List Float) (T : Tabled j rows areas) (has : lacks j k o ≡ false) where
    quantity_is : quantity_of j k ≡ get_or rows (4 * k) 0
    unfolding quantity_of
    quantity_is = T.quantity k (has_kind j k o has)

    pub known_full : get_or rows (4 * k) 0 ≤ n → Err Why.TooManyOfKind ≡ known_by j n k o
    unfolding known_by
    known_full h =
        sym (refuse_no _ Why.MissingShape _ has
        ∙ refuse_yes _ Why.TooManyOfKind (Ok tt) (le-leb (quantity_of j k) n (let e = quantity_is in omega (arith, e, h))))

    pub known_more : n < get_or rows (4 * k) 0 → (Ok tt) ≡ known_by j n k o
    unfolding known_by
    known_more h =
        sym (refuse_no _ Why.MissingShape _ has
        ∙ refuse_no _ Why.TooManyOfKind (Ok tt) (lt-leb (quantity_of j k) n (let e = quantity_is in omega (arith, e, h))))

  -- what is known of an orientation that is accepted
  pub known_has : known_by j n k o ≡ (Ok tt) → lacks j k o ≡ false
  unfolding known_by
  known_has e = (later_accepted (lacks j k o) Why.MissingShape (refuse_if (leb (quantity_of j k) n) Why.TooManyOfKind (Ok tt)) e).0

  pub known_few : known_by j n k o ≡ (Ok tt) → leb (quantity_of j k) n ≡ false
  unfolding known_by
  known_few e =
      let a = (later_accepted (lacks j k o) Why.MissingShape (refuse_if (leb (quantity_of j k) n) Why.TooManyOfKind (Ok tt)) e).1 in
      (later_accepted (leb (quantity_of j k) n) Why.TooManyOfKind (Ok tt) a).0

-- ---- 26 and 27

-- of the definition
abbrev place_by : Job → List Float → ℕ → ℕ → Point → Result (Unit {0}) Refusal
place_by j st k o q =
    refuse_if (not (in_range (planner_of j) (shape_of (planner_of j) k o) q)) Why.OutsideRange
    (refuse_if (not (clear (planner_of j) st (shape_of (planner_of j) k o) q)) Why.InTheWay (Ok tt))

fits-then : (j : Job) (n : ℕ) (st : List Float) (k o : ℕ) (q : Point) → fits_by j n st k o q ≡ then (known_by j n k o) (place_by j st k o q)
unfolding fits_by known_by
fits-then j n st k o q = two_then (lacks j k o) (leb (quantity_of j k) n) Why.MissingShape Why.TooManyOfKind (place_by j st k o q)

pub fits_refused : (j : Job) (n : ℕ) (st : List Float) (k o : ℕ) (q : Point) (r : Refusal) → known_by j n k o ≡ Err r → Err r ≡ fits_by j n st k o q
unfolding then
fits_refused j n st k o q r e = sym (fits-then j n st k o q ∙ ap (λ (v : Result (Unit {0}) Refusal). then v (place_by j st k o q)) e)

pub fits_lacking : (j : Job) (n : ℕ) (st : List Float) (k o : ℕ) (q : Point) → lacks j k o ≡ true → fits_by j n st k o q ≡ Err Why.MissingShape
unfolding fits_by
fits_lacking j n st k o q e = refuse_yes _ Why.MissingShape _ e

pub fits_known : (j : Job) (n : ℕ) (st : List Float) (k o : ℕ) (q : Point) → fits_by j n st k o q ≡ (Ok tt) → known_by j n k o ≡ (Ok tt)
fits_known j n st k o q e = go (known_by j n k o) (sym (fits-then j n st k o q) ∙ e)
  where
    go : (v : Result (Unit {0}) Refusal) → then v (place_by j st k o q) ≡ (Ok tt) → v ≡ (Ok tt)
    go (Ok tt) d = refl
    go (Err r) d = unfold then in d

module _ {j : Job} {g : Grid} {kinds : ℕ} {rows : List ℕ} {ib : List Float} {parts : List ℕ} {shapes sheet : List Float}
    (t : TablesOf j g kinds rows ib parts shapes sheet) (st : List Float) (k o : ℕ) (q : Point) (has : lacks j k o ≡ false) where
  abbrev P : Planner
  P = planner_of j

  abbrev S : Shape
  S = shape_of P k o

  abbrev code : Result (Unit {0}) Refusal
  code =
      place_fits (columns_of g.bounds (bounds_at ib (16 * k + o)) g.resolution) (inset_part (part_at parts (16 * k + o)) (drop (6 * g.apart_strips) shapes))
      (apart_part (part_at parts (16 * k + o)) (take (6 * g.apart_strips) shapes)) sheet st q

  own : place_fits (columns_of P.bounds S.bounds P.resolution) S.inset S.apart P.sheet st q ≡ place_by j st k o q
  unfolding place_fits clear
  own =
      ap (λ (b : Bool). refuse_if (not b) Why.OutsideRange (refuse_if (not (outside (forbidden_of P.sheet S.inset q.x) q.y && outside
      (forbidden_of st S.apart q.x) q.y)) Why.InTheWay (Ok tt))) (in_range_is P S q)

  code_is : code ≡ place_fits (columns_of P.bounds S.bounds P.resolution) S.inset S.apart P.sheet st q
  code_is =
      ap (λ (b : Rect). place_fits (columns_of g.bounds b g.resolution) (inset_part (part_at parts (16 * k + o)) (drop (6 * g.apart_strips) shapes))
      (apart_part (part_at parts (16 * k + o)) (take (6 * g.apart_strips) shapes)) sheet st q) (Slots.bounds_is t k o has)
      ∙ (ap₂ (λ (b : Rect) (r : Float). place_fits (columns_of b S.bounds r) (inset_part (part_at parts (16 * k + o)) (drop (6 * g.apart_strips) shapes))
      (apart_part (part_at parts (16 * k + o)) (take (6 * g.apart_strips) shapes)) sheet st q) t.prepared.bounds t.prepared.resolution
      ∙ (ap₂ (λ (a b : List Float). place_fits (columns_of P.bounds S.bounds P.resolution) a b sheet st q) (Slots.inset_is t k o has)
      (Slots.apart_is t k o has)
      ∙ ap (λ (a : List Float). place_fits (columns_of P.bounds S.bounds P.resolution) S.inset S.apart a st q) (Slots.sheet_is t)))

  pub fits-place : (n : ℕ) → known_by j n k o ≡ (Ok tt) → code ≡ fits_by j n st k o q
  unfolding then
  fits-place n e = code_is ∙ (own ∙ sym (fits-then j n st k o q ∙ ap (λ (v : Result (Unit {0}) Refusal). then v (place_by j st k o q)) e))

-- ---- the code's tests of a place

module _ (k : Columns) (inset apart sheet st : List Float) (q : Point) (a b c : Bool) (ea : a ≡ in_range_of k q.x q.y) where
  abbrev Fits : Result (Unit {0}) Refusal
  Fits = place_fits k inset apart sheet st q

  pub outside_range : a ≡ false → Err Why.OutsideRange ≡ Fits
  unfolding place_fits
  outside_range e = sym (refuse_yes _ Why.OutsideRange _ (ap not (sym ea ∙ e)))

  module _ (in_range_lem : a ≡ true) (eb : b ≡ outside (forbidden_of sheet inset q.x) q.y) where
    pub sheet_in_way : b ≡ false → Err Why.InTheWay ≡ Fits
    unfolding place_fits
    sheet_in_way e =
        sym (refuse_no _ Why.OutsideRange _ (ap not (sym ea ∙ in_range_lem))
        ∙ refuse_yes _ Why.InTheWay (Ok tt) (ap (λ (z : Bool). not (z && outside (forbidden_of st apart q.x) q.y)) (sym eb ∙ e)))

    module _ (clear-sheet : b ≡ true) (ec : c ≡ outside (forbidden_of st apart q.x) q.y) where
      pub copy_in_way : c ≡ false → Err Why.InTheWay ≡ Fits
      unfolding place_fits
      copy_in_way e =
          sym (refuse_no _ Why.OutsideRange _ (ap not (sym ea ∙ in_range_lem))
          ∙ refuse_yes _ Why.InTheWay (Ok tt) (ap₂ (λ (z u : Bool). not (z && u)) (sym eb ∙ clear-sheet) (sym ec ∙ e)))

      pub clear-there : c ≡ true → (Ok tt) ≡ Fits
      unfolding place_fits
      clear-there e =
          sym (refuse_no _ Why.OutsideRange _ (ap not (sym ea ∙ in_range_lem))
          ∙ refuse_no _ Why.InTheWay (Ok tt) (ap₂ (λ (z u : Bool). not (z && u)) (sym eb ∙ clear-sheet) (sym ec ∙ e)))

-- ---- the whole line

module _ (j : Job) (w : Rooms) (ks : List ℕ) (st : List Float) (l : PutLine) where
  abbrev F : Result (Unit {0}) Refusal
  F = fits_by j (count_in l.kind ks) st l.kind l.orientation (place_of (frame_of j.header) l)

  abbrev Store : Result (Unit {0}) Refusal
  Store = store_verdict (planner_of j) w (st ++ line_strips (planner_of j) (frame_of j.header) l)

  place-then : place_verdict j (planner_of j) w ks st l ≡ then F Store
  unfolding place_verdict fits_by
  place-then = four_then _ _ _ _ Why.MissingShape Why.TooManyOfKind Why.OutsideRange Why.InTheWay Store

  pub place-refused : (r : Refusal) → F ≡ Err r → place_verdict j (planner_of j) w ks st l ≡ Err r
  unfolding then
  place-refused r e = place-then ∙ ap (λ (v : Result (Unit {0}) Refusal). then v Store) e

  pub place_stores : F ≡ (Ok tt) → place_verdict j (planner_of j) w ks st l ≡ Store
  unfolding then
  place_stores e = place-then ∙ ap (λ (v : Result (Unit {0}) Refusal). then v Store) e

  -- 4
  pub line_x : l.x ≡ None → line_verdict j (planner_of j) w ks st l ≡ Err (Why.Job Input.NonFinite)
  unfolding line_verdict is_finite
  line_x e = refuse_yes _ (Why.Job Input.NonFinite) _ (ap (λ (d : Option Float). not (is_finite d && is_finite l.y)) e)

  pub line_y : (x : Float) → l.x ≡ Some x → l.y ≡ None → line_verdict j (planner_of j) w ks st l ≡ Err (Why.Job Input.NonFinite)
  unfolding line_verdict is_finite
  line_y x e d = refuse_yes _ (Why.Job Input.NonFinite) _ (ap₂ (λ (a b : Option Float). not (is_finite a && is_finite b)) e d)

  pub line_finite : (x y : Float) → l.x ≡ Some x → l.y ≡ Some y → line_verdict j (planner_of j) w ks st l ≡ place_verdict j (planner_of j) w ks st l
  unfolding line_verdict is_finite
  line_finite x y e d = refuse_no _ (Why.Job Input.NonFinite) _ (ap₂ (λ (a b : Option Float). not (is_finite a && is_finite b)) e d)

  pub line-place : (x y : Float) → l.x ≡ Some x → l.y ≡ Some y → place_of (frame_of j.header) l ≡ to (frame_of j.header) (record { x = x; y = y })
  unfolding place_of value_of
  line-place x y e d = ap₂ (λ (a b : Option Float). to (frame_of j.header) (record { x = value_of a; y = value_of b })) e d
