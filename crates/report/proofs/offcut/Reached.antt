-- How far a layout's strips reach, copy by copy, is how far its standing strips reach. Assumes nothing.
use Prim.{⊥}
use Prim.Native.Nat.{ℕ, zero, suc, ◌+◌, ◌-◌, ◌*◌, ◌≤◌, ◌<◌}
use native.Mathlib.Omega.{arith}
use native.Mathlib.Numerals.{add-one}
use mathlib.Core.Path.{◌≡◌, refl, sym, ap, ap₂, ◌∙◌}
use mathlib.Core.Bool.{Bool, false, ◌&&◌, and-false}
use mathlib.Core.List.{List, [], ◌∷◌, ◌++◌, map, flat_map, foldl, foldl-append, foldl-map, append-nil}
use lib.ListN.{length, get_or}
use lib.Dec.{ltb}
use lib.Ieee.{Float, nan}
use borrow.Author.Tests.{lt-ltb, le-ltb}
use Rattle.numbers.specs.Numbers.{◌⊖◌, ◌⊕◌, larger}
use Rattle.trapezoid.specs.declared.Trapezoid.{Trapezoid}
use Rattle.trapezoid.specs.Strip.{strip_at, flat, capacity, moved_by, part_of}
use Rattle.index.specs.Buckets.{up_from}
use Rattle.index.proofs.Collecting.{map_snoc}
use Rattle.filling.specs.declared.State.{State}
use Rattle.filling.specs.Shapes.{Planner, shape_of, Standing, moved_strips, copy_strips, standing_strips}
use Rattle.filling.specs.State.{part_at, copy_at, stands_at, standing_to, standing_of}
use Rattle.filling.specs.Accounts.{reach_of, not_below_zero, offcut_of}
use Rattle.filling.proofs.Reading.{flat_append, up_from_list}
use Rattle.filling.proofs.Steps.{flat_map_snoc}
use Rattle.filling.proofs.WithinBoundsStrips.{strip_at_lem, capacity-flat}
use Rattle.report.specs.offcut.inner.Reaching.{reach_up_to, reach_moved, apart_at, reach_copy, reach_to, Parted}

-- ---- a part's strips, one after the other

pub reach_none : (part : List Float) (x a : Float) → reach_up_to part x a 0 ≡ a
unfolding reach_up_to up_from
reach_none part x a = refl

pub reach_next : (part : List Float) (x a : Float) (n : ℕ) → reach_up_to part x a (n + 1) ≡ larger (reach_up_to part x a n) ((strip_at part n).x1 ⊕ x)
unfolding reach_up_to
reach_next part x a n =
    let f : ℕ → Float = λ i. (strip_at part i).x1 ⊕ x in
    ap (reach_up_to part x a) (add-one n)
    ∙ (sym (foldl-map f larger (up_from (suc n) 0) a)
    ∙ (ap (foldl larger a) (map_snoc f n 0)
    ∙ (foldl-append larger a (map f (up_from n 0)) (f (0 + n) ∷ [])
    ∙ ap₂ (λ (r : Float) (k : ℕ). larger r (f k)) (foldl-map f larger (up_from n 0) a) (native.Mathlib.Nat.zero-add n))))

pub reach_step : (part : List Float) (x a b r : Float) (n : ℕ) (q : Trapezoid) → b ≡ reach_up_to part x a n → q ≡ strip_at part n → r ≡ larger b (q.x1 ⊕ x)
    → r ≡ reach_up_to part x a (n + 1)
reach_step part x a b r n q e f g = g ∙ (ap₂ (λ (c : Float) (p : Trapezoid). larger c (p.x1 ⊕ x)) e f ∙ sym (reach_next part x a n))

pub reach_all : (part : List Float) (x a b : Float) (n : ℕ) → b ≡ reach_up_to part x a n → n ≡ capacity part → b ≡ reach_moved part x a
unfolding reach_moved
reach_all part x a b n e f = e ∙ ap (reach_up_to part x a) f

-- ---- a copy

module _ (parts : List ℕ) (shapes : List Float) (k : ℕ) (x a : Float) where
  -- no such slot, no strips
  apart_none : (o : ℕ) → ltb k 64 && ltb o 16 ≡ false → reach_moved (apart_at parts shapes k o) x a ≡ a
  unfolding apart_at reach_moved reach_up_to capacity up_from
  apart_none o e = rw e

  pub copy-none : (number : ℕ) → number ≡ 0 → a ≡ reach_copy parts shapes k number x a
  unfolding reach_copy
  copy-none zero e = refl
  copy-none (suc o) e = absurd (omega arith)

  pub copy-kind : (number : ℕ) → 64 ≤ k → a ≡ reach_copy parts shapes k number x a
  unfolding reach_copy
  copy-kind zero h = refl
  copy-kind (suc o) h = sym (apart_none o (ap (λ (b : Bool). b && ltb o 16) (le-ltb k 64 h)))

  pub copy_turn : (number : ℕ) → 16 < number → a ≡ reach_copy parts shapes k number x a
  unfolding reach_copy
  copy_turn zero h = refl
  copy_turn (suc o) h = sym (apart_none o (ap (λ (b : Bool). ltb k 64 && b) (le-ltb o 16 (omega arith)) ∙ and-false (ltb k 64)))

  pub copy-there : (number at : ℕ) (part : List Float) (r : Float) → (number ≡ 0 → ⊥) → k < 64 → number ≤ 16 → at ≡ 4 * (16 * k + (number - 1))
      → part ≡ part_of shapes (get_or parts at 0) (get_or parts (at + 1) 0) → r ≡ reach_moved part x a → r ≡ reach_copy parts shapes k number x a
  unfolding reach_copy apart_at part_at
  copy-there zero at part r z h l e f g = absurd (z refl)
  copy-there (suc o) at part r z h l e f g =
      let c : at ≡ 4 * (16 * k + o) = omega arith in
      rw (lt-ltb k 64 h, lt-ltb o 16 l)
      (g ∙ ap (λ (p : List Float). reach_moved p x a) (f ∙ ap (λ (i : ℕ). part_of shapes (get_or parts i 0) (get_or parts (i + 1) 0)) c))

-- ---- copies, one after the other

module _ (parts : List ℕ) (shapes : List Float) (order orientation : List ℕ) (x : List Float) (right : Float) where
  pub copies-none : right ≡ reach_to parts shapes order orientation x right 0
  unfolding reach_to
  copies-none = refl

  pub copies-next : (b r : Float) (n : ℕ) → b ≡ reach_to parts shapes order orientation x right n
      → r ≡ reach_copy parts shapes (get_or order n 0) (get_or orientation n 0) (get_or x n nan) b → r ≡ reach_to parts shapes order orientation x right (n + 1)
  unfolding reach_to
  copies-next b r n e f =
      f ∙ (ap (reach_copy parts shapes (get_or order n 0) (get_or orientation n 0) (get_or x n nan)) e
      ∙ ap (reach_to parts shapes order orientation x right) (sym (add-one n)))

-- ---- strips as they lie in a room

-- the larger of a and each strip's x1
abbrev ends : Float → List Trapezoid → Float
ends a qs = foldl (λ r q. larger r q.x1) a qs

reach_flat : (a : Float) (qs : List Trapezoid) → reach_of a (flat qs) ≡ ends a qs
unfolding reach_of
reach_flat a qs =
    sym (foldl-map (strip_at (flat qs)) (λ r q. larger r q.x1) (up_from (capacity (flat qs)) 0) a)
    ∙ ap (ends a) (up_from_list (strip_at (flat qs)) qs (capacity (flat qs)) (strip_at [] 0) (sym (capacity-flat qs)) (λ i h. read i (within i h)))
  where
    read : (i : ℕ) → i < length qs → strip_at (flat qs) i ≡ get_or qs i (strip_at [] 0)
    read i h = strip_at_lem qs i (strip_at [] 0) h

    within : (i : ℕ) → i < capacity (flat qs) → i < length qs
    within i h = let e = capacity-flat qs in omega arith

module _ (p : Planner) where
  abbrev part : Standing → List Float
  part c = (shape_of p c.copy.kind c.orientation).apart

  -- a copy's apart strips, moved
  abbrev moved : Standing → List Trapezoid
  moved c = map (λ i. moved_by (strip_at (part c) i) c.x c.y) (up_from (capacity (part c)) 0)

  standing-flat : (cs : List Standing) → standing_strips p cs ≡ flat (flat_map moved cs)
  unfolding standing_strips copy_strips moved_strips flat flat_map
  standing-flat [] = refl
  standing-flat (c ∷ cs) = ap (λ (l : List Float). flat (moved c) ++ l) (standing-flat cs) ∙ sym (flat_append (moved c) (flat_map moved cs))

  moved_ends : (a : Float) (c : Standing) → ends a (moved c) ≡ reach_moved (part c) c.x a
  unfolding reach_moved reach_up_to moved_by
  moved_ends a c = foldl-map (λ i. moved_by (strip_at (part c) i) c.x c.y) (λ r q. larger r q.x1) (up_from (capacity (part c)) 0) a

  -- one copy more
  reach_more : (a : Float) (cs : List Standing) (c : Standing)
      → reach_of a (standing_strips p (cs ++ (c ∷ []))) ≡ reach_moved (part c) c.x (reach_of a (standing_strips p cs))
  reach_more a cs c =
      ap (reach_of a) (standing-flat (cs ++ (c ∷ [])))
      ∙ (reach_flat a (flat_map moved (cs ++ (c ∷ [])))
      ∙ (ap (ends a) (flat_map_snoc moved cs c)
      ∙ (foldl-append (λ r q. larger r q.x1) a (flat_map moved cs) (moved c)
      ∙ (moved_ends (ends a (flat_map moved cs)) c
      ∙ ap (reach_moved (part c) c.x) (sym (ap (reach_of a) (standing-flat cs) ∙ reach_flat a (flat_map moved cs)))))))

  reach_nothing : (a : Float) → reach_of a (standing_strips p []) ≡ a
  unfolding reach_of standing_strips flat_map capacity up_from
  reach_nothing a = refl

  -- ---- copy by copy

  module _ (parts : List ℕ) (shapes : List Float) (lie : Parted p parts shapes) (s : State) (a : Float) where
    abbrev Reach : ℕ → Float
    Reach n = reach_to parts shapes s.order s.layout.orientation s.layout.x a n

    reach_stands : (n o : ℕ) (b : Float) → b ≡ reach_of a (standing_strips p (standing_to s n))
        → reach_copy parts shapes (get_or s.order n 0) o (get_or s.layout.x n nan) b ≡ reach_of a (standing_strips p (standing_to s n ++ stands_at s n o))
    unfolding reach_copy stands_at copy_at
    reach_stands n zero b e = e ∙ ap (λ (cs : List Standing). reach_of a (standing_strips p cs)) (sym (append-nil (standing_to s n)))
    reach_stands n (suc o) b e =
        ap₂ (λ (l : List Float) (r : Float). reach_moved l (get_or s.layout.x n nan) r) (sym (lie (get_or s.order n 0) o)) e
        ∙ sym (reach_more a (standing_to s n)
        (record {
          copy = record { place = n; kind = get_or s.order n 0 };
          orientation = o;
          x = get_or s.layout.x n nan;
          y = get_or s.layout.y n nan;
          gap = get_or s.layout.gap n nan;
        }))

    reach_is : (n : ℕ) → Reach n ≡ reach_of a (standing_strips p (standing_to s n))
    unfolding reach_to standing_to
    reach_is zero = sym (reach_nothing a)
    reach_is (suc n) = reach_stands n (get_or s.layout.orientation n 0) (Reach n) (reach_is n)

  -- the offcut out of the tables and the shapes room is the state's
  pub offcut_is : (parts : List ℕ) (shapes : List Float) → Parted p parts shapes → (s : State)
      → let l = s.layout in
      not_below_zero (s.tables.sheet_bounds.right ⊖ reach_to parts shapes s.order l.orientation l.x l.right s.taken) ≡ offcut_of p s
  unfolding offcut_of standing_of
  offcut_is parts shapes lie s =
      ap (λ (r : Float). not_below_zero (s.tables.sheet_bounds.right ⊖ r)) (reach_is parts shapes lie s s.layout.right s.taken)
