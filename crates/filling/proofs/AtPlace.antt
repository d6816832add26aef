-- The copies of a state before, at and behind a place of its order, and their strips. Assumes nothing.
use mathlib.Core.Path.{◌≡◌, refl, sym, ap, ap₂, subst, ◌∙◌}
use mathlib.Core.Logic.{◌≢◌}
use mathlib.Core.Bool.{Bool, not}
use mathlib.Core.List.{List, [], ◌∷◌, ◌++◌, map, flat_map, append-nil, append_assoc, map-append}
use Prim.Native.Nat.{ℕ, zero, suc, ◌+◌, ◌*◌, ◌≤◌}
use native.Mathlib.Omega.{arith}
use lib.ListN.{length, get_or, drop, length-append}
use lib.Seq.{take_at, drop_at}
use lib.Dec.{eqb}
use lib.Ieee.{Float, nan}
use borrow.Author.Tests.{eq-eqb, ne_eqb}
use Rattle.trapezoid.specs.Strip.{capacity}
use Rattle.index.specs.Buckets.{keep}
use Rattle.index.proofs.Flat.{keep_append}
use Rattle.index.proofs.Steps.{keep_yes, keep_no}
use Rattle.filling.specs.declared.State.{State}
use Rattle.filling.specs.Shapes.{Planner, Copy, Standing, named, others, copy_strips, standing_strips}
use Rattle.filling.specs.Plain.{copy_after, standing_after}
use Rattle.filling.specs.State.{copy_at, stands_at, misses_at, standing_to, without_to}
use Rattle.filling.specs.Withdraw.{strips_left, strips_without}
use Rattle.filling.proofs.Reading.{Sixfold}
use Rattle.filling.proofs.Steps.{standing_sixfold}
use Rattle.filling.proofs.ClosedUp.{place-before}

-- ---- the copies of a state, cut at place n

module _ (s : State) (n : ℕ) where
  abbrev Number : ℕ → ℕ
  Number i = get_or s.layout.orientation i 0

  -- those that stand among the d behind place n
  unfoldable pub later : ℕ → List Standing
  later zero = []
  later (suc d) = later d ++ stands_at s (suc n + d) (Number (suc n + d))

  -- those without a place among them
  unfoldable pub later_without : ℕ → List Copy
  later_without zero = []
  later_without (suc d) = later_without d ++ misses_at s (suc n + d) (Number (suc n + d))

  standing_cut : (d : ℕ) → standing_to s (suc n + d) ≡ standing_to s n ++ (stands_at s n (Number n) ++ later d)
  unfolding standing_to later
  standing_cut zero =
      let e : suc n + 0 ≡ suc n = omega arith in
      ap (standing_to s) e ∙ ap (λ (l : List Standing). standing_to s n ++ l) (sym (append-nil (stands_at s n (Number n))))
  standing_cut (suc d) =
      let e : suc n + suc d ≡ suc (suc n + d) = omega arith in
      let a = stands_at s (suc n + d) (Number (suc n + d)) in
      ap (standing_to s) e ∙ ap (λ (l : List Standing). l ++ a) (standing_cut d)
      ∙ append_assoc (standing_to s n) (stands_at s n (Number n) ++ later d) a
      ∙ ap (λ (l : List Standing). standing_to s n ++ l) (append_assoc (stands_at s n (Number n)) (later d) a)

  pub without_cut : (d : ℕ) → without_to s (suc n + d) ≡ without_to s n ++ (misses_at s n (Number n) ++ later_without d)
  unfolding without_to later_without
  without_cut zero =
      let e : suc n + 0 ≡ suc n = omega arith in
      ap (without_to s) e ∙ ap (λ (l : List Copy). without_to s n ++ l) (sym (append-nil (misses_at s n (Number n))))
  without_cut (suc d) =
      let e : suc n + suc d ≡ suc (suc n + d) = omega arith in
      let a = misses_at s (suc n + d) (Number (suc n + d)) in
      ap (without_to s) e ∙ ap (λ (l : List Copy). l ++ a) (without_cut d)
      ∙ append_assoc (without_to s n) (misses_at s n (Number n) ++ later_without d) a
      ∙ ap (λ (l : List Copy). without_to s n ++ l) (append_assoc (misses_at s n (Number n)) (later_without d) a)

  -- ---- which of them stands at place n

  abbrev Here : Standing → Bool
  Here c = eqb c.copy.place n

  abbrev There : Standing → Bool
  There c = not (eqb c.copy.place n)

  here-one : (i o : ℕ) → i ≢ n → keep Here (stands_at s i o) ≡ []
  unfolding stands_at copy_at keep
  here-one i zero h = refl
  here-one i (suc o) h = keep_no Here _ [] (ne_eqb i n h) ∙ refl

  there-one : (i o : ℕ) → i ≢ n → keep There (stands_at s i o) ≡ stands_at s i o
  unfolding stands_at copy_at keep
  there-one i zero h = refl
  there-one i (suc o) h = keep_yes There _ [] (ap not (ne_eqb i n h)) ∙ refl

  here_self : (o : ℕ) → keep Here (stands_at s n o) ≡ stands_at s n o
  unfolding stands_at copy_at keep
  here_self zero = refl
  here_self (suc o) = keep_yes Here _ [] (eq-eqb n n refl) ∙ refl

  there_self : (o : ℕ) → keep There (stands_at s n o) ≡ []
  unfolding stands_at copy_at keep
  there_self zero = refl
  there_self (suc o) = keep_no There _ [] (ap not (eq-eqb n n refl)) ∙ refl

  here-before : (m : ℕ) → m ≤ n → keep Here (standing_to s m) ≡ []
  unfolding standing_to keep
  here-before zero h = refl
  here-before (suc m) h = keep_append Here (standing_to s m) (stands_at s m (Number m)) ∙ ap₂ ◌++◌ (here-before m (omega arith))
      (here-one m (Number m) (λ e. omega arith))

  there-before : (m : ℕ) → m ≤ n → keep There (standing_to s m) ≡ standing_to s m
  unfolding standing_to keep
  there-before zero h = refl
  there-before (suc m) h = keep_append There (standing_to s m) (stands_at s m (Number m)) ∙ ap₂ ◌++◌ (there-before m (omega arith))
      (there-one m (Number m) (λ e. omega arith))

  here_later : (d : ℕ) → keep Here (later d) ≡ []
  unfolding later keep
  here_later zero = refl
  here_later (suc d) = keep_append Here (later d) (stands_at s (suc n + d) (Number (suc n + d))) ∙ ap₂ ◌++◌ (here_later d)
      (here-one (suc n + d) (Number (suc n + d)) (λ e. omega arith))

  there_later : (d : ℕ) → keep There (later d) ≡ later d
  unfolding later keep
  there_later zero = refl
  there_later (suc d) = keep_append There (later d) (stands_at s (suc n + d) (Number (suc n + d))) ∙ ap₂ ◌++◌ (there_later d)
      (there-one (suc n + d) (Number (suc n + d)) (λ e. omega arith))

  pub named_is : (d : ℕ) → named n (standing_to s (suc n + d)) ≡ stands_at s n (Number n)
  unfolding named
  named_is d =
      ap (keep Here) (standing_cut d)
      ∙ keep_append Here (standing_to s n) (stands_at s n (Number n) ++ later d)
      ∙ ap₂ ◌++◌ (here-before n (omega arith)) (keep_append Here (stands_at s n (Number n)) (later d) ∙ ap₂ ◌++◌ (here_self (Number n)) (here_later d))
      ∙ append-nil (stands_at s n (Number n))

  pub others_are : (d : ℕ) → others n (standing_to s (suc n + d)) ≡ standing_to s n ++ later d
  unfolding others
  others_are d =
      ap (keep There) (standing_cut d)
      ∙ keep_append There (standing_to s n) (stands_at s n (Number n) ++ later d)
      ∙ ap₂ ◌++◌ (there-before n (omega arith)) (keep_append There (stands_at s n (Number n)) (later d) ∙ ap₂ ◌++◌ (there_self (Number n)) (there_later d))

  -- ---- those before place n keep theirs

  after_one : (i o : ℕ) → i ≤ n → map (standing_after n) (stands_at s i o) ≡ stands_at s i o
  unfolding stands_at copy_at standing_after copy_after
  after_one i zero h = refl
  after_one i (suc o) h = ap (λ (k : ℕ). record {
    copy = record { place = k; kind = get_or s.order i 0 };
    orientation = o;
    x = get_or s.layout.x i nan;
    y = get_or s.layout.y i nan;
    gap = get_or s.layout.gap i nan;
  } ∷ []) (place-before n i h)

  pub after-before : (m : ℕ) → m ≤ n → map (standing_after n) (standing_to s m) ≡ standing_to s m
  unfolding standing_to
  after-before zero h = refl
  after-before (suc m) h = map-append (standing_after n) (standing_to s m) (stands_at s m (Number m)) ∙ ap₂ ◌++◌ (after-before m (omega arith))
      (after_one m (Number m) (omega arith))

  misses-one : (i o : ℕ) → i ≤ n → map (copy_after n) (misses_at s i o) ≡ misses_at s i o
  unfolding misses_at copy_at copy_after
  misses-one i zero h = ap (λ (k : ℕ). record { place = k; kind = get_or s.order i 0 } ∷ []) (place-before n i h)
  misses-one i (suc o) h = refl

  pub misses-before : (m : ℕ) → m ≤ n → map (copy_after n) (without_to s m) ≡ without_to s m
  unfolding without_to
  misses-before zero h = refl
  misses-before (suc m) h = map-append (copy_after n) (without_to s m) (misses_at s m (Number m)) ∙ ap₂ ◌++◌ (misses-before m (omega arith))
      (misses-one m (Number m) (omega arith))

-- ---- each copy taken stands or has no place

one_each : (s : State) (n o : ℕ) → length (stands_at s n o) + length (misses_at s n o) ≡ 1
unfolding stands_at misses_at
one_each s n zero = refl
one_each s n (suc o) = refl

pub each-counted : (s : State) (n : ℕ) → length (standing_to s n) + length (without_to s n) ≡ n
unfolding standing_to without_to
each-counted s zero = refl
each-counted s (suc n) =
    let o = get_or s.layout.orientation n 0 in
    let a = each-counted s n in
    let b = one_each s n o in
    let c = length-append (standing_to s n) (stands_at s n o) in
    let d = length-append (without_to s n) (misses_at s n o) in
    omega arith

-- ---- strips

pub strips_append : (p : Planner) (cs ds : List Standing) → standing_strips p (cs ++ ds) ≡ standing_strips p cs ++ standing_strips p ds
unfolding standing_strips flat_map
strips_append p [] ds = refl
strips_append p (c ∷ cs) ds = ap (λ (l : List Float). copy_strips p c ++ l) (strips_append p cs ds) ∙ sym
    (append_assoc (copy_strips p c) (flat_map (copy_strips p) cs) (flat_map (copy_strips p) ds))

pub strips-after : (p : Planner) (n : ℕ) (cs : List Standing) → standing_strips p (map (standing_after n) cs) ≡ standing_strips p cs
unfolding standing_strips flat_map standing_after copy_after copy_strips
strips-after p n [] = refl
strips-after p n (c ∷ cs) = ap (λ (l : List Float). copy_strips p c ++ l) (strips-after p n cs)

strips-one : (p : Planner) (c : Standing) → standing_strips p (c ∷ []) ≡ copy_strips p c
unfolding standing_strips flat_map
strips-one p c = append-nil (copy_strips p c)

one_sixfold : (p : Planner) (c : Standing) → Sixfold (copy_strips p c)
one_sixfold p c = subst Sixfold (strips-one p c) (standing_sixfold p (c ∷ []))

left_out : (a b c : List Float) → Sixfold a → Sixfold b → strips_left (capacity a) (capacity b) (a ++ (b ++ c)) ≡ a ++ c
unfolding strips_left
left_out a b c s t =
    let l = length-append a b in
    let e : length (a ++ b) ≡ 6 * (capacity a + capacity b) = omega arith in
    ap₂ ◌++◌ (take_at a (b ++ c) (6 * capacity a) s) (ap (drop (6 * (capacity a + capacity b))) (sym (append_assoc a b c)) ∙ drop_at (a ++ b) c
    (6 * (capacity a + capacity b)) e)

module _ (p : Planner) (s : State) (n : ℕ) (c : Standing) (e : stands_at s n (get_or s.layout.orientation n 0) ≡ c ∷ []) where
  -- the strips that are left are the others'
  pub strips-left : (d : ℕ) → strips_without p s n c (standing_strips p (standing_to s (suc n + d))) ≡ standing_strips p (others n (standing_to s (suc n + d)))
  unfolding strips_without
  strips-left d =
      ap (strips_left (capacity (standing_strips p (standing_to s n))) (capacity (copy_strips p c)))
      (ap (standing_strips p) (standing_cut s n d ∙ ap (λ (l : List Standing). standing_to s n ++ (l ++ later s n d)) e)
      ∙ strips_append p (standing_to s n) ((c ∷ []) ++ later s n d)
      ∙ ap (λ (l : List Float). standing_strips p (standing_to s n) ++ l) (strips_append p (c ∷ []) (later s n d) ∙ ap
      (λ (l : List Float). l ++ standing_strips p (later s n d)) (strips-one p c)))
      ∙ left_out (standing_strips p (standing_to s n)) (copy_strips p c) (standing_strips p (later s n d)) (standing_sixfold p (standing_to s n)) (one_sixfold p c)
      ∙ sym (strips_append p (standing_to s n) (later s n d))
      ∙ ap (standing_strips p) (sym (others_are s n d))
