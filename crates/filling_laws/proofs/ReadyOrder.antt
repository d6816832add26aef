-- In an order that refusal 31 lets pass every place holds a kind of the job: the next copy is one of them. Assumes nothing.
use Prim.Native.Nat.{ℕ, zero, suc, ◌+◌, ◌*◌, ◌<◌, ◌≤◌}
use native.Mathlib.Omega.{arith}
use mathlib.Core.Path.{◌≡◌, refl, sym, ap, subst, ◌∙◌}
use mathlib.Core.Logic.{◌⊎◌, inl, inr}
use mathlib.Core.Bool.{true}
use mathlib.Core.List.{List, [], ◌∷◌, map}
use lib.ListN.{length, get_or, drop, drop_of_length-le}
use lib.Seq.{get_or-take, drop-cons}
use lib.Dec.{eqb, eqb→eq}
use borrow.Author.Tests.{ne_eqb}
use Rattle.numbers.proofs.Truth.{holds, either, below_or_not, both_first, both_second}
use Rattle.kinds.specs.Kinds.{Kind, copies_of}
use Rattle.kinds.proofs.Accepted.{Every, GoodKind}
use Rattle.job.specs.Jobs.{Job}
use Rattle.job.proofs.Accepted.{GoodJob}
use Rattle.filling.specs.declared.State.{State}
use Rattle.filling.specs.Rooms.{Rooms}
use Rattle.filling.specs.Order.{count_in, in_full, rearranged}
use Rattle.filling.specs.State.{orientation_counts, order_of}
use Rattle.filling.proofs.Begin.{rearranged-length}
use Rattle.filling.specs.Consistent.{consistent}
use Rattle.filling.proofs.CountIn.{count-other, count_same}
use Rattle.filling.proofs.Reading.{kinds_many}
use Rattle.filling_laws.proofs.Ready.{tests_of}

-- how many of a list are one of the n kinds from k on
abbrev inside : ℕ → ℕ → List ℕ → ℕ
inside k zero l = 0
inside k (suc n) l = count_in k l + inside (suc k) n l

-- one that is none of them
inside-other : (k n x : ℕ) (l : List ℕ) → (x < k) ⊎ (k + n ≤ x) → inside k n (x ∷ l) ≡ inside k n l
inside-other k zero x l h = refl
inside-other k (suc n) x l h = rw (count-other k x l (ne_eqb k x (no h)), inside-other (suc k) n x l (on h))
  where
    no : (x < k) ⊎ (k + suc n ≤ x) → k ≡ x → ⊥
    no (inl h) e = omega arith
    no (inr h) e = omega arith

    on : (x < k) ⊎ (k + suc n ≤ x) → (x < suc k) ⊎ (suc k + n ≤ x)
    on (inl h) = inl (omega arith)
    on (inr h) = inr (omega arith)

inside_more : (k n x : ℕ) (l : List ℕ) → inside k n (x ∷ l) ≤ suc (inside k n l)
inside_more k zero x l = omega arith
inside_more k (suc n) x l = elim (either (eqb k x)) [
  | inl e ↦ let s = eqb→eq k x (holds e) in let a = count_same k x l e in let b = inside-other (suc k) n x l (inl (omega arith)) in omega arith
  | inr e ↦ let a = count-other k x l e in let b = inside_more (suc k) n x l in omega arith
]

inside-none : (k n : ℕ) → inside k n [] ≡ 0
unfolding count_in
inside-none k zero = refl
inside-none k (suc n) = let a = inside-none (suc k) n in omega arith

inside_upto : (k n : ℕ) (l : List ℕ) → inside k n l ≤ length l
inside_upto k n [] = let a = inside-none k n in omega arith
inside_upto k n (x ∷ l) = let a = inside_more k n x l in let b = inside_upto k n l in omega arith

-- a list with one that is none of the first n kinds
inside_less : (n : ℕ) (l : List ℕ) (i : ℕ) → i < length l → n ≤ get_or l i 0 → inside 0 n l < length l
inside_less n [] i h g = absurd (omega arith)
inside_less n (x ∷ l) zero h g = let a = inside-other 0 n x l (inr (omega arith)) in let b = inside_upto 0 n l in omega arith
inside_less n (x ∷ l) (suc i) h g = let a = inside_more 0 n x l in let b = inside_less n l i (omega arith) g in omega arith

full_inside : (k : ℕ) (ks : List Kind) (l : List ℕ) → in_full k ks l ≡ true → copies_of ks ≡ inside k (length ks) l
unfolding in_full copies_of
full_inside k [] l e = refl
full_inside k (a ∷ ks) l e =
    let c : count_in k l ≡ a.quantity = eqb→eq (count_in k l) a.quantity (holds (both_first (eqb (count_in k l) a.quantity) _ e)) in
    let r = full_inside (suc k) ks l (both_second (eqb (count_in k l) a.quantity) _ e) in
    omega arith

-- every place of a rearrangement of the job's copies holds a kind of the job
pub kind_in : (j : Job) (l : List ℕ) → j.copies ≡ copies_of j.kinds → rearranged j l ≡ true → (i : ℕ) → i < length l → get_or l i 0 < length j.kinds
unfolding rearranged
kind_in j l t e i h = elim (below_or_not (get_or l i 0) (length j.kinds)) [
  | inl g ↦ g
  | inr g ↦ absurd (no (length l) j.copies (copies_of j.kinds) (inside 0 (length j.kinds) l) (eqb→eq (length l) j.copies (holds (both_first (eqb (length l) j.copies) _ e))) t (full_inside 0 j.kinds l (both_second (eqb (length l) j.copies) _ e)) (inside_less (length j.kinds) l i h g))
]
  where
    no : (a b c d : ℕ) → a ≡ b → b ≡ c → c ≡ d → d < a → ⊥
    no a b c d e f g h = omega arith

-- ---- the next copy
pub most-turns : (ks : List Kind) → Every GoodKind ks → (k : ℕ) → get_or (map (λ a. length a.orientations) ks) k 0 ≤ 16
most-turns [] g k = omega arith
most-turns (a ∷ ks) g zero = g.0.orientations_most
most-turns (a ∷ ks) g (suc k) = most-turns ks g.1 k

-- a kind's slots
pub slots-within : (j : Job) → GoodJob j → (k : ℕ) → k < length (orientation_counts j) → 16 * k + get_or (orientation_counts j) k 0 ≤ 1024
unfolding orientation_counts
slots-within j g k h = z k (length (orientation_counts j)) (length j.kinds) j.header.kinds (get_or (map (λ a. length a.orientations) j.kinds) k 0) h (kinds_many j) g.number g.header.kinds_most (most-turns j.kinds g.kinds k)
  where
    z : (k a b c n : ℕ) → k < a → a ≡ b → b ≡ c → c ≤ 64 → n ≤ 16 → 16 * k + n ≤ 1024
    z k a b c n h e f l m = omega arith

module _ (j : Job) (s : State) (w : Rooms) (e : consistent j s w ≡ true) where
  order-length : length (order_of j s) ≡ j.copies
  order-length = rearranged-length j (order_of j s) (tests_of j s w e).order

  abbrev kind : ℕ
  kind = get_or s.order s.taken 0

  kind_is : s.taken < j.copies → get_or (order_of j s) s.taken 0 ≡ kind
  unfolding order_of
  kind_is h = get_or-take j.copies s.order s.taken 0 h

  -- it is of a kind of the job
  pub next-kind : GoodJob j → s.taken < j.copies → kind < length (orientation_counts j)
  next-kind g h = subst (λ (n : ℕ). kind < n) (sym (kinds_many j)) (subst (λ (n : ℕ). n < length j.kinds) (kind_is h) (kind_in j (order_of j s) g.total (tests_of j s w e).order s.taken (subst (λ (n : ℕ). s.taken < n) (sym order-length) h)))

  -- it is the first of the copies to come
  pub next-first : s.taken < j.copies → drop s.taken (order_of j s) ≡ kind ∷ drop (suc s.taken) (order_of j s)
  next-first h = drop-cons (order_of j s) s.taken 0 (subst (λ (n : ℕ). s.taken < n) (sym order-length) h) ∙ ap (λ (n : ℕ). n ∷ drop (suc s.taken) (order_of j s)) (kind_is h)

  -- "order used up"
  pub none_left : j.copies ≤ s.taken → drop s.taken (order_of j s) ≡ []
  none_left h = drop_of_length-le (order_of j s) (subst (λ (n : ℕ). n ≤ s.taken) (sym order-length) h)
