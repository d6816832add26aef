-- Counting the kinds of an order in one pass, and the counts against the quantities. Assumes nothing.
use Rattle.std.proofs.Common.{◌≡◌, ℕ, suc, ◌+◌, ◌-◌, ◌*◌, ◌<◌, ◌≤◌, true, false, ◌&&◌, eqb, ◌⊎◌, List, [], ◌∷◌, map, length, get_or, drop, set, sym, refl, ap, ◌∙◌, ap₂, inl, inr, add-one, arith, eqb→eq, length-drop, length-set, drop-cons, get_or-set_other, get_or-set_same}
use lib.Dec.{eqb_refl}
use lib.Ieee.{Float}
use Rattle.numbers.proofs.Truth.{either, is_true, holds, clash}
use Rattle.kinds.specs.Kinds.{Kind}
use Rattle.job.specs.Jobs.{Job}
use Rattle.filling.specs.Order.{count_in, in_full, rearranged}
use Rattle.filling.proofs.CountIn.{count_same, count-other, count_none}
use Rattle.accounts.specs.tables.inner.Tabled.{Tabled}
use Rattle.accounts.specs.order.inner.Quantities.{in_quantity}

-- ---- how often a number stands in a list

pub count_most : (k : ℕ) (ls : List ℕ) → count_in k ls ≤ length ls
count_most k [] = let e = count_none k in omega arith
count_most k (l ∷ ls) = go (count_most k ls) (either (eqb k l))
  where
    go : count_in k ls ≤ length ls → (eqb k l ≡ true) ⊎ (eqb k l ≡ false) → count_in k (l ∷ ls) ≤ suc (length ls)
    go h (inl e) = let c = count_same k l ls e in omega arith
    go h (inr e) = let c = count-other k l ls e in omega arith

-- ---- the counts of the first i, with those that are left

pub record CountedTo (order : List ℕ) (m i : ℕ) (counts : List ℕ) : Type 0 where
  pub size : length counts ≡ m
  pub all : (k : ℕ) → k < m → get_or counts k 0 + count_in k (drop i order) ≡ count_in k order

pub counted_start : (order : List ℕ) (m : ℕ) (counts : List ℕ) → length counts ≡ m → ((k : ℕ) → k < length counts → get_or counts k 0 ≡ 0) → CountedTo order m 0 counts
counted_start order m counts e h = record { size = e; all = λ k l. let z = h k (omega arith) in let y : drop 0 order ≡ order = refl in let x = ap (count_in k) y in omega arith }

pub counted_in_lem : (order : List ℕ) (m i : ℕ) (counts : List ℕ) (x : ℕ) → get_or order i 0 ≡ x → i < length order → x < m → CountedTo order m i counts → CountedTo order m (i + 1) (set counts x (get_or counts x 0 + 1))
counted_in_lem order m i counts x r h l c = record { size = length-set counts x (get_or counts x 0 + 1) ∙ c.size; all = λ k b. go k b (either (eqb k x)) }
  where
    split : (k : ℕ) → count_in k (drop i order) ≡ count_in k (x ∷ drop (i + 1) order)
    split k = ap (count_in k) (drop-cons order i 0 h ∙ ap₂ (λ a n. a ∷ drop n order) r (sym (add-one i)))

    go : (k : ℕ) → k < m → (eqb k x ≡ true) ⊎ (eqb k x ≡ false) → get_or (set counts x (get_or counts x 0 + 1)) k 0 + count_in k (drop (i + 1) order) ≡ count_in k order
    go k b (inl e) =
        let q : k ≡ x = eqb→eq k x (holds e) in
        let s : get_or (set counts x (get_or counts x 0 + 1)) k 0 ≡ get_or counts x 0 + 1 = ap (λ n. get_or (set counts x (get_or counts x 0 + 1)) n 0) q ∙ get_or-set_same counts x (get_or counts x 0 + 1) 0 (let z = c.size in omega arith) in
        let v : get_or counts k 0 ≡ get_or counts x 0 = ap (λ n. get_or counts n 0) q in
        let w = count_same k x (drop (i + 1) order) e in
        let t = split k in
        let a = c.all k b in
        omega arith
    go k b (inr e) =
        let s = get_or-set_other counts x k (get_or counts x 0 + 1) 0 (λ q. clash (ap (λ n. eqb n x) q ∙ is_true (eqb x x) (eqb_refl x)) e) in
        let w = count-other k x (drop (i + 1) order) e in
        let t = split k in
        let a = c.all k b in
        omega arith

pub counted-out : (order : List ℕ) (m i : ℕ) (counts : List ℕ) (x : ℕ) → get_or order i 0 ≡ x → i < length order → m ≤ x → CountedTo order m i counts → CountedTo order m (i + 1) counts
counted-out order m i counts x r h l c = record { size = c.size; all = λ k b. go k b (either (eqb k x)) }
  where
    split : (k : ℕ) → count_in k (drop i order) ≡ count_in k (x ∷ drop (i + 1) order)
    split k = ap (count_in k) (drop-cons order i 0 h ∙ ap₂ (λ a n. a ∷ drop n order) r (sym (add-one i)))

    go : (k : ℕ) → k < m → (eqb k x ≡ true) ⊎ (eqb k x ≡ false) → get_or counts k 0 + count_in k (drop (i + 1) order) ≡ count_in k order
    go k b (inl e) = let q : k ≡ x = eqb→eq k x (holds e) in absurd (omega arith)
    go k b (inr e) =
        let w = count-other k x (drop (i + 1) order) e in
        let t = split k in
        let a = c.all k b in
        omega arith

pub counted-end : (order : List ℕ) (m i : ℕ) (counts : List ℕ) → length order ≤ i → CountedTo order m i counts → (k : ℕ) → k < m → get_or counts k 0 ≡ count_in k order
counted-end order m i counts h c k l =
    let e = none (drop i order) (let z = length-drop i order in omega arith) in
    let a = c.all k l in
    omega arith
  where
    none : (ls : List ℕ) → length ls ≡ 0 → count_in k ls ≡ 0
    none [] z = count_none k
    none (a ∷ ls) z = absurd (omega arith)

-- a count has room for one more
counted-small : (order : List ℕ) (m i : ℕ) (counts : List ℕ) → CountedTo order m i counts → (k : ℕ) → k < m → get_or counts k 0 ≤ length order
counted-small order m i counts c k l = let a = c.all k l in let b = count_most k order in omega arith

pub counted-room : (order : List ℕ) (m i : ℕ) (counts : List ℕ) (x : ℕ) → get_or order i 0 ≡ x → i < length order → x < m → CountedTo order m i counts → get_or counts x 0 + 1 ≤ length order
counted-room order m i counts x r h l c =
    let n = counted-small order m (i + 1) (set counts x (get_or counts x 0 + 1)) (counted_in_lem order m i counts x r h l c) x l in
    let s = get_or-set_same counts x (get_or counts x 0 + 1) 0 (let z = c.size in omega arith) in
    omega arith

-- ---- the counts against the quantities

pub quantity_on : (counts rows : List ℕ) (n k : ℕ) → k < n → get_or counts k 0 ≡ get_or rows (4 * k) 0 → in_quantity counts rows (n - k) k ≡ in_quantity counts rows (n - (k + 1)) (k + 1)
unfolding in_quantity
quantity_on counts rows n k l q =
    let e : n - k ≡ suc (n - (k + 1)) = omega arith in
    let t : eqb (get_or counts k 0) (get_or rows (4 * k) 0) ≡ true = ap (λ x. eqb x (get_or rows (4 * k) 0)) q ∙ is_true _ (eqb_refl (get_or rows (4 * k) 0)) in
    rw (e, t) (ap (λ i. in_quantity counts rows (n - (k + 1)) i) (sym (add-one k)))

pub quantity-not : (counts rows : List ℕ) (n k : ℕ) → k < n → eqb (get_or counts k 0) (get_or rows (4 * k) 0) ≡ false → in_quantity counts rows (n - k) k ≡ false
unfolding in_quantity
quantity-not counts rows n k l t = let e : n - k ≡ suc (n - (k + 1)) = omega arith in rw (e, t)

pub quantity-end : (counts rows : List ℕ) (n k : ℕ) → n ≤ k → in_quantity counts rows (n - k) k ≡ true
unfolding in_quantity
quantity-end counts rows n k l = let e : n - k ≡ 0 = omega arith in rw e

full_is : (counts rows order : List ℕ) (k : ℕ) (ks : List Kind)
    → ((i : ℕ) → k ≤ i → i < k + length ks → get_or counts i 0 ≡ count_in i order)
    → ((i : ℕ) → i < length ks → get_or (map (λ a. a.quantity) ks) i 0 ≡ get_or rows (4 * (k + i)) 0)
    → in_quantity counts rows (length ks) k ≡ in_full k ks order
unfolding in_quantity in_full
full_is counts rows order k [] c q = refl
full_is counts rows order k (a ∷ ks) c q =
    let e : 4 * (k + 0) ≡ 4 * k = omega arith in
    ap₂ ◌&&◌ (ap₂ eqb (c k (omega arith) (omega arith)) (ap (λ n. get_or rows n 0) (sym e) ∙ sym (q 0 (omega arith))))
    (full_is counts rows order (suc k) ks (λ i l h. c i (omega arith) (omega arith)) (λ i l. let e : 4 * (k + suc i) ≡ 4 * (suc k + i) = omega arith in q (suc i) (omega arith) ∙ ap (λ n. get_or rows n 0) e))

pub rearranged_is : (j : Job) (rows : List ℕ) (areas : List Float) (order counts : List ℕ) (kinds copies : ℕ)
    → Tabled j rows areas → length j.kinds ≡ kinds → j.copies ≡ copies
    → length order ≡ copies → ((k : ℕ) → k < 64 → get_or counts k 0 ≡ count_in k order)
    → in_quantity counts rows kinds 0 ≡ rearranged j order
unfolding rearranged
rearranged_is j rows areas order counts kinds copies t e f l c =
    let b : eqb (length order) j.copies ≡ true = ap₂ eqb l f ∙ is_true (eqb copies copies) (eqb_refl copies) in
    ap (λ n. in_quantity counts rows n 0) (sym e)
    ∙ full_is counts rows order 0 j.kinds (λ i h k. c i (let z = t.few in omega arith)) (λ i h. t.quantity i h ∙ ap (λ n. get_or rows n 0) (let z : 4 * i ≡ 4 * (0 + i) = omega arith in z))
    ∙ sym (ap (λ x. x && in_full 0 j.kinds order) b)

pub rearranged-not : (j : Job) (order : List ℕ) (copies : ℕ) → j.copies ≡ copies → eqb (length order) copies ≡ false → rearranged j order ≡ false
unfolding rearranged
rearranged-not j order copies f e = ap (λ n. eqb (length order) n && in_full 0 j.kinds order) f ∙ ap (λ x. x && in_full 0 j.kinds order) e
