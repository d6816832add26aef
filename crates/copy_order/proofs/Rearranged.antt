-- The copy order is a rearrangement of the job's copies, and stays one where two copies are swapped. Assumes nothing.
use Prim.Native.Nat.{ℕ, zero, suc, ◌+◌, ◌<◌}
use native.Mathlib.Omega.{arith}
use mathlib.Core.Path.{◌≡◌, refl, ap, sym, ◌∙◌}
use mathlib.Core.Bool.{Bool, true, false, ◌&&◌}
use mathlib.Core.List.{List, [], ◌∷◌, ◌++◌, flat_map}
use lib.ListN.{length, get_or, set, replicate, length-append, length-set, length-replicate}
use lib.Seq.{get_or-set_same, get_or-set_other}
use lib.Dec.{eqb}
use lib.Ieee.{Float}
use borrow.Author.Tests.{eq-eqb, ne_eqb, eqb-true, eqb-false}
use Rattle.kinds.specs.Kinds.{Kind, copies_of}
use Rattle.job.specs.Jobs.{Job, accepted, read_job}
use Rattle.job.proofs.Accepted.{job_good}
use Rattle.filling.specs.Order.{count_in, in_full, rearranged}
use Rattle.filling.proofs.CountIn.{count_none, count-append}
use Rattle.nesting.specs.CopyOrder.{Numbered, numbered, ahead, copy_order}
use Rattle.nesting.specs.Rounds.{no_kind, swapped}
use Rattle.accounts.specs.tables.inner.Tabled.{Tabled}
use Rattle.copy_order.specs.inner.KindTables.{copies_in}
use Rattle.copy_order.proofs.Sorted.{sort_measure, flat_map-map}
use Rattle.copy_order.proofs.Tabling.{copies_of_kind, bare, all_copies, tabled-kinds}

-- ---- counting

-- one where a kind is k
unfoldable one : ℕ → ℕ → ℕ
one k l = elim (eqb k l) [ true ↦ 1 | false ↦ 0 ]

count-cons : (k l : ℕ) (ls : List ℕ) → count_in k (l ∷ ls) ≡ one k l + count_in k ls
unfolding count_in one
count-cons k l ls = go (eqb k l)
  where
    go : (t : Bool) → (elim t [ true ↦ suc (count_in k ls) | false ↦ count_in k ls ]) ≡ (elim t [ true ↦ 1 | false ↦ 0 ]) + count_in k ls
    go true = omega arith
    go false = omega arith

one_same : (k : ℕ) → one k k ≡ 1
unfolding one
one_same k = rw (eq-eqb k k refl, one)

one-other : (k l : ℕ) → (k ≡ l → ⊥) → one k l ≡ 0
unfolding one
one-other k l h = rw (ne_eqb k l h, one)

count-replicate : (k n : ℕ) → count_in k (replicate n k) ≡ n
count-replicate k zero = count_none k
count-replicate k (suc n) =
    let e : count_in k (k ∷ replicate n k) ≡ one k k + count_in k (replicate n k) = count-cons k k (replicate n k) in
    let s : one k k ≡ 1 = one_same k in
    let r : count_in k (replicate n k) ≡ n = count-replicate k n in
    omega arith

count-others : (k l n : ℕ) → (k ≡ l → ⊥) → count_in k (replicate n l) ≡ 0
count-others k l zero h = count_none k
count-others k l (suc n) h =
    let e : count_in k (l ∷ replicate n l) ≡ one k l + count_in k (replicate n l) = count-cons k l (replicate n l) in
    let s : one k l ≡ 0 = one-other k l h in
    let r : count_in k (replicate n l) ≡ 0 = count-others k l n h in
    omega arith

-- ---- the copy order

later : (k m : ℕ) (ks : List Kind) → k < m → count_in k (flat_map copies_of_kind (numbered m ks)) ≡ 0
unfolding numbered flat_map
later k m [] h = count_none k
later k m (a ∷ ks) h =
    let e : count_in k (replicate a.quantity m ++ flat_map copies_of_kind (numbered (suc m) ks)) ≡ count_in k (replicate a.quantity m) + count_in k (flat_map copies_of_kind (numbered (suc m) ks)) = count-append k (replicate a.quantity m) (flat_map copies_of_kind (numbered (suc m) ks)) in
    let o : count_in k (replicate a.quantity m) ≡ 0 = count-others k m a.quantity (λ q. omega arith) in
    let r : count_in k (flat_map copies_of_kind (numbered (suc m) ks)) ≡ 0 = later k (suc m) ks (omega arith) in
    omega arith

each : (m : ℕ) (ks : List Kind) (i : ℕ) → i < length ks → count_in (m + i) (flat_map copies_of_kind (numbered m ks)) ≡ (get_or ks i no_kind).quantity
unfolding numbered flat_map
each m [] i h = absurd (omega arith)
each m (a ∷ ks) zero h =
    let z : m + 0 ≡ m = omega arith in
    let e : count_in m (replicate a.quantity m ++ flat_map copies_of_kind (numbered (suc m) ks)) ≡ count_in m (replicate a.quantity m) + count_in m (flat_map copies_of_kind (numbered (suc m) ks)) = count-append m (replicate a.quantity m) (flat_map copies_of_kind (numbered (suc m) ks)) in
    let s : count_in m (replicate a.quantity m) ≡ a.quantity = count-replicate m a.quantity in
    let r : count_in m (flat_map copies_of_kind (numbered (suc m) ks)) ≡ 0 = later m (suc m) ks (omega arith) in
    ap (λ (k : ℕ). count_in k (replicate a.quantity m ++ flat_map copies_of_kind (numbered (suc m) ks))) z ∙ omega arith
each m (a ∷ ks) (suc i) h =
    let z : m + suc i ≡ suc m + i = omega arith in
    let e : count_in (suc m + i) (replicate a.quantity m ++ flat_map copies_of_kind (numbered (suc m) ks)) ≡ count_in (suc m + i) (replicate a.quantity m) + count_in (suc m + i) (flat_map copies_of_kind (numbered (suc m) ks)) = count-append (suc m + i) (replicate a.quantity m) (flat_map copies_of_kind (numbered (suc m) ks)) in
    let s : count_in (suc m + i) (replicate a.quantity m) ≡ 0 = count-others (suc m + i) m a.quantity (λ q. omega arith) in
    let r : count_in (suc m + i) (flat_map copies_of_kind (numbered (suc m) ks)) ≡ (get_or ks i no_kind).quantity = each (suc m) ks i (omega arith) in
    ap (λ (k : ℕ). count_in k (replicate a.quantity m ++ flat_map copies_of_kind (numbered (suc m) ks))) z ∙ (e ∙ (ap (λ (n : ℕ). n + count_in (suc m + i) (flat_map copies_of_kind (numbered (suc m) ks))) s ∙ (omega arith ∙ r)))

full : (m : ℕ) (ks : List Kind) (order : List ℕ) → ((i : ℕ) → i < length ks → count_in (m + i) order ≡ (get_or ks i no_kind).quantity) → in_full m ks order ≡ true
unfolding in_full
full m [] order h = refl
full m (a ∷ ks) order h =
    let z : m + 0 ≡ m = omega arith in
    let f : count_in m order ≡ a.quantity = ap (λ (k : ℕ). count_in k order) (sym z) ∙ h 0 (omega arith) in
    let r : in_full (suc m) ks order ≡ true = full (suc m) ks order (λ (i : ℕ) l. let w : suc m + i ≡ m + suc i = omega arith in ap (λ (k : ℕ). count_in k order) w ∙ h (suc i) (omega arith)) in
    rw (eq-eqb (count_in m order) a.quantity f, r)

total : (m : ℕ) (ks : List Kind) → length (flat_map copies_of_kind (numbered m ks)) ≡ copies_of ks
unfolding numbered copies_of flat_map
total m [] = refl
total m (a ∷ ks) =
    length-append (replicate a.quantity m) (flat_map copies_of_kind (numbered (suc m) ks))
    ∙ (ap (λ (n : ℕ). n + length (flat_map copies_of_kind (numbered (suc m) ks))) (length-replicate a.quantity m)
    ∙ ap (λ (n : ℕ). a.quantity + n) (total (suc m) ks))

-- as many as all kinds have
pub copy-order-length : (j : Job) → length (copy_order j) ≡ copies_of j.kinds
unfolding copy_order
copy-order-length j = sort_measure ahead length length-append copies_of_kind (numbered 0 j.kinds) ∙ total 0 j.kinds

-- every kind as often as the job has it
pub copy-order-rearranged : (j : Job) → j.copies ≡ copies_of j.kinds → rearranged j (copy_order j) ≡ true
unfolding rearranged copy_order
copy-order-rearranged j e =
    let f : in_full 0 j.kinds (copy_order j) ≡ true = full 0 j.kinds (copy_order j) (λ (i : ℕ) l. sort_measure ahead (count_in (0 + i)) (count-append (0 + i)) copies_of_kind (numbered 0 j.kinds) ∙ each 0 j.kinds i l) in
    rw (eq-eqb (length (copy_order j)) j.copies (copy-order-length j ∙ sym e), f)

-- of an accepted job
pub accepted-rearranged : (bytes : List ℕ) (j : Job) → read_job bytes ≡ accepted j → rearranged j (copy_order j) ≡ true
accepted-rearranged bytes j e = copy-order-rearranged j (job_good bytes j e).good.total

-- as many as the tables say
pub tabled-copies : (j : Job) (rows : List ℕ) (areas : List Float) → Tabled j rows areas → copies_in rows (length j.kinds) ≡ copies_of j.kinds
tabled-copies j rows areas t =
    sym (all_copies rows areas (length j.kinds))
    ∙ (ap (λ (l : List Numbered). length (flat_map copies_of_kind l)) (tabled-kinds rows areas j t)
    ∙ (ap length (flat_map-map copies_of_kind bare (numbered 0 j.kinds)) ∙ total 0 j.kinds))

-- ---- a swap

count_set : (k : ℕ) (l : List ℕ) (i v : ℕ) → i < length l → count_in k (set l i v) + one k (get_or l i 0) ≡ count_in k l + one k v
count_set k [] i v h = absurd (omega arith)
count_set k (x ∷ l) zero v h =
    let e : count_in k (v ∷ l) ≡ one k v + count_in k l = count-cons k v l in
    let f : count_in k (x ∷ l) ≡ one k x + count_in k l = count-cons k x l in
    omega arith
count_set k (x ∷ l) (suc i) v h =
    let e : count_in k (x ∷ set l i v) ≡ one k x + count_in k (set l i v) = count-cons k x (set l i v) in
    let f : count_in k (x ∷ l) ≡ one k x + count_in k l = count-cons k x l in
    let g : count_in k (set l i v) + one k (get_or l i 0) ≡ count_in k l + one k v = count_set k l i v (omega arith) in
    omega arith

-- what stands at b is what stood there, also where a is b
stays : (order : List ℕ) (a b : ℕ) → a < length order → get_or (set order a (get_or order b 0)) b 0 ≡ get_or order b 0
stays order a b h = go (eqb b a) refl
  where
    go : (t : Bool) → eqb b a ≡ t → get_or (set order a (get_or order b 0)) b 0 ≡ get_or order b 0
    go true e = let s : b ≡ a = eqb-true b a e in ap (λ (q : ℕ). get_or (set order a (get_or order b 0)) q 0) s ∙ get_or-set_same order a (get_or order b 0) 0 h
    go false e = get_or-set_other order a b (get_or order b 0) 0 (eqb-false b a e)

pub length-swapped : (a b : ℕ) (order : List ℕ) → length (swapped a b order) ≡ length order
unfolding swapped
length-swapped a b order = length-set (set order a (get_or order b 0)) b (get_or order a 0) ∙ length-set order a (get_or order b 0)

count-swapped : (k a b : ℕ) (order : List ℕ) → a < length order → b < length order → count_in k (swapped a b order) ≡ count_in k order
unfolding swapped
count-swapped k a b order h g =
    let va = get_or order a 0 in
    let vb = get_or order b 0 in
    let l : length (set order a vb) ≡ length order = length-set order a vb in
    let e : count_in k (set order a vb) + one k va ≡ count_in k order + one k vb = count_set k order a vb h in
    let f : count_in k (set (set order a vb) b va) + one k vb ≡ count_in k (set order a vb) + one k va = ap (λ (v : ℕ). count_in k (set (set order a vb) b va) + one k v) (sym (stays order a b h)) ∙ count_set k (set order a vb) b va (omega arith) in
    omega arith

full_same : (m : ℕ) (ks : List Kind) (xs ys : List ℕ) → ((k : ℕ) → count_in k xs ≡ count_in k ys) → in_full m ks xs ≡ in_full m ks ys
unfolding in_full
full_same m [] xs ys h = refl
full_same m (a ∷ ks) xs ys h =
    ap (λ (n : ℕ). eqb n a.quantity && in_full (suc m) ks xs) (h m) ∙ ap (λ (t : Bool). eqb (count_in m ys) a.quantity && t) (full_same (suc m) ks xs ys h)

-- a swap keeps it
pub swapped-rearranged : (j : Job) (a b : ℕ) (order : List ℕ) → a < length order → b < length order → rearranged j (swapped a b order) ≡ rearranged j order
unfolding rearranged
swapped-rearranged j a b order h g =
    ap (λ (n : ℕ). eqb n j.copies && in_full 0 j.kinds (swapped a b order)) (length-swapped a b order)
    ∙ ap (λ (t : Bool). eqb (length order) j.copies && t) (full_same 0 j.kinds (swapped a b order) order (λ (k : ℕ). count-swapped k a b order h g))
