-- Lists: rearranged, mapped, kept, put together; their members; the numbers from c on. Assumes nothing.
use Prim.Native.Nat.{ℕ, zero, suc, ◌+◌, ◌-◌, ◌<◌, ◌≤◌}
use native.Mathlib.Omega.{arith}
use mathlib.Core.Path.{◌≡◌, refl, sym, ap, ◌∙◌, subst}
use mathlib.Core.Logic.{◌⊎◌, inl, inr}
use mathlib.Core.Bool.{Bool, true, false}
use mathlib.Core.List.Memᴰ
use mathlib.Core.List.Permᴰ
use mathlib.Core.List.{List, [], ◌∷◌, ◌++◌, map, flat_map, append_assoc, append-nil, Memᴰ, Permᴰ}
use lib.ListN.{length, get_or}
use lib.Seq.{slice, slice-cons}
use Rattle.numbers.proofs.Truth.{either}
use Rattle.index.specs.Buckets.{up_from, keep}

module _ {A : Type 0} where
  pub perm_of : {l m : List A} → l ≡ m → Permᴰ l m
  perm_of {l} {m} e = subst (λ (k : List A). Permᴰ l k) e (Permᴰ.refl l)

  pub perm_length : {l m : List A} → Permᴰ l m → length l ≡ length m
  perm_length Permᴰ.nil = refl
  perm_length (Permᴰ.cons e d) = ap suc (perm_length d)
  perm_length (Permᴰ.swap e f) = refl
  perm_length (Permᴰ.trans d e) = perm_length d ∙ perm_length e

  pub perm_mem : {l m : List A} → Permᴰ l m → (a : A) → Memᴰ a l → Memᴰ a m
  perm_mem Permᴰ.nil a h = h
  perm_mem (Permᴰ.cons e d) a (Memᴰ.head f) = Memᴰ.head (f ∙ e)
  perm_mem (Permᴰ.cons e d) a (Memᴰ.tail h) = Memᴰ.tail (perm_mem d a h)
  perm_mem (Permᴰ.swap e f) a (Memᴰ.head g) = Memᴰ.tail (Memᴰ.head (g ∙ e))
  perm_mem (Permᴰ.swap e f) a (Memᴰ.tail (Memᴰ.head g)) = Memᴰ.head (g ∙ f)
  perm_mem (Permᴰ.swap e f) a (Memᴰ.tail (Memᴰ.tail h)) = Memᴰ.tail (Memᴰ.tail h)
  perm_mem (Permᴰ.trans d e) a h = perm_mem e a (perm_mem d a h)

  pub perm_append : {l m k n : List A} → Permᴰ l m → Permᴰ k n → Permᴰ (l ++ k) (m ++ n)
  perm_append {l} {m} {k} {n} d e = Permᴰ.trans (Permᴰ.append_right k d) (Permᴰ.append_left m e)

  pub perm_comm : (l m : List A) → Permᴰ (l ++ m) (m ++ l)
  perm_comm [] m = perm_of (sym (append-nil m))
  perm_comm (a ∷ l) m = Permᴰ.trans (Permᴰ.cons refl (perm_comm l m)) (Permᴰ.symm (Permᴰ.middle a m l))

  -- (a ++ b) ++ (c ++ d) against (a ++ c) ++ (b ++ d)
  pub perm_cross : (a b c d : List A) → Permᴰ ((a ++ b) ++ (c ++ d)) ((a ++ c) ++ (b ++ d))
  perm_cross a b c d =
      Permᴰ.trans (perm_of (append_assoc a b (c ++ d)))
      (Permᴰ.trans (Permᴰ.append_left a (Permᴰ.trans (perm_of (sym (append_assoc b c d))) (Permᴰ.trans (Permᴰ.append_right d (perm_comm b c)) (perm_of (append_assoc c b d)))))
      (perm_of (sym (append_assoc a c (b ++ d)))))

module _ {A B : Type 0} where
  pub flat_perm : (f g : A → List B) (xs : List A) → ((x : A) → Memᴰ x xs → Permᴰ (f x) (g x)) → Permᴰ (flat_map f xs) (flat_map g xs)
  unfolding flat_map
  flat_perm f g [] h = Permᴰ.nil
  flat_perm f g (x ∷ xs) h = perm_append (h x (Memᴰ.head refl)) (flat_perm f g xs (λ y m. h y (Memᴰ.tail m)))

  pub flat-same : (f g : A → List B) (xs : List A) → ((x : A) → Memᴰ x xs → f x ≡ g x) → flat_map f xs ≡ flat_map g xs
  unfolding flat_map
  flat-same f g [] h = refl
  flat-same f g (x ∷ xs) h = rw (h x (Memᴰ.head refl), flat-same f g xs (λ y m. h y (Memᴰ.tail m)))

  pub flat-none : (f : A → List B) (xs : List A) → ((x : A) → Memᴰ x xs → f x ≡ []) → flat_map f xs ≡ []
  unfolding flat_map
  flat-none f [] h = refl
  flat-none f (x ∷ xs) h = rw (h x (Memᴰ.head refl), flat-none f xs (λ y m. h y (Memᴰ.tail m)))

  pub flat-both : (f g : A → List B) (xs : List A) → Permᴰ (flat_map f xs ++ flat_map g xs) (flat_map (λ x. f x ++ g x) xs)
  unfolding flat_map
  flat-both f g [] = Permᴰ.nil
  flat-both f g (x ∷ xs) = Permᴰ.trans (perm_cross (f x) (flat_map f xs) (g x) (flat_map g xs)) (Permᴰ.append_left (f x ++ g x) (flat-both f g xs))

module _ {A B C : Type 0} where
  pub flat-swap : (f : A → B → List C) (xs : List A) (ys : List B) → Permᴰ (flat_map (λ x. flat_map (f x) ys) xs) (flat_map (λ y. flat_map (λ x. f x y) xs) ys)
  unfolding flat_map
  flat-swap f [] ys = perm_of (sym (flat-none (λ y. []) ys (λ y m. refl)))
  flat-swap f (x ∷ xs) ys = Permᴰ.trans (Permᴰ.append_left (flat_map (f x) ys) (flat-swap f xs ys)) (flat-both (f x) (λ y. flat_map (λ x. f x y) xs) ys)

-- ---- members
module _ {A B : Type 0} (f : A → B) where
  pub mem-map : (a : A) (as' : List A) → Memᴰ a as' → Memᴰ (f a) (map f as')
  mem-map a as' (Memᴰ.head e) = Memᴰ.head (ap f e)
  mem-map a as' (Memᴰ.tail m) = Memᴰ.tail (mem-map a _ m)

  pub map_mem : (b : B) (as' : List A) → Memᴰ b (map f as') → (a : A) × Memᴰ a as' × (b ≡ f a)
  map_mem b [] m = absurd (Memᴰ.not-nil m)
  map_mem b (a ∷ as') m = go (map_mem b as') (Memᴰ.cases_cons m)
    where
      tailed : ((c : A) × Memᴰ c as' × (b ≡ f c)) → (c : A) × Memᴰ c (a ∷ as') × (b ≡ f c)
      tailed h = (h.0, Memᴰ.tail h.1, h.2)

      go : (Memᴰ b (map f as') → (c : A) × Memᴰ c as' × (b ≡ f c)) → (b ≡ f a) ⊎ Memᴰ b (map f as') → (c : A) × Memᴰ c (a ∷ as') × (b ≡ f c)
      go below (inl e) = (a, Memᴰ.head refl, e)
      go below (inr n) = tailed (below n)

module _ {A B : Type 0} where
  pub flat_map_mem : (f : A → List B) (b : B) (zs : List A) → Memᴰ b (flat_map f zs) → (a : A) × Memᴰ a zs × Memᴰ b (f a)
  unfolding flat_map
  flat_map_mem f b [] m = absurd (Memᴰ.not-nil m)
  flat_map_mem f b (z ∷ zs) m = go (flat_map_mem f b zs) (Memᴰ.append_cases (f z) m)
    where
      tailed : ((a : A) × Memᴰ a zs × Memᴰ b (f a)) → (a : A) × Memᴰ a (z ∷ zs) × Memᴰ b (f a)
      tailed h = (h.0, Memᴰ.tail h.1, h.2)

      go : (Memᴰ b (flat_map f zs) → (a : A) × Memᴰ a zs × Memᴰ b (f a)) → Memᴰ b (f z) ⊎ Memᴰ b (flat_map f zs) → (a : A) × Memᴰ a (z ∷ zs) × Memᴰ b (f a)
      go below (inl n) = (z, Memᴰ.head refl, n)
      go below (inr n) = tailed (below n)

-- ---- the numbers from c on
pub up_from_mem : (k c b : ℕ) → Memᴰ b (up_from k c) → (c ≤ b) × (b < c + k)
unfolding up_from
up_from_mem zero c b m = absurd (Memᴰ.not-nil m)
up_from_mem (suc k) c b m = go (up_from_mem k (suc c) b) (Memᴰ.cases_cons m)
  where
    go : (Memᴰ b (up_from k (suc c)) → (suc c ≤ b) × (b < suc c + k)) → (b ≡ c) ⊎ Memᴰ b (up_from k (suc c)) → (c ≤ b) × (b < c + suc k)
    go below (inl e) = (omega arith, omega arith)
    go below (inr n) = let t = below n in (omega (arith, t.0), omega (arith, t.1))

pub length-up_from : (n c : ℕ) → length (up_from n c) ≡ n
unfolding up_from
length-up_from zero c = refl
length-up_from (suc n) c = ap suc (length-up_from n (suc c))

pub get_d_up_from : {A : Type 0} (f : ℕ → A) (n c i : ℕ) (d : A) → i < n → get_or (map f (up_from n c)) i d ≡ f (c + i)
unfolding up_from
get_d_up_from f zero c i d h = absurd (omega arith)
get_d_up_from f (suc n) c zero d h = ap f (omega arith)
get_d_up_from f (suc n) c (suc i) d h = let e : suc c + i ≡ c + suc i = omega arith in get_d_up_from f n (suc c) i d (omega arith) ∙ ap f e

pub map_at : {A B : Type 0} (f : A → B) (l : List A) (i : ℕ) (d : B) (e : A) → i < length l → get_or (map f l) i d ≡ f (get_or l i e)
map_at f [] i d e h = absurd (omega arith)
map_at f (a ∷ l) zero d e h = refl
map_at f (a ∷ l) (suc i) d e h = map_at f l i d e (omega arith)

pub map_same : {A : Type 0} (f g : ℕ → A) (xs : List ℕ) → ((x : ℕ) → Memᴰ x xs → f x ≡ g x) → map f xs ≡ map g xs
map_same f g [] h = refl
map_same f g (x ∷ xs) h = rw (h x (Memᴰ.head refl), map_same f g xs (λ y m. h y (Memᴰ.tail m)))

module _ {B : Type 0} (f : ℕ → List B) where
  pub flat-single : (k c b : ℕ) → c ≤ b → b < c + k → ((d : ℕ) → c ≤ d → (d ≡ b → ⊥) → f d ≡ []) → flat_map f (up_from k c) ≡ f b
  unfolding flat_map up_from
  flat-single zero c b h l o = absurd (z h l)
    where
      z : c ≤ b → b < c + zero → ⊥
      z h l = omega arith
  flat-single (suc k) c b h l o = go (lib.Dec.eqb c b) (lib.Dec.eqb→eq c b) (λ (g : suc c ≤ b). flat-single k (suc c) b g (omega arith) (λ d u v. o d (omega arith) v))
    where
      beyond : (d : ℕ) → Memᴰ d (up_from k (suc c)) → c ≤ d
      beyond d m = let t = up_from_mem k (suc c) d m in omega (arith, t.0)

      past : c ≡ b → (d : ℕ) → Memᴰ d (up_from k (suc c)) → d ≡ b → ⊥
      past e d m q = let t = up_from_mem k (suc c) d m in omega (arith, t.0)

      go : (t : Bool) → (lib.Dec.T t → c ≡ b) → (suc c ≤ b → flat_map f (up_from k (suc c)) ≡ f b) → f c ++ flat_map f (up_from k (suc c)) ≡ f b
      go true e below = let q = e tt in rw (flat-none f (up_from k (suc c)) (λ d m. o d (beyond d m) (past q d m)), append-nil, q)
      go false e below = other (native.Mathlib.Nat.eq-or-lt_of_le h)
        where
          other : (c ≡ b) ⊎ (c < b) → f c ++ flat_map f (up_from k (suc c)) ≡ f b
          other (inl q) = rw (flat-none f (up_from k (suc c)) (λ d m. o d (beyond d m) (past q d m)), append-nil, q)
          other (inr q) = rw (o c (native.Mathlib.Nat.le_refl c) (λ r. (let z : c ≡ b = r in omega arith))) (below q)

-- the elements at f to t, by their places
module _ {B : Type 0} (F : ℕ → List B) (l : List ℕ) where
  pub flat_slice : (k f t : ℕ) → k ≡ t - f → t ≤ length l → flat_map (λ j. F (get_or l j 0)) (up_from k f) ≡ flat_map F (slice f t l)
  unfolding flat_map up_from
  flat_slice zero f t e h = sym (rw (none (native.Mathlib.Nat.le_refl f)))
    where
      none : f ≤ f → slice f t l ≡ []
      none _ = let q : length (lib.ListN.take t l) ≤ f = omega (arith, lib.Seq.length-take-le t l h) in lib.ListN.drop_of_length-le (lib.ListN.take t l) q
  flat_slice (suc k) f t e h = rw (slice-cons f t l 0 (omega arith) h, flat_slice k (suc f) t (omega arith) h)

module _ {B : Type 0} (test : ℕ → Bool) (F : ℕ → List B) where
  pub only : Bool → List B → List B
  only true l = l
  only false l = []

  pub flat_keep : (is : List ℕ) → flat_map F (keep test is) ≡ flat_map (λ i. elim (test i) [ true ↦ F i | false ↦ [] ]) is
  unfolding flat_map keep
  flat_keep [] = refl
  flat_keep (i ∷ is) = go (flat_keep is) (either (test i))
    where
      go : flat_map F (keep test is) ≡ flat_map (λ i. elim (test i) [ true ↦ F i | false ↦ [] ]) is → (test i ≡ true) ⊎ (test i ≡ false)
          → flat_map F (elim (test i) [ true ↦ i ∷ keep test is | false ↦ keep test is ]) ≡ (elim (test i) [ true ↦ F i | false ↦ [] ]) ++ flat_map (λ i. elim (test i) [ true ↦ F i | false ↦ [] ]) is
      go below (inl e) = rw (e, below)
      go below (inr e) = rw (e, below)

  pub keep_mem : (is : List ℕ) (a : ℕ) → Memᴰ a (keep test is) → Memᴰ a is
  unfolding keep
  keep_mem [] a m = m
  keep_mem (i ∷ is) a m = go (keep_mem is a) (either (test i))
    where
      first : (Memᴰ a (keep test is) → Memᴰ a is) → (a ≡ i) ⊎ Memᴰ a (keep test is) → Memᴰ a (i ∷ is)
      first below (inl e) = Memᴰ.head e
      first below (inr n) = Memᴰ.tail (below n)

      go : (Memᴰ a (keep test is) → Memᴰ a is) → (test i ≡ true) ⊎ (test i ≡ false) → Memᴰ a (i ∷ is)
      go below (inl e) = first below (Memᴰ.cases_cons (rw (e, keep) at m))
      go below (inr e) = Memᴰ.tail (below (rw (e, keep) at m))

pub keep_same : (f g : ℕ → Bool) (is : List ℕ) → ((i : ℕ) → Memᴰ i is → f i ≡ g i) → keep f is ≡ keep g is
unfolding keep
keep_same f g [] h = refl
keep_same f g (i ∷ is) h = go (keep_same f g is (λ j m. h j (Memᴰ.tail m))) (h i (Memᴰ.head refl)) (either (f i))
  where
    go : keep f is ≡ keep g is → f i ≡ g i → (f i ≡ true) ⊎ (f i ≡ false) → keep f (i ∷ is) ≡ keep g (i ∷ is)
    go below e (inl t) = let u : g i ≡ true = sym e ∙ t in rw (t, u, keep, below)
    go below e (inr t) = let u : g i ≡ false = sym e ∙ t in rw (t, u, keep, below)

pub keep_append : {A : Type 0} (test : A → Bool) (xs ys : List A) → keep test (xs ++ ys) ≡ keep test xs ++ keep test ys
unfolding keep
keep_append test [] ys = refl
keep_append test (x ∷ xs) ys = go (keep_append test xs ys) (either (test x))
  where
    go : keep test (xs ++ ys) ≡ keep test xs ++ keep test ys → (test x ≡ true) ⊎ (test x ≡ false) → keep test (x ∷ (xs ++ ys)) ≡ keep test (x ∷ xs) ++ keep test ys
    go below (inl e) = rw (e, keep, below)
    go below (inr e) = rw (e, keep, below)

pub keep-flat : {A B : Type 0} (test : B → Bool) (f : A → List B) (xs : List A) → keep test (flat_map f xs) ≡ flat_map (λ x. keep test (f x)) xs
unfolding flat_map keep
keep-flat test f [] = refl
keep-flat test f (x ∷ xs) = keep_append test (f x) (flat_map f xs) ∙ rw (keep-flat test f xs)

-- one list more
pub flat_snoc : {B : Type 0} (f : ℕ → List B) (m c : ℕ) → flat_map f (up_from (suc m) c) ≡ flat_map f (up_from m c) ++ f (c + m)
unfolding flat_map up_from
flat_snoc f zero c = let e : c + 0 ≡ c = omega arith in rw (e, append-nil (f c))
flat_snoc f (suc m) c =
    let e : suc c + m ≡ c + suc m = omega arith in
    ap (λ (l : List _). f c ++ l) (flat_snoc f m (suc c)) ∙ (sym (append_assoc (f c) (flat_map f (up_from m (suc c))) (f (suc c + m))) ∙ ap (λ (k : ℕ). (f c ++ flat_map f (up_from m (suc c))) ++ f k) e)
