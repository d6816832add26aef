-- A list closed up where one of its elements went, and copies that moved up. Assumes nothing.
use mathlib.Core.Path.{◌≡◌, refl, sym, ap, ap₂, ◌∙◌}
use mathlib.Core.List.{List, [], ◌∷◌, ◌++◌, map, append_assoc}
use Prim.Native.Nat.{ℕ, suc, ◌+◌, ◌-◌, ◌≤◌, ◌<◌}
use native.Mathlib.Omega.{arith}
use lib.ListN.{length, get_or, take, drop, length-append, length-drop, get_or-append}
use lib.Seq.{length-take-le, take_at, get_or-append-add, get_or-take, get_or-drop, drop-append-add, drop-append-le, drop-drop}
use borrow.Author.Tests.{lt-ltb, le-ltb}
use Rattle.filling.specs.Shapes.{Copy, copies_from}
use Rattle.filling.specs.Plain.{place_after, copy_after}
use Rattle.filling.specs.Withdraw.{closed_up}

-- ---- a list closed up

module _ {A : Type 0} (n m : ℕ) (v : A) (l : List A) (h : n < m) (k : m ≤ length l) where
  front : length (take n l) ≡ n
  front = length-take-le n l (omega arith)

  middle : length (drop (suc n) (take m l)) ≡ m - suc n
  middle = let a = length-drop (suc n) (take m l) in let b = length-take-le m l k in omega arith

  pub length_closed : length (closed_up n m v l) ≡ length l
  unfolding closed_up
  length_closed =
      let a = length-append (take n l) (drop (suc n) (take m l) ++ (v ∷ drop m l)) in
      let b = length-append (drop (suc n) (take m l)) (v ∷ drop m l) in
      let c = length-drop m l in
      let d = front in
      let e = middle in
      omega arith

  pub closed_before : (i : ℕ) (d : A) → i < n → get_or (closed_up n m v l) i d ≡ get_or l i d
  unfolding closed_up
  closed_before i d b =
      let f = front in
      get_or-append (take n l) (drop (suc n) (take m l) ++ (v ∷ drop m l)) d i (omega arith) ∙ get_or-take n l i d b

  pub closed_after : (i : ℕ) (d : A) → n ≤ i → suc i < m → get_or (closed_up n m v l) i d ≡ get_or l (suc i) d
  unfolding closed_up
  closed_after i d a b =
      let f = front in
      let g = middle in
      let e : i ≡ length (take n l) + (i - n) = omega arith in
      let z : suc n + (i - n) ≡ suc i = omega arith in
      ap (λ (q : ℕ). get_or (take n l ++ (drop (suc n) (take m l) ++ (v ∷ drop m l))) q d) e
      ∙ get_or-append-add (take n l) (drop (suc n) (take m l) ++ (v ∷ drop m l)) (i - n) d
      ∙ get_or-append (drop (suc n) (take m l)) (v ∷ drop m l) d (i - n) (omega arith)
      ∙ get_or-drop (suc n) (take m l) (i - n) d
      ∙ ap (λ (q : ℕ). get_or (take m l) q d) z
      ∙ get_or-take m l (suc i) d b

  -- the first m of it
  pub take_closed : take m (closed_up n m v l) ≡ take n l ++ (drop (suc n) (take m l) ++ (v ∷ []))
  unfolding closed_up
  take_closed =
      let a = length-append (take n l) (drop (suc n) (take m l) ++ (v ∷ [])) in
      let b = length-append (drop (suc n) (take m l)) (v ∷ []) in
      let f = front in
      let g = middle in
      ap (λ (r : List A). take m (take n l ++ r)) (sym (append_assoc (drop (suc n) (take m l)) (v ∷ []) (drop m l)))
      ∙ ap (take m) (sym (append_assoc (take n l) (drop (suc n) (take m l) ++ (v ∷ [])) (drop m l)))
      ∙ take_at (take n l ++ (drop (suc n) (take m l) ++ (v ∷ []))) (drop m l) m (omega arith)

  -- those from t - 1 on, where the first t had the one that went
  pub drop_closed : (t : ℕ) → n < t → t ≤ m → drop (t - 1) (take m (closed_up n m v l)) ≡ drop t (take m l) ++ (v ∷ [])
  drop_closed t a b =
      let f = front in
      let g = middle in
      let e : t - 1 ≡ length (take n l) + (t - suc n) = omega arith in
      let z : suc n + (t - suc n) ≡ t = omega arith in
      ap (drop (t - 1)) take_closed
      ∙ ap (λ (q : ℕ). drop q (take n l ++ (drop (suc n) (take m l) ++ (v ∷ [])))) e
      ∙ drop-append-add (take n l) (drop (suc n) (take m l) ++ (v ∷ [])) (t - suc n)
      ∙ drop-append-le (t - suc n) (drop (suc n) (take m l)) (v ∷ []) (omega arith)
      ∙ ap (λ (r : List A). r ++ (v ∷ [])) (drop-drop (t - suc n) (suc n) (take m l) ∙ ap (λ (q : ℕ). drop q (take m l)) z)

-- ---- places

pub place-before : (n m : ℕ) → m ≤ n → place_after n m ≡ m
unfolding place_after
place-before n m h = rw (le-ltb n m h, place_after)

pub place-behind : (n m : ℕ) → n ≤ m → place_after n (suc m) ≡ m
unfolding place_after
place-behind n m h = rw (lt-ltb n (suc m) (omega arith), place_after) (omega arith)

-- copies to come move up
pub copies-after : (n t : ℕ) → n ≤ t → (ks : List ℕ) → map (copy_after n) (copies_from (suc t) ks) ≡ copies_from t ks
unfolding copies_from copy_after
copies-after n t h [] = refl
copies-after n t h (k ∷ ks) = ap₂ ◌∷◌ (ap (λ i. record { place = i; kind = k }) (place-behind n t h)) (copies-after n (suc t) (omega arith) ks)

pub copies_snoc : (t : ℕ) (ks : List ℕ) (k : ℕ) → copies_from t (ks ++ (k ∷ [])) ≡ copies_from t ks ++ (record { place = t + length ks; kind = k } ∷ [])
unfolding copies_from
copies_snoc t [] k = let e : t ≡ t + 0 = omega arith in ap (λ i. record { place = i; kind = k } ∷ []) e
copies_snoc t (a ∷ ks) k =
    let e : suc t + length ks ≡ t + suc (length ks) = omega arith in
    ap (λ (l : List Copy). record { place = t; kind = a } ∷ l) (copies_snoc (suc t) ks k ∙ ap
    (λ i. copies_from (suc t) ks ++ (record { place = i; kind = k } ∷ [])) e)

pub copies_length : (t : ℕ) (ks : List ℕ) → length (copies_from t ks) ≡ length ks
unfolding copies_from
copies_length t [] = refl
copies_length t (k ∷ ks) = ap suc (copies_length (suc t) ks)
