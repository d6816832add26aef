-- Laws of sorting: what depends only on what is sorted stays. Assumes nothing.
use Prim.Native.Nat.{ℕ, ◌+◌}
use native.Mathlib.Omega.{arith}
use mathlib.Core.Path.{◌≡◌, refl, ap, sym, ◌∙◌}
use mathlib.Core.Bool.{Bool, true, false}
use mathlib.Core.List.{List, [], ◌∷◌, ◌++◌, map, flat_map}
use Rattle.slabs.specs.Slab.{insert, sort}

module _ {A B : Type 0} (first : A → A → Bool) where
  -- a measure that adds up over lists is not changed by sorting
  module _ (m : List B → ℕ) (adds : (xs ys : List B) → m (xs ++ ys) ≡ m xs + m ys) (g : A → List B) where
    insert_measure : (a : A) (l : List A) → m (flat_map g (insert first a l)) ≡ m (g a) + m (flat_map g l)
    unfolding insert flat_map
    insert_measure a [] = adds (g a) []
    insert_measure a (b ∷ l) = go (first b a) (insert_measure a l)
      where
        go : (t : Bool) → m (flat_map g (insert first a l)) ≡ m (g a) + m (flat_map g l) → m (flat_map g (elim t [ true ↦ b ∷ insert first a l | false ↦ a ∷ b ∷ l ])) ≡ m (g a) + m (flat_map g (b ∷ l))
        go true e =
            let s : m (g b ++ flat_map g l) ≡ m (g b) + m (flat_map g l) = adds (g b) (flat_map g l) in
            let r : m (g b ++ flat_map g (insert first a l)) ≡ m (g b) + m (flat_map g (insert first a l)) = adds (g b) (flat_map g (insert first a l)) in
            omega arith
        go false e = adds (g a) (g b ++ flat_map g l)

    pub sort_measure : (l : List A) → m (flat_map g (sort first l)) ≡ m (flat_map g l)
    unfolding sort flat_map
    sort_measure [] = refl
    sort_measure (a ∷ l) =
        insert_measure a (sort first l) ∙ (ap (λ (n : ℕ). m (g a) + n) (sort_measure l) ∙ sym (adds (g a) (flat_map g l)))

-- sorting what f leaves of each is what f leaves of the sorted, where f leaves what the order looks at
module _ {A : Type 0} (first : A → A → Bool) (f : A → A) (same : (a b : A) → first (f a) (f b) ≡ first a b) where
  insert-map : (a : A) (l : List A) → insert first (f a) (map f l) ≡ map f (insert first a l)
  unfolding insert
  insert-map a [] = refl
  insert-map a (b ∷ l) = go (first b a) (same b a) (insert-map a l)
    where
      go : (t : Bool) → first (f b) (f a) ≡ t → insert first (f a) (map f l) ≡ map f (insert first a l)
          → (elim (first (f b) (f a)) [ true ↦ f b ∷ insert first (f a) (map f l) | false ↦ f a ∷ f b ∷ map f l ]) ≡ map f (elim t [ true ↦ b ∷ insert first a l | false ↦ a ∷ b ∷ l ])
      go true e i = rw e (ap (λ (r : List A). f b ∷ r) i)
      go false e i = rw e

  pub sort-map : (l : List A) → sort first (map f l) ≡ map f (sort first l)
  unfolding sort
  sort-map [] = refl
  sort-map (a ∷ l) = ap (insert first (f a)) (sort-map l) ∙ insert-map a (sort first l)

pub flat_map-map : {A B C : Type 0} (g : B → List C) (f : A → B) (l : List A) → flat_map g (map f l) ≡ flat_map (λ (a : A). g (f a)) l
unfolding flat_map
flat_map-map g f [] = refl
flat_map-map {C = C} g f (a ∷ l) = ap (λ (r : List C). g (f a) ++ r) (flat_map-map g f l)
