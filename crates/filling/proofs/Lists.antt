-- `keep` and `flat_map` by membership. Assumes nothing.
use mathlib.Core.Path.{◌≡◌}
use mathlib.Core.Logic.{◌⊎◌, inl, inr}
use mathlib.Core.Bool.{Bool}
use mathlib.Core.List.Memᴰ
use mathlib.Core.List.{List, [], ◌∷◌, ◌++◌, flat_map, Memᴰ}
use Rattle.index.specs.Buckets.{keep}
use Rattle.index.proofs.Flat.{flat_map_mem}
use Rattle.look.proofs.height.SmallestHeight.{keep_mem, mem_keep}

abbrev pub Within {ℓ} : {A : Type ℓ} → List A → List A → Type ℓ
Within {A = A} xs ys = (a : A) → Memᴰ a xs → Memᴰ a ys

module _ {A B : Type 0} where
  pub mem_flat_map : (g : A → List B) (b : B) (zs : List A) (a : A) → Memᴰ a zs → Memᴰ b (g a) → Memᴰ b (flat_map g zs)
  unfolding flat_map
  mem_flat_map g b [] a m n = absurd (Memᴰ.not-nil m)
  mem_flat_map g b (z ∷ zs) a m n = go (λ o. mem_flat_map g b zs a o n) (Memᴰ.cases_cons m)
    where
      go : (Memᴰ a zs → Memᴰ b (flat_map g zs)) → (a ≡ z) ⊎ Memᴰ a zs → Memᴰ b (g z ++ flat_map g zs)
      go below (inl e) = Memᴰ.append_left _ (rw e at n)
      go below (inr o) = Memᴰ.append_right (g z) (below o)

  -- more elements, each with more of its own
  pub flat_map-within : (f g : A → List B) (xs ys : List A) → Within xs ys → ((a : A) → Within (f a) (g a)) → Within (flat_map f xs) (flat_map g ys)
  flat_map-within f g xs ys h k b m =
      let t = flat_map_mem f b xs m in
      mem_flat_map g b ys t.0 (h t.0 t.1) (k t.0 b t.2)

pub keep-within : {A : Type 0} (test : A → Bool) (xs ys : List A) → Within xs ys → Within (keep test xs) (keep test ys)
keep-within test xs ys h a m = let t = keep_mem test a xs m in mem_keep test a ys (h a t.0) t.1

pub append_within : {A : Type 0} (xs ys zs ws : List A) → Within xs zs → Within ys ws → Within (xs ++ ys) (zs ++ ws)
append_within xs ys zs ws h k a m = go (Memᴰ.append_cases xs m)
  where
    go : Memᴰ a xs ⊎ Memᴰ a ys → Memᴰ a (zs ++ ws)
    go (inl n) = Memᴰ.append_left ws (h a n)
    go (inr n) = Memᴰ.append_right zs (k a n)
