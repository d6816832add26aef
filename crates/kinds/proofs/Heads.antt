-- Laws of a kind's fields and of priorities. Assumes nothing.
use mathlib.Core.Path.{◌≡◌}
use Prim.Native.Nat.{ℕ}
use lib.Dec.{ltb}
use lib.IntN.{ℤ, pos, negsuc}
use lib.Signed.{lt_z}
use Rattle.std.proofs.Common.{w32}
use Rattle.std.specs.Int.{cast_signed}
use mathlib.Core.Bool.{Bool, true, false}
use mathlib.Core.Path.{refl}
use mathlib.Core.List.{List}
use lib.Ieee.{Float}
use Rattle.bits.specs.declared.Refusal.{Refusal}
use Rattle.bits.specs.Reading.{ok, bad, after, bits}
use Rattle.bits.specs.Fields.{quantity_field, orientations_field, count, area_range, number}
use Rattle.kinds.specs.Kinds.{signed, lower, kind_head}

module _ (bytes : List ℕ) (p : ℕ) where
  pub head-1 : {k : Refusal} → count quantity_field bytes p ≡ bad k → kind_head bytes p ≡ bad k
  unfolding kind_head after
  head-1 e = rw e

  module _ {q p1 : ℕ} (e1 : count quantity_field bytes p ≡ ok q p1) where
    pub head-2 : {k : Refusal} → bits 1 bytes p1 ≡ bad k → kind_head bytes p ≡ bad k
    unfolding kind_head after
    head-2 e = rw (e1, e)

    module _ {f p2 : ℕ} (e2 : bits 1 bytes p1 ≡ ok f p2) where
      pub head-3 : {k : Refusal} → bits 32 bytes p2 ≡ bad k → kind_head bytes p ≡ bad k
      unfolding kind_head after
      head-3 e = rw (e1, e2, e)

      module _ {r p3 : ℕ} (e3 : bits 32 bytes p2 ≡ ok r p3) where
        pub head-4 : {k : Refusal} → number area_range bytes p3 ≡ bad k → kind_head bytes p ≡ bad k
        unfolding kind_head after
        head-4 e = rw (e1, e2, e3, e)

        module _ {a : Float} {p4 : ℕ} (e4 : number area_range bytes p3 ≡ ok a p4) where
          pub head-5 : {k : Refusal} → count orientations_field bytes p4 ≡ bad k → kind_head bytes p ≡ bad k
          unfolding kind_head after
          head-5 e = rw (e1, e2, e3, e4, e)

          pub head_in : {n p5 : ℕ} → count orientations_field bytes p4 ≡ ok n p5 → kind_head bytes p ≡ ok (record { quantity = q; fill = f; priority = r; area = a; orientations = n }) p5
          unfolding kind_head after
          head_in e = rw (e1, e2, e3, e4, e)

-- ---- priorities
pub signed_is : (b : ℕ) → cast_signed w32 b ≡ signed b
unfolding signed
signed_is b = go (ltb b 2147483648) refl
  where
    go : (t : Bool) → ltb b 2147483648 ≡ t → cast_signed w32 b ≡ signed b
    go true e = rw (e, signed)
    go false e = rw (e, signed)

pub lower_is : (x y : ℤ) → lt_z x y ≡ lower x y
unfolding lower
lower_is (pos a) (pos b) = refl
lower_is (pos a) (negsuc b) = refl
lower_is (negsuc a) (pos b) = refl
lower_is (negsuc a) (negsuc b) = refl
