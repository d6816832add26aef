-- What the kinds of an accepted job promise. Assumes nothing.
use mathlib.Core.Path.{◌≡◌, sym, ◌∙◌, subst}
use Prim.Native.Nat.{ℕ, zero, suc, ◌+◌, ◌*◌, ◌^◌, ◌≤◌, ◌<◌}
use native.Mathlib.Omega.{arith}
use mathlib.Core.List.{List, [], ◌∷◌, ◌++◌}
use lib.ListN.{length, get_or, length-append}
use lib.Ieee.{Float}
use Rattle.numbers.specs.Numbers.{pos_zero}
use Rattle.bits.specs.Reading.{ok, ◌>>=◌, give, bits}
use Rattle.bits.specs.Fields.{quantity_field, orientations_field, count, area_range, number}
use Rattle.bits.proofs.Accepted.{Gives, bind, given, bits_less, count_in_range, Between, number-between, UpFrom, area_in}
use Rattle.kinds.specs.sets.Sets.{a_set}
use Rattle.kinds.proofs.sets.Accepted.{Good, set-good, set-accepted}
use Rattle.kinds.specs.sets.inner.Answers.{set_at}
use Rattle.kinds.specs.declared.KindHead.{KindHead}
use Rattle.kinds.specs.Kinds.{Orientation, an_orientation, some_orientations, Kind, kind_head, kind_of, a_kind, some_kinds, head_at}
use Rattle.kinds.specs.inner.Tables.{tabulate, orientation_at, orientations_of, kind_with, kind_at}
use Rattle.kinds.proofs.Tables.{length-tabulate, tabulate_at, orientations_at}

pub record GoodSets (o : Orientation) : Type 0 where
  pub apart_points : ℕ
  pub apart : Good o.apart apart_points
  pub inset_points : ℕ
  pub inset : Good o.inset inset_points

abbrev pub Every : {A : Type 0} → (A → Type 0) → List A → Type 0
Every P [] = Unit {0}
Every P (a ∷ l) = P a × Every P l

pub every_append : {A : Type 0} (P : A → Type 0) (l : List A) (a : A) → Every P l → P a → Every P (l ++ (a ∷ []))
every_append P [] a h p = (p, tt)
every_append P (b ∷ l) a h p = (h.0, every_append P l a h.1 p)

pub record GoodHead (h : KindHead) : Type 0 where
  pub quantity_least : 1 ≤ h.quantity
  pub quantity_most : h.quantity ≤ 4095
  pub fill : h.fill < 2
  pub priority : h.priority < 4294967296
  pub area : UpFrom pos_zero 1000000000000 h.area
  pub orientations_least : 1 ≤ h.orientations
  pub orientations_most : h.orientations ≤ 16

pub record GoodKind (k : Kind) : Type 0 where
  pub quantity_least : 1 ≤ k.quantity
  pub quantity_most : k.quantity ≤ 4095
  pub area : UpFrom pos_zero 1000000000000 k.area
  pub orientations_least : 1 ≤ length k.orientations
  pub orientations_most : length k.orientations ≤ 16
  pub sets : Every GoodSets k.orientations

pub orientation-good : Gives an_orientation GoodSets
unfolding an_orientation
orientation-good =
    bind a_set (λ a. a_set >>= λ i. give (record { apart = a; inset = i })) (λ s. (m : ℕ) × Good s m) GoodSets set-good (λ a g.
    bind a_set (λ i. give (record { apart = a; inset = i })) (λ s. (m : ℕ) × Good s m) GoodSets set-good (λ i h.
    given (record { apart = a; inset = i }) GoodSets (record { apart_points = g.0; apart = g.1; inset_points = h.0; inset = h.1 })))

pub orientations-good : (n : ℕ) (os : List Orientation) → Every GoodSets os → Gives (some_orientations n os) (λ l. Every GoodSets l × (length l ≡ length os + n))
unfolding some_orientations
orientations-good zero os h = given os (λ l. Every GoodSets l × (length l ≡ length os + 0)) (h, omega arith)
orientations-good (suc n) os h =
    bind an_orientation (λ o. some_orientations n (os ++ (o ∷ []))) GoodSets (λ l. Every GoodSets l × (length l ≡ length os + suc n)) orientation-good (λ o g bytes p l q e.
    let r = orientations-good n (os ++ (o ∷ [])) (every_append GoodSets os o h g) bytes p l q e in
    (r.0, r.1 ∙ more (length (os ++ (o ∷ []))) (length os) n (length-append os (o ∷ []))))
  where
    more : (l m n : ℕ) → l ≡ m + 1 → l + n ≡ m + suc n
    more l m n e = omega arith

pub head-good : Gives kind_head GoodHead
unfolding kind_head
head-good =
    bind (count quantity_field) (λ q. bits 1 >>= λ f. bits 32 >>= λ r. number area_range >>= λ a. count orientations_field >>= λ n. give (record { quantity = q; fill = f; priority = r; area = a; orientations = n })) (λ q. (1 ≤ q) × (q ≤ 4095)) GoodHead (count_in_range quantity_field) (λ q hq.
    bind (bits 1) (λ f. bits 32 >>= λ r. number area_range >>= λ a. count orientations_field >>= λ n. give (record { quantity = q; fill = f; priority = r; area = a; orientations = n })) (λ f. f < 2 ^ 1) GoodHead (bits_less 1) (λ f hf.
    bind (bits 32) (λ r. number area_range >>= λ a. count orientations_field >>= λ n. give (record { quantity = q; fill = f; priority = r; area = a; orientations = n })) (λ r. r < 2 ^ 32) GoodHead (bits_less 32) (λ r hr.
    bind (number area_range) (λ a. count orientations_field >>= λ n. give (record { quantity = q; fill = f; priority = r; area = a; orientations = n })) (λ a. Between area_range.least area_range.most a) GoodHead (number-between area_range) (λ a ha.
    bind (count orientations_field) (λ n. give (record { quantity = q; fill = f; priority = r; area = a; orientations = n })) (λ n. (1 ≤ n) × (n ≤ 16)) GoodHead (count_in_range orientations_field) (λ n hn.
    given (record { quantity = q; fill = f; priority = r; area = a; orientations = n }) GoodHead (record { quantity_least = hq.0; quantity_most = hq.1; fill = hf; priority = hr; area = area_in ha; orientations_least = hn.0; orientations_most = hn.1 }))))))

pub kind-good : Gives a_kind GoodKind
unfolding a_kind kind_of
kind-good =
    bind kind_head (λ h. some_orientations h.orientations [] >>= λ os. give (kind_of h os)) GoodHead GoodKind head-good (λ h g.
    bind (some_orientations h.orientations []) (λ os. give (kind_of h os)) (λ l. Every GoodSets l × (length l ≡ 0 + h.orientations)) GoodKind (orientations-good h.orientations [] tt) (λ os s.
    given (kind_of h os) GoodKind (record { quantity_least = g.quantity_least; quantity_most = g.quantity_most; area = g.area; orientations_least = omega (arith, g.orientations_least, s.1); orientations_most = omega (arith, g.orientations_most, s.1); sets = s.0 })))

pub kinds-good : (n : ℕ) (ks : List Kind) → Every GoodKind ks → Gives (some_kinds n ks) (λ l. Every GoodKind l × (length l ≡ length ks + n))
unfolding some_kinds
kinds-good zero ks h = given ks (λ l. Every GoodKind l × (length l ≡ length ks + 0)) (h, omega arith)
kinds-good (suc n) ks h =
    bind a_kind (λ k. some_kinds n (ks ++ (k ∷ []))) GoodKind (λ l. Every GoodKind l × (length l ≡ length ks + suc n)) kind-good (λ k g bytes p l q e.
    let r = kinds-good n (ks ++ (k ∷ [])) (every_append GoodKind ks k h g) bytes p l q e in
    (r.0, r.1 ∙ more (length (ks ++ (k ∷ []))) (length ks) n (length-append ks (k ∷ []))))
  where
    more : (l m n : ℕ) → l ≡ m + 1 → l + n ≡ m + suc n
    more l m n e = omega arith

-- ---- through the tables
pub every_at : {A : Type 0} (P : A → Type 0) (l : List A) (i : ℕ) (d : A) → Every P l → i < length l → P (get_or l i d)
every_at P [] i d h k = absurd (none i k)
  where
    none : (i : ℕ) → i < 0 → ⊥
    none i h = omega arith
every_at P (a ∷ l) zero d h k = h.0
every_at P (a ∷ l) (suc i) d h k = every_at P l i d h.1 (omega arith)

sets_of : (bytes R : List ℕ) (A : List Float) (P : List ℕ) (k : ℕ) → Every GoodSets (kind_at bytes R A P k).orientations → Every GoodSets (orientations_of bytes P k (get_or R (4 * k + 3) 0))
unfolding kind_at kind_with kind_of head_at
sets_of bytes R A P k h = h

turns : (bytes P : List ℕ) (k n : ℕ) → length (orientations_of bytes P k n) ≡ n
unfolding orientations_of
turns bytes P k n = length-tabulate (λ (o : ℕ). orientation_at bytes P (16 * k + o)) n

apart_of : (bytes P : List ℕ) (slot m : ℕ) → Good (orientation_at bytes P slot).apart m → Good (set_at bytes (get_or P (2 * slot) 0)) m
unfolding orientation_at
apart_of bytes P slot m g = g

inset_of : (bytes P : List ℕ) (slot m : ℕ) → Good (orientation_at bytes P slot).inset m → Good (set_at bytes (get_or P (2 * slot + 1) 0)) m
unfolding orientation_at
inset_of bytes P slot m g = g

-- an entry of the table of places leads to an accepted set
module _ (bytes R : List ℕ) (A : List Float) (P : List ℕ) (n k o : ℕ) (g : Every GoodKind (tabulate (kind_at bytes R A P) n)) (l : k < n) (m : o < get_or R (4 * k + 3) 0) where
  pub kind_at_good : GoodKind (kind_at bytes R A P k)
  kind_at_good = subst GoodKind (tabulate_at (kind_at bytes R A P) n k (kind_at bytes R A P k) l) (every_at GoodKind (tabulate (kind_at bytes R A P) n) k (kind_at bytes R A P k) g (subst (λ (x : ℕ). k < x) (sym (length-tabulate (kind_at bytes R A P) n)) l))

  pub slot_good : GoodSets (orientation_at bytes P (16 * k + o))
  slot_good =
      subst GoodSets (orientations_at bytes P k (get_or R (4 * k + 3) 0) o (orientation_at bytes P (16 * k + o)) m)
      (every_at GoodSets (orientations_of bytes P k (get_or R (4 * k + 3) 0)) o (orientation_at bytes P (16 * k + o)) (sets_of bytes R A P k kind_at_good.sets) (subst (λ (x : ℕ). o < x) (sym (turns bytes P k (get_or R (4 * k + 3) 0))) m))

  pub apart-accepted : (q : ℕ) × (a_set bytes (get_or P (2 * (16 * k + o)) 0) ≡ ok (set_at bytes (get_or P (2 * (16 * k + o)) 0)) q)
  apart-accepted = set-accepted bytes (get_or P (2 * (16 * k + o)) 0) slot_good.apart_points (apart_of bytes P (16 * k + o) slot_good.apart_points slot_good.apart)

  pub inset-accepted : (q : ℕ) × (a_set bytes (get_or P (2 * (16 * k + o) + 1) 0) ≡ ok (set_at bytes (get_or P (2 * (16 * k + o) + 1) 0)) q)
  inset-accepted = set-accepted bytes (get_or P (2 * (16 * k + o) + 1) 0) slot_good.inset_points (inset_of bytes P (16 * k + o) slot_good.inset_points slot_good.inset)
