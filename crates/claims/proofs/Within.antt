-- Every count and every double of an accepted job is within its range. Assumes nothing.
use Prim.Native.Nat.{ℕ, ◌+◌, ◌*◌, ◌≤◌}
use native.Mathlib.Omega.{arith}
use mathlib.Core.Path.{◌≡◌, refl, sym, subst}
use mathlib.Core.Bool.{Bool, true}
use mathlib.Core.List.{List, [], ◌∷◌}
use lib.ListN.{length}
use lib.Dec.{lit≤}
use lib.Ieee.{Float, binary64, neg}
use borrow.Author.Tests.{le-leb}
use Rattle.numbers.specs.Numbers.{from_int, pos_zero}
use Rattle.numbers.proofs.Operations.{neg_fin, neg_key}
use Rattle.numbers.proofs.Ranges.{int_num, zero_num}
use Rattle.numbers.proofs.Literals.{milli}
use Rattle.numbers.proofs.Doubles.{k, o, u, Small, finite}
use Rattle.bits.specs.Fields.{coordinate_range, area_range, resolution_range}
use Rattle.bits.proofs.Accepted.{UpFrom}
use Rattle.kinds.specs.sets.Sets.{Set}
use Rattle.kinds.proofs.sets.Accepted.{Coordinates, Good}
use Rattle.kinds.specs.Kinds.{Orientation, Kind}
use Rattle.kinds.proofs.Accepted.{Every, GoodSets, GoodKind}
use Rattle.job.specs.Jobs.{Job, accepted, read_job}
use Rattle.job.proofs.Accepted.{job_good}
use Rattle.filling.specs.Consistent.{every, resolution_fits}
use Rattle.filling.proofs.WithinBoundsNumbers.{le_of_keys, resolution-fits}
use Rattle.filling.proofs.promises.Doubles.{number_is}
use Rattle.claims.specs.JobNumbers.{double_within, count_within, set_within, orientation_within, kind_within, job_within}

-- ---- doubles

coordinate_within : {x : Float} → Small 100000 x → double_within coordinate_range x ≡ true
unfolding double_within
coordinate_within {x} S =
    let M = int_num binary64 100000 (lit≤ tt) in
    let L = finite M.0 in
    let N = neg_fin binary64 (from_int 100_000) L in
    let X = finite S.num in
    rw (
      number_is x S.num,
      le_of_keys N X (low (k (neg (from_int 100_000))) (k (from_int 100_000)) (k x) (100000 * u) (neg_key binary64 _ L) M.1 S.bound.at_least),
      le_of_keys X L (subst (λ (n : ℕ). k x ≤ n) (sym M.1) S.bound.at_most),
    )
  where
    low : (n l x m : ℕ) → n + l ≡ o + o → l ≡ o + m → o ≤ x + m → n ≤ x
    low n l x m a b c = omega arith

area-within : {x : Float} → UpFrom pos_zero 1000000000000 x → double_within area_range x ≡ true
unfolding double_within
area-within {x} R =
    let M = int_num binary64 1000000000000 (lit≤ tt) in
    let X = finite R.num in
    rw (
      number_is x R.num,
      le_of_keys (finite (zero_num binary64)) X R.low,
      le_of_keys X (finite M.0) (subst (λ (n : ℕ). k x ≤ n) (sym M.1) R.high.at_most),
    )

resolution-within : {x : Float} → UpFrom milli 10000 x → double_within resolution_range x ≡ true
unfolding double_within resolution_fits
resolution-within {x} R = rw (number_is x R.num) (resolution-fits R)

points-within : (xs : List Float) → Coordinates xs → every (double_within coordinate_range) xs ≡ true
unfolding every
points-within [] h = refl
points-within (x ∷ xs) h = rw (coordinate_within h.0, points-within xs h.1)

-- ---- counts, sets, kinds

count-within : (least most n : ℕ) → least ≤ n → n ≤ most → count_within least most n ≡ true
unfolding count_within
count-within least most n a b = rw (le-leb least n a, le-leb n most b)

every_is : {A : Type 0} (P : A → Type 0) (test : A → Bool) → ((a : A) → P a → test a ≡ true) → (l : List A) → Every P l → every test l ≡ true
unfolding every
every_is P test f [] h = refl
every_is P test f (a ∷ l) h = rw (f a h.0, every_is P test f l h.1)

set-within : (s : Set) (n : ℕ) → Good s n → set_within s ≡ true
unfolding set_within
set-within s n g =
    let a = g.points in
    let b = g.few in
    rw (
      count-within 1 64 (length s.ends) g.some g.loops,
      le-leb (length s.points) 1024 (omega (arith, a, b)),
      points-within s.points g.coordinates,
    )

orientation-within : (a : Orientation) → GoodSets a → orientation_within a ≡ true
unfolding orientation_within
orientation-within a g = rw (set-within a.apart g.apart_points g.apart, set-within a.inset g.inset_points g.inset)

kind-within : (a : Kind) → GoodKind a → kind_within a ≡ true
unfolding kind_within
kind-within a g =
    rw (
      count-within 1 4095 a.quantity g.quantity_least g.quantity_most,
      area-within g.area,
      count-within 1 16 (length a.orientations) g.orientations_least g.orientations_most,
      every_is GoodSets orientation_within orientation-within a.orientations g.sets,
    )

pub job-within : (bytes : List ℕ) (j : Job) → read_job bytes ≡ accepted j → job_within j ≡ true
unfolding job_within
job-within bytes j e =
    let r = job_good bytes j e in
    let g = r.good in
    rw (
      resolution-within g.header.resolution,
      subst (λ (n : ℕ). count_within 1 64 n ≡ true) (sym g.number) (count-within 1 64 j.header.kinds g.header.kinds_least g.header.kinds_most),
      le-leb j.copies 4096 r.copies,
      set-within j.sheet g.sheet_points g.sheet,
      every_is GoodKind kind_within kind-within j.kinds g.kinds,
    )
