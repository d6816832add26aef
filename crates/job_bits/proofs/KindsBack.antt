-- W9: accepted bytes, read and written: orientations, kinds, the job. Assumes nothing.
use Rattle.std.specs.Prelude.{Ok, Err}
use mathlib.Core.Path.{◌≡◌, refl, sym, ap, subst, subst⁻¹, ◌∙◌}
use Prim.Native.Nat.{ℕ, zero, suc, ◌+◌, ◌*◌, ◌≤◌, ◌<◌}
use native.Mathlib.Omega.{arith}
use native.Mathlib.Numerals.{add-one}
use mathlib.Core.Bool.{Bool, true, false, ◌&&◌, cond}
use mathlib.Core.List.{List, [], ◌∷◌, ◌++◌, flat_map, append_assoc, append-nil}
use lib.ListN.{length}
use lib.Dec.{leb}
use borrow.Author.Tests.{leb-true}
use lib.Ieee.{Float, nan, binary64, to_bits}
use Rattle.numbers.proofs.Truth.{zero-not-one}
use Rattle.bits.specs.declared.Refusal.{Refusal}
use Rattle.bits.specs.Reading.{ok, after, bits}
use Rattle.bits.specs.Fields.{quantity_field, orientations_field, judge_count, count, area_range, judge_number, number}
use Rattle.bits.proofs.Accepted.{ok_same, after_ok, bits_less, ok_place}
use Rattle.kinds.specs.sets.Sets.{Set, a_set}
use Rattle.kinds.specs.declared.KindHead.{KindHead}
use Rattle.kinds.specs.Kinds.{Orientation, Kind, an_orientation, some_orientations, kind_head, kind_of, a_kind, some_kinds, copies_of, head_at}
use Rattle.job.specs.declared.Header.{Header}
use Rattle.job.specs.Jobs.{Job, a_header, a_job}
use Rattle.job_bits.specs.JobBits.{head_of}
use Rattle.job_bits.specs.Given as given
use Rattle.job_bits.specs.Given.{Taker, given_set, given_orientation, given_orientations, given_head, given_kind, given_kinds, given_header, given_fields}
use Rattle.job_bits.proofs.Heads.{Taken-head, head-back}
use Rattle.job_bits.proofs.HeaderBack.{header-back}
use Rattle.job_bits.specs.JobFields.{header_fields, set_fields, orientation_fields, head_fields, kind_fields, job_fields}
use Rattle.job_bits.specs.JobTables.{set_counts, orientation_counts, orientation_points, kind_counts, kind_points, counts_of, coordinates_of, rows_of, areas_of}
use Rattle.job_bits.proofs.Reading.{At, at_second, at_head}
use Rattle.job_bits.proofs.Coming.{Came, came_none, came_then, came_room, whole_came, double_came, count_came}
use Rattle.job_bits.proofs.Returning.{Takes, takes_then, takes_give, takes_last, count_takes, fits_takes, number_takes, set_back}

-- ---- orientations
orientation-back : (b : List ℕ) (p : ℕ) (o : Orientation) (q : ℕ) → an_orientation b p ≡ ok o q → Came b p q (orientation_fields o) × Takes given_orientation
    (orientation_counts o) (orientation_points o) o
unfolding an_orientation given_orientation orientation_fields orientation_counts orientation_points
orientation-back b p o q e =
    let t = after_ok (a_set b p) (λ a r. after (a_set b r) (λ i k. ok (record { apart = a; inset = i }) k)) o q e in
    let u = after_ok (a_set b t.1) (λ i k. ok (record { apart = t.0; inset = i }) k) o q t.3 in
    let A = set_back b p t.0 t.1 t.2 in
    let I = set_back b t.1 u.0 u.1 u.2 in
    let w : Orientation = record { apart = t.0; inset = u.0 } in
    subst (λ (z : Orientation). Came b p q (set_fields z.apart ++ set_fields z.inset) × Takes
    (given.◌>>=◌ given_set (λ a. given.◌>>=◌ given_set (λ i. given.give (record { apart = a; inset = i })))) (set_counts z.apart ++ set_counts z.inset)
    (z.apart.points ++ z.inset.points) z) (ok_same u.3) (
      subst (λ (k : ℕ). Came b p k (set_fields t.0 ++ set_fields u.0)) (ok_place u.3) (came_then b p t.1 u.1 _ _ A.0 I.0),
      takes_then given_set (λ a. given.◌>>=◌ given_set (λ i. given.give (record { apart = a; inset = i }))) (set_counts t.0) (set_counts u.0) t.0.points
          u.0.points t.0 w A.1
          (takes_last given_set (λ i. given.give (record { apart = t.0; inset = i })) (set_counts u.0) u.0.points u.0 w I.1 (takes_give w)),
    )

record OrientationsBack (b : List ℕ) (p q n : ℕ) (acc os : List Orientation) : Type 0 where
  own : List Orientation
  all : os ≡ acc ++ own
  came : Came b p q (flat_map orientation_fields own)
  takes : Takes (given_orientations n) (flat_map orientation_counts own) (flat_map orientation_points own) own
  number : length own ≡ n

orientations_more : (n : ℕ) (acc os : List Orientation) (b : List ℕ) (p r q : ℕ) (o : Orientation) → Came b p r (orientation_fields o) → Takes given_orientation
    (orientation_counts o) (orientation_points o) o → OrientationsBack b r q n (acc ++ (o ∷ [])) os → OrientationsBack b p q (suc n) acc os
unfolding given_orientations flat_map
orientations_more n acc os b p r q o C T R =
    record {
      own = o ∷ R.own;
      all = R.all ∙ append_assoc acc (o ∷ []) R.own;
      came = came_then b p r q (orientation_fields o) (flat_map orientation_fields R.own) C R.came;
      takes =
          takes_then given_orientation (λ o. given.◌>>=◌ (given_orientations n) (λ os. given.give (o ∷ os))) (orientation_counts o)
          (flat_map orientation_counts R.own) (orientation_points o) (flat_map orientation_points R.own) o (o ∷ R.own) T
          (takes_last (given_orientations n) (λ os. given.give (o ∷ os)) (flat_map orientation_counts R.own) (flat_map orientation_points R.own) R.own
          (o ∷ R.own) R.takes (takes_give (o ∷ R.own)));
      number = ap suc R.number;
    }

orientations-back : (n : ℕ) (acc : List Orientation) (b : List ℕ) (p : ℕ) (os : List Orientation) (q : ℕ) → p ≤ 8 * length b → some_orientations n acc b p ≡ ok
    os q → OrientationsBack b p q n acc os
unfolding some_orientations given_orientations flat_map
orientations-back zero acc b p os q h e =
    record {
      own = [];
      all = sym (ok_same e) ∙ sym (append-nil acc);
      came = subst (λ (k : ℕ). Came b p k []) (ok_place e) (came_none b p h);
      takes = takes_give
          [];
      number = refl;
    }
orientations-back (suc n) acc b p os q h e =
    let t = after_ok (an_orientation b p) (λ o r. some_orientations n (acc ++ (o ∷ [])) b r) os q e in
    let O = orientation-back b p t.0 t.1 t.2 in
    orientations_more n acc os b p t.1 q t.0 O.0 O.1 (orientations-back n (acc ++ (t.0 ∷ [])) b t.1 os q (came_room b p t.1 _ O.0) t.3)

-- ---- a kind's fields
abbrev head : ℕ → ℕ → ℕ → Float → ℕ → KindHead
head q f p a n = record { quantity = q; fill = f; priority = p; area = a; orientations = n }

abbrev Heads : List ℕ → ℕ → ℕ → KindHead → Type 0
Heads b p q h = Came b p q (head_fields h) × Takes (given_head h) [] [] h × Taken-head h h

few : (least most n : ℕ) → judge_count least most n ≡ Ok n → n ≤ most
unfolding judge_count
few least most n e = go (leb least n) (leb n most) (leb-true n most) e
  where
    go : (a b : Bool) → (b ≡ true → n ≤ most) → cond (a && b) (Ok n) (Err Rattle.bits.specs.declared.Refusal.TheVariants.CountOutOfRange) ≡ Ok n → n
        ≤ most
    go true true f e = f refl
    go true false f e = absurd (zero-not-one (cc))
    go false b f e = absurd (zero-not-one (cc))

head_takes : (q f r n : ℕ) (a : Float) → judge_count 1 4095 q ≡ Ok q → f < 2 → r < 4294967296 → judge_number area_range.least area_range.most
    (to_bits binary64 a) ≡ Ok a → judge_count 1 16 n ≡ Ok n → Takes (given_head (head q f r a n)) [] []
    (head q f r a n)
unfolding given_head
head_takes q f r n a e h i j k =
    takes_then (given.count quantity_field q) (λ q'. given.◌>>=◌ (given.fits 1 f)
    (λ u. given.◌>>=◌ (given.fits 32 r) (λ v. given.◌>>=◌ (given.number area_range a)
    (λ a'. given.◌>>=◌ (given.count orientations_field n) (λ n'. given.give (head q' f r a' n')))))) [] [] [] [] q (head q f r a n)
    (count_takes quantity_field q e)
    (takes_then (given.fits 1 f) (λ u. given.◌>>=◌ (given.fits 32 r) (λ v. given.◌>>=◌ (given.number area_range a)
    (λ a'. given.◌>>=◌ (given.count orientations_field n) (λ n'. given.give (head q f r a' n'))))) [] [] [] [] tt (head q f r a n) (fits_takes 1 f h)
    (takes_then (given.fits 32 r) (λ v. given.◌>>=◌ (given.number area_range a) (λ a'. given.◌>>=◌ (given.count orientations_field n)
    (λ n'. given.give (head q f r a' n')))) [] [] [] [] tt (head q f r a n) (fits_takes 32 r i)
    (takes_then (given.number area_range a) (λ a'. given.◌>>=◌ (given.count orientations_field n) (λ n'. given.give (head q f r a' n'))) [] [] [] [] a
    (head q f r a n) (number_takes area_range a j)
    (takes_then (given.count orientations_field n) (λ n'. given.give (head q f r a n')) [] [] [] [] n (head q f r a n) (count_takes orientations_field n k)
    (takes_give (head q f r a n))))))

head_came : (b : List ℕ) (p : ℕ) (h : KindHead) (q : ℕ) → kind_head b p ≡ ok h q → Heads b p q h
unfolding kind_head head_fields
head_came b p h q e =
    let r₁ = after_ok (count quantity_field b p) _ h q e in
    let r₂ = after_ok (bits 1 b r₁.1) _ h q r₁.3 in
    let r₃ = after_ok (bits 32 b r₂.1) _ h q r₂.3 in
    let r₄ = after_ok (number area_range b r₃.1) _ h q r₃.3 in
    let r₅ = after_ok (count orientations_field b r₄.1) _ h q r₄.3 in
    let C₁ = count_came quantity_field b p r₁.0 r₁.1 r₁.2 in
    let C₂ = whole_came b 1 r₁.1 r₂.0 r₂.1 r₂.2 in
    let C₃ = whole_came b 32 r₂.1 r₃.0 r₃.1 r₃.2 in
    let C₄ = double_came area_range b r₃.1 r₄.0 r₄.1 r₄.2 in
    let C₅ = count_came orientations_field b r₄.1 r₅.0 r₅.1 r₅.2 in
    let f = bits_less 1 b r₁.1 r₂.0 r₂.1 r₂.2 in
    let r = bits_less 32 b r₂.1 r₃.0 r₃.1 r₃.2 in
    subst (Heads b p q) (ok_same r₅.3) (
      subst (λ (k : ℕ). Came b p k (head_fields (head r₁.0 r₂.0 r₃.0 r₄.0 r₅.0))) (ok_place r₅.3)
          (came_then b p r₁.1 r₅.1 _ _ C₁.0 (came_then b r₁.1 r₂.1 r₅.1 _ _ C₂
          (came_then b r₂.1 r₃.1 r₅.1 _ _ C₃ (came_then b r₃.1 r₄.1 r₅.1 _ _ C₄.0 C₅.0)))),
      head_takes r₁.0 r₂.0 r₃.0 r₅.0 r₄.0 C₁.1 f r C₄.1 C₅.1,
      record { fill = f; priority = r; orientations = refl; quantity = refl; few = few 1 16 r₅.0 C₅.1; some = few 1 4095 r₁.0 C₁.1 },
    )

-- ---- kinds
kind-back : (b : List ℕ) (p : ℕ) (k : Kind) (q : ℕ) → a_kind b p ≡ ok k q → Came b p q (kind_fields k) × Takes (given_kind (head_of k)) (kind_counts k)
    (kind_points k) k
unfolding a_kind given_kind kind_fields kind_counts kind_points kind_of
kind-back b p k q e =
    let t = after_ok (kind_head b p) (λ h r. after (some_orientations h.orientations [] b r) (λ os j. ok (kind_of h os) j)) k q e in
    let u = after_ok (some_orientations t.0.orientations [] b t.1) (λ os j. ok (kind_of t.0 os) j) k q t.3 in
    let H = head_came b p t.0 t.1 t.2 in
    let O = orientations-back t.0.orientations [] b t.1 u.0 u.1 (came_room b p t.1 _ H.0) u.2 in
    let s : head_of (kind_of t.0 O.own) ≡ t.0 = head-back t.0 t.0 O.own H.2 O.number in
    let w : kind_of t.0 O.own ≡ k = ap (kind_of t.0) (sym O.all) ∙ ok_same u.3 in
    let f : KindHead → Taker Kind = λ h. given.◌>>=◌ (given_orientations h.orientations) (λ os. given.give (kind_of h os)) in
    subst (λ (z : Kind). Came b p q (head_fields (head_of z) ++ flat_map orientation_fields z.orientations) × Takes (given.◌>>=◌ (given_head (head_of z)) f)
    (flat_map orientation_counts z.orientations) (flat_map orientation_points z.orientations) z) w (
      subst⁻¹ (λ (z : KindHead). Came b p q (head_fields z ++ flat_map orientation_fields O.own)) s
          (subst (λ (j : ℕ). Came b p j (head_fields t.0 ++ flat_map orientation_fields O.own)) (ok_place u.3)
          (came_then b p t.1 u.1 _ _ H.0 O.came)),
      subst⁻¹ (λ (z : KindHead). Takes (given.◌>>=◌ (given_head z) f) (flat_map orientation_counts O.own) (flat_map orientation_points O.own)
          (kind_of t.0 O.own)) s
          (takes_then (given_head t.0) f [] (flat_map orientation_counts O.own) [] (flat_map orientation_points O.own) t.0 (kind_of t.0 O.own)
          H.1
          (takes_last (given_orientations t.0.orientations) (λ os. given.give (kind_of t.0 os)) (flat_map orientation_counts O.own)
          (flat_map orientation_points O.own) O.own (kind_of t.0 O.own) O.takes (takes_give (kind_of t.0 O.own)))),
    )

-- the rows and areas of kinds, from kind k on
record Tabled (rows : List ℕ) (areas : List Float) (k : ℕ) (ks : List Kind) : Type 0 where
  in_rows : At rows (4 * k) (rows_of ks)
  in_areas : At areas k (areas_of ks)

head-there : (rows : List ℕ) (areas : List Float) (k : ℕ) (a : Kind) (ks : List Kind) → Tabled rows areas k (a ∷ ks) → head_at rows areas k ≡ head_of a
unfolding head_at head_of rows_of areas_of
head-there rows areas k a ks T =
    let h = head_of a in
    let rest = h.orientations ∷ rows_of ks in
    let R = T.in_rows in
    let R₁ = at_second rows (4 * k) 1 (h.quantity ∷ []) (h.fill ∷ h.priority ∷ rest) refl R in
    let R₂ = at_second rows (4 * k) 2 (h.quantity ∷ h.fill ∷ []) (h.priority ∷ rest) refl R in
    let R₃ = at_second rows (4 * k) 3 (h.quantity ∷ h.fill ∷ h.priority ∷ []) rest refl R in
    let e₁ = at_head rows (4 * k) h.quantity 0 _ R in
    let e₂ = at_head rows (4 * k + 1) h.fill 0 _ R₁ in
    let e₃ = at_head rows (4 * k + 2) h.priority 0 _ R₂ in
    let e₄ = at_head rows (4 * k + 3) h.orientations 0 _ R₃ in
    let e₅ = at_head areas k a.area nan _ T.in_areas in
    λ i. record { quantity = e₁ i; fill = e₂ i; priority = e₃ i; area = e₅ i; orientations = e₄ i }

tabled-next : (rows : List ℕ) (areas : List Float) (k : ℕ) (a : Kind) (ks : List Kind) → Tabled rows areas k (a ∷ ks) → Tabled rows areas (suc k) ks
unfolding rows_of areas_of
tabled-next rows areas k a ks T =
    let h = head_of a in
    let e : 4 * k + 4 ≡ 4 * suc k = omega arith in
    record {
      in_rows = subst (λ (n : ℕ). At rows n (rows_of ks)) e (at_second rows (4 * k) 4 (h.quantity ∷ h.fill ∷ h.priority ∷ h.orientations ∷ []) (rows_of ks)
          refl T.in_rows);
      in_areas = subst (λ (n : ℕ). At areas n (areas_of ks)) (add-one k) (at_second areas k 1 (a.area ∷ []) (areas_of ks) refl T.in_areas);
    }

record KindsBack (b : List ℕ) (p q n : ℕ) (acc ks : List Kind) : Type 0 where
  own : List Kind
  all : ks ≡ acc ++ own
  came : Came b p q (flat_map kind_fields own)
  takes : (rows : List ℕ) (areas : List Float) (k : ℕ) → Tabled rows areas k own → Takes (given_kinds rows areas n k) (flat_map kind_counts own)
      (flat_map kind_points own) own

kinds_more : (n : ℕ) (acc ks : List Kind) (b : List ℕ) (p r q : ℕ) (a : Kind) → Came b p r (kind_fields a) → Takes (given_kind (head_of a)) (kind_counts a)
    (kind_points a) a → KindsBack b r q n (acc ++ (a ∷ [])) ks → KindsBack b p q (suc n) acc ks
unfolding given_kinds flat_map
kinds_more n acc ks b p r q a C T R =
    record {
      own = a ∷ R.own;
      all = R.all ∙ append_assoc acc (a ∷ []) R.own;
      came = came_then b p r q (kind_fields a) (flat_map kind_fields R.own) C R.came;
      takes =
          λ rows areas k U.
          takes_then (given_kind (head_at rows areas k)) (λ a. given.◌>>=◌ (given_kinds rows areas n (suc k)) (λ ks. given.give (a ∷ ks))) (kind_counts a)
          (flat_map kind_counts R.own) (kind_points a) (flat_map kind_points R.own) a (a ∷ R.own)
          (subst⁻¹ (λ (h : KindHead). Takes (given_kind h) (kind_counts a) (kind_points a) a) (head-there rows areas k a R.own U) T)
          (takes_last (given_kinds rows areas n (suc k)) (λ ks. given.give (a ∷ ks)) (flat_map kind_counts R.own) (flat_map kind_points R.own) R.own
          (a ∷ R.own) (R.takes rows areas (suc k) (tabled-next rows areas k a R.own U)) (takes_give (a ∷ R.own)));
    }

kinds-back : (n : ℕ) (acc : List Kind) (b : List ℕ) (p : ℕ) (ks : List Kind) (q : ℕ) → p ≤ 8 * length b → some_kinds n acc b p ≡ ok ks q → KindsBack b p q n acc
    ks
unfolding some_kinds given_kinds flat_map
kinds-back zero acc b p ks q h e =
    record {
      own = [];
      all = sym (ok_same e) ∙ sym (append-nil acc);
      came = subst (λ (k : ℕ). Came b p k []) (ok_place e) (came_none b p h);
      takes = λ rows areas
          k U. takes_give [];
    }
kinds-back (suc n) acc b p ks q h e =
    let t = after_ok (a_kind b p) (λ a r. some_kinds n (acc ++ (a ∷ [])) b r) ks q e in
    let K = kind-back b p t.0 t.1 t.2 in
    kinds_more n acc ks b p t.1 q t.0 K.0 K.1 (kinds-back n (acc ++ (t.0 ∷ [])) b t.1 ks q (came_room b p t.1 _ K.0) t.3)

-- ---- the job
abbrev job : Header → Set → List Kind → Job
job h s ks = record { header = h; sheet = s; kinds = ks; copies = copies_of ks }

-- the fields came, and the job's own tables are taken by the writer, whatever stands behind them
abbrev pub Jobs : List ℕ → ℕ → ℕ → Job → Type 0
Jobs b p q j =
    Came b p q (job_fields j)
    × ((rows : List ℕ) (areas : List Float) → At rows 0 (rows_of j.kinds) → At areas 0 (areas_of j.kinds)
    → Takes (given_fields j.header rows areas) (counts_of j) (coordinates_of j) j)

fields_take : (h : Header) (s : Set) (ks : List Kind) (rows : List ℕ) (areas : List Float) → Takes (given_header h) [] [] h
    → Takes given_set (set_counts s) s.points s → Takes (given_kinds rows areas h.kinds 0) (flat_map kind_counts ks) (flat_map kind_points ks) ks
    → Takes (given_fields h rows areas) (counts_of (job h s ks)) (coordinates_of (job h s ks)) (job h s ks)
unfolding given_fields counts_of coordinates_of
fields_take h s ks rows areas H S K =
    takes_then (given_header h) (λ h. given.◌>>=◌ given_set (λ s. given.◌>>=◌ (given_kinds rows areas h.kinds 0) (λ l. given.give (job h s l))))
    [] (set_counts s ++ flat_map kind_counts ks) [] (s.points ++ flat_map kind_points ks) h (job h s ks) H
    (takes_then given_set (λ s. given.◌>>=◌ (given_kinds rows areas h.kinds 0) (λ l. given.give (job h s l))) (set_counts s)
    (flat_map kind_counts ks) s.points (flat_map kind_points ks) s (job h s ks) S
    (takes_last (given_kinds rows areas h.kinds 0) (λ l. given.give (job h s l)) (flat_map kind_counts ks) (flat_map kind_points ks) ks (job h s ks)
    K (takes_give (job h s ks))))

pub job_came : (b : List ℕ) (j : Job) (q : ℕ) → a_job b 0 ≡ ok j q → Jobs b 0 q j
unfolding a_job job_fields
job_came b j q e =
    let t = after_ok (a_header b 0) (λ h r. after (a_set b r) (λ s i. after (some_kinds h.kinds [] b i) (λ ks k. ok (job h s ks) k))) j q e in
    let u = after_ok (a_set b t.1) (λ s i. after (some_kinds t.0.kinds [] b i) (λ ks k. ok (job t.0 s ks) k)) j q t.3 in
    let v = after_ok (some_kinds t.0.kinds [] b u.1) (λ ks k. ok (job t.0 u.0 ks) k) j q u.3 in
    let H = header-back b 0 t.0 t.1 t.2 in
    let S = set_back b t.1 u.0 u.1 u.2 in
    let K = kinds-back t.0.kinds [] b u.1 v.0 v.1 (came_room b t.1 u.1 _ S.0) v.2 in
    let ks = K.own in
    let w : job t.0 u.0 ks ≡ j = ap (job t.0 u.0) (sym K.all) ∙ ok_same v.3 in
    subst (Jobs b 0 q) w (
      subst (λ (k : ℕ). Came b 0 k (header_fields t.0 ++ (set_fields u.0 ++ flat_map kind_fields ks))) (ok_place v.3)
          (came_then b 0 t.1 v.1 _ _ H.0 (came_then b t.1 u.1 v.1 _ _ S.0 K.came)),
      λ rows areas R A. fields_take t.0 u.0 ks rows areas H.1 S.1 (K.takes rows areas 0 (record { in_rows = R; in_areas = A })),
    )
