-- What is written reads as it was: kinds, the job. Assumes nothing.
use Rattle.std.specs.Prelude.{Ok}
use mathlib.Core.Path.{◌≡◌, sym, ap, subst, subst⁻¹}
use Prim.Native.Nat.{ℕ, zero, suc, ◌<◌}
use mathlib.Core.Bool.{cond}
use mathlib.Core.List.{List, [], ◌∷◌, ◌++◌, flat_map, append_assoc, append-nil}
use lib.Dec.{ltb, lit<}
use lib.Ieee.{Float, binary64, to_bits}
use Rattle.bits.specs.declared.Refusal.TheVariants.{CountOutOfRange}
use Rattle.bits.specs.Reading.{Reader, ◌>>=◌, give, bits}
use Rattle.bits.specs.Fields.{quantity_field, orientations_field, judge_count, count, area_range, judge_number, number}
use Rattle.kinds.specs.sets.Sets.{Set, a_set}
use Rattle.kinds.specs.declared.KindHead.{KindHead}
use Rattle.kinds.specs.Kinds.{Orientation, Kind, an_orientation, some_orientations, kind_head, kind_of, a_kind, some_kinds, copies_of, head_at}
use Rattle.job.specs.declared.Header.{Header}
use Rattle.job.specs.Jobs.{Job, a_header, a_job}
use Rattle.bit_writer.specs.Packed.{binary}
use Rattle.job_bits.specs.JobBits.{double_bits, header_bits, set_bits, orientation_bits, head_bits, head_of, kind_bits, job_bits}
use Rattle.job_bits.specs.Given as given
use Rattle.job_bits.specs.Given.{given_set, given_orientation, given_orientations, given_head, given_kind, given_kinds, given_header, given_fields}
use Rattle.job_bits.proofs.Takers.{after_ok, ok_value, fits_was, counted_was, measured_was}
use Rattle.job_bits.proofs.Heads.{head-taken, head-back, orientations-length}
use Rattle.job_bits.proofs.Headers.{header_reads}
use Rattle.job_bits.proofs.Parts.{Reads, reads_then, reads_give, reads_same, reads_last, bits_reads, count_reads, number_reads, set_reads}

-- ---- orientations
pub orientation_reads : (cs : List ℕ) (xs : List Float) (c x : ℕ) (o : Orientation) (d y : ℕ) → given_orientation cs xs c x ≡ given.ok o d y → Reads
    an_orientation (orientation_bits o) o
unfolding given_orientation an_orientation orientation_bits
orientation_reads cs xs c x o d y e =
    let p = after_ok (given_set cs xs c x) (λ a c x. given.after (given_set cs xs c x) (λ i c x. given.ok (record { apart = a; inset = i }) c x)) o d y e in
    let q = after_ok (given_set cs xs p.1 p.2) (λ i c x. given.ok (record { apart = p.0; inset = i }) c x) o d y p.4 in
    subst (λ (z : Orientation). Reads (a_set >>= (λ a. a_set >>= (λ i. give (record { apart = a; inset = i })))) (set_bits z.apart ++ set_bits z.inset) z)
    (ok_value q.4)
    (reads_then a_set (λ a. a_set >>= (λ i. give (record { apart = a; inset = i }))) (set_bits p.0) (set_bits q.0) p.0
    (record { apart = p.0; inset = q.0 })
    (set_reads cs xs c x p.0 p.1 p.2 p.3)
    (reads_last a_set (λ i. give (record { apart = p.0; inset = i })) (set_bits q.0) q.0 (record { apart = p.0; inset = q.0 })
    (set_reads cs xs p.1 p.2 q.0 q.1 q.2 q.3) (reads_give (record { apart = p.0; inset = q.0 }))))

pub orientations_reads : (n : ℕ) (cs : List ℕ) (xs : List Float) (c x : ℕ) (os : List Orientation) (d y : ℕ) → given_orientations n cs xs c x ≡ given.ok os d y →
    (acc : List Orientation) → Reads (some_orientations n acc) (flat_map orientation_bits os) (acc ++ os)
unfolding given_orientations some_orientations flat_map
orientations_reads zero cs xs c x os d y e acc =
    subst (λ (l : List Orientation). Reads (give acc) (flat_map orientation_bits l) (acc ++ l)) (ok_value e)
    (subst⁻¹ (λ (l : List Orientation). Reads (give acc) [] l) (append-nil acc) (reads_give acc))
orientations_reads (suc n) cs xs c x os d y e acc =
    let p = after_ok (given_orientation cs xs c x) (λ o c x. given.after (given_orientations n cs xs c x) (λ os c x. given.ok (o ∷ os) c x)) os d y e in
    let q = after_ok (given_orientations n cs xs p.1 p.2) (λ os c x. given.ok (p.0 ∷ os) c x) os d y p.4 in
    let o = p.0 in
    let f : Orientation → Reader (List Orientation) = λ o. some_orientations n (acc ++ (o ∷ [])) in
    subst (λ (l : List Orientation). Reads (an_orientation >>= f) (flat_map orientation_bits l) (acc ++ l)) (ok_value q.4)
    (subst (λ (l : List Orientation). Reads (an_orientation >>= f) (orientation_bits o ++ flat_map orientation_bits q.0) l) (append_assoc acc (o ∷ []) q.0)
    (reads_then an_orientation f (orientation_bits o) (flat_map orientation_bits q.0) o ((acc ++ (o ∷ [])) ++ q.0)
    (orientation_reads cs xs c x o p.1 p.2 p.3) (orientations_reads n cs xs p.1 p.2 q.0 q.1 q.2 q.3 (acc ++ (o ∷ [])))))

-- ---- a kind's fields
abbrev head : ℕ → ℕ → ℕ → Float → ℕ → KindHead
head q f p a n = record { quantity = q; fill = f; priority = p; area = a; orientations = n }

fields_read : (q f r n q₀ n₀ a₀ : ℕ) (a : Float) → judge_count 1 4095 q₀ ≡ Ok q → f < 2 → r < 4294967296 →
    judge_number area_range.least area_range.most a₀ ≡ Ok a → judge_count 1 16 n₀ ≡
    Ok n → Reads kind_head (head_bits (head q f r a n)) (head q f r a n)
unfolding kind_head head_bits
fields_read q f r n q₀ n₀ a₀ a e h i j k =
    reads_then (count quantity_field) (λ q. bits 1 >>= (λ f. bits 32 >>= (λ r. number area_range
    >>= (λ a. count orientations_field >>= (λ n. give (head q f r a n)))))) (binary 12 q) (binary 1 f ++ (binary 32 r ++ (double_bits a ++ binary 5 n))) q
    (head q f r a n) (count_reads quantity_field q₀ q e (lit< tt))
    (reads_then (bits 1) (λ f. bits 32 >>= (λ r. number area_range >>= (λ a. count orientations_field >>= (λ n. give (head q f r a n))))) (binary 1 f)
    (binary 32 r ++ (double_bits a ++ binary 5 n)) f (head q f r a n) (bits_reads 1 f h)
    (reads_then (bits 32) (λ r. number area_range >>= (λ a. count orientations_field >>= (λ n. give (head q f r a n)))) (binary 32 r) (double_bits a ++ binary 5 n)
    r (head q f r a n) (bits_reads 32 r i)
    (reads_then (number area_range) (λ a. count orientations_field >>= (λ n. give (head q f r a n))) (double_bits a) (binary 5 n) a (head q f r a n)
    (number_reads area_range a₀ a j)
    (reads_last (count orientations_field) (λ n. give (head q f r a n)) (binary 5 n) n (head q f r a n) (count_reads orientations_field n₀ n k (lit< tt))
    (reads_give (head q f r a n))))))

pub head_reads : (g h : KindHead) (cs : List ℕ) (xs : List Float) (c x d y : ℕ) → given_head g cs xs c x ≡ given.ok h d y → Reads kind_head (head_bits h) h
unfolding given_head
head_reads g h cs xs c x d y e =
    let r₁ = after_ok (given.counted (judge_count 1 4095 g.quantity) c x) _ h d y e in
    let r₂ = after_ok (cond (ltb g.fill 2) (given.ok tt r₁.1 r₁.2) (given.bad CountOutOfRange)) _ h d y r₁.4 in
    let r₃ = after_ok (cond (ltb g.priority 4294967296) (given.ok tt r₂.1 r₂.2) (given.bad CountOutOfRange)) _ h d y r₂.4 in
    let r₄ = after_ok (given.measured (judge_number area_range.least area_range.most (to_bits binary64 g.area)) r₃.1 r₃.2) _ h d y r₃.4 in
    let r₅ = after_ok (given.counted (judge_count 1 16 g.orientations) r₄.1 r₄.2) _ h d y r₄.4 in
    subst (λ (z : KindHead). Reads kind_head (head_bits z) z) (ok_value r₅.4)
    (fields_read r₁.0 g.fill g.priority r₅.0 g.quantity g.orientations (to_bits binary64 g.area) r₄.0
    (counted_was _ _ _ _ _ _ r₁.3) (fits_was 2 g.fill _ _ _ _ _ r₂.3) (fits_was 4294967296 g.priority _ _ _ _ _ r₃.3)
    (measured_was _ _ _ _ _ _ r₄.3) (counted_was _ _ _ _ _ _ r₅.3))

-- ---- kinds
pub kind_reads : (g : KindHead) (cs : List ℕ) (xs : List Float) (c x : ℕ) (k : Kind) (d y : ℕ) → given_kind g cs xs c x ≡ given.ok k d y → Reads a_kind
    (kind_bits k) k
unfolding given_kind a_kind kind_bits kind_of
kind_reads g cs xs c x k d y e =
    let p = after_ok (given_head g cs xs c x) (λ h c x. given.after (given_orientations h.orientations cs xs c x) (λ os c x. given.ok (kind_of h os) c x)) k d y
    e in
    let q = after_ok (given_orientations p.0.orientations cs xs p.1 p.2) (λ os c x. given.ok (kind_of p.0 os) c x) k d y p.4 in
    let h = p.0 in
    let os = q.0 in
    let T = head-taken g h cs xs c x p.1 p.2 p.3 in
    let f : KindHead → Reader Kind = λ h. some_orientations h.orientations [] >>= (λ os. give (kind_of h os)) in
    subst (λ (z : Kind). Reads (kind_head >>= f) (head_bits (head_of z) ++ flat_map orientation_bits z.orientations) z) (ok_value q.4)
    (reads_same (kind_head >>= f) (head_bits h ++ flat_map orientation_bits os) _ (kind_of h os)
    (ap (λ (z : KindHead). head_bits z ++ flat_map orientation_bits os) (sym (head-back g h os T
    (orientations-length h.orientations cs xs p.1 p.2 os q.1 q.2 q.3))))
    (reads_then kind_head f (head_bits h) (flat_map orientation_bits os) h (kind_of h os) (head_reads g h cs xs c x p.1 p.2 p.3)
    (reads_last (some_orientations h.orientations []) (λ os. give (kind_of h os)) (flat_map orientation_bits os) os (kind_of h os)
    (orientations_reads h.orientations cs xs p.1 p.2 os q.1 q.2 q.3 []) (reads_give (kind_of h os)))))

pub kinds_reads : (rows : List ℕ) (areas : List Float) (n k : ℕ) (cs : List ℕ) (xs : List Float) (c x : ℕ) (ks : List Kind) (d y : ℕ) → given_kinds rows areas n
    k cs xs c x ≡ given.ok ks d y → (acc : List Kind) → Reads (some_kinds n acc) (flat_map kind_bits ks) (acc ++ ks)
unfolding given_kinds some_kinds flat_map
kinds_reads rows areas zero k cs xs c x ks d y e acc =
    subst (λ (l : List Kind). Reads (give acc) (flat_map kind_bits l) (acc ++ l)) (ok_value e)
    (subst⁻¹ (λ (l : List Kind). Reads (give acc) [] l) (append-nil acc) (reads_give acc))
kinds_reads rows areas (suc n) k cs xs c x ks d y e acc =
    let p = after_ok (given_kind (head_at rows areas k) cs xs c x) (λ a c x. given.after (given_kinds rows areas n (suc k) cs xs c x)
    (λ ks c x. given.ok (a ∷ ks) c x)) ks d y e in
    let q = after_ok (given_kinds rows areas n (suc k) cs xs p.1 p.2) (λ ks c x. given.ok (p.0 ∷ ks) c x) ks d y p.4 in
    let a = p.0 in
    let f : Kind → Reader (List Kind) = λ k. some_kinds n (acc ++ (k ∷ [])) in
    subst (λ (l : List Kind). Reads (a_kind >>= f) (flat_map kind_bits l) (acc ++ l)) (ok_value q.4)
    (subst (λ (l : List Kind). Reads (a_kind >>= f) (kind_bits a ++ flat_map kind_bits q.0) l) (append_assoc acc (a ∷ []) q.0)
    (reads_then a_kind f (kind_bits a) (flat_map kind_bits q.0) a ((acc ++ (a ∷ [])) ++ q.0) (kind_reads (head_at rows areas k) cs xs c x a p.1 p.2 p.3)
    (kinds_reads rows areas n (suc k) cs xs p.1 p.2 q.0 q.1 q.2 q.3 (acc ++ (a ∷ [])))))

-- ---- the job
abbrev whole : Header → Set → List Kind → Job
whole h s ks = record { header = h; sheet = s; kinds = ks; copies = copies_of ks }

pub job_reads : (g : Header) (rows : List ℕ) (areas : List Float) (cs : List ℕ) (xs : List Float) (c x : ℕ) (j : Job) (d y : ℕ) → given_fields g rows areas cs xs
    c x ≡ given.ok j d y → Reads a_job (job_bits j) j
unfolding given_fields a_job job_bits
job_reads g rows areas cs xs c x j d y e =
    let p = after_ok (given_header g cs xs c x) (λ h c x. given.after (given_set cs xs c x)
    (λ s c x. given.after (given_kinds rows areas h.kinds 0 cs xs c x) (λ ks c x. given.ok (whole h s ks) c x))) j d y e in
    let q = after_ok (given_set cs xs p.1 p.2) (λ s c x. given.after (given_kinds rows areas p.0.kinds 0 cs xs c x)
    (λ ks c x. given.ok (whole p.0 s ks) c x)) j d y p.4 in
    let r = after_ok (given_kinds rows areas p.0.kinds 0 cs xs q.1 q.2) (λ ks c x. given.ok (whole p.0 q.0 ks) c x) j d y q.4 in
    let h = p.0 in
    let s = q.0 in
    let ks = r.0 in
    subst (λ (z : Job). Reads (a_header >>= (λ h. a_set >>= (λ s. some_kinds h.kinds [] >>= (λ ks. give (whole h s ks)))))
    (header_bits z.header ++ (set_bits z.sheet ++ flat_map kind_bits z.kinds)) z) (ok_value r.4)
    (reads_then a_header (λ h. a_set >>= (λ s. some_kinds h.kinds [] >>= (λ ks. give (whole h s ks)))) (header_bits h) (set_bits s ++ flat_map kind_bits ks) h
    (whole h s ks) (header_reads g h cs xs c x p.1 p.2 p.3)
    (reads_then a_set (λ s. some_kinds h.kinds [] >>= (λ ks. give (whole h s ks))) (set_bits s) (flat_map kind_bits ks) s (whole h s ks)
    (set_reads cs xs p.1 p.2 s q.1 q.2 q.3)
    (reads_last (some_kinds h.kinds []) (λ ks. give (whole h s ks)) (flat_map kind_bits ks) ks (whole h s ks)
    (kinds_reads rows areas h.kinds 0 cs xs q.1 q.2 ks r.1 r.2 r.3 []) (reads_give (whole h s ks)))))
