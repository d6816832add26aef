-- The bits of a job's fields are the job's bits. Assumes nothing.
use mathlib.Core.Path.{◌≡◌, refl, ap, ap₂, ◌∙◌}
use Prim.Native.Nat.{ℕ, ◌-◌, ◌*◌}
use mathlib.Core.List.{List, [], ◌∷◌, ◌++◌, map, flat_map, append-nil}
use lib.ListN.{length, take, drop}
use lib.Dec.{eqb}
use mathlib.Core.Bool.{Bool, true, false, cond}
use lib.Ieee.{Float}
use Rattle.job.specs.declared.Header.{Header}
use Rattle.kinds.specs.declared.KindHead.{KindHead}
use Rattle.kinds.specs.sets.Sets.{Set}
use Rattle.kinds.specs.Kinds.{Orientation, Kind}
use Rattle.job.specs.Jobs.{Job}
use Rattle.bit_writer.specs.Packed.{binary}
use Rattle.job_bits.specs.JobBits.{double_bits, frame_bits, version_bits, front_bits, header_bits, loops_bits, set_bits, orientation_bits, head_bits, head_of, kind_bits, job_bits}
use Rattle.job_bits.specs.JobFields.{Field, whole, field_bits, double_field, version_fields, front_fields, header_fields, loops_fields, set_fields, orientation_fields, head_fields, kind_fields, job_fields}
use Rattle.job_bits.proofs.Coming.{flat_append}

doubles_same : (xs : List Float) → flat_map field_bits (map double_field xs) ≡ flat_map double_bits xs
unfolding flat_map double_bits
doubles_same [] = refl
doubles_same (x ∷ xs) = ap (λ (l : List ℕ). double_bits x ++ l) (doubles_same xs)

loops_same : (before : ℕ) (es : List ℕ) (xs : List Float) → flat_map field_bits (loops_fields before es xs) ≡ loops_bits before es xs
unfolding loops_fields loops_bits flat_map
loops_same before [] xs = refl
loops_same before (e ∷ es) xs =
    ap (λ (l : List ℕ). binary 10 (e - before) ++ l)
    (flat_append field_bits (map double_field (take (2 * (e - before)) xs)) (loops_fields e es (drop (2 * (e - before)) xs))
    ∙ ap₂ ◌++◌ (doubles_same (take (2 * (e - before)) xs)) (loops_same e es (drop (2 * (e - before)) xs)))

set_same : (s : Set) → flat_map field_bits (set_fields s) ≡ set_bits s
unfolding set_fields set_bits flat_map
set_same s = ap (λ (l : List ℕ). binary 7 (length s.ends) ++ l) (loops_same 0 s.ends s.points)

orientation-same : (o : Orientation) → flat_map field_bits (orientation_fields o) ≡ orientation_bits o
unfolding orientation_fields orientation_bits
orientation-same o = flat_append field_bits (set_fields o.apart) (set_fields o.inset) ∙ ap₂ ◌++◌ (set_same o.apart) (set_same o.inset)

each_same : {A : Type 0} (f : A → List Field) (g : A → List ℕ) → ((a : A) → flat_map field_bits (f a) ≡ g a) → (l : List A) → flat_map field_bits (flat_map f l) ≡
    flat_map g l
unfolding flat_map
each_same f g S [] = refl
each_same f g S (a ∷ l) = flat_append field_bits (f a) (flat_map f l) ∙ ap₂ ◌++◌ (S a) (each_same f g S l)

head-same : (h : KindHead) → flat_map field_bits (head_fields h) ≡ head_bits h
unfolding head_fields head_bits flat_map double_bits
head-same h = ap (λ (l : List ℕ). binary 12 h.quantity ++ (binary 1 h.fill ++ (binary 32 h.priority ++ (double_bits h.area ++ l))))
    (append-nil (binary 5 h.orientations))

kind-same : (k : Kind) → flat_map field_bits (kind_fields k) ≡ kind_bits k
unfolding kind_fields kind_bits
kind-same k = flat_append field_bits (head_fields (head_of k)) (flat_map orientation_fields k.orientations) ∙ ap₂ ◌++◌ (head-same (head_of k))
    (each_same orientation_fields orientation_bits orientation-same k.orientations)

version-same : (h : Header) → flat_map field_bits (version_fields h) ≡ version_bits h
unfolding version_fields version_bits frame_bits flat_map
version-same h = ap (λ (l : List ℕ). binary 4 h.version ++ l) (go (eqb h.version 1))
  where
    go : (b : Bool) → flat_map field_bits (cond b [] (whole 2 h.corner ∷ whole 1 h.axis ∷ [])) ≡ cond b [] (binary 2 h.corner ++ binary 1 h.axis)
    go true = refl
    go false = ap (λ (l : List ℕ). binary 2 h.corner ++ l) (append-nil (binary 1 h.axis))

front_same : (h : Header) → flat_map field_bits (front_fields h) ≡ front_bits h
unfolding front_fields front_bits flat_map double_bits
front_same h = ap (λ (l : List ℕ). binary 7 h.kinds ++ (binary 12 h.rounds ++ (binary 64 h.seed ++ l))) (append-nil (double_bits h.resolution))

header-same : (h : Header) → flat_map field_bits (header_fields h) ≡ header_bits h
unfolding header_fields header_bits
header-same h = flat_append field_bits (version_fields h) (front_fields h) ∙ ap₂ ◌++◌ (version-same h) (front_same h)

pub job-same : (j : Job) → flat_map field_bits (job_fields j) ≡ job_bits j
unfolding job_fields job_bits
job-same j =
    flat_append field_bits (header_fields j.header) (set_fields j.sheet ++ flat_map kind_fields j.kinds)
    ∙ ap₂ ◌++◌ (header-same j.header) (flat_append field_bits (set_fields j.sheet) (flat_map kind_fields j.kinds) ∙ ap₂ ◌++◌ (set_same j.sheet)
    (each_same kind_fields kind_bits kind-same j.kinds))
