-- What the code's answers and the tables of a job's kinds say. Definitions only. Assumes nothing.
use Rattle.std.specs.Prelude.{Result, Ok, Err, ℕ, zero, suc, ◌+◌, ◌*◌, ◌≤◌, ◌≡◌, List, [], ◌∷◌, ◌++◌, get_or, Float}
use Rattle.bits.specs.declared.Refusal.{Refusal}
use Rattle.bits.specs.Reading.{Read, ok, bad}
use Rattle.kinds.specs.declared.KindHead.{KindHead}
use Rattle.kinds.specs.Kinds.{Orientation, Kind, head_at, kind_of, copies_of}
use Rattle.kinds.specs.sets.inner.Answers.{set_at}

-- f 0, f 1, .. : n of them
unfoldable pub tabulate : {A : Type 0} → (ℕ → A) → ℕ → List A
tabulate f zero = []
tabulate f (suc n) = tabulate f n ++ (f n ∷ [])

abbrev pub head_read : Result KindHead Refusal → ℕ → Read KindHead
head_read (Ok h) q = ok h q
head_read (Err k) q = bad k

-- slot 16 × kind + orientation: where its apart set begins, then where its inset set begins
unfoldable pub orientation_at : List ℕ → List ℕ → ℕ → Orientation
orientation_at bytes places slot = record { apart = set_at bytes (get_or places (2 * slot) 0); inset = set_at bytes (get_or places (2 * slot + 1) 0) }

-- the n orientations of kind k
unfoldable pub orientations_of : List ℕ → List ℕ → ℕ → ℕ → List Orientation
orientations_of bytes places k n = tabulate (λ (o : ℕ). orientation_at bytes places (16 * k + o)) n

unfoldable pub kind_with : List ℕ → List ℕ → ℕ → KindHead → Kind
kind_with bytes places k h = kind_of h (orientations_of bytes places k h.orientations)

unfoldable pub kind_at : List ℕ → List ℕ → List Float → List ℕ → ℕ → Kind
kind_at bytes rows areas places k = kind_with bytes places k (head_at rows areas k)

-- kind k, with its sets' places in the table
abbrev pub kind_read : Result (KindHead × ℕ) Refusal → List ℕ → List ℕ → ℕ → Read Kind
kind_read (Ok (h, q)) bytes places k = ok (kind_with bytes places k h) q
kind_read (Err r) bytes places k = bad r

-- the first n kinds, in the tables
abbrev pub kinds_read : Result (ℕ × ℕ) Refusal → List ℕ → ℕ → List ℕ → List Float → List ℕ → Read (List Kind)
kinds_read (Ok (c, q)) bytes n rows areas places = ok (tabulate (kind_at bytes rows areas places) n) q
kinds_read (Err r) bytes n rows areas places = bad r

-- ---- how far an answer reaches, for sums that must fit

abbrev pub head_fits : Result KindHead Refusal → Type 0
head_fits (Ok h) = (h.quantity ≤ 4095) × (h.orientations ≤ 16)
head_fits (Err k) = Unit {0}

abbrev pub kind_fits : Result (KindHead × ℕ) Refusal → ℕ → Type 0
kind_fits (Ok (h, q)) most = (h.quantity ≤ 4095) × (h.orientations ≤ 16) × (q ≤ most)
kind_fits (Err k) most = Unit {0}

-- the copies are those of the kinds
abbrev pub kinds_fit : Result (ℕ × ℕ) Refusal → ℕ → List ℕ → ℕ → List ℕ → List Float → List ℕ → Type 0
kinds_fit (Ok (c, q)) most bytes n rows areas places = (c ≡ copies_of (tabulate (kind_at bytes rows areas places) n)) × (q ≤ most)
kinds_fit (Err k) most bytes n rows areas places = Unit {0}
