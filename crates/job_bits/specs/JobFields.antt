-- Document 02, W9, "identical but for that": a job as a list of fields, which of them are doubles, and what becomes of a minus zero. Definitions only.
-- Assumes nothing.
use Rattle.std.specs.Prelude.{ℕ, ◌-◌, ◌*◌, cond, length, take, drop, eqb, Float}
use mathlib.Core.List.{List, [], ◌∷◌, ◌++◌, map, flat_map}
use Rattle.std.specs.Float.{binary64}
use Rattle.std.specs.Float.Ieee.{eq, of_bits, to_bits}
use Rattle.numbers.specs.Numbers.{pos_zero}
use Rattle.job.specs.declared.Header.{Header}
use Rattle.kinds.specs.declared.KindHead.{KindHead}
use Rattle.kinds.specs.sets.Sets.{Set}
use Rattle.kinds.specs.Kinds.{Orientation, Kind}
use Rattle.job.specs.Jobs.{Job}
use Rattle.bit_writer.specs.Packed.{binary}
use Rattle.job_bits.specs.JobBits.{head_of}

-- a field: a number of so many bits, or a double by its bits
pub data Field : Type 0 where
  whole : ℕ → ℕ → Field
  double : ℕ → Field

abbrev pub field_bits : Field → List ℕ
field_bits (whole w n) = binary w n
field_bits (double n) = binary 64 n

-- "Minus zero counts as plus zero and is written so.": a zero has the bits 0, every other double its own
abbrev pub plus : Field → Field
plus (whole w n) = whole w n
plus (double n) = double (cond (eq (of_bits binary64 n) pos_zero) 0 n)

abbrev pub double_field : Float → Field
double_field x = double (to_bits binary64 x)

-- the fields in the order of document 01, "The job's bits"
unfoldable pub version_fields : Header → List Field
version_fields h = whole 4 h.version ∷ cond (eqb h.version 1) [] (whole 2 h.corner ∷ whole 1 h.axis ∷ [])

unfoldable pub front_fields : Header → List Field
front_fields h = whole 7 h.kinds ∷ whole 12 h.rounds ∷ whole 64 h.seed ∷ double_field h.resolution ∷ []

unfoldable pub header_fields : Header → List Field
header_fields h = version_fields h ++ front_fields h

unfoldable pub loops_fields : ℕ → List ℕ → List Float → List Field
loops_fields before [] xs = []
loops_fields before (e ∷ es) xs =
    whole 10 (e - before) ∷ (map double_field (take (2 * (e - before)) xs) ++ loops_fields e es (drop (2 * (e - before)) xs))

unfoldable pub set_fields : Set → List Field
set_fields s = whole 7 (length s.ends) ∷ loops_fields 0 s.ends s.points

unfoldable pub orientation_fields : Orientation → List Field
orientation_fields o = set_fields o.apart ++ set_fields o.inset

unfoldable pub head_fields : KindHead → List Field
head_fields h = whole 12 h.quantity ∷ whole 1 h.fill ∷ whole 32 h.priority ∷ double_field h.area ∷ whole 5 h.orientations ∷ []

unfoldable pub kind_fields : Kind → List Field
kind_fields k = head_fields (head_of k) ++ flat_map orientation_fields k.orientations

unfoldable pub job_fields : Job → List Field
job_fields j = header_fields j.header ++ (set_fields j.sheet ++ flat_map kind_fields j.kinds)
