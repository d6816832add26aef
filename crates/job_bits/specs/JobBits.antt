-- Document 02, W9, "back as bits", "for both versions": a job as bits, in the order of document 01, "The job's bits". Definitions only. Assumes nothing.
use Rattle.std.specs.Prelude.{ℕ, suc, ◌-◌, ◌*◌, ◌^◌, cond, length, take, drop, ℤ, pos, negsuc, eqb, Float}
use mathlib.Core.List.{List, [], ◌∷◌, ◌++◌, flat_map}
use Rattle.std.specs.Float.{binary64}
use Rattle.std.specs.Float.Ieee.{to_bits}
use Rattle.job.specs.declared.Header.{Header}
use Rattle.kinds.specs.declared.KindHead.{KindHead}
use Rattle.kinds.specs.sets.Sets.{Set}
use Rattle.kinds.specs.Kinds.{Orientation, Kind}
use Rattle.job.specs.Jobs.{Job}
use Rattle.bit_writer.specs.Packed.{binary, packed}

-- "Doubles by their bits."
unfoldable pub double_bits : Float → List ℕ
double_bits x = binary 64 (to_bits binary64 x)

-- W1: "as 2 bits and 1 bit after the version in job version 2"
unfoldable pub frame_bits : Header → List ℕ
frame_bits h = binary 2 h.corner ++ binary 1 h.axis

-- "version 4"
unfoldable pub version_bits : Header → List ℕ
version_bits h = binary 4 h.version ++ cond (eqb h.version 1) [] (frame_bits h)

-- ", kinds 7 (1–64), rounds 12, seed 64, resolution 64"
unfoldable pub front_bits : Header → List ℕ
front_bits h = binary 7 h.kinds ++ (binary 12 h.rounds ++ (binary 64 h.seed ++ double_bits h.resolution))

unfoldable pub header_bits : Header → List ℕ
header_bits h = version_bits h ++ front_bits h

-- "per loop points 10 ..; per point x 64, y 64": the loops that end at es, the first after so many points, with their coordinates
unfoldable pub loops_bits : ℕ → List ℕ → List Float → List ℕ
loops_bits before [] xs = []
loops_bits before (e ∷ es) xs =
    binary 10 (e - before) ++ (flat_map double_bits (take (2 * (e - before)) xs) ++ loops_bits e es (drop (2 * (e - before)) xs))

-- "A set: loops 7 (1–64); .."
unfoldable pub set_bits : Set → List ℕ
set_bits s = binary 7 (length s.ends) ++ loops_bits 0 s.ends s.points

-- "priority 32 two's complement"
unfoldable pub twos : ℤ → ℕ
twos (pos n) = n
twos (negsuc n) = 2 ^ 32 - suc n

-- "the apart set, then the inset set"
unfoldable pub orientation_bits : Orientation → List ℕ
orientation_bits o = set_bits o.apart ++ set_bits o.inset

-- "quantity 12 (1–4,095), fill 1, priority 32 two's complement, area 64, orientations 5 (1–16)"
unfoldable pub head_bits : KindHead → List ℕ
head_bits h = binary 12 h.quantity ++ (binary 1 h.fill ++ (binary 32 h.priority ++ (double_bits h.area ++ binary 5 h.orientations)))

unfoldable pub head_of : Kind → KindHead
head_of k = record { quantity = k.quantity; fill = cond k.fill 1 0; priority = twos k.priority; area = k.area; orientations = length k.orientations }

-- "Per kind: ..; per orientation .."
unfoldable pub kind_bits : Kind → List ℕ
kind_bits k = head_bits (head_of k) ++ flat_map orientation_bits k.orientations

-- ", sheet set. Per kind: .."
unfoldable pub job_bits : Job → List ℕ
job_bits j = header_bits j.header ++ (set_bits j.sheet ++ flat_map kind_bits j.kinds)

-- the job's bytes
unfoldable pub bytes_of : Job → List ℕ
bytes_of j = packed (job_bits j)
