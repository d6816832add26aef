-- Document 01, "The job's bits" and "Refused because of the input", and document 02, W1: the job that bytes are, or its refusal. Definitions only.
-- Assumes nothing.
use Rattle.std.specs.Prelude.{Result, Ok, Err, ℕ, zero, suc, ◌-◌, ◌*◌, ◌/◌, Bool, true, false, ◌&&◌, ◌||◌, cond, List, [], length, get_or, leb, ltb, eqb, Float}
use Rattle.std.specs.Float.{nan, inf}
use Rattle.std.specs.Float.Ieee.{lt}
use Rattle.numbers.specs.Numbers.{◌⊖◌, ◌⊘◌, from_int, smaller, larger}
use Rattle.bits.specs.declared.Refusal.{Refusal}
use Rattle.bits.specs.declared.Refusal.TheVariants.{TrailingData, UnknownVersion, TooManyCopies, TooManyColumns}
use Rattle.bits.specs.Bits.{field_at}
use Rattle.bits.specs.Reading.{Read, ok, bad, Reader, ◌>>=◌, ◌>>◌, give, unless, bits}
use Rattle.bits.specs.Fields.{kinds_field, count, resolution_range, number}
use Rattle.job.specs.declared.Header.{Header}
use Rattle.kinds.specs.sets.Sets.{Set, a_set}
use Rattle.kinds.specs.Kinds.{Kind, some_kinds, copies_of}
use Rattle.frames.specs.declared.Frame.{Frame}
use Rattle.frames.specs.Frames.{lower_left, framed}

pub record Job : Type 0 where
  pub header : Header
  pub sheet : Set
  pub kinds : List Kind
  pub copies : ℕ

-- the frame that a job is planned in
abbrev pub frame_of : Header → Frame
frame_of h = record { corner = h.corner; axis = h.axis }

-- W1: "as 2 bits and 1 bit after the version in job version 2; version 1 stays and means lower left, filling along y"
unfoldable pub a_frame : ℕ → Reader Frame
a_frame v = cond (eqb v 1) (give lower_left) (bits 2 >>= λ c. bits 1 >>= λ a. give (record { corner = c; axis = a }))

-- ", kinds 7 (1–64), rounds 12, seed 64, resolution 64"
unfoldable pub after_frame : ℕ → Frame → Reader Header
after_frame v f = do
  k ← count kinds_field
  n ← bits 12
  s ← bits 64
  r ← number resolution_range
  give (record { version = v; corner = f.corner; axis = f.axis; kinds = k; rounds = n; seed = s; resolution = r })

-- "version 4"; W1: "It refuses versions other than 1 and 2 with 3"
unfoldable pub a_header : Reader Header
a_header = do
  v ← bits 4
  unless UnknownVersion (eqb v 1 || eqb v 2)
  f ← a_frame v
  after_frame v f

-- ", sheet set. Per kind: .."
unfoldable pub a_job : Reader Job
a_job = do
  h ← a_header
  s ← a_set
  ks ← some_kinds h.kinds []
  give (record { header = h; sheet = s; kinds = ks; copies = copies_of ks })

-- ---- "after the last field 2, 7, 8"

-- "Zero bits fill the last byte": fewer than eight bits are left from p on, all zero; else 2: "a set filling bit, or a further byte"
unfoldable pub ended : List ℕ → ℕ → Bool
ended bytes p = ltb (8 * length bytes - p) 8 && eqb (field_at bytes p (8 * length bytes - p) 0) 0

-- the smallest and the largest x of the first n points; infinite where there are none
unfoldable pub left : List Float → ℕ → Float
left xs zero = inf false
left xs (suc i) = smaller (left xs i) (get_or xs (2 * i) nan)

unfoldable pub right : List Float → ℕ → Float
right xs zero = inf true
right xs (suc i) = larger (right xs i) (get_or xs (2 * i) nan)

-- "sheet width"
unfoldable pub width_of : Set → Float
width_of s = right s.points (length s.points / 2) ⊖ left s.points (length s.points / 2)

-- W1: "8 now measures the framed sheet's width"
unfoldable pub framed_width : Job → Float
framed_width j = width_of (framed (frame_of j.header) j.sheet)

-- 7: "more than 4,096 copies in all"; 8: "sheet width / resolution above 1,000,000"
unfoldable pub judge_end : List ℕ → ℕ → ℕ → Float → Float → Result (Unit {0}) Refusal
judge_end bytes p copies width resolution =
    cond (ended bytes p)
    (cond (leb copies 4096)
    (cond (lt (from_int 1_000_000) (width ⊘ resolution)) (Err TooManyColumns) (Ok tt))
    (Err TooManyCopies))
    (Err TrailingData)

pub data Answer : Type 0 where
  accepted : Job → Answer
  refused : Refusal → Answer

abbrev pub passed : Result (Unit {0}) Refusal → Job → Answer
passed (Ok tt) j = accepted j
passed (Err k) j = refused k

unfoldable pub judged : List ℕ → Read Job → Answer
judged bytes (bad k) = refused k
judged bytes (ok j p) = passed (judge_end bytes p j.copies (framed_width j) j.header.resolution) j

-- the job that the bytes are, or why they are refused
unfoldable pub read_job : List ℕ → Answer
read_job bytes = judged bytes (a_job bytes 0)

-- what `judge` answers
abbrev pub verdict_of : Answer → Result (Header × ℕ) Refusal
verdict_of (accepted j) = Ok (j.header, j.copies)
verdict_of (refused k) = Err k
