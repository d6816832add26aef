-- Inner functions' contracts only: what is put of a job, and what is known of it then. Definitions only. Assumes nothing.
use Rattle.std.specs.Prelude.{Option, unwrap_or, Result, Ok, Err, ℕ, ◌≡◌, List, length, Float}
use Rattle.std.specs.Float.{nan, binary64}
use Rattle.std.specs.Float.Ieee.{to_bits}
use Rattle.numbers.specs.Numbers.{double_of}
use Rattle.bits.specs.declared.Refusal.{Refusal}
use Rattle.job.specs.declared.Header.{Header}
use Rattle.job.specs.Jobs.{Job, frame_of}
use Rattle.bit_writer.specs.declared.BitWriter.{BitWriter}
use Rattle.bit_writer.specs.inner.BitWriting.{Sound, Wrote}
use Rattle.job_bits.specs.JobBits.{job_bits}
use Rattle.job_bits.specs.Given.{Taken, ok, bad, given_set}

-- the double of a number as the reader has it
abbrev pub value_in : Option Float → Float
value_in t = unwrap_or t nan

unfoldable pub value_of : Float → Float
value_of x = value_in (double_of (to_bits binary64 x))

-- a job whose fields are put: its sheet is the tables' first set, its frame and resolution are the header's
pub record Fielded (g : Header) (counts : List ℕ) (coordinates : List Float) (out : List ℕ) (p : BitWriter) (copies : ℕ) (after : List ℕ)
    (j : Job) : Type 0 where
  pub wrote : Wrote after (job_bits j) p
  pub sound : Sound p
  pub long : length after ≡ length out
  pub number : copies ≡ j.copies
  pub sheet : (c : ℕ) × (x : ℕ) × (given_set counts coordinates 0 0 ≡ ok j.sheet c x)
  pub frame : frame_of j.header ≡ frame_of g
  pub resolution : j.header.resolution ≡ value_of g.resolution

-- the job's fields are put, or their refusal is answered
pub data PutJob (t : Taken Job) (g : Header) (counts : List ℕ) (coordinates : List Float) (out : List ℕ) : Result (BitWriter × ℕ) Refusal → List ℕ → Type 0 where
  went_job : {p : BitWriter} {copies : ℕ} {after : List ℕ} (j : Job) (c x : ℕ) → t ≡ ok j c x → Fielded g counts coordinates out p copies after j
      → PutJob t g counts coordinates out (Ok (p, copies)) after
  stopped_job : {k : Refusal} {after : List ℕ} → t ≡ bad k → length after ≡ length out → PutJob t g counts coordinates out (Err k) after
