-- Document 02, W9: the numbers of the office's replies. Definitions only. Assumes nothing.
use Rattle.std.specs.Prelude.{Result, Ok, Err, ℕ, List, length, replicate}
use Rattle.bits.specs.Reading.{job_refusal_number}
use Rattle.job_bits.specs.declared.JobError.{JobError}
use Rattle.job_bits.specs.declared.JobError.TheVariants.{Refused, ShortRoom}

-- the paper's number of an error
abbrev pub error_number : JobError → ℕ
error_number (Refused k) = job_refusal_number k
-- "after that a short output room with 28"
error_number ShortRoom = 28

-- the paper's number of a reply; 0 for a job that is written, and for tables that are laid
abbrev pub reply_number : {A : Type 0} → Result A JobError → ℕ
reply_number (Ok a) = 0
reply_number (Err e) = error_number e

-- what a room holds after a reply, where refusals leave zeros
abbrev pub or_zeros : {A B : Type 0} → B → Result A JobError → List B → List B
or_zeros z (Ok a) l = l
or_zeros z (Err e) l = replicate (length l) z
