-- Inner functions' contracts only: what the code's answers and tables say, in the terms of the job. Definitions only. Assumes nothing.
use Rattle.std.specs.Prelude.{Result, Ok, Err, ℕ, ◌≤◌, List, Float}
use Rattle.bits.specs.declared.Refusal.{Refusal}
use Rattle.bits.specs.Reading.{Read, ok, bad, Reader, ◌>>=◌}
use Rattle.job.specs.declared.Header.{Header}
use Rattle.kinds.specs.inner.Tables.{tabulate, kind_at}
use Rattle.job.specs.Jobs.{a_frame, after_frame, Answer, accepted, refused}
use Rattle.kinds.specs.sets.inner.Answers.{set_at}

abbrev pub header_read : Result (Header × ℕ) Refusal → Read Header
header_read (Ok (h, q)) = ok h q
header_read (Err k) = bad k

-- the frame and the fields after it
unfoldable pub framed_header : ℕ → Reader Header
framed_header v = a_frame v >>= after_frame v

-- the job: its header, the place of its sheet, its copies, and its kinds in the tables
abbrev pub job_read : Result (Header × ℕ × ℕ) Refusal → List ℕ → List ℕ → List Float → List ℕ → Answer
job_read (Ok (h, s, c)) bytes rows areas places =
    accepted (record { header = h; sheet = set_at bytes s; kinds = tabulate (kind_at bytes rows areas places) h.kinds; copies = c })
job_read (Err k) bytes rows areas places = refused k

-- ---- how far an answer reaches, for sums that must fit

abbrev pub header_fits : Result (Header × ℕ) Refusal → Type 0
header_fits (Ok (h, q)) = (h.kinds ≤ 64) × (q ≤ 254)
header_fits (Err k) = Unit {0}
