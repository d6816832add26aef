-- Document 02, W9: what the writer answers and leaves in its output room. Definitions only. Assumes nothing.
use Rattle.std.specs.Prelude.{Result, Ok, Err, ℕ, cond, List, length, replicate, leb}
use Rattle.job.specs.Jobs.{Answer, accepted, refused}
use Rattle.bit_writer.specs.Packed.{in_room}
use Rattle.job_bits.specs.declared.JobError.{JobError}
use Rattle.job_bits.specs.declared.JobError.TheVariants.{Refused, ShortRoom}
use Rattle.job_bits.specs.JobBits.{bytes_of}

-- the reply, and the output room after
pub record Left : Type 0 where
  pub reply : Result ℕ JobError
  pub out : List ℕ

-- "Bytes of the room after the job are zero", "both leaving zeros in the output"; the room has n bytes
unfoldable pub placed : List ℕ → ℕ → Left
placed bytes n =
    cond (leb (length bytes) n)
    (record { reply = Ok (length bytes); out = in_room 0 bytes n })
    (record { reply = Err ShortRoom; out = replicate n 0 })

unfoldable pub written : Answer → ℕ → Left
written (accepted j) n = placed (bytes_of j) n
written (refused k) n = record { reply = Err (Refused k); out = replicate n 0 }
