-- Document 02, W9, "The office edits jobs": the tables of a job, in lent rooms. Definitions only. Assumes nothing.
use Rattle.std.specs.Prelude.{Result, Ok, Err, ℕ, Bool, cond, ◌&&◌, List, length, replicate, leb, Float}
use Rattle.numbers.specs.Numbers.{pos_zero}
use Rattle.job.specs.Jobs.{Job, Answer, accepted, refused}
use Rattle.bit_writer.specs.Packed.{in_room}
use Rattle.job_bits.specs.JobTables.{counts_of, coordinates_of, rows_of, areas_of}
use Rattle.job.specs.declared.Header.{Header}
use Rattle.job_bits.specs.declared.JobError.{JobError}
use Rattle.job_bits.specs.declared.JobError.TheVariants.{Refused, ShortRoom}

-- the header of a job whose tables are laid, how many counts and how many coordinates it has; or why they are not
abbrev pub Reply : Type 0
Reply = Result (Header × ℕ × ℕ) JobError

-- the reply, and the rooms after
pub record Laid : Type 0 where
  pub reply : Reply
  pub rows : List ℕ
  pub areas : List Float
  pub counts : List ℕ
  pub coordinates : List Float

-- "both leaving zeros in the output"; the rooms have so many places
unfoldable pub zeros : Reply → ℕ → ℕ → ℕ → ℕ → Laid
zeros r a b c d = record { reply = r; rows = replicate a 0; areas = replicate b pos_zero; counts = replicate c 0; coordinates = replicate d pos_zero }

-- whether a job's tables fit the rooms
unfoldable pub fit : Job → ℕ → ℕ → ℕ → ℕ → Bool
fit j a b c d =
    leb (length (rows_of j.kinds)) a && leb (length (areas_of j.kinds)) b && leb (length (counts_of j)) c && leb (length (coordinates_of j)) d

-- "The office edits jobs": the tables that the writer takes, zeros behind them
unfoldable pub laid : Job → ℕ → ℕ → ℕ → ℕ → Laid
laid j a b c d =
    record {
      reply = Ok (j.header, length (counts_of j), length (coordinates_of j));
      rows = in_room 0 (rows_of j.kinds) a;
      areas = in_room pos_zero (areas_of j.kinds) b;
      counts = in_room 0 (counts_of j) c;
      coordinates = in_room pos_zero (coordinates_of j) d;
    }

unfoldable pub tabled : Answer → ℕ → ℕ → ℕ → ℕ → Laid
tabled (accepted j) a b c d = cond (fit j a b c d) (laid j a b c d) (zeros (Err ShortRoom) a b c d)
tabled (refused k) a b c d = zeros (Err (Refused k)) a b c d
