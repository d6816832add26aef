-- What C is told of a job's tables, and of a job that is written (document 02, W9). Definitions only. Assumes nothing.
use Rattle.std.specs.Prelude.{Result, Ok, Err, ℕ, List, [], ◌∷◌, get_or, set, Float}
use Rattle.std.specs.Result.{result_unwrap_or}
use Rattle.std.proofs.lemmas.List.Edits.{sets}
use Rattle.job.specs.declared.Header.{Header}
use Rattle.job_bits.specs.declared.JobError.{JobError}
use Rattle.job_bits.specs.Replies.{reply_number}
use Rattle.read_tables.specs.Tabled as tabling
use Rattle.write_job.specs.Written as writing

-- ---- tables

-- the header's numbers, how many counts and how many coordinates there are, as far as the room goes; nothing of a refusal
abbrev pub told_header : tabling.Reply → List ℕ → List ℕ
told_header (Ok (h, c, x)) room = sets room 0 (h.version ∷ h.corner ∷ h.axis ∷ h.kinds ∷ h.rounds ∷ h.seed ∷ c ∷ x ∷ [])
told_header (Err e) room = room

abbrev pub told_resolution : tabling.Reply → List Float → List Float
told_resolution (Ok (h, c, x)) room = set room 0 h.resolution
told_resolution (Err e) room = room

pub record ToldTables : Type 0 where
  pub number : ℕ
  pub header : List ℕ
  pub resolution : List Float
  pub rows : List ℕ
  pub areas : List Float
  pub counts : List ℕ
  pub coordinates : List Float

-- a number, and the rooms after
unfoldable pub told_tables : List ℕ → List Float → tabling.Laid → ToldTables
told_tables header resolution t =
    record {
      number = reply_number t.reply;
      header = told_header t.reply header;
      resolution = told_resolution t.reply resolution;
      rows = t.rows;
      areas = t.areas;
      counts = t.counts;
      coordinates = t.coordinates;
    }

-- ---- a job that is written

-- the header of six numbers and a resolution; a number that is missing is 0
unfoldable pub header_of : List ℕ → Float → Header
header_of ns r =
    record {
      version = get_or ns 0 0;
      corner = get_or ns 1 0;
      axis = get_or ns 2 0;
      kinds = get_or ns 3 0;
      rounds = get_or ns 4 0;
      seed = get_or ns 5 0;
      resolution = r;
    }

-- how many bytes were written
abbrev pub bytes_written : Result ℕ JobError → ℕ
bytes_written r = result_unwrap_or r 0

pub record ToldJob : Type 0 where
  pub number : ℕ
  pub out : List ℕ
  pub length : List ℕ

-- a number, the room after, and how many bytes were written in the first place of another room
unfoldable pub told_job : List ℕ → writing.Left → ToldJob
told_job length l = record { number = reply_number l.reply; out = l.out; length = set length 0 (bytes_written l.reply) }
