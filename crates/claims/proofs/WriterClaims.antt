-- Document 02, W9, write the job out: what is promised, each claim with its whole statement, and its proof cited. Assumes nothing.
use Rattle.std.specs.Prelude.{Ok}
use Prim.Native.Nat.{ℕ, ◌<◌}
use mathlib.Core.Path.{◌≡◌, ap, ◌∙◌}
use mathlib.Core.List.{List, ◌++◌, map, flat_map}
use lib.ListN.{length, get_or, take}
use lib.Ieee.{Float}
use Rattle.bits.specs.declared.Refusal.TheVariants.{UnknownVersion}
use Rattle.frames.specs.Frames.{lower_left}
use Rattle.job.specs.declared.Header.{Header}
use Rattle.job.specs.Jobs.{Job, accepted, refused, frame_of, read_job}
use Rattle.bit_writer.specs.Packed.{packed}
use Rattle.job_bits.specs.JobBits.{bytes_of}
use Rattle.job_bits.specs.Given.{given_job}
use Rattle.job_bits.specs.JobTables.{rows_of, areas_of, counts_of, coordinates_of}
use Rattle.job_bits.specs.JobFields.{Field, field_bits, plus, job_fields}
use Rattle.job_bits.proofs.WrittenReads as ProvedReads
use Rattle.job_bits.proofs.ComesBack as ProvedBack
use Rattle.job_bits.proofs.Versions as ProvedVersions
use Rattle.write_job.specs.Written.{placed, written}
use Rattle.write_job.proofs.Rooms as ProvedRooms
use Rattle.read_tables.specs.Tabled.{tabled}
use Rattle.claims.proofs.RoundTrip as ProvedTrip

-- "What it writes reads as the job it was given": the bytes that the call leaves and counts, in a room of any length
pub written_reads : (h : Header) (rows : List ℕ) (areas : List Float) (counts : List ℕ) (coordinates : List Float) (room n : ℕ)
    → let job = given_job h rows areas counts coordinates in
    (written job room).reply ≡ Ok n → read_job (take n (written job room).out) ≡ job
written_reads h rows areas counts coordinates room n =
    ProvedRooms.written_read (given_job h rows areas counts coordinates) room n (ProvedReads.written_reads h rows areas counts coordinates)

-- "accepted bytes, read and written, come back identical but for that": bytes b that are read as j are the bytes of a list of fields; what is written of j is
-- that of the same fields, with plus zero for each minus zero; and the writer takes j's own tables, whatever stands behind them
pub comes_back : (b : List ℕ) (j : Job) → ((k : ℕ) → k < length b → get_or b k 0 < 256) → read_job b ≡ accepted j
    → (fields : List Field) × (packed (flat_map field_bits fields) ≡ b) × (bytes_of j ≡ packed (flat_map field_bits (map plus fields))) × (map plus fields ≡ job_fields j)
    × ((rs : List ℕ) (bs : List Float) (cs : List ℕ) (xs : List Float)
    → given_job j.header (rows_of j.kinds ++ rs) (areas_of j.kinds ++ bs) (counts_of j ++ cs) (coordinates_of j ++ xs) ≡ accepted j)
unfolding ProvedBack.Bytes
comes_back b j B e = let C = ProvedBack.comes_back b j B e in (C.fields, C.bytes, C.written, C.plain, C.taken)

-- without a minus zero they come back identical
pub comes-back-same : (b : List ℕ) (j : Job) (fields : List Field) → packed (flat_map field_bits fields) ≡ b → bytes_of j ≡ packed (flat_map field_bits (map plus fields))
    → map plus fields ≡ fields → bytes_of j ≡ b
comes-back-same b j fields e f g = f ∙ ap (λ (l : List Field). packed (flat_map field_bits l)) g ∙ e

-- the two calls, one after the other: what `read_tables` leaves of the bytes b, `write_job` writes as the bytes of the job that they are read as
pub read_and_written : (b : List ℕ) (k₁ k₂ k₃ k₄ room : ℕ) (h : Header) (c x : ℕ) → ((k : ℕ) → k < length b → get_or b k 0 < 256)
    → let t = tabled (read_job b) k₁ k₂ k₃ k₄ in
    t.reply ≡ Ok (h, c, x)
    → (j : Job) × (read_job b ≡ accepted j) × (written (given_job h t.rows t.areas t.counts t.coordinates) room ≡ placed (bytes_of j) room)
read_and_written = ProvedTrip.read_and_written

-- "Two jobs of the same version are equal exactly when their written bytes are": of jobs that the writer takes
pub equal_jobs : (g h : Header) (rows rows' : List ℕ) (areas areas' : List Float) (cs cs' : List ℕ) (xs xs' : List Float) (j k : Job)
    → given_job g rows areas cs xs ≡ accepted j → given_job h rows' areas' cs' xs' ≡ accepted k → j.header.version ≡ k.header.version
    → (j ≡ k → bytes_of j ≡ bytes_of k) × (bytes_of j ≡ bytes_of k → j ≡ k)
equal_jobs g h rows rows' areas areas' cs cs' xs xs' j k J K _ =
    (ProvedReads.same_bytes g h rows rows' areas areas' cs cs' xs xs' j k J K, ProvedReads.same-job g h rows rows' areas areas' cs cs' xs xs' j k J K)

-- "A lower-left job filling along y keeps its version": the written job's version and frame are the given ones
pub version-kept : (h : Header) (rows : List ℕ) (areas : List Float) (cs : List ℕ) (xs : List Float) (j : Job) → given_job h rows areas cs xs ≡ accepted j
    → (j.header.version ≡ h.version) × (frame_of j.header ≡ frame_of h)
version-kept = ProvedVersions.version-kept

-- "version 1 with another frame is refused with 3"
pub version-1_frame : (h : Header) (rows : List ℕ) (areas : List Float) (cs : List ℕ) (xs : List Float) → h.version ≡ 1 → (frame_of h ≡ lower_left → ⊥)
    → given_job h rows areas cs xs ≡ refused UnknownVersion
version-1_frame = ProvedVersions.version-1_frame
