-- Laws of what the writer leaves in its room. Assumes nothing.
use Rattle.std.specs.Prelude.{Result, Ok, Err}
use mathlib.Core.Path.{◌≡◌, refl, ap, ◌∙◌}
use Prim.Native.Nat.{ℕ, ◌-◌}
use mathlib.Core.Bool.{Bool, true, false, cond}
use mathlib.Core.List.{List, ◌++◌}
use lib.ListN.{length, take, replicate}
use lib.Seq.{take_at}
use lib.Dec.{leb}
use Rattle.numbers.proofs.Truth.{zero-not-one}
use Rattle.bit_writer.specs.Packed.{in_room}
use Rattle.job.specs.Jobs.{Job, Answer, accepted, refused, read_job}
use Rattle.job_bits.specs.JobBits.{bytes_of}
use Rattle.job_bits.specs.declared.JobError.{JobError}
use Rattle.job_bits.specs.declared.JobError.TheVariants.{ShortRoom}
use Rattle.write_job.specs.Written.{Left, placed, written}

-- bytes that are placed lie at the room's beginning
placed-bytes : (bytes : List ℕ) (n k : ℕ) → (placed bytes n).reply ≡ Ok k → take k (placed bytes n).out ≡ bytes
unfolding placed in_room
placed-bytes bytes n k e = go (leb (length bytes) n) e
  where
    same : {i j : ℕ} → ◌≡◌ {A = Result ℕ JobError} (Ok i) (Ok j) → i ≡ j
    same e = cc

    abbreviated : Bool → Left
    abbreviated b =
        cond b (record { reply = Ok (length bytes); out = bytes ++ replicate (n - length bytes) 0 }) (record { reply = Err ShortRoom; out = replicate n 0 })

    go : (b : Bool) → (abbreviated b).reply ≡ Ok k → take k (abbreviated b).out ≡ bytes
    go true e = take_at bytes (replicate (n - length bytes) 0) k (same e)
    go false e = absurd (zero-not-one (cc))

-- and what is written is read as the answer that it was made of, where accepted jobs are read from their bytes
pub written_read : (a : Answer) (n k : ℕ) → ((j : Job) → a ≡ accepted j → read_job (bytes_of j) ≡ accepted j) → (written a n).reply ≡ Ok k
    → read_job (take k (written a n).out) ≡ a
unfolding written
written_read (accepted j) n k R e = ap read_job (placed-bytes (bytes_of j) n k e) ∙ R j refl
written_read (refused r) n k R e = absurd (zero-not-one (cc))
