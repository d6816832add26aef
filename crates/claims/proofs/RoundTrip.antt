-- W9: a job's bytes, read into tables and written again. Assumes nothing.
use Rattle.std.specs.Prelude.{Ok, Err}
use mathlib.Core.Path.{◌≡◌, refl, sym, ap, ◌∙◌}
use Prim.Native.Nat.{ℕ, ◌-◌, ◌<◌}
use mathlib.Core.Bool.{Bool, true, false, cond}
use mathlib.Core.List.{List}
use lib.ListN.{length, get_or, replicate}
use Rattle.numbers.proofs.Truth.{zero-not-one}
use Rattle.numbers.specs.Numbers.{pos_zero}
use Rattle.job.specs.declared.Header.{Header}
use Rattle.job.specs.Jobs.{Job, Answer, accepted, refused, read_job}
use Rattle.bit_writer.specs.Packed.{in_room}
use Rattle.job_bits.specs.JobBits.{bytes_of}
use Rattle.job_bits.specs.Given.{given_job}
use Rattle.job_bits.specs.JobTables.{rows_of, areas_of, counts_of, coordinates_of}
use Rattle.job_bits.proofs.ComesBack.{Bytes, comes_back}
use Rattle.write_job.specs.Written.{placed, written}
use Rattle.job_bits.specs.declared.JobError.TheVariants.{ShortRoom}
use Rattle.read_tables.specs.Tabled.{Reply, Laid, fit, laid, zeros, tabled}

module _ (b : List ℕ) (k₁ k₂ k₃ k₄ room : ℕ) (h : Header) (c x : ℕ) (B : (k : ℕ) → k < length b → get_or b k 0 < 256) where
  abbrev given : Laid → Header → Answer
  given t g = given_job g t.rows t.areas t.counts t.coordinates

  -- what tables are written as
  abbrev Trip : Laid → Type 0
  Trip t = (j : Job) × (read_job b ≡ accepted j) × (written (given t h) room ≡ placed (bytes_of j) room)

  -- of a job whose tables fit their rooms
  laid_trip : (j : Job) → read_job b ≡ accepted j → (laid j k₁ k₂ k₃ k₄).reply ≡ Ok (h, c, x) → Trip (laid j k₁ k₂ k₃ k₄)
  unfolding laid in_room Bytes written
  laid_trip j e f =
      let T = (comes_back b j B e).taken (replicate (k₁ - length (rows_of j.kinds)) 0) (replicate (k₂ - length (areas_of j.kinds)) pos_zero)
      (replicate (k₃ - length (counts_of j)) 0) (replicate (k₄ - length (coordinates_of j)) pos_zero) in
      (j, e, ap (λ (a : Answer). written a room) (ap (given (laid j k₁ k₂ k₃ k₄)) (sym (same f)) ∙ T))
    where
      same : {g h : Header} {c d x y : ℕ} → ◌≡◌ {A = Reply} (Ok (g, c, x)) (Ok (h, d, y)) → g ≡ h
      same {g} {h} {c} {d} {x} {y} e = ap header_in e
        where
          header_in : Reply → Header
          header_in (Ok (i, c, x)) = i
          header_in (Err k) = g

  pub read_and_written : (tabled (read_job b) k₁ k₂ k₃ k₄).reply ≡ Ok (h, c, x) → Trip (tabled (read_job b) k₁ k₂ k₃ k₄)
  unfolding tabled zeros
  read_and_written e = go (read_job b) refl e
    where
      fits : (j : Job) (t : Bool) → read_job b ≡ accepted j → (cond t (laid j k₁ k₂ k₃ k₄) (zeros (Err ShortRoom) k₁ k₂ k₃ k₄)).reply ≡ Ok (h, c, x)
          → Trip (cond t (laid j k₁ k₂ k₃ k₄) (zeros (Err ShortRoom) k₁ k₂ k₃ k₄))
      fits j true f e = laid_trip j f e
      fits j false f e = absurd (zero-not-one (cc))

      go : (a : Answer) → read_job b ≡ a → (tabled a k₁ k₂ k₃ k₄).reply ≡ Ok (h, c, x) → Trip (tabled a k₁ k₂ k₃ k₄)
      go (accepted j) f e = fits j (fit j k₁ k₂ k₃ k₄) f e
      go (refused r) f e = absurd (zero-not-one (cc))
