-- Inner functions' contracts only: what is put of a job, and how far the walk through its tables goes. Definitions only. Assumes nothing.
use Rattle.std.specs.Prelude.{Result, Ok, Err, ℕ, ◌+◌, ◌≤◌, ◌≡◌, List, length}
use Rattle.bits.specs.declared.Refusal.{Refusal}
use Rattle.bit_writer.specs.inner.BitWriting.{Sound, written, Put}
use Rattle.set_writer.specs.declared.Walk.{Walk}
use Rattle.job_bits.specs.Given.{Taken, ok, bad}

-- what a taker takes is put by its bits, or its refusal is answered
pub data Walks {A : Type 0} (t : Taken A) (bits : A → List ℕ) (w : Walk) (out : List ℕ) : Result Walk Refusal → List ℕ → Type 0 where
  went : {v : Walk} {after : List ℕ} (a : A) → t ≡ ok a v.counts v.coordinates
      → Put out w.writer (bits a) after v.writer → Walks t bits w out (Ok v) after
  stopped : {k : Refusal} {after : List ℕ} → t ≡ bad k → length after ≡ length out → Walks t bits w out (Err k) after

-- so many counts, coordinates and bits at most
abbrev pub Near : Walk → Result Walk Refusal → ℕ → ℕ → ℕ → Type 0
Near w (Ok v) c x n = (v.counts ≤ w.counts + c) × (v.coordinates ≤ w.coordinates + x) × (written v.writer ≤ written w.writer + n)
Near w (Err k) c x n = Unit {0}

-- there is room for so many
pub record Ready (w : Walk) (c x n : ℕ) : Type 0 where
  pub sound : Sound w.writer
  pub counts : w.counts + c ≤ 1000000000000
  pub coordinates : w.coordinates + x ≤ 1000000000000
  pub bits : written w.writer + n ≤ 1000000000000
