-- Inner functions' contracts only: what is put of a job's kinds. Definitions only. Assumes nothing.
use Rattle.std.specs.Prelude.{Result, Ok, Err, ℕ, ◌+◌, ◌≤◌, ◌≡◌, List, length}
use Rattle.bits.specs.declared.Refusal.{Refusal}
use Rattle.kinds.specs.Kinds.{Kind, copies_of}
use Rattle.bit_writer.specs.inner.BitWriting.{written, Put}
use Rattle.set_writer.specs.declared.Walk.{Walk}
use Rattle.job_bits.specs.Given.{Taken, ok, bad}

-- the kinds that a taker takes are put by their bits, with their copies, or its refusal is answered
pub data WalksKinds (t : Taken (List Kind)) (bits : List Kind → List ℕ) (w : Walk) (out : List ℕ) : Result (Walk × ℕ) Refusal → List ℕ → Type 0 where
  went_kinds : {v : Walk} {n : ℕ} {after : List ℕ} (ks : List Kind) → t ≡ ok ks v.counts v.coordinates
      → Put out w.writer (bits ks) after v.writer → n ≡ copies_of ks → WalksKinds t bits w out (Ok (v, n)) after
  stopped_kinds : {k : Refusal} {after : List ℕ} → t ≡ bad k → length after ≡ length out → WalksKinds t bits w out (Err k) after

-- so many counts, coordinates, bits and copies at most
abbrev pub NearKinds : Walk → Result (Walk × ℕ) Refusal → ℕ → ℕ → ℕ → ℕ → Type 0
NearKinds w (Ok (v, m)) c x n q =
    (v.counts ≤ w.counts + c) × (v.coordinates ≤ w.coordinates + x) × (written v.writer ≤ written w.writer + n) × (m ≤ q)
NearKinds w (Err k) c x n q = Unit {0}
