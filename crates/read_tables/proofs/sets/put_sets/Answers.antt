-- `read_tables::sets::put_sets` meets its contract. Assumes nothing.
use Prim.Native.Nat.{ℕ}
use native.Mathlib.Omega.{arith}
use lib.ListN.{length-replicate}
use lib.Ieee.{Float, binary64, of_bits}
use Rattle.read_tables.proofs.Putting.{job-put}
use Rattle.read_tables.proofs.sets.put_sets.Goals as goal

pub put_kinds-requires : goal.put_kinds-requires
put_kinds-requires c = (
  (omega (arith, c.put_set-w.ensures.1.0), omega (arith, c.put_set-w.ensures.1.1)),
  c.requires.0,
  c.requires.1,
  c.requires.2,
  c.requires.3,
  omega
      (arith, c.put_set-w.auto.room, length-replicate {A = Float} 1024 (of_bits binary64 0)),
  omega
      (arith, c.put_set-w.auto.ends, length-replicate {A = ℕ} 64 0),
)

pub returns : goal.returns
returns c = λ areas j e f. job-put j _ _ _ _ _ _ _ _ _ _ e f c.put_set-w.ensures.0 (c.put_kinds.ensures areas)
