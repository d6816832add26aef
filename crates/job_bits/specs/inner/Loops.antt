-- Inner functions' contracts only: the bits of some loops of a set. Definitions only. Assumes nothing.
use Rattle.std.specs.Prelude.{ℕ, List}
use Rattle.kinds.specs.sets.Sets.{Set}
use Rattle.job_bits.specs.JobBits.{loops_bits}

-- the bits of a set's loops, which so many points precede
abbrev pub loop_bits : ℕ → Set → List ℕ
loop_bits before s = loops_bits before s.ends s.points
