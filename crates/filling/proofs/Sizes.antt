-- What an accepted job promises of its counts. Assumes nothing.
use mathlib.Core.Path.{◌≡◌}
use mathlib.Core.List.{List, [], ◌∷◌, map}
use Prim.Native.Nat.{ℕ, ◌≤◌}
use native.Mathlib.Omega.{arith}
use lib.ListN.{length}
use Rattle.kinds.specs.Kinds.{Kind}
use Rattle.kinds.proofs.Accepted.{Every, GoodKind}
use Rattle.job.specs.Jobs.{Job, accepted, read_job}
use Rattle.job.proofs.Accepted.{job_good}
use Rattle.filling.specs.State.{orientation_counts}
use Rattle.filling.proofs.Reading.{Sixteen, no_turns, and_turns}

-- at most 64 kinds of 16 orientations, and 4,096 copies
pub record Sized (j : Job) : Type 0 where
  pub kinds : length j.kinds ≤ 64
  pub turns : Sixteen (orientation_counts j)
  pub few : j.copies ≤ 4096

sixteen : (ks : List Kind) → Every GoodKind ks → Sixteen (map (λ k. length k.orientations) ks)
sixteen [] h = no_turns
sixteen (k ∷ ks) h = and_turns h.0.orientations_most (sixteen ks h.1)

pub sized : (bytes : List ℕ) (j : Job) → read_job bytes ≡ accepted j → Sized j
unfolding orientation_counts
sized bytes j e =
    let g = job_good bytes j e in
    let n = g.good.number in
    let m = g.good.header.kinds_most in
    record { kinds = omega arith; turns = sixteen j.kinds g.good.kinds; few = g.copies }
