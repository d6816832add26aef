-- `rooms::tracks::reset`: the slots before i hold 1 and 0. Assumes nothing.
use Prim.Native.Nat.{ℕ}
use native.Mathlib.Omega.{arith}
use lib.ListN.{length-replicate, get_or-replicate}
use Rattle.rooms.proofs.tracks.Laying.{Laid, laid_firsts, laid_seconds}
use Rattle.rooms.proofs.tracks.reset.Goals as goal

pub returns : goal.returns
returns c = let l = c.loop-i in
    let all : Laid (λ _. 1) (λ _. 0) 1024 l.tracks = λ p b. l.invariant.3 p (omega arith) in (
      laid_firsts (λ _. 1) (λ _. 0) l.tracks _ 1024 (length-replicate {A = ℕ} 1024 1) (λ p b. get_or-replicate {A = ℕ} 1024 p 1 0 b) all,
      laid_seconds (λ _. 1) (λ _. 0) l.tracks _ 1024 (length-replicate {A = ℕ} 1024 0) (λ p b. get_or-replicate {A = ℕ} 1024 p 0 0 b) all,
    )
