-- `rooms::tracks::join`: the slots before i hold the two lists' numbers. Assumes nothing.
use Prim.Native.Nat.{ℕ}
use native.Mathlib.Omega.{arith}
use mathlib.Core.Path.{refl}
use lib.ListN.{get_or}
use Rattle.rooms.proofs.tracks.Laying.{Laid, laid_firsts, laid_seconds}
use Rattle.rooms.proofs.tracks.join.Goals as goal

pub returns : goal.returns
returns c = let l = c.loop-i in
    let a = c.args in
    let e = c.requires in
    let f : ℕ → ℕ = λ p. get_or a.next_column.now p 0 in
    let g : ℕ → ℕ = λ p. get_or a.look_counts.now p 0 in
    let all : Laid f g 1024 l.tracks = λ p b. l.invariant.3 p (omega arith) in (
      laid_firsts f g l.tracks a.next_column.now 1024 e.0 (λ p b. refl) all,
      laid_seconds f g l.tracks a.look_counts.now 1024 e.1 (λ p b. refl) all,
    )
