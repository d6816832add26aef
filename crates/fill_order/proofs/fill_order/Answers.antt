-- `fill_order`: the tracks are reset, then every copy. Assumes nothing.
use Prim.Native.Nat.{ℕ, ◌≤◌}
use mathlib.Core.Path.{refl, sym, subst}
use Rattle.rooms.specs.tracks.inner.Tracks.{track_numbers}
use Rattle.fill_order.proofs.fill_order.Goals as goal

pub fill_copies-requires : goal.fill_copies-requires
fill_copies-requires c = let p = c.requires in
    let r = c.reset in (
      p.0,
      p.1,
      subst (λ (n : ℕ). track_numbers ≤ n) (sym r.auto.tracks) p.2,
      p.3,
      r.ensures.0,
      r.ensures.1,
      refl,
      refl,
      p.4,
    )

pub returns : goal.returns
returns c = c.fill_copies.ensures
