-- `column_step`: one look, and one more in its orientation's look count. Assumes nothing.
use Rattle.search.specs.inner.Searching.{answer_at}
use Rattle.search.proofs.Turns.{counted_in_lem}
use Rattle.rooms.proofs.tracks.Fields.{field_at, first-kept}
use Rattle.look.specs.inner.Ready.{Lookable, look_of}
use lib.Ieee.{Float}
use lib.ListN.{length}
use Prim.Native.Nat.{ℕ, ◌/◌, ◌+◌, ◌<◌, ◌^◌}
use mathlib.Core.Path.{ap, ◌∙◌, subst, subst⁻¹}
use Rattle.search.proofs.column_step.Goals as goal

pub overflow_add-tracks : goal.overflow_add-tracks
overflow_add-tracks c = let p = c.requires in
    record { fits = subst (λ (n : ℕ). n + 1 < 2 ^ 64) (field_at 0 2 1 1024 c.args.tracks.now c.args.slot 0 p.2) p.4 }

pub look_at-requires : goal.look_at-requires
look_at-requires c = let g = c.args in
    let p = c.requires in (
      subst⁻¹ (λ (x : Float). Lookable g.ix x g.k.y_low g.k.y_high g.inset.now g.apart.now g.sheet.now g.placed.now
          g.sheet_entries.now g.sheet_starts.now g.placed_entries.now g.placed_starts.now) c.x.ensures p.0,
      p.5,
      p.6,
    )

pub returns : goal.returns
unfolding answer_at
returns c = let g = c.args in
    let p = c.requires in (
      c.look_at.ensures
          ∙ ap (λ (x : Float). look_of (length g.room.now / 2) x g.k.y_low g.k.y_high g.inset.now g.apart.now g.sheet.now
          g.placed.now)
          c.x.ensures,
      counted_in_lem g.tracks.now g.slot p.2 p.3,
      first-kept 0 g.tracks.now 1024 g.slot _,
    )
