-- `search_part`: an orientation's strips lie in the two parts of the shapes room. Assumes nothing.
use mathlib.Core.Path.{ap, ◌∙◌, subst⁻¹}
use mathlib.Core.List.{List}
use Prim.Native.Nat.{◌*◌, ◌/◌}
use lib.Ieee.{Float}
use lib.ListN.{length, drop}
use Rattle.rooms.specs.tracks.inner.Tracks.{next_columns, look_counts_from}
use Rattle.look.specs.inner.Ready.{Lookable}
use Rattle.search.specs.columns.inner.Stands.{column_x}
use Rattle.search.specs.inner.Searching.{answer_at, search_of}
use Rattle.choose.specs.inner.Choosing.{inset_part}
use Rattle.rooms.proofs.tracks.Parts.{rest-is}
use Rattle.choose.proofs.search_part.Goals as goal

pub search-requires : goal.search-requires
search-requires c = let a = c.args in
    let p = c.requires in
    let n = 6 * a.g.apart_strips in
    let s = a.shapes.now in
    let ei = c.strips_of-insets.ensures ∙ ap (inset_part a.p) (rest-is n s) in (
      (λ d h.
          subst⁻¹ (λ (z : List Float). Lookable a.g.index (column_x a.k d) a.k.y_low a.k.y_high z c.strips_of-aparts.result.now
          a.sheet.now
          a.placed.now
          a.sheet_entries.now a.sheet_starts.now a.placed_entries.now a.placed_starts.now) ei
          (subst⁻¹ (λ (z : List Float). Lookable a.g.index (column_x a.k d) a.k.y_low a.k.y_high (inset_part a.p (drop n s)) z
          a.sheet.now
          a.placed.now
          a.sheet_entries.now a.sheet_starts.now a.placed_entries.now a.placed_starts.now) c.strips_of-aparts.ensures (p.0 d h))),
      p.1,
      p.2,
      p.3,
      p.4,
      p.6,
      p.7,
    )

pub returns : goal.returns
returns c = let a = c.args in
    let n = 6 * a.g.apart_strips in
    let s = a.shapes.now in
    let ei = c.strips_of-insets.ensures ∙ ap (inset_part a.p) (rest-is n s) in
    c.search.ensures
    ∙ (ap (λ (z : List Float). search_of (answer_at (length a.room.now / 2) a.k z c.strips_of-aparts.result.now a.sheet.now a.placed.now) a.k
    a.slot
    (look_counts_from a.tracks.now) (next_columns a.tracks.now)) ei
    ∙ ap (λ (z : List Float). search_of (answer_at (length a.room.now / 2) a.k (inset_part a.p (drop n s)) z a.sheet.now a.placed.now) a.k
    a.slot
    (look_counts_from a.tracks.now) (next_columns a.tracks.now)) c.strips_of-aparts.ensures)
