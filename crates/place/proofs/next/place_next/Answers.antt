-- `place_next`: the copy is placed, and its place is written down. Assumes nothing.
use mathlib.Core.Path.{sym, ap, ap₂, ◌∙◌, subst, subst⁻¹}
use native.Mathlib.Omega.{arith}
use Prim.Native.Nat.{ℕ, ◌/◌, ◌+◌, ◌*◌, ◌≤◌, ◌<◌, ◌^◌}
use lib.Ieee.{Float}
use mathlib.Core.List.{List}
use lib.ListN.{length, get_or, set, take}
use lib.Seq.{length-take-le}
use Rattle.rooms.specs.tracks.inner.Tracks.{orientations, xs, ys, gaps, slot_numbers, track_numbers}
use Rattle.choose.specs.inner.Choosing.{surroundings_in}
use Rattle.place.specs.inner.Placing.{done, place_of}
use Rattle.place.proofs.next.Written.{front-field, looks-kept, nexts_kept, orientation-written, x_written, y_written, gap-written}
use Rattle.place.proofs.next.place_next.Goals as goal

under : (s n : ℕ) → s + n ≤ 1024 → n ≤ 1024
under s n h = omega arith

front : (n : ℕ) → track_numbers ≤ n → 2048 ≤ n
front n h = omega arith

pub slice_bounds-place_copy-end-2 : goal.slice_bounds-place_copy-end-2
slice_bounds-place_copy-end-2 c = sym (length-take-le 2048 c.args.tracks.now (front _ c.requires.6))

pub place_copy-step-requires : goal.place_copy-step-requires
place_copy-step-requires c = let t = c.args.tracks.now in
    let p = c.requires in (
      p.0,
      p.1,
      subst (λ (n : ℕ). slot_numbers ≤ n) (sym (length-take-le 2048 t (front _ p.6))) (omega arith),
      (λ o h. subst⁻¹ (λ (l : List ℕ). get_or l (c.args.copy.slot + o) 0 + 4000000002 < 2 ^ 64) (front-field t 1 (omega arith)) (p.2 o h)),
      p.3,
      p.4,
      p.5,
      p.9,
      p.10,
    )

pub returns : goal.returns
returns c = let a = c.args in
    let p = c.requires in
    let s = c.place_copy-step in
    let l = s.new in
    let k = s.auto.tracks in
    let t = a.tracks.now in
    let f = s.new.tracks in
    let o = c.spot_of-spot in
    let v = o.result.number in
    let w = surroundings_in (length a.room.now / 2) a.g a.inset_bounds.now a.parts.now a.shapes.now a.sheet.now
    (take (6 * a.t.placed_strips) a.placed.now) in (
      ap₂ (λ (q m : List ℕ). done s.result l.placed l.entries l.starts q m) (looks-kept t f p.6 k a.at v) (nexts_kept t f p.6 k a.at v)
          ∙ (s.ensures.0
          ∙ ap₂ (λ (q m : List ℕ). place_of a.g.index w a.copy.area a.copy.slot a.copy.orientations a.t a.placed.now a.entries.now
          a.starts.now a.firsts.now q m)
          (front-field t 1 (omega arith)) (front-field t 0 (omega arith))),
      orientation-written t f p.6 k a.at v p.8 ∙ ap (λ (z : ℕ). set (orientations t) a.at z) (o.ensures.0 a.copy.orientations s.ensures.2 (under a.copy.slot a.copy.orientations p.1)),
      x_written a.spots.now p.7 a.at p.8 o.result.x o.result.y o.result.gap
          ∙ ap (λ (z : Float). set (xs a.spots.now) a.at z) o.ensures.1,
      y_written a.spots.now p.7 a.at p.8 o.result.x o.result.y o.result.gap
          ∙ ap (λ (z : Float). set (ys a.spots.now) a.at z) o.ensures.2,
      s.ensures.1,
      s.ensures.3,
      gap-written a.spots.now p.7 a.at p.8 o.result.x o.result.y o.result.gap
          ∙ ap (λ (z : Float). set (gaps a.spots.now) a.at z) o.ensures.3,
    )
