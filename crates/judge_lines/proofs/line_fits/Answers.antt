-- `line_fits`: what is known of the kind, then the place. Assumes nothing.
use native.Mathlib.Omega.{arith}
use mathlib.Core.Path.{sym, ◌∙◌}
use Rattle.judge_lines.proofs.Slots.{kinds_few, kind_in, turn_in, slot_bounded, slot_parted, few}
use Rattle.judge_lines.proofs.Verdicts.{known_has, fits_refused, fits-place}
use Rattle.judge_lines.proofs.line_fits.Goals as goal

pub known-requires : goal.known-requires
known-requires c = let p = c.requires in
    ((p.0.0, p.0.1.areas, p.0.1.prepared.tabled, p.0.1.number), p.1)

pub overflow_mul-slot : goal.overflow_mul-slot
overflow_mul-slot c = let p = c.requires in
    let t = p.0.1 in
    let e = sym (c.known.ensures p.0.0 t.areas t.prepared.tabled t.number) ∙ c.in-Ok.is in
    let h = kind_in t c.args.kind c.args.orientation (known_has p.0.0 _ c.args.kind c.args.orientation e) in
    let f = kinds_few t in
    record { fits = omega (arith, h, f) }

pub overflow_add-slot : goal.overflow_add-slot
overflow_add-slot c = let p = c.requires in
    let t = p.0.1 in
    let e = sym (c.known.ensures p.0.0 t.areas t.prepared.tabled t.number) ∙ c.in-Ok.is in
    let h = kind_in t c.args.kind c.args.orientation (known_has p.0.0 _ c.args.kind c.args.orientation e) in
    let o = turn_in t c.args.kind c.args.orientation (known_has p.0.0 _ c.args.kind c.args.orientation e) in
    let f = kinds_few t in
    record { fits = omega (arith, h, o, f) }

pub place_fits-requires : goal.place_fits-requires
place_fits-requires c = let p = c.requires in
    let t = p.0.1 in
    let k = c.args.kind in
    let o = c.args.orientation in
    let e = sym (c.known.ensures p.0.0 t.areas t.prepared.tabled t.number) ∙ c.in-Ok.is in
    let h = known_has p.0.0 _ k o e in
    (slot_bounded t k o h, slot_parted t k o h, p.2, few t k o h)

pub returns-in-Ok : goal.returns-in-Ok
returns-in-Ok c = let a = c.args in
    λ j t. c.place_fits.ensures ∙ fits-place t a.standing.now a.kind a.orientation a.at
    (known_has j _ a.kind a.orientation (sym (c.known.ensures j t.areas t.prepared.tabled t.number) ∙ c.in-Ok.is)) _
    (sym (c.known.ensures j t.areas t.prepared.tabled t.number) ∙ c.in-Ok.is)

pub returns-in-Err : goal.returns-in-Err
returns-in-Err c = let a = c.args in
    λ j t. fits_refused j _ a.standing.now a.kind a.orientation a.at _
    (sym (c.known.ensures j t.areas t.prepared.tabled t.number) ∙ c.in-Err.is)
