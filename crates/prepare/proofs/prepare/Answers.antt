-- `prepare::prepare` meets its contract. Assumes nothing.
use mathlib.Core.Path.{◌≡◌, refl, sym, ap, ◌∙◌}
use Rattle.std.specs.Prelude.{Err}
use Rattle.filling.specs.declared.Refusal.{Refusal}
use Rattle.job.specs.Jobs.{frame_of}
use Prim.Native.Nat.{ℕ, zero, suc}
use lib.ListN.{get_or, replicate}
use Rattle.prepare.proofs.Preparing.{sheet_over, shapes_over, all_ready}
use Rattle.prepare.proofs.prepare.Goals as goal

zero_at : (n b : ℕ) → get_or {A = ℕ} (replicate n 0) b 0 ≡ 0
zero_at zero b = refl
zero_at (suc n) zero = refl
zero_at (suc n) (suc b) = zero_at n b

pub lay_sheet-requires : goal.lay_sheet-requires
lay_sheet-requires c = (refl, zero_at 513)

pub returns-in-Err : goal.returns-in-Err
returns-in-Err c = let a = c.args in let f = c.frame_of-f in let g = c.lay_sheet in
    λ j T H. sheet_over a.bytes.now a.rows.now a.places.now a.at a.h.kinds j T f.result (f.ensures ∙ ap frame_of (sym H)) g.result
    a.shapes.now a.shapes.now a.sheet.now _ a.sheet_entries.now _ _ a.sheet_firsts.now _ g.ensures
    c.refused.result c.in-Err.e c.in-Err.is (c.refused.ensures ∙ ap (λ (k : Refusal). Err k) c.from.ensures)

pub returns-in_default : goal.returns-in_default
returns-in_default c = let a = c.args in let f = c.frame_of-f in let g = c.lay_sheet in let s = c.lay_shapes in
    λ j T H. shapes_over a.bytes.now a.rows.now a.places.now a.at a.h.kinds j T f.result (f.ensures ∙ ap frame_of (sym H)) g.result
    a.shapes.now _ a.sheet.now _ a.sheet_entries.now _ _ a.sheet_firsts.now _ g.ensures
    _ _ c.in-Ok.is s.result _ _ s.ensures c.refused-in_default.result c.in_default.is c.refused-in_default.ensures

pub returns : goal.returns
returns c = let a = c.args in let f = c.frame_of-f in let g = c.lay_sheet in let s = c.lay_shapes in
    λ j T H. all_ready a.bytes.now a.rows.now a.places.now a.at a.h.kinds j T f.result (f.ensures ∙ ap frame_of (sym H)) g.result
    a.shapes.now _ a.sheet.now _ a.sheet_entries.now _ _ a.sheet_firsts.now _ g.ensures
    _ _ c.in-Ok.is s.result _ _ s.ensures a.h H _ _ c.in-Some.is
