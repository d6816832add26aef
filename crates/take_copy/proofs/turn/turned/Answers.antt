-- `take_copy::turn::turned` meets its contract. Assumes nothing.
use native.Mathlib.Omega.{arith}
use mathlib.Core.Path.{refl, sym, ◌∙◌}
use Rattle.filling.proofs.Steps.{refused≢accepted}
use Rattle.take_copy.proofs.turn.turned.Goals as goal

pub write_place-requires : goal.write_place-requires
write_place-requires c = let p = c.requires in
    let z = p.10 in
    let h = p.4 in (p.9, omega (arith, p.5), omega (arith, h, z.orientations), omega (arith, h, z.xs), omega (arith, h, z.ys), omega (arith, h, z.gaps))

pub copy_fits-fits-requires : goal.copy_fits-fits-requires
copy_fits-fits-requires c = let p = c.requires in (p.0, p.1, p.2, p.3, omega (arith, p.4), p.5, p.6, p.7, p.8)

pub returns-in-Ok : goal.returns-in-Ok
returns-in-Ok c = let w = c.write_place in (
  sym c.in-Ok.is ∙ c.verdict_of.ensures,
  refl,
  (λ h. c.copy_fits-fits.ensures),
  w.ensures.0,
  w.ensures.1,
  w.ensures.2,
  w.ensures.3,
)

pub returns-in-Err : goal.returns-in-Err
returns-in-Err c = (sym c.in-Err.is ∙ c.verdict_of.ensures, refl, (λ h. absurd (refused≢accepted h)), refl, refl, refl, refl)
