-- `write_job::put_version` meets its contract. Assumes nothing.
use mathlib.Core.Path.{sym, ◌∙◌}
use native.Mathlib.Omega.{arith}
use mathlib.Core.List.{[]}
use Rattle.bit_writer.proofs.Bits.{binary-length}
use Rattle.write_job.proofs.HeaderLaws.{version-not, version-one, version_two}
use Rattle.write_job.proofs.put_version.Goals as goal

pub returns-then-not-version_fits : goal.returns-then-not-version_fits
returns-then-not-version_fits c = version-not _ _ _ [] [] (sym c.version_fits.ensures ∙ c.if-not-version_fits.true)

pub returns-then-h-eq1 : goal.returns-then-h-eq1
returns-then-h-eq1 c =
    version-one _ _ _ _ [] _ (sym c.version_fits.ensures ∙ c.if-not-version_fits.false) c.if-h-eq1.true c.put-writer.ensures

pub put_frame-requires : goal.put_frame-requires
put_frame-requires c = record {
  sound = c.put-writer.ensures.sound;
  counts = c.requires.counts;
  coordinates = c.requires.coordinates;
  bits = omega (arith, c.requires.bits, c.put-writer.ensures.count, binary-length 4 c.args.h.version);
}

pub returns : goal.returns
returns c =
    version_two _ _ _ _ _ _ _ (sym c.version_fits.ensures ∙ c.if-not-version_fits.false) c.if-h-eq1.false c.put-writer.ensures c.put_frame.ensures
