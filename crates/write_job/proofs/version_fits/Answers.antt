-- `write_job::version_fits` meets its contract. Assumes nothing.
use mathlib.Core.Path.{refl, ◌∙◌}
use borrow.Author.Tests.{ne_eqb}
use Rattle.write_job.proofs.HeaderLaws.{version-fits, version-frame, version-other}
use Rattle.write_job.proofs.version_fits.Goals as goal

pub returns-then-h-eq0 : goal.returns-then-h-eq0
returns-then-h-eq0 c = version-fits _ _ c.if-h-eq1.true c.if-h-eq0.true refl

pub returns-else-h-eq0 : goal.returns-else-h-eq0
returns-else-h-eq0 c = ne_eqb _ _ c.if-h-eq0.false ∙ version-frame c.args.h c.if-h-eq1.true c.if-h-eq0.false

pub returns-else-h-eq1 : goal.returns-else-h-eq1
returns-else-h-eq1 c = version-other _ _ c.if-h-eq1.false refl
