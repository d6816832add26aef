-- `bit_writer::finish` meets its contract. Assumes nothing.
use Rattle.bit_writer.proofs.Writing.{finished}
use Rattle.bit_writer.proofs.finish.Goals as goal

pub returns : goal.returns
returns c = λ bits W. finished _ _ _ bits _ (c.close-n.ensures bits W) c.clear_from.ensures
