use Rattle.kind_writer.proofs.+put_orientations.Given as goal

abbrev pub decreases-put_orientations : goal.decreases-put_orientations
decreases-put_orientations l = l.n
