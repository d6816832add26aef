use Rattle.set_writer.proofs.+put_points.Given as goal

abbrev pub decreases-put_points : goal.decreases-put_points
decreases-put_points l = l.n
