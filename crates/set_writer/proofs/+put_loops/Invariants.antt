use Rattle.set_writer.proofs.+put_loops.Given as goal

abbrev pub decreases-put_loops : goal.decreases-put_loops
decreases-put_loops l = l.n
