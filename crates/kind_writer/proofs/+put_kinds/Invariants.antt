use Rattle.kind_writer.proofs.+put_kinds.Given as goal

abbrev pub decreases-put_kinds : goal.decreases-put_kinds
decreases-put_kinds l = l.n
