-- What a computed claim opens, of the definitions in specs/. Assumes nothing.
use Rattle.kinds.proofs.sets.Computing.{sets_compute}
use Rattle.kinds.specs.Kinds.{an_orientation, some_orientations, signed, lower, kind_head, kind_of, a_kind, some_kinds, copies_of}

unfoldable pub kinds_compute : Unit {0}
unfolding sets_compute an_orientation some_orientations signed lower kind_head kind_of a_kind some_kinds copies_of
kinds_compute = tt
