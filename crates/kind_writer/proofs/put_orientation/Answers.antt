-- `kind_writer::put_orientation` meets its contract. Assumes nothing.
use mathlib.Core.Path.{refl}
use mathlib.Core.List.{[]}
use native.Mathlib.Omega.{arith}
use Rattle.std.specs.Prelude.{Ok, Err}
use Rattle.std.proofs.Common.{rules}
use Rattle.set_writer.proofs.Walking.{ready-next, ready-less}
use Rattle.kind_writer.proofs.KindLaws.{orientation_on_lem, orientation-bad}
use Rattle.kind_writer.proofs.put_orientation.Goals as goal

pub put_set-requires : goal.put_set-requires
put_set-requires c = ready-less _ 130 131072 8389902 65 65536 4194951 c.requires (omega arith) (omega arith) (omega arith)

pub returns-in_err-v : goal.returns-in_err-v
returns-in_err-v c =
    search (rules, orientation-bad c.args.counts.now c.args.coordinates.now c.args.w c.args.out.now c.put_set.new.out [] (Err _) _ c.in_err-v.ensures refl)

pub put_set-requires-2 : goal.put_set-requires-2
put_set-requires-2 c =
    ready-next _ 130 131072 8389902 _ _ _ c.requires c.in_ok-v.ensures.0 c.in_ok-v.ensures.1 refl 65 65536 4194951 (omega arith) (omega arith) (omega arith)

pub returns : goal.returns
returns c = orientation_on_lem _ _ _ _ _ _ _ (Ok _) _ c.in_ok-v.ensures refl c.put_set-2.ensures
