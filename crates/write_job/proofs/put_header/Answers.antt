-- `write_job::put_header` meets its contract. Assumes nothing.
use mathlib.Core.Path.{refl}
use native.Mathlib.Omega.{arith}
use mathlib.Core.List.{[]}
use Rattle.std.specs.Prelude.{Ok, Err}
use Rattle.std.proofs.Common.{rules}
use Rattle.set_writer.proofs.Walking.{ready-next, ready-less}
use Rattle.write_job.proofs.HeaderLaws.{header-not, header-put}
use Rattle.write_job.proofs.put_header.Goals as goal

pub put_version-requires : goal.put_version-requires
put_version-requires c = ready-less _ 0 0 154 0 0 7 c.requires (omega arith) (omega arith) (omega arith)

pub returns-in_err-u : goal.returns-in_err-u
returns-in_err-u c = search (rules, header-not c.args.h c.args.w c.args.out.now c.put_version.new.out [] (Err _) _ c.in_err-u.ensures refl)

pub put_front-requires : goal.put_front-requires
put_front-requires c =
    ready-next {w = c.args.w} _ 0 0 154 _ _ _ c.requires (c.in_ok-u.ensures.0 [] []) c.in_ok-u.ensures.1 refl 0 0 147 (omega arith) (omega arith) (omega arith)

pub returns : goal.returns
returns c = header-put _ _ _ _ _ _ (Ok _) _ c.in_ok-u.ensures refl c.put_front.ensures
