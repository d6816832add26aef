-- `write_job::put_fields` meets its contract. Assumes nothing.
use mathlib.Core.Path.{refl}
use mathlib.Core.List.{[]}
use native.Mathlib.Omega.{arith}
use Rattle.std.specs.Prelude.{Ok, Err}
use Rattle.std.proofs.Common.{rules}
use Rattle.set_writer.proofs.Walking.{ready-next, ready-less}
use Rattle.write_job.proofs.JobLaws.{start-ready, header-ready, header-few, kinds-room, fields_bad-header, fields_bad-sheet, fields_bad-kinds, fields_put}
use Rattle.write_job.proofs.put_fields.Goals as goal

pub put_header-requires : goal.put_header-requires
put_header-requires c =
    ready-less _ 200000 200000000 10000000000 0 0 154 (start-ready _ c.new_writer.ensures.0 c.new_writer.ensures.1)
    (omega arith) (omega arith) (omega arith)

pub returns-in_err-u : goal.returns-in_err-u
returns-in_err-u c =
    search (
      rules,
      fields_bad-header c.args.h c.args.rows.now c.args.areas.now c.args.counts.now c.args.coordinates.now c.new_writer.result c.args.out.now
          c.put_header.new.out [] [] (c.new_writer.ensures.2 _) (Err _) _ c.in_err-u.ensures refl,
    )

pub put_set-requires : goal.put_set-requires
put_set-requires c =
    ready-less _ 200000 200000000 9999999846 65 65536 4194951 (header-ready c.args.h _ c.new_writer.ensures.0 c.new_writer.ensures.1 c.in_ok-u.ensures) (omega arith) (omega arith) (omega arith)

pub returns-in_err-v : goal.returns-in_err-v
returns-in_err-v c =
    search (
      rules,
      fields_bad-sheet _ c.args.rows.now c.args.areas.now _ _ _ _ _ _ [] (c.new_writer.ensures.2 _) _ (Ok _) (Err _) _ c.in_ok-u.ensures refl
          c.in_err-v.ensures refl,
    )

pub put_kinds-requires : goal.put_kinds-requires
put_kinds-requires c =
    let few = header-few c.args.h [] [] (c.in_ok-u.ensures.0 [] []) refl in (
      kinds-room _ _ (ready-next _ 200000 200000000 9999999846 _ _ _ (header-ready c.args.h _ c.new_writer.ensures.0 c.new_writer.ensures.1 c.in_ok-u.ensures) c.in_ok-v.ensures.0
          c.in_ok-v.ensures.1 refl 133120 134217728 8591266944 (omega arith) (omega arith) (omega arith)) few,
      omega (arith, few),
    )

pub returns-in_err-z : goal.returns-in_err-z
returns-in_err-z c =
    search (
      rules,
      fields_bad-kinds _ c.args.rows.now c.args.areas.now _ _ _ _ _ _ _ (c.new_writer.ensures.2 _) _ _ (Ok _) (Ok _) (Err _) _ c.in_ok-u.ensures refl
          c.in_ok-v.ensures refl c.in_err-z.ensures.0 refl,
    )

pub returns : goal.returns
returns c =
    fields_put _ _ _ _ _ _ _ _ _ _ (c.new_writer.ensures.2 _) _ _ _ _ (Ok _) (Ok _) (Ok _) c.in_ok-u.ensures refl c.in_ok-v.ensures refl
    c.in_ok-z.ensures.0 refl
