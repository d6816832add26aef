-- `kind_writer::put_kind` meets its contract. Assumes nothing.
use mathlib.Core.Path.{refl}
use Prim.Native.Nat.{◌*◌}
use mathlib.Core.List.{[]}
use native.Mathlib.Omega.{arith}
use Rattle.std.specs.Prelude.{Ok, Err}
use Rattle.std.proofs.Common.{rules}
use Rattle.set_writer.proofs.Walking.{ready-next, ready-less}
use Rattle.kind_writer.proofs.KindLaws.{kind_few, kind_on, kind-bad}
use Rattle.kind_writer.proofs.put_kind.Goals as goal

pub put_head-requires : goal.put_head-requires
put_head-requires c = ready-less _ 2080 2097152 134238546 0 0 114 c.requires (omega arith) (omega arith) (omega arith)

pub returns-in_err-v : goal.returns-in_err-v
returns-in_err-v c = search (rules, kind-bad c.args.counts.now c.args.coordinates.now c.args.h c.args.w c.args.out.now c.put_head.new.out [] (Err _) _ c.in_err-v.ensures refl)

pub put_orientations-requires : goal.put_orientations-requires
put_orientations-requires c =
    let n = c.args.h.orientations in
    let few = kind_few c.args.h [] [] (c.in_ok-v.ensures.0 [] []) refl in
    ready-next _ 2080 2097152 134238546 _ _ _ c.requires (c.in_ok-v.ensures.0 [] []) c.in_ok-v.ensures.1 refl
    (130 * n) (131072 * n) (8389902 * n) (omega (arith, few)) (omega (arith, few)) (omega (arith, few))

pub returns : goal.returns
returns c = kind_on _ _ _ _ _ _ _ _ (Ok _) _ c.in_ok-v.ensures refl c.put_orientations.ensures
