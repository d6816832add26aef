-- The proof of the cycle of calls {put_points}; the measure is how many points are to be put. Assumes nothing.
use mathlib.Core.Path.{refl}
use Prim.Native.Nat.{◌-◌, ◌*◌}
use native.Mathlib.Omega.{arith}
use mathlib.Core.List.{[]}
use Rattle.std.specs.Prelude.{Ok, Err}
use Rattle.std.proofs.Common.{rules}
use Rattle.set_writer.proofs.Walking.{ready-next}
use Rattle.set_writer.proofs.Numbers.{points_none, points_on, points-bad_two, points-bad}
use Rattle.set_writer.proofs.+put_points.Goals as goal

pub returns-then-n-eq0 : goal.returns-then-n-eq0
returns-then-n-eq0 t c = points_none _ _ _ _ c.requires.sound c.if-n-eq0.true

pub returns-in_err-u : goal.returns-in_err-u
returns-in_err-u t c =
    search (
      rules,
      points-bad c.args.coordinates.now c.args.w c.args.w c.args.w c.args.out.now c.put_coordinate.new.out [] c.args.n (c.args.n - 1) (Err _) _
          (omega arith) c.in_err-u.ensures refl,
    )

pub put_coordinate-requires-2 : goal.put_coordinate-requires-2
put_coordinate-requires-2 t c =
    ready-next _ 0 (2 * c.args.n) (128 * c.args.n) _ _ _ c.requires (c.in_ok-u.ensures.0 []) c.in_ok-u.ensures.1 refl 0 1 64
    (omega arith) (omega arith) (omega arith)

pub returns-in_err-v : goal.returns-in_err-v
returns-in_err-v t c =
    search (
      rules,
      points-bad_two c.args.coordinates.now c.args.w c.in_ok-u.u c.args.w c.args.out.now c.put_coordinate.new.out c.put_coordinate-2.new.out c.args.n
          (c.args.n - 1) (Ok _) (Err _) _ (omega arith) c.in_ok-u.ensures refl c.in_err-v.ensures refl,
    )

pub put_points-requires : goal.put_points-requires
put_points-requires t c =
    let n = c.args.n in (
      omega arith,
      ready-next _ 0 (2 * n - 1) (128 * n - 64) _ _ _
          (ready-next _ 0 (2 * n) (128 * n) _ _ _ c.requires (c.in_ok-u.ensures.0 []) c.in_ok-u.ensures.1 refl 0 (2 * n - 1) (128 * n - 64)
          (omega arith) (omega arith) (omega arith))
          (c.in_ok-v.ensures.0 []) c.in_ok-v.ensures.1 refl 0 (2 * (n - 1)) (128 * (n - 1))
          (omega arith) (omega arith) (omega arith),
    )

pub returns : goal.returns
returns t c =
    points_on _ _ _ _ _ _ _ _ _ (Ok _) (Ok _) _ _ (omega arith) c.in_ok-u.ensures refl c.in_ok-v.ensures refl c.put_points.ensures
