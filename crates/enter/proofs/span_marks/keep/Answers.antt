use mathlib.Core.Path.{◌≡◌, refl}
use Prim.Native.Nat.{ℕ, ◌≤◌, ◌<◌}
use native.Mathlib.Omega.{arith}
use lib.ListN.{length-set}
use lib.Seq.{get_or-set_same, get_or-set_other}
use Rattle.enter.proofs.span_marks.keep.Goals as goal

other : (d j : ℕ) → d < j → d ≡ j → ⊥
other d j a q = omega arith

never : (j : ℕ) → 64 ≤ j → j < 64 → ⊥
never j a b = omega arith

pub returns-then-j-lt-KEPT : goal.returns-then-j-lt-KEPT
returns-then-j-lt-KEPT c = let g = c.args in
    let p = c.requires in (
      λ d a. (get_or-set_other g.firsts.now g.j d g.lo 0 (λ q. other d g.j a q), get_or-set_other g.lasts.now g.j d g.hi 0 (λ q. other d g.j a q)),
      λ a. (get_or-set_same g.firsts.now g.j g.lo 0 (omega (arith, p.0)), get_or-set_same g.lasts.now g.j g.hi 0 (omega (arith, p.1))),
    )

pub returns-else-j-lt-KEPT : goal.returns-else-j-lt-KEPT
returns-else-j-lt-KEPT c = (λ d a. (refl, refl), λ a. absurd (never c.args.j (omega arith) a))

pub shape_of-firsts : goal.shape_of-firsts
shape_of-firsts c = length-set c.args.firsts.now c.args.j c.args.lo

pub shape_of-lasts : goal.shape_of-lasts
shape_of-lasts c = length-set c.args.lasts.now c.args.j c.args.hi
