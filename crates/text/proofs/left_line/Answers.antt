-- `text::left_line` meets its contract. Assumes nothing.
use native.Mathlib.Omega.{arith}
use mathlib.Core.Logic.{inl, inr}
use Rattle.lines.proofs.Appending.{put_none, put-same}
use Rattle.text.proofs.ByKind.{left-fill, left-none, left-some}
use Rattle.text.proofs.left_line.Goals as goal

pub returns-then-n-gt0 : goal.returns-then-n-gt0
returns-then-n-gt0 c = put-same (left-some c.args.k c.args.n c.args.fill c.if-not-fill.true (λ z. let h = c.if-n-gt0.true in omega arith)) c.line.ensures

pub returns-else-not-fill : goal.returns-else-not-fill
returns-else-not-fill c = let a = c.args in
    elim c.else-not-fill.either [
      | inl h ↦ put-same (left-none a.k a.n a.fill h.0 (omega (arith, h.1))) (put_none a.out.now)
      | inr h ↦ put-same (left-fill a.k a.n a.fill h) (put_none a.out.now)
    ]
