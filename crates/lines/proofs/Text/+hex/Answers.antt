-- The proof of the cycle of calls {hex}; the measure is how many digits are asked for. Assumes nothing.
use Prim.Native.Nat.{ℕ, ◌-◌, ◌/◌}
use native.Mathlib.Omega.{arith}
use mathlib.Core.Path.{ap, ◌∙◌}
use mathlib.Core.List.{[], ◌∷◌, ◌++◌}
use Rattle.nesting.specs.Text.{hex_up_to}
use Rattle.lines.proofs.Appending.{put_none, put-both, put-same}
use Rattle.lines.proofs.Digits.{hex-none, hex_more, up_hex-length}
use Rattle.lines.proofs.Text.+hex.Goals as goal

pub byte-requires : goal.byte-requires
byte-requires t c = let w = c.hex.ensures.wrote in
    omega (arith, c.requires, up_hex-length (c.args.d - 1) (c.args.n / 16))

pub returns-then-d-gt0 : goal.returns-then-d-gt0
returns-then-d-gt0 t c = let a = c.args in
    put-same (ap (λ (v : ℕ). hex_up_to (a.d - 1) (a.n / 16) ++ (v ∷ [])) c.hex_digit.ensures ∙ hex_more a.d a.n c.if-d-gt0.true)
    (put-both c.hex.ensures c.byte.ensures)

pub returns-else-d-gt0 : goal.returns-else-d-gt0
returns-else-d-gt0 t c = put-same (hex-none c.args.d c.args.n (omega (arith, c.if-d-gt0.false))) (put_none c.args.self.now)
