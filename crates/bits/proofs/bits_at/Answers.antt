use native.Mathlib.Omega.{arith}
use mathlib.Core.Path.{◌≡◌, sym, ap, ◌∙◌}
use Prim.Native.Nat.{ℕ, ◌+◌, ◌-◌, ◌*◌, ◌/◌, ◌%◌, ◌^◌}
use Rattle.bits.specs.Bits.{field_at}
use Rattle.bits.proofs.Taking.{going_start, going_on, field-zero, room_now}
use Rattle.bits.proofs.bits_at.Goals as goal

pub loop-left-init : goal.loop-left-init
loop-left-init c = going_start c.args.bytes.now c.args.at c.args.n (omega arith)

pub joined-acc-requires : goal.joined-acc-requires
joined-acc-requires c = (omega arith, omega arith, room_now c.loop-left.acc c.loop-left.left c.min-k.result (2 ^ 64) c.loop-left.invariant.room (omega arith))

pub loop-left-preserved : goal.loop-left-preserved
loop-left-preserved c =
    going_on c.min-k.result (8 - c.loop-left.p % 8 - c.min-k.result) c.joined-acc.result c.loop-left.invariant (omega arith) (omega arith)
    (c.joined-acc.ensures ∙ ap (λ (b : ℕ). c.loop-left.acc * 2 ^ c.min-k.result + b / 2 ^ (8 - c.loop-left.p % 8 - c.min-k.result) % 2 ^ c.min-k.result) c.from.ensures)

pub returns : goal.returns
returns c =
    let z : c.loop-left.left ≡ 0 = omega arith in
    sym (field-zero c.args.bytes.now c.loop-left.p c.loop-left.acc) ∙ ap (λ (w : ℕ). field_at c.args.bytes.now c.loop-left.p w c.loop-left.acc) (sym z)
    ∙ c.loop-left.invariant.same
