-- `put_lines::line_from` meets its contract: six fields, one after the other. Assumes nothing.
use native.Mathlib.Omega.{arith}
use Rattle.put_lines.proofs.Fields.{decimal-near, hex-near, line_is}
use Rattle.put_lines.proofs.line_from.Goals as goal

pub decimal_after-kind-requires : goal.decimal_after-kind-requires
decimal_after-kind-requires c = omega (arith, c.requires)

pub decimal_after-copy-requires : goal.decimal_after-copy-requires
decimal_after-copy-requires c = let s = c.args.bytes.now in
    let k = decimal-near s _ _ c.decimal_after-kind.ensures in
    omega (arith, c.requires, k)

pub decimal_after-orientation-requires : goal.decimal_after-orientation-requires
decimal_after-orientation-requires c = let s = c.args.bytes.now in
    let k = decimal-near s _ _ c.decimal_after-kind.ensures in
    let n = decimal-near s c.decimal_after-kind.result _ c.decimal_after-copy.ensures in
    omega (arith, c.requires, k, n)

pub hex_after-x-requires : goal.hex_after-x-requires
hex_after-x-requires c = let s = c.args.bytes.now in
    let k = decimal-near s _ _ c.decimal_after-kind.ensures in
    let n = decimal-near s c.decimal_after-kind.result _ c.decimal_after-copy.ensures in
    let o = decimal-near s c.decimal_after-copy.result _ c.decimal_after-orientation.ensures in
    omega (arith, c.requires, k, n, o)

pub hex_after-y-requires : goal.hex_after-y-requires
hex_after-y-requires c = let s = c.args.bytes.now in
    let k = decimal-near s _ _ c.decimal_after-kind.ensures in
    let n = decimal-near s c.decimal_after-kind.result _ c.decimal_after-copy.ensures in
    let o = decimal-near s c.decimal_after-copy.result _ c.decimal_after-orientation.ensures in
    let x = hex-near s _ c.decimal_after-orientation.result _ c.hex_after-x.ensures in
    omega (arith, c.requires, k, n, o, x)

pub hex_after-gap-requires : goal.hex_after-gap-requires
hex_after-gap-requires c = let s = c.args.bytes.now in
    let k = decimal-near s _ _ c.decimal_after-kind.ensures in
    let n = decimal-near s c.decimal_after-kind.result _ c.decimal_after-copy.ensures in
    let o = decimal-near s c.decimal_after-copy.result _ c.decimal_after-orientation.ensures in
    let x = hex-near s _ c.decimal_after-orientation.result _ c.hex_after-x.ensures in
    let y = hex-near s _ c.hex_after-x.result _ c.hex_after-y.ensures in
    omega (arith, c.requires, k, n, o, x, y)

pub returns : goal.returns
returns c = line_is c.args.bytes.now c.args.p c.decimal_after-kind.result c.decimal_after-copy.result c.decimal_after-orientation.result
    c.hex_after-x.result c.hex_after-y.result c.hex_after-gap.result
    c.decimal_after-kind.ensures c.decimal_after-copy.ensures c.decimal_after-orientation.ensures
    c.hex_after-x.ensures c.hex_after-y.ensures c.hex_after-gap.ensures
