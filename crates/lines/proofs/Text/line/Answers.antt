-- `lines::Text::line` meets its contract. Assumes nothing.
use native.Mathlib.Omega.{arith}
use mathlib.Core.List.{map}
use Rattle.nesting.specs.Text.{decimal, hex}
use Rattle.lines.proofs.Appending.{put-both, put-same}
use Rattle.lines.proofs.Lines.{line_is, counts-most, doubles-length}
use Rattle.lines.proofs.Text.line.Goals as goal

pub doubles-requires : goal.doubles-requires
doubles-requires c = let a = c.word.ensures.wrote in
    let b = c.counts.ensures.wrote in
    omega (arith, c.requires, a.next, a.long, b.next, b.long, counts-most c.args.counts.now)

pub byte-requires : goal.byte-requires
byte-requires c = let a = c.word.ensures.wrote in
    let b = c.counts.ensures.wrote in
    let d = c.doubles.ensures.wrote in
    omega (arith, c.requires, a.next, a.long, b.next, b.long, d.next, d.long, counts-most c.args.counts.now, doubles-length c.args.doubles.now)

pub returns : goal.returns
returns c = let a = c.args in
    put-same (line_is a.word.now (map decimal a.counts.now) (map hex a.doubles.now))
    (put-both c.word.ensures (put-both c.counts.ensures (put-both c.doubles.ensures c.byte.ensures)))
