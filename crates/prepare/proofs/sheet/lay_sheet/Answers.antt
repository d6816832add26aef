-- `prepare::sheet::lay_sheet` meets its contract. Assumes nothing.
use mathlib.Core.Path.{refl, sym}
use native.Mathlib.Omega.{arith}
use borrow.Author.Rules.{rules}
use Prim.Native.Nat.{◌*◌}
use lib.Seq.{length-take-le}
use Rattle.index.proofs.NewIndex.{none-laid}
use Rattle.prepare.proofs.sheet.Laying.{no_strips, fits, too_many, long, nameable, sheet_in, no_entries}
use Rattle.prepare.proofs.sheet.lay_sheet.Goals as goal

pub returns-in_err-n : goal.returns-in_err-n
returns-in_err-n c = let a = c.args in let g = c.set_strips in
    search (
      rules,
      no_strips a.f a.bytes.now a.at a.sheet.now g.new.room g.result g.ensures a.entries.now a.entries.now a.starts.now a.firsts.now a.firsts.now
          c.in_err-n.ensures.ok_part,
    )

pub returns-then-standing_capacity-n : goal.returns-then-standing_capacity-n
returns-then-standing_capacity-n c = let a = c.args in let g = c.set_strips in let s = c.standing_capacity in
    too_many a.f a.bytes.now a.at a.sheet.now g.new.room g.result g.ensures _ c.in_ok-n.ensures.ok_part g.auto.room a.firsts.now s.result s.ensures
    c.if-standing_capacity-n.true a.entries.now a.entries.now a.starts.now a.firsts.now

pub overflow_mul-end : goal.overflow_mul-end
overflow_mul-end c = let a = c.args in let g = c.set_strips in
    let h = fits a.f a.bytes.now a.at a.sheet.now g.new.room g.result g.ensures _ c.in_ok-n.ensures.ok_part in
    omega (arith, h, c.well_formed.1.1.0)

pub slice_bounds-enter_copy-end : goal.slice_bounds-enter_copy-end
slice_bounds-enter_copy-end c = let a = c.args in let g = c.set_strips in
    let h = fits a.f a.bytes.now a.at a.sheet.now g.new.room g.result g.ensures _ c.in_ok-n.ensures.ok_part in
    omega (arith, h, g.auto.room)

pub slice_bounds-enter_copy-end-2 : goal.slice_bounds-enter_copy-end-2
slice_bounds-enter_copy-end-2 c = let a = c.args in let g = c.set_strips in
    let h = fits a.f a.bytes.now a.at a.sheet.now g.new.room g.result g.ensures _ c.in_ok-n.ensures.ok_part in
    sym (length-take-le _ _ (omega (arith, h, g.auto.room)))

pub enter_copy-requires : goal.enter_copy-requires
enter_copy-requires c = let a = c.args in let g = c.set_strips in let s = c.standing_capacity in
    let h = fits a.f a.bytes.now a.at a.sheet.now g.new.room g.result g.ensures _ c.in_ok-n.ensures.ok_part in
    let k = length-take-le (6 * c.in_ok-n.n) g.new.room (omega (arith, h, g.auto.room)) in (
      omega arith,
      omega (arith, k),
      refl,
      none-laid _ _ a.entries.now a.starts.now c.requires.0 c.requires.1,
      nameable a.f a.bytes.now a.at a.sheet.now g.new.room g.result g.ensures _ c.in_ok-n.ensures.ok_part g.auto.room a.firsts.now s.result s.ensures
          c.if-standing_capacity-n.false,
      long a.f a.bytes.now a.at a.sheet.now g.new.room g.result g.ensures _ c.in_ok-n.ensures.ok_part g.auto.room a.firsts.now s.result s.ensures
          c.if-standing_capacity-n.false,
    )

pub returns-then-not-enter_copy : goal.returns-then-not-enter_copy
returns-then-not-enter_copy c = let a = c.args in let g = c.set_strips in let s = c.standing_capacity in let b = c.set_bounds-bounds in let e = c.enter_copy in
    no_entries a.f a.bytes.now a.at a.sheet.now g.new.room g.result g.ensures _ c.in_ok-n.ensures.ok_part g.auto.room a.firsts.now s.result s.ensures
    c.if-standing_capacity-n.false b.result b.ensures c.new-ix.result c.new-ix.ensures a.entries.now a.starts.now e.new.entries e.new.starts e.result
    e.new.firsts e.ensures.0 c.if-not-enter_copy.true

pub returns : goal.returns
returns c = let a = c.args in let g = c.set_strips in let s = c.standing_capacity in let b = c.set_bounds-bounds in let e = c.enter_copy in
    sheet_in a.f a.bytes.now a.at a.sheet.now g.new.room g.result g.ensures _ c.in_ok-n.ensures.ok_part g.auto.room a.firsts.now s.result s.ensures
    c.if-standing_capacity-n.false b.result b.ensures c.new-ix.result c.new-ix.ensures a.entries.now a.starts.now e.new.entries e.new.starts e.result
    e.new.firsts e.auto.firsts e.ensures.0 e.ensures.1 e.ensures.2 c.if-not-enter_copy.false
