use mathlib.Core.Path.{◌∙◌}
use native.Mathlib.Omega.{arith}
use Rattle.index.specs.Buckets.{buckets}
use Rattle.gaps.proofs.Tail.{tail_rise, tail_more, tail_fits, opened_tail}
use Rattle.gaps.proofs.open_all.Goals as goal

pub bounds-starts-end : goal.bounds-starts-end
bounds-starts-end c = omega (arith, c.requires.0, c.requires.4)

pub bounds-starts-512 : goal.bounds-starts-512
bounds-starts-512 c = omega (arith, c.requires.0)

pub move_block-requires : goal.move_block-requires
move_block-requires c = let p = c.requires in (p.1 c.args.end buckets p.4 (omega arith), p.3)

pub shift-requires : goal.shift-requires
shift-requires c = let p = c.requires in
    (omega (arith, p.0, p.4), λ d a h. (let y = p.1 d buckets (omega (arith, p.0)) (omega (arith, p.0)) in omega (arith, p.3)))

pub open_gaps-requires : goal.open_gaps-requires
open_gaps-requires c = let g = c.args in
    let p = c.requires in
    let M = c.move_block.ensures in
    let S = c.shift.ensures in (
      S.size ∙ p.0,
      p.4,
      tail_rise g.end g.more g.starts.now p.6.0 g.entries.now _ _ p.1 p.0 p.4 p.6.2
          (λ d h a. p.6.1.late d h (omega arith)) M S,
      p.2,
      tail_fits g.end g.more g.starts.now p.6.0 g.entries.now _ _ p.1 p.0 p.4
          p.6.2 (λ d h a. p.6.1.late d h (omega arith)) M S p.3,
      p.5,
      (
        p.6.0,
        p.6.1,
        tail_more g.end g.more g.starts.now p.6.0
            g.entries.now _ _ p.1 p.0 p.4 p.6.2 (λ d h a. p.6.1.late d h (omega arith)) M S,
      ),
    )

pub shape_of-entries : goal.shape_of-entries
shape_of-entries c = c.open_gaps.auto.entries ∙ c.move_block.auto.s

pub shape_of-starts : goal.shape_of-starts
shape_of-starts c = c.open_gaps.auto.starts ∙ c.shift.auto.starts

pub returns : goal.returns
returns c = let g = c.args in
    let p = c.requires in
    let M = c.move_block.ensures in
    let S = c.shift.ensures in
    λ G K e. opened_tail g.end g.more g.starts.now G g.entries.now _ _ p.1 p.0 p.4 e (λ d h a. K.late d h (omega arith)) M S _ _
    (c.open_gaps.ensures G K (tail_more g.end g.more g.starts.now G g.entries.now _ _ p.1 p.0 p.4 e
    (λ d h a. K.late d h (omega arith)) M S))
