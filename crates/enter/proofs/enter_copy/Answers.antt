-- `enter_copy`: the strips are entered, and their first buckets written, or nothing is. Assumes nothing.
use mathlib.Core.Path.{◌≡◌, refl, sym, subst}
use mathlib.Core.Bool.{Bool, true≢false}
use Rattle.enter.specs.inner.Gaps.{rooms, entering}
use Rattle.enter.specs.inner.EntryRoom.{enter_of}
use Rattle.enter.proofs.enter_copy.Goals as goal

pub enter_strips-requires : goal.enter_strips-requires
enter_strips-requires c = let p = c.requires in (p.0, p.1, p.2, p.3, p.4)

pub keep_firsts-requires : goal.keep_firsts-requires
keep_firsts-requires c = let p = c.requires in (p.0, p.1, p.5)

pub returns-then-enter_strips : goal.returns-then-enter_strips
returns-then-enter_strips c = let g = c.args in
    let s = c.enter_strips in
    let l = s.new in (
      subst (λ (b : Bool). entering b l.entries l.starts ≡ enter_of g.ix g.standing.now g.to (rooms g.entries.now g.starts.now)) c.if-enter_strips.true
          s.ensures.0,
      λ q. s.ensures.1 c.if-enter_strips.true,
      λ q. c.keep_firsts.ensures,
      λ q. absurd (true≢false q),
    )

pub returns : goal.returns
returns c = let g = c.args in
    let s = c.enter_strips in
    let l = s.new in (
      subst (λ (b : Bool). entering b l.entries l.starts ≡ enter_of g.ix g.standing.now g.to (rooms g.entries.now g.starts.now)) c.if-enter_strips.false
          s.ensures.0,
      λ q. absurd (true≢false (sym q)),
      λ q. absurd (true≢false (sym q)),
      λ q. refl,
    )

pub shape_of-entries-then-enter_strips : goal.shape_of-entries-then-enter_strips
shape_of-entries-then-enter_strips c = c.enter_strips.auto.entries

pub shape_of-starts-then-enter_strips : goal.shape_of-starts-then-enter_strips
shape_of-starts-then-enter_strips c = c.enter_strips.auto.starts

pub shape_of-gains-then-enter_strips : goal.shape_of-gains-then-enter_strips
shape_of-gains-then-enter_strips c = c.enter_strips.auto.gains

pub shape_of-firsts-then-enter_strips : goal.shape_of-firsts-then-enter_strips
shape_of-firsts-then-enter_strips c = c.keep_firsts.auto.firsts

pub shape_of-entries : goal.shape_of-entries
shape_of-entries c = c.enter_strips.auto.entries

pub shape_of-starts : goal.shape_of-starts
shape_of-starts c = c.enter_strips.auto.starts

pub shape_of-gains : goal.shape_of-gains
shape_of-gains c = c.enter_strips.auto.gains
