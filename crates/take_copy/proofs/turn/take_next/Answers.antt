-- `take_copy::turn::take_next` meets its contract. Assumes nothing.
use Prim.Native.Nat.{◌/◌}
use native.Mathlib.Omega.{arith}
use mathlib.Core.Path.{◌∙◌}
use lib.ListN.{length}
use borrow.Author.Rules.{rules}
use Rattle.step.proofs.Allowed.{taken-few, slots-few}
use Rattle.take_copy.proofs.turn.KeptTurn.{grown}
use Rattle.take_copy.proofs.turn.Passes.{turn_passes}
use Rattle.take_copy.proofs.turn.Turns.{doubles, slot_room, few-turns, turn_counts, turn_fixed, turn_standing, turn_apart, turn_sheet_firsts, turn_firsts}
use Rattle.take_copy.proofs.turn.Turns.{turn_bounds, turn_resolving, turn_long, turn_shapes, code_now, turn_step, laid_by, kept_by}
use Rattle.take_copy.proofs.turn.take_next.Goals as goal

pub place_kept-step-requires : goal.place_kept-step-requires
place_kept-step-requires c = let a = c.args in
    let p = c.requires in
    let q = p.0 in
    let B = q.6 in
    let G = q.7 in
    let k = a.tracks.now in
    let D = doubles B k G c.type_inv.shapes (search rules) in (
      turn_fixed B k G a.copy q.8 D (length a.room.now / 2),
      slot_room B k G a.copy q.8,
      few-turns B k G a.copy q.8,
      p.2,
      turn_counts B k G a.copy q.8 D,
      turn_standing B k G D,
      p.3,
      turn_apart B k G,
      turn_sheet_firsts B k G,
      turn_firsts B k G,
    )

pub turned-requires : goal.turned-requires
turned-requires c = let a = c.args in
    let p = c.requires in
    let q = p.0 in
    let B = q.6 in
    let G = q.7 in
    let k = a.tracks.now in
    let s = c.place_kept-step in
    let D = doubles B k G c.type_inv.shapes (search rules) in (
      grown _ _ _ _ _ _ _ _ _ _ _ _ _ _ _ _ _ _ s.ensures.0.1,
      s.ensures.1.room,
      turn_bounds B k G D,
      turn_resolving B k G D,
      taken-few G,
      slots-few G a.copy q.8,
      turn_long B k G,
      omega (arith, p.2, s.auto.tracks),
      turn_shapes B k G D a.copy q.8,
      s.ensures.2,
      p.1,
    )

pub returns : goal.returns
returns c = let a = c.args in
    let s = c.place_kept-step in
    let u = c.turned in
    let k = a.tracks.now in
    let e = u.ensures in (
      (λ j b order rows areas whole intervals B G f l. (
        turn_step B k G intervals s.result s.ensures.0.0 _ _ _ _ _ u.result.totals e.1 _ _ _ _
            (s.ensures.0.1 ∙ code_now B k G intervals a.room.now l a.copy f)
            s.ensures.3 u.result.verdict e.0 s.ensures.0.2 s.ensures.0.3 e.3 e.4 e.5 e.6,
        (λ h. e.2 h ∙ turn_passes B k G c.requires.1 a.copy f s.result u.result.totals e.1 u.result.verdict h _ _ _ _ _ _ _ _
            e.3 e.4 e.5 e.6),
      )),
      laid_by _ _ _ _ _ s.result.totals e.1 s.ensures.1,
      kept_by _ _ _ _ s.result.totals e.1 s.ensures.3.kept,
    )
