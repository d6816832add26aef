-- `slabs::winding::close` meets its contract. Assumes nothing.
use mathlib.Core.Path.{sym, ◌∙◌}
use Rattle.slabs.proofs.Storing.{piece-kept, piece-none}
use Rattle.slabs.proofs.winding.close.Goals.{else-closed-via-then-closed+else-kept, else-closed-via-else-closed}
use Rattle.slabs.proofs.winding.close.Goals as goal

pub returns-then-kept : goal.returns-then-kept
returns-then-kept c = let a = c.args in
    c.put.ensures ∙ sym (piece-kept (record { room = a.room.now; count = a.n }) a.closed a.s (rw (c.if-closed.true, ← c.kept.ensures, c.if-kept.true)))

pub returns-else-closed : goal.returns-else-closed
returns-else-closed c = let a = c.args in
    sym (piece-none (record { room = a.room.now; count = a.n }) a.closed a.s (elim c.else-closed.branch [
      | else-closed-via-then-closed+else-kept w ↦ rw (w.if-closed.true, ← w.kept.ensures, w.if-kept.false)
      | else-closed-via-else-closed w ↦ rw w.if-closed.false
    ]))
