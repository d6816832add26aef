-- `accounts::put` meets its contract. Assumes nothing.
use Rattle.std.proofs.Common.{◌+◌, get_or, ◌∙◌, arith}
use Rattle.accounts.proofs.Counts.{stands-some}
use Rattle.accounts.proofs.Segments.{put-none, put-none-room, put_some, put-some-room}
use Rattle.accounts.proofs.put.Goals as goal

pub returns-then-number-eq0 : goal.returns-then-number-eq0
returns-then-number-eq0 c = let a = c.args in (
  put-none a.copies.now a.k a.number c.if-number-eq0.true,
  put-none-room a.room.now (get_or a.starts.now a.k 0 + get_or a.copies.now a.k 0) a.k (get_or a.copies.now a.k 0) a.number a.x
      a.y a.gap c.if-number-eq0.true,
)

pub store_position-requires : goal.store_position-requires
store_position-requires c = let a = c.args in let e = stands-some a.number c.if-number-eq0.false in let p = c.requires.2 in omega arith

pub returns : goal.returns
returns c = let a = c.args in let h = c.if-number-eq0.false in (
  put_some a.copies.now a.k a.number h,
  c.store_position.ensures ∙ put-some-room a.room.now (get_or a.starts.now a.k 0 + get_or a.copies.now a.k 0) a.k
      (get_or a.copies.now a.k 0) a.number a.x a.y a.gap h,
)
