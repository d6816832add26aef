-- `kinds::read_kinds` meets its contract. Assumes nothing.
use Rattle.kinds.proofs.Rows.{kinds-start, kinds_on, kinds-end, kinds_all}
use Rattle.std.proofs.Common.{arith, rules}
use Rattle.kinds.proofs.read_kinds.Goals as goal

pub loop-i-init : goal.loop-i-init
loop-i-init c =
    kinds-start c.args.bytes.now c.args.at c.args.n c.args.rows.now c.args.areas.now c.args.places.now c.args.room.now c.args.ends.now

pub returns-in_err-h : goal.returns-in_err-h
returns-in_err-h c = search (
  rules,
  kinds-end c.args.bytes.now c.args.at c.args.n c.args.rows.now c.args.areas.now c.args.places.now c.args.room.now c.args.ends.now c.loop-i.rows
      c.loop-i.areas c.loop-i.places c.loop-i.room c.loop-i.ends c.loop-i.i c.loop-i.p c.loop-i.copies c.loop-i.invariant c.in_err-h.ensures.0
      (omega arith),
)

pub loop-i-preserved : goal.loop-i-preserved
loop-i-preserved c =
    kinds_on c.args.bytes.now c.args.at c.args.n c.args.rows.now c.args.areas.now c.args.places.now c.args.room.now c.args.ends.now c.loop-i.rows
    c.loop-i.areas c.loop-i.places c.loop-i.room c.loop-i.ends c.loop-i.i c.loop-i.p c.loop-i.copies c.loop-i.invariant c.put_head.new.rows
    c.put_head.new.areas c.read_kind.new.places c.read_kind.new.room c.read_kind.new.ends c.in_ok-h.q c.in_ok-h.h
    (record {
      read = c.in_ok-h.ensures.0;
      head = c.put_head.ensures.0;
      quantity = c.in_ok-h.ensures.1.0;
      turns = c.in_ok-h.ensures.1.1;
      place = c.in_ok-h.ensures.1.2;
      kept_r = c.put_head.ensures.1;
      kept_a = c.put_head.ensures.2;
      kept_p = c.read_kind.ensures.2;
      long_r = c.put_head.auto.rows;
      long_a = c.put_head.auto.areas;
      long_p = c.read_kind.auto.places;
      long_room = c.read_kind.auto.room;
      long_ends = c.read_kind.auto.ends;
    })
    (omega arith)

pub returns : goal.returns
returns c =
    kinds_all c.args.bytes.now c.args.at c.args.n c.args.rows.now c.args.areas.now c.args.places.now c.args.room.now c.args.ends.now c.loop-i.rows
    c.loop-i.areas c.loop-i.places c.loop-i.room c.loop-i.ends c.loop-i.i c.loop-i.p c.loop-i.copies c.loop-i.invariant (omega arith)
