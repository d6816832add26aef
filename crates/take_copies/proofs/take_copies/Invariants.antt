use Prim.Native.Nat.{◌-◌}
use Rattle.take_copies.proofs.Running.{Running}
use Rattle.take_copies.proofs.take_copies.Given as goal

abbrev pub invariant-loop-took : goal.invariant-loop-took
invariant-loop-took l = Running
    (record {
      most = l.most;
      taken = l.taken;
      grid = l.g;
      totals = l.initial.last.totals;
      order = l.order;
      rows = l.rows;
      areas = l.areas;
      inset_bounds = l.inset_bounds;
      parts = l.parts;
      shapes = l.shapes;
      sheet = l.sheet;
      sheet_entries = l.sheet_entries;
      sheet_starts = l.sheet_starts;
      sheet_firsts = l.sheet_firsts;
    })
    (record {
      placed = l.initial.placed;
      entries = l.initial.entries;
      starts = l.initial.starts;
      gains = l.initial.gains;
      room = l.initial.room;
      tracks = l.initial.tracks;
      orientation = l.initial.orientation;
      x = l.initial.x;
      y = l.initial.y;
      gap = l.initial.gap;
      firsts = l.initial.firsts;
    })
    (record {
      placed = l.placed;
      entries = l.entries;
      starts = l.starts;
      gains = l.gains;
      room = l.room;
      tracks = l.tracks;
      orientation = l.orientation;
      x = l.x;
      y = l.y;
      gap = l.gap;
      firsts = l.firsts;
    }) l.last l.took l.end

abbrev pub decreases-loop-took : goal.decreases-loop-took
decreases-loop-took l = l.end - l.took
