-- Document 02, W1: a job with its sets in its frame, planned at the lower left, and the positions of its plan back on the sheet. Definitions only.
-- Assumes nothing.
use Rattle.std.specs.Prelude.{List, [], ◌∷◌, map, Float}
use Rattle.kinds.specs.Kinds.{Orientation, Kind}
use Rattle.frames.specs.declared.Frame.{Frame}
use Rattle.frames.specs.Frames.{lower_left, from, framed}
use Rattle.job.specs.declared.Header.{Header}
use Rattle.job.specs.Jobs.{Job, frame_of}
use Rattle.filling.specs.Fill.{Planned}

-- "Loops go through `to`": both sets of an orientation
unfoldable pub framed_orientation : Frame → Orientation → Orientation
framed_orientation f o = record { apart = framed f o.apart; inset = framed f o.inset }

-- a kind's orientations in the frame, all else as it is
unfoldable pub framed_kind : Frame → Kind → Kind
framed_kind f k =
    record {
      quantity = k.quantity;
      fill = k.fill;
      priority = k.priority;
      area = k.area;
      orientations = map (framed_orientation f) k.orientations;
    }

-- "version 1 stays and means lower left, filling along y", all else as it is
unfoldable pub lower_left_header : Header → Header
lower_left_header h =
    record {
      version = 1;
      corner = lower_left.corner;
      axis = lower_left.axis;
      kinds = h.kinds;
      rounds = h.rounds;
      seed = h.seed;
      resolution = h.resolution;
    }

-- the job whose sets are this job's sets in its frame, planned at the lower left
unfoldable pub framed_job : Job → Job
framed_job j =
    record {
      header = lower_left_header j.header;
      sheet = framed (frame_of j.header) j.sheet;
      kinds = map (framed_kind (frame_of j.header)) j.kinds;
      copies = j.copies;
    }

-- "positions back through `from`": x and y of each six doubles of a position room; fewer than six at its end stay
unfoldable pub room_on_sheet : Frame → List Float → List Float
room_on_sheet f (kind ∷ copy ∷ orientation ∷ x ∷ y ∷ gap ∷ room) =
    let p = from f (record { x = x; y = y }) in kind ∷ copy ∷ orientation ∷ p.x ∷ p.y ∷ gap ∷ room_on_sheet f room
room_on_sheet f [] = []
room_on_sheet f (a ∷ []) = a ∷ []
room_on_sheet f (a ∷ b ∷ []) = a ∷ b ∷ []
room_on_sheet f (a ∷ b ∷ c ∷ []) = a ∷ b ∷ c ∷ []
room_on_sheet f (a ∷ b ∷ c ∷ d ∷ []) = a ∷ b ∷ c ∷ d ∷ []
room_on_sheet f (a ∷ b ∷ c ∷ d ∷ e ∷ []) = a ∷ b ∷ c ∷ d ∷ e ∷ []

-- a reply with its position room back on the sheet
unfoldable pub planned_on_sheet : Frame → Planned → Planned
planned_on_sheet f r =
    record {
      verdict = r.verdict;
      plan = r.plan;
      lent = record { rooms = r.lent.rooms; intervals = r.lent.intervals; positions = room_on_sheet f r.lent.positions };
    }
