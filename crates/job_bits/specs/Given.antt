-- Document 02, W9, "the job it was given": a job as tables, judged field by field in the reader's order. rows and areas have four numbers and one for each
-- kind (head_at); counts has for each set, in the job's order, its loops, then each loop's points; coordinates the x and y of all points, in the job's order.
-- What a table lacks is 0, or no number. Definitions only. Assumes nothing.
use Rattle.std.specs.Prelude.{Result, Ok, Err, ℕ, zero, suc, ◌+◌, ◌^◌, Bool, ◌&&◌, cond, List, [], ◌∷◌, ◌++◌, get_or, leb, ltb, eqb, Float}
use Rattle.std.specs.Float.{nan, binary64}
use Rattle.std.specs.Float.Ieee.{lt, to_bits}
use Rattle.numbers.specs.Numbers.{◌⊘◌, from_int}
use Rattle.bits.specs.declared.Refusal.{Refusal}
use Rattle.bits.specs.declared.Refusal.TheVariants.{UnknownVersion, CountOutOfRange, TooManyCopies, TooManyColumns}
use Rattle.bits.specs.Fields.{Field, kinds_field, quantity_field, orientations_field, loops_field, judge_count, judge_points}
use Rattle.bits.specs.Fields.{Range, coordinate_range, area_range, resolution_range, judge_number}
use Rattle.job.specs.declared.Header.{Header}
use Rattle.kinds.specs.declared.KindHead.{KindHead}
use Rattle.kinds.specs.sets.Sets.{Set}
use Rattle.kinds.specs.Kinds.{Orientation, Kind, head_at, kind_of, copies_of}
use Rattle.frames.specs.Frames.{lower_left}
use Rattle.job.specs.Jobs.{Job, framed_width, Answer, accepted, refused}

-- what is taken, and the places in counts and coordinates after it; or the first refusal met
pub data Taken (A : Type 0) : Type 0 where
  ok : A → ℕ → ℕ → Taken A
  bad : Refusal → Taken A

abbrev pub Taker : Type 0 → Type 0
Taker A = List ℕ → List Float → ℕ → ℕ → Taken A

unfoldable pub after : {A B : Type 0} → Taken A → (A → ℕ → ℕ → Taken B) → Taken B
after (ok a c x) f = f a c x
after (bad k) f = bad k

infixl 55 ◌>>=◌
infixl 55 ◌>>◌
abbrev pub ◌>>=◌ : {A B : Type 0} → Taker A → (A → Taker B) → Taker B
◌>>=◌ m f cs xs c x = after (m cs xs c x) (λ a d y. f a cs xs d y)

abbrev pub ◌>>◌ : {A B : Type 0} → Taker A → Taker B → Taker B
◌>>◌ m f cs xs c x = after (m cs xs c x) (λ a d y. f cs xs d y)

abbrev pub give : {A : Type 0} → A → Taker A
give a cs xs c x = ok a c x

-- ---- numbers

abbrev pub counted : Result ℕ Refusal → ℕ → ℕ → Taken ℕ
counted (Ok n) c x = ok n c x
counted (Err k) c x = bad k

abbrev pub measured : Result Float Refusal → ℕ → ℕ → Taken Float
measured (Ok v) c x = ok v c x
measured (Err k) c x = bad k

-- a count that is given
abbrev pub count : Field → ℕ → Taker ℕ
count f n cs xs c x = counted (judge_count f.least f.most n) c x

-- "any number but the version too large for its field with 6 at that field"
abbrev pub fits : ℕ → ℕ → Taker (Unit {0})
fits w n cs xs c x = cond (ltb n (2 ^ w)) (ok tt c x) (bad CountOutOfRange)

-- a double that is given, judged by the bits that would be written. "Minus zero counts as plus zero"
abbrev pub number : Range → Float → Taker Float
number r v cs xs c x = measured (judge_number r.least r.most (to_bits binary64 v)) c x

-- the next count of the table, and the next coordinate
unfoldable pub next_loops : Taker ℕ
next_loops cs xs c x = counted (judge_count loops_field.least loops_field.most (get_or cs c 0)) (suc c) x

unfoldable pub next_points : ℕ → Taker ℕ
next_points before cs xs c x = counted (judge_points before (get_or cs c 0)) (suc c) x

unfoldable pub next_coordinate : Taker Float
next_coordinate cs xs c x = measured (judge_number coordinate_range.least coordinate_range.most (to_bits binary64 (get_or xs x nan))) c (suc x)

-- ---- sets

-- n points
unfoldable pub given_points : ℕ → Taker (List Float)
given_points zero = give []
given_points (suc n) = do
  a ← next_coordinate
  b ← next_coordinate
  ps ← given_points n
  give (a ∷ b ∷ ps)

-- n loops of a set that has so many points before them
unfoldable pub given_loops : ℕ → ℕ → Taker Set
given_loops zero before = give (record { points = []; ends = [] })
given_loops (suc n) before = do
  m ← next_points before
  ps ← given_points m
  s ← given_loops n (before + m)
  give (record { points = ps ++ s.points; ends = (before + m) ∷ s.ends })

unfoldable pub given_set : Taker Set
given_set = do
  n ← next_loops
  given_loops n 0

-- ---- kinds

unfoldable pub given_orientation : Taker Orientation
given_orientation = do
  a ← given_set
  i ← given_set
  give (record { apart = a; inset = i })

unfoldable pub given_orientations : ℕ → Taker (List Orientation)
given_orientations zero = give []
given_orientations (suc n) = do
  o ← given_orientation
  os ← given_orientations n
  give (o ∷ os)

unfoldable pub given_head : KindHead → Taker KindHead
given_head h = do
  q ← count quantity_field h.quantity
  fits 1 h.fill
  fits 32 h.priority
  a ← number area_range h.area
  n ← count orientations_field h.orientations
  give (record { quantity = q; fill = h.fill; priority = h.priority; area = a; orientations = n })

unfoldable pub given_kind : KindHead → Taker Kind
given_kind g = do
  h ← given_head g
  os ← given_orientations h.orientations
  give (kind_of h os)

-- n kinds, from kind k on
unfoldable pub given_kinds : List ℕ → List Float → ℕ → ℕ → Taker (List Kind)
given_kinds rows areas zero k = give []
given_kinds rows areas (suc n) k = do
  a ← given_kind (head_at rows areas k)
  ks ← given_kinds rows areas n (suc k)
  give (a ∷ ks)

-- ---- the job

-- 3, W1: "It refuses versions other than 1 and 2 with 3"; "version 1 with another frame is refused with 3"
unfoldable pub version_fits : Header → Bool
version_fits h = cond (eqb h.version 1) (eqb h.corner lower_left.corner && eqb h.axis lower_left.axis) (eqb h.version 2)

abbrev pub versioned : Header → Taker (Unit {0})
versioned h cs xs c x = cond (version_fits h) (ok tt c x) (bad UnknownVersion)

unfoldable pub given_frame : Header → Taker (Unit {0})
given_frame h = do
  fits 2 h.corner
  fits 1 h.axis

unfoldable pub given_version : Header → Taker (Unit {0})
given_version h = do
  versioned h
  given_frame h

unfoldable pub given_front : Header → Taker Header
given_front h = do
  k ← count kinds_field h.kinds
  fits 12 h.rounds
  fits 64 h.seed
  r ← number resolution_range h.resolution
  give (record { version = h.version; corner = h.corner; axis = h.axis; kinds = k; rounds = h.rounds; seed = h.seed; resolution = r })

unfoldable pub given_header : Header → Taker Header
given_header h = do
  given_version h
  given_front h

unfoldable pub given_fields : Header → List ℕ → List Float → Taker Job
given_fields g rows areas = do
  h ← given_header g
  s ← given_set
  ks ← given_kinds rows areas h.kinds 0
  give (record { header = h; sheet = s; kinds = ks; copies = copies_of ks })

-- "after the last field 2, 7, 8": 7: "more than 4,096 copies in all"; 8: "sheet width / resolution above 1,000,000", of the framed sheet
unfoldable pub sized : Job → Answer
sized j =
    cond (leb j.copies 4096)
    (cond (lt (from_int 1_000_000) (framed_width j ⊘ j.header.resolution)) (refused TooManyColumns) (accepted j))
    (refused TooManyCopies)

unfoldable pub judged : Taken Job → Answer
judged (ok j c x) = sized j
judged (bad k) = refused k

-- the job that the tables are, or why it is refused
unfoldable pub given_job : Header → List ℕ → List Float → List ℕ → List Float → Answer
given_job h rows areas counts coordinates = judged (given_fields h rows areas counts coordinates 0 0)
