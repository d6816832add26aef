-- Document 01, "The printed plan": the lines as bytes. Definitions only. Assumes nothing.
use Rattle.std.specs.Prelude.{Result, Ok, Err, ℕ, zero, suc, ◌+◌, ◌*◌, ◌/◌, ◌%◌, Bool, true, false, length, get_or, ltb, eqb, Float}
use mathlib.Core.List.{List, [], ◌∷◌, ◌++◌, flat_map}
use Rattle.std.specs.Float.{nan, binary64}
use Rattle.std.specs.Float.Ieee.{to_bits, to_unsigned}
use Rattle.index.specs.Buckets.{up_from}
use Rattle.job.specs.Jobs.{Job, Answer, accepted, refused, read_job}
use Rattle.filling.specs.declared.Plan.{Plan}
use Rattle.filling.specs.declared.Refusal.{Refusal}
use Rattle.filling.specs.declared.Refusal.TheVariants as Why
use Rattle.filling.specs.Refusals.{number_of}
use Rattle.filling.specs.Rooms.{Lent}
use Rattle.filling.specs.Accounts.{Position}
use Rattle.filling.specs.Fill.{Planned}
use Rattle.nesting.specs.CopyOrder.{numbered}
use Rattle.nesting.specs.Nest.{nest_of}

-- "Counts are decimal": n has at most so many digits
unfoldable pub decimal_up_to : ℕ → ℕ → List ℕ
decimal_up_to zero n = []
decimal_up_to (suc d) n = elim (ltb n 10) [ true ↦ (48 + n) ∷ [] | false ↦ decimal_up_to d (n / 10) ++ ((48 + n % 10) ∷ []) ]

-- a count fits 64 bits, and has at most 20 digits
unfoldable pub decimal : ℕ → List ℕ
decimal n = decimal_up_to 20 n

-- "lower-case hex digits"
unfoldable pub hex_digit : ℕ → ℕ
hex_digit d = elim (ltb d 10) [ true ↦ 48 + d | false ↦ 87 + d ]

-- d hex digits of n
unfoldable pub hex_up_to : ℕ → ℕ → List ℕ
hex_up_to zero n = []
hex_up_to (suc d) n = hex_up_to d (n / 16) ++ (hex_digit (n % 16) ∷ [])

-- "doubles 16 lower-case hex digits"
unfoldable pub hex : Float → List ℕ
hex x = hex_up_to 16 (to_bits binary64 x)

-- a word and what follows it, each after a blank; the line ends with a newline
unfoldable pub line : List ℕ → List (List ℕ) → List ℕ
line word fields = word ++ (flat_map (λ f. 32 ∷ f) fields ++ (10 ∷ []))

-- the words: plan, put, left, fill, look, right, area, offcut, no
abbrev pub plan_word : List ℕ
plan_word = 112 ∷ 108 ∷ 97 ∷ 110 ∷ []

-- put
abbrev pub put_word : List ℕ
put_word = 112 ∷ 117 ∷ 116 ∷ []

-- left
abbrev pub left_word : List ℕ
left_word = 108 ∷ 101 ∷ 102 ∷ 116 ∷ []

-- fill
abbrev pub fill_word : List ℕ
fill_word = 102 ∷ 105 ∷ 108 ∷ 108 ∷ []

-- look
abbrev pub look_word : List ℕ
look_word = 108 ∷ 111 ∷ 111 ∷ 107 ∷ []

-- right
abbrev pub right_word : List ℕ
right_word = 114 ∷ 105 ∷ 103 ∷ 104 ∷ 116 ∷ []

-- area
abbrev pub area_word : List ℕ
area_word = 97 ∷ 114 ∷ 101 ∷ 97 ∷ []

-- offcut
abbrev pub offcut_word : List ℕ
offcut_word = 111 ∷ 102 ∷ 102 ∷ 99 ∷ 117 ∷ 116 ∷ []

-- no
abbrev pub no_word : List ℕ
no_word = 110 ∷ 111 ∷ []

-- "`plan`: placed copies, copies without a place (fill kinds too), improvements."
unfoldable pub plan_line : Plan → List ℕ
plan_line p = line plan_word (decimal p.placed ∷ decimal p.unplaced ∷ decimal p.improvements ∷ [])

-- the position number i of the position room
unfoldable pub position_at : List Float → ℕ → Position
position_at room i =
    record {
      kind = to_unsigned 64 (get_or room (6 * i) nan);
      copy = to_unsigned 64 (get_or room (6 * i + 1) nan);
      orientation = to_unsigned 64 (get_or room (6 * i + 2) nan);
      x = get_or room (6 * i + 3) nan;
      y = get_or room (6 * i + 4) nan;
      gap = get_or room (6 * i + 5) nan;
    }

-- "`put`: kind, copy, orientation, x, y."; document 02, W7: "`put` lines gain a sixth field, the gap's double bits"
unfoldable pub put_line : Position → List ℕ
put_line p = line put_word (decimal p.kind ∷ decimal p.copy ∷ decimal p.orientation ∷ hex p.x ∷ hex p.y ∷ hex p.gap ∷ [])

-- one line for each position
unfoldable pub put_lines : Plan → List Float → List ℕ
put_lines p room = flat_map (λ i. put_line (position_at room i)) (up_from p.placed 0)

-- "`left`: ordinary kind and missing copies, if any."
unfoldable pub left_line : ℕ → Bool → ℕ → List ℕ
left_line k true n = []
left_line k false n = elim (eqb n 0) [ true ↦ [] | false ↦ line left_word (decimal k ∷ decimal n ∷ []) ]

-- one line for each ordinary kind with missing copies
unfoldable pub left_lines : Job → Plan → List ℕ
left_lines j p = flat_map (λ a. left_line a.number a.kind.fill (get_or p.unplaced_of a.number 0)) (numbered 0 j.kinds)

-- "`fill` (after the left lines): each fill kind and its placed copies."
unfoldable pub fill_line : ℕ → Bool → ℕ → List ℕ
fill_line k false n = []
fill_line k true n = line fill_word (decimal k ∷ decimal n ∷ [])

-- one line for each fill kind
unfoldable pub fill_lines : Job → Plan → List ℕ
fill_lines j p = flat_map (λ a. fill_line a.number a.kind.fill (get_or p.placed_of a.number 0)) (numbered 0 j.kinds)

-- "`look`: each kind and orientation, columns looked at in the kept filling."
unfoldable pub look_line : Plan → ℕ → ℕ → List ℕ
look_line p k o = line look_word (decimal k ∷ decimal o ∷ decimal (get_or p.look_counts (16 * k + o) 0) ∷ [])

-- one line for each kind and orientation
unfoldable pub look_lines : Job → Plan → List ℕ
look_lines j p = flat_map (λ a. flat_map (look_line p a.number) (up_from (length a.kind.orientations) 0)) (numbered 0 j.kinds)

-- "Then right, unplaced area, offcut."
unfoldable pub last_lines : Plan → List ℕ
last_lines p = line right_word (hex p.right ∷ []) ++ (line area_word (hex p.unplaced_area ∷ []) ++ line offcut_word (hex p.offcut ∷ []))

-- the lines in their order
unfoldable pub plan_text : Job → Plan → List Float → List ℕ
plan_text j p room = plan_line p ++ (put_lines p room ++ (left_lines j p ++ (fill_lines j p ++ (look_lines j p ++ last_lines p))))

-- "A refusal prints `no` and the number."
unfoldable pub refusal_text : Refusal → List ℕ
refusal_text r = line no_word (decimal (number_of r) ∷ [])

-- what is printed for a reply
unfoldable pub reply_text : Job → Planned → Result (Unit {0}) Refusal → List ℕ
reply_text j r (Ok tt) = plan_text j r.plan r.lent.positions
reply_text j r (Err k) = refusal_text k

-- "A refusal prints `no` and the number": of a job that is refused its own, of another what the reply says
unfoldable pub printed_for : Answer → Planned → List ℕ
printed_for (refused k) r = refusal_text (Why.Job k)
printed_for (accepted j) r = reply_text j r r.verdict

-- the text of a whole plan
unfoldable pub printed : List ℕ → Lent → List ℕ
printed bytes l = printed_for (read_job bytes) (nest_of bytes l)
