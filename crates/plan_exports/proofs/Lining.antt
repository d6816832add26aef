-- The number, the line and the rooms of a judged layout's reply. Assumes nothing.
use Prim.Native.Nat.{ℕ}
use mathlib.Core.Path.{◌≡◌, ap, ◌∙◌}
use mathlib.Core.List.{List}
use lib.ListN.{set}
use Rattle.filling.specs.Refusals.{verdict_number}
use Rattle.filling.specs.Rooms.{Rooms}
use Rattle.layouts.specs.declared.Judgement.{Judgement}
use Rattle.layouts.specs.Layouts.{layout_of}
use Rattle.judge_layout.specs.Judging.{judged}
use Rattle.plan_exports.specs.Lined.{LinedRooms, lined_reply, lined_layout}

same : (a b : ℕ) (k l : List ℕ) (w : Rooms) → a ≡ b → k ≡ l
    → ◌≡◌ {A = LinedRooms} (record { number = a; line = k; rooms = w }) (record { number = b; line = l; rooms = w })
same a b k l w e f = rw (e, f)

pub lined_as : (bytes given line after : List ℕ) (w left : Rooms) (r : Judgement) (n : ℕ) → n ≡ verdict_number r.verdict → after ≡ set line 0 r.line
    → judged r left ≡ layout_of bytes given w → record { number = n; line = after; rooms = left } ≡ lined_layout bytes given line w
unfolding lined_layout lined_reply
lined_as bytes given line after w left r n e f g =
    same n (verdict_number r.verdict) after (set line 0 r.line) left e f ∙ ap (lined_reply line) g
