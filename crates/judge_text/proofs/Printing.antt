-- What the text of a judged layout leaves in its buffer, and how much of the input it needs. Assumes nothing.
use Rattle.std.specs.Prelude.{Result, Ok, Err}
use Prim.Native.Nat.{ℕ, suc, ◌-◌, ◌*◌, ◌/◌, ◌<◌, ◌≤◌}
use native.Mathlib.Omega.{arith}
use mathlib.Core.Path.{◌≡◌, sym, ap, ap₂, subst, ◌∙◌}
use mathlib.Core.Logic.{inl, inr}
use mathlib.Core.List.{List, ◌++◌}
use lib.ListN.{length, take, drop, length-drop, length-replicate}
use lib.Ieee.{Float}
use lib.Seq.{length-take-le, take_all, take_at}
use borrow.Author.Tests.{lt-ltb, le-ltb}
use Rattle.numbers.proofs.Truth.{below_or_not}
use Rattle.filling.specs.declared.Refusal.{Refusal}
use Rattle.filling.specs.Refusals.{number_of}
use Rattle.filling.specs.Rooms.{Rooms, rooms_of}
use Rattle.plan_text.specs.Program.{longest_job, overlong_number, Buffered, text_in, strip_room, entry_room, first_room, program_rooms}
use Rattle.layouts.specs.declared.Judgement.{Judgement}
use Rattle.layouts.specs.Layouts.{Judged, layout_of}
use Rattle.put_lines.specs.declared.ListError.{ListError}
use Rattle.put_lines.specs.declared.ListError.TheVariants.{Malformed, TooMany}
use Rattle.put_lines.specs.PutLines.{PutList, put_list}
use Rattle.put_lines.specs.inner.Storing.{list_in}
use Rattle.put_lines.proofs.Listing.{Fitting, fitting}
use Rattle.judge_text.specs.Judging.{most_lines, many_number, malformed_number, longest_input, accepted_line, no_line, verdict_line}
use Rattle.judge_text.specs.inner.Room.{number_room}
use Rattle.judge_text.specs.Judging.{judgement_line, job_line, found_line, list_line, judged_text, judge_buffer, judge_answer}

-- ---- the buffer

pub answer_short : (bytes out : List ℕ) → length out < judge_buffer → record { end = 0; out = out } ≡ judge_answer bytes out
unfolding judge_answer
answer_short bytes out h = rw (lt-ltb (length out) judge_buffer h)

answer-long : (bytes out : List ℕ) (t : List ℕ) (b : Buffered) → judge_buffer ≤ length out → t ≡ judged_text bytes → b ≡ text_in t out → b ≡ judge_answer bytes out
unfolding judge_answer
answer-long bytes out t b h e f = rw (le-ltb (length out) judge_buffer h) (f ∙ ap (λ (x : List ℕ). text_in x out) e)

-- ---- 11

text_overlong : (bytes : List ℕ) → longest_input < length bytes → no_line overlong_number 0 ≡ judged_text bytes
unfolding judged_text
text_overlong bytes l = rw (lt-ltb longest_input (length bytes) l)

pub answer_overlong : (bytes out : List ℕ) (b : Buffered) → judge_buffer ≤ length out → longest_input < length bytes → b ≡ text_in (no_line overlong_number 0) out
    → b ≡ judge_answer bytes out
answer_overlong bytes out b h l e = answer-long bytes out (no_line overlong_number 0) b h (text_overlong bytes l) e

pub job_overlong : (job given : List ℕ) → longest_job < length job → no_line overlong_number 0 ≡ job_line job given
unfolding job_line
job_overlong job given l = rw (lt-ltb longest_job (length job) l)

-- ---- a verdict

pub verdict-accepted : (v : Result (Unit {0}) Refusal) (n : ℕ) (out : List ℕ) (b : Buffered) → v ≡ (Ok tt) → b ≡ text_in (accepted_line n) out → b ≡ text_in (verdict_line v n) out
unfolding verdict_line
verdict-accepted v n out b e f = rw e f

pub verdict-refused : (v : Result (Unit {0}) Refusal) (r : Refusal) (number n : ℕ) (out : List ℕ) (b : Buffered) → v ≡ Err r → number ≡ number_of r
    → b ≡ text_in (no_line number n) out → b ≡ text_in (verdict_line v n) out
unfolding verdict_line
verdict-refused v r number n out b e g f = rw e (f ∙ ap (λ (k : ℕ). text_in (no_line k n) out) g)

-- ---- a job and a list's numbers

-- the rooms that are lent are those of the definition
pub rooms_are : (a b c : List Float) (d e f g : List ℕ) → a ≡ strip_room → b ≡ strip_room → c ≡ strip_room
    → d ≡ entry_room → e ≡ entry_room → f ≡ first_room → g ≡ first_room → rooms_of a b c d e f g ≡ program_rooms.rooms
unfolding program_rooms
rooms_are a b c d e f g p q r s t u v = rw (p, q, r, s, t, u, v)

pub job-judged : (job given out : List ℕ) (w after : Rooms) (j : Judgement) (b : Buffered) → length job ≤ longest_job → w ≡ program_rooms.rooms
    → record { judgement = j; rooms = after } ≡ layout_of job given w → b ≡ text_in (verdict_line j.verdict j.line) out → b ≡ text_in (job_line job given) out
unfolding job_line judgement_line
job-judged job given out w after j b l r e f =
    let i : j ≡ (layout_of job given program_rooms.rooms).judgement =
    ap (λ (d : Judged). d.judgement) e ∙ ap (λ (x : Rooms). (layout_of job given x).judgement) r in
    rw (le-ltb longest_job (length job) l) (f ∙ ap (λ (x : Judgement). text_in (verdict_line x.verdict x.line) out) i)

-- ---- the list

module _ (bytes out : List ℕ) where
  text_list : length bytes ≤ longest_input → list_line bytes (put_list most_lines bytes) ≡ judged_text bytes
  unfolding judged_text
  text_list l = rw (le-ltb longest_input (length bytes) l)

  -- what the reader answers, of a room for 4,096 lines
  module _ (room after : List ℕ) (r : Result (ℕ × ℕ) ListError) (i : room ≡ number_room) (e : record { found = r; numbers = after } ≡ list_in bytes room) where
    room_lines : length room / 4 ≡ most_lines
    unfolding number_room
    room_lines = let n : length room ≡ 16384 = ap length i ∙ length-replicate {A = ℕ} 16384 0 in omega arith

    found_is : (put_list most_lines bytes).found ≡ r
    unfolding list_in
    found_is = ap (λ (m : ℕ). (put_list m bytes).found) (sym room_lines) ∙ sym (ap (λ (l : PutList). l.found) e)

    after_is : after ≡ (put_list most_lines bytes).numbers ++ drop (length (put_list most_lines bytes).numbers) room
    unfolding list_in
    after_is = ap (λ (l : PutList). l.numbers) e ∙ ap (λ (m : ℕ). (put_list m bytes).numbers ++ drop (length (put_list m bytes).numbers) room) room_lines

    module _ (b : Buffered) (h : judge_buffer ≤ length out) (l : length bytes ≤ longest_input) where
      by_found : (t : List ℕ) → t ≡ found_line bytes (put_list most_lines bytes).numbers r → b ≡ text_in t out → b ≡ judge_answer bytes out
      unfolding list_line
      by_found t k f =
          answer-long bytes out t b h (k ∙ (ap (λ (x : Result (ℕ × ℕ) ListError). found_line bytes (put_list most_lines bytes).numbers x) (sym found_is) ∙ text_list l)) f

      pub answer_malformed : (n : ℕ) → r ≡ Err (Malformed n) → b ≡ text_in (no_line malformed_number n) out → b ≡ judge_answer bytes out
      unfolding found_line
      answer_malformed n k f = by_found (no_line malformed_number n) (sym (ap (λ (x : Result (ℕ × ℕ) ListError). found_line bytes (put_list most_lines bytes).numbers x) k)) f

      pub answer_many : r ≡ Err TooMany → b ≡ text_in (no_line many_number most_lines) out → b ≡ judge_answer bytes out
      unfolding found_line
      answer_many k f = by_found (no_line many_number most_lines) (sym (ap (λ (x : Result (ℕ × ℕ) ListError). found_line bytes (put_list most_lines bytes).numbers x) k)) f

      pub answer_lines : (n at : ℕ) (job given : List ℕ) → r ≡ Ok (n, at) → job ≡ drop at bytes → given ≡ (put_list most_lines bytes).numbers
          → b ≡ text_in (job_line job given) out → b ≡ judge_answer bytes out
      unfolding found_line
      answer_lines n at job given k p q f =
          by_found (job_line job given) (ap₂ job_line p q ∙ sym (ap (λ (x : Result (ℕ × ℕ) ListError). found_line bytes (put_list most_lines bytes).numbers x) k)) f

    module _ (n at : ℕ) (k : r ≡ Ok (n, at)) where
      fits : Fitting bytes most_lines (Ok (n, at)) (put_list most_lines bytes).numbers
      fits = subst (λ (x : Result (ℕ × ℕ) ListError). Fitting bytes most_lines x (put_list most_lines bytes).numbers) (found_is ∙ k) (fitting bytes most_lines)

      pub lines_few : n ≤ most_lines
      unfolding Fitting
      lines_few = fits.0

      pub job-inside : at ≤ length bytes
      unfolding Fitting
      job-inside = fits.1

      pub numbers_fit : length after ≡ length room → 4 * n ≤ length after
      numbers_fit q = let f = lines_few in let m = room_lines in omega arith

      pub numbers_are : take (4 * n) after ≡ (put_list most_lines bytes).numbers
      unfolding Fitting
      numbers_are = ap (λ (x : List ℕ). take (4 * n) x) after_is ∙ take_at (put_list most_lines bytes).numbers _ (4 * n) fits.2

-- all bytes after the list
pub job_is : (bytes : List ℕ) (at : ℕ) → take (length bytes - at) (drop at bytes) ≡ drop at bytes
job_is bytes at = take_all (length bytes - at) (drop at bytes) (let e = length-drop at bytes in omega arith)

-- ---- the input

-- one byte more than the input may have is all that the program need read
pub read-enough : (input : List ℕ) → judged_text (take (suc longest_input) input) ≡ judged_text input
read-enough input =
    elim (below_or_not (length input) (suc longest_input)) [
      | inl l ↦ ap judged_text (take_all (suc longest_input) input (omega arith))
      | inr l ↦
          let e = length-take-le (suc longest_input) input l in
          sym (text_overlong (take (suc longest_input) input) (omega (arith, e))) ∙ text_overlong input (omega arith)
    ]
