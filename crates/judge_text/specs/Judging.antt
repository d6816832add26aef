-- Document 02, W6, layouts from the bureau: what the program `judge` prints for its input, a list of `put` lines and a job right after it. `accepted` and the
-- number of lines; or `no`, the refusal's number and the line that it speaks of: how many lines were accepted before it, 0 where the job is refused.
-- The lines are read first: 15 for a line that is not so written, 7 for more than 4,096 lines. Definitions only. Assumes nothing.
use Rattle.std.specs.Prelude.{Result, Ok, Err, ℕ, cond, List, [], ◌∷◌, length, drop, ltb}
use Rattle.filling.specs.declared.Refusal.{Refusal}
use Rattle.filling.specs.Refusals.{number_of}
use Rattle.nesting.specs.Text.{decimal, line, no_word}
use Rattle.plan_text.specs.Program.{longest_job, overlong_number, program_rooms, Buffered, text_in}
use Rattle.layouts.specs.declared.Judgement.{Judgement}
use Rattle.layouts.specs.Layouts.{layout_of}
use Rattle.put_lines.specs.declared.ListError.{ListError}
use Rattle.put_lines.specs.declared.ListError.TheVariants.{Malformed, TooMany}
use Rattle.put_lines.specs.PutLines.{PutList, put_list}

-- a list has 4,096 lines at most, as many as a job has copies; the number where it has more is that of too many copies
abbrev pub most_lines : ℕ
most_lines = 4096

abbrev pub many_number : ℕ
many_number = 7

-- a line that begins with `put` and a blank and is not so written
abbrev pub malformed_number : ℕ
malformed_number = 15

-- 11 also for an input that is longer than the program's room, which holds every list and every job
abbrev pub longest_input : ℕ
longest_input = 589824

-- accepted
abbrev pub accepted_word : List ℕ
accepted_word = 97 ∷ 99 ∷ 99 ∷ 101 ∷ 112 ∷ 116 ∷ 101 ∷ 100 ∷ []

-- the number of lines
unfoldable pub accepted_line : ℕ → List ℕ
accepted_line n = line accepted_word (decimal n ∷ [])

-- the number and the line that it speaks of
unfoldable pub no_line : ℕ → ℕ → List ℕ
no_line number n = line no_word (decimal number ∷ decimal n ∷ [])

-- a verdict of line n, or of all n lines
unfoldable pub verdict_line : Result (Unit {0}) Refusal → ℕ → List ℕ
verdict_line (Ok tt) n = accepted_line n
verdict_line (Err r) n = no_line (number_of r) n

-- a judged layout
unfoldable pub judgement_line : Judgement → List ℕ
judgement_line j = verdict_line j.verdict j.line

-- a job and a list's numbers: 11, or judged in the rooms that `plan` lends
unfoldable pub job_line : List ℕ → List ℕ → List ℕ
job_line job given = cond (ltb longest_job (length job)) (no_line overlong_number 0) (judgement_line (layout_of job given program_rooms.rooms).judgement)

-- what a text begins with, and its lines' numbers
unfoldable pub found_line : List ℕ → List ℕ → Result (ℕ × ℕ) ListError → List ℕ
found_line bytes numbers (Ok (n, at)) = job_line (drop at bytes) numbers
found_line bytes numbers (Err (Malformed n)) = no_line malformed_number n
found_line bytes numbers (Err TooMany) = no_line many_number most_lines

-- a list and a job
unfoldable pub list_line : List ℕ → PutList → List ℕ
list_line bytes l = found_line bytes l.numbers l.found

-- all that is printed
unfoldable pub judged_text : List ℕ → List ℕ
judged_text bytes = cond (ltb longest_input (length bytes)) (no_line overlong_number 0) (list_line bytes (put_list most_lines bytes))

-- every such text fits 64 bytes
abbrev pub judge_buffer : ℕ
judge_buffer = 64

-- the text in a buffer; a shorter one is left as it was
unfoldable pub judge_answer : List ℕ → List ℕ → Buffered
judge_answer bytes out = cond (ltb (length out) judge_buffer) (record { end = 0; out = out }) (text_in (judged_text bytes) out)
