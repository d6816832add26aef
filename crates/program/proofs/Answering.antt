-- What the program's text leaves in its buffer, and how much of the input it needs. Assumes nothing.
use Prim.Native.Nat.{ℕ, suc, ◌<◌, ◌≤◌}
use native.Mathlib.Omega.{arith}
use mathlib.Core.Path.{◌≡◌, sym, ap, ◌∙◌}
use mathlib.Core.Logic.{inl, inr}
use mathlib.Core.List.{List, [], ◌∷◌, ◌++◌}
use lib.ListN.{length, take, drop, length-take}
use lib.Ieee.{Float}
use lib.Seq.{length-take-le, take_all}
use borrow.Author.Tests.{lt-ltb, le-ltb}
use Rattle.numbers.proofs.Truth.{below_or_not}
use Rattle.filling.specs.Rooms.{Lent, laid, zeros, lent_of}
use Rattle.nesting.specs.Text.{decimal, line, no_word, printed}
use Rattle.lines.specs.declared.Text.{Text}
use Rattle.lines.specs.inner.Writing.{Wrote, Put, Finished}
use Rattle.lines.proofs.Appending.{put_from}
use Rattle.plan_text.specs.Told.{TextReply, buffer_length, text_reply_of}
use Rattle.plan_text.specs.Program.{longest_job, overlong_number, program_text, Buffered, text_in, program_answer, strip_room, entry_room, first_room, interval_room, position_room, program_rooms}
use Rattle.plan_text.proofs.Telling.{zeros-behind}

same : (a b : ℕ) (o p : List ℕ) → a ≡ b → o ≡ p → ◌≡◌ {A = Buffered} (record { end = a; out = o }) (record { end = b; out = p })
same a b o p e f = rw (e, f)

-- a text that was written at a buffer's beginning fits it
pub wrote-fits : (out text after : List ℕ) (n : ℕ) → Wrote out 0 text after n → n ≤ length after
wrote-fits out text after n w =
    let f : length (take n after) ≡ length text = ap length w.written in
    omega (arith, f, length-take n after, w.next)

-- a text at the beginning of a buffer, and zeros from its end on
pub text_in_lem : (text out after last : List ℕ) (n : ℕ) → Wrote out 0 text after n → last ≡ take n after ++ zeros 0 (drop n after)
    → record { end = n; out = last } ≡ text_in text out
unfolding text_in laid
text_in_lem text out after last n w f =
    let b = zeros-behind n after out w.long (wrote-fits out text after n w) in
    let z : last ≡ text ++ drop n (zeros 0 out) =
    f ∙ (ap (λ (x : List ℕ). x ++ zeros 0 (drop n after)) w.written ∙ ap (λ (x : List ℕ). text ++ x) b) in
    let m : n ≡ length text = omega (arith, w.next) in
    same n (length text) last (text ++ drop (length text) (zeros 0 out)) m (z ∙ ap (λ (k : ℕ). text ++ drop k (zeros 0 out)) m)

-- the same, of a text that is written and finished
pub text_in_finished : (out last text z : List ℕ) (n : ℕ) (t u : Text) → t.out.now ≡ out → t.end ≡ 0 → Put t text u → Finished u.out.now u.end z n → last ≡ z
    → record { end = n; out = last } ≡ text_in text out
unfolding zeros
text_in_finished out last text z n t u e s p f g =
    let w = put_from out e s p in
    ap (λ (k : ℕ). record { end = k; out = last }) f.0 ∙ text_in_lem text out u.out.now last u.end w (g ∙ f.1)

-- a buffer that is too short
pub answer_short : (bytes out : List ℕ) → length out < buffer_length → record { end = 0; out = out } ≡ program_answer bytes out
unfolding program_answer
answer_short bytes out h = rw (lt-ltb (length out) buffer_length h, program_answer)

-- a buffer that is long enough
answer-long : (bytes out : List ℕ) → buffer_length ≤ length out → text_in (program_text bytes) out ≡ program_answer bytes out
unfolding program_answer
answer-long bytes out h = rw (le-ltb (length out) buffer_length h, program_answer)

-- ---- 11

text_overlong : (bytes : List ℕ) → longest_job < length bytes → line no_word (decimal overlong_number ∷ []) ≡ program_text bytes
unfolding program_text
text_overlong bytes l = rw (lt-ltb longest_job (length bytes) l, program_text)

pub answer_overlong : (bytes out : List ℕ) (b : Buffered) → buffer_length ≤ length out → longest_job < length bytes
    → b ≡ text_in (line no_word (decimal overlong_number ∷ [])) out → b ≡ program_answer bytes out
answer_overlong bytes out b h l e = e ∙ (ap (λ (t : List ℕ). text_in t out) (text_overlong bytes l) ∙ answer-long bytes out h)

-- ---- the whole plan

text_plan : (bytes : List ℕ) → length bytes ≤ longest_job → printed bytes program_rooms ≡ program_text bytes
unfolding program_text
text_plan bytes l = rw (le-ltb longest_job (length bytes) l, program_text)

told_text : (bytes out : List ℕ) (l : Lent) → buffer_length ≤ length out
    → record { end = (text_reply_of bytes out l).end; out = (text_reply_of bytes out l).out } ≡ text_in (printed bytes l) out
unfolding text_reply_of text_in
told_text bytes out l h = rw (le-ltb (length out) buffer_length h, text_reply_of)

pub answer-plan : (bytes out last : List ℕ) (l m : Lent) (n : ℕ) → buffer_length ≤ length out → length bytes ≤ longest_job → l ≡ program_rooms
    → record { end = n; out = last; lent = m } ≡ text_reply_of bytes out l → record { end = n; out = last } ≡ program_answer bytes out
answer-plan bytes out last l m n h k r e =
    let f : ◌≡◌ {A = Buffered} (record { end = n; out = last }) (record { end = (text_reply_of bytes out l).end; out = (text_reply_of bytes out l).out }) =
    ap (λ (t : TextReply). record { end = t.end; out = t.out }) e in
    f ∙ (told_text bytes out l h ∙ (ap (λ (w : Lent). text_in (printed bytes w) out) r
    ∙ (ap (λ (t : List ℕ). text_in t out) (text_plan bytes k) ∙ answer-long bytes out h)))

-- the rooms that the program makes are those of the definition
pub rooms_are : (a b c : List Float) (d e f g : List ℕ) (h i : List Float) → a ≡ strip_room → b ≡ strip_room → c ≡ strip_room
    → d ≡ entry_room → e ≡ entry_room → f ≡ first_room → g ≡ first_room → h ≡ interval_room → i ≡ position_room → lent_of a b c d e f g h i ≡ program_rooms
unfolding program_rooms
rooms_are a b c d e f g h i p q r s t u v w x = rw (p, q, r, s, t, u, v, w, x, program_rooms)

-- ---- the input

-- one byte more than a job may have is all that the program need read
pub read-enough : (input : List ℕ) → program_text (take (suc longest_job) input) ≡ program_text input
read-enough input =
    elim (below_or_not (length input) (suc longest_job)) [
      | inl l ↦ ap program_text (take_all (suc longest_job) input (omega arith))
      | inr l ↦
          let e = length-take-le (suc longest_job) input l in
          sym (text_overlong (take (suc longest_job) input) (omega (arith, e))) ∙ text_overlong input (omega arith)
    ]
