-- The text in its buffer, and zeros after it. Assumes nothing.
use Prim.Native.Nat.{ℕ, ◌+◌, ◌<◌, ◌≤◌}
use native.Mathlib.Omega.{arith}
use mathlib.Core.Path.{◌≡◌, sym, ap, ap₂, subst, ◌∙◌}
use mathlib.Core.List.{List, ◌++◌}
use lib.ListN.{length, take, drop, replicate, length-drop, length-replicate, replicate-append-replicate}
use lib.Seq.{length-take-le, drop_at}
use borrow.Author.Tests.{lt-ltb, le-ltb}
use Rattle.job.specs.Jobs.{read_job}
use Rattle.filling.specs.Rooms.{Lent, laid, zeros}
use Rattle.filling.specs.Fill.{Planned}
use Rattle.nesting.specs.Nest.{nest_of}
use Rattle.nesting.specs.Text.{printed_for, printed}
use Rattle.text.proofs.printed.Placed.{Placed, nest_placed}
use Rattle.lines.specs.declared.Text.{Text}
use Rattle.lines.specs.inner.Writing.{Put, Finished}
use Rattle.lines.proofs.Appending.{put_from}
use Rattle.plan_text.specs.Told.{TextReply, buffer_length, text_reply_of}

-- ---- what a call leaves

drop-replicate : (n m v : ℕ) → drop n (replicate (n + m) v) ≡ replicate m v
drop-replicate n m v = ap (λ (xs : List ℕ). drop n xs) (sym (replicate-append-replicate n m v)) ∙ drop_at (replicate n v) (replicate m v) n (length-replicate n v)

pub zeros-behind : (n : ℕ) (a b : List ℕ) → length a ≡ length b → n ≤ length a → zeros 0 (drop n a) ≡ drop n (zeros 0 b)
unfolding zeros
zeros-behind n a b e h =
    let s : length b ≡ n + length (drop n a) = let d = length-drop n a in omega arith in
    sym (ap (λ (k : ℕ). drop n (replicate k 0)) s ∙ drop-replicate n (length (drop n a)) 0)

same : (a b : ℕ) (o p : List ℕ) (l m : Lent) → a ≡ b → o ≡ p → l ≡ m → ◌≡◌ {A = TextReply} (record { end = a; out = o; lent = l }) (record { end = b; out = p; lent = m })
same a b o p l m e f g = rw (e, f, g)

-- a buffer that is too short
pub told_short : (bytes out : List ℕ) (l : Lent) → length out < buffer_length → record { end = 0; out = out; lent = l } ≡ text_reply_of bytes out l
unfolding text_reply_of
told_short bytes out l h = rw (lt-ltb (length out) buffer_length h, text_reply_of)

-- the text, then zeros
pub told_text : (bytes out after last : List ℕ) (l : Lent) (q : Planned) (n : ℕ) → buffer_length ≤ length out → q ≡ nest_of bytes l → n ≤ buffer_length
    → length after ≡ length out → take n after ≡ printed_for (read_job bytes) q → last ≡ take n after ++ zeros 0 (drop n after)
    → record { end = n; out = last; lent = q.lent } ≡ text_reply_of bytes out l
unfolding text_reply_of printed laid
told_text bytes out after last l q n w e h d t f =
    let text : take n after ≡ printed bytes l = t ∙ ap (λ (p : Planned). printed_for (read_job bytes) p) e in
    let m : n ≡ length (printed bytes l) = sym (length-take-le n after (omega arith)) ∙ ap length text in
    let z : last ≡ printed bytes l ++ drop (length (printed bytes l)) (zeros 0 out) = f ∙ ap₂ (λ (x y : List ℕ). x ++ y) text (zeros-behind n after out d (omega arith) ∙ ap (λ (k : ℕ). drop k (zeros 0 out)) m) in
    rw (le-ltb (length out) buffer_length w, text_reply_of) (same n (length (printed bytes l)) last (printed bytes l ++ drop (length (printed bytes l)) (zeros 0 out)) q.lent (nest_of bytes l).lent m z (ap (λ (p : Planned). p.lent) e))

-- the same, of a text that is written and finished
pub told_finished : (bytes out last z : List ℕ) (l : Lent) (q : Planned) (n : ℕ) (t u : Text) → buffer_length ≤ length out → q ≡ nest_of bytes l
    → t.out.now ≡ out → t.end ≡ 0 → u.end ≤ t.end + buffer_length → Put t (printed_for (read_job bytes) q) u → Finished u.out.now u.end z n → last ≡ z
    → record { end = n; out = last; lent = q.lent } ≡ text_reply_of bytes out l
unfolding zeros
told_finished bytes out last z l q n t u w e d s b p f g =
    let v = put_from out d s p in
    told_text bytes out u.out.now last l q n w e (omega (arith, b, s, f.0)) v.long (ap (λ (k : ℕ). take k u.out.now) f.0 ∙ v.written)
    (g ∙ (f.1 ∙ sym (ap (λ (k : ℕ). take k u.out.now ++ zeros 0 (drop k u.out.now)) f.0)))

-- what a plan's lines need of its reply
pub placed_of : (bytes : List ℕ) (l : Lent) (q : Planned) → q ≡ nest_of bytes l → Placed q
placed_of bytes l q e = subst Placed (sym e) (nest_placed bytes l)
