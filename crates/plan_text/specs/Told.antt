-- Document 01, "The printed plan": what a call for the text of a whole plan leaves. Definitions only. Assumes nothing.
use Rattle.std.specs.Prelude.{ℕ, true, false, List, length, ltb}
use Rattle.filling.specs.Rooms.{Lent, laid, zeros}
use Rattle.nesting.specs.Nest.{nest_of}
use Rattle.nesting.specs.Text.{printed}

-- where the text ends, the buffer and the rooms after
pub record TextReply : Type 0 where
  pub end : ℕ
  pub out : List ℕ
  pub lent : Lent

-- every plan's text is at most so long
abbrev pub buffer_length : ℕ
buffer_length = 589824

-- the text, zeros after it, and the rooms as the whole plan leaves them; a buffer that is shorter gets no text, and nothing is planned
unfoldable pub text_reply_of : List ℕ → List ℕ → Lent → TextReply
text_reply_of bytes out l =
    elim (ltb (length out) buffer_length) [
      | true ↦ record { end = 0; out = out; lent = l }
      | false ↦ record { end = length (printed bytes l); out = laid (printed bytes l) (zeros 0 out); lent = (nest_of bytes l).lent }
    ]
