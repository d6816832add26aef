-- For inner functions' contracts only: text written into a lent buffer. Definitions only. Assumes nothing.
use Rattle.std.specs.Prelude.{ℕ, ◌+◌, ◌≡◌, List, ◌∷◌, ◌++◌, length, take, drop, replicate}
use mathlib.Core.List.{flat_map}
use Rattle.lines.specs.declared.Text.{Text}

-- the text stands in the buffer from `at` to `end`, and what stood before `at` still does
pub record Wrote (before : List ℕ) (at : ℕ) (text after : List ℕ) (end : ℕ) : Type 0 where
  pub long : length after ≡ length before
  pub next : end ≡ at + length text
  pub written : take end after ≡ take at before ++ text

-- the text is written after what a text has, in the same buffer
pub record Put (before : Text) (text : List ℕ) (after : Text) : Type 0 where
  pub same : after.out.ghost_name ≡ before.out.ghost_name
  pub wrote : Wrote before.out.now before.end text after.out.now after.end

-- what follows a line's word, each after a blank
unfoldable pub fields : List (List ℕ) → List ℕ
fields fs = flat_map (λ f. 32 ∷ f) fs

-- the text ends here, with zeros after it
abbrev pub Finished : List ℕ → ℕ → List ℕ → ℕ → Type 0
Finished before at after end = (end ≡ at) × (after ≡ take at before ++ replicate (length (drop at before)) 0)
