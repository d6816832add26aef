-- A stored count as one number. Assumes nothing.
use Rattle.std.specs.Prelude.{Option, Some, None}
use Rattle.std.specs.Option.{unwrap_or}
use Prim.Native.Nat.{ℕ, ◌+◌, ◌/◌}
use mathlib.Core.Path.{◌≡◌, refl, ap, ◌∙◌}
use mathlib.Core.List.{List}
use lib.ListN.{length}
use lib.Ieee.{Float}
use Rattle.trapezoid.specs.Strip.{capacity}
use Rattle.strips.specs.inner.Tables.{Stowed}
use Rattle.bench_exports.specs.inner.Answers.{told}

told_or : (r : Option ℕ) (cap : ℕ) → unwrap_or r (cap + 1) ≡ told r cap
unfolding told
told_or (Some m) cap = refl
told_or None cap = refl

pub told_unwrap : (s : Stowed) (r : Option ℕ) (room after : List Float) (cap m : ℕ) → record { answer = r; room = after } ≡ s → length after ≡ length room
    → cap ≡ capacity after → m ≡ unwrap_or r (cap + 1) → (m ≡ told s.answer (capacity room)) × (after ≡ s.room)
unfolding capacity
told_unwrap s r room after cap m e l h u = (
  u ∙ told_or r cap ∙ ap (λ (a : Option ℕ). told a cap) (ap (λ (t : Stowed). t.answer) e)
      ∙ ap (told s.answer) (h ∙ ap (λ (n : ℕ). n / 6) l),
  ap (λ (t : Stowed). t.room) e,
)
