-- The number and the rooms of a filling's reply. Assumes nothing.
use Prim.Native.Nat.{ℕ}
use mathlib.Core.Path.{◌≡◌, ap, ◌∙◌}
use mathlib.Core.List.{List}
use Rattle.filling.specs.Refusals.{verdict_number}
use Rattle.filling.specs.Rooms.{Lent}
use Rattle.filling.specs.Fill.{fill_of}
use Rattle.report.specs.declared.NestResult.{NestResult}
use Rattle.report.specs.Lent.{answered}
use Rattle.plan_exports.specs.Numbered.{NumberedLent, numbered_plan, numbered_fill}

same : (a b : ℕ) (l : Lent) → a ≡ b → ◌≡◌ {A = NumberedLent} (record { number = a; lent = l }) (record { number = b; lent = l })
same a b l e = rw e

pub numbered_as : (bytes order : List ℕ) (l after : Lent) (r : NestResult) (n : ℕ) → n ≡ verdict_number r.verdict → answered r after ≡ fill_of bytes order l
    → record { number = n; lent = after } ≡ numbered_fill bytes order l
unfolding numbered_fill numbered_plan
numbered_as bytes order l after r n e f = same n (verdict_number r.verdict) after e ∙ ap numbered_plan f
