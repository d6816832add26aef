-- The text of a reply goes by its verdict. Assumes nothing.
use Rattle.std.specs.Prelude.{Result, Ok, Err}
use Prim.Native.Nat.{ℕ, ◌+◌, ◌*◌, ◌≤◌, ◌<◌}
use native.Mathlib.Omega.{arith}
use mathlib.Core.Path.{◌≡◌, refl, sym, ap, ◌∙◌}
use mathlib.Core.List.{List}
use lib.ListN.{length, get_or}
use lib.Ieee.{Float}
use Rattle.job.specs.Jobs.{Job}
use Rattle.filling.specs.declared.Plan.{Plan}
use Rattle.filling.specs.declared.Refusal.{Refusal}
use Rattle.filling.specs.Rooms.{Lent}
use Rattle.accounts.specs.tables.inner.Tabled.{Tabled}
use Rattle.nesting.specs.Text.{plan_text, reply_text}
use Rattle.text.specs.inner.Tables.{reply_by}
use Rattle.text.proofs.ByKind.{plan-by-most, refusal-most, text_is}

-- the most that a reply takes
pub reply-most : (rows : List ℕ) (kinds : ℕ) (room : List Float) (p : Plan) (v : Result (Unit {0}) Refusal) → kinds ≤ 64 → p.placed ≤ 4096
    → ((k : ℕ) → k < kinds → get_or rows (4 * k + 3) 0 ≤ 16) → length (reply_by rows kinds room p v) ≤ 589824
unfolding reply_by
reply-most rows kinds room p (Ok tt) h g t = plan-by-most rows kinds room p h g t
reply-most rows kinds room p (Err k) h g t = let m = refusal-most k in omega (arith, m)

-- what is printed by a job's tables is its reply's text
module _ (j : Job) (rows : List ℕ) (areas : List Float) (t : Tabled j rows areas) (kinds : ℕ) (k : length j.kinds ≡ kinds) where
  pub reply_is : (v : Result (Unit {0}) Refusal) (p : Plan) (l : Lent) (room : List Float) → l.positions ≡ room
      → reply_by rows kinds room p v ≡ reply_text j (record { verdict = v; plan = p; lent = l }) v
  unfolding reply_by reply_text
  reply_is (Ok tt) p l room f = text_is j rows areas t kinds k p room ∙ ap (plan_text j p) (sym f)
  reply_is (Err r) p l room f = refl
