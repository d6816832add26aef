-- `read_tables::put_row` meets its contract. Assumes nothing.
use mathlib.Core.Path.{◌≡◌, refl, ◌∙◌}
use mathlib.Core.Bool.{Bool, true, false, cond}
use mir.Val.{bool_byte}
use Rattle.read_tables.proofs.Putting.{row_stored}
use Rattle.read_tables.proofs.put_row.Goals as goal

one_or_none : (b : Bool) → bool_byte b ≡ cond b 1 0
one_or_none true = refl
one_or_none false = refl

pub returns : goal.returns
returns c =
    row_stored _ _ _ _ _ _ _ _ _ _ _ _ c.store.ensures (c.from.ensures ∙ one_or_none _) c.store-2.ensures c.min.ensures c.store-3.ensures c.store-4.ensures
