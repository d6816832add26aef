-- For inner functions' contracts only: the winner stands, or the copy has no place; 22, 20 and 21. That it is the step of the definition of
-- filling is proved in the crate filling_laws. Definitions only. Assumes nothing.
use Rattle.std.specs.Prelude.{Option, Some, None, Result, Ok, Err, ℕ, ◌+◌, ◌*◌, ◌<◌, List, get_or, Float}
use Rattle.filling.specs.declared.Refusal.{Refusal}
use Rattle.std.specs.Float.{nan}
use Rattle.numbers.specs.Numbers.{◌⊕◌, larger, pos_zero}
use Rattle.trapezoid.specs.Strip.{capacity}
use Rattle.index.specs.declared.Index.{Index}
use Rattle.filling.specs.declared.State.{State}
use Rattle.filling.specs.Refusals.{refusal_of}
use Rattle.choose.specs.declared.Part.{Part}
use Rattle.choose.specs.declared.Choice.{Choice}
use Rattle.choose.specs.inner.Choosing.{Winner, part_at, apart_part, Surroundings, Chosen, chosen, choose_from}
use Rattle.store.specs.inner.Storing.{Stored, Left, store_of}
use Rattle.place.specs.declared.Copy.{Copy}
use Rattle.place.specs.declared.Totals.{Totals}
use Rattle.place.specs.declared.Step.{Step}

-- the copy at place i of the order, as the tables have it
abbrev pub copy_of : List ℕ → List ℕ → List Float → ℕ → Copy
copy_of order rows areas i = let k = get_or order i 0 in record { slot = 16 * k; orientations = get_or rows (4 * k + 3) 0; area = get_or areas k nan }

-- a state's numbers that stand beside the rooms
abbrev pub totals_of : State → Totals
totals_of s = record { placed_strips = s.placed_strips; right = s.layout.right; unplaced_area = s.layout.unplaced_area }

-- where a copy stands, or that it has no place; or why it is refused
abbrev pub Outcome : Type 0
Outcome = Result (Option Choice) Refusal

-- whether the copy is taken
abbrev pub verdict_of : Outcome → Result (Unit {0}) Refusal
verdict_of (Ok c) = Ok tt
verdict_of (Err k) = Err k

abbrev pub step : Outcome → Totals → Step
step o t = record { outcome = o; totals = t }

abbrev pub after_of : Stored → Choice → Totals → ℕ → Step
after_of (Err r) p t k = step (Err (refusal_of r)) t
after_of (Ok tt) p t k =
    step (Ok (Some p)) (record { placed_strips = t.placed_strips + k; right = larger t.right p.right; unplaced_area = t.unplaced_area })

unfoldable pub without_of : Totals → Float → Step
without_of t area = step (Ok None) (record { placed_strips = t.placed_strips; right = t.right; unplaced_area = t.unplaced_area ⊕ area })

pub record PutLeft : Type 0 where
  pub reply : Step
  pub placed : List Float
  pub entries : List ℕ
  pub starts : List ℕ

abbrev pub put : Step → List Float → List ℕ → List ℕ → PutLeft
put r p e s = record { reply = r; placed = p; entries = e; starts = s }

unfoldable pub put_left : Choice → Totals → ℕ → Left → PutLeft
put_left p t k f = put (after_of f.answer p t k) f.placed f.entries f.starts

unfoldable pub put_of : Index → Choice → Part → Totals → List Float → List Float → List ℕ → List ℕ → List ℕ → PutLeft
put_of ix p q t apart placed e s f =
    put_left p t (capacity (apart_part q apart)) (store_of ix (apart_part q apart) p.x p.y t.placed_strips placed e s f)

abbrev pub settle_of : Index → Winner → Float → ℕ → Totals → List ℕ → List Float → List Float → List ℕ → List ℕ → List ℕ → PutLeft
settle_of ix (Ok (Some p)) area slot t parts apart placed e s f = put_of ix p (part_at parts (slot + p.orientation)) t apart placed e s f
settle_of ix (Ok None) area slot t parts apart placed e s f = put (without_of t area) placed e s
settle_of ix (Err r) area slot t parts apart placed e s f = put (step (Err (refusal_of r)) t) placed e s

-- the winner is one of the n orientations
abbrev pub Among : ℕ → Winner → Type 0
Among n (Ok (Some p)) = p.orientation < n
Among n (Ok None) = Unit
Among n (Err r) = Unit

abbrev pub Under : ℕ → Outcome → Type 0
Under n (Ok (Some p)) = p.orientation < n
Under n (Ok None) = Unit
Under n (Err r) = Unit

pub record Placed : Type 0 where
  pub left : PutLeft
  pub counts : List ℕ
  pub next : List ℕ

abbrev pub done : Step → List Float → List ℕ → List ℕ → List ℕ → List ℕ → Placed
done r p e s counts next = record { left = put r p e s; counts = counts; next = next }

unfoldable pub place_with : Index → Surroundings → Float → ℕ → Totals → List Float → List ℕ → List ℕ → List ℕ → Chosen → Placed
place_with ix w area slot t placed e s f c =
    record { left = settle_of ix c.winner area slot t w.parts w.apart placed e s f; counts = c.counts; next = c.next }

-- the numbers f of the placed strips count for 20 alone
unfoldable pub place_of : Index → Surroundings → Float → ℕ → ℕ → Totals → List Float → List ℕ → List ℕ → List ℕ → List ℕ → List ℕ → Placed
place_of ix w area slot n t placed e s f counts next = place_with ix w area slot t placed e s f (choose_from w slot n 0 (chosen (Ok None) counts next))

-- ---- what is written down of a copy: 0 for none, or 1 + orientation with x, y and gap
abbrev pub orientation_number : Outcome → ℕ
orientation_number (Ok (Some p)) = p.orientation + 1
orientation_number (Ok None) = 0
orientation_number (Err r) = 0

abbrev pub outcome_x : Outcome → Float
outcome_x (Ok (Some p)) = p.x
outcome_x (Ok None) = pos_zero
outcome_x (Err r) = pos_zero

abbrev pub y_of : Outcome → Float
y_of (Ok (Some p)) = p.y
y_of (Ok None) = pos_zero
y_of (Err r) = pos_zero

abbrev pub gap_of : Outcome → Float
gap_of (Ok (Some p)) = p.gap
gap_of (Ok None) = pos_zero
gap_of (Err r) = pos_zero
