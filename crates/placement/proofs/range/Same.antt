-- The ranges that the code tests are those of the definition of a judged layout. Assumes nothing.
use Prim.Native.Nat.{ℕ, zero, suc}
use mathlib.Core.Path.{◌≡◌, refl, sym, ◌∙◌}
use mathlib.Core.Logic.{inl, inr}
use mathlib.Core.Bool.{Bool, false, not, ◌&&◌, ◌||◌}
use lib.Ieee.{Float, le}
use Rattle.numbers.proofs.Truth.{either}
use Rattle.frames.specs.declared.Point.{Point}
use Rattle.filling.specs.Columns.{ranges, column_at}
use Rattle.filling.specs.Shapes.{Shape, Planner}
use Rattle.filling.specs.Search.{ranges_of, reversed_for, last_of}
use Rattle.search.specs.declared.columns.Columns.{Columns}
use Rattle.search.specs.columns.inner.Stands.{columns_of, reversed_of, column_x}
use Rattle.search.specs.columns.inner.Stands as Kept
use Rattle.search.proofs.columns.Same.{reversed-same, last-same, x_same}
use Rattle.layouts.specs.Layouts.{among_columns, in_range}
use Rattle.placement.specs.range.inner.Ranged.{within, in_range_of}

among_same : (f g : ℕ → Float) → ((c : ℕ) → f c ≡ g c) → (n : ℕ) (x : Float) → among_columns f n x ≡ among_columns g n x
unfolding among_columns
among_same f g h zero x = rw (h 0)
among_same f g h (suc n) x = rw (h (suc n), among_same f g h n x)

module _ (p : Planner) (s : Shape) (q : Point) where
  abbrev k : Columns
  k = columns_of p.bounds s.bounds p.resolution

  -- with whether a range is reversed, and whether x is one of the columns
  abbrev judged : Bool → Bool → Bool
  judged r a =
      let g = ranges_of p s in
      not r && (((le g.x_low q.x && le q.x g.x_high) || a) && (le g.y_low q.y && le q.y g.y_high))

  kept : in_range_of k q.x q.y ≡ judged (reversed_of k) (among_columns (column_x k) (Kept.last_of k) q.x)
  unfolding in_range_of within columns_of ranges_of ranges
  kept = refl

  defined : in_range p s q ≡ judged (reversed_for p s) (among_columns (column_at p.resolution (ranges_of p s)) (last_of p s) q.x)
  unfolding in_range
  defined = refl

  same-reversed : reversed_of k ≡ reversed_for p s
  unfolding reversed_for ranges_of
  same-reversed = reversed-same p.bounds s.bounds p.resolution

  same-last : reversed_for p s ≡ false → Kept.last_of k ≡ last_of p s
  unfolding last_of ranges_of
  same-last e = last-same p.bounds s.bounds p.resolution ∙ sym (rw (e, last_of))

  same_among : (n : ℕ) → among_columns (column_x k) n q.x ≡ among_columns (column_at p.resolution (ranges_of p s)) n q.x
  unfolding ranges_of
  same_among n = among_same (column_x k) (column_at p.resolution (ranges_of p s)) (x_same p.bounds s.bounds p.resolution) n q.x

  pub in_range_is : in_range_of (columns_of p.bounds s.bounds p.resolution) q.x q.y ≡ in_range p s q
  in_range_is =
      elim (either (reversed_for p s)) [
        | inl e ↦ kept ∙ rw (same-reversed, e) (sym (defined ∙ rw e))
        | inr e ↦ kept ∙ rw (same-reversed, same-last e, same_among (last_of p s)) (sym defined)
      ]
