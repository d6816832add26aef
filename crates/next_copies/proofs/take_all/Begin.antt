-- Taking copies from a state is taking them over its arrays. Assumes nothing.
use Prim.Native.Nat.{ℕ, ◌*◌, ◌<◌, ◌≤◌}
use mathlib.Core.Path.{◌≡◌, refl, ap, ap₂, subst⁻¹, ◌∙◌}
use mathlib.Core.Bool.{true}
use mathlib.Core.List.{List}
use lib.ListN.{length, take}
use lib.Dec.{T}
use lib.Ieee.{Float, binary64, fits}
use Rattle.job.specs.Jobs.{Job}
use Rattle.filling.specs.declared.State.{State}
use Rattle.filling.specs.Rooms.{Rooms}
use Rattle.rooms.specs.tracks.inner.Tracks.{field, next_columns, look_counts_from}
use Rattle.choose.specs.declared.Grid.{Grid}
use Rattle.choose.specs.inner.Choosing.{grid_of}
use Rattle.place.specs.declared.Totals.{Totals}
use Rattle.place.specs.inner.Placing.{totals_of}
use Rattle.filling_laws.proofs.ReadyNumbers.{RectFits}
use Rattle.filling_laws.proofs.ReadyStrips.{AllFit}
use Rattle.filling_laws.proofs.Ready.{strips-within}
use Rattle.step.specs.inner.Going.{Going}
use Rattle.batch.specs.NextCopies.{Batch}
use Rattle.batch.specs.inner.Tested.{tested_from}
use Rattle.take_copy.specs.turn.inner.Turning.{state_in}
use Rattle.take_copies.specs.inner.Run.{Begun}
use Rattle.next_copies.specs.take_all.inner.Spread.{Starting}

abbrev pub with_tracks : State → ℕ → Totals → List ℕ → List ℕ → List ℕ → List Float → List Float → List Float → State
with_tracks s taken t next counts orientation x y gap =
    record {
      tables = s.tables;
      order = s.order;
      taken = taken;
      next_column = next;
      look_counts = counts;
      placed_strips = t.placed_strips;
      layout = record { orientation = orientation; x = x; y = y; gap = gap; unplaced_area = t.unplaced_area; right = t.right };
    }

module _ {j : Job} {s : State} {w : Rooms} {rows : List ℕ} {areas : List Float} {sheet_starts starts : List ℕ} {most : ℕ}
    (B : Starting j s w rows areas sheet_starts starts most) where
  pub sheet-within : 6 * s.tables.sheet_strips ≤ length w.sheet
  sheet-within = (strips-within j s w B.passes).sheet

  pub begun : (g : Grid) → g ≡ grid_of s.tables → length s.tables.inset_bounds ≡ 4096 → length s.tables.parts ≡ 4096 → length s.order ≡ 4096
      → T (fits binary64 s.tables.resolution) → RectFits s.tables.sheet_bounds → AllFit s.tables.inset_bounds → AllFit w.sheet
      → Begun j s.tables g rows areas s.tables.inset_bounds s.tables.parts w.sheet (take (6 * s.tables.sheet_strips) w.sheet) s.order
      s.taken most
  begun g e a b c r f i h =
      record {
        tabled = B.tabled;
        good = B.good;
        sized = B.sized;
        few = B.few;
        tabling = record {
          grid = e;
          inset_bounds_are = refl;
          parts_are = refl;
          sheet_is = refl;
          bounds_long = a;
          parts_long = b;
          resolution-fits = r;
          bounds-fit = f;
          insets_fit = i;
          whole_fits = h;
        };
        long = c;
        left = B.left;
      }

  -- the state lies in these arrays
  module _ (tracks orientation : List ℕ) (x y gap : List Float)
      (spread : state_in s.tables s.order s.taken tracks (totals_of s) orientation x y gap ≡ s) (t : Totals) (e : t ≡ totals_of s) where
    is : state_in s.tables s.order s.taken tracks t orientation x y gap ≡ s
    is = ap (λ (t : Totals). state_in s.tables s.order s.taken tracks t orientation x y gap) e ∙ spread

    pub going_in : 0 < most → Going j (state_in s.tables s.order s.taken tracks t orientation x y gap) w rows areas sheet_starts starts
    going_in h = subst⁻¹ (λ (s : State). Going j s w rows areas sheet_starts starts) is (B.going h)

    pub equal_in : (q : Batch) (n : ℕ) (intervals : List Float)
        → q ≡ tested_from j n (state_in s.tables s.order s.taken tracks t orientation x y gap) w intervals true → q ≡ tested_from j n s w intervals true
    equal_in q n intervals h = h ∙ ap (λ (s : State). tested_from j n s w intervals true) is

-- ---- a state spread over its arrays, and put together again
pub spread_of : (s : State) (tracks : List ℕ) → next_columns tracks ≡ s.next_column → look_counts_from tracks ≡ s.look_counts
    → state_in s.tables s.order s.taken tracks (totals_of s) s.layout.orientation s.layout.x s.layout.y s.layout.gap ≡ s
spread_of s tracks n c = ap₂ (λ (n c : List ℕ). with_tracks s s.taken (totals_of s) n c s.layout.orientation s.layout.x s.layout.y
    s.layout.gap) n c

pub put-together : (s : State) (taken : ℕ) (t : Totals) (tracks orientation : List ℕ) (x y gap : List Float) (next counts : List ℕ) (a b : ℕ) → a ≡ 1024
    → b ≡ 1024 → next ≡ field 0 2 0 a tracks → counts ≡ field 0 2 1 b tracks
    → with_tracks s taken t next counts orientation x y gap ≡ state_in s.tables s.order taken tracks t orientation x y gap
put-together s taken t tracks orientation x y gap next counts a b e f n c =
    ap₂ (λ (n c : List ℕ). with_tracks s taken t n c orientation x y gap) (n ∙ ap (λ (i : ℕ). field 0 2 0 i tracks) e)
    (c ∙ ap (λ (i : ℕ). field 0 2 1 i tracks) f)
