-- A layout of an accepted job: its tables where it is prepared, its refusal where it is not; reply and rooms together. Assumes nothing.
use Rattle.std.specs.Prelude.{Ok, Err}
use Prim.Native.Nat.{ℕ, ◌*◌, ◌≤◌}
use mathlib.Core.Path.{◌≡◌, refl, sym, ap, ap₂, subst, ◌∙◌}
use mathlib.Core.List.{List, []}
use lib.ListN.{length, take}
use lib.Ieee.{Float}
use Rattle.numbers.specs.Numbers.{pos_zero}
use Rattle.trapezoid.specs.Strip.{capacity}
use Rattle.index.specs.Buckets.{standing_capacity}
use Rattle.job.specs.declared.Header.{Header}
use Rattle.job.specs.Jobs.{Job, read_job}
use Rattle.filling.specs.declared.Refusal.{Refusal}
use Rattle.filling.specs.Shapes.{planner_of}
use Rattle.filling.specs.Rooms.{Rooms, rooms_of, zeros}
use Rattle.filling.specs.Start.{prepare_verdict}
use Rattle.filling.proofs.Reading.{length-zeros}
use Rattle.prepare.specs.inner.Ready as Rooms₀
use Rattle.prepare.specs.inner.Ready.{PreparedIs}
use Rattle.prepare.specs.declared.Prepared as Answers
use Rattle.choose.specs.declared.Grid.{Grid}
use Rattle.choose.specs.inner.Choosing.{grid_of}
use Rattle.report.specs.readied.inner.Zeroed.{ReadInto}
use Rattle.report.proofs.readied.Preparing.{same-verdict, ready-given, ready-shapes}
use Rattle.report.proofs.readied.Left.{rooms_are}
use Rattle.layouts.specs.declared.PutLine.{PutLine}
use Rattle.layouts.specs.declared.Judgement.{Judgement}
use Rattle.layouts.specs.Layouts.{lines_of, not_judged, layout_from, layout_job, layout_given, layout_of}
use Rattle.judge_lines.specs.inner.Judging.{TablesOf}
use Rattle.judge_layout.specs.Judging.{judged}
use Rattle.judge_layout.specs.inner.Zero.{rooms_alone, ZeroRooms}

-- ---- by what is prepared

module _ (j : Job) (ls : List PutLine) (w : Rooms) where
  lines_judged : prepare_verdict (planner_of j) w ≡ (Ok tt) → layout_from j (planner_of j) w [] [] ls ≡ layout_job j ls w
  unfolding layout_job
  lines_judged e = rw (e, layout_job)

  none-judged : (k : Refusal) → prepare_verdict (planner_of j) w ≡ Err k → not_judged k ≡ layout_job j ls w
  unfolding layout_job
  none-judged k e = rw (e, layout_job)

module _ {j : Job} {bytes : List ℕ} {at : ℕ} {h : Header} {rows : List ℕ} {areas : List Float} {places : List ℕ} (R : ReadInto j bytes at h rows areas places)
    {w : Rooms} {shapes₀ sheet₀ placed₀ : List Float} {entries₀ placed-entries₀ firsts₀ placed-firsts₀ : List ℕ}
    (Z : ZeroRooms w shapes₀ sheet₀ placed₀ entries₀ placed-entries₀ firsts₀ placed-firsts₀)
    (q : Answers.Prepared) (shapes sheet : List Float) (entries firsts : List ℕ)
    (E : PreparedIs q (planner_of j) (Rooms₀.given shapes₀ sheet₀ entries₀ firsts₀) shapes sheet entries firsts) where
  -- the lines are judged by the job's tables
  pub tables-ready : q.verdict ≡ (Ok tt) → (g : Grid) → g ≡ grid_of q.tables
      → TablesOf j g h.kinds rows q.tables.inset_bounds q.tables.parts shapes (take (6 * q.tables.sheet_strips) sheet)
  tables-ready e g d =
      subst (λ (g : Grid). TablesOf j g h.kinds rows q.tables.inset_bounds q.tables.parts shapes (take (6 * q.tables.sheet_strips) sheet))
      (sym d)
      (record {
        areas = areas;
        sheet_entries = entries;
        sheet_starts = q.sheet_starts;
        prepared = ready-given R Z q shapes sheet entries firsts E e;
        number = R.number;
      })

  pub shapes-ready : q.verdict ≡ (Ok tt) → (g : Grid) → g ≡ grid_of q.tables → 6 * g.apart_strips ≤ length shapes
  shapes-ready e g d = subst (λ (g : Grid). 6 * g.apart_strips ≤ length shapes) (sym d) (ready-shapes R Z q shapes sheet entries firsts E e)

  pub room_is : standing_capacity w.placed w.placed_firsts ≡ standing_capacity placed₀ placed-firsts₀
  unfolding standing_capacity capacity
  room_is = rw (ap length Z.placed_zero ∙ length-zeros pos_zero w.placed, ap length Z.placed_firsts_zero ∙ length-zeros 0 w.placed_firsts)

  pub entries_are : length w.placed_entries ≡ length placed-entries₀
  entries_are = sym (ap length Z.placed_entries_zero ∙ length-zeros 0 w.placed_entries)

  pub lines_are : q.verdict ≡ (Ok tt) → (ls : List PutLine) (r : Judgement) → r ≡ layout_from j (planner_of j) w [] [] ls → r ≡ layout_job j ls w
  lines_are e ls r d = d ∙ lines_judged j ls w (same-verdict R Z q shapes sheet entries firsts E ∙ e)

  pub refusal_is : (k : Refusal) → q.verdict ≡ Err k → (ls : List PutLine) (r : Judgement) → r ≡ not_judged k → r ≡ layout_job j ls w
  refusal_is k e ls r d = d ∙ none-judged j ls w k (same-verdict R Z q shapes sheet entries firsts E ∙ e)

-- ---- reply and rooms

-- the rooms after zeros are written
pub cleared : (w : Rooms) (shapes sheet placed : List Float) (sheet_entries placed_entries sheet_firsts placed_firsts : List ℕ)
    → (shapes ≡ zeros pos_zero w.shapes) × (sheet ≡ zeros pos_zero w.sheet) × (placed ≡ zeros pos_zero w.placed)
    × (sheet_entries ≡ zeros 0 w.sheet_entries) × (placed_entries ≡ zeros 0 w.placed_entries) × (sheet_firsts ≡ zeros 0 w.sheet_firsts)
    × (placed_firsts ≡ zeros 0 w.placed_firsts)
    → ZeroRooms w shapes sheet placed sheet_entries placed_entries sheet_firsts placed_firsts
unfolding zeros
cleared w shapes sheet placed sheet_entries placed_entries sheet_firsts placed_firsts e =
    record {
      shapes_zero = e.0;
      sheet_zero = e.1;
      placed_zero = e.2;
      sheet_entries_zero = e.3;
      placed_entries_zero = e.4;
      intervals_zero = refl;
      positions_zero = refl;
      sheet_firsts_zero = e.5;
      placed_firsts_zero = e.6;
    }

pub whole_is : (bytes given : List ℕ) (w : Rooms) (r : Judgement) → r ≡ layout_given (read_job bytes) (lines_of given) w → (shapes sheet placed : List Float)
    (sheet_entries placed_entries sheet_firsts placed_firsts : List ℕ) → shapes ≡ zeros pos_zero w.shapes → sheet ≡ zeros pos_zero w.sheet
    → placed ≡ zeros pos_zero w.placed → sheet_entries ≡ zeros 0 w.sheet_entries → placed_entries ≡ zeros 0 w.placed_entries
    → sheet_firsts ≡ zeros 0 w.sheet_firsts → placed_firsts ≡ zeros 0 w.placed_firsts
    → judged r (rooms_of shapes sheet placed sheet_entries placed_entries sheet_firsts placed_firsts) ≡ layout_of bytes given w
unfolding layout_of
whole_is bytes given w r e shapes sheet placed sheet_entries placed_entries sheet_firsts placed_firsts a b c d f g h =
    ap₂ judged e (rooms_are (rooms_alone w) shapes sheet placed sheet_entries placed_entries sheet_firsts placed_firsts a b c d f g h)
