-- What is prepared in zeroed rooms is what a filling is given. Assumes nothing.
use Rattle.std.specs.Prelude.{Result, Ok, Err}
use Prim.Native.Nat.{ℕ, ◌*◌, ◌≤◌}
use native.Mathlib.Omega.{arith}
use mathlib.Core.Path.{◌≡◌, sym, ap, ap₂, subst, ◌∙◌}
use mathlib.Core.List.{List, [], ◌++◌}
use lib.ListN.{length, take, drop, length-append}
use lib.Ieee.{Float}
use Rattle.numbers.specs.Numbers.{pos_zero}
use Rattle.trapezoid.specs.Strip.{capacity}
use Rattle.index.specs.inner.Listing.{Laid, FirstBuckets}
use Rattle.strips.specs.declared.Rect.{Rect}
use Rattle.job.specs.declared.Header.{Header}
use Rattle.job.specs.Jobs.{Job}
use Rattle.filling.specs.declared.Tables.{Tables}
use Rattle.filling.specs.Shapes.{Planner, planner_of}
use Rattle.filling.specs.Rooms.{Lent, laid, zeros}
use Rattle.filling.specs.State.{apart_room, inset_room, planner_at}
use Rattle.filling.specs.Consistent.{sheet_index, entries_for}
use Rattle.filling.specs.Start.{apart_strips_of, inset_strips, tables_of, first_state, first_rooms, prepare_verdict}
use Rattle.filling.proofs.Reading.{length-zeros, laid-long}
use Rattle.filling.proofs.Sizes.{sized}
use Rattle.filling.proofs.Begin.{first_linked, prepared-few}
use Rattle.prepare.specs.inner.Ready as Rooms₀
use Rattle.prepare.specs.inner.Ready.{Readied, PreparedIs}
use Rattle.prepare.specs.declared.Prepared as Answers
use Rattle.filling.specs.declared.Refusal.{Refusal}
use Rattle.filling.specs.Fill.{Planned}
use Rattle.filling.specs.declared.Plan.{Plan}
use Rattle.report.specs.inner.Replies.{reply, reply_of, planned_when}
use Rattle.report.proofs.Reporting.{refused-reply}
use Rattle.filling_laws.specs.fill_laws.inner.Prepared.{given, Prepared, SheetFirsts}
use Rattle.report.specs.readied.inner.Zeroed.{Zeroed, ReadInto}

-- 20 and 21 go by the rooms' lengths
pub verdict_zeroed : (p : Planner) (l : Lent) (shapes sheet : List Float) (entries firsts : List ℕ) → shapes ≡ zeros pos_zero l.rooms.shapes
    → sheet ≡ zeros pos_zero l.rooms.sheet → entries ≡ zeros 0 l.rooms.sheet_entries → firsts ≡ zeros 0 l.rooms.sheet_firsts
    → prepare_verdict p (Rooms₀.given shapes sheet entries firsts) ≡ prepare_verdict p l.rooms
unfolding prepare_verdict Rattle.index.specs.Buckets.standing_capacity capacity
verdict_zeroed p l shapes sheet entries firsts a b c d =
    rw (ap length a ∙ length-zeros pos_zero l.rooms.shapes, ap length b ∙ length-zeros pos_zero l.rooms.sheet, ap length c ∙ length-zeros 0 l.rooms.sheet_entries, ap length d ∙ length-zeros 0 l.rooms.sheet_firsts)

module _ {j : Job} {bytes : List ℕ} {at : ℕ} {h : Header} {rows : List ℕ} {areas : List Float} {places : List ℕ} (R : ReadInto j bytes at h rows areas places)
    {l : Lent} {shapes₀ sheet₀ placed₀ : List Float} {entries₀ placed-entries₀ : List ℕ} {intervals₀ positions₀ : List Float} {firsts₀ placed-firsts₀ : List ℕ}
    (Z : Zeroed l shapes₀ sheet₀ placed₀ entries₀ placed-entries₀ intervals₀ positions₀ firsts₀ placed-firsts₀)
    (t : Tables) (shapes sheet : List Float) (entries starts firsts : List ℕ)
    (D : Readied (planner_of j) t starts (Rooms₀.given shapes₀ sheet₀ entries₀ firsts₀) shapes sheet entries firsts) where
  abbrev P : Planner
  P = planner_of j

  shapes_are : shapes ≡ (first_rooms P l.rooms).shapes
  unfolding first_rooms
  shapes_are = D.shapes_are ∙ ap (laid (apart_strips_of P ++ inset_strips P)) Z.shapes_zero

  sheet_is : sheet ≡ (first_rooms P l.rooms).sheet
  unfolding first_rooms
  sheet_is = D.sheet_is ∙ ap (laid P.sheet) Z.sheet_zero

  entries_are : entries ≡ (first_rooms P l.rooms).sheet_entries
  unfolding first_rooms
  entries_are = D.entries_are ∙ ap (laid (entries_for P.bounds P.sheet)) Z.sheet_entries_zero

  bounds_are : t.sheet_bounds ≡ P.bounds
  unfolding tables_of
  bounds_are = ap (λ (u : Tables). u.sheet_bounds) D.tables_are

  resolution_is : t.resolution ≡ P.resolution
  unfolding tables_of
  resolution_is = ap (λ (u : Tables). u.resolution) D.tables_are

  strips_are : t.sheet_strips ≡ capacity P.sheet
  unfolding tables_of
  strips_are = ap (λ (u : Tables). u.sheet_strips) D.tables_are

  apart_are : t.apart_strips ≡ capacity (apart_strips_of P)
  unfolding tables_of
  apart_are = ap (λ (u : Tables). u.apart_strips) D.tables_are

  apart_is : take (6 * t.apart_strips) shapes ≡ apart_room (tables_of P) (first_rooms P l.rooms).shapes
  unfolding apart_room
  apart_is = ap₂ apart_room D.tables_are shapes_are

  inset_is : drop (6 * t.apart_strips) shapes ≡ inset_room (tables_of P) (first_rooms P l.rooms).shapes
  unfolding inset_room
  inset_is = ap₂ inset_room D.tables_are shapes_are

  sheet-part : take (6 * t.sheet_strips) sheet ≡ take (6 * (tables_of P).sheet_strips) (first_rooms P l.rooms).sheet
  sheet-part = ap₂ (λ (u : Tables) (z : List Float). take (6 * u.sheet_strips) z) D.tables_are sheet_is

  own_sheet : take (6 * t.sheet_strips) sheet ≡ P.sheet
  unfolding planner_at first_state
  own_sheet = sheet-part ∙ ap (λ (p : Planner). p.sheet) (first_linked j (sized bytes j R.read) [] l.rooms).plan

  abbrev Own : List Float
  Own = take (6 * t.sheet_strips) sheet

  laid_own : Laid (sheet_index t.sheet_bounds) Own (capacity Own) entries starts
  laid_own =
      subst (λ (b : Rect). Laid (sheet_index b) Own (capacity Own) entries starts) (sym bounds_are)
      (subst (λ (z : List Float). Laid (sheet_index P.bounds) z (capacity z) entries starts) (sym own_sheet) D.indexed)

  kept_own : FirstBuckets (sheet_index t.sheet_bounds) Own (capacity Own) firsts
  kept_own =
      subst (λ (b : Rect). FirstBuckets (sheet_index b) Own (capacity Own) firsts) (sym bounds_are)
      (subst (λ (z : List Float). FirstBuckets (sheet_index P.bounds) z (capacity z) firsts) (sym own_sheet) D.kept)

  pub prepared_is : prepare_verdict (planner_of j) l.rooms ≡ (Ok tt)
      → Prepared j (given (sheet_index t.sheet_bounds) t.sheet_bounds t.resolution rows areas t.inset_bounds t.parts
      (take (6 * t.apart_strips) shapes) (drop (6 * t.apart_strips) shapes) (take (6 * t.sheet_strips) sheet) entries starts)
  prepared_is v =
      record {
        bytes = bytes;
        read = R.read;
        few = prepared-few (planner_of j) l.rooms v;
        lent = l.rooms;
        tabled = R.tabled;
        index = ap sheet_index bounds_are;
        bounds = bounds_are;
        resolution = resolution_is;
        inset_bounds = ap (λ (u : Tables). u.inset_bounds) D.tables_are;
        parts = ap (λ (u : Tables). u.parts) D.tables_are;
        apart = apart_is;
        inset = inset_is;
        sheet = sheet-part;
        sheet_entries = entries_are;
        sheet_laid = laid_own;
      }

  pub firsts_given : SheetFirsts (given (sheet_index t.sheet_bounds) t.sheet_bounds t.resolution rows areas t.inset_bounds t.parts
      (take (6 * t.apart_strips) shapes) (drop (6 * t.apart_strips) shapes) (take (6 * t.sheet_strips) sheet) entries starts) firsts
  firsts_given = kept_own

  pub sheet-within : 6 * t.sheet_strips ≤ length sheet
  unfolding capacity
  sheet-within =
      let h = laid-long P.sheet sheet₀ in
      let e = strips_are in
      let f : length sheet ≡ length (laid P.sheet sheet₀) = ap length D.sheet_is in
      omega arith

  pub shapes-within : 6 * t.apart_strips ≤ length shapes
  unfolding capacity
  shapes-within =
      let h = laid-long (apart_strips_of P ++ inset_strips P) shapes₀ in
      let e = apart_are in
      let f : length shapes ≡ length (laid (apart_strips_of P ++ inset_strips P) shapes₀) = ap length D.shapes_are in
      let g = length-append (apart_strips_of P) (inset_strips P) in
      omega arith

-- ---- what `prepare` answers
module _ {j : Job} {bytes : List ℕ} {at : ℕ} {h : Header} {rows : List ℕ} {areas : List Float} {places : List ℕ} (R : ReadInto j bytes at h rows areas places)
    {l : Lent} {shapes₀ sheet₀ placed₀ : List Float} {entries₀ placed-entries₀ : List ℕ} {intervals₀ positions₀ : List Float} {firsts₀ placed-firsts₀ : List ℕ}
    (Z : Zeroed l shapes₀ sheet₀ placed₀ entries₀ placed-entries₀ intervals₀ positions₀ firsts₀ placed-firsts₀)
    (q : Answers.Prepared) (shapes sheet : List Float) (entries firsts : List ℕ)
    (E : PreparedIs q (planner_of j) (Rooms₀.given shapes₀ sheet₀ entries₀ firsts₀) shapes sheet entries firsts) where
  pub same-verdict : prepare_verdict (planner_of j) l.rooms ≡ q.verdict
  same-verdict = sym (E.verdict_is ∙ verdict_zeroed (planner_of j) l shapes₀ sheet₀ entries₀ firsts₀ Z.shapes_zero Z.sheet_zero Z.sheet_entries_zero Z.sheet_firsts_zero)

  module _ (e : q.verdict ≡ (Ok tt)) where
    abbrev T : Tables
    T = q.tables

    pub ready-given : Prepared j (given (sheet_index T.sheet_bounds) T.sheet_bounds T.resolution rows areas T.inset_bounds T.parts
        (take (6 * T.apart_strips) shapes) (drop (6 * T.apart_strips) shapes) (take (6 * T.sheet_strips) sheet) entries q.sheet_starts)
    ready-given = prepared_is R Z q.tables shapes sheet entries q.sheet_starts firsts (E.ready e) (same-verdict ∙ e)

    pub ready_firsts : SheetFirsts (given (sheet_index T.sheet_bounds) T.sheet_bounds T.resolution rows areas T.inset_bounds T.parts
        (take (6 * T.apart_strips) shapes) (drop (6 * T.apart_strips) shapes) (take (6 * T.sheet_strips) sheet) entries q.sheet_starts) firsts
    ready_firsts = firsts_given R Z q.tables shapes sheet entries q.sheet_starts firsts (E.ready e)

    pub ready-sheet : 6 * T.sheet_strips ≤ length sheet
    ready-sheet = sheet-within R Z q.tables shapes sheet entries q.sheet_starts firsts (E.ready e)

    pub ready-shapes : 6 * T.apart_strips ≤ length shapes
    ready-shapes = shapes-within R Z q.tables shapes sheet entries q.sheet_starts firsts (E.ready e)

    -- the reply of what is filled then
    pub ready-reply : (w : Planned) (r : Result Plan Refusal) (positions : List Float)
        → (length l.rooms.placed ≡ length placed₀ → length l.rooms.placed_entries ≡ length placed-entries₀
        → length l.intervals ≡ length intervals₀ → length l.rooms.placed_firsts ≡ length placed-firsts₀ → positions₀ ≡ zeros pos_zero l.positions → reply r positions ≡ reply_of w)
        → reply r positions ≡ reply_of (planned_when (prepare_verdict (planner_of j) l.rooms) l w)
    ready-reply w r positions f =
        f (sym (ap length Z.placed_zero ∙ length-zeros pos_zero l.rooms.placed))
        (sym (ap length Z.placed_entries_zero ∙ length-zeros 0 l.rooms.placed_entries))
        (sym (ap length Z.intervals_zero ∙ length-zeros pos_zero l.intervals))
        (sym (ap length Z.placed_firsts_zero ∙ length-zeros 0 l.rooms.placed_firsts)) Z.positions_zero
        ∙ ap (λ (v : Result (Unit {0}) Refusal). reply_of (planned_when v l w)) (sym (same-verdict ∙ e))

  -- 20 or 21
  pub over_reply : (w : Planned) (k : Refusal) → q.verdict ≡ Err k
      → reply (Err k) positions₀ ≡ reply_of (planned_when (prepare_verdict (planner_of j) l.rooms) l w)
  over_reply w k e =
      refused-reply l k positions₀ Z.positions_zero
      ∙ ap (λ (v : Result (Unit {0}) Refusal). reply_of (planned_when v l w)) (sym (same-verdict ∙ e))
