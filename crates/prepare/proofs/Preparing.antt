-- What is prepared, from what the sheet and the shapes leave. Assumes nothing.
use Rattle.std.specs.Prelude.{Option, Some, None, Result, Ok, Err}
use mathlib.Core.Path.{◌≡◌, sym, ap, subst, ◌∙◌}
use mathlib.Core.Bool.{true}
use mathlib.Core.List.{List, ◌++◌}
use Prim.Native.Nat.{ℕ, ◌≤◌, ◌<◌}
use lib.ListN.{length}
use lib.Ieee.{Float}
use borrow.Author.Tests.{lt-ltb, le-ltb}
use Rattle.trapezoid.specs.Strip.{capacity}
use Rattle.index.specs.Buckets.{standing_capacity}
use Rattle.strips.specs.declared.Rect.{Rect}
use Rattle.job.specs.declared.Header.{Header}
use Rattle.frames.specs.declared.Frame.{Frame}
use Rattle.frames.specs.Frames.{framed}
use Rattle.job.specs.Jobs.{Job, frame_of}
use Rattle.filling.specs.declared.Refusal.{Refusal}
use Rattle.filling.specs.declared.Refusal.TheVariants as Why
use Rattle.filling.specs.declared.Tables.{Tables}
use Rattle.filling.specs.Refusals.{refuse_if, refusal_of}
use Rattle.filling.specs.Shapes.{Shape, Planner, planner_of, set_strips, set_bounds}
use Rattle.filling.specs.Rooms.{Rooms}
use Rattle.filling.specs.State.{by_slot, slot_shape}
use Rattle.filling.specs.Consistent.{entries_for}
use Rattle.filling.specs.Start.{apart_strips_of, inset_strips, tables_of, prepare_verdict}
use Rattle.filling.proofs.Steps.{refused≢accepted}
use Rattle.shapes.specs.slots.inner.Slots.{slot_of}
use Rattle.shapes.specs.inner.ShapeRooms.{ShapesAre}
use Rattle.index.specs.declared.Overrun.{Overrun}
use Rattle.index.specs.declared.Overrun.TheVariants as Room
use Rattle.prepare.specs.sheet.inner.SheetRoom.{SheetIs}
use Rattle.prepare.specs.declared.Prepared.{Prepared}
use Rattle.prepare.specs.inner.Ready.{FromTables, given, PreparedIs}
use Rattle.prepare.proofs.Tabled.{slots_are, sheet-bounds_are, sheet-strips_are}
use Rattle.kinds.specs.sets.inner.Answers.{set_at}

-- ---- the verdict
module _ (p : Planner) (w : Rooms) where
  pub refused-strips : standing_capacity w.sheet w.sheet_firsts < capacity p.sheet → prepare_verdict p w ≡ Err Why.StripRoom
  unfolding prepare_verdict refuse_if
  refused-strips h = rw (lt-ltb (standing_capacity w.sheet w.sheet_firsts) (capacity p.sheet) h)

  module _ (s : capacity p.sheet ≤ standing_capacity w.sheet w.sheet_firsts) where
    pub refused-entries : length w.sheet_entries < length (entries_for p.bounds p.sheet) → prepare_verdict p w ≡ Err Why.EntryRoom
    unfolding prepare_verdict refuse_if
    refused-entries h = rw (
      le-ltb (standing_capacity w.sheet w.sheet_firsts) (capacity p.sheet) s,
      lt-ltb (length w.sheet_entries)
          (length (entries_for p.bounds p.sheet)) h,
    )

    module _ (e : length (entries_for p.bounds p.sheet) ≤ length w.sheet_entries) where
      pub refused-shapes : capacity w.shapes < capacity (apart_strips_of p ++ inset_strips p) → prepare_verdict p w ≡ Err Why.StripRoom
      unfolding prepare_verdict refuse_if
      refused-shapes h =
          rw (
            le-ltb (standing_capacity w.sheet w.sheet_firsts) (capacity p.sheet) s,
            le-ltb (length w.sheet_entries)
                (length (entries_for p.bounds p.sheet)) e,
            lt-ltb (capacity w.shapes) (capacity (apart_strips_of p ++ inset_strips p)) h,
          )

      pub prepared_all : capacity (apart_strips_of p ++ inset_strips p) ≤ capacity w.shapes → prepare_verdict p w ≡ (Ok tt)
      unfolding prepare_verdict refuse_if
      prepared_all h =
          rw (
            le-ltb (standing_capacity w.sheet w.sheet_firsts) (capacity p.sheet) s,
            le-ltb (length w.sheet_entries)
                (length (entries_for p.bounds p.sheet)) e,
            le-ltb (capacity w.shapes) (capacity (apart_strips_of p ++ inset_strips p)) h,
          )

-- ---- what is answered
not-prepared : {k : Refusal} (r : Prepared) (p : Planner) (w : Rooms) (shapes sheet : List Float) (entries firsts : List ℕ)
    → r.verdict ≡ Err k → prepare_verdict p w ≡ Err k → PreparedIs r p w shapes sheet entries firsts
not-prepared r p w shapes sheet entries firsts d e = record { verdict_is = d ∙ sym e; ready = λ f. absurd (refused≢accepted (sym d ∙ f)) }

tables-same : {r r' : Float} {b b' : Rect} {n n' a a' : ℕ} {x x' : List Float} {y y' : List ℕ} → r ≡ r' → b ≡ b' → n ≡ n' → a ≡ a' → x ≡ x' → y ≡ y'
    → ◌≡◌ {A = Tables} (record { resolution = r; sheet_bounds = b; sheet_strips = n; apart_strips = a; inset_bounds = x; parts = y })
    (record { resolution = r'; sheet_bounds = b'; sheet_strips = n'; apart_strips = a'; inset_bounds = x'; parts = y' })
tables-same e f g h i k = rw (e, f, g, h, i, k)

-- ---- through the tables
module _ (bytes rows places : List ℕ) (at kinds : ℕ) (j : Job) (T : FromTables bytes rows places at kinds j) (g : Frame) (G : g ≡ frame_of j.header) where
  abbrev P : Planner
  P = planner_of j

  sheet_as : (r : Result (Rect × ℕ) Overrun) (sheet₀ sheet : List Float) (entries₀ entries starts firsts₀ firsts : List ℕ) → SheetIs r (set_bounds (framed g (set_at bytes at)))
      (set_strips true (framed g (set_at bytes at))) sheet₀ sheet entries₀ entries starts firsts₀ firsts
      → SheetIs r P.bounds P.sheet sheet₀ sheet entries₀ entries starts firsts₀ firsts
  sheet_as r sheet₀ sheet entries₀ entries starts firsts₀ firsts S =
      subst (λ (b : Rect). SheetIs r b P.sheet sheet₀ sheet entries₀ entries starts firsts₀ firsts)
      (ap (λ (f : Frame). set_bounds (framed f (set_at bytes at))) G ∙ sheet-bounds_are T)
      (subst (λ (s : List Float). SheetIs r (set_bounds (framed g (set_at bytes at))) s sheet₀ sheet entries₀ entries starts firsts₀ firsts)
      (ap (λ (f : Frame). set_strips true (framed f (set_at bytes at))) G ∙ sheet-strips_are T) S)

  shapes_as : (r : Option (ℕ × ℕ)) (shapes₀ shapes bounds : List Float) (parts : List ℕ) → ShapesAre r (by_slot (slot_of g bytes rows places kinds)) shapes₀ shapes
      bounds parts → ShapesAre r (by_slot (slot_shape P)) shapes₀ shapes bounds parts
  shapes_as r shapes₀ shapes bounds parts S =
      subst (λ (ss : List Shape). ShapesAre r ss shapes₀ shapes bounds parts) (ap (λ (f : Frame). by_slot (slot_of f bytes rows places kinds)) G ∙ slots_are T) S

  module _ (r : Result (Rect × ℕ) Overrun) (shapes₀ shapes sheet₀ sheet : List Float) (entries₀ entries starts firsts₀ firsts : List ℕ)
      (S : SheetIs r (set_bounds (framed g (set_at bytes at))) (set_strips true (framed g (set_at bytes at))) sheet₀ sheet entries₀ entries starts firsts₀
      firsts) where
    abbrev Before : Rooms
    Before = given shapes₀ sheet₀ entries₀ firsts₀

    told : (q : Result (Rect × ℕ) Overrun) → r ≡ q → SheetIs q P.bounds P.sheet sheet₀ sheet entries₀ entries starts firsts₀ firsts
    told q e = subst (λ (x : Result (Rect × ℕ) Overrun). SheetIs x P.bounds P.sheet sheet₀ sheet entries₀ entries starts firsts₀ firsts) e
        (sheet_as r sheet₀ sheet entries₀ entries starts firsts₀ firsts S)

    pub sheet_over : (p : Prepared) (o : Overrun) → r ≡ Err o → p.verdict ≡ Err (refusal_of o) → PreparedIs p P Before shapes sheet entries firsts
    sheet_over p Room.StripRoom e d = not-prepared p P Before shapes sheet entries firsts d (refused-strips P Before (told (Err Room.StripRoom) e))
    sheet_over p Room.EntryRoom e d = let t = told (Err Room.EntryRoom) e in not-prepared p P Before shapes sheet entries firsts d (refused-entries P Before t.0 t.1)
    sheet_over p Room.IntervalRoom e d = absurd (told (Err Room.IntervalRoom) e)

    module _ (b : Rect) (n : ℕ) (e : r ≡ Ok (b, n)) (q : Option (ℕ × ℕ)) (bounds : List Float) (parts : List ℕ)
        (Q : ShapesAre q (by_slot (slot_of g bytes rows places kinds)) shapes₀ shapes bounds parts) where
      asked : (t : Option (ℕ × ℕ)) → q ≡ t → ShapesAre t (by_slot (slot_shape P)) shapes₀ shapes bounds parts
      asked t d = subst (λ (x : Option (ℕ × ℕ)). ShapesAre x (by_slot (slot_shape P)) shapes₀ shapes bounds parts) d (shapes_as q shapes₀ shapes bounds parts Q)

      pub shapes_over : (p : Prepared) → q ≡ None → p.verdict ≡ Err Why.StripRoom → PreparedIs p P Before shapes sheet entries firsts
      unfolding apart_strips_of inset_strips
      shapes_over p d f =
          let t = (told (Ok (b, n)) e).1 in
          not-prepared p P Before shapes sheet entries firsts f (refused-shapes P Before t.strips-fit t.entries_fit (asked None d))

      module _ (h : Header) (H : j.header ≡ h) (a i : ℕ) (d : q ≡ Some (a, i)) where
        abbrev Told : Tables
        Told = record { resolution = h.resolution; sheet_bounds = b; sheet_strips = n; apart_strips = a; inset_bounds = bounds; parts = parts }

        tables-told : Told ≡ tables_of P
        unfolding tables_of apart_strips_of planner_of
        tables-told =
            let f = told (Ok (b, n)) e in
            let s = asked (Some (a, i)) d in
            tables-same (sym (ap (λ (x : Header). x.resolution) H)) f.0 f.1.number s.0 s.4 s.5

        pub all_ready : PreparedIs (record { verdict = Ok tt; tables = Told; sheet_starts = starts }) P Before shapes sheet entries firsts
        unfolding apart_strips_of inset_strips
        all_ready =
            let t = (told (Ok (b, n)) e).1 in
            let s = asked (Some (a, i)) d in
            record {
              verdict_is = sym (prepared_all P Before t.strips-fit t.entries_fit s.2);
              ready = λ _. record {
                tables_are = tables-told;
                shapes_are = s.3;
                sheet_is = t.strips;
                entries_are = t.entries_are;
                indexed = t.indexed;
                firsts_are = t.firsts_are;
                kept = t.kept;
              };
            }
