-- The lines one after another: what is kept between them, and the definition's answer. Assumes nothing.
use Rattle.std.specs.Prelude.{Result, Ok, Err}
use Prim.Native.Nat.{ℕ, suc, ◌+◌, ◌-◌, ◌*◌, ◌/◌, ◌≤◌, ◌<◌}
use native.Mathlib.Omega.{arith}
use mathlib.Core.Path.{◌≡◌, refl, sym, ap, ap₂, subst, ◌∙◌}
use mathlib.Core.Logic.{inl, inr}
use mathlib.Core.Bool.{false}
use mathlib.Core.List.{List, [], ◌∷◌, ◌++◌, map}
use lib.ListN.{length, get_or, set, take, replicate, get_or-replicate, length-append}
use lib.Seq.{get_or-set_same, get_or-set_other}
use lib.Dec.{eqb}
use lib.Ieee.{Float}
use borrow.Author.Tests.{eq-eqb, eqb-true}
use Rattle.numbers.proofs.Truth.{either}
use Rattle.trapezoid.specs.Strip.{capacity}
use Rattle.index.specs.Buckets.{up_from, standing_capacity}
use Rattle.frames.specs.declared.Point.{Point}
use Rattle.job.specs.Jobs.{Job, frame_of}
use Rattle.filling.specs.declared.Refusal.{Refusal}
use Rattle.filling.specs.Shapes.{planner_of, shape_of, moved_strips}
use Rattle.filling.specs.Rooms.{Rooms}
use Rattle.filling.specs.Order.{count_in}
use Rattle.filling.specs.Leaf.{lacks}
use Rattle.filling.specs.NextCopy.{store_verdict}
use Rattle.filling.specs.Consistent.{sheet_index, entries_for}
use Rattle.filling.proofs.promises.Few.{entries-few}
use Rattle.filling.proofs.CountIn.{count_none, count_same, count-other, count-append}
use Rattle.choose.specs.declared.Grid.{Grid}
use Rattle.choose.specs.inner.Choosing.{part_at, apart_part}
use Rattle.layouts.specs.declared.PutLine.{PutLine}
use Rattle.layouts.specs.Layouts.{line_at, lines_of, place_of, line_strips, line_verdict, layout_from}
use Rattle.judge_lines.specs.declared.Standing.{Standing}
use Rattle.judge_lines.specs.inner.Judging.{fits_by, stored, stored_of, TablesOf, Kept, LineIs}
use Rattle.judge_lines.proofs.Slots.{kinds_few, kind_in, apart_is}
use Rattle.judge_lines.proofs.Verdicts.{fits_lacking}
use Rattle.judge_lines.proofs.Storing.{StoredAs, stored_is}

-- ---- one line more is counted

module _ (counts : List ℕ) (ks : List ℕ) (kind : ℕ) (long : 64 ≤ length counts) (c : (k : ℕ) → k < 64 → get_or counts k 0 ≡ count_in k ks)
    (below : kind < 64) where
  pub counted_next : (k : ℕ) → k < 64 → get_or (set counts kind (get_or counts kind 0 + 1)) k 0 ≡ count_in k (ks ++ (kind ∷ []))
  counted_next k h = elim (either (eqb k kind)) [
    | inl e ↦
        let d = eqb-true k kind e in
        let a = count-append k ks (kind ∷ []) in
        let b = count_same k kind [] e in
        let n = count_none k in
        let g : get_or (set counts kind (get_or counts kind 0 + 1)) k 0 ≡ get_or counts kind 0 + 1 =
        ap (λ (i : ℕ). get_or (set counts kind (get_or counts kind 0 + 1)) i 0) d ∙ get_or-set_same counts kind (get_or counts kind 0 + 1) 0 (omega arith) in
        let f = c kind below in
        let m = ap (λ (i : ℕ). count_in i ks) d in
        omega (arith, a, b, n, g, f, m)
    | inr e ↦
        let a = count-append k ks (kind ∷ []) in
        let b = count-other k kind [] e in
        let n = count_none k in
        let g = get_or-set_other counts kind k (get_or counts kind 0 + 1) 0 (other e) in
        let f = c k h in
        omega (arith, a, b, n, g, f)
  ]
    where
      other : {k : ℕ} → eqb k kind ≡ false → k ≡ kind → Prim.⊥
      other {k} e d = absurd (mathlib.Core.Bool.true≢false (sym (eq-eqb k kind d) ∙ e))

-- ---- one line's strips

module _ {j : Job} {g : Grid} {kinds : ℕ} {rows : List ℕ} {ib : List Float} {parts : List ℕ} {shapes sheet : List Float}
    (t : TablesOf j g kinds rows ib parts shapes sheet) (w : Rooms) (ks : List ℕ) (st : List Float) (l : PutLine) (room : ℕ)
    (room_is : standing_capacity w.placed w.placed_firsts ≡ room) (counts : List ℕ) (placed : List Float) (s : Standing)
    (kept : Kept j w ks st counts placed s)
    (kind orientation : ℕ) (at : Point) (kind_is : l.kind ≡ kind) (turn_is : l.orientation ≡ orientation) (at-is : place_of (frame_of j.header) l ≡ at) where
  abbrev Fits : ℕ → List Float → Result (Unit {0}) Refusal
  Fits n standing = fits_by j n standing kind orientation at

  counts_same : Fits (get_or counts kind 0) (take (6 * s.strips) placed) ≡ Fits (count_in kind ks) st
  counts_same = elim (either (lacks j kind orientation)) [
    | inl y ↦
        fits_lacking j (get_or counts kind 0) (take (6 * s.strips) placed) kind orientation at y
        ∙ sym (fits_lacking j (count_in kind ks) st kind orientation at y)
    | inr n ↦ ap₂ Fits (kept.counted kind (let a = kind_in t kind orientation n in let b = kinds_few t in omega (arith, a, b))) kept.stands
  ]

  -- the code's tests are those of the line
  pub fits-same : (r : Result (Unit {0}) Refusal) → r ≡ Fits (get_or counts kind 0) (take (6 * s.strips) placed)
      → r ≡ fits_by j (count_in l.kind ks) st l.kind l.orientation (place_of (frame_of j.header) l)
  fits-same r e =
      e ∙ (counts_same ∙ (ap₂ (λ (k o : ℕ). fits_by j (count_in k ks) st k o at) (sym kind_is) (sym turn_is)
      ∙ ap (fits_by j (count_in l.kind ks) st l.kind l.orientation) (sym at-is)))

  module _ (has : lacks j kind orientation ≡ false) (long : 6 * room ≤ length placed) (upto : s.strips ≤ room) where
    abbrev Apart : List Float
    Apart = apart_part (part_at parts (16 * kind + orientation)) (take (6 * g.apart_strips) shapes)

    strips_are : st ++ moved_strips Apart at.x at.y ≡ st ++ line_strips (planner_of j) (frame_of j.header) l
    unfolding line_strips
    strips_are =
        ap (λ (a : List Float). st ++ moved_strips a at.x at.y) (apart_is t kind orientation has)
        ∙ (ap₂ (λ (k o : ℕ). st ++ moved_strips (shape_of (planner_of j) k o).apart at.x at.y) (sym kind_is) (sym turn_is)
        ∙ ap (λ (q : Point). st ++ moved_strips (shape_of (planner_of j) l.kind l.orientation).apart q.x q.y) (sym at-is))

    module _ (counts' : List ℕ) (more : (k : ℕ) → k < 64 → get_or counts' k 0 ≡ count_in k (ks ++ (kind ∷ []))) (placed' : List Float) where
      stands_so : (r : Result Standing Refusal) (now : List Float) → now ≡ st ++ line_strips (planner_of j) (frame_of j.header) l → (v : Result (Unit {0}) Refusal)
          → v ≡ store_verdict (planner_of j) w (st ++ line_strips (planner_of j) (frame_of j.header) l)
          → StoredAs j w now r placed' → LineIs j w ks st l v counts' placed' r
      stands_so (Ok z) now e v d q = (
        d ∙ (ap (store_verdict (planner_of j) w) (sym e) ∙ q.0),
        record {
          counted = λ k h. more k h ∙ ap (λ (n : ℕ). count_in k (ks ++ (n ∷ []))) (sym kind_is);
          stands = q.1 ∙ e;
          entries = q.2 ∙ ap (λ (a : List Float). z.entries + length (entries_for (planner_of j).bounds a)) e;
        },
      )
      stands_so (Err r) now e v d q = d ∙ (ap (store_verdict (planner_of j) w) (sym e) ∙ q)

      -- what `store_line` answers is the line's
      pub line-stored : (r : Result Standing Refusal) → stored r placed' ≡ stored_of g.index Apart at room s placed → (v : Result (Unit {0}) Refusal)
          → v ≡ store_verdict (planner_of j) w (st ++ line_strips (planner_of j) (frame_of j.header) l) → LineIs j w ks st l v counts' placed' r
      line-stored r e v d =
          stands_so r _ strips_are v d
          (stored_is j w Apart at s placed st room kept.stands room_is kept.entries long upto g.index t.prepared.index r placed' e)

-- another name of the verdict
pub line_as : (j : Job) (w : Rooms) (ks : List ℕ) (st : List Float) (l : PutLine) (counts : List ℕ) (placed : List Float) (r : Result Standing Refusal) (u v : Result (Unit {0}) Refusal) → u ≡ v
    → LineIs j w ks st l v counts placed r → LineIs j w ks st l u counts placed r
line_as j w ks st l counts placed r u v e q = subst (λ (z : Result (Unit {0}) Refusal). LineIs j w ks st l z counts placed r) (sym e) q

-- ---- between the lines

abbrev lines_from : List ℕ → ℕ → List PutLine
lines_from given i = map (line_at given) (up_from (length given / 4 - i) i)

pub record Going (j : Job) (w : Rooms) (given : List ℕ) (counts : List ℕ) (placed : List Float) (s : Standing) (i : ℕ) : Type 0 where
  pub ks : List ℕ
  pub st : List Float
  pub kept : Kept j w ks st counts placed s
  pub so_far : length ks ≡ i
  pub same : layout_from j (planner_of j) w [] [] (lines_of given) ≡ layout_from j (planner_of j) w ks st (lines_from given i)

module _ (j : Job) (w : Rooms) (given : List ℕ) where
  pub going-first : (placed : List Float) → Going j w given (replicate 64 0) placed (record { strips = 0; entries = length w.placed_entries }) 0
  unfolding lines_of
  going-first placed =
      record {
        ks = [];
        st = [];
        kept = record { counted = λ k h. get_or-replicate {A = ℕ} 64 k 0 0 h ∙ sym (count_none k); stands = refl; entries = none };
        so_far = refl;
        same = ap (λ (n : ℕ). layout_from j (planner_of j) w [] [] (map (line_at given) (up_from n 0))) (whole (length given / 4));
      }
    where
      whole : (n : ℕ) → n ≡ n - 0
      whole n = omega arith

      few-entries : length (entries_for (planner_of j).bounds []) ≤ 512 * 0
      few-entries = unfold entries_for in (unfold capacity in (entries-few (sheet_index (planner_of j).bounds) [] 0))

      none : length w.placed_entries ≡ length w.placed_entries + length (entries_for (planner_of j).bounds [])
      none = let e = few-entries in omega (arith, e)

  module _ (counts : List ℕ) (placed : List Float) (s : Standing) (i : ℕ) (g : Going j w given counts placed s i) where
    abbrev P : Rattle.filling.specs.Shapes.Planner
    P = planner_of j

    -- the next line first
    next_is : i < length given / 4 → lines_from given i ≡ line_at given i ∷ lines_from given (i + 1)
    unfolding up_from
    next_is h = let e : length given / 4 - i ≡ suc (length given / 4 - (i + 1)) = omega arith in
        let f : i + 1 ≡ suc i = omega arith in
        rw (e, up_from) (ap (λ (n : ℕ). line_at given i ∷ map (line_at given) (up_from (length given / 4 - (i + 1)) n)) (sym f))

    from-accepted : (l : PutLine) (ls : List PutLine) → line_verdict j P w g.ks g.st l ≡ (Ok tt)
        → layout_from j P w g.ks g.st (l ∷ ls) ≡ layout_from j P w (g.ks ++ (l.kind ∷ [])) (g.st ++ line_strips P (frame_of j.header) l) ls
    unfolding layout_from
    from-accepted l ls e = rw (e, layout_from)

    from-refused : (l : PutLine) (ls : List PutLine) (r : Refusal) → line_verdict j P w g.ks g.st l ≡ Err r
        → layout_from j P w g.ks g.st (l ∷ ls) ≡ record { verdict = Err r; line = length g.ks }
    unfolding layout_from
    from-refused l ls r e = rw (e, layout_from)

    module _ (h : i < length given / 4) (counts' : List ℕ) (placed' : List Float) where
      abbrev L : PutLine
      L = line_at given i

      abbrev Is : PutLine → Result Standing Refusal → Type 0
      Is l r = LineIs j w g.ks g.st l (line_verdict j P w g.ks g.st l) counts' placed' r

      going_next : (t : Standing) → Is L (Ok t) → Going j w given counts' placed' t (i + 1)
      going_next t q =
          record {
            ks = g.ks ++ (L.kind ∷ []);
            st = g.st ++ line_strips P (frame_of j.header) L;
            kept = q.1;
            so_far = length-append g.ks (L.kind ∷ []) ∙ ap (λ (n : ℕ). n + 1) g.so_far;
            same = g.same ∙ (ap (layout_from j P w g.ks g.st) (next_is h) ∙ from-accepted L (lines_from given (i + 1)) q.0);
          }

      going-bad : (r : Refusal) → Is L (Err r) → record { verdict = Err r; line = i } ≡ layout_from j P w [] [] (lines_of given)
      going-bad r q =
          sym (g.same ∙ (ap (layout_from j P w g.ks g.st) (next_is h) ∙ (from-refused L (lines_from given (i + 1)) r q
          ∙ ap (λ (n : ℕ). record { verdict = Err r; line = n }) g.so_far)))

      -- with the line and the answer as the code has them
      module _ (l : PutLine) (e : l ≡ line_at given i) (a : Result Standing Refusal) (q : Is l a) where
        pub going_on : (t : Standing) → a ≡ Ok t → Going j w given counts' placed' t (i + 1)
        going_on t d = going_next t (subst (λ (z : Result Standing Refusal). Is L z) d (subst (λ (z : PutLine). Is z a) e q))

        pub going-ends : (r : Refusal) → a ≡ Err r → record { verdict = Err r; line = i } ≡ layout_from j P w [] [] (lines_of given)
        going-ends r d = going-bad r (subst (λ (z : Result Standing Refusal). Is L z) d (subst (λ (z : PutLine). Is z a) e q))

    pub going-last : length given / 4 ≤ i → record { verdict = Ok tt; line = i } ≡ layout_from j P w [] [] (lines_of given)
    unfolding layout_from up_from
    going-last h =
        let e : length given / 4 - i ≡ 0 = omega arith in
        sym (g.same ∙ (ap (λ (n : ℕ). layout_from j P w g.ks g.st (map (line_at given) (up_from n i))) e
        ∙ ap (λ (n : ℕ). record { verdict = Ok tt; line = n }) g.so_far))
