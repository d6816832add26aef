-- Lines are accepted exactly if they are legal and their rooms suffice. Assumes nothing.
use Rattle.std.specs.Prelude.{Result, Ok, Err}
use Prim.Native.Nat.{ℕ, suc, ◌+◌, ◌≤◌, ◌<◌}
use native.Mathlib.Omega.{arith}
use mathlib.Core.Path.{◌≡◌, refl, sym, ap, subst, ◌∙◌}
use mathlib.Core.Logic.{inl, inr}
use mathlib.Core.Bool.{true, false, not, ◌&&◌, true≢false}
use mathlib.Core.List.{List, [], ◌∷◌, ◌++◌, map, flat_map, append-nil, append_assoc}
use lib.ListN.{length, length-append}
use lib.Dec.{leb}
use lib.Ieee.{Float}
use borrow.Author.Tests.{le-leb, leb-true, eq-eqb, ne_eqb, not-true}
use Rattle.numbers.proofs.Truth.{holds, is_true, same_or_not, both_first, both_second}
use Rattle.numbers.proofs.Keys.{same_bool}
use Rattle.trapezoid.specs.Strip.{capacity}
use Rattle.frames.specs.declared.Frame.{Frame}
use Rattle.job.specs.Jobs.{Job, accepted, read_job, frame_of}
use Rattle.filling.specs.declared.Refusal.{Refusal}
use Rattle.filling.specs.Refusals.{is_refused}
use Rattle.filling.specs.Shapes.{Planner, planner_of, shape_of}
use Rattle.filling.specs.Rooms.{Rooms}
use Rattle.filling.specs.Order.{count_in}
use Rattle.filling.specs.Consistent.{every}
use Rattle.filling.specs.Leaf.{lacks}
use Rattle.filling.specs.Start.{prepare_verdict}
use Rattle.filling.specs.NextCopy.{store_verdict}
use Rattle.filling.proofs.CountIn.{count_none, count_same, count-other, count-append}
use Rattle.filling.proofs.Reading.{Sixfold, sixfold_nil, sixfold_append}
use Rattle.filling.proofs.Numbers31.{every-up_from, up_from-every}
use Rattle.filling.proofs.Steps.{refused≢accepted}
use Rattle.layouts.specs.declared.PutLine.{PutLine}
use Rattle.layouts.specs.declared.Judgement.{Judgement}
use Rattle.layouts.specs.Layouts.{is_finite, place_of, line_strips, in_range, clear, quantity_of}
use Rattle.layouts.specs.Layouts.{line_verdict, layout_from, not_judged, layout_job, lines_of, layout_given, layout_of}
use Rattle.layouts.specs.Legal.{line_named, few_enough, places_legal, legal_layout, room_suffices}
use Rattle.layouts.proofs.Verdicts.{Strips, line_sixfold, lines_sixfold, entries-together, stored_if}
use Rattle.layouts.proofs.Verdicts.{stored_less, Passes, passes-accepted, accepted-passes, line_on, line-bad}

-- accepted, at a line
abbrev pub accepted_at : ℕ → Judgement
accepted_at n = record { verdict = Ok tt; line = n }

-- no kind more often than its quantity, of kinds and of lines after them
abbrev pub Few : Job → List ℕ → List PutLine → Type 0
Few j kinds ls = (k : ℕ) → k < length j.kinds → count_in k kinds + count_in k (map (λ l. l.kind) ls) ≤ quantity_of j k

module _ (j : Job) (p : Planner) (w : Rooms) where
  abbrev F : Frame
  F = frame_of j.header

  kind_in : (k o : ℕ) → lacks j k o ≡ false → k < length j.kinds
  unfolding lacks
  kind_in k o h = borrow.Author.Tests.ltb-true k (length j.kinds) (both_first (lib.Dec.ltb k (length j.kinds)) _ (borrow.Author.Tests.not-false _ h))

  named-read : (l : PutLine) → line_named j l ≡ true → is_finite l.x && is_finite l.y ≡ true
  unfolding line_named
  named-read l h = both_first (is_finite l.x && is_finite l.y) (not (lacks j l.kind l.orientation)) h

  named_has : (l : PutLine) → line_named j l ≡ true → lacks j l.kind l.orientation ≡ false
  unfolding line_named
  named_has l h = not-true (lacks j l.kind l.orientation) (both_second (is_finite l.x && is_finite l.y) (not (lacks j l.kind l.orientation)) h)

  named_of : (l : PutLine) → is_finite l.x && is_finite l.y ≡ true → lacks j l.kind l.orientation ≡ false → line_named j l ≡ true
  unfolding line_named
  named_of l r h = rw (r, h)

  -- a line moves from those to come to those before
  few_on : (kinds : List ℕ) (l : PutLine) (ls : List PutLine) (k : ℕ)
      → count_in k (kinds ++ (l.kind ∷ [])) + count_in k (map (λ m. m.kind) ls) ≡ count_in k kinds + count_in k (map (λ m. m.kind) (l ∷ ls))
  few_on kinds l ls k =
      let a = count-append k kinds (l.kind ∷ []) in
      let b : count_in k (l.kind ∷ map (λ m. m.kind) ls) ≡ count_in k (l.kind ∷ []) + count_in k (map (λ m. m.kind) ls) = count-append k (l.kind ∷ [])
      (map (λ m. m.kind) ls) in
      omega arith

  few-here : (kinds : List ℕ) (l : PutLine) (ls : List PutLine) → lacks j l.kind l.orientation ≡ false → Few j kinds (l ∷ ls)
      → count_in l.kind kinds < quantity_of j l.kind
  few-here kinds l ls h f =
      let k = l.kind in
      let a = f k (kind_in k l.orientation h) in
      let b = few_on kinds l ls k in
      let c = count-append k kinds (k ∷ []) in
      let d : count_in k (k ∷ []) ≡ suc (count_in k []) = count_same k k [] (eq-eqb k k refl) in
      omega arith

  few-next : (kinds : List ℕ) (l : PutLine) → Few j kinds [] → count_in l.kind kinds < quantity_of j l.kind → Few j (kinds ++ (l.kind ∷ [])) []
  few-next kinds l f h k b =
      let a = f k b in
      let c = count-append k kinds (l.kind ∷ []) in
      let z = count_none k in
      elim (same_or_not k l.kind) [
        | inl e ↦
            let d = count_same k l.kind [] (eq-eqb k l.kind e) in
            let i : count_in k kinds < quantity_of j k = subst (λ (n : ℕ). count_in n kinds < quantity_of j n) (sym e) h in
            omega arith
        | inr n ↦ let d = count-other k l.kind [] (ne_eqb k l.kind n) in omega arith
      ]

  -- legal lines that the rooms hold are accepted
  pub legal_accepted : (ls : List PutLine) (kinds : List ℕ) (st : List Float) → every (line_named j) ls ≡ true → Few j kinds ls
      → places_legal p F st ls ≡ true → Sixfold st → store_verdict p w (st ++ Strips p F ls) ≡ (Ok tt)
      → layout_from j p w kinds st ls ≡ accepted_at (length kinds + length ls)
  unfolding every places_legal flat_map layout_from
  legal_accepted [] kinds st n f q s v = let z : length kinds ≡ length kinds + 0 = omega arith in ap accepted_at z
  legal_accepted (l ∷ ls) kinds st n f q s v =
      let u = line_strips p F l in
      let S = shape_of p l.kind l.orientation in
      let named = both_first (line_named j l) (every (line_named j) ls) n in
      let here = both_first (in_range p S (place_of F l) && clear p st S (place_of F l)) (places_legal p F (st ++ u) ls) q in
      let six : Sixfold (st ++ u) = sixfold_append st u s (line_sixfold p F l) in
      let all : store_verdict p w ((st ++ u) ++ Strips p F ls) ≡ (Ok tt) = subst (λ (m : List Float). store_verdict p w m ≡ (Ok tt))
      (sym (append_assoc st u (Strips p F ls))) v in
      let h : Passes j p w kinds st l = record {
        read = named-read l named;
        has = named_has l named;
        few = few-here kinds l ls (named_has l named) f;
        range = both_first (in_range p S (place_of F l)) (clear p st S (place_of F l)) here;
        clears = both_second (in_range p S (place_of F l)) (clear p st S (place_of F l)) here;
        stores = stored_less p w (st ++ u) (Strips p F ls) six (lines_sixfold p F ls) all;
      } in
      let m : length (kinds ++ (l.kind ∷ [])) + length ls ≡ length kinds + suc (length ls) = (let a = length-append kinds (l.kind ∷ []) in omega arith) in
      line_on j p w kinds st l ls (passes-accepted j p w kinds st l h)
      ∙ legal_accepted ls (kinds ++ (l.kind ∷ [])) (st ++ u) (both_second (line_named j l) (every (line_named j) ls) n)
      (λ k b. (let g = f k b in let t = few_on kinds l ls k in omega arith))
      (both_second (in_range p S (place_of F l) && clear p st S (place_of F l)) (places_legal p F (st ++ u) ls) q) six all
      ∙ ap accepted_at m

  -- what an accepted list is
  pub record Legal (kinds : List ℕ) (st : List Float) (ls : List PutLine) : Type 0 where
    pub named : every (line_named j) ls ≡ true
    pub few : Few j kinds ls
    pub places : places_legal p F st ls ≡ true
    pub stores : store_verdict p w (st ++ Strips p F ls) ≡ (Ok tt)

  legal_on : (kinds : List ℕ) (st : List Float) (l : PutLine) (ls : List PutLine) → Passes j p w kinds st l
      → Legal (kinds ++ (l.kind ∷ [])) (st ++ line_strips p F l) ls → Legal kinds st (l ∷ ls)
  unfolding every places_legal flat_map
  legal_on kinds st l ls h r =
      record {
        named = rw (named_of l h.read h.has, r.named);
        few = λ k b. (let g = r.few k b in let t = few_on kinds l ls k in omega arith);
        places = rw (h.range, h.clears, r.places);
        stores = subst (λ (m : List Float). store_verdict p w m ≡ (Ok tt)) (append_assoc st (line_strips p F l) (Strips p F ls)) r.stores;
      }

  -- accepted lines are legal, and the rooms hold them
  pub accepted_legal : (ls : List PutLine) (kinds : List ℕ) (st : List Float) → Few j kinds [] → store_verdict p w st ≡ (Ok tt)
      → (layout_from j p w kinds st ls).verdict ≡ (Ok tt) → Legal kinds st ls
  unfolding every places_legal flat_map
  accepted_legal [] kinds st f v e =
      record { named = refl; few = f; places = refl; stores = subst (λ (m : List Float). store_verdict p w m ≡ (Ok tt)) (sym (append-nil st)) v }
  accepted_legal (l ∷ ls) kinds st f v e =
      go (line_verdict j p w kinds st l) refl (λ h i. accepted_legal ls (kinds ++ (l.kind ∷ [])) (st ++ line_strips p F l) (few-next kinds l f h.few)
      h.stores i)
    where
      go : (u : Result (Unit {0}) Refusal) → line_verdict j p w kinds st l ≡ u
          → (Passes j p w kinds st l → (layout_from j p w (kinds ++ (l.kind ∷ [])) (st ++ line_strips p F l) ls).verdict ≡ (Ok tt)
          → Legal (kinds ++ (l.kind ∷ [])) (st ++ line_strips p F l) ls)
          → Legal kinds st (l ∷ ls)
      go (Ok tt) d more =
          let h = accepted-passes j p w kinds st l d in
          legal_on kinds st l ls h (more h (sym (ap (λ (r : Judgement). r.verdict) (line_on j p w kinds st l ls d)) ∙ e))
      go (Err r) d more = absurd (refused≢accepted (sym (ap (λ (q : Judgement). q.verdict) (line-bad j p w kinds st l ls r d)) ∙ e))

-- ---- the whole list

pub not-refused : (v : Result (Unit {0}) Refusal) → not (is_refused v) ≡ true → v ≡ (Ok tt)
unfolding is_refused
not-refused (Ok tt) e = refl
not-refused (Err r) e = absurd (true≢false (sym e))

pub if_accepted : (v : Result (Unit {0}) Refusal) → v ≡ (Ok tt) → not (is_refused v) ≡ true
unfolding is_refused
if_accepted v e = rw e

module _ (j : Job) (w : Rooms) where
  abbrev P : Planner
  P = planner_of j

  few_of : (ls : List PutLine) → few_enough j (map (λ l. l.kind) ls) ≡ true → Few j [] ls
  unfolding few_enough
  few_of ls h k b =
      let kinds = map (λ l. l.kind) ls in
      let t = leb-true (count_in k kinds) (quantity_of j k) (up_from-every (λ n. leb (count_in n kinds) (quantity_of j n)) (length j.kinds) 0 h k (omega arith)
      (omega arith)) in
      let z = count_none k in
      omega arith

  of_few : (ls : List PutLine) → Few j [] ls → few_enough j (map (λ l. l.kind) ls) ≡ true
  unfolding few_enough
  of_few ls f =
      let kinds = map (λ l. l.kind) ls in
      every-up_from (λ n. leb (count_in n kinds) (quantity_of j n)) (length j.kinds) 0
      (λ k a b. le-leb (count_in k kinds) (quantity_of j k) (let g = f k (omega arith) in let z = count_none k in omega arith))

  -- what cannot be prepared
  pub job_unprepared : (r : Refusal) → prepare_verdict P w ≡ Err r → (ls : List PutLine) → layout_job j ls w ≡ not_judged r
  unfolding layout_job
  job_unprepared r e ls = rw (e, layout_job)

  pub job-prepared : prepare_verdict P w ≡ (Ok tt) → (ls : List PutLine) → layout_job j ls w ≡ layout_from j P w [] [] ls
  unfolding layout_job
  job-prepared e ls = rw (e, layout_job)

  pub job_legal : (ls : List PutLine) → Legal j P w [] [] ls → legal_layout j ls ≡ true
  unfolding legal_layout
  job_legal ls h = rw (h.named, of_few ls h.few, h.places)

  if_legal : (ls : List PutLine) → prepare_verdict P w ≡ (Ok tt) → legal_layout j ls ≡ true
      → store_verdict P w (Strips P (frame_of j.header) ls) ≡ (Ok tt) → layout_job j ls w ≡ accepted_at (length ls)
  unfolding legal_layout
  if_legal ls e h v =
      let f = few_enough j (map (λ l. l.kind) ls) in
      let a = both_first (every (line_named j) ls && f) (places_legal P (frame_of j.header) [] ls) h in
      let z : 0 + length ls ≡ length ls = omega arith in
      job-prepared e ls
      ∙ legal_accepted j P w ls [] [] (both_first (every (line_named j) ls) f a) (few_of ls (both_second (every (line_named j) ls) f a))
      (both_second (every (line_named j) ls && f) (places_legal P (frame_of j.header) [] ls) h) sixfold_nil v
      ∙ ap accepted_at z

  nothing_stored : store_verdict P w [] ≡ (Ok tt)
  nothing_stored = stored_if P w [] (unfold capacity in omega arith) (let e = entries-together P.bounds [] [] sixfold_nil sixfold_nil in omega arith)

  no_kinds : Few j [] []
  no_kinds k b = let z = count_none k in omega arith

  accepted-job : (ls : List PutLine) → (layout_job j ls w).verdict ≡ (Ok tt) → (prepare_verdict P w ≡ (Ok tt)) × Legal j P w [] [] ls
  unfolding not_judged
  accepted-job ls e = go (prepare_verdict P w) refl
    where
      go : (u : Result (Unit {0}) Refusal) → prepare_verdict P w ≡ u → (prepare_verdict P w ≡ (Ok tt)) × Legal j P w [] [] ls
      go (Ok tt) d = (d, accepted_legal j P w ls [] [] no_kinds nothing_stored (sym (ap (λ (r : Judgement). r.verdict) (job-prepared d ls)) ∙ e))
      go (Err r) d = absurd (refused≢accepted (sym (ap (λ (q : Judgement). q.verdict) (job_unprepared r d ls)) ∙ e))

  suffices : (ls : List PutLine) → prepare_verdict P w ≡ (Ok tt) → store_verdict P w (Strips P (frame_of j.header) ls) ≡ (Ok tt)
      → room_suffices j ls w ≡ true
  unfolding room_suffices
  suffices ls e v = rw (if_accepted (prepare_verdict P w) e, if_accepted (store_verdict P w (Strips P (frame_of j.header) ls)) v)

  sufficed : (ls : List PutLine) → room_suffices j ls w ≡ true
      → (prepare_verdict P w ≡ (Ok tt)) × (store_verdict P w (Strips P (frame_of j.header) ls) ≡ (Ok tt))
  unfolding room_suffices
  sufficed ls h =
      let a = not (is_refused (prepare_verdict P w)) in
      let b = not (is_refused (store_verdict P w (Strips P (frame_of j.header) ls))) in
      (not-refused (prepare_verdict P w) (both_first a b h), not-refused (store_verdict P w (Strips P (frame_of j.header) ls)) (both_second a b h))

  -- "accept it, where room suffices, exactly if .."
  pub exact : (ls : List PutLine) → not (is_refused (layout_job j ls w).verdict) ≡ legal_layout j ls && room_suffices j ls w
  exact ls =
      same_bool (not (is_refused (layout_job j ls w).verdict)) (legal_layout j ls && room_suffices j ls w)
      (λ t. (let a = accepted-job ls (not-refused (layout_job j ls w).verdict (is_true _ t)) in
      let b : legal_layout j ls && room_suffices j ls w ≡ true = rw (job_legal ls a.1, suffices ls a.0 a.1.stores) in holds b))
      (λ t. (let h = is_true _ t in
      let s = sufficed ls (both_second (legal_layout j ls) (room_suffices j ls w) h) in
      let r = if_legal ls s.0 (both_first (legal_layout j ls) (room_suffices j ls w) h) s.1 in
      holds (if_accepted (layout_job j ls w).verdict (ap (λ (q : Judgement). q.verdict) r))))

-- the same of the public operation, for a job that is accepted
pub exact_of : (bytes given : List ℕ) (w : Rooms) (j : Job) → read_job bytes ≡ accepted j
    → not (is_refused (layout_of bytes given w).judgement.verdict) ≡ legal_layout j (lines_of given) && room_suffices j (lines_of given) w
unfolding layout_of layout_given
exact_of bytes given w j e = rw e (exact j w (lines_of given))
