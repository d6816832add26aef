-- The line that is spoken of: the lines before it are accepted, and it is the first that is not. Assumes nothing.
use Rattle.std.specs.Prelude.{Result, Ok, Err}
use Prim.Native.Nat.{ℕ, suc, ◌+◌, ◌≤◌, ◌<◌}
use native.Mathlib.Omega.{arith}
use mathlib.Core.Path.{◌≡◌, refl, sym, ap, ap₂, subst, ◌∙◌}
use mathlib.Core.List.{List, [], ◌∷◌, ◌++◌, map, flat_map, append-nil, append_assoc}
use lib.ListN.{length, get_or, take, length-append}
use lib.Ieee.{Float}
use Rattle.frames.specs.declared.Frame.{Frame}
use Rattle.job.specs.Jobs.{Job, frame_of}
use Rattle.filling.specs.declared.Refusal.{Refusal}
use Rattle.filling.specs.Shapes.{Planner, planner_of}
use Rattle.filling.specs.Rooms.{Rooms}
use Rattle.filling.specs.Start.{prepare_verdict}
use Rattle.filling.proofs.Steps.{refused≢accepted, accepted≢refused}
use Rattle.layouts.specs.declared.PutLine.{PutLine}
use Rattle.layouts.specs.declared.Judgement.{Judgement}
use Rattle.layouts.specs.Layouts.{line_strips, line_verdict, layout_from, layout_job}
use Rattle.layouts.proofs.Verdicts.{Strips, line_on, line-bad}
use Rattle.layouts.proofs.Exact.{accepted_at, job-prepared}

abbrev pub kinds_of : List PutLine → List ℕ
kinds_of ls = map (λ l. l.kind) ls

module _ (j : Job) (p : Planner) (w : Rooms) where
  abbrev F : Frame
  F = frame_of j.header

  -- n of the lines are accepted; the next one, if any, is refused as it says
  pub record Spoken (kinds : List ℕ) (st : List Float) (ls : List PutLine) (n : ℕ) : Type 0 where
    pub within : n ≤ length ls
    pub line_is : (layout_from j p w kinds st ls).line ≡ length kinds + n
    pub before : layout_from j p w kinds st (take n ls) ≡ accepted_at (length kinds + n)
    pub whole : (layout_from j p w kinds st ls).verdict ≡ (Ok tt) → n ≡ length ls
    pub bad : (r : Refusal) → (layout_from j p w kinds st ls).verdict ≡ Err r
        → (n < length ls) × ((d : PutLine) → line_verdict j p w (kinds ++ kinds_of (take n ls)) (st ++ Strips p F (take n ls)) (get_or ls n d) ≡ Err r)

  spoken_none : (kinds : List ℕ) (st : List Float) → Spoken kinds st [] 0
  unfolding layout_from
  spoken_none kinds st =
      let z : length kinds ≡ length kinds + 0 = omega arith in
      record {
        within = omega arith;
        line_is = z;
        before = ap accepted_at z;
        whole = λ e. refl;
        bad = λ r e. absurd (accepted≢refused e);
      }

  spoken_here : (kinds : List ℕ) (st : List Float) (l : PutLine) (ls : List PutLine) (r : Refusal) → line_verdict j p w kinds st l ≡ Err r
      → Spoken kinds st (l ∷ ls) 0
  unfolding flat_map
  spoken_here kinds st l ls r d =
      let z : length kinds ≡ length kinds + 0 = omega arith in
      let e = line-bad j p w kinds st l ls r d in
      record {
        within = omega arith;
        line_is = ap (λ (q : Judgement). q.line) e ∙ z;
        before = (spoken_none kinds st).before;
        whole = λ v. absurd (refused≢accepted (sym (ap (λ (q : Judgement). q.verdict) e) ∙ v));
        bad = λ k v. (
          omega arith,
          λ m. ap₂ (λ (ks : List ℕ) (ss : List Float). line_verdict j p w ks ss l) (append-nil kinds) (append-nil st) ∙ d ∙ sym
              (ap (λ (q : Judgement). q.verdict) e) ∙ v,
        );
      }

  spoken_later : (kinds : List ℕ) (st : List Float) (l : PutLine) (ls : List PutLine) (n : ℕ) → line_verdict j p w kinds st l ≡ (Ok tt)
      → Spoken (kinds ++ (l.kind ∷ [])) (st ++ line_strips p F l) ls n → Spoken kinds st (l ∷ ls) (suc n)
  unfolding flat_map
  spoken_later kinds st l ls n d s =
      let u = line_strips p F l in
      let e = line_on j p w kinds st l ls d in
      let m : length (kinds ++ (l.kind ∷ [])) + n ≡ length kinds + suc n = (let a = length-append kinds (l.kind ∷ []) in omega arith) in
      record {
        within = (let a = s.within in omega arith);
        line_is = ap (λ (q : Judgement). q.line) e ∙ s.line_is ∙ m;
        before = line_on j p w kinds st l (take n ls) d ∙ s.before ∙ ap accepted_at m;
        whole = λ v. ap suc (s.whole (sym (ap (λ (q : Judgement). q.verdict) e) ∙ v));
        bad = λ r v. (let b = s.bad r (sym (ap (λ (q : Judgement). q.verdict) e) ∙ v) in (
          omega (arith, b.0),
          λ x. ap₂ (λ (ks : List ℕ) (ss : List Float). line_verdict j p w ks ss (get_or ls n x)) (sym (append_assoc kinds (l.kind ∷ []) (kinds_of (take n ls))))
              (sym (append_assoc st u (Strips p F (take n ls)))) ∙ b.1 x,
        ));
      }

  -- how many lines are accepted
  pub spoken : (ls : List PutLine) (kinds : List ℕ) (st : List Float) → (n : ℕ) × Spoken kinds st ls n
  spoken [] kinds st = (0, spoken_none kinds st)
  spoken (l ∷ ls) kinds st = go (line_verdict j p w kinds st l) refl (spoken ls (kinds ++ (l.kind ∷ [])) (st ++ line_strips p F l))
    where
      go : (u : Result (Unit {0}) Refusal) → line_verdict j p w kinds st l ≡ u → (n : ℕ) × Spoken (kinds ++ (l.kind ∷ [])) (st ++ line_strips p F l) ls n
          → (n : ℕ) × Spoken kinds st (l ∷ ls) n
      go (Ok tt) d s = (suc s.0, spoken_later kinds st l ls s.0 d s.1)
      go (Err r) d s = (0, spoken_here kinds st l ls r d)

-- ---- the whole list

-- what the line says of the list
pub record LineSays (j : Job) (ls : List PutLine) (w : Rooms) (n : ℕ) : Type 0 where
  pub within : n ≤ length ls
  pub before : layout_job j (take n ls) w ≡ accepted_at n
  pub whole : (layout_job j ls w).verdict ≡ (Ok tt) → n ≡ length ls
  pub bad : (r : Refusal) → (layout_job j ls w).verdict ≡ Err r
      → (n < length ls) × ((d : PutLine) → line_verdict j (planner_of j) w (kinds_of (take n ls)) (Strips (planner_of j) (frame_of j.header) (take n ls))
      (get_or ls n d) ≡ Err r)

pub line_says : (j : Job) (ls : List PutLine) (w : Rooms) → prepare_verdict (planner_of j) w ≡ (Ok tt) → LineSays j ls w (layout_job j ls w).line
line_says j ls w e =
    let s = spoken j (planner_of j) w ls [] [] in
    let h = s.1 in
    let z : 0 + s.0 ≡ s.0 = omega arith in
    let q = job-prepared j w e ls in
    let n : (layout_job j ls w).line ≡ s.0 = ap (λ (r : Judgement). r.line) q ∙ h.line_is ∙ z in
    subst (LineSays j ls w) (sym n)
    (record {
      within = h.within;
      before = job-prepared j w e (take s.0 ls) ∙ h.before ∙ ap accepted_at z;
      whole = λ v. h.whole (sym (ap (λ (r : Judgement). r.verdict) q) ∙ v);
      bad = λ r v. h.bad r (sym (ap (λ (x : Judgement). x.verdict) q) ∙ v);
    })
