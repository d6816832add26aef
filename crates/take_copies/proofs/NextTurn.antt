-- One turn more, and the end of the turns. Assumes nothing.
use Rattle.std.specs.Prelude.{Result, Ok, Err}
use Rattle.filling.specs.declared.Refusal.{Refusal}
use Prim.Native.Nat.{ℕ, suc, ◌+◌, ◌-◌, ◌<◌, ◌≤◌}
use native.Mathlib.Omega.{arith}
use native.Mathlib.Nat.{le_of_eq}
use mathlib.Core.Path.{◌≡◌, refl, sym, ap, ap₂, subst, subst⁻¹, ◌∙◌}
use mathlib.Core.Bool.{Bool, true, false, true≢false}
use mathlib.Core.List.{List}
use lib.ListN.{length}
use lib.Ieee.{Float}
use Rattle.numbers.specs.Numbers.{pos_zero}
use Rattle.index.specs.inner.Listing.{Laid, FirstBuckets}
use Rattle.job.specs.Jobs.{Job}
use Rattle.filling.specs.declared.State.{State}
use Rattle.filling.specs.declared.Tables.{Tables}
use Rattle.filling.specs.Rooms.{Rooms, zeros}
use Rattle.filling.proofs.Reading.{length-zeros}
use Rattle.filling.specs.Consistent.{consistent}
use Rattle.filling.specs.NextCopy.{Step, core_step}
use Rattle.filling.proofs.Steps.{refused≢accepted}
use Rattle.rooms.proofs.tracks.Fields.{length-field}
use Rattle.choose.specs.declared.Grid.{Grid}
use Rattle.place.specs.declared.Copy.{Copy}
use Rattle.place.specs.inner.Placing.{copy_of}
use Rattle.step.specs.inner.Going.{Going}
use Rattle.batch.specs.NextCopies.{Batch, none_taken, one_more}
use Rattle.batch.specs.inner.Tested.{copy_fits, step_tested, tested_from, more_taken, Shaped}
use Rattle.batch.proofs.Kept31.{step-31}
use Rattle.batch.proofs.Taking.{zeros_again, tested_more, tested_stop, more_one}
use Rattle.take_copy.specs.declared.turn.Turn.{Turn}
use Rattle.take_copy.specs.turn.inner.Turning.{state_in, taken_after, step_in, Tabling, Sizes}
use Rattle.take_copies.specs.inner.Run.{end_after, rest_of}
use Rattle.take_copies.proofs.Running.{Fixed, Arrays, state_of, rooms_of, BegunBy, GoingBy, Alike, alike_on, Running}

-- ---- where the turns go on
module _ (took end most : ℕ) (h : took < end) (m : end ≤ most) where
  on_after : (v : Result (Unit {0}) Refusal) (fits : Bool) → taken_after v took < end_after v fits (taken_after v took) end → (v ≡ (Ok tt)) × (fits ≡ true)
  on_after (Ok tt) true l = (refl, refl)
  on_after (Ok tt) false l = absurd (omega arith)
  on_after (Err k) fits l = absurd (omega arith)

  before-after : (v : Result (Unit {0}) Refusal) (fits : Bool) → taken_after v took ≤ end_after v fits (taken_after v took) end
  before-after (Ok tt) true = omega arith
  before-after (Ok tt) false = le_of_eq refl
  before-after (Err k) fits = le_of_eq refl

  within-after : (v : Result (Unit {0}) Refusal) (fits : Bool) → end_after v fits (taken_after v took) end ≤ most
  within-after (Ok tt) true = m
  within-after (Ok tt) false = omega arith
  within-after (Err k) fits = omega arith

  whole-after : end ≡ most → (v : Result (Unit {0}) Refusal) (fits : Bool) → v ≡ (Ok tt) → fits ≡ true → end_after v fits (taken_after v took) end ≡ most
  whole-after e (Ok tt) true a b = e
  whole-after e (Ok tt) false a b = absurd (true≢false (sym b))
  whole-after e (Err k) fits a b = absurd (refused≢accepted a)

  pub less_after : (v : Result (Unit {0}) Refusal) (fits : Bool) (took' end' : ℕ) → took' ≡ taken_after v took → end' ≡ end_after v fits took' end → end' - took' < end - took
  less_after (Ok tt) true took' end' a b = omega arith
  less_after (Ok tt) false took' end' a b = omega arith
  less_after (Err k) fits took' end' a b = omega arith

-- ---- a turn
module _ (f : Fixed) (a c d : Arrays) (last turn : Turn) (took end : ℕ) (R : Running f a c last took end) (h : took < end)
    (z : Sizes c.orientation c.x c.y c.gap) where
  abbrev at : ℕ
  at = f.taken + took

  -- what `take_next` answers
  abbrev pub Turned : Copy → Type 0
  Turned q =
      (j : Job) (b : Tables) (order rows : List ℕ) (areas whole intervals : List Float)
      → Tabling b f.grid f.inset_bounds f.parts whole f.sheet
      → Going j (state_in b order at c.tracks last.totals c.orientation c.x c.y c.gap) (rooms_of f whole c) rows areas f.sheet_starts
      c.starts → q ≡ copy_of order rows areas at → length intervals ≡ length c.room
      → (step_in turn.verdict (state_in b order (taken_after turn.verdict at) d.tracks turn.totals d.orientation d.x d.y d.gap)
      (rooms_of f whole d) intervals ≡ core_step j (state_in b order at c.tracks last.totals c.orientation c.x c.y c.gap) (rooms_of f whole c)
      intervals)
      × (turn.verdict ≡ (Ok tt) → turn.fits ≡ copy_fits j at last.totals.placed_strips (state_in b order (at + 1) d.tracks turn.totals
      d.orientation d.x d.y d.gap) (rooms_of f whole d))

  module _ (q : Copy) (q-is : q ≡ copy_of f.order f.rows f.areas at) (E : Turned q)
      (L : Laid f.grid.index d.placed turn.totals.placed_strips d.entries d.starts)
      (K : FirstBuckets f.grid.index d.placed turn.totals.placed_strips d.firsts) where
    module _ (j : Job) (b : Tables) (whole : List Float) (B : BegunBy f j b whole) (G₀ : 0 < f.most → GoingBy f j b whole f.taken f.totals a) where
      abbrev S : State
      S = state_of f b at last.totals c

      abbrev W : Rooms
      W = rooms_of f whole c

      abbrev S' : ℕ → State
      S' n = state_of f b n turn.totals d

      abbrev W' : Rooms
      W' = rooms_of f whole d

      G : GoingBy f j b whole at last.totals c
      G = R.going j b whole B G₀ h

      shaped : Shaped S
      shaped =
          record {
            orientations = z.orientations;
            xs = z.xs;
            ys = z.ys;
            gaps = z.gaps;
            next-columns = length-field 0 2 0 1024 c.tracks;
            look_counts = length-field 0 2 1 1024 c.tracks;
          }

      module _ (intervals : List Float) (l : length intervals ≡ length c.room) where
        abbrev E₀ : step_in turn.verdict (S' (taken_after turn.verdict at)) W' intervals ≡ core_step j S W intervals
        E₀ = (E j b f.order f.rows f.areas whole intervals B.tabling G q-is l).0

        fits_is : turn.verdict ≡ (Ok tt) → turn.fits ≡ copy_fits j at last.totals.placed_strips (S' (at + 1)) W'
        fits_is = (E j b f.order f.rows f.areas whole intervals B.tabling G q-is l).1

        -- 31 after the turn
        passes : turn.verdict ≡ (Ok tt) → turn.fits ≡ true → consistent j (S' (at + 1)) W' ≡ true
        passes v t =
            let e : core_step j S W intervals ≡ step_in (Ok tt) (S' (at + 1)) W' intervals =
            sym E₀ ∙ ap (λ (v : Result (Unit {0}) Refusal). step_in v (S' (taken_after v at)) W' intervals) v in
            ap (λ (r : Step). consistent j r.state r.rooms) (sym e)
            ∙ (step-31 j B.sized S W shaped G.passes intervals (ap (λ (r : Step). r.verdict) e)
            ∙ (ap (λ (r : Step). copy_fits j at last.totals.placed_strips r.state r.rooms) e ∙ (sym (fits_is v) ∙ t)))

      going_next : (length c.room ≡ length a.room) → turn.verdict ≡ (Ok tt) → turn.fits ≡ true → f.taken + (took + 1) < j.copies
          → GoingBy f j b whole (f.taken + (took + 1)) turn.totals d
      going_next r v t left =
          let e : f.taken + (took + 1) ≡ at + 1 = omega arith in
          record {
            tabled = B.tabled;
            good = B.good;
            few = B.few;
            passes = subst⁻¹ (λ (n : ℕ). consistent j (S' n) W' ≡ true) e (passes c.room refl v t);
            left = left;
            sheet_laid = G.sheet_laid;
            placed_laid = subst (λ (g : Grid). Laid g.index d.placed turn.totals.placed_strips d.entries d.starts) B.tabling.grid L;
            sheet_kept = G.sheet_kept;
            placed_kept = subst (λ (g : Grid). FirstBuckets g.index d.placed turn.totals.placed_strips d.firsts) B.tabling.grid K;
          }

      -- ---- the equation
      module _ (intervals : List Float) (n : ℕ) (l : length intervals ≡ length a.room) (m : f.most ≤ n) where
        abbrev Z : List Float
        Z = zeros pos_zero intervals

        abbrev now : Result (Unit {0}) Refusal → ℕ → ℕ → Batch
        now v k u = rest_of j v k (S' u) W' Z turn.fits

        long : length Z ≡ length c.room
        long = length-zeros pos_zero intervals ∙ (l ∙ sym R.alike.room)

        here : (k : ℕ) → n - took ≡ suc k
            → more_taken took (tested_from j (suc k) S W Z true) ≡ tested_from j n (state_of f b f.taken f.totals a) (rooms_of f whole a) Z true
        here k e =
            let o = R.on h in
            sym (ap₂ (λ (v : Result (Unit {0}) Refusal) (t : Bool). more_taken took (rest_of j v (n - took) S W Z t)) o.0 o.1
            ∙ ap (λ (i : ℕ). more_taken took (tested_from j i S W Z true)) e) ∙ R.equal j b whole intervals n B G₀ l m

        stepped : step_tested j S W Z true ≡ step_in turn.verdict (S' (taken_after turn.verdict at)) W' Z
        unfolding step_tested
        stepped = sym (E₀ Z long)

        by_verdict : (k : ℕ) (v : Result (Unit {0}) Refusal) → turn.verdict ≡ v → more_taken (taken_after v took) (now v (suc k - (taken_after v took - took)) (taken_after v at))
            ≡ more_taken took (tested_from j (suc k) S W Z true)
        by_verdict k (Ok tt) v =
            let e : step_tested j S W Z true ≡ step_in (Ok tt) (S' (at + 1)) W' Z =
            stepped ∙ ap (λ (v : Result (Unit {0}) Refusal). step_in v (S' (taken_after v at)) W' Z) v in
            let i : suc k - (took + 1 - took) ≡ k = omega arith in
            let s : took + 1 ≡ suc took = omega arith in
            ap₂ (λ (i u : ℕ). more_taken u (tested_from j i (S' (at + 1)) W' Z turn.fits)) i s
            ∙ (sym (more_one took (tested_from j k (S' (at + 1)) W' Z turn.fits))
            ∙ ap (more_taken took) (sym (tested_more j k S W Z true (ap (λ (r : Step). r.verdict) e)
            ∙ (ap (λ (r : Step). one_more (tested_from j k r.state r.rooms r.intervals (copy_fits j at last.totals.placed_strips r.state
            r.rooms))) e
            ∙ ap₂ (λ (y : List Float) (t : Bool). one_more (tested_from j k (S' (at + 1)) W' y t)) (zeros_again intervals) (sym (fits_is Z long v))))))
        by_verdict k (Err why) v =
            let e : step_tested j S W Z true ≡ step_in (Err why) (S' at) W' Z =
            stepped ∙ ap (λ (v : Result (Unit {0}) Refusal). step_in v (S' (taken_after v at)) W' Z) v in
            ap (more_taken took) (sym (tested_stop j k S W Z true why (ap (λ (r : Step). r.verdict) e)
            ∙ (ap (λ (r : Step). none_taken (Err why) r.state r.rooms r.intervals) e
            ∙ ap (none_taken (Err why) (S' at) W') (zeros_again intervals))))

        rest : (v : Result (Unit {0}) Refusal) (k : ℕ) → n - took ≡ suc k → suc k - (taken_after v took - took) ≡ n - taken_after v took
        rest (Ok tt) k e = omega arith
        rest (Err why) k e = omega arith

        place : (v : Result (Unit {0}) Refusal) → taken_after v at ≡ f.taken + taken_after v took
        place (Ok tt) = omega arith
        place (Err why) = refl

        equal_next : more_taken (taken_after turn.verdict took) (now turn.verdict (n - taken_after turn.verdict took)
            (f.taken + taken_after turn.verdict took)) ≡ tested_from j n (state_of f b f.taken f.totals a) (rooms_of f whole a) Z true
        equal_next =
            let v = turn.verdict in
            let k : ℕ = n - took - 1 in
            let w = R.within in
            let e : n - took ≡ suc k = omega arith in
            sym (ap₂ (λ (i u : ℕ). more_taken (taken_after v took) (now v i u)) (rest v k e) (place v)) ∙ (by_verdict k v refl ∙ here k e)

    -- ---- what holds after it
    pub run_next : Alike c d → (took' end' : ℕ) → took' ≡ taken_after turn.verdict took → end' ≡ end_after turn.verdict turn.fits took' end
        → Running f a d turn took' end'
    run_next A took' end' e₁ e₂ =
        subst⁻¹ (λ (n : ℕ). Running f a d turn n end') e₁ (subst⁻¹ (λ (n : ℕ). Running f a d turn (taken_after v took) n)
        (e₂ ∙ ap (λ (n : ℕ). end_after v turn.fits n end) e₁)
        (record {
          alike = alike_on a c d R.alike A;
          before = before-after took end f.most h R.within v turn.fits;
          within = within-after took end f.most h R.within v turn.fits;
          on = on_after took end f.most h R.within v turn.fits;
          whole = whole-after took end f.most h R.within (R.whole (R.on h).0 (R.on h).1) v turn.fits;
          going = λ j b whole B G₀ l. on_going j b whole B G₀ l (on_after took end f.most h R.within v turn.fits l);
          equal = λ j b whole intervals n B G₀ l m. equal_next j b whole B G₀ intervals n l m;
        }))
      where
        v : Result (Unit {0}) Refusal
        v = turn.verdict

        on_going : (j : Job) (b : Tables) (whole : List Float) → BegunBy f j b whole → (0 < f.most → GoingBy f j b whole f.taken f.totals a)
            → taken_after v took < end_after v turn.fits (taken_after v took) end → (v ≡ (Ok tt)) × (turn.fits ≡ true)
            → GoingBy f j b whole (f.taken + taken_after v took) turn.totals d
        on_going j b whole B G₀ l o =
            let t : taken_after v took ≡ took + 1 = ap (λ (v : Result (Unit {0}) Refusal). taken_after v took) o.0 in
            let w = within-after took end f.most h R.within v turn.fits in
            let y = B.left in
            subst⁻¹ (λ (n : ℕ). GoingBy f j b whole (f.taken + n) turn.totals d) t
            (going_next j b whole B G₀ R.alike.room o.0 o.1 (omega (arith, t, w, y, l)))

-- ---- after the last turn
module _ (f : Fixed) (a c : Arrays) (last : Turn) (took end : ℕ) (R : Running f a c last took end) (h : end ≤ took) where
  pub run_few : took ≤ f.most
  run_few = let b = R.before in let w = R.within in omega arith

  pub run_whole : last.verdict ≡ (Ok tt) → last.fits ≡ true → took ≡ f.most
  run_whole v t = let e = R.whole v t in let b = R.before in omega arith
