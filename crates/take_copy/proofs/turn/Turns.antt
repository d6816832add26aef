-- What a copy more asks of a state in arrays, and what it leaves of it. Assumes nothing.
use Rattle.std.specs.Prelude.{Result, Ok, Err}
use Prim.Native.Nat.{ℕ, ◌+◌, ◌*◌, ◌/◌, ◌<◌, ◌≤◌, ◌^◌}
use native.Mathlib.Omega.{arith}
use mathlib.Core.Path.{◌≡◌, refl, sym, ap, subst, subst⁻¹, ◌∙◌}
use mathlib.Core.List.{List}
use lib.ListN.{length, get_or, take}
use lib.Ieee.{Float}
use Rattle.numbers.specs.Numbers.{pos_zero}
use Rattle.trapezoid.specs.Strip.{capacity}
use Rattle.index.specs.declared.Index.{Index}
use Rattle.index.specs.inner.Listing.{Laid, FirstBuckets}
use Rattle.job.specs.Jobs.{Job}
use Rattle.filling.specs.declared.State.{State}
use Rattle.filling.specs.declared.Tables.{Tables}
use Rattle.filling.specs.declared.Refusal.{Refusal}
use Rattle.filling.specs.Rooms.{Rooms, zeros}
use Rattle.filling.specs.State.{orientation_counts}
use Rattle.filling.specs.NextCopy.{core_step}
use Rattle.rooms.specs.tracks.inner.Tracks.{next_columns, look_counts_from}
use Rattle.rooms.proofs.tracks.Fields.{length-field}
use Rattle.search.proofs.columns.Sizes.{BoundedRect, Resolving}
use Rattle.choose.specs.declared.Grid.{Grid}
use Rattle.choose.specs.inner.Choosing.{grid_of, surroundings_in, bounds_at}
use Rattle.place.specs.declared.Copy.{Copy}
use Rattle.place.specs.declared.Totals.{Totals}
use Rattle.place.specs.declared.Step.{Step}
use Rattle.place.specs.inner.Placing.{copy_of, verdict_of, orientation_number, outcome_x, y_of, gap_of, Placed, done, place_of}
use Rattle.place.specs.inner.Standing.{Standing, Fixed}
use Rattle.store.specs.inner.Storing.{FirstsLaid}
use Rattle.filling_laws.proofs.ReadyStrips.{AllFit}
use Rattle.filling_laws.proofs.ReadyNumbers.{resolving}
use Rattle.filling_laws.proofs.Ready.{InDoubles, resolution_in, bounds_in, shape_bounds}
use Rattle.filling_laws.proofs.ReadyOrder.{most-turns}
use Rattle.step.specs.declared.Stepped.{Stepped}
use Rattle.step.specs.inner.Going.{rooms, Going, answer_of}
use Rattle.step.proofs.Allowed.{kind, listed, turns_are, kind_few, apart-within}
use Rattle.step.proofs.Allowed.{allowed_counts, allowed_fixed, allowed_standing, allowed_sheet_firsts, allowed_firsts}
use Rattle.step.proofs.Kept.{place_kept}
use Rattle.step.proofs.Steps.{refused_by_lem, code, code_of, written_by, step-answer}
use Rattle.take_copy.specs.turn.inner.Turning.{state_in, kept_of, written_at, taken_after, step_in, Tabling}

-- equal in six places
same-six : {A : Type 0} (f : List ℕ → List ℕ → List ℕ → List Float → List Float → List Float → A) {n n' c c' o o' : List ℕ} {x x' y y' g g' : List Float}
    → n ≡ n' → c ≡ c' → o ≡ o' → x ≡ x' → y ≡ y' → g ≡ g' → f n c o x y g ≡ f n' c' o' x' y' g'
same-six f {n} {n'} {c} {c'} {o} {o'} {x} {x'} {y} {y'} {g} {g'} a b d e h i =
    ap (λ (z : List ℕ). f z c o x y g) a
    ∙ (ap (λ (z : List ℕ). f n' z o x y g) b
    ∙ (ap (λ (z : List ℕ). f n' c' z x y g) d
    ∙ (ap (λ (z : List Float). f n' c' o' z y g) e ∙ (ap (λ (z : List Float). f n' c' o' x' z g) h ∙ ap (λ (z : List Float). f n' c' o' x' y' z) i))))

sixteen : (k : ℕ) → k < 64 → 16 * k + 16 ≤ 1024
sixteen k h = omega arith

module _ {j : Job} {b : Tables} {order rows : List ℕ} {areas whole : List Float} {g : Grid} {insets : List Float} {parts : List ℕ} {sheet : List Float}
    (B : Tabling b g insets parts whole sheet) {at : ℕ} (tracks : List ℕ) {t : Totals} {orientation : List ℕ} {x y gap shapes placed : List Float}
    {sheet_entries entries sheet_firsts firsts sheet_starts starts : List ℕ}
    (G : Going j (state_in b order at tracks t orientation x y gap) (rooms shapes whole placed sheet_entries entries sheet_firsts firsts) rows areas sheet_starts
    starts) where
  abbrev pub S : State
  S = state_in b order at tracks t orientation x y gap

  abbrev pub W : Rooms
  W = rooms shapes whole placed sheet_entries entries sheet_firsts firsts

  pub doubles : AllFit shapes → AllFit placed → InDoubles S W
  doubles a p =
      record {
        resolution = B.resolution-fits;
        sheet_bounds = B.bounds-fit;
        inset_bounds = B.insets_fit;
        shapes = a;
        sheet = B.whole_fits;
        placed = p;
      }

  pub counted : length (look_counts_from tracks) ≡ 1024
  counted = length-field 0 2 1 1024 tracks

  -- ---- what placing the copy asks
  module _ (q : Copy) (f : q ≡ copy_of order rows areas at) where
    pub slot_room : q.slot + 16 ≤ 1024
    slot_room = subst⁻¹ (λ (q : Copy). q.slot + 16 ≤ 1024) f (sixteen (kind G) (kind_few G))

    pub few-turns : q.orientations ≤ 16
    unfolding orientation_counts
    few-turns =
        subst⁻¹ (λ (q : Copy). q.orientations ≤ 16) f
        (subst (λ (n : ℕ). n ≤ 16) (turns_are G) (most-turns j.kinds G.good.kinds (kind G)))

    pub turn_counts : InDoubles S W → (o : ℕ) → o < q.orientations → get_or (look_counts_from tracks) (q.slot + o) 0 + 4000000002 < 2 ^ 64
    turn_counts D = allowed_counts G q f D (look_counts_from tracks) refl

    pub turn_fixed : InDoubles S W → (room : ℕ) (o : ℕ) → o < q.orientations
        → Fixed g.index (surroundings_in room g insets parts shapes sheet (take (6 * t.placed_strips) placed)) sheet_entries sheet_starts (q.slot + o)
    turn_fixed D room o h =
        subst⁻¹ (λ (l : List Float). Fixed g.index (surroundings_in room g l parts shapes sheet (take (6 * t.placed_strips) placed)) sheet_entries
        sheet_starts (q.slot + o)) B.inset_bounds_are
        (subst⁻¹ (λ (l : List ℕ). Fixed g.index (surroundings_in room g b.inset_bounds l shapes sheet (take (6 * t.placed_strips) placed))
        sheet_entries sheet_starts (q.slot + o)) B.parts_are
        (subst⁻¹ (λ (l : List Float). Fixed g.index (surroundings_in room g b.inset_bounds b.parts shapes l (take (6 * t.placed_strips) placed))
        sheet_entries sheet_starts (q.slot + o)) B.sheet_is
        (allowed_fixed G D B.bounds_long B.parts_long room (take (6 * t.placed_strips) placed) g B.grid q f o h)))

  pub turn_standing : InDoubles S W → Standing g.index placed t.placed_strips entries starts
  turn_standing D = allowed_standing G D g B.grid t refl

  pub turn_apart : 6 * g.apart_strips ≤ length shapes
  turn_apart = apart-within G g B.grid

  pub turn_sheet_firsts : FirstBuckets g.index sheet (capacity sheet) sheet_firsts
  turn_sheet_firsts =
      subst⁻¹ (λ (l : List Float). FirstBuckets g.index l (capacity l) sheet_firsts) B.sheet_is (allowed_sheet_firsts G g B.grid)

  pub turn_firsts : FirstBuckets g.index placed t.placed_strips firsts
  turn_firsts = allowed_firsts G g B.grid t refl

  -- ---- what testing it asks
  pub turn_bounds : InDoubles S W → BoundedRect g.bounds
  turn_bounds D = subst⁻¹ (λ (g : Grid). BoundedRect g.bounds) B.grid (bounds_in j S W G.passes D)

  pub turn_resolving : InDoubles S W → Resolving g.resolution
  turn_resolving D = subst⁻¹ (λ (g : Grid). Resolving g.resolution) B.grid (resolving (resolution_in j S W G.passes D))

  pub turn_long : 4096 ≤ length insets
  turn_long = let a = B.bounds_long in let e : length insets ≡ length b.inset_bounds = ap length B.inset_bounds_are in omega arith

  pub turn_shapes : InDoubles S W → (q : Copy) → q ≡ copy_of order rows areas at → (o : ℕ) → o < q.orientations → BoundedRect (bounds_at insets (q.slot + o))
  turn_shapes D q f =
      subst⁻¹ (λ (l : List Float). (o : ℕ) → o < q.orientations → BoundedRect (bounds_at l (q.slot + o))) B.inset_bounds_are
      (subst⁻¹ (λ (q : Copy). (o : ℕ) → o < q.orientations → BoundedRect (bounds_at b.inset_bounds (q.slot + o))) f
      (λ o h. shape_bounds j S W G.passes D (kind G) (listed G) o (subst⁻¹ (λ (m : ℕ). o < m) (turns_are G) h)))

  -- ---- what the code leaves is the definition's
  module _ (intervals : List Float) where
    abbrev pub Code : Placed
    Code = code G intervals counted

    abbrev placed_in : ℕ → List Float → List ℕ → List Float → Copy → Placed
    placed_in m insets parts sheet q =
        place_of g.index (surroundings_in m g insets parts shapes sheet (take (6 * t.placed_strips) placed)) q.area q.slot q.orientations t placed
        entries starts firsts (look_counts_from tracks) (next_columns tracks)

    pub code_now : (room : List Float) → length intervals ≡ length room → (q : Copy) → q ≡ copy_of order rows areas at
        → placed_in (length room / 2) insets parts sheet q ≡ Code
    code_now room e q f =
        ap (λ (n : ℕ). placed_in (n / 2) insets parts sheet q) (sym e)
        ∙ (ap (λ (l : List Float). placed_in (length intervals / 2) l parts sheet q) B.inset_bounds_are
        ∙ (ap (λ (l : List ℕ). placed_in (length intervals / 2) b.inset_bounds l sheet q) B.parts_are
        ∙ (ap (λ (l : List Float). placed_in (length intervals / 2) b.inset_bounds b.parts l q) B.sheet_is
        ∙ code_of G intervals counted g q t (look_counts_from tracks) (next_columns tracks) B.grid f refl refl refl)))

    -- the totals of a refused copy are as before
    totals_kept : (r : Step) (placed' : List Float) (entries' starts' raw : List ℕ) → done r placed' entries' starts' (look_counts_from raw) (next_columns raw) ≡ Code
        → (k : Refusal) → verdict_of r.outcome ≡ Err k → r.totals ≡ t
    totals_kept r placed' entries' starts' raw e k v =
        let q = copy_of order rows areas at in
        let o : r.outcome ≡ Err k = refused_by_lem r.outcome k v in
        let h = place_kept (grid_of b).index t placed entries starts firsts _ q.area q.slot q.orientations (look_counts_from tracks) (next_columns tracks) k
        (sym (ap (λ (p : Placed). p.left.reply.outcome) e) ∙ o) in
        ap (λ (p : Placed). p.left.reply.totals) e ∙ h.2

    -- ---- the state after it
    module _ (r : Step) (raw tracks' orientation' : List ℕ) (x' y' gap' : List Float) where
      abbrev pub After : Result (Unit {0}) Refusal → State
      After v = state_in b order (taken_after v at) tracks' r.totals orientation' x' y' gap'

      abbrev built : Result (Unit {0}) Refusal → ℕ → Totals → List ℕ → List ℕ → List ℕ → List Float → List Float → List Float → Stepped
      built v n u next counts orientation x y gap =
          record {
            verdict = v;
            state = record {
              tables = b;
              order = order;
              taken = n;
              next_column = next;
              look_counts = counts;
              placed_strips = u.placed_strips;
              layout = record { orientation = orientation; x = x; y = y; gap = gap; unplaced_area = u.unplaced_area; right = u.right };
            };
          }

      answer_now : (v : Result (Unit {0}) Refusal) → look_counts_from tracks' ≡ kept_of v (look_counts_from tracks) (look_counts_from raw)
          → next_columns tracks' ≡ kept_of v (next_columns tracks) (next_columns raw) → orientation' ≡ written_at v orientation at (orientation_number r.outcome)
          → x' ≡ written_at v x at (outcome_x r.outcome) → y' ≡ written_at v y at (y_of r.outcome) → gap' ≡ written_at v gap at (gap_of r.outcome)
          → ((k : Refusal) → v ≡ Err k → r.totals ≡ t) → ◌≡◌ {A = Stepped} (record { verdict = v; state = After v }) (answer_of S r raw v)
      answer_now (Ok tt) l n o a c d h = same-six (built (Ok tt) (at + 1) r.totals) n l o a c d
      answer_now (Err k) l n o a c d h =
          same-six (built (Err k) at r.totals) n l o a c d
          ∙ ap (λ (u : Totals). built (Err k) at u (next_columns tracks) (look_counts_from tracks) orientation x y gap) (h k refl)

      -- the step of the definition
      step_is : (placed' : List Float) (entries' starts' firsts' : List ℕ)
          → done r placed' entries' starts' (look_counts_from raw) (next_columns raw) ≡ Code → FirstsLaid g.index placed' r.totals.placed_strips firsts
          firsts'
          → (v : Result (Unit {0}) Refusal) → v ≡ verdict_of r.outcome → look_counts_from tracks' ≡ kept_of (verdict_of r.outcome) (look_counts_from tracks) (look_counts_from raw)
          → next_columns tracks' ≡ kept_of (verdict_of r.outcome) (next_columns tracks) (next_columns raw)
          → orientation' ≡ written_at v orientation at (orientation_number r.outcome) → x' ≡ written_at v x at (outcome_x r.outcome)
          → y' ≡ written_at v y at (y_of r.outcome) → gap' ≡ written_at v gap at (gap_of r.outcome)
          → step_in v (After v) (rooms shapes whole placed' sheet_entries entries' sheet_firsts firsts') intervals ≡ core_step j S W intervals
      step_is placed' entries' starts' firsts' e F v f l n o a c d =
          step-answer G intervals counted r placed' entries' starts' raw firsts' e (written_by G intervals counted g B.grid _ _ _ F)
          (record { verdict = v; state = After v })
          (answer_now v (l ∙ ap (λ (v : Result (Unit {0}) Refusal). kept_of v (look_counts_from tracks) (look_counts_from raw)) (sym f))
          (n ∙ ap (λ (v : Result (Unit {0}) Refusal). kept_of v (next_columns tracks) (next_columns raw)) (sym f)) o a c d
          (λ k h. totals_kept r placed' entries' starts' raw e k (sym f ∙ h)) ∙ ap (answer_of S r raw) f) (zeros pos_zero intervals) refl

      -- the same with the totals that the turn answers
      pub turn_step : (u : Totals) → u ≡ r.totals → (placed' : List Float) (entries' starts' firsts' : List ℕ)
          → done r placed' entries' starts' (look_counts_from raw) (next_columns raw) ≡ Code → FirstsLaid g.index placed' r.totals.placed_strips firsts
          firsts'
          → (v : Result (Unit {0}) Refusal) → v ≡ verdict_of r.outcome → look_counts_from tracks' ≡ kept_of (verdict_of r.outcome) (look_counts_from tracks) (look_counts_from raw)
          → next_columns tracks' ≡ kept_of (verdict_of r.outcome) (next_columns tracks) (next_columns raw)
          → orientation' ≡ written_at v orientation at (orientation_number r.outcome) → x' ≡ written_at v x at (outcome_x r.outcome)
          → y' ≡ written_at v y at (y_of r.outcome) → gap' ≡ written_at v gap at (gap_of r.outcome)
          → step_in v (state_in b order (taken_after v at) tracks' u orientation' x' y' gap')
          (rooms shapes whole placed' sheet_entries entries' sheet_firsts firsts')
          intervals ≡ core_step j S W intervals
      turn_step u q placed' entries' starts' firsts' e F v f l n o a c d =
          ap (λ (u : Totals). step_in v (state_in b order (taken_after v at) tracks' u orientation' x' y' gap')
          (rooms shapes whole placed' sheet_entries entries' sheet_firsts firsts') intervals) q
          ∙ step_is placed' entries' starts' firsts' e F v f l n o a c d

-- ---- strips and first buckets with those totals
pub laid_by : (ix : Index) (placed : List Float) (entries starts : List ℕ) (u t : Totals) → u ≡ t → Laid ix placed t.placed_strips entries starts
    → Laid ix placed u.placed_strips entries starts
laid_by ix placed entries starts u t e L = subst⁻¹ (λ (t : Totals). Laid ix placed t.placed_strips entries starts) e L

pub kept_by : (ix : Index) (placed : List Float) (firsts : List ℕ) (u t : Totals) → u ≡ t → FirstBuckets ix placed t.placed_strips firsts
    → FirstBuckets ix placed u.placed_strips firsts
kept_by ix placed firsts u t e K = subst⁻¹ (λ (t : Totals). FirstBuckets ix placed t.placed_strips firsts) e K
