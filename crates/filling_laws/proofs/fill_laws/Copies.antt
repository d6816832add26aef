-- The copies of a filling, one after another: what holds before, between and after them. Assumes nothing.
use Rattle.std.specs.Prelude.{Result, Ok, Err, Some, None}
use Rattle.filling.specs.declared.Refusal.{Refusal}
use Prim.Native.Nat.{ℕ, ◌+◌, ◌-◌, ◌*◌, ◌/◌, ◌^◌, ◌≤◌, ◌<◌}
use native.Mathlib.Omega.{arith}
use native.Mathlib.Numerals.{add-one}
use mathlib.Core.Path.{◌≡◌, refl, sym, ap, ap₂, subst, subst₂, ◌∙◌}
use mathlib.Core.Bool.{true}
use mathlib.Core.List.{List}
use lib.ListN.{length, get_or, set, take, replicate}
use lib.Ieee.{Float, nan}
use Rattle.numbers.specs.Numbers.{pos_zero}
use Rattle.index.specs.Buckets.{buckets}
use Rattle.index.specs.inner.Listing.{Laid, FirstBuckets}
use Rattle.rooms.specs.tracks.inner.Tracks.{next_columns, look_counts_from, orientations, xs, ys, gaps, track_numbers, spot_numbers}
use Rattle.rooms.proofs.tracks.Fields.{length-field}
use Rattle.job.specs.Jobs.{Job}
use Rattle.filling.specs.declared.State.{State}
use Rattle.filling.specs.Shapes.{planner_of}
use Rattle.filling.specs.Rooms.{Rooms, Lent}
use Rattle.filling.specs.Order.{rearranged}
use Rattle.filling.specs.Fill.{filled, stopped, fill_from, fill_order}
use Rattle.filling.proofs.Sizes.{sized}
use Rattle.filling.proofs.Begin.{rearranged-length}
use Rattle.choose.specs.inner.Choosing.{Surroundings, surroundings}
use Rattle.store.specs.inner.Storing.{FirstsLaid}
use Rattle.place.specs.declared.Totals.{Totals}
use Rattle.place.specs.inner.Placing.{Outcome}
use Rattle.place.specs.declared.Step.{Step}
use Rattle.place.specs.inner.Standing.{Standing, Fixed}
use Rattle.place.specs.inner.Placing.{Placed, verdict_of, done, orientation_number, outcome_x, y_of, gap_of}
use Rattle.filling_laws.proofs.SameCopy.{step_from, step_by, taken_with}
use Rattle.filling_laws.proofs.Firsts.{firsts_none}
use Rattle.filling_laws.proofs.ReadyStrips.{AllFit}
use Rattle.filling_laws.specs.fill_laws.inner.Prepared.{Given, Prepared, SheetFirsts, state_by, rooms_by, next_after, filling_in}
use Rattle.filling.proofs.FillSteps.{fill-ends}
use Rattle.filling_laws.proofs.fill_laws.Begin.{laid_none}
use Rattle.filling_laws.proofs.fill_laws.Between.{Held, held_first, code_with, slots-below, held_stops, held_next}
use Rattle.filling_laws.proofs.fill_laws.Ready.{Doubles, held_fixed, held-counts, held-standing}

-- each copy brings the end nearer
pub after_less : (v : Result (Unit {0}) Refusal) (i m n : ℕ) → i < n → m ≡ next_after v i n → n - m < n - i
after_less (Ok tt) i m n h e = omega arith
after_less (Err c) i m n h e = omega arith

-- rooms of these lengths
abbrev pub Long : Lent → List Float → List ℕ → List ℕ → ℕ → Type 0
Long l placed entries firsts wide =
    (length l.rooms.placed ≡ length placed) × (length l.rooms.placed_entries ≡ length entries) × (length l.intervals ≡ wide)
    × (length l.rooms.placed_firsts ≡ length firsts)

-- the filling goes on, or it has ended with a refusal
abbrev pub Stage : Result (Unit {0}) Refusal → Job → Rooms → List ℕ → ℕ → ℕ → Totals → List Float → List ℕ → List ℕ → List ℕ → List ℕ → List ℕ → List Float → List Float → List Float
    → Type 0
Stage (Ok tt) j lent order wide i t placed entries firsts looks next orientation x y gap =
    Held j lent order wide i t placed entries firsts looks next orientation x y gap
Stage (Err c) j lent order wide i t placed entries firsts looks next orientation x y gap = (i ≡ length order) ×
    ((l : Lent) → Long l placed entries firsts wide → fill_order j l order ≡ stopped c)

-- the same in a filling's two tables
abbrev pub HeldIn : Job → Rooms → List ℕ → ℕ → ℕ → Totals → List Float → List ℕ → List ℕ → List ℕ → List Float → Type 0
HeldIn j lent order wide i t placed entries firsts tracks spots =
    Held j lent order wide i t placed entries firsts (look_counts_from tracks) (next_columns tracks) (orientations tracks) (xs spots) (ys spots) (gaps spots)

abbrev pub StageIn : Result (Unit {0}) Refusal → Job → Rooms → List ℕ → ℕ → ℕ → Totals → List Float → List ℕ → List ℕ → List ℕ → List Float → Type 0
StageIn v j lent order wide i t placed entries firsts tracks spots =
    Stage v j lent order wide i t placed entries firsts (look_counts_from tracks) (next_columns tracks) (orientations tracks) (xs spots) (ys spots) (gaps spots)

abbrev pub state_in : Job → List ℕ → ℕ → List ℕ → Totals → List Float → State
state_in j order i tracks t spots = state_by (planner_of j) order i (next_columns tracks) (look_counts_from tracks) t (orientations tracks) (xs spots) (ys spots) (gaps spots)

abbrev pub done_in : Step → List Float → List ℕ → List ℕ → List ℕ → Placed
done_in q placed entries starts tracks = done q placed entries starts (look_counts_from tracks) (next_columns tracks)

abbrev pub code_in : Given → ℕ → Float → ℕ → ℕ → Totals → List Float → List ℕ → List ℕ → List ℕ → List ℕ → Placed
code_in g capacity area slot n t placed entries starts firsts tracks =
    code_with g capacity area slot n t placed entries starts firsts (look_counts_from tracks) (next_columns tracks)

-- what holds before place i
pub record Going (g : Given) (order : List ℕ) (placed₀ : List Float) (entries₀ starts₀ gains₀ : List ℕ) (room₀ : List Float) (tracks₀ : List ℕ)
    (spots₀ : List Float) (firsts₀ : List ℕ)
    (placed : List Float) (entries starts gains : List ℕ) (room : List Float) (tracks : List ℕ) (spots : List Float) (firsts : List ℕ)
    (v : Result (Unit {0}) Refusal) (t : Totals) (i : ℕ) : Type 0 where
  pub upto : i ≤ length order
  pub laid : Laid g.index placed t.placed_strips entries starts
  pub kept : FirstBuckets g.index placed t.placed_strips firsts
  pub stage : (j : Job) (h : Prepared j g) → rearranged j order ≡ true → StageIn v j h.lent order (length room₀) i t placed entries firsts tracks spots
  pub doubles : AllFit placed
  pub placed_long : length placed ≡ length placed₀
  pub entries_long : length entries ≡ length entries₀
  pub starts_long : length starts ≡ length starts₀
  pub gains_long : length gains ≡ length gains₀
  pub room_long : length room ≡ length room₀
  pub tracks_long : length tracks ≡ length tracks₀
  pub spots_long : length spots ≡ length spots₀
  pub firsts_long : length firsts ≡ length firsts₀

module _ (g : Given) (order : List ℕ) (placed₀ : List Float) (entries₀ starts₀ gains₀ : List ℕ) (room₀ : List Float) (tracks₀ : List ℕ)
    (spots₀ : List Float) (firsts₀ : List ℕ) where
  -- before the first
  pub going-first : (t : Totals) → t ≡ record { placed_strips = 0; right = g.bounds.left; unplaced_area = pos_zero }
      → look_counts_from tracks₀ ≡ replicate 1024 0 → next_columns tracks₀ ≡ replicate 1024 1 → starts₀ ≡ replicate 513 0 → AllFit placed₀
      → Going g order placed₀ entries₀ starts₀ gains₀ room₀ tracks₀ spots₀ firsts₀ placed₀ entries₀ starts₀ gains₀ room₀ tracks₀ spots₀ firsts₀
      (Ok tt) t 0
  going-first t a b c d f =
      record {
        upto = omega arith;
        laid = subst₂ (λ (s : List ℕ) (u : Totals). Laid g.index placed₀ u.placed_strips entries₀ s) (sym d) (sym a)
            (laid_none g.index placed₀ entries₀);
        kept = subst (λ (u : Totals). FirstBuckets g.index placed₀ u.placed_strips firsts₀) (sym a) (firsts_none g.index placed₀ firsts₀);
        stage = λ j h r.
            held_first j g h order r (length room₀) t placed₀ entries₀ firsts₀ (look_counts_from tracks₀) (next_columns tracks₀) (orientations tracks₀) (xs spots₀) (ys spots₀) (gaps spots₀)
            a b c;
        doubles = f;
        placed_long = refl;
        entries_long = refl;
        starts_long = refl;
        gains_long = refl;
        room_long = refl;
        tracks_long = refl;
        spots_long = refl;
        firsts_long = refl;
      }

  module _ (placed : List Float) (entries starts gains : List ℕ) (room : List Float) (tracks : List ℕ) (spots : List Float) (firsts : List ℕ)
      (v : Result (Unit {0}) Refusal) (t : Totals) (i : ℕ)
      (G : Going g order placed₀ entries₀ starts₀ gains₀ room₀ tracks₀ spots₀ firsts₀ placed entries starts gains room tracks spots firsts v t i) where
    -- a copy is left only while none was refused
    pub held_now : i < length order → (j : Job) (h : Prepared j g) → rearranged j order ≡ true → HeldIn j h.lent order (length room₀) i t placed entries
        firsts tracks spots
    held_now below j h r = go v (G.stage j h r)
      where
        go : (v : Result (Unit {0}) Refusal) → StageIn v j h.lent order (length room₀) i t placed entries firsts tracks spots → HeldIn j h.lent order (length room₀) i t placed
            entries firsts tracks spots
        go (Ok tt) s = s
        go (Err c) s = let e = s.0 in absurd (omega arith)

    below-4096 : i < length order → (j : Job) (h : Prepared j g) → rearranged j order ≡ true → i < 4096
    below-4096 below j h r = let a = rearranged-length j order r in let c = (sized h.bytes j h.read).few in omega arith

    -- what a search reads, in a room of so many intervals
    abbrev world_with : ℕ → Surroundings
    world_with capacity =
        surroundings capacity g.bounds g.resolution g.inset_bounds g.parts g.apart g.inset g.sheet (take (6 * t.placed_strips) placed)

    -- what placing the next one requires, of the kind whose n orientations have their slots from `slot` on
    pub ready-next : i < length order → (j : Job) (h : Prepared j g) → rearranged j order ≡ true → Doubles g → length gains₀ ≡ buckets
        → track_numbers ≤ length tracks₀ → spot_numbers ≤ length spots₀ → (apart all : ℕ) → apart ≤ all
        → (slot n : ℕ) → slot ≡ 16 * get_or order i 0 → n ≡ get_or g.rows (4 * get_or order i 0 + 3) 0
        → (sheet_firsts : List ℕ) → SheetFirsts g sheet_firsts
        → ((o : ℕ) → o < n → Fixed g.index (world_with (length room / 2)) g.sheet_entries g.sheet_starts (slot + o))
        × (slot + n ≤ 1024) × ((o : ℕ) → o < n → get_or (look_counts_from tracks) (slot + o) 0 + 4000000002 < 2 ^ 64)
        × Standing g.index placed t.placed_strips entries starts × (length gains ≡ buckets) × (apart ≤ all)
        × (track_numbers ≤ length tracks) × (spot_numbers ≤ length spots) × (i < 4096)
        × SheetFirsts g sheet_firsts × FirstBuckets g.index placed t.placed_strips firsts
    ready-next below j h r D b it is apart all a slot n es en sheet_firsts sf =
        let H = held_now below j h r in
        let few = subst₂ (λ (s m : ℕ). s + m ≤ 1024) (sym es) (sym en) (slots-below j g h order r i below) in (
          fixed H,
          few,
          subst₂ (λ (s m : ℕ). (o : ℕ) → o < m → get_or (look_counts_from tracks) (s + o) 0 + 4000000002 < 2 ^ 64) (sym es) (sym en)
              (held-counts j g h order r (length room₀) i t placed entries firsts (look_counts_from tracks) (next_columns tracks) (orientations tracks) (xs spots) (ys spots) (gaps spots)
              H below D G.doubles),
          held-standing j g h order r (length room₀) i t placed entries firsts (look_counts_from tracks) (next_columns tracks) (orientations tracks) (xs spots) (ys spots) (gaps spots) H
              below D G.doubles starts G.laid,
          G.gains_long ∙ b,
          a,
          as_long _ _ _ G.tracks_long it,
          as_long _ _ _ G.spots_long is,
          below-4096 below j h r,
          sf,
          G.kept,
        )
      where
        as_long : (m k l : ℕ) → m ≡ k → l ≤ k → l ≤ m
        as_long m k l e f = omega arith

        fixed : HeldIn j h.lent order (length room₀) i t placed entries firsts tracks spots
            → (o : ℕ) → o < n → Fixed g.index (world_with (length room / 2)) g.sheet_entries g.sheet_starts (slot + o)
        fixed H =
            subst (λ (m : ℕ). (o : ℕ) → o < n → Fixed g.index (world_with (m / 2)) g.sheet_entries g.sheet_starts (slot + o)) (sym G.room_long)
            (subst₂ (λ (s m : ℕ). (o : ℕ) → o < m → Fixed g.index (world_with (length room₀ / 2)) g.sheet_entries g.sheet_starts (s + o)) (sym es)
            (sym en)
            (held_fixed j g h order r (length room₀) i t placed entries firsts (look_counts_from tracks) (next_columns tracks) (orientations tracks) (xs spots) (ys spots) (gaps spots) H
            below D G.doubles))

    -- after the last
    pub going-last : length order ≤ i → (j : Job) → Prepared j g → rearranged j order ≡ true → (l : Lent)
        → length l.rooms.placed ≡ length placed₀ → length l.rooms.placed_entries ≡ length entries₀ → length l.intervals ≡ length room₀
        → length l.rooms.placed_firsts ≡ length firsts₀
        → filling_in v (planner_of j) order tracks t spots ≡ fill_order j l order
    going-last over j h r l a b c d = go v (G.stage j h r)
      where
        ended : i ≡ length order
        ended = let u = G.upto in omega arith

        long : Long l placed entries firsts (length room₀)
        long = (a ∙ sym G.placed_long, b ∙ sym G.entries_long, c, d ∙ sym G.firsts_long)

        all : HeldIn j h.lent order (length room₀) i t placed entries firsts tracks spots → filling_in (Ok tt) (planner_of j) order tracks t spots ≡
            fill_order j l order
        all s =
            let n : length order - i ≡ 0 = let u = ended in omega arith in
            ap (λ (m : ℕ). filled (state_in j order m tracks t spots)) (sym ended)
            ∙ (sym (fill-ends j l.intervals (state_in j order i tracks t spots) (rooms_by (planner_of j) h.lent placed entries firsts))
            ∙ (ap (λ (m : ℕ). fill_from j l.intervals m (state_in j order i tracks t spots) (rooms_by (planner_of j) h.lent placed entries firsts)) (sym n)
            ∙ s.same l long.0 long.1 long.2 long.3))

        go : (v : Result (Unit {0}) Refusal) → StageIn v j h.lent order (length room₀) i t placed entries firsts tracks spots → filling_in v (planner_of j) order tracks t spots ≡
            fill_order j l order
        go (Ok tt) s = all s
        go (Err c) s = sym (s.1 l long)

    -- one more
    module _ (below : i < length order) (q : Step) (area : Float) (slot n : ℕ) (placed' : List Float) (entries' starts' gains' : List ℕ) (room' : List Float)
        (tracks' : List ℕ) (spots' : List Float) (firsts' : List ℕ)
        (ea : area ≡ get_or g.areas (get_or order i 0) nan) (es : slot ≡ 16 * get_or order i 0) (en : n ≡ get_or g.rows (4 * get_or order i 0 + 3) 0)
        (d : done_in q placed' entries' starts' tracks' ≡ code_in g (length room / 2) area slot n t placed entries starts firsts tracks)
        (fo : orientations tracks' ≡ set (orientations tracks) i (orientation_number q.outcome)) (fx : xs spots' ≡ set (xs spots) i (outcome_x q.outcome))
        (fy : ys spots' ≡ set (ys spots) i (y_of q.outcome)) (fg : gaps spots' ≡ set (gaps spots) i (gap_of q.outcome))
        (L : Laid g.index placed' q.totals.placed_strips entries' starts')
        (F : FirstsLaid g.index placed' q.totals.placed_strips firsts firsts')
        (lp : length placed' ≡ length placed) (le : length entries' ≡ length entries) (ls : length starts' ≡ length starts) (lg : length gains' ≡ length gains)
        (lr : length room' ≡ length room)
        (lt : length tracks' ≡ length tracks) (lo : length spots' ≡ length spots) (lf : length firsts' ≡ length firsts) (fit : AllFit placed') where
      left_is : done_in q placed' entries' starts' tracks'
          ≡ code_in g (length room₀ / 2) (get_or g.areas (get_or order i 0) nan) (16 * get_or order i 0) (get_or g.rows (4 * get_or order i 0 + 3) 0) t placed
          entries starts firsts tracks
      left_is =
          d
          ∙ (ap (λ (m : ℕ). code_in g (m / 2) area slot n t placed entries starts firsts tracks) G.room_long
          ∙ (ap (λ (a : Float). code_in g (length room₀ / 2) a slot n t placed entries starts firsts tracks) ea
          ∙ ap₂ (λ (s m : ℕ). code_in g (length room₀ / 2) (get_or g.areas (get_or order i 0) nan) s m t placed entries starts firsts tracks) es en))

      stage_next : (j : Job) (h : Prepared j g) → rearranged j order ≡ true
          → StageIn (verdict_of q.outcome) j h.lent order (length room₀) (next_after (verdict_of q.outcome) i (length order)) q.totals placed'
          entries' firsts' tracks' spots'
      stage_next j h r = go q.outcome refl
        where
          b : HeldIn j h.lent order (length room₀) i t placed entries firsts tracks spots
          b = held_now below j h r

          small : length order ≤ 4096
          small = let a = rearranged-length j order r in let c = (sized h.bytes j h.read).few in omega arith

          within : (m : ℕ) → m ≡ 4096 → i < m
          within m e = let a = below-4096 below j h r in omega arith

          on : ((iv : List Float) → step_from (state_in j order i tracks t spots) (rooms_by (planner_of j) h.lent placed entries firsts) iv firsts'
              (done_in q placed' entries' starts' tracks')
              ≡ taken_with (state_in j order i tracks t spots) (rooms_by (planner_of j) h.lent placed entries firsts) iv firsts'
              (done_in q placed' entries' starts' tracks'))
              → HeldIn j h.lent order (length room₀) (i + 1) q.totals placed' entries' firsts' tracks' spots'
          on taken =
              subst (λ (m : ℕ). HeldIn j h.lent order (length room₀) m q.totals placed' entries' firsts' tracks' spots') (sym (add-one i))
              (held_next j g h order r (length room₀) i t placed entries firsts (look_counts_from tracks) (next_columns tracks) (orientations tracks) (xs spots) (ys spots) (gaps spots) b
              below starts G.laid G.kept q
              placed' entries' starts' (look_counts_from tracks') (next_columns tracks') firsts' left_is F (orientations tracks') (xs spots') (ys spots') (gaps spots') fo fx fy fg
              (within _ (length-field 0 1 2048 4096 tracks)) (within _ (length-field nan 3 0 4096 spots)) (within _ (length-field nan 3 1 4096 spots))
              (within _ (length-field nan 3 2 4096 spots)) small
              taken lp le lf)

          go : (o : Outcome) → q.outcome ≡ o → StageIn (verdict_of o) j h.lent order (length room₀) (next_after (verdict_of o) i (length order)) q.totals
              placed' entries' firsts' tracks' spots'
          go (Ok (Some c)) e = on (λ iv. ap (λ (z : Outcome). step_by z (state_in j order i tracks t spots) (rooms_by (planner_of j) h.lent placed entries firsts) iv firsts'
              (done_in q placed' entries' starts' tracks')) e)
          go (Ok None) e = on (λ iv. ap (λ (z : Outcome). step_by z (state_in j order i tracks t spots) (rooms_by (planner_of j) h.lent placed entries firsts) iv firsts'
              (done_in q placed' entries' starts' tracks')) e)
          go (Err c) e = (
            refl,
            λ l a. held_stops j g h order r (length room₀) i t placed entries firsts (look_counts_from tracks) (next_columns tracks) (orientations tracks) (xs spots)
                (ys spots) (gaps spots) b below starts G.laid G.kept q
                placed' entries' starts' (look_counts_from tracks') (next_columns tracks') firsts' left_is F c e l (a.0 ∙ lp) (a.1 ∙ le) a.2 (a.3 ∙ lf),
          )

      after_upto : (v : Result (Unit {0}) Refusal) → next_after v i (length order) ≤ length order
      after_upto (Ok tt) = omega arith
      after_upto (Err c) = omega arith

      pub going_next : (v' : Result (Unit {0}) Refusal) (i' : ℕ) → v' ≡ verdict_of q.outcome → i' ≡ next_after v' i (length order)
          → Going g order placed₀ entries₀ starts₀ gains₀ room₀ tracks₀ spots₀ firsts₀ placed' entries' starts' gains' room' tracks' spots' firsts'
          v' q.totals i'
      going_next v' i' ev ei =
          record {
            upto = subst (λ (m : ℕ). m ≤ length order) (sym ei) (after_upto v');
            laid = L;
            kept = F.kept;
            stage = λ j h r.
                subst₂ (λ (u : Result (Unit {0}) Refusal) (m : ℕ). StageIn u j h.lent order (length room₀) m q.totals placed' entries' firsts' tracks' spots') (sym ev)
                (sym (ei ∙ ap (λ (u : Result (Unit {0}) Refusal). next_after u i (length order)) ev)) (stage_next j h r);
            doubles = fit;
            placed_long = lp ∙ G.placed_long;
            entries_long = le ∙ G.entries_long;
            starts_long = ls ∙ G.starts_long;
            gains_long = lg ∙ G.gains_long;
            room_long = lr ∙ G.room_long;
            tracks_long = lt ∙ G.tracks_long;
            spots_long = lo ∙ G.spots_long;
            firsts_long = lf ∙ G.firsts_long;
          }
