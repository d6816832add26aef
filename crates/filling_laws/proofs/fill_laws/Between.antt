-- Between the copies of a filling: what holds, and what a copy taken or refused leaves. Assumes nothing.
use Rattle.std.specs.Prelude.{Ok, Err}
use Prim.Native.Nat.{ℕ, suc, ◌+◌, ◌-◌, ◌*◌, ◌/◌, ◌≤◌, ◌<◌}
use native.Mathlib.Omega.{arith}
use mathlib.Core.Path.{◌≡◌, refl, sym, ap, ap₂, subst, subst₂, ◌∙◌}
use mathlib.Core.Bool.{true}
use mathlib.Core.List.{List, [], ◌∷◌, ◌++◌, map, append_assoc}
use lib.ListN.{length, get_or, set, take, drop, replicate, length-replicate, length-set}
use lib.Seq.{drop-cons, take-suc-set, set_at, length-take-le}
use lib.Ieee.{Float, nan}
use Rattle.numbers.specs.Numbers.{pos_zero}
use Rattle.index.specs.declared.Index.{Index}
use Rattle.index.specs.inner.Listing.{Laid, FirstBuckets}
use Rattle.strips.specs.declared.Rect.{Rect}
use Rattle.job.specs.Jobs.{Job}
use Rattle.job.proofs.Accepted.{job_good}
use Rattle.filling.specs.declared.State.{State}
use Rattle.filling.specs.declared.Tables.{Tables}
use Rattle.filling.specs.declared.Refusal.{Refusal}
use Rattle.filling.specs.Shapes.{Planner, planner_of}
use Rattle.filling.specs.Plain.{Plain, plain_start, plain_take}
use Rattle.filling.specs.Rooms.{Rooms, Lent, laid}
use Rattle.filling.specs.Order.{rearranged}
use Rattle.filling.specs.State.{orientation_counts, apart_room, inset_room, planner_at, order_of, empty_layout}
use Rattle.filling.specs.Consistent.{sheet_index}
use Rattle.filling.specs.Start.{tables_of, first_state, first_rooms}
use Rattle.filling.specs.NextCopy as Next
use Rattle.filling.specs.NextCopy.{entered, core_step}
use Rattle.filling.specs.Fill.{stopped, fill_from, fill_order}
use Rattle.filling.proofs.Sizes.{sized}
use Rattle.filling.proofs.Steps as Steps
use Rattle.filling.proofs.Steps.{Took, unchanged, took, core_outcome, refused≢accepted, no_step-refused}
use Rattle.filling.proofs.WithinBounds.{jobs_within}
use Rattle.filling.proofs.OwnStates.{Own}
use Rattle.filling.proofs.OwnKept.{own_took}
use Rattle.choose.specs.inner.Choosing.{surroundings}
use Rattle.store.specs.inner.Storing.{FirstsLaid}
use Rattle.place.specs.declared.Totals.{Totals}
use Rattle.place.specs.inner.Placing.{Outcome}
use Rattle.place.specs.declared.Step.{Step}
use Rattle.place.specs.inner.Placing.{Placed, done, place_of, orientation_number, outcome_x, y_of, gap_of}
use Rattle.filling_laws.proofs.SameCopy.{step_from, step_by, taken_with, code_of}
use Rattle.filling_laws.proofs.SameCore.{same_core}
use Rattle.filling_laws.specs.fill_laws.inner.Prepared.{Given, given, Prepared, state_by, rooms_by}
use Rattle.filling.proofs.FillSteps.{fill_on, fill_stops}
use Rattle.filling.proofs.Reading.{kinds_many}
use Rattle.filling_laws.proofs.ReadyOrder.{kind_in, slots-within}
use Rattle.filling_laws.proofs.fill_laws.Begin.{own_first, fill-first}

-- what holds after i copies
pub record Held (j : Job) (lent : Rooms) (order : List ℕ) (wide i : ℕ) (t : Totals) (placed : List Float) (entries firsts looks next orientation : List ℕ) (x y gap : List Float) : Type 0 where
  pub plain : Plain
  pub own : Own j order (state_by (planner_of j) order i next looks t orientation x y gap) (rooms_by (planner_of j) lent placed entries firsts) plain
  pub same : (l : Lent) → length l.rooms.placed ≡ length placed → length l.rooms.placed_entries ≡ length entries → length l.intervals ≡ wide → length l.rooms.placed_firsts ≡ length firsts
      → fill_from j l.intervals (length order - i) (state_by (planner_of j) order i next looks t orientation x y gap) (rooms_by (planner_of j) lent placed entries firsts) ≡ fill_order j l order

-- ---- before the first copy

first-is : (p : Planner) (order : List ℕ) (orientation : List ℕ) (x y gap : List Float)
    → state_by p order 0 (replicate 1024 1) (replicate 1024 0) (record { placed_strips = 0; right = p.bounds.left; unplaced_area = pos_zero }) orientation x y gap ≡ first_state p order
unfolding first_state empty_layout laid
first-is p order orientation x y gap = refl

pub held_first : (j : Job) (g : Given) (h : Prepared j g) (order : List ℕ) → rearranged j order ≡ true → (wide : ℕ) (t : Totals) (placed : List Float) (entries firsts looks next orientation : List ℕ) (x y gap : List Float)
    → t ≡ record { placed_strips = 0; right = g.bounds.left; unplaced_area = pos_zero } → looks ≡ replicate 1024 0 → next ≡ replicate 1024 1 → Held j h.lent order wide 0 t placed entries firsts looks next orientation x y gap
held_first j g h order r wide t placed entries firsts looks next orientation x y gap a b c =
    record {
      plain = plain_start (planner_of j) order;
      own = subst (λ (s : State). Own j order s (rooms_by (planner_of j) h.lent placed entries firsts) (plain_start (planner_of j) order)) (sym state) (own_first h.bytes j h.read h.few order r h.lent placed entries firsts);
      same = λ l d e f g.
          let n : length order - 0 ≡ length order = omega arith in
          ap₂ (λ (m : ℕ) (s : State). fill_from j l.intervals m s (rooms_by (planner_of j) h.lent placed entries firsts)) n state
          ∙ fill-first h.bytes j h.read h.few order r h.lent placed entries firsts l d e g;
    }
  where
    totals : t ≡ record { placed_strips = 0; right = (planner_of j).bounds.left; unplaced_area = pos_zero }
    totals = a ∙ ap (λ (b : Rect). record { placed_strips = 0; right = b.left; unplaced_area = pos_zero }) h.bounds

    state : state_by (planner_of j) order 0 next looks t orientation x y gap ≡ first_state (planner_of j) order
    state =
        ap (λ (n : List ℕ). state_by (planner_of j) order 0 n looks t orientation x y gap) c
        ∙ (ap (λ (n : List ℕ). state_by (planner_of j) order 0 (replicate 1024 1) n t orientation x y gap) b
        ∙ (ap (λ (n : Totals). state_by (planner_of j) order 0 (replicate 1024 1) (replicate 1024 0) n orientation x y gap) totals
        ∙ first-is (planner_of j) order orientation x y gap))

-- ---- what is written down of the next copy

written : {A : Type 0} (l zs : List A) (i : ℕ) (v d : A) → i < length l → i < length zs → set (laid (take i l) zs) i v ≡ laid (take (suc i) (set l i v)) zs
unfolding laid
written {A} l zs i v d a b =
    let e = length-take-le i l (omega arith) in
    let f : length (take (suc i) (set l i v)) ≡ suc i = length-take-le (suc i) (set l i v) (simp length-set (omega arith)) in
    ap (λ (n : ℕ). set (take i l ++ drop n zs) i v) e
    ∙ (ap (λ (q : List A). set (take i l ++ q) i v) (drop-cons zs i d b)
    ∙ (set_at (take i l) (get_or zs i d) (drop (suc i) zs) v i e
    ∙ sym (ap (λ (n : ℕ). take (suc i) (set l i v) ++ drop n zs) f
    ∙ (ap (λ (q : List A). q ++ drop (suc i) zs) (take-suc-set l i v a)
    ∙ append_assoc (take i l) (v ∷ []) (drop (suc i) zs)))))

abbrev state_in : Tables → List ℕ → ℕ → List ℕ → List ℕ → Totals → List ℕ → List Float → List Float → List Float → State
state_in ts order taken next looks t orientation x y gap =
    record {
      tables = ts;
      order = order;
      taken = taken;
      next_column = next;
      look_counts = looks;
      placed_strips = t.placed_strips;
      layout = record { orientation = orientation; x = x; y = y; gap = gap; unplaced_area = t.unplaced_area; right = t.right };
    }

-- ---- the code's step is the definition's

-- what place_next leaves
abbrev pub code_with : Given → ℕ → Float → ℕ → ℕ → Totals → List Float → List ℕ → List ℕ → List ℕ → List ℕ → List ℕ → Placed
code_with g room area slot n t placed entries starts firsts looks next =
    place_of g.index (surroundings room g.bounds g.resolution g.inset_bounds g.parts g.apart g.inset g.sheet (take (6 * t.placed_strips) placed)) area slot n t placed entries starts firsts looks next

same-given : {a a' : Index} {b b' : Rect} {c c' : Float} {rows : List ℕ} {areas : List Float} {d d' : List Float} {e e' : List ℕ} {f f' f₁ f₁' f₂ f₂' : List Float} {es es' ss : List ℕ}
    → a ≡ a' → b ≡ b' → c ≡ c' → d ≡ d' → e ≡ e' → f ≡ f' → f₁ ≡ f₁' → f₂ ≡ f₂' → es ≡ es' → given a b c rows areas d e f f₁ f₂ es ss ≡ given a' b' c' rows areas d' e' f' f₁' f₂' es' ss
same-given p q r s t u v w x = rw (p, q, r, s, t, u, v, w, x)

module _ (j : Job) (g : Given) (h : Prepared j g) (order : List ℕ) (r : rearranged j order ≡ true) where
  abbrev P : Planner
  P = planner_of j

  -- the job's own
  abbrev pub Own' : Given
  Own' =
      given (sheet_index P.bounds) P.bounds P.resolution g.rows g.areas (tables_of P).inset_bounds (tables_of P).parts (apart_room (tables_of P) (first_rooms P h.lent).shapes) (inset_room (tables_of P) (first_rooms P h.lent).shapes)
      (take (6 * (tables_of P).sheet_strips) (first_rooms P h.lent).sheet) (first_rooms P h.lent).sheet_entries g.sheet_starts

  pub given_is : g ≡ Own'
  given_is = same-given h.index h.bounds h.resolution h.inset_bounds h.parts h.apart h.inset h.sheet h.sheet_entries

  -- the kind at place i is one of the job's
  pub kind-below : (i : ℕ) → i < length order → get_or order i 0 < length j.kinds
  kind-below i = kind_in j order (job_good h.bytes j h.read).good.total r i

  -- so its slots lie within the tables
  pub slots-below : (i : ℕ) → i < length order → 16 * get_or order i 0 + get_or g.rows (4 * get_or order i 0 + 3) 0 ≤ 1024
  slots-below i l =
      let k = kind-below i l in
      subst (λ (n : ℕ). 16 * get_or order i 0 + n ≤ 1024) (h.tabled.orientations (get_or order i 0) k)
      (slots-within j (job_good h.bytes j h.read).good (get_or order i 0) (let e = kinds_many j in omega arith))

  module _ (wide i : ℕ) (t : Totals) (placed : List Float) (entries firsts looks next orientation : List ℕ) (x y gap : List Float)
      (b : Held j h.lent order wide i t placed entries firsts looks next orientation x y gap) (below : i < length order) where
    abbrev S : State
    S = state_by P order i next looks t orientation x y gap

    abbrev W : Rooms
    W = rooms_by P h.lent placed entries firsts

    abbrev k : ℕ
    k = get_or order i 0

    abbrev n : ℕ
    n = get_or (orientation_counts j) (get_or order i 0) 0

    kind : k < length (orientation_counts j)
    kind = let e = kinds_many j in let l = kind-below i below in omega arith

    slots : 16 * k + n ≤ length looks
    slots = let e = b.own.kept.linked.look_counts in let l = slots-within j (job_good h.bytes j h.read).good k kind in omega arith

    next-order : drop i (order_of j S) ≡ k ∷ drop (suc i) order
    next-order = ap (drop i) b.own.order_kept ∙ drop-cons order i 0 below

    module _ (starts : List ℕ) (L : Laid g.index placed t.placed_strips entries starts) (K : FirstBuckets g.index placed t.placed_strips firsts) where
      -- what place_next leaves of this copy
      abbrev pub Left : Placed
      Left = code_with g (wide / 2) (get_or g.areas (get_or order i 0) nan) (16 * get_or order i 0) (get_or g.rows (4 * get_or order i 0 + 3) 0) t placed entries starts firsts looks next

      code_is : (iv : List Float) → length iv ≡ wide
          → Left ≡ code_of (planner_at j S.tables W) k S W iv S.tables.inset_bounds S.tables.parts (apart_room S.tables W.shapes) (inset_room S.tables W.shapes) n starts L.room slots
      unfolding planner_at tables_of
      code_is iv e =
          ap (λ (g' : Given). code_with g' (wide / 2) (get_or g.areas k nan) (16 * k) (get_or g.rows (4 * k + 3) 0) t placed entries starts firsts looks next) given_is
          ∙ (ap₂ (λ (a : Float) (m : ℕ). code_with Own' (wide / 2) a (16 * k) m t placed entries starts firsts looks next) (sym (h.tabled.area k (kind-below i below))) (sym (h.tabled.orientations k (kind-below i below)))
          ∙ ap (λ (m : ℕ). code_with Own' (m / 2) (get_or (map (λ a. a.area) j.kinds) k pos_zero) (16 * k) n t placed entries starts firsts looks next) (sym e))

      -- the numbers of the strips that stand after it
      abbrev Numbers : Index → List ℕ → Placed → Type 0
      Numbers ix firsts' D = FirstsLaid ix D.left.placed D.left.reply.totals.placed_strips firsts firsts'

      own_firsts : FirstBuckets (sheet_index (planner_at j S.tables W).bounds) placed t.placed_strips firsts
      unfolding planner_at tables_of
      own_firsts = subst (λ (z : Index). FirstBuckets z placed t.placed_strips firsts) h.index K

      own_numbers : (firsts' : List ℕ) (D : Placed) → Numbers g.index firsts' D → Numbers (sheet_index (planner_at j S.tables W).bounds) firsts' D
      unfolding planner_at tables_of
      own_numbers firsts' D F = subst (λ (z : Index). Numbers z firsts' D) h.index F

      step_is : (iv : List Float) → length iv ≡ wide → (D : Placed) → D ≡ Left → (firsts' : List ℕ) → Numbers g.index firsts' D → step_from S W iv firsts' D ≡ core_step j S W iv
      step_is iv e D d firsts' F =
          ap (step_from S W iv firsts') (d ∙ code_is iv e)
          ∙ same_core j S W iv k starts kind L.room slots (drop (suc i) order) next-order firsts' own_firsts
          (subst (Numbers (sheet_index (planner_at j S.tables W).bounds) firsts') (d ∙ code_is iv e) (own_numbers firsts' D F))

      module _ (q : Step) (placed' : List Float) (entries' starts' looks' next' firsts' : List ℕ) (d : done q placed' entries' starts' looks' next' ≡ Left)
          (F : FirstsLaid g.index placed' q.totals.placed_strips firsts firsts') where
        abbrev D : Placed
        D = done q placed' entries' starts' looks' next'

        count : length order - i ≡ suc (length order - suc i)
        count = omega arith

        -- a refusal ends the filling
        pub held_stops : (c : Refusal) → q.outcome ≡ Err c → (l : Lent) → length l.rooms.placed ≡ length placed → length l.rooms.placed_entries ≡ length entries → length l.intervals ≡ wide → length l.rooms.placed_firsts ≡ length firsts → fill_order j l order ≡ stopped c
        held_stops c o l u v w z =
            let iv = l.intervals in
            let e : (core_step j S W iv).verdict ≡ Err c = ap (λ (z : Next.Step). z.verdict) (sym (step_is iv w D d firsts' F)) ∙ (ap (λ (z : Outcome). (step_by z S W iv firsts' D).verdict) o ∙ no_step-refused c S W iv) in
            sym (b.same l u v w z) ∙ (ap (λ (m : ℕ). fill_from j iv m S W) count ∙ fill_stops j iv (length order - suc i) S W c e)

        -- a copy taken
        module _ (orientation' : List ℕ) (x' y' gap' : List Float) (fo : orientation' ≡ set orientation i (orientation_number q.outcome)) (fx : x' ≡ set x i (outcome_x q.outcome)) (fy : y' ≡ set y i (y_of q.outcome))
            (fg : gap' ≡ set gap i (gap_of q.outcome)) (io : i < length orientation) (ix : i < length x) (iy : i < length y) (ig : i < length gap) (small : length order ≤ 4096) where
          abbrev S' : State
          S' = state_by P order (suc i) next' looks' q.totals orientation' x' y' gap'

          abbrev W' : Rooms
          W' = rooms_by P h.lent placed' entries' firsts'

          in_numbers : i < length {A = ℕ} (replicate 4096 0)
          in_numbers = let e = length-replicate {A = ℕ} 4096 0 in omega arith

          in_floats : i < length (replicate 4096 pos_zero)
          in_floats = let e = length-replicate 4096 pos_zero in omega arith

          numbers_now : set (laid (take i orientation) (replicate 4096 0)) i (orientation_number q.outcome) ≡ laid (take (suc i) orientation') (replicate 4096 0)
          numbers_now = written orientation (replicate 4096 0) i (orientation_number q.outcome) 0 io in_numbers ∙ ap (λ (z : List ℕ). laid (take (suc i) z) (replicate 4096 0)) (sym fo)

          -- doubles written down, one to a place
          doubles_now : (l l' : List Float) (v : Float) → l' ≡ set l i v → i < length l
              → set (laid (take i l) (replicate 4096 pos_zero)) i v ≡ laid (take (suc i) l') (replicate 4096 pos_zero)
          doubles_now l l' v e b =
              written l (replicate 4096 pos_zero) i v pos_zero b in_floats ∙ ap (λ (z : List Float). laid (take (suc i) z) (replicate 4096 pos_zero)) (sym e)

          state_now : (iv : List Float) → (taken_with S W iv firsts' D).state ≡ S'
          unfolding entered
          state_now iv =
              ap (λ (z : List ℕ). state_in (tables_of P) S.order (suc i) next' looks' q.totals z (set (laid (take i x) (replicate 4096 pos_zero)) i (outcome_x q.outcome))
              (set (laid (take i y) (replicate 4096 pos_zero)) i (y_of q.outcome)) (set (laid (take i gap) (replicate 4096 pos_zero)) i (gap_of q.outcome))) numbers_now
              ∙ (ap₂ (λ (z v : List Float). state_in (tables_of P) S.order (suc i) next' looks' q.totals (laid (take (suc i) orientation') (replicate 4096 0)) z v
              (set (laid (take i gap) (replicate 4096 pos_zero)) i (gap_of q.outcome))) (doubles_now x x' _ fx ix) (doubles_now y y' _ fy iy)
              ∙ ap (λ (z : List Float). state_in (tables_of P) S.order (suc i) next' looks' q.totals (laid (take (suc i) orientation') (replicate 4096 0))
              (laid (take (suc i) x') (replicate 4096 pos_zero)) (laid (take (suc i) y') (replicate 4096 pos_zero)) z) (doubles_now gap gap' _ fg ig))

          module _ (taken : (iv : List Float) → step_from S W iv firsts' D ≡ taken_with S W iv firsts' D) (lp : length placed' ≡ length placed) (le : length entries' ≡ length entries)
              (lf : length firsts' ≡ length firsts) where
            core_is : (iv : List Float) → length iv ≡ wide → core_step j S W iv ≡ taken_with S W iv firsts' D
            core_is iv e = sym (step_is iv e D d firsts' F) ∙ taken iv

            accepted_is : (iv : List Float) → length iv ≡ wide → (core_step j S W iv).verdict ≡ Ok tt
            accepted_is iv e = ap (λ (z : Next.Step). z.verdict) (core_is iv e)

            state_is : (iv : List Float) → length iv ≡ wide → (core_step j S W iv).state ≡ S'
            state_is iv e = ap (λ (z : Next.Step). z.state) (core_is iv e) ∙ state_now iv

            rooms_is : (iv : List Float) → length iv ≡ wide → (core_step j S W iv).rooms ≡ W'
            rooms_is iv e = ap (λ (z : Next.Step). z.rooms) (core_is iv e)

            took_it : (iv : List Float) → length iv ≡ wide → Took j S W (core_step j S W iv)
            took_it iv e = go (core_outcome j S W b.own.kept.linked iv)
              where
                go : Steps.Outcome j S W (core_step j S W iv) → Took j S W (core_step j S W iv)
                go (unchanged c v u w) = absurd (refused≢accepted (sym v ∙ accepted_is iv e))
                go (took z) = z

            own_now : (iv : List Float) → length iv ≡ wide → Own j order S' W' (plain_take P b.plain b.plain.to_come_lem)
            own_now iv e =
                subst₂ (λ (s : State) (w : Rooms). Own j order s w (plain_take P b.plain b.plain.to_come_lem)) (state_is iv e) (rooms_is iv e)
                (own_took j (sized h.bytes j h.read) (jobs_within h.bytes j h.read) order S W b.plain b.own (core_step j S W iv) (took_it iv e))

            pub held_next : Held j h.lent order wide (suc i) q.totals placed' entries' firsts' looks' next' orientation' x' y' gap'
            held_next =
                record {
                  plain = plain_take P b.plain b.plain.to_come_lem;
                  own = own_now (replicate wide pos_zero) (length-replicate wide pos_zero);
                  same = λ l u v w z.
                      let iv = l.intervals in
                      sym (ap₂ (fill_from j iv (length order - suc i)) (state_is iv w) (rooms_is iv w))
                      ∙ (sym (fill_on j iv (length order - suc i) S W (accepted_is iv w))
                      ∙ (ap (λ (m : ℕ). fill_from j iv m S W) (sym count) ∙ b.same l (u ∙ lp) (v ∙ le) w (z ∙ lf)));
                }
