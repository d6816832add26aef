-- Laws of the choice among orientations. Assumes nothing.
use Rattle.std.specs.Prelude.{Option, Some, None, Ok, Err}
use Prim.{⊥}
use Prim.Native.Nat.{ℕ, zero, suc, ◌+◌, ◌-◌, ◌/◌, ◌<◌, ◌≤◌, ◌^◌}
use native.Mathlib.Omega.{arith}
use mathlib.Core.Path.{◌≡◌, refl, sym, ap, ◌∙◌, subst⁻¹}
use mathlib.Core.Bool.{true, false}
use mathlib.Core.List.{List}
use lib.ListN.{length, get_or}
use lib.Seq.{get_or-set_other}
use lib.Ieee.{Float}
use Rattle.index.specs.declared.Index.{Index}
use Rattle.look.specs.inner.Ready.{Lookable}
use Rattle.strips.specs.declared.Rect.{Rect}
use Rattle.search.specs.declared.columns.Columns.{Columns}
use Rattle.rooms.specs.tracks.inner.Tracks.{next_columns, look_counts_from}
use Rattle.choose.specs.declared.Grid.{Grid}
use Rattle.choose.specs.declared.Part.{Part}
use Rattle.choose.specs.declared.Choice.{Choice}
use Rattle.search.specs.columns.inner.Stands.{columns_of, column_x, last_of}
use Rattle.search.specs.inner.Searching.{Answer, Found, answer_at, Looked, after_look, after_answer, counted, search_from, tracked, remembering, search_of}
use Rattle.choose.specs.inner.Choosing.{Winner, bounds_at, part_at, inset_part, apart_part, winner_of, wins_of, first_of, better_of, Surroundings, surroundings_in, columns_at, looks_at, Ready, Chosen, chosen, won, orientation_of, bettered, choose_from}
use Rattle.look.specs.declared.height.Look.{Look}
use Rattle.look.specs.declared.height.Look.TheVariants.{Free, Full}

pub first-true : (a b : Choice) → wins_of b a ≡ true → first_of a b ≡ Ok (Some b)
unfolding first_of
first-true a b e = rw (e, first_of)

pub first-false : (a b : Choice) → wins_of b a ≡ false → first_of a b ≡ Ok (Some a)
unfolding first_of
first-false a b e = rw (e, first_of)

-- ---- one orientation
module _ (ix : Index) (w : Surroundings) (se ss pe ps : List ℕ) (i : ℕ) where
  abbrev pub Parts : Columns → Part → Type 0
  Parts k p =
      ((c : ℕ) → c ≤ last_of k → Lookable ix (column_x k c) k.y_low k.y_high (inset_part p w.inset) (apart_part p w.apart) w.sheet w.placed se ss
      pe ps)
      × (k.count ≤ 4000000000)

  pub ready-parts : (b : Rect) (p : Part) (k : Columns) → Ready ix w se ss pe ps i → b ≡ bounds_at w.inset_bounds i → p ≡ part_at w.parts i → k ≡ columns_of
      w.bounds b w.resolution → Parts k p
  ready-parts b p k r eb ep ek =
      subst⁻¹ (λ (z : Columns). Parts z p) (ek ∙ ap (λ (z : Rect). columns_of w.bounds z w.resolution) eb)
      (subst⁻¹ (λ (z : Part). Parts (columns_at w i) z) ep
      (r.lookable, r.few))

  pub ready-few : (b : Rect) (k : Columns) → Ready ix w se ss pe ps i → b ≡ bounds_at w.inset_bounds i → k ≡ columns_of w.bounds b w.resolution →
      k.count ≤ 4000000000
  ready-few b k r eb ek = subst⁻¹ (λ (z : Columns). z.count ≤ 4000000000) (ek ∙ ap (λ (z : Rect). columns_of w.bounds z w.resolution) eb) r.few

module _ (w : Surroundings) (i o : ℕ) (counts next counts' next' : List ℕ) where
  orient_on : (b : Rect) (k : Columns) (found : Found) (v : Winner) → b ≡ bounds_at w.inset_bounds i → k ≡ columns_at w i → v ≡ winner_of k b o found
      → tracked found counts' next' ≡ search_of (looks_at w i) (columns_at w i) i counts next → chosen v counts' next' ≡ orientation_of w i o counts next
  unfolding orientation_of won
  orient_on b k found v eb ek ev e =
      ap (λ (z : Winner). chosen z counts' next') (ev ∙ (ap (λ (z : Columns). winner_of z b o found) ek ∙ ap (λ (z : Rect). winner_of (columns_at w i) z o found)
      eb))
      ∙ ap (won w i o) e

  pub orient_is : (b : Rect) (p : Part) (k : Columns) (found : Found) (v : Winner) → b ≡ bounds_at w.inset_bounds i → p ≡ part_at w.parts i → k ≡ columns_of
      w.bounds b w.resolution → v ≡ winner_of k b o found
      → tracked found counts' next' ≡ search_of (answer_at w.capacity k (inset_part p w.inset) (apart_part p w.apart) w.sheet w.placed) k i counts
      next → chosen v counts' next' ≡ orientation_of w i o counts next
  orient_is b p k found v eb ep ek ev e =
      let kk : k ≡ columns_at w i = ek ∙ ap (λ (z : Rect). columns_of w.bounds z w.resolution) eb in
      orient_on b k found v eb kk ev
      (e ∙ (ap (λ (z : Part). search_of (answer_at w.capacity k (inset_part z w.inset) (apart_part z w.apart) w.sheet w.placed) k i counts next) ep
      ∙ ap (λ (z : Columns). search_of (answer_at w.capacity z (inset_part (part_at w.parts i) w.inset) (apart_part (part_at w.parts i) w.apart)
      w.sheet w.placed) z i counts next) kk))

-- ---- a search changes no other look count
pub search-other : (f : ℕ → Answer) (slot j : ℕ) → (j ≡ slot → ⊥) → (n c : ℕ) (counts : List ℕ) → get_or (search_from f slot n c counts).counts j 0 ≡ get_or counts
    j 0
unfolding search_from
search-other f slot j h zero c counts = refl
search-other f slot j h (suc n) c counts = go (f c) (search-other f slot j h n (c + 1) (counted slot counts))
  where
    once : get_or (counted slot counts) j 0 ≡ get_or counts j 0
    once = get_or-set_other counts slot j (get_or counts slot 0 + 1) 0 h

    seen : (l : Look) (s : Looked) → get_or s.counts j 0 ≡ get_or (counted slot counts) j 0 → get_or (after_look l c (counted slot counts) s).counts j 0 ≡ get_or
        counts j 0
    seen (Free y g) s e = unfold after_look in once
    seen Full s e = unfold after_look in (e ∙ once)

    go : (v : Answer) → get_or (search_from f slot n (c + 1) (counted slot counts)).counts j 0 ≡ get_or (counted slot counts) j 0 → get_or
        (after_answer v c (counted slot counts) (search_from f slot n (c + 1) (counted slot counts))).counts j 0 ≡ get_or counts j 0
    go (Err r) e = unfold after_answer in once
    go (Ok l) e = unfold after_answer in (seen l (search_from f slot n (c + 1) (counted slot counts)) e)

pub orient_other : (w : Surroundings) (i o j : ℕ) (counts next : List ℕ) → (j ≡ i → ⊥) → get_or (orientation_of w i o counts next).counts j 0 ≡ get_or counts j 0
unfolding orientation_of won search_of remembering
orient_other w i o j counts next h = search-other (looks_at w i) i j h _ _ counts

-- ---- the loop
choose_more : (w : Surroundings) (i n m o : ℕ) (b : Chosen) → n ≡ suc m → choose_from w i n o b ≡ choose_from w i m (o + 1)
    (bettered b.winner (orientation_of w (i + o) o b.counts b.next))
unfolding choose_from
choose_more w i n m o b e = rw e

choose_end : (w : Surroundings) (i n o : ℕ) (b : Chosen) → n ≡ 0 → choose_from w i n o b ≡ b
unfolding choose_from
choose_end w i n o b e = rw e

pub at_first : (w : Surroundings) (i n : ℕ) (b : Chosen) → choose_from w i (n - 0) 0 b ≡ choose_from w i n 0 b
at_first w i n b = ap (λ (m : ℕ). choose_from w i m 0 b) (let e : n - 0 ≡ n = omega arith in e)

-- a winner, with the tracks after it
abbrev pub chosen_in : Winner → List ℕ → Chosen
chosen_in v tracks = chosen v (look_counts_from tracks) (next_columns tracks)

pub record Picking (room₀ : List Float) (w : Surroundings) (slot n : ℕ) (tracks₀ : List ℕ) (room : List Float) (tracks : List ℕ) (best : Winner) (o : ℕ) : Type 0 where
  pub upto : o ≤ n
  pub wide : length room ≡ length room₀
  pub long : length tracks ≡ length tracks₀
  pub small : (q : ℕ) → o ≤ q → q < n → get_or (look_counts_from tracks) (slot + q) 0 + 4000000002 < 2 ^ 64
  pub same : choose_from w slot (n - o) o (chosen_in best tracks) ≡ choose_from w slot n 0 (chosen_in (Ok None) tracks₀)

module _ (grid : Grid) (inset_bounds : List Float) (parts : List ℕ) (shapes sheet placed room₀ : List Float) (slot n : ℕ) (tracks₀ : List ℕ) where
  abbrev pub world_of_lem : Surroundings
  world_of_lem = surroundings_in (length room₀ / 2) grid inset_bounds parts shapes sheet placed

  abbrev pub Picks : List Float → List ℕ → Winner → ℕ → Type 0
  Picks room tracks best o = Picking room₀ world_of_lem slot n tracks₀ room tracks best o

  module _ (room room' : List Float) (tracks tracks' : List ℕ) (best later best' : Winner) (o : ℕ) (g : Picks room tracks best o) where
    abbrev counts : List ℕ
    counts = look_counts_from tracks

    abbrev next : List ℕ
    next = next_columns tracks

    abbrev counts' : List ℕ
    counts' = look_counts_from tracks'

    abbrev next' : List ℕ
    next' = next_columns tracks'

    pub at_last : n ≤ o → chosen_in best tracks ≡ choose_from world_of_lem slot n 0 (chosen_in (Ok None) tracks₀)
    at_last h = sym (choose_end world_of_lem slot (n - o) o (chosen_in best tracks) (omega arith)) ∙ g.same

    module _ (h : o < n) (e : chosen_in later tracks' ≡ orientation_of (surroundings_in (length room / 2) grid inset_bounds parts shapes sheet placed) (slot + o) o counts
        next) (b : best' ≡ better_of best later) where
      here : chosen_in later tracks' ≡ orientation_of world_of_lem (slot + o) o counts next
      here = e ∙ ap (λ (m : ℕ). orientation_of (surroundings_in (m / 2) grid inset_bounds parts shapes sheet placed) (slot + o) o counts next) g.wide

      step : chosen best' counts' next' ≡ bettered best (orientation_of world_of_lem (slot + o) o counts next)
      unfolding bettered
      step = ap (λ (z : Winner). chosen z counts' next') b ∙ ap (bettered best) here

      others : (q : ℕ) → o + 1 ≤ q → get_or counts' (slot + q) 0 ≡ get_or counts (slot + q) 0
      others q l = ap (λ (z : Chosen). get_or z.counts (slot + q) 0) here ∙ orient_other world_of_lem (slot + o) o (slot + q) counts next (λ x. omega (arith, x))

      pub at_next : length room' ≡ length room → length tracks' ≡ length tracks → Picks room' tracks' best' (o + 1)
      at_next a1 a2 =
          record {
            upto = omega arith;
            wide = a1 ∙ g.wide;
            long = a2 ∙ g.long;
            small = λ q l m. subst⁻¹ (λ (z : ℕ). z + 4000000002 < 2 ^ 64) (others q l) (g.small q (omega arith) m);
            same = ap (choose_from world_of_lem slot (n - (o + 1)) (o + 1)) step ∙ (sym
                (choose_more world_of_lem slot (n - o) (n - (o + 1)) o (chosen best counts next) (one_more h)) ∙ g.same);
          }
        where
          one_more : o < n → n - o ≡ suc (n - (o + 1))
          one_more h = omega arith
