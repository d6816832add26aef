-- Placing a copy. Assumes nothing.
use Rattle.std.specs.Prelude.{Some, None, Ok, Err}
use Prim.Native.Nat.{ℕ, zero, suc, ◌+◌, ◌*◌, ◌<◌, ◌≤◌}
use native.Mathlib.Omega.{arith}
use mathlib.Core.Path.{◌≡◌, sym, ap, ◌∙◌, subst, subst⁻¹}
use mathlib.Core.Bool.{Bool, true, false}
use mathlib.Core.List.{List}
use lib.ListN.{length, take}
use lib.Seq.{length-take-le}
use lib.Ieee.{Float}
use Rattle.trapezoid.specs.Strip.{capacity}
use Rattle.strips.specs.declared.Rect.{Rect}
use Rattle.index.specs.declared.Index.{Index}
use Rattle.index.specs.inner.Listing.{Laid, FirstBuckets}
use Rattle.search.specs.declared.columns.Columns.{Columns}
use Rattle.search.specs.inner.Searching.{Found, search_of}
use Rattle.choose.specs.declared.Part.{Part}
use Rattle.choose.specs.declared.Choice.{Choice}
use Rattle.choose.specs.inner.Choosing.{Winner, bounds_at, part_at, apart_part, wins_of, first_of, winner_of, against_of, better_of, Surroundings, columns_at, looks_at, Chosen, chosen, won, orientation_of, bettered, choose_from}
use Rattle.store.specs.inner.Storing.{Stored, left, store_of, Entered, FirstsLaid, FirstsEntered}
use Rattle.store.proofs.Firsts.{firsts_same}
use Rattle.place.specs.declared.Totals.{Totals}
use Rattle.place.specs.declared.Step.{Step}
use Rattle.place.specs.inner.Placing.{after_of, without_of, PutLeft, put, put_left, put_of, settle_of, Among, Under, done, place_with, place_of}

-- ---- the winner is stored
module _ (ix : Index) (p : Choice) (q : Part) (t : Totals) (apart placed : List Float) (e s f : List ℕ) (part : List Float) (k : ℕ) (stored : Stored) (p' : List Float) (e' s' : List ℕ) (r : Step)
    (ep : part ≡ apart_part q apart) (ek : k ≡ capacity part) (er : r ≡ after_of stored p t k) where
  k_is : k ≡ capacity (apart_part q apart)
  k_is = ek ∙ ap capacity ep

  pub put_is : left stored p' e' s' ≡ store_of ix part p.x p.y t.placed_strips placed e s f → put r p' e' s' ≡ put_of ix p q t apart placed e s f
  unfolding put_of put_left
  put_is E =
      ap (λ (z : Step). put z p' e' s') (er ∙ ap (after_of stored p t) k_is)
      ∙ ap (put_left p t (capacity (apart_part q apart))) (E ∙ ap (λ (z : List Float). store_of ix z p.x p.y t.placed_strips placed e s f) ep)

  by_answer : (st : Stored) (m : ℕ) → Entered ix t.placed_strips m p' e' s' st → Laid ix p' (after_of st p t m).totals.placed_strips e' s'
  by_answer (Err r) m h = h
  by_answer (Ok tt) m h = h

  pub put-laid : Entered ix t.placed_strips (capacity part) p' e' s' stored → Laid ix p' r.totals.placed_strips e' s'
  put-laid h =
      subst⁻¹ (λ (z : Step). Laid ix p' z.totals.placed_strips e' s') er
      (by_answer stored k (subst⁻¹ (λ (z : ℕ). Entered ix t.placed_strips z p' e' s' stored) ek h))

-- the strips' first buckets likewise
module _ (ix : Index) (p : Choice) (t : Totals) (p' : List Float) (f f' : List ℕ) where
  firsts_by_answer : (st : Stored) (m : ℕ) → FirstsEntered ix t.placed_strips m p' f f' st → FirstsLaid ix p' (after_of st p t m).totals.placed_strips f f'
  firsts_by_answer (Err r) m h = h
  firsts_by_answer (Ok tt) m h = h

  pub put_firsts : (k m : ℕ) (st : Stored) (r : Step) → k ≡ m → r ≡ after_of st p t k → FirstsEntered ix t.placed_strips m p' f f' st
      → FirstsLaid ix p' r.totals.placed_strips f f'
  put_firsts k m st r ek er h =
      subst⁻¹ (λ (z : Step). FirstsLaid ix p' z.totals.placed_strips f f') er
      (firsts_by_answer st k (subst⁻¹ (λ (z : ℕ). FirstsEntered ix t.placed_strips z p' f f' st) ek h))

-- ---- the winner, or none, or 22
pub among_at : (n : ℕ) (v : Winner) (p : Choice) → Among n v → v ≡ Ok (Some p) → p.orientation < n
among_at n v p h e = subst (Among n) e h

pub settle_at : (ix : Index) (v : Winner) (p : Choice) (q : Part) (area : Float) (slot : ℕ) (t : Totals) (parts : List ℕ) (apart placed : List Float) (e s f : List ℕ) (r : PutLeft)
    → v ≡ Ok (Some p) → q ≡ part_at parts (slot + p.orientation) → r ≡ put_of ix p q t apart placed e s f → r ≡ settle_of ix v area slot t parts apart placed e s f
settle_at ix v p q area slot t parts apart placed e s f r ev eq er =
    er ∙ (ap (λ (z : Part). put_of ix p z t apart placed e s f) eq ∙ sym (ap (λ (z : Winner). settle_of ix z area slot t parts apart placed e s f) ev))

pub without-laid : (ix : Index) (t : Totals) (area : Float) (placed : List Float) (e s : List ℕ) (r : Step) → r ≡ without_of t area → Laid ix placed t.placed_strips e s → Laid ix placed r.totals.placed_strips e s
unfolding without_of
without-laid ix t area placed e s r er h = subst⁻¹ (λ (z : Step). Laid ix placed z.totals.placed_strips e s) er h

pub without_firsts : (ix : Index) (t : Totals) (area : Float) (placed : List Float) (f : List ℕ) (r : Step) → r ≡ without_of t area → FirstBuckets ix placed t.placed_strips f → FirstsLaid ix placed r.totals.placed_strips f f
unfolding without_of
without_firsts ix t area placed f r er h = subst⁻¹ (λ (z : Step). FirstsLaid ix placed z.totals.placed_strips f f) er (firsts_same ix placed t.placed_strips f h)

-- ---- the winner is one of the n orientations
either : (b : Bool) → (P : Bool → Type 0) → P true → P false → P b
either true P x y = x
either false P x y = y

first_among : (n : ℕ) (a b : Choice) → a.orientation < n → b.orientation < n → Among n (first_of a b)
unfolding first_of
first_among n a b x y = either (wins_of b a) (λ t. Among n (elim t [ true ↦ Ok (Some b) | false ↦ Ok (Some a) ])) y x

against_among : (n : ℕ) (a : Choice) (v : Winner) → a.orientation < n → Among n v → Among n (against_of a v)
against_among n a (Ok (Some b)) x y = first_among n a b x y
against_among n a (Ok None) x y = x
against_among n a (Err r) x y = tt

better_among : (n : ℕ) (u v : Winner) → Among n u → Among n v → Among n (better_of u v)
better_among n (Ok (Some a)) v x y = against_among n a v x y
better_among n (Ok None) v x y = y
better_among n (Err r) v x y = tt

winner_among : (n o : ℕ) (k : Columns) (b : Rect) (f : Found) → o < n → Among n (winner_of k b o f)
winner_among n o k b (Ok (Some (c, y, g))) h = h
winner_among n o k b (Ok None) h = tt
winner_among n o k b (Err r) h = tt

orientation_among : (n : ℕ) (w : Surroundings) (i o : ℕ) (counts next : List ℕ) → o < n → Among n (orientation_of w i o counts next).winner
unfolding orientation_of won
orientation_among n w i o counts next h = winner_among n o (columns_at w i) (bounds_at w.inset_bounds i) (search_of (looks_at w i) (columns_at w i) i counts next).found h

choose_among : (n : ℕ) (w : Surroundings) (i m o : ℕ) (b : Chosen) → o + m ≤ n → Among n b.winner → Among n (choose_from w i m o b).winner
unfolding choose_from bettered
choose_among n w i zero o b h x = x
choose_among n w i (suc m) o b h x =
    choose_among n w i m (o + 1) (bettered b.winner (orientation_of w (i + o) o b.counts b.next)) (omega arith) (better_among n b.winner (orientation_of w (i + o) o b.counts b.next).winner x (orientation_among n w (i + o) o b.counts b.next (omega arith)))

pub chosen_among : (w : Surroundings) (slot n : ℕ) (v : Winner) (counts next counts' next' : List ℕ) → chosen v counts' next' ≡ choose_from w slot n 0 (chosen (Ok None) counts next) → Among n v
chosen_among w slot n v counts next counts' next' e = subst⁻¹ (λ (z : Chosen). Among n z.winner) e (choose_among n w slot n 0 (chosen (Ok None) counts next) (omega arith) tt)

after-under : (n : ℕ) (st : Stored) (p : Choice) (t : Totals) (k : ℕ) → p.orientation < n → Under n (after_of st p t k).outcome
after-under n (Err r) p t k h = tt
after-under n (Ok tt) p t k h = h

settle_under : (ix : Index) (n : ℕ) (v : Winner) (area : Float) (slot : ℕ) (t : Totals) (parts : List ℕ) (apart placed : List Float) (e s f : List ℕ) → Among n v → Under n (settle_of ix v area slot t parts apart placed e s f).reply.outcome
unfolding put_of put_left without_of
settle_under ix n (Ok (Some p)) area slot t parts apart placed e s f h = after-under n (store_of ix (apart_part (part_at parts (slot + p.orientation)) apart) p.x p.y t.placed_strips placed e s f).answer p t (capacity (apart_part (part_at parts (slot + p.orientation)) apart)) h
settle_under ix n (Ok None) area slot t parts apart placed e s f h = tt
settle_under ix n (Err r) area slot t parts apart placed e s f h = tt

pub settled_under : (ix : Index) (n : ℕ) (v : Winner) (area : Float) (slot : ℕ) (t : Totals) (parts : List ℕ) (apart placed : List Float) (e s f : List ℕ) (r : Step) (p' : List Float) (e' s' : List ℕ)
    → Among n v → put r p' e' s' ≡ settle_of ix v area slot t parts apart placed e s f → Under n r.outcome
settled_under ix n v area slot t parts apart placed e s f r p' e' s' h E = subst⁻¹ (λ (z : PutLeft). Under n z.reply.outcome) E (settle_under ix n v area slot t parts apart placed e s f h)

pub place_is : (ix : Index) (w : Surroundings) (area : Float) (slot n : ℕ) (t : Totals) (placed : List Float) (e s f counts next : List ℕ) (v : Winner) (r : Step) (p' : List Float) (e' s' counts' next' : List ℕ)
    → chosen v counts' next' ≡ choose_from w slot n 0 (chosen (Ok None) counts next) → put r p' e' s' ≡ settle_of ix v area slot t w.parts w.apart placed e s f
    → done r p' e' s' counts' next' ≡ place_of ix w area slot n t placed e s f counts next
unfolding place_of place_with
place_is ix w area slot n t placed e s f counts next v r p' e' s' counts' next' ec ep =
    ap (λ (z : PutLeft). record { left = z; counts = counts'; next = next' }) ep ∙ ap (place_with ix w area slot t placed e s f) ec

pub prefix_length : (n : ℕ) (placed : List Float) → 6 * n ≤ length placed → 6 * n ≡ length (take (6 * n) placed)
prefix_length n placed h = sym (length-take-le (6 * n) placed h)

pub slot_fits_lem : (s o n : ℕ) → o < n → s + n ≤ 1024 → s + o < 18446744073709551616
slot_fits_lem s o n h k = omega arith
