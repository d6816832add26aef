-- A refused copy leaves its kind's tracks; placed strips do not get fewer. Assumes nothing.
use Rattle.std.specs.Prelude.{Result, Ok, Err, Some, None}
use Prim.Native.Nat.{ℕ, ◌+◌, ◌≤◌}
use native.Mathlib.Omega.{arith}
use native.Mathlib.Nat.{le_of_eq}
use mathlib.Core.Path.{◌≡◌, refl, sym, ap, subst⁻¹, ◌∙◌}
use mathlib.Core.List.{List}
use lib.ListN.{get_or}
use lib.Ieee.{Float}
use Rattle.trapezoid.specs.Strip.{capacity}
use Rattle.index.specs.declared.Index.{Index}
use Rattle.filling.specs.declared.Refusal.{Refusal}
use Rattle.rooms.specs.tracks.inner.Tracks.{next_columns, look_counts_from}
use Rattle.choose.specs.declared.Choice.{Choice}
use Rattle.choose.specs.inner.Choosing.{Winner}
use Rattle.choose.specs.inner.Choosing.{Surroundings, part_at, apart_part, chosen, choose_from}
use Rattle.store.specs.inner.Storing.{Stored}
use Rattle.store.specs.inner.Storing.{store_of}
use Rattle.place.specs.declared.Step.{Step}
use Rattle.place.specs.declared.Totals.{Totals}
use Rattle.place.specs.inner.Placing.{after_of, without_of, put_left, put_of, settle_of, Placed, done, place_with, place_of}
use Rattle.take_copy.specs.kept_tracks.inner.Kept.{Kept, PutBack}
use Rattle.take_copy.specs.turn.inner.Turning.{kept_of}
use Rattle.take_copy.proofs.kept_tracks.Back.{tracks_back}
use Rattle.take_copy.proofs.kept_tracks.Outside.{place-outside, outside_of_more}

module _ (ix : Index) (w : Surroundings) (area : Float) (slot n : ℕ) (t : Totals) (placed : List Float) (e s f : List ℕ) where
  -- ---- the tracks
  module _ (tracks kept raw after : List ℕ) (r : Step) (placed' : List Float) (entries starts : List ℕ) (few : n ≤ 16) (K : Kept slot 32 tracks kept)
      (q : done r placed' entries starts (look_counts_from raw) (next_columns raw) ≡ place_of ix w area slot n t placed e s f (look_counts_from tracks)
      (next_columns tracks)) where
    back : PutBack slot 32 kept raw after → (next_columns after ≡ next_columns tracks) × (look_counts_from after ≡ look_counts_from tracks)
    back P =
        let o = place-outside ix w area slot n t placed e s f (look_counts_from tracks) (next_columns tracks) in
        let c : (place_of ix w area slot n t placed e s f (look_counts_from tracks) (next_columns tracks)).counts ≡ look_counts_from raw = sym
        (ap (λ (p : Placed). p.counts) q) in
        let m : (place_of ix w area slot n t placed e s f (look_counts_from tracks) (next_columns tracks)).next ≡ next_columns raw = sym
        (ap (λ (p : Placed). p.next) q) in
        tracks_back slot tracks kept raw after K P
        (outside_of_more slot n 16 (next_columns raw) (next_columns tracks) few (λ i h. sym (ap (λ l. get_or l i 0) m) ∙ o.1 i h))
        (outside_of_more slot n 16 (look_counts_from raw) (look_counts_from tracks) few (λ i h. sym (ap (λ l. get_or l i 0) c) ∙ o.0 i h))

    pub kept_tracks_lem : (v : Result (Unit {0}) Refusal) → (v ≡ (Ok tt) → after ≡ raw) → ((k : Refusal) → v ≡ Err k → PutBack slot 32 kept raw after)
        → (look_counts_from after ≡ kept_of v (look_counts_from tracks) (look_counts_from raw)) × (next_columns after ≡ kept_of v (next_columns tracks) (next_columns raw))
    kept_tracks_lem (Ok tt) a b = (ap (λ (l : List ℕ). look_counts_from l) (a refl), ap (λ (l : List ℕ). next_columns l) (a refl))
    kept_tracks_lem (Err k) a b = let h = back (b k refl) in (h.1, h.0)

  -- ---- the strips
  after_grows : (a : Stored) (p : Choice) (k : ℕ) → t.placed_strips ≤ (after_of a p t k).totals.placed_strips
  after_grows (Err r) p k = le_of_eq refl
  after_grows (Ok tt) p k = omega arith

  settle_grows : (v : Winner) (parts : List ℕ) (apart : List Float)
      → t.placed_strips ≤ (settle_of ix v area slot t parts apart placed e s f).reply.totals.placed_strips
  unfolding put_of put_left without_of
  settle_grows (Ok (Some p)) parts apart =
      let q = apart_part (part_at parts (slot + p.orientation)) apart in
      after_grows (store_of ix q p.x p.y t.placed_strips placed e s f).answer p (capacity q)
  settle_grows (Ok None) parts apart = le_of_eq refl
  settle_grows (Err r) parts apart = le_of_eq refl

  place_grows : (counts next : List ℕ) → t.placed_strips ≤ (place_of ix w area slot n t placed e s f counts next).left.reply.totals.placed_strips
  unfolding place_of place_with
  place_grows counts next = settle_grows (choose_from w slot n 0 (chosen (Ok None) counts next)).winner w.parts w.apart

  pub grown : (counts next c' n' : List ℕ) (r : Step) (placed' : List Float) (entries starts : List ℕ)
      → done r placed' entries starts c' n' ≡ place_of ix w area slot n t placed e s f counts next → t.placed_strips ≤ r.totals.placed_strips
  grown counts next c' n' r placed' entries starts q =
      subst⁻¹ (λ (m : ℕ). t.placed_strips ≤ m) (ap (λ (p : Placed). p.left.reply.totals.placed_strips) q) (place_grows counts next)
