-- A copy that is refused leaves strips, entries and totals as they were. Assumes nothing.
use Rattle.std.specs.Prelude.{Option, Some, None, Ok, Err}
use Rattle.index.specs.declared.Overrun.TheVariants.{EntryRoom, StripRoom}
use Prim.{⊥}
use Prim.Native.Nat.{ℕ, ◌+◌}
use native.Mathlib.Omega.{arith}
use mathlib.Core.Path.{◌≡◌, refl, sym, ap, ◌∙◌}
use mathlib.Core.Logic.{◌⊎◌, inl, inr}
use mathlib.Core.Bool.{Bool, true, false}
use mathlib.Core.List.{List}
use lib.ListN.{length}
use lib.Dec.{ltb}
use lib.Ieee.{Float}
use Rattle.numbers.proofs.Truth.{either}
use Rattle.trapezoid.specs.Strip.{capacity}
use Rattle.index.specs.declared.Index.{Index}
use Rattle.index.specs.Buckets.{entries_of, standing_capacity}
use Rattle.filling.specs.declared.Refusal.{Refusal}
use Rattle.choose.specs.declared.Choice.{Choice}
use Rattle.choose.specs.declared.Part.{Part}
use Rattle.choose.specs.inner.Choosing.{Winner}
use Rattle.choose.specs.inner.Choosing.{part_at, apart_part, Surroundings, chosen, choose_from}
use Rattle.store.specs.inner.Storing.{Stored}
use Rattle.store.specs.inner.Storing.{Left, left, together, store_of}
use Rattle.place.specs.declared.Totals.{Totals}
use Rattle.place.specs.inner.Placing.{Outcome, after_of, without_of, PutLeft, put_left, put_of, settle_of, place_with, place_of}

placed-not : (o : Option Choice) (r : Refusal) → ◌≡◌ {A = Outcome} (Ok o) (Err r) → ⊥
placed-not o r e = absurd (let z : ◌≡◌ {A = ℕ} 0 1 = cc in omega arith)

module _ (ix : Index) (t : Totals) (placed : List Float) (e s f : List ℕ) where
  -- strips, entries and totals stand as before
  abbrev Same : PutLeft → Type 0
  Same l = (l.placed ≡ placed) × (l.entries ≡ e) × (l.reply.totals ≡ t)

  module _ (apart : List Float) (p : Choice) where
    abbrev strips : List Float
    strips = together apart p.x p.y t.placed_strips placed

    abbrev stored : Left
    stored = store_of ix apart p.x p.y t.placed_strips placed e s f

    -- 20, 21
    abbrev few : Bool
    few = ltb (standing_capacity placed f) (capacity strips)

    abbrev tight : Bool
    tight = ltb (length e) (length (entries_of ix strips (capacity strips)))

    store_short : few ≡ true → stored ≡ left (Err StripRoom) placed e s
    unfolding store_of
    store_short h = rw (h, store_of)

    store_full : few ≡ false → tight ≡ true → stored ≡ left (Err EntryRoom) placed e s
    unfolding store_of
    store_full h g = rw (h, g, store_of)

    store_done : few ≡ false → tight ≡ false → stored.answer ≡ Ok tt
    unfolding store_of
    store_done h g = rw (h, g, store_of)

    -- strips and entries are as before, and no strip counts
    abbrev Unstored : Type 0
    Unstored = (stored.placed ≡ placed) × (stored.entries ≡ e) × ((k : ℕ) → (after_of stored.answer p t k).totals ≡ t)

    stored-kept : (stored.answer ≡ (Ok tt)) ⊎ Unstored
    stored-kept = go (either few) (either tight)
      where
        same : (a : Stored) → stored ≡ left a placed e s → ((k : ℕ) → (after_of a p t k).totals ≡ t) → Unstored
        same a q h = (ap (λ (l : Left). l.placed) q, ap (λ (l : Left). l.entries) q, λ k. ap (λ (l : Left). (after_of l.answer p t k).totals) q ∙ h k)

        go : (few ≡ true) ⊎ (few ≡ false) → (tight ≡ true) ⊎ (tight ≡ false) → (stored.answer ≡ (Ok tt)) ⊎ Unstored
        go (inl h) g = inr (same (Err StripRoom) (store_short h) (λ k. refl))
        go (inr h) (inl g) = inr (same (Err EntryRoom) (store_full h g) (λ k. refl))
        go (inr h) (inr g) = inl (store_done h g)

  put-kept : (p : Choice) (q : Part) (apart : List Float) (r : Refusal)
      → (put_of ix p q t apart placed e s f).reply.outcome ≡ Err r → Same (put_of ix p q t apart placed e s f)
  unfolding put_of put_left
  put-kept p q apart r h = go (stored-kept (apart_part q apart) p)
    where
      go : ((stored (apart_part q apart) p).answer ≡ (Ok tt)) ⊎ Unstored (apart_part q apart) p → Same (put_of ix p q t apart placed e s f)
      go (inl d) = absurd (placed-not _ _ (sym (ap (λ (a : Stored). (after_of a p t (capacity (apart_part q apart))).outcome) d) ∙ h))
      go (inr k) = (k.0, k.1, k.2 (capacity (apart_part q apart)))

  settle_kept : (v : Winner) (area : Float) (slot : ℕ) (parts : List ℕ) (apart : List Float) (r : Refusal)
      → (settle_of ix v area slot t parts apart placed e s f).reply.outcome ≡ Err r → Same (settle_of ix v area slot t parts apart placed e s f)
  unfolding without_of
  settle_kept (Ok (Some p)) area slot parts apart r h = put-kept p (part_at parts (slot + p.orientation)) apart r h
  settle_kept (Ok None) area slot parts apart r h = absurd (placed-not _ _ h)
  settle_kept (Err e) area slot parts apart r h = (refl, refl, refl)

  -- the rooms after a refused copy
  pub place_kept : (w : Surroundings) (area : Float) (slot n : ℕ) (counts next : List ℕ) (r : Refusal)
      → (place_of ix w area slot n t placed e s f counts next).left.reply.outcome ≡ Err r → Same (place_of ix w area slot n t placed e s f counts next).left
  unfolding place_of place_with
  place_kept w area slot n counts next r h = settle_kept (choose_from w slot n 0 (chosen (Ok None) counts next)).winner area slot w.parts w.apart r h
