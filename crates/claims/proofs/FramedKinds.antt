-- Kinds with their sets in a frame: all that a job's definitions ask of its kinds beside the sets stays. Assumes nothing.
use mathlib.Core.Path.{◌≡◌, refl, sym, ap, ◌∙◌}
use mathlib.Core.Bool.{Bool, false, not, ◌&&◌, beq}
use mathlib.Core.List.{List, [], ◌∷◌, map, flat_map, map-map}
use Prim.Native.Nat.{ℕ, suc}
use lib.ListN.{length, replicate, length-map, get_or-map}
use lib.Dec.{eqb}
use Rattle.slabs.specs.Slab.{sort}
use Rattle.kinds.specs.Kinds.{Orientation, Kind}
use Rattle.frames.specs.declared.Frame.{Frame}
use Rattle.frames.specs.Frames.{lower_left, framed}
use Rattle.frames.proofs.Turned.{framed-lower-left}
use Rattle.filling.specs.Shapes.{Shape, set_bounds, set_strips, shape_for}
use Rattle.filling.specs.Order.{count_in, in_full}
use Rattle.nesting.specs.CopyOrder.{Numbered, same_priority, numbered, larger_first, higher_first, ahead}
use Rattle.nesting.specs.Rounds.{no_kind, swappable}
use Rattle.copy_order.proofs.Sorted.{sort-map, flat_map-map}
use Rattle.claims.specs.FramedJobs.{framed_orientation, framed_kind}

module _ (f : Frame) where
  pub kinds-areas : (ks : List Kind) → map (λ k. k.area) ks ≡ map (λ k. k.area) (map (framed_kind f) ks)
  unfolding framed_kind
  kinds-areas ks = sym (map-map (λ k. k.area) (framed_kind f) ks)

  pub kinds-counts : (ks : List Kind) → map (λ k. length k.orientations) ks ≡ map (λ k. length k.orientations) (map (framed_kind f) ks)
  unfolding framed_kind
  kinds-counts ks =
      ap (λ (g : Kind → ℕ). map g ks) (λ t k. sym (length-map k.orientations (framed_orientation f)) t)
      ∙ sym (map-map (λ k. length k.orientations) (framed_kind f) ks)

  shape_framed : (o : Orientation) → shape_for f o ≡ shape_for lower_left (framed_orientation f o)
  unfolding shape_for framed_orientation
  shape_framed o =
      let a = sym (framed-lower-left (framed f o.apart)) in
      let b = sym (framed-lower-left (framed f o.inset)) in
      λ t. record { apart = set_strips false (a t); inset = set_strips false (b t); bounds = set_bounds (b t) }

  shapes-framed : (os : List Orientation) → map (shape_for f) os ≡ map (shape_for lower_left) (map (framed_orientation f) os)
  shapes-framed os =
      ap (λ (g : Orientation → Shape). map g os) (λ t o. shape_framed o t) ∙ sym (map-map (shape_for lower_left) (framed_orientation f) os)

  pub kinds-shapes : (ks : List Kind)
      → map (λ k. map (shape_for f) k.orientations) ks ≡ map (λ k. map (shape_for lower_left) k.orientations) (map (framed_kind f) ks)
  unfolding framed_kind
  kinds-shapes ks =
      ap (λ (g : Kind → List Shape). map g ks) (λ t k. shapes-framed k.orientations t)
      ∙ sym (map-map (λ k. map (shape_for lower_left) k.orientations) (framed_kind f) ks)

  pub kinds_full : (ks : List Kind) (n : ℕ) (order : List ℕ) → in_full n ks order ≡ in_full n (map (framed_kind f) ks) order
  unfolding framed_kind in_full
  kinds_full [] n order = refl
  kinds_full (k ∷ ks) n order = ap (λ (b : Bool). eqb (count_in n order) k.quantity && b) (kinds_full ks (suc n) order)

  -- ---- the order of the copies, and their swaps

  abbrev numbered_framed : Numbered → Numbered
  numbered_framed a = record { number = a.number; kind = framed_kind f a.kind }

  kinds-numbered : (ks : List Kind) (n : ℕ) → numbered n (map (framed_kind f) ks) ≡ map numbered_framed (numbered n ks)
  unfolding numbered
  kinds-numbered [] n = refl
  kinds-numbered (k ∷ ks) n = ap (λ (r : List Numbered). numbered_framed (record { number = n; kind = k }) ∷ r) (kinds-numbered ks (suc n))

  same_ahead : (a b : Numbered) → ahead (numbered_framed a) (numbered_framed b) ≡ ahead a b
  unfolding ahead higher_first larger_first same_priority framed_kind
  same_ahead a b = refl

  pub kinds-order : (ks : List Kind)
      → flat_map (λ (a : Numbered). replicate a.kind.quantity a.number) (sort ahead (numbered 0 ks))
      ≡ flat_map (λ (a : Numbered). replicate a.kind.quantity a.number) (sort ahead (numbered 0 (map (framed_kind f) ks)))
  unfolding framed_kind
  kinds-order ks =
      let copies : Numbered → List ℕ = λ a. replicate a.kind.quantity a.number in
      sym
      (ap (λ (as' : List Numbered). flat_map copies (sort ahead as')) (kinds-numbered ks 0)
      ∙ ap (flat_map copies) (sort-map ahead numbered_framed same_ahead (numbered 0 ks))
      ∙ flat_map-map copies numbered_framed (sort ahead (numbered 0 ks)))

  pub kinds-swappable : (ks : List Kind) (a b : ℕ) → swappable ks a b ≡ swappable (map (framed_kind f) ks) a b
  unfolding swappable same_priority no_kind framed_kind
  kinds-swappable ks a b = λ t.
      let k = sym (get_or-map (framed_kind f) ks a no_kind) t in
      let l = sym (get_or-map (framed_kind f) ks b no_kind) t in
      not (eqb a b) && (beq k.fill l.fill && same_priority k l)
