-- `take_copy::turn::place_kept` meets its contract. Assumes nothing.
use native.Mathlib.Omega.{arith}
use mathlib.Core.Path.{sym, ◌∙◌}
use lib.ListN.{length-replicate}
use Prim.Native.Nat.{ℕ}
use Rattle.take_copy.proofs.turn.KeptTurn.{kept_tracks_lem}
use Rattle.take_copy.proofs.turn.place_kept.Goals as goal

pub slice_bounds-keep-end : goal.slice_bounds-keep-end
slice_bounds-keep-end c = sym (length-replicate {A = ℕ} 32 0)

pub keep-requires : goal.keep-requires
keep-requires c = let p = c.requires in (p.1, p.3, length-replicate {A = ℕ} 32 0)

pub place_copy-step-requires : goal.place_copy-step-requires
place_copy-step-requires c = let p = c.requires in
    let a = p.1 in
    let b = p.2 in (p.0, omega (arith, a, b), p.3, p.4, p.5, p.6, p.7, p.8, p.9)

pub slice_bounds-back_if_refused-end : goal.slice_bounds-back_if_refused-end
slice_bounds-back_if_refused-end c = sym (c.keep.auto.kept ∙ length-replicate {A = ℕ} 32 0)

pub back_if_refused-requires : goal.back_if_refused-requires
back_if_refused-requires c = let p = c.requires in
    (p.1, omega (arith, p.3, c.place_copy-step.auto.tracks), c.keep.auto.kept ∙ length-replicate {A = ℕ} 32 0)

pub returns : goal.returns
returns c = let p = c.requires in
    let s = c.place_copy-step in
    let b = c.back_if_refused in
    let v = c.verdict_of in
    let h = kept_tracks_lem _ _ _ _ _ _ _ _ _ _ _ _ _ _ _ _ _ _ p.2 c.keep.ensures s.ensures.0 _ (λ h. b.ensures.0 (v.ensures ∙ h))
    (λ k h. b.ensures.1 k (v.ensures ∙ h)) in ((_, s.ensures.0, h.0, h.1), s.ensures.1, s.ensures.2, s.ensures.3)
