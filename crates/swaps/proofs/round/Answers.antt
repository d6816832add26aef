-- `swaps::round` meets its contract. Assumes nothing.
use Rattle.std.specs.Prelude.{None, Err}
use Rattle.std.proofs.Common.{rules}
use native.Mathlib.Omega.{arith}
use native.Mathlib.Nat.{lt_of_lt_of_le}
use mathlib.Core.Path.{◌≡◌, ap, sym, ◌∙◌}
use Prim.Native.Nat.{ℕ, ◌-◌, ◌≤◌}
use Rattle.job.specs.Jobs.{Job}
use Rattle.filling.specs.Rooms.{Lent}
use Rattle.filling.specs.Shapes.{planner_of}
use Rattle.filling_laws.proofs.fill_laws.Between.{kind-below}
use Rattle.better.proofs.round_laws.Halves.{other_half}
use Rattle.better.proofs.round_laws.Turning.{drew_arranged, drew_places, drew_left, round_rests, round_swaps}
use Rattle.filling.specs.Fill.{stopped}
use Rattle.nesting.specs.Rounds.{ended}
use Rattle.rooms.specs.tracks.inner.Tracks.{track_numbers, spot_numbers}
use Rattle.better.specs.inner.Keeping.{half}
use Rattle.swaps.proofs.Going.{judged-ended}
use Rattle.swaps.proofs.round.Goals as goal

pub draw_swap-drawn-requires : goal.draw_swap-drawn-requires
draw_swap-drawn-requires c = let p = c.requires.0 in
    (c.requires.6, p.1.tabled.rows_long, λ (q : ℕ) h. lt_of_lt_of_le (kind-below p.0 _ p.1 c.args.order.now p.2 q h) p.1.tabled.few)

pub fill_half-requires : goal.fill_half-requires
fill_half-requires c = let a = c.args in
    let p = c.requires in
    let d = c.draw_swap-drawn in
    let r = drew_arranged a.b.random a.rows.now a.order.now d.result d.new.random d.new.order d.ensures p.0.0 p.0.2 in
    ((p.0.0, p.0.1, r), p.1, p.2, p.3, other_half a.b.kept, p.7)

pub judge-requires : goal.judge-requires
judge-requires c = let a = c.args in
    let d = c.draw_swap-drawn in
    let q = drew_places a.b.random a.rows.now a.order.now d.result d.new.random d.new.order d.ensures c.in-Some.i c.in-Some.k c.in-Some.is in
    (c.requires.4, c.requires.5, q.0, q.1)

-- the kept half is not the filled one
kept-stays : {A : Type 0} (k : ℕ) → k ≤ 1 → (f g : ℕ → A) → f (1 - (1 - k)) ≡ g (1 - (1 - k)) → f k ≡ g k
kept-stays k h f g e = let z : k ≡ 1 - (1 - k) = omega arith in ap f z ∙ (e ∙ sym (ap g z))

pub returns-in_default : goal.returns-in_default
returns-in_default c = let a = c.args in
    let d = c.draw_swap-drawn in
    let e : d.result ≡ None = search rules in (
      λ (j : Job) P r (l : Lent) e1 e2 e3 e4.
          round_rests j l a.areas.now a.b a.rows.now a.order.now d.result d.new.random d.new.order d.ensures P.tabled
          (kind-below j _ P a.order.now r) a.tracks.now a.spots.now e,
      drew_arranged a.b.random a.rows.now a.order.now d.result d.new.random d.new.order d.ensures,
      (omega arith, c.requires.5),
    )

pub returns-in_err-t : goal.returns-in_err-t
returns-in_err-t c = let a = c.args in
    let d = c.draw_swap-drawn in
    let f = c.fill_half in
    let k = c.requires.5 in
    let why = c.in_err-t.field-0.0 in
    let e : c.from_residual.result ≡ Err why = search rules in
    rw e (
      λ (j : Job) P r (l : Lent) e1 e2 e3 e4.
          let arranged = drew_arranged a.b.random a.rows.now a.order.now d.result d.new.random d.new.order d.ensures j r in
          round_swaps j l a.areas.now a.b a.rows.now a.order.now d.result d.new.random d.new.order d.ensures P.tabled
          (kind-below j _ P a.order.now r) a.tracks.now a.spots.now c.in-Some.i c.in-Some.k c.in-Some.is (stopped why) (ended why) f.new.tracks f.new.spots
          (kept-stays a.b.kept k (λ h. half track_numbers h f.new.tracks) (λ h. half track_numbers h a.tracks.now) c.in_err-t.ensures.1)
          (kept-stays a.b.kept k (λ h. half spot_numbers h f.new.spots) (λ h. half spot_numbers h a.spots.now) c.in_err-t.ensures.2)
          (c.in_err-t.ensures.0 j P arranged l e1 e2 e3 e4) (judged-ended d.new.random d.new.order _ why),
      drew_arranged a.b.random a.rows.now a.order.now d.result d.new.random d.new.order d.ensures,
      tt,
    )

pub returns : goal.returns
returns c = let a = c.args in
    let d = c.draw_swap-drawn in
    let f = c.fill_half in
    let k = c.requires.5 in
    let q = c.judge in (
      λ (j : Job) P r (l : Lent) e1 e2 e3 e4.
          let arranged = drew_arranged a.b.random a.rows.now a.order.now d.result d.new.random d.new.order d.ensures j r in
          round_swaps j l a.areas.now a.b a.rows.now a.order.now d.result d.new.random d.new.order d.ensures P.tabled
          (kind-below j _ P a.order.now r) a.tracks.now a.spots.now c.in-Some.i c.in-Some.k c.in-Some.is _ _ f.new.tracks f.new.spots
          (kept-stays a.b.kept k (λ h. half track_numbers h f.new.tracks) (λ h. half track_numbers h a.tracks.now) c.in_ok-t.ensures.1)
          (kept-stays a.b.kept k (λ h. half spot_numbers h f.new.spots) (λ h. half spot_numbers h a.spots.now) c.in_ok-t.ensures.2)
          (c.in_ok-t.ensures.0 j P arranged l e1 e2 e3 e4) (q.ensures.0 (planner_of j) f.new.tracks f.new.spots),
      drew_left a.b.random a.rows.now a.order.now d.result d.new.random d.new.order d.ensures c.in-Some.i c.in-Some.k c.in-Some.is _ q.ensures.1,
      (q.ensures.2, q.ensures.3),
    )
