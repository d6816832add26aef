-- `swaps::search_plan::search_plan`: the two tables, the search, and its plan. Assumes nothing.
use Rattle.std.specs.Prelude.{Err}
use Rattle.std.proofs.Common.{rules}
use Prim.Native.Nat.{ℕ, ◌*◌, ◌≤◌}
use mathlib.Core.Path.{◌≡◌, refl, sym, ap, ◌∙◌}
use native.Mathlib.Omega.{arith}
use lib.ListN.{length}
use Rattle.strips.specs.declared.Rect.{Rect}
use Rattle.job.specs.declared.Header.{Header}
use Rattle.job.specs.Jobs.{frame_of}
use Rattle.nesting.specs.Rounds.{Swaps}
use Rattle.nesting.specs.Nest.{nested}
use Rattle.report.specs.inner.Replies.{reply_of}
use Rattle.report.proofs.Cutting.{parted, order-few, report_ready}
use Rattle.report.proofs.Reporting.{refused-reply}
use Rattle.swaps.proofs.search_plan.search_plan.Goals as goal

as_few : {m n : ℕ} → m ≡ n → n ≤ 4096 → m ≤ 4096
as_few e h = omega arith

as_many : {m n room : ℕ} → m ≡ n → 6 * n ≤ room → 6 * m ≤ room
as_many e h = omega arith

two_of : (w m n : ℕ) → m ≡ n → n ≡ 2 * w → 2 * w ≤ m
two_of w m n e f = omega arith

pub returns-in_err-best : goal.returns-in_err-best
unfolding nested
returns-in_err-best c = let a = c.args in
    let why = c.in_err-best.field-0.0 in
    let e : c.from_residual.result ≡ Err why = search rules in
    λ j l P r n es d e1 f k z.
    rw e (refused-reply l why a.positions.now z
    ∙ ap (λ (s : Swaps). reply_of (nested j l s)) (c.in_err-best.ensures.0 j P r l d e1 f k (ap (λ (x : Header). x.seed) es)))

pub report_kept-requires : goal.report_kept-requires
report_kept-requires c = let a = c.args in
    let p = c.requires in
    let s = c.search in
    let few = order-few p.0.0 _ p.0.1 a.order.now p.0.2 in
    let q = report_ready p.0.0 _ p.0.1 s.new.order (as_few s.auto.order few) a.h.kinds p.0.3 (c.in_ok-best.ensures.1 p.0.0 p.0.2)
    4096 4096 4096 4096 1024 (length a.positions.now) refl refl refl refl refl (as_many s.auto.order p.3) in (
      q.0,
      q.1,
      q.6,
      q.7,
      q.8,
      q.9,
      c.in_ok-best.ensures.2,
      two_of 6144 (length s.new.tracks) (length c.two_tracks-tracks.result) s.auto.tracks c.two_tracks-tracks.ensures,
      two_of 12288 (length s.new.spots) (length c.two_spots-spots.result) s.auto.spots c.two_spots-spots.ensures,
    )

pub returns : goal.returns
returns c = let a = c.args in
    λ j l P r n es d e f k z.
    c.report_kept.ensures j a.areas.now l P.tabled n (sym (ap (λ (b : Rect). b.right) P.bounds))
    (parted j _ P a.shapes.now (6 * a.tables.apart_strips) refl) z (sym (c.frame_of.ensures ∙ ap frame_of (sym es)))
    ∙ ap (λ (s : Swaps). reply_of (nested j l s)) (c.in_ok-best.ensures.0 j P r l d e f k (ap (λ (x : Header). x.seed) es))
