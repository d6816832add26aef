-- `swaps_test::search`: the copies are laid in their order, then searched. Assumes nothing.
use Prim.Native.Nat.{ℕ, ◌*◌, ◌≤◌}
use native.Mathlib.Omega.{arith}
use mathlib.Core.Path.{◌≡◌, sym, subst, ◌∙◌}
use lib.ListN.{length}
use lib.Seq.{length_front}
use Rattle.nesting.specs.CopyOrder.{copy_order}
use Rattle.swaps.proofs.search_plan.Ordered.{copies_upto, few-rounds, copies_arranged, order-within, order-count, order_arranged}
use Rattle.swaps_test.proofs.search.Goals as goal

two_of : (w n : ℕ) → n ≡ 2 * w → 2 * w ≤ n
two_of w n e = omega arith

pub copy_order-n-requires : goal.copy_order-n-requires
copy_order-n-requires c = let p = c.requires.0 in
    let t = p.1.tabled in
    (subst (λ (m : ℕ). m ≤ 64) p.3 t.few, t.rows_long, t.areas_long, copies_upto _ p.0 p.1.read _ _ _ t p.3)

pub slice_bounds-order-end : goal.slice_bounds-order-end
slice_bounds-order-end c = let p = c.requires.0 in
    order-within (copy_order p.0) c.copy_order-n.result _ _ (c.copy_order-n.ensures p.0 p.1.tabled p.3)

pub slice_bounds-search-end : goal.slice_bounds-search-end
slice_bounds-search-end c = let p = c.requires.0 in
    order-count (copy_order p.0) c.copy_order-n.result _ _ (c.copy_order-n.ensures p.0 p.1.tabled p.3)

pub slice_bounds-search-end-5 : goal.slice_bounds-search-end-5
slice_bounds-search-end-5 c = sym c.two_tracks-tracks.ensures

pub slice_bounds-search-end-6 : goal.slice_bounds-search-end-6
slice_bounds-search-end-6 c = sym c.two_spots-spots.ensures

pub search-r-requires : goal.search-r-requires
search-r-requires c = let p = c.requires in
    let j = p.0.0 in
    let D = c.copy_order-n.ensures j p.0.1.tabled p.0.3 in (
      (j, p.0.1, order_arranged (copy_order j) c.copy_order-n.result _ _ D j (copies_arranged _ j p.0.1.read)),
      p.1,
      p.2,
      two_of 6144 (length c.two_tracks-tracks.result) c.two_tracks-tracks.ensures,
      two_of 12288 (length c.two_spots-spots.result) c.two_spots-spots.ensures,
      few-rounds _ j p.0.1.read c.args.h p.0.2,
      p.3,
    )

pub slice_bounds-print_kept-end : goal.slice_bounds-print_kept-end
slice_bounds-print_kept-end c = sym (length_front _ c.search-r.new.order c.copy_order-n.result c.search-r.auto.order ∙ c.copy_order-n.auto.order)
