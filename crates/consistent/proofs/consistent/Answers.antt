-- `consistent::consistent` meets its contract. Assumes nothing.
use native.Mathlib.Nat.{le_trans}
use mathlib.Core.Path.{sym, ◌∙◌}
use lib.Seq.{length-take-le}
use Rattle.filling.specs.Rooms.{rooms_of}
use Rattle.consistent.specs.inner.Tests.{state_of}
use Rattle.consistent.proofs.SameTests.{consistent_is}
use Rattle.consistent.proofs.strip_tests.Bounding.{never}
use Rattle.consistent.proofs.Cases.{both_yes, both_no}
use Rattle.consistent.proofs.consistent.Goals.{then-state_fits, else-state_fits, then-rearranged, else-rearranged}
use Rattle.consistent.proofs.consistent.Goals as goal

pub slice_bounds-rearranged-end : goal.slice_bounds-rearranged-end
slice_bounds-rearranged-end c = let a = c.args in let p = c.requires in sym (length-take-le a.copies a.order.now (le_trans p.3 p.4))

pub gaps_fit-requires : goal.gaps_fit-requires
gaps_fit-requires c =
    let p = c.requires in
    elim c.if-state_fits.branch [
      | then-state_fits w ↦
          let few = le_trans (c.state_fits.ensures.1 w.if-state_fits.true).0 p.3 in
          (le_trans few p.11, le_trans few p.12)
      | else-state_fits w ↦ absurd (cc)
    ]

pub rooms_agree-requires : goal.rooms_agree-requires
rooms_agree-requires c =
    let p = c.requires in
    elim c.if-rearranged.branch [
      | then-rearranged v ↦ elim c.if-state_fits.branch [
        | then-state_fits w ↦
            let s = c.state_fits.ensures.1 w.if-state_fits.true in
            let few = le_trans s.0 p.3 in (
              record {
                bounded = s.1;
                resolving = s.2;
                few = few;
                bounds_long = p.5;
                parts_long = p.6;
                next_long = p.7;
                looks_long = p.8;
              },
              p.0,
              p.1,
              p.2,
              p.9,
              p.10,
              le_trans few p.4,
              le_trans few p.11,
              le_trans few p.13,
              le_trans few p.14,
            )
        | else-state_fits w ↦ absurd (cc)
      ]
      | else-rearranged v ↦ absurd (cc)
    ]

pub returns-then-gaps_fit : goal.returns-then-gaps_fit
returns-then-gaps_fit c =
    let a = c.args in
    let r = c.rooms_agree.ensures in (
      λ j areas t k n. elim c.if-rearranged.branch [
        | then-rearranged v ↦ elim c.if-state_fits.branch [
          | then-state_fits w ↦
              r.0 ∙ (both_yes _ _ (sym v.gaps_fit.ensures ∙ (sym v.value-is ∙ c.if-gaps_fit.true)) ∙
              (both_yes _ _ (sym (w.rearranged.ensures j areas t k n) ∙ (sym w.value-is ∙ v.if-rearranged.true)) ∙
              (both_yes _ _ (sym c.state_fits.ensures.0 ∙ w.if-state_fits.true) ∙
              consistent_is j (state_of a.taken a.placed_strips a.right a.unplaced_area a.resolution a.bounds
              a.sheet_strips a.apart_strips a.inset_bounds.now a.parts.now a.order.now a.next_column.now a.look_counts.now
              a.orientation.now a.x.now a.y.now a.gap.now)
              (rooms_of a.shapes.now a.sheet.now a.placed.now a.sheet_entries.now a.placed_entries.now a.sheet_firsts.now
              a.placed_firsts.now) a.rows.now areas a.kinds a.copies t k n)))
          | else-state_fits w ↦ absurd (cc)
        ]
        | else-rearranged v ↦ absurd (cc)
      ],
      r.1,
    )

pub returns-else-gaps_fit : goal.returns-else-gaps_fit
returns-else-gaps_fit c =
    let a = c.args in
    let f = c.if-gaps_fit.false in (
      λ j areas t k n. f ∙ sym (sym (consistent_is j (state_of a.taken a.placed_strips a.right a.unplaced_area a.resolution a.bounds
          a.sheet_strips a.apart_strips a.inset_bounds.now a.parts.now a.order.now a.next_column.now a.look_counts.now
          a.orientation.now a.x.now a.y.now a.gap.now)
          (rooms_of a.shapes.now a.sheet.now a.placed.now a.sheet_entries.now a.placed_entries.now a.sheet_firsts.now
          a.placed_firsts.now) a.rows.now areas a.kinds a.copies t k n)
          ∙ elim c.if-state_fits.branch [
            | then-state_fits w ↦
                let s = sym c.state_fits.ensures.0 ∙ w.if-state_fits.true in
                let q = sym (w.rearranged.ensures j areas t k n) ∙ sym w.value-is in
                sym (both_yes _ _ s) ∙ elim c.if-rearranged.branch [
                  | then-rearranged v ↦ sym (both_yes _ _ (q ∙ v.if-rearranged.true)) ∙ both_no _ _ (sym v.gaps_fit.ensures ∙ (sym v.value-is ∙ f))
                  | else-rearranged v ↦ both_no _ _ (q ∙ v.if-rearranged.false)
                ]
            | else-state_fits w ↦ both_no _ _ (sym c.state_fits.ensures.0 ∙ w.if-state_fits.false)
          ]),
      λ e. never (sym f ∙ e),
    )
