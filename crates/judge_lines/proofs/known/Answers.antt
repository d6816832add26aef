-- `known`: 9, then 25. Assumes nothing.
use native.Mathlib.Omega.{arith}
use Prim.Native.Nat.{◌≤◌}
use mathlib.Core.Path.{sym, subst, ◌∙◌}
use Rattle.leaf.proofs.Handed.{has_kind}
use Rattle.judge_lines.proofs.Verdicts.{known_not, known_full, known_more}
use Rattle.judge_lines.proofs.known.Goals as goal

pub lacks-requires : goal.lacks-requires
lacks-requires c = let p = c.requires in
    let t = p.0.2 in
    (subst (λ n. n ≤ 64) p.0.3 t.few, t.rows_long)

pub returns-then-lacks : goal.returns-then-lacks
returns-then-lacks c = let a = c.args in
    λ j areas t e. known_not j _ a.kind a.orientation (sym (c.lacks.ensures j areas t e) ∙ c.if-lacks.true)

pub overflow_mul-quantity : goal.overflow_mul-quantity
overflow_mul-quantity c = let p = c.requires in
    let b = has_kind p.0.0 c.args.kind c.args.orientation (sym (c.lacks.ensures p.0.0 p.0.1 p.0.2 p.0.3) ∙
    c.if-lacks.false) in
    let f = p.0.2.few in
    record { fits = omega (arith, b, f) }

pub offset_bounds-rows-kind : goal.offset_bounds-rows-kind
offset_bounds-rows-kind c = let p = c.requires in
    let b = has_kind p.0.0 c.args.kind c.args.orientation (sym (c.lacks.ensures p.0.0 p.0.1 p.0.2 p.0.3) ∙
    c.if-lacks.false) in
    let f = p.0.2.few in
    record { fits = omega (arith, b, f) }

pub bounds-rows-kind : goal.bounds-rows-kind
bounds-rows-kind c = let p = c.requires in
    let b = has_kind p.0.0 c.args.kind c.args.orientation (sym (c.lacks.ensures p.0.0 p.0.1 p.0.2 p.0.3) ∙
    c.if-lacks.false) in
    let f = p.0.2.few in
    let r = p.0.2.rows_long in
    omega (arith, b, f, r)

pub offset_bounds-counts-kind : goal.offset_bounds-counts-kind
offset_bounds-counts-kind c = let p = c.requires in
    let b = has_kind p.0.0 c.args.kind c.args.orientation (sym (c.lacks.ensures p.0.0 p.0.1 p.0.2 p.0.3) ∙
    c.if-lacks.false) in
    let f = p.0.2.few in
    record { fits = omega (arith, b, f) }

pub bounds-counts-kind : goal.bounds-counts-kind
bounds-counts-kind c = let p = c.requires in
    let b = has_kind p.0.0 c.args.kind c.args.orientation (sym (c.lacks.ensures p.0.0 p.0.1 p.0.2 p.0.3)
    ∙ c.if-lacks.false) in
    let f = p.0.2.few in
    let r = p.1 in
    omega (arith, b, f, r)

pub returns-then-quantity-counts : goal.returns-then-quantity-counts
returns-then-quantity-counts c = let a = c.args in
    λ j areas t e. known_full j _ a.kind a.orientation a.rows.now areas t
    (sym (c.lacks.ensures j areas t e) ∙ c.if-lacks.false) c.if-quantity-counts.true

pub returns : goal.returns
returns c = let a = c.args in
    λ j areas t e. known_more j _ a.kind a.orientation a.rows.now areas t
    (sym (c.lacks.ensures j areas t e) ∙ c.if-lacks.false) c.if-quantity-counts.false
