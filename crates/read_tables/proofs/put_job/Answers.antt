-- `read_tables::put_job` meets its contract. Assumes nothing.
use mathlib.Core.Path.{refl, ◌∙◌}
use native.Mathlib.Omega.{arith}
use Rattle.std.proofs.Common.{rules}
use Rattle.job.proofs.Whole.{read_as}
use Rattle.read_tables.proofs.Putting.{areas-stored}
use Rattle.read_tables.proofs.Finishing.{job_in, few-kinds, few-turns, finish_refused, tabled-same}
use Rattle.read_tables.proofs.put_job.Goals as goal

pub returns-in_err-h : goal.returns-in_err-h
returns-in_err-h c =
    search (
      rules,
      finish_refused c.in_err-h.field-0.0 _ c.args.rows.now c.args.areas.now c.args.counts.now c.args.coordinates.now
          (read_as c.args.bytes.now c.read-j.result c.read-j.ensures.0 c.in_err-h.was),
    )

pub put_rows-requires : goal.put_rows-requires
put_rows-requires c = (
  few-kinds _ _ _ _ _ _ _ (read_as c.args.bytes.now c.read-j.result c.read-j.ensures.0 c.in_ok-h.was),
  omega (arith, c.read-j.ensures.1),
)

pub put_doubles-requires : goal.put_doubles-requires
put_doubles-requires c =
    let l = few-kinds _ _ _ _ _ _ _ (read_as c.args.bytes.now c.read-j.result c.read-j.ensures.0 c.in_ok-h.was) in
    (omega (arith, l, c.read-j.ensures.2), omega (arith, l), omega arith)

pub put_sets-w-requires : goal.put_sets-w-requires
put_sets-w-requires c =
    let e = read_as c.args.bytes.now c.read-j.result c.read-j.ensures.0 c.in_ok-h.was in
    (few-kinds _ _ _ _ _ _ _ e, few-turns _ _ _ _ _ _ _ e, omega (arith, c.read-j.ensures.1), omega (arith, c.read-j.ensures.3))

pub finish-requires : goal.finish-requires
finish-requires c = few-kinds _ _ _ _ _ _ _ (read_as c.args.bytes.now c.read-j.result c.read-j.ensures.0 c.in_ok-h.was)

pub returns : goal.returns
returns c =
    let j = c.read-j.result in
    let e = read_as c.args.bytes.now j c.read-j.ensures.0 c.in_ok-h.was in
    let l = few-kinds _ _ _ _ _ _ _ e in
    let job = job_in c.args.bytes.now c.in_ok-h.h c.in_ok-h.sheet c.in_ok-h.field-0-2 j.rows j.areas j.places in
    let S = c.put_sets-w.ensures j.areas job refl refl in
    c.finish.ensures job refl
    (record {
      rows₀ = _;
      areas₀ = _;
      counts₀ = _;
      coordinates₀ = _;
      rows = c.put_rows.ensures c.args.bytes.now j.areas j.places;
      areas = areas-stored c.args.bytes.now j.rows j.areas j.places _ _ _ _ (omega (arith, l, c.read-j.ensures.2)) c.put_doubles.ensures.0;
      counts = S.0;
      coordinates = S.1;
    })
    ∙ tabled-same _ _ _ _ _ _ _ _ _ _ e c.put_rows.auto.out c.put_doubles.auto.out c.put_sets-w.auto.counts c.put_sets-w.auto.coordinates
