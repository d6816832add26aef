-- `job::read_front` meets its contract. Assumes nothing.
use native.Mathlib.Omega.{arith}
use lib.Ieee.{of_int, of_bits, div}
use Rattle.std.proofs.Common.{rules}
use Rattle.job.proofs.Headers.{front-1, front-2, front-3, front-4, front_in}
use Rattle.job.proofs.read_front.Goals as goal

pub returns-in_err-kinds : goal.returns-in_err-kinds
returns-in_err-kinds c = search (rules, front-1 c.args.bytes.now c.args.at c.args.version (record { corner = c.args.corner; axis = c.args.axis }) c.in_err-kinds.ensures.0)

pub returns-in_err-rounds : goal.returns-in_err-rounds
returns-in_err-rounds c =
    search (
      rules,
      front-2 c.args.bytes.now c.args.at c.args.version (record { corner = c.args.corner; axis = c.args.axis }) c.in_ok-kinds.ensures.0
          c.in_err-rounds.ensures,
    )

pub returns-in_err-seed : goal.returns-in_err-seed
returns-in_err-seed c =
    search (
      rules,
      front-3 c.args.bytes.now c.args.at c.args.version (record { corner = c.args.corner; axis = c.args.axis }) c.in_ok-kinds.ensures.0
          c.in_ok-rounds.ensures c.in_err-seed.ensures,
    )

pub returns-in_err-resolution : goal.returns-in_err-resolution
unfolding of_int of_bits div
returns-in_err-resolution c =
    search (
      rules,
      front-4 c.args.bytes.now c.args.at c.args.version (record { corner = c.args.corner; axis = c.args.axis }) c.in_ok-kinds.ensures.0
          c.in_ok-rounds.ensures c.in_ok-seed.ensures c.in_err-resolution.ensures,
    )

pub returns : goal.returns
unfolding of_int of_bits div
returns c = (
  front_in c.args.bytes.now c.args.at c.args.version (record { corner = c.args.corner; axis = c.args.axis }) c.in_ok-kinds.ensures.0 c.in_ok-rounds.ensures
      c.in_ok-seed.ensures c.in_ok-resolution.ensures,
  (c.in_ok-kinds.ensures.1, omega arith),
)
