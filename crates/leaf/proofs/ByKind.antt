-- What an orientation that the job has, and one that it lacks, answer. Assumes nothing.
use Rattle.std.specs.Prelude.{Result, Ok, Err}
use Rattle.std.specs.Result.{is_err}
use Prim.Native.Nat.{ℕ, ◌+◌, ◌*◌, ◌≤◌, ◌<◌}
use mathlib.Core.Path.{◌≡◌, refl, sym, ◌∙◌}
use mathlib.Core.Logic.{inl, inr}
use mathlib.Core.Bool.{Bool, true, false, not, cond}
use mathlib.Core.List.{List, []}
use native.Mathlib.Omega.{arith}
use lib.ListN.{length, get_or}
use lib.Dec.{leb, ltb}
use lib.Ieee.{Float}
use borrow.Author.Tests.{lt-ltb, le-ltb, lt-leb, le-leb}
use Rattle.numbers.proofs.Truth.{clash, below_or_not}
use Rattle.trapezoid.specs.Strip.{part_of}
use Rattle.bits.specs.declared.Refusal as Input
use Rattle.job.specs.declared.Header.{Header}
use Rattle.job.specs.Jobs.{Job, accepted, refused, read_job}
use Rattle.job.specs.inner.Meaning.{job_read}
use Rattle.job.proofs.Accepted.{job_good}
use Rattle.filling.specs.declared.Refusal.{Refusal}
use Rattle.filling.specs.declared.Refusal.TheVariants as Why
use Rattle.filling.specs.Refusals.{is_refused, refuse_if}
use Rattle.filling.specs.State.{orientation_counts, part_at}
use Rattle.filling.specs.Leaf.{lacks, shape_given, shape_verdict, part_in, strips_by_kind}
use Rattle.accounts.specs.tables.inner.Tabled.{Tabled}
use Rattle.accounts.proofs.tables.Tabling.{job_in, kinds_in, tabled}

-- where number r of the slot of kind k and orientation o stands
abbrev pub place : ℕ → ℕ → ℕ → ℕ
place k o r = 4 * (16 * k + o) + r

-- ---- 9, by the tables of a job with n kinds
module _ (j : Job) (rows : List ℕ) (areas : List Float) (t : Tabled j rows areas) (n k o : ℕ) (e : length j.kinds ≡ n) where
  pub no_kind : n ≤ k → true ≡ lacks j k o
  unfolding lacks
  no_kind h = rw (e, le-ltb k n h)

  counted : k < n → get_or (orientation_counts j) k 0 ≡ get_or rows (4 * k + 3) 0
  counted h = t.orientations k (omega arith)

  pub by_rows : k < n → leb (get_or rows (4 * k + 3) 0) o ≡ lacks j k o
  unfolding lacks
  by_rows h = rw (e, lt-ltb k n h, counted h) (turned (get_or rows (4 * k + 3) 0))
    where
      turned : (m : ℕ) → leb m o ≡ not (ltb o m)
      turned m = elim (below_or_not o m) [ inl l ↦ rw (lt-leb m o l, lt-ltb o m l) | inr l ↦ rw (le-leb m o l, le-ltb o m l) ]

module _ (bytes : List ℕ) (k o : ℕ) where
  -- ---- the verdict
  pub no_job : (r : Input.Refusal) → read_job bytes ≡ refused r → Err (Why.Job r) ≡ shape_verdict bytes k o
  unfolding shape_verdict shape_given
  no_job r e = rw e

  verdict_lacking : (j : Job) → read_job bytes ≡ accepted j → lacks j k o ≡ true → Err Why.MissingShape ≡ shape_verdict bytes k o
  unfolding shape_verdict shape_given refuse_if
  verdict_lacking j e l = rw (e, l)

  pub verdict_had : (j : Job) → read_job bytes ≡ accepted j → lacks j k o ≡ false → (Ok tt) ≡ shape_verdict bytes k o
  unfolding shape_verdict shape_given refuse_if
  verdict_had j e l = rw (e, l)

  -- ---- the part
  module _ (parts : List ℕ) (apart inset : List Float) where
    pub strips-refused : (flag : Bool) (v : Result (Unit {0}) Refusal) → v ≡ shape_verdict bytes k o → is_err v ≡ true
        → [] ≡ strips_by_kind bytes parts apart inset k o flag
    unfolding strips_by_kind is_refused
    strips-refused flag (Err r) e b = rw (← e)
    strips-refused flag (Ok u) e b = absurd (clash b refl)

    -- the two numbers of the part that the flag asks for
    pub strips-given : (flag : Bool) (field from count : ℕ) (v : Result (Unit {0}) Refusal) → v ≡ shape_verdict bytes k o → is_err v ≡ false
        → field ≡ cond flag 2 0 → from ≡ get_or parts (place k o field) 0 → count ≡ get_or parts (place k o (field + 1)) 0
        → part_of (cond flag inset apart) from count ≡ strips_by_kind bytes parts apart inset k o flag
    unfolding strips_by_kind is_refused part_in part_at
    strips-given flag field from count (Err r) e b q f g = absurd (clash refl b)
    strips-given true field from count (Ok u) e b q f g = rw (← e, f, g, q)
    strips-given false field from count (Ok u) e b q f g = let z : 4 * (16 * k + o) + 0 ≡ 4 * (16 * k + o) = omega arith in rw (← e, f, g, q, z)

-- ---- the verdict, from what was read
module _ (bytes rows : List ℕ) (areas : List Float) (places : List ℕ) (h : Header) (at c : ℕ)
    (e : read_job bytes ≡ job_read (Ok (h, at, c)) bytes rows areas places) where
  abbrev J : Job
  J = job_in h at c bytes rows areas places

  pub few-kinds : h.kinds ≤ 64
  few-kinds = (job_good bytes J e).good.header.kinds_most

  module _ (lr : 256 ≤ length rows) (la : 64 ≤ length areas) (k o : ℕ) (r : Bool)
      (R : (j : Job) (areas : List Float) → Tabled j rows areas → length j.kinds ≡ h.kinds → r ≡ lacks j k o) where
    lacking : r ≡ lacks J k o
    lacking = R J areas (tabled h at c bytes rows areas places e lr la) (kinds_in h at c bytes rows areas places)

    pub lacked : r ≡ true → Err Why.MissingShape ≡ shape_verdict bytes k o
    lacked t = verdict_lacking bytes k o J e (sym lacking ∙ t)

    pub had : r ≡ false → (Ok tt) ≡ shape_verdict bytes k o
    had t = verdict_had bytes k o J e (sym lacking ∙ t)
