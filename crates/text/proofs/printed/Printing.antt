-- What the text of a reply needs of the tables that a job was read into, and what it then is. Assumes nothing.
use Prim.Native.Nat.{ℕ, ◌+◌, ◌*◌, ◌<◌, ◌≤◌}
use native.Mathlib.Omega.{arith}
use mathlib.Core.Path.{◌≡◌, subst}
use mathlib.Core.List.{List}
use lib.ListN.{length, get_or}
use lib.Ieee.{Float}
use Rattle.bits.specs.declared.Refusal as Input
use Rattle.job.specs.declared.Header.{Header}
use Rattle.job.specs.Jobs.{Job, accepted, refused, read_job}
use Rattle.filling.specs.declared.Refusal.TheVariants as Why
use Rattle.filling.specs.Fill.{Planned}
use Rattle.filling.proofs.Sizes.{sized}
use Rattle.filling.proofs.Reading.{sixteen_get}
use Rattle.accounts.specs.tables.inner.Tabled.{Tabled}
use Rattle.accounts.proofs.tables.Tabling.{job_in, kinds_in, tabled}
use Rattle.nesting.specs.Text.{reply_text, refusal_text, printed_for}

module _ (h : Header) (s c : ℕ) (bytes rows : List ℕ) (areas : List Float) (places : List ℕ) (e : read_job bytes ≡ accepted (job_in h s c bytes rows areas places)) where
  abbrev J : Job
  J = job_in h s c bytes rows areas places

  pub kinds_few : h.kinds ≤ 64
  kinds_few = let a = kinds_in h s c bytes rows areas places in let b = (sized bytes J e).kinds in omega arith

  pub told : 256 ≤ length rows → 64 ≤ length areas → Tabled J rows areas × (length J.kinds ≡ h.kinds)
  told r a = (tabled h s c bytes rows areas places e r a, kinds_in h s c bytes rows areas places)

  pub turns_few : 256 ≤ length rows → 64 ≤ length areas → (k : ℕ) → k < h.kinds → get_or rows (4 * k + 3) 0 ≤ 16
  turns_few r a k l =
      let n = kinds_in h s c bytes rows areas places in
      subst (λ (m : ℕ). m ≤ 16) ((tabled h s c bytes rows areas places e r a).orientations k (omega arith)) (sixteen_get (sized bytes J e).turns k)

  pub of_plan : (p : Planned) → printed_for (read_job bytes) p ≡ reply_text J p p.verdict
  unfolding printed_for
  of_plan p = rw e

pub of_refusal : (bytes : List ℕ) (k : Input.Refusal) → read_job bytes ≡ refused k → (p : Planned) → printed_for (read_job bytes) p ≡ refusal_text (Why.Job k)
unfolding printed_for
of_refusal bytes k e p = rw e
