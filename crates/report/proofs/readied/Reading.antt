-- From the bytes to their job. Assumes nothing.
use Rattle.std.specs.Prelude.{Result, Ok, Err}
use Rattle.bits.specs.declared.Refusal.{Refusal}
use Prim.Native.Nat.{ℕ, ◌≤◌}
use mathlib.Core.Path.{◌≡◌, refl, sym, ap, ◌∙◌}
use mathlib.Core.List.{List}
use lib.ListN.{length}
use lib.Ieee.{Float}
use Rattle.numbers.specs.Numbers.{pos_zero}
use Rattle.bits.specs.declared.Refusal as Input
use Rattle.job.specs.declared.Header.{Header}
use Rattle.job.specs.Jobs.{Job, Answer, accepted, refused, read_job}
use Rattle.job.specs.inner.Meaning.{job_read}
use Rattle.filling.specs.declared.Refusal.TheVariants as Why
use Rattle.filling.specs.Rooms.{Lent, zeros}
use Rattle.filling.specs.Fill.{Planned, not_planned}
use Rattle.accounts.proofs.tables.Tabling.{job_in, kinds_in, tabled}
use Rattle.prepare.proofs.Tabled.{from-tables}
use Rattle.filling.specs.declared.Plan.{Plan}
use Rattle.filling.specs.declared.Refusal as Answer₀
use Rattle.report.specs.inner.Replies.{reply, reply_of}
use Rattle.report.proofs.Reporting.{refused-reply}
use Rattle.report.specs.readied.inner.Zeroed.{ReadInto}

module _ (bytes rows : List ℕ) (areas : List Float) (places : List ℕ) (a : Result (Header × ℕ × ℕ) Refusal) (e : read_job bytes ≡ job_read a bytes rows areas places) where
  module _ (h : Header) (s c : ℕ) (d : a ≡ Ok (h, s, c)) (lr : 256 ≤ length rows) (la : 64 ≤ length areas) where
    abbrev pub J : Job
    J = job_in h s c bytes rows areas places

    read_is : read_job bytes ≡ accepted J
    read_is = e ∙ ap (λ (z : Result (Header × ℕ × ℕ) Refusal). job_read z bytes rows areas places) d

    pub read_into_lem : ReadInto J bytes s h rows areas places
    read_into_lem =
        record {
          read = read_is;
          from = from-tables bytes rows places areas h s c J refl;
          tabled = tabled h s c bytes rows areas places read_is lr la;
          number = kinds_in h s c bytes rows areas places;
          header_is = refl;
        }

    -- the reply of the job is that of the bytes
    pub job-reply : (f : Answer → Planned) (r : Result Plan Answer₀.Refusal) (room : List Float) → reply r room ≡ reply_of (f (accepted J)) → reply r room ≡ reply_of (f (read_job bytes))
    job-reply f r room g = g ∙ ap (λ (z : Answer). reply_of (f z)) (sym read_is)

  -- the number of bytes that are no job
  pub no_job-reply : (k : Input.Refusal) → a ≡ Err k → (f : Answer → Planned) (l : Lent) → f (refused k) ≡ not_planned (Why.Job k) l → (room : List Float) → room ≡ zeros pos_zero l.positions → reply (Err (Why.Job k)) room ≡ reply_of (f (read_job bytes))
  no_job-reply k d f l g room z = refused-reply l (Why.Job k) room z ∙ (ap reply_of (sym g) ∙ ap (λ (u : Answer). reply_of (f u)) (sym (e ∙ ap (λ (q : Result (Header × ℕ × ℕ) Refusal). job_read q bytes rows areas places) d)))
