-- The tables of an accepted job say what the job says. Assumes nothing.
use Rattle.std.proofs.Common.{◌≡◌, ℕ, ◌+◌, ◌*◌, ◌<◌, ◌≤◌, false, eqb, List, map, length, get_or, pos, refl, ap, ◌∙◌, arith}
use lib.Ieee.{Float, nan}
use Rattle.numbers.specs.Numbers.{pos_zero}
use Rattle.job.specs.declared.Header.{Header}
use Rattle.kinds.specs.Kinds.{Kind, kind_of, signed, head_at}
use Rattle.kinds.specs.inner.Tables.{tabulate, kind_at, kind_with, orientations_of}
use Rattle.kinds.proofs.Tables.{length-tabulate, tabulate_at}
use Rattle.job.specs.Jobs.{Job, accepted, read_job}
use Rattle.filling.specs.State.{orientation_counts}
use Rattle.filling.proofs.Sizes.{sized}
use Rattle.index.proofs.Flat.{map_at}
use Rattle.accounts.specs.tables.inner.Tabled.{Tabled}
use Rattle.kinds.specs.sets.inner.Answers.{set_at}

-- the job that the tables hold
abbrev pub job_in : Header → ℕ → ℕ → List ℕ → List ℕ → List Float → List ℕ → Job
job_in h s c bytes rows areas places = record { header = h; sheet = set_at bytes s; kinds = tabulate (kind_at bytes rows areas places) h.kinds; copies = c }

module _ (h : Header) (s c : ℕ) (bytes rows : List ℕ) (areas : List Float) (places : List ℕ) where
  abbrev j : Job
  j = job_in h s c bytes rows areas places

  -- the number of kinds
  pub kinds_in : length j.kinds ≡ h.kinds
  kinds_in = length-tabulate (kind_at bytes rows areas places) h.kinds

  -- what f says of kind k
  kind_in : {B : Type 0} (f : Kind → B) (e : B) (k : ℕ) → k < length j.kinds → get_or (map f j.kinds) k e ≡ f (kind_at bytes rows areas places k)
  kind_in f e k l =
      map_at f j.kinds k e (kind_at bytes rows areas places k) l
      ∙ ap f (tabulate_at (kind_at bytes rows areas places) h.kinds k (kind_at bytes rows areas places k) (let q : length j.kinds ≡ h.kinds = kinds_in in omega arith))

  quantity_in : (k : ℕ) → (kind_at bytes rows areas places k).quantity ≡ get_or rows (4 * k) 0
  unfolding kind_at kind_with kind_of head_at
  quantity_in k = refl

  fill_in : (k : ℕ) → (kind_at bytes rows areas places k).fill ≡ eqb (get_or rows (4 * k + 1) 0) 1
  unfolding kind_at kind_with kind_of head_at
  fill_in k = refl

  priority_in : (k : ℕ) → (kind_at bytes rows areas places k).priority ≡ signed (get_or rows (4 * k + 2) 0)
  unfolding kind_at kind_with kind_of head_at
  priority_in k = refl

  area_in : (k : ℕ) → (kind_at bytes rows areas places k).area ≡ get_or areas k nan
  unfolding kind_at kind_with kind_of head_at
  area_in k = refl

  orientations_in : (k : ℕ) → length (kind_at bytes rows areas places k).orientations ≡ get_or rows (4 * k + 3) 0
  unfolding kind_at kind_with kind_of head_at orientations_of
  orientations_in k = length-tabulate _ (get_or rows (4 * k + 3) 0)

  turns_in : (k : ℕ) → k < length j.kinds → get_or (orientation_counts j) k 0 ≡ get_or rows (4 * k + 3) 0
  unfolding orientation_counts
  turns_in k l = kind_in (λ a. length a.orientations) 0 k l ∙ orientations_in k

  -- the tables that a job was read into
  pub tabled : read_job bytes ≡ accepted j → 256 ≤ length rows → 64 ≤ length areas → Tabled j rows areas
  tabled e r a =
      record {
        few = (sized bytes j e).kinds;
        rows_long = r;
        areas_long = a;
        quantity = λ k l. kind_in (λ a. a.quantity) 0 k l ∙ quantity_in k;
        fill = λ k l. kind_in (λ a. a.fill) false k l ∙ fill_in k;
        priority = λ k l. kind_in (λ a. a.priority) (pos 0) k l ∙ priority_in k;
        orientations = turns_in;
        area = λ k l. kind_in (λ a. a.area) pos_zero k l ∙ area_in k;
      }
