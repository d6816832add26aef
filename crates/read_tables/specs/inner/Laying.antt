-- For inner functions' contracts only: what is stored as far as a room goes, and counted. Definitions only. Assumes nothing.
use Rattle.std.specs.Prelude.{ℕ, ◌+◌, ◌-◌, ◌*◌, ◌≤◌, min, ◌≡◌, cond, length, get_or, take, replicate, eqb, Float}
use mathlib.Core.List.{List, [], ◌∷◌, ◌++◌, flat_map}
use Rattle.std.proofs.lemmas.List.Edits.{sets}
use Rattle.numbers.specs.Numbers.{pos_zero}
use Rattle.job.specs.declared.Header.{Header}
use Rattle.job.specs.Jobs.{Job, accepted}
use Rattle.job_bits.specs.JobTables.{counts_of, coordinates_of, rows_of, areas_of}
use Rattle.read_tables.specs.declared.sets.Filled.{Filled}
use Rattle.job_bits.specs.Replies.{or_zeros}
use Rattle.read_tables.specs.Tabled.{Reply, Laid, tabled}

-- `more`, stored from place n on as far as the room goes; m is the place behind it
pub record Stored {A : Type 0} (before : List A) (n : ℕ) (more after : List A) (m : ℕ) : Type 0 where
  pub room : after ≡ sets before n more
  pub end : m ≡ n + length more

-- so many numbers can follow without a sum that is too large
abbrev pub Ready : Filled → ℕ → ℕ → Type 0
Ready w a b = (w.counts + a ≤ 1000000000000) × (w.coordinates + b ≤ 1000000000000)

-- at most so many numbers follow
abbrev pub Near : Filled → Filled → ℕ → ℕ → Type 0
Near w r a b = (r.counts ≤ w.counts + a) × (r.coordinates ≤ w.coordinates + b)

-- counts and coordinates put behind those before
pub record Put (w : Filled) (cs : List ℕ) (xs : List Float) (ns : List ℕ) (ps : List Float) (r : Filled) (ds : List ℕ) (ys : List Float) : Type 0 where
  pub counts : Stored cs w.counts ns ds r.counts
  pub coordinates : Stored xs w.coordinates ps ys r.coordinates

-- those of each element of a list
abbrev pub PutKinds : {A : Type 0} → Filled → List ℕ → List Float → (A → List ℕ) → (A → List Float) → List A → Filled → List ℕ → List Float → Type 0
PutKinds w cs xs f g l r ds ys = Put w cs xs (flat_map f l) (flat_map g l) r ds ys

-- the four numbers of kind k as the job has them: fill 0 or 1, priority as 32 bits
abbrev pub row_at : List ℕ → ℕ → List ℕ
row_at rows k =
    get_or rows (4 * k) 0 ∷ cond (eqb (get_or rows (4 * k + 1) 0) 1) 1 0 ∷ min (get_or rows (4 * k + 2) 0) 4294967295 ∷ get_or rows (4 * k + 3) 0 ∷ []

-- zeros from place n on
unfoldable pub cleared : {A : Type 0} → A → ℕ → List A → List A
cleared z n l = take n l ++ replicate (length l - n) z

-- a reply, and what the rooms hold after it, where refusals leave zeros
abbrev pub left_of : Reply → List ℕ → List Float → List ℕ → List Float → Laid
left_of r rs ss cs xs =
    record { reply = r; rows = or_zeros 0 r rs; areas = or_zeros pos_zero r ss; counts = or_zeros 0 r cs; coordinates = or_zeros pos_zero r xs }

-- a job's four tables, stored in rooms
pub record Tabling (j : Job) (n : ℕ) (w : Filled) (rs : List ℕ) (ss : List Float) (cs : List ℕ) (xs : List Float) : Type 0 where
  pub rows₀ : List ℕ
  pub areas₀ : List Float
  pub counts₀ : List ℕ
  pub coordinates₀ : List Float
  pub rows : Stored rows₀ 0 (rows_of j.kinds) rs (4 * n)
  pub areas : Stored areas₀ 0 (areas_of j.kinds) ss n
  pub counts : Stored counts₀ 0 (counts_of j) cs w.counts
  pub coordinates : Stored coordinates₀ 0 (coordinates_of j) xs w.coordinates

-- the reply and the rooms are those of every job whose tables are stored
abbrev pub Finished : Header → ℕ → Filled → List ℕ → List Float → List ℕ → List Float → Reply → List ℕ → List Float → List ℕ → List Float → Type 0
Finished h n w rs ss cs xs r rs' ss' cs' xs' =
    (j : Job) → j.header ≡ h → Tabling j n w rs ss cs xs → left_of r rs' ss' cs' xs' ≡ tabled (accepted j) (length rs) (length ss) (length cs) (length xs)
