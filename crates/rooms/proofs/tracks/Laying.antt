-- Loops over the rows of a table: what the first i rows hold. Assumes nothing.
use Prim.Native.Nat.{ℕ, ◌+◌, ◌*◌, ◌≤◌, ◌<◌}
use native.Mathlib.Omega.{arith}
use mathlib.Core.Path.{◌≡◌, sym, ◌∙◌}
use mathlib.Core.List.{List}
use lib.ListN.{length, get_or}
use Rattle.rooms.specs.tracks.inner.Tracks.{field}
use Rattle.rooms.proofs.tracks.Fields.{field_is}

-- ---- two numbers to a slot

-- the first i slots hold f and g
abbrev pub Laid : (ℕ → ℕ) → (ℕ → ℕ) → ℕ → List ℕ → Type 0
Laid f g i t = (p : ℕ) → p < i → (get_or t (2 * p + 0) 0 ≡ f p) × (get_or t (2 * p + 1) 0 ≡ g p)

module _ (f g : ℕ → ℕ) where
  -- the slots' first numbers are a list; so are their second
  pub laid_firsts : (t l : List ℕ) (n : ℕ) → length l ≡ n → ((p : ℕ) → p < n → get_or l p 0 ≡ f p) → Laid f g n t → field 0 2 0 n t ≡ l
  laid_firsts t l n e h w = field_is 0 2 0 n t l e (λ p b. h p b ∙ sym (w p b).0)

  pub laid_seconds : (t l : List ℕ) (n : ℕ) → length l ≡ n → ((p : ℕ) → p < n → get_or l p 0 ≡ g p) → Laid f g n t → field 0 2 1 n t ≡ l
  laid_seconds t l n e h w = field_is 0 2 1 n t l e (λ p b. h p b ∙ sym (w p b).1)

-- ---- number r of a row

module _ {A : Type 0} (d : A) (k r : ℕ) (t : List A) where
  -- the first i are read
  abbrev pub Read : ℕ → List A → Type 0
  Read i out = (p : ℕ) → p < i → get_or out p d ≡ get_or t (k * p + r) d

  pub read_all : (out : List A) (n i : ℕ) → length out ≡ n → length out ≤ i → Read i out → out ≡ field d k r n t
  read_all out n i e h l = sym (field_is d k r n t out e (λ p b. l p (omega arith)))
