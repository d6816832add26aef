-- An order at the beginning of a table of 4096, as a search is lent it. Assumes nothing.
use Prim.Native.Nat.{ℕ, ◌*◌, ◌≤◌, ◌<◌}
use native.Mathlib.Omega.{arith}
use mathlib.Core.Path.{◌≡◌, sym, ap, subst, ◌∙◌}
use mathlib.Core.Bool.{true}
use mathlib.Core.List.{List}
use lib.ListN.{length, take}
use lib.Ieee.{Float}
use Rattle.job.specs.declared.Header.{Header}
use Rattle.job.specs.Jobs.{Job, accepted, read_job}
use Rattle.job.proofs.Accepted.{job_good}
use Rattle.filling.specs.Rooms.{laid}
use Rattle.filling.specs.Order.{rearranged}
use Rattle.filling.proofs.Reading.{take-laid, laid-long}
use Rattle.filling.proofs.Begin.{rearranged-length}
use Rattle.accounts.specs.tables.inner.Tabled.{Tabled}
use Rattle.nesting.specs.CopyOrder.{copy_order}
use Rattle.copy_order.specs.inner.KindTables.{copies_in}
use Rattle.copy_order.proofs.Rearranged.{accepted-rearranged, tabled-copies}

module _ (bytes : List ℕ) (j : Job) (read : read_job bytes ≡ accepted j) where
  -- the table has room for a job's copies
  pub copies_upto : (rows : List ℕ) (areas : List Float) (kinds : ℕ) → Tabled j rows areas → length j.kinds ≡ kinds → copies_in rows kinds ≤ 4096
  copies_upto rows areas kinds t n =
      subst (λ (m : ℕ). copies_in rows m ≤ 4096) n
      (let a = tabled-copies j rows areas t in let b = (job_good bytes j read).good.total in let c = (job_good bytes j read).copies in omega arith)

  -- so it has for any order of them
  pub order_upto : (order : List ℕ) → rearranged j order ≡ true → length order ≤ 4096
  order_upto order r = let a = rearranged-length j order r in let c = (job_good bytes j read).copies in omega arith

  -- six numbers for each
  pub order-positions : (order : List ℕ) → rearranged j order ≡ true → (room : ℕ) → 6 * j.copies ≤ room → 6 * length order ≤ room
  order-positions order r room h = let a = rearranged-length j order r in omega arith

  -- the header counts them in 12 bits
  pub few-rounds : (h : Header) → j.header ≡ h → h.rounds < 4096
  few-rounds h e = subst (λ (x : Header). x.rounds < 4096) e (job_good bytes j read).good.header.rounds

  pub copies_arranged : rearranged j (copy_order j) ≡ true
  copies_arranged = accepted-rearranged bytes j read

-- what lies there
module _ (own : List ℕ) (n : ℕ) (table room : List ℕ) (d : (n ≡ length own) × (table ≡ laid own room)) where
  pub order-laid : take n table ≡ own
  order-laid = ap (take n) d.1 ∙ take-laid own room n (sym d.0)

  pub order-within : n ≤ length table
  order-within = subst (λ (m : ℕ). m ≤ length table) (sym d.0) (subst (λ (o : List ℕ). length own ≤ length o) (sym d.1) (laid-long own room))

  pub order-count : n ≡ length (take n table)
  order-count = d.0 ∙ sym (ap length order-laid)

  pub order_arranged : (j : Job) → rearranged j own ≡ true → rearranged j (take n table) ≡ true
  order_arranged j r = ap (rearranged j) order-laid ∙ r

  pub order-room : (k : ℕ) → 6 * length own ≤ k → 6 * length (take n table) ≤ k
  order-room k = subst (λ (o : List ℕ). 6 * length o ≤ k) (sym order-laid)
