-- Inner functions' contracts only: what the code's answers say of points, loops and sets. Definitions only. Assumes nothing.
use Rattle.std.specs.Prelude.{Result, Ok, Err, ℕ, ◌+◌, ◌-◌, ◌*◌, ◌≤◌, List, [], take, Float}
use Rattle.bits.specs.declared.Refusal.{Refusal}
use Rattle.bits.specs.Reading.{Read, ok, bad}
use Rattle.kinds.specs.sets.Sets.{Set, Points, a_set}

-- what lies in a table, read up to the position that the answer gives
abbrev pub run_read : {A : Type 0} → Result ℕ Refusal → A → Read A
run_read (Ok q) a = ok a q
run_read (Err k) a = bad k

-- a loop, with the set's points so far in the room
abbrev pub loop_read : Result (ℕ × ℕ) Refusal → List Float → Read Points
loop_read (Ok (n, q)) room = ok (record { number = n; coordinates = take (2 * n) room }) q
loop_read (Err k) room = bad k

-- a set of n loops and m points, in their rooms
abbrev pub set_read : Result (ℕ × ℕ × ℕ) Refusal → List Float → List ℕ → Read Set
set_read (Ok (n, m, q)) room ends = ok (record { points = take (2 * m) room; ends = take n ends }) q
set_read (Err k) room ends = bad k

-- ---- how far an answer reaches, for sums that must fit

abbrev pub run_fits : Result ℕ Refusal → ℕ → Type 0
run_fits (Ok q) most = q ≤ most
run_fits (Err k) most = Unit {0}

-- a loop after so many points
abbrev pub loop_fits : Result (ℕ × ℕ) Refusal → ℕ → ℕ → Type 0
loop_fits (Ok (n, q)) at before = (before ≤ n) × (n ≤ 512) × (q ≤ at + 10 + 128 * (n - before))
loop_fits (Err k) at before = Unit {0}

abbrev pub set_fits : Result (ℕ × ℕ × ℕ) Refusal → ℕ → Type 0
set_fits (Ok (n, m, q)) most = (n ≤ 64) × (m ≤ 512) × (q ≤ most)
set_fits (Err k) most = Unit {0}

-- the set at a bit position; no loop where the bytes have none there
abbrev pub found : Read Set → Set
found (ok s q) = s
found (bad k) = record { points = []; ends = [] }

unfoldable pub set_at : List ℕ → ℕ → Set
set_at bytes p = found (a_set bytes p)
