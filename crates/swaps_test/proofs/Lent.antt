-- The rooms that are lent, all zero. Assumes nothing.
use Prim.Native.Nat.{ℕ}
use mathlib.Core.Path.{◌≡◌, refl, sym, ap}
use mathlib.Core.List.{[]}
use lib.ListN.{replicate, length-replicate}
use Rattle.numbers.specs.Numbers.{pos_zero}
use Rattle.filling.specs.Rooms.{Lent, zeros, lent_of}
use Rattle.report.specs.readied.inner.Zeroed.{Zeroed}

-- what preparing is lent; the search has rooms of its own
abbrev pub rooms : Lent
rooms = lent_of (replicate 8190 pos_zero) (replicate 8190 pos_zero) [] (replicate 16384 0) [] (replicate 1365 0) [] [] []

zero_room : {A : Type 0} (n : ℕ) (z : A) → replicate n z ≡ zeros z (replicate n z)
unfolding zeros
zero_room n z = sym (ap (λ (k : ℕ). replicate k z) (length-replicate n z))

pub rooms_zero : Zeroed rooms (replicate 8190 pos_zero) (replicate 8190 pos_zero) [] (replicate 16384 0) [] [] [] (replicate 1365 0) []
unfolding zeros
rooms_zero =
    record {
      shapes_zero = zero_room 8190 pos_zero;
      sheet_zero = zero_room 8190 pos_zero;
      placed_zero = refl;
      sheet_entries_zero = zero_room 16384 0;
      placed_entries_zero = refl;
      intervals_zero = refl;
      positions_zero = refl;
      sheet_firsts_zero = zero_room 1365 0;
      placed_firsts_zero = refl;
    }
