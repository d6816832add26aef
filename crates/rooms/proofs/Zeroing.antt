-- What `fill` of std leaves of a room is `zeros`. Assumes nothing.
use mathlib.Core.Path.{◌≡◌}
use mathlib.Core.List.{List}
use lib.ListN.{length, replicate}
use lib.Ieee.{Float, of_bits, binary64}
use Rattle.numbers.specs.Numbers.{pos_zero}
use Rattle.filling.specs.Rooms.{zeros}

pub zeroed : {A : Type 0} {v : A} {after : List A} (before : List A) → (((y : A) → y ≡ v → y ≡ v) → after ≡ replicate (length before) v) → after ≡ zeros v before
unfolding zeros
zeroed before h = h (λ y e. e)

-- plus zero as code writes it
pub zeroed-doubles : {after : List Float} (before : List Float)
    → (((y : Float) → y ≡ of_bits binary64 0 → y ≡ of_bits binary64 0) → after ≡ replicate (length before) (of_bits binary64 0)) → after ≡ zeros pos_zero before
unfolding of_bits
zeroed-doubles before h = zeroed before h
