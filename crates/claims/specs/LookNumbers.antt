-- For claims that speak of one look alone: doubles that are finite. Definitions only. Assumes nothing.
use Rattle.std.specs.Prelude.{Bool, ◌&&◌, Float}
use Rattle.std.specs.Float.{binary64}
use Rattle.std.specs.Float.Ieee.{fits}
use Rattle.std.specs.Float.Ieee.Scale.{finite}
use Rattle.index.specs.declared.Interval.{Interval}

-- a double, and finite
unfoldable pub is_finite : Float → Bool
is_finite x = fits binary64 x && finite x

-- of an interval's bottom and top
unfoldable pub ends_finite : Interval → Bool
ends_finite i = is_finite i.from && is_finite i.to
