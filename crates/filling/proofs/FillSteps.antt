-- A filling goes on after a step that is accepted, and ends at one that is refused. Assumes nothing.
use Rattle.std.specs.Prelude.{Ok, Err}
use mathlib.Core.Path.{◌≡◌, refl}
use mathlib.Core.List.{List}
use Prim.Native.Nat.{ℕ, suc}
use lib.Ieee.{Float}
use Rattle.job.specs.Jobs.{Job}
use Rattle.filling.specs.declared.State.{State}
use Rattle.filling.specs.declared.Refusal.{Refusal}
use Rattle.filling.specs.Rooms.{Rooms}
use Rattle.filling.specs.NextCopy.{core_step}
use Rattle.filling.specs.Fill.{filled, stopped, fill_from}

pub fill_on : (j : Job) (iv : List Float) (n : ℕ) (s : State) (w : Rooms) → (core_step j s w iv).verdict ≡ Ok tt → fill_from j iv (suc n) s w ≡ fill_from j iv n (core_step j s w iv).state (core_step j s w iv).rooms
unfolding fill_from
fill_on j iv n s w e = rw (e, fill_from)

pub fill_stops : (j : Job) (iv : List Float) (n : ℕ) (s : State) (w : Rooms) (k : Refusal) → (core_step j s w iv).verdict ≡ Err k → fill_from j iv (suc n) s w ≡ stopped k
unfolding fill_from
fill_stops j iv n s w k e = rw (e, fill_from)

pub fill-ends : (j : Job) (iv : List Float) (s : State) (w : Rooms) → fill_from j iv 0 s w ≡ filled s
unfolding fill_from
fill-ends j iv s w = refl
