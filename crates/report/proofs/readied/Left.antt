-- The rooms that a whole plan leaves. Assumes nothing.
use Rattle.std.specs.Prelude.{Result, Ok, Err}
use Prim.Native.Nat.{ℕ}
use mathlib.Core.Path.{◌≡◌, refl, sym, ap, ap₂, ◌∙◌}
use mathlib.Core.List.{List}
use lib.ListN.{length}
use lib.Ieee.{Float}
use Rattle.numbers.specs.Numbers.{pos_zero}
use Rattle.job.specs.Jobs.{Job}
use Rattle.filling.specs.declared.State.{State}
use Rattle.filling.specs.declared.Plan.{Plan}
use Rattle.filling.specs.declared.Refusal.{Refusal}
use Rattle.filling.specs.Rooms.{Rooms, Lent, zeros, zero_rooms, only_positions, rooms_of, lent_of}
use Rattle.filling.specs.Fill.{Planned, not_planned, planned_with}
use Rattle.filling.proofs.Reading.{zeros-same}
use Rattle.report.specs.inner.Replies.{Reply, result_of, reply, reply_of, planned_when}
use Rattle.report.specs.Lent.{answered}

-- ---- the work rooms are left zero

pub record WorkZero (l : Lent) (q : Planned) : Type 0 where
  pub rooms_zero : q.lent.rooms ≡ zero_rooms l.rooms
  pub intervals_zero : q.lent.intervals ≡ zeros pos_zero l.intervals

pub refused-zero : (k : Refusal) (l : Lent) → WorkZero l (not_planned k l)
unfolding not_planned only_positions
refused-zero k l = record { rooms_zero = refl; intervals_zero = refl }

pub planned_zero : (j : Job) (l : Lent) (s : State) (n : ℕ) → WorkZero l (planned_with j l s n)
unfolding planned_with only_positions
planned_zero j l s n = record { rooms_zero = refl; intervals_zero = refl }

pub when_zero : (v : Result (Unit {0}) Refusal) (l : Lent) (q : Planned) → WorkZero l q → WorkZero l (planned_when v l q)
when_zero (Ok tt) l q w = w
when_zero (Err k) l q w = refused-zero k l

-- ---- reply and rooms together

pub zeros-after : {A : Type 0} (z : A) (a b room : List A) → a ≡ zeros z b → length b ≡ length room → a ≡ zeros z room
zeros-after z a b room e f = e ∙ zeros-same z b room f

whole : Result (Unit {0}) Refusal → Plan → Rooms → List Float → List Float → Planned
whole v p w i o = record { verdict = v; plan = p; lent = record { rooms = w; intervals = i; positions = o } }

-- the work rooms, all zero
pub rooms_are : (l : Lent) (shapes sheet placed : List Float) (sheet_entries placed_entries sheet_firsts placed_firsts : List ℕ)
    → shapes ≡ zeros pos_zero l.rooms.shapes → sheet ≡ zeros pos_zero l.rooms.sheet → placed ≡ zeros pos_zero l.rooms.placed
    → sheet_entries ≡ zeros 0 l.rooms.sheet_entries → placed_entries ≡ zeros 0 l.rooms.placed_entries
    → sheet_firsts ≡ zeros 0 l.rooms.sheet_firsts → placed_firsts ≡ zeros 0 l.rooms.placed_firsts
    → rooms_of shapes sheet placed sheet_entries placed_entries sheet_firsts placed_firsts ≡ zero_rooms l.rooms
unfolding zero_rooms
rooms_are l shapes sheet placed sheet_entries placed_entries sheet_firsts placed_firsts a b c d e m n = rw (a, b, c, d, e, m, n)

pub together : (l : Lent) (q : Planned) → WorkZero l q → (r : Result Plan Refusal) (shapes sheet placed : List Float)
    (sheet_entries placed_entries sheet_firsts placed_firsts : List ℕ) (intervals positions : List Float)
    → shapes ≡ zeros pos_zero l.rooms.shapes → sheet ≡ zeros pos_zero l.rooms.sheet → placed ≡ zeros pos_zero l.rooms.placed
    → sheet_entries ≡ zeros 0 l.rooms.sheet_entries → placed_entries ≡ zeros 0 l.rooms.placed_entries
    → sheet_firsts ≡ zeros 0 l.rooms.sheet_firsts → placed_firsts ≡ zeros 0 l.rooms.placed_firsts → intervals ≡ zeros pos_zero l.intervals
    → reply r positions ≡ reply_of q
    → answered (result_of r) (lent_of shapes sheet placed sheet_entries placed_entries sheet_firsts placed_firsts intervals positions) ≡ q
unfolding whole
together l q W r shapes sheet placed sheet_entries placed_entries sheet_firsts placed_firsts intervals positions a b c d e m n f g =
    ap₂ (λ (v : Result (Unit {0}) Refusal) (p : Plan). whole v p (rooms_of shapes sheet placed sheet_entries placed_entries sheet_firsts placed_firsts) intervals positions)
    (ap (λ (z : Reply). z.verdict) g) (ap (λ (z : Reply). z.plan) g)
    ∙ (ap (λ (w : Rooms). whole q.verdict q.plan w intervals positions)
    (rooms_are l shapes sheet placed sheet_entries placed_entries sheet_firsts placed_firsts a b c d e m n ∙ sym W.rooms_zero)
    ∙ ap₂ (λ (i o : List Float). whole q.verdict q.plan q.lent.rooms i o) (f ∙ sym W.intervals_zero) (ap (λ (z : Reply). z.positions) g))
