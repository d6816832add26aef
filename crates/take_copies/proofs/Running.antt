-- What holds between two turns, and what a turn makes of it. Assumes nothing.
use Rattle.std.specs.Prelude.{Ok}
use Prim.Native.Nat.{ℕ, ◌+◌, ◌-◌, ◌<◌, ◌≤◌}
use native.Mathlib.Omega.{arith}
use native.Mathlib.Nat.{le_of_eq}
use mathlib.Core.Path.{◌≡◌, refl, ap₂, subst⁻¹, ◌∙◌}
use mathlib.Core.Bool.{true}
use mathlib.Core.List.{List}
use lib.ListN.{length}
use lib.Ieee.{Float}
use Rattle.numbers.specs.Numbers.{pos_zero}
use Rattle.job.specs.Jobs.{Job}
use Rattle.filling.specs.declared.State.{State}
use Rattle.filling.specs.declared.Tables.{Tables}
use Rattle.filling.specs.Rooms.{Rooms, zeros}
use Rattle.choose.specs.declared.Grid.{Grid}
use Rattle.place.specs.declared.Totals.{Totals}
use Rattle.step.specs.inner.Going.{rooms, Going}
use Rattle.batch.specs.inner.Tested.{tested_from, more_taken}
use Rattle.batch.proofs.Taking.{more_none}
use Rattle.take_copy.specs.declared.turn.Turn.{Turn}
use Rattle.take_copy.specs.turn.inner.Turning.{state_in, Sizes}
use Rattle.take_copies.specs.inner.Run.{rest_of, Begun}

-- ---- what stays, and what changes

pub record Fixed : Type 0 where
  pub most : ℕ
  pub taken : ℕ
  pub grid : Grid
  pub totals : Totals
  pub order : List ℕ
  pub rows : List ℕ
  pub areas : List Float
  pub inset_bounds : List Float
  pub parts : List ℕ
  pub shapes : List Float
  pub sheet : List Float
  pub sheet_entries : List ℕ
  pub sheet_starts : List ℕ
  pub sheet_firsts : List ℕ

pub record Arrays : Type 0 where
  pub placed : List Float
  pub entries : List ℕ
  pub starts : List ℕ
  pub gains : List ℕ
  pub room : List Float
  pub tracks : List ℕ
  pub orientation : List ℕ
  pub x : List Float
  pub y : List Float
  pub gap : List Float
  pub firsts : List ℕ

-- state and rooms, of the state's tables and the sheet's whole room
abbrev pub state_of : Fixed → Tables → ℕ → Totals → Arrays → State
state_of f b taken t a = state_in b f.order taken a.tracks t a.orientation a.x a.y a.gap

abbrev pub rooms_of : Fixed → List Float → Arrays → Rooms
rooms_of f whole a = rooms f.shapes whole a.placed f.sheet_entries a.entries f.sheet_firsts a.firsts

abbrev pub BegunBy : Fixed → Job → Tables → List Float → Type 0
BegunBy f j b whole =
    Begun j b f.grid f.rows f.areas f.inset_bounds f.parts whole f.sheet f.order f.taken f.most

abbrev pub GoingBy : Fixed → Job → Tables → List Float → ℕ → Totals → Arrays → Type 0
GoingBy f j b whole taken t a =
    Going j (state_of f b taken t a) (rooms_of f whole a) f.rows f.areas f.sheet_starts a.starts

-- the arrays keep their lengths
pub record Alike (a c : Arrays) : Type 0 where
  pub placed : length c.placed ≡ length a.placed
  pub entries : length c.entries ≡ length a.entries
  pub starts : length c.starts ≡ length a.starts
  pub gains : length c.gains ≡ length a.gains
  pub room : length c.room ≡ length a.room
  pub tracks : length c.tracks ≡ length a.tracks
  pub orientation : length c.orientation ≡ length a.orientation
  pub x : length c.x ≡ length a.x
  pub y : length c.y ≡ length a.y
  pub gap : length c.gap ≡ length a.gap
  pub firsts : length c.firsts ≡ length a.firsts

pub alike_on : (a c d : Arrays) → Alike a c → Alike c d → Alike a d
alike_on a c d p q =
    record {
      placed = q.placed ∙ p.placed;
      entries = q.entries ∙ p.entries;
      starts = q.starts ∙ p.starts;
      gains = q.gains ∙ p.gains;
      room = q.room ∙ p.room;
      tracks = q.tracks ∙ p.tracks;
      orientation = q.orientation ∙ p.orientation;
      x = q.x ∙ p.x;
      y = q.y ∙ p.y;
      gap = q.gap ∙ p.gap;
      firsts = q.firsts ∙ p.firsts;
    }

pub sizes_on : (a c : Arrays) → Alike a c → Sizes a.orientation a.x a.y a.gap → Sizes c.orientation c.x c.y c.gap
sizes_on a c p z =
    record {
      orientations = p.orientation ∙ z.orientations;
      xs = p.x ∙ z.xs;
      ys = p.y ∙ z.ys;
      gaps = p.gap ∙ z.gaps;
    }

-- ---- between two turns: from a to c, after `took` copies

pub record Running (f : Fixed) (a c : Arrays) (last : Turn) (took end : ℕ) : Type 0 where
  pub alike : Alike a c
  pub before : took ≤ end
  pub within : end ≤ f.most
  pub on : took < end → (last.verdict ≡ (Ok tt)) × (last.fits ≡ true)
  pub whole : last.verdict ≡ (Ok tt) → last.fits ≡ true → end ≡ f.most
  pub going : (j : Job) (b : Tables) (whole : List Float) → BegunBy f j b whole → (0 < f.most → GoingBy f j b whole f.taken f.totals a) → took < end
      → GoingBy f j b whole (f.taken + took) last.totals c
  pub equal : (j : Job) (b : Tables) (whole intervals : List Float) (n : ℕ) → BegunBy f j b whole
      → (0 < f.most → GoingBy f j b whole f.taken f.totals a) → length intervals ≡ length a.room → f.most ≤ n
      → more_taken took (rest_of j last.verdict (n - took) (state_of f b (f.taken + took) last.totals c) (rooms_of f whole c) (zeros pos_zero intervals)
      last.fits) ≡ tested_from j n (state_of f b f.taken f.totals a) (rooms_of f whole a) (zeros pos_zero intervals) true

-- ---- before the first turn

pub run_first : (f : Fixed) (a : Arrays) (last : Turn) → last ≡ record { verdict = Ok tt; totals = f.totals; fits = true } → Running f a a last 0 f.most
run_first f a last e =
    subst⁻¹ (λ (last : Turn). Running f a a last 0 f.most) e
    (record {
      alike = record {
        placed = refl;
        entries = refl;
        starts = refl;
        gains = refl;
        room = refl;
        tracks = refl;
        orientation = refl;
        x = refl;
        y = refl;
        gap = refl;
        firsts = refl;
      };
      before = omega arith;
      within = le_of_eq refl;
      on = λ h. (refl, refl);
      whole = λ v h. refl;
      going = λ j b whole B G h. subst⁻¹ (λ (n : ℕ). GoingBy f j b whole n f.totals a) zero_more (G h);
      equal = λ j b whole intervals n B G l m.
          more_none _ ∙ ap₂ (λ (k n : ℕ). tested_from j k (state_of f b n f.totals a) (rooms_of f whole a) (zeros pos_zero intervals) true) less zero_more;
    })
  where
    zero_more : f.taken + 0 ≡ f.taken
    zero_more = omega arith

    less : {n : ℕ} → n - 0 ≡ n
    less = omega arith
