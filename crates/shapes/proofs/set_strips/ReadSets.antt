-- What a set that was read again promises, and the strips of a position without a set. Assumes nothing.
use Rattle.std.specs.Prelude.{Option, Some, None, Result, Ok}
use mathlib.Core.Path.{◌≡◌, refl, sym, ap, subst, ◌∙◌}
use mathlib.Core.Logic.{◌⊎◌, inl, inr}
use mathlib.Core.Bool.{Bool, true, false}
use mathlib.Core.List.{List, [], ◌∷◌, ◌++◌}
use Prim.Native.Nat.{ℕ, zero, suc, ◌+◌, ◌*◌, ◌/◌, ◌≤◌, ◌<◌}
use native.Mathlib.Omega.{arith}
use lib.ListN.{length, get_or, take, drop, take-append-drop}
use lib.Seq.{length-take-le, get_or-take}
use lib.Ieee.{Float, nan, binary64, of_bits}
use Rattle.numbers.proofs.Truth.{below_or_not}
use Rattle.trapezoid.specs.declared.Trapezoid.{Trapezoid}
use Rattle.trapezoid.specs.Strip.{flat}
use Rattle.slabs.specs.Slab as Slab
use Rattle.strips.specs.Strips.{bounds, trapezoids}
use Rattle.strips.proofs.Laying.{stored-fits, stored-count}
use Rattle.strips.specs.inner.Tables.{Loops, strips_laid, Stowed, strips_stored}
use Rattle.bits.specs.declared.Refusal.{Refusal}
use Rattle.bits.specs.Reading.{Read, bad}
use Rattle.kinds.specs.sets.inner.Answers.{set_read, set_fits, found, set_at}
use Rattle.kinds.specs.sets.Sets.{Set, a_set}
use Rattle.frames.specs.declared.Frame.{Frame}
use Rattle.frames.specs.Frames.{framed}
use Rattle.frames.specs.inner.Turning.{framed_read}
use Rattle.frames.proofs.Turned.{ends_loops, framed-good, framed_ok, framed-bad, framed-nothing}
use Rattle.kinds.proofs.sets.Accepted.{Ends, ends-most, Good, set-good}
use Rattle.filling.specs.Shapes.{set_bounds}
use Rattle.filling.specs.Rooms as Rooms
use Rattle.filling.proofs.Reading.{length-flat}
use Rattle.strips.proofs.Computing.{strips_compute}
use Rattle.shapes.specs.set_strips.inner.SetStrips.{strips_of, strips_at}

-- ---- a set that was read

ends_few : (first n : ℕ) (es : List ℕ) (i : ℕ) → Ends first es n → i < length es → get_or es i 0 ≤ n
ends_few first n [] i h l = absurd (none i l)
  where
    none : (i : ℕ) → i < 0 → ⊥
    none i h = omega arith
ends_few first n (e ∷ es) zero h l = let m = ends-most e n es h.1 in omega (arith, m)
ends_few first n (e ∷ es) (suc i) h l = ends_few e n es i h.1 (omega arith)

-- n loops and m points lie in the rooms, in the frame
pub record SetIn (f : Frame) (bytes : List ℕ) (at : ℕ) (room : List Float) (ends : List ℕ) (n m : ℕ) : Type 0 where
  pub some : 0 < m
  pub few : m ≤ 512
  pub loops : n ≤ 64
  pub ends_few : (i : ℕ) → i < n → get_or ends i 0 ≤ 512
  pub lie : Loops 0 (take n ends) m
  pub is : framed f (set_at bytes at) ≡ record { points = take (2 * m) room; ends = take n ends }

module _ (f : Frame) (bytes : List ℕ) (at : ℕ) (room : List Float) (ends : List ℕ) (a : 1024 ≤ length room) (b : 64 ≤ length ends) (n m q most : ℕ) where
  points-long : m ≤ 512 → length (take (2 * m) room) ≡ 2 * m
  points-long h = length-take-le (2 * m) room (omega arith)

  ends-long : n ≤ 64 → length (take n ends) ≡ n
  ends-long h = length-take-le n ends (omega arith)

  good_is : (k : ℕ) → m ≤ 512 → n ≤ 64 → Good (record { points = take (2 * m) room; ends = take n ends }) k → framed f (set_at bytes at) ≡ record
      { points = take (2 * m) room; ends = take n ends } → SetIn f bytes at room ends n m
  good_is k h l g e =
      let c = points-long h in
      let d = ends-long l in
      let b : k ≡ m = (let p = g.points in omega arith) in
      let E : Ends 0 (take n ends) m = subst (λ (x : ℕ). Ends 0 (take n ends) x) b g.ends in
      let s = g.some in
      let t = ends-most 0 m (take n ends) E in
      record {
        some = omega arith;
        few = h;
        loops = l;
        ends_few = λ i v. subst (λ (x : ℕ). x ≤ 512) (get_or-take n ends i 0 v) (let u = ends_few 0 m (take n ends) i E (omega arith) in omega arith);
        lie = ends_loops 0 m (take n ends) E;
        is = e;
      }

  pub set_in_lem : (r : Result (ℕ × ℕ × ℕ) Refusal) → framed_read f (a_set bytes at) ≡ set_read r room ends → set_fits r most → r ≡ Ok (n, m, q) → SetIn f bytes at room ends n m
  unfolding set_at
  set_in_lem r e d c =
      let F : (n ≤ 64) × (m ≤ 512) × (q ≤ most) = subst (λ (t : Result (ℕ × ℕ × ℕ) Refusal). set_fits t most) c d in
      let s = framed_ok f (a_set bytes at) (record { points = take (2 * m) room; ends = take n ends }) q (e ∙ ap (λ (t : Result (ℕ × ℕ × ℕ) Refusal). set_read t room ends) c) in
      let g = set-good bytes at s.0 q s.1 in
      good_is g.0 F.1 F.0 (subst (λ (t : Set). Good t g.0) s.2 (framed-good f s.0 g.0 g.1))
      (ap (λ (t : Read Set). framed f (found t)) s.1 ∙ s.2)

module _ {f : Frame} {bytes : List ℕ} {at : ℕ} {room : List Float} {ends : List ℕ} {n m : ℕ} (S : SetIn f bytes at room ends n m) (a : 1024 ≤ length room) where
  half : length (take (2 * m) room) / 2 ≡ m
  half = let e = length-take-le (2 * m) room (let f = S.few in omega arith) in omega arith

  pub strips_are : (short : List ℕ) (sheet : Bool) → take n short ≡ take n ends → trapezoids (take (2 * m) room) m (take n short) sheet ≡ strips_at f bytes at
      sheet
  unfolding strips_at strips_of
  strips_are short sheet e = rw (e, S.is, half)

  pub bounds_are : bounds (take (2 * m) room) m ≡ set_bounds (framed f (set_at bytes at))
  unfolding set_bounds
  bounds_are = rw (S.is, half)

-- ---- strips that are strips_stored, or not

-- from the first strip on
pub laid-first : (ss : List Trapezoid) (room : List Float) → strips_laid ss room 0 ≡ Rooms.laid (flat ss) room
unfolding strips_laid Rooms.laid
laid-first ss room = let e : 6 * (0 + length ss) ≡ length (flat ss) = omega (arith, length-flat ss) in ap (λ (k : ℕ). flat ss ++ drop k room) e

module _ (ss : List Trapezoid) (room₀ room : List Float) (from : ℕ) (r : Option ℕ) (e : record { answer = r; room = room } ≡ strips_stored ss room₀ from) where
  pub stored-number : (n : ℕ) → r ≡ Some n → (n ≡ length ss) × (6 * (from + n) ≤ length room₀)
  stored-number n d = stored-count ss room₀ from n (sym d ∙ ap (λ (x : Stowed). x.answer) e)

  pub stored-room : (n : ℕ) → r ≡ Some n → room ≡ strips_laid ss room₀ from
  stored-room n d =
      let c = stored-number n d in
      ap (λ (x : Stowed). x.room) e ∙ ap (λ (x : Stowed). x.room) (stored-fits ss room₀ from (omega (arith, c.0, c.1)))

  pub not-stored : r ≡ None → length room₀ < 6 * (from + length ss)
  not-stored d = go (below_or_not (length room₀) (6 * (from + length ss)))
    where
      never : None ≡ (strips_stored ss room₀ from).answer → strips_stored ss room₀ from ≡ record
          { answer = Some (length ss); room = strips_laid ss room₀ from } → ⊥
      never x y = let z : ◌≡◌ {A = ℕ} 0 1 = (let v : None ≡ Some (length ss) = x ∙ ap (λ (s : Stowed). s.answer) y in cc) in omega arith

      go : (length room₀ < 6 * (from + length ss)) ⊎ (6 * (from + length ss) ≤ length room₀) → length room₀ < 6 * (from + length ss)
      go (inl b) = b
      go (inr b) = absurd (never (sym d ∙ ap (λ (x : Stowed). x.answer) e) (stored-fits ss room₀ from b))

-- ---- a position without a set

no_strips : (sheet : Bool) → strips_of (record { points = []; ends = [] }) sheet ≡ []
unfolding strips_of strips_compute Slab.sort Slab.up Slab.insert lib.Ieee.lt lib.Ieee.eq
no_strips true = refl
no_strips false = refl

pub laid-nothing : (room : List Float) (from : ℕ) → strips_laid [] room from ≡ room
unfolding strips_laid flat
laid-nothing room from =
    let e : from + 0 ≡ from = omega arith in
    ap (λ (k : ℕ). take (6 * from) room ++ drop (6 * k) room) e ∙ take-append-drop (6 * from) room

pub nothing_stored : (room : List Float) (from : ℕ) → 6 * from ≤ length room → strips_stored [] room from ≡ record { answer = Some 0; room = room }
nothing_stored room from h = stored-fits [] room from (omega arith) ∙ ap (λ (l : List Float). record { answer = Some 0; room = l }) (laid-nothing room from)

nan_is : of_bits binary64 0x7ff8_0000_0000_0000 ≡ nan
unfolding of_bits
nan_is = refl

-- nothing is read there
nothing_at : (f : Frame) (bytes : List ℕ) (at : ℕ) (k : Refusal) → framed_read f (a_set bytes at) ≡ bad k → framed f (set_at bytes at) ≡ record
    { points = []; ends = [] }
unfolding set_at
nothing_at f bytes at k e = ap (λ (t : Read Set). framed f (found t)) (framed-bad f (a_set bytes at) k e) ∙ framed-nothing f

pub no_bounds_lem : (f : Frame) (bytes : List ℕ) (at : ℕ) (k : Refusal) (x : Float) → x ≡ of_bits binary64 0x7ff8_0000_0000_0000
    → framed_read f (a_set bytes at) ≡ bad k → record { left = x; bottom = x; right = x; top = x } ≡ set_bounds (framed f (set_at bytes at))
unfolding set_bounds strips_compute
no_bounds_lem f bytes at k x d e = rw (d ∙ nan_is, nothing_at f bytes at k e)

pub none-stored : (f : Frame) (bytes : List ℕ) (at : ℕ) (sheet : Bool) (room : List Float) (from : ℕ) (k : Refusal) → 6 * from ≤ length room
    → framed_read f (a_set bytes at) ≡ bad k → strips_stored (strips_at f bytes at sheet) room from ≡ record { answer = Some 0; room = room }
unfolding strips_at
none-stored f bytes at sheet room from k h e = rw (nothing_at f bytes at k e, no_strips sheet) (nothing_stored room from h)
