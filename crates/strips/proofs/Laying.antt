-- What a room holds and what is answered, once the count tells whether the strips fit. Assumes nothing.
use Rattle.std.specs.Prelude.{Option, Some, None}
use Prim.Native.Nat.{ℕ, ◌+◌, ◌-◌, ◌*◌, ◌/◌, ◌≤◌, ◌<◌}
use native.Mathlib.Omega.{arith}
use mathlib.Core.Path.{◌≡◌, refl, ap, ◌∙◌, subst}
use mathlib.Core.List.{List}
use mathlib.Core.Bool.{Bool, true, false, cond}
use lib.ListN.{length, take}
use lib.Dec.{ltb, T}
use lib.Ieee.{Float}
use borrow.Author.Tests.{lt-ltb, le-ltb, ltb-true, ltb-false}
use Rattle.trapezoid.specs.declared.Trapezoid.{Trapezoid}
use Rattle.trapezoid.specs.Strip.{capacity}
use Rattle.slabs.specs.inner.Tables.{Held, hold}
use Rattle.slabs.proofs.Storing.{take_all, hold-fits, hold_over, hold-room}
use Rattle.strips.specs.inner.Tables.{strips_laid, strips_stored}

module _ (ss : List Trapezoid) (r r' : List Float) (from count : ℕ) (h : 6 * from ≤ length r) (e : record { room = r'; count = count } ≡ hold (record { room = r; count = from }) ss) where
  room_is : r' ≡ strips_laid (take (length r / 6 - from) ss) r from
  unfolding strips_laid
  room_is = ap (λ (x : Held). x.room) e ∙ hold-room r from ss (omega arith)

  fitted : 6 * (from + length ss) ≤ length r → count ≡ from + length ss
  fitted f = ap (λ (x : Held). x.count) (e ∙ hold-fits r from ss f)

  overrun : length r < 6 * (from + length ss) → count ≡ length r / 6 + 1
  overrun f = ap (λ (x : Held). x.count) e ∙ hold_over r from ss (omega arith) f

  fits_yes : count ≤ length r / 6 → 6 * (from + length ss) ≤ length r
  fits_yes c = go (ltb (length r) (6 * (from + length ss))) refl
    where
      go : (b : Bool) → ltb (length r) (6 * (from + length ss)) ≡ b → 6 * (from + length ss) ≤ length r
      go true z = let o : count ≡ length r / 6 + 1 = overrun (ltb-true (length r) (6 * (from + length ss)) z) in absurd (omega arith)
      go false z = ltb-false (length r) (6 * (from + length ss)) z

  fits_no : length r / 6 < count → length r < 6 * (from + length ss)
  fits_no c = go (ltb (length r) (6 * (from + length ss))) refl
    where
      go : (b : Bool) → ltb (length r) (6 * (from + length ss)) ≡ b → length r < 6 * (from + length ss)
      go true z = ltb-true (length r) (6 * (from + length ss)) z
      go false z = let f = ltb-false (length r) (6 * (from + length ss)) z in let o : count ≡ from + length ss = fitted f in absurd (omega arith)

  module _ (cap : ℕ) (ec : cap ≡ capacity r') (len : length r' ≡ length r) where
    cap_is : cap ≡ length r / 6
    unfolding capacity
    cap_is = ec ∙ ap (λ (n : ℕ). n / 6) len

    pub from-count : count ≤ cap → from ≤ count
    from-count c = let y = cap_is in let z : count ≡ from + length ss = fitted (fits_yes (omega arith)) in omega arith

    pub stored_yes : count ≤ cap → record { answer = Some (count - from); room = r' } ≡ strips_stored ss r from
    unfolding strips_stored capacity
    stored_yes c =
        let y = cap_is in
        let f = fits_yes (omega arith) in
        let z : count - from ≡ length ss = omega (arith, fitted f) in
        rw (z, ← room_is, le-ltb (length r / 6) (from + length ss) (omega arith))

    pub stored_no : cap < count → record { answer = None; room = r' } ≡ strips_stored ss r from
    unfolding strips_stored capacity
    stored_no c =
        let y = cap_is in
        let f = fits_no (omega arith) in
        rw (← room_is, lt-ltb (length r / 6) (from + length ss) (omega arith))

-- ---- what the answer tells
pub stored-fits : (ss : List Trapezoid) (r : List Float) (from : ℕ) → 6 * (from + length ss) ≤ length r → strips_stored ss r from ≡ record { answer = Some (length ss); room = strips_laid ss r from }
unfolding strips_stored capacity
stored-fits ss r from h = rw (le-ltb (length r / 6) (from + length ss) (omega arith), take_all ss (length r / 6 - from) (omega arith))

pub stored_over : (ss : List Trapezoid) (r : List Float) (from : ℕ) → length r < 6 * (from + length ss) → (strips_stored ss r from).answer ≡ None
unfolding strips_stored capacity
stored_over ss r from h = rw (lt-ltb (length r / 6) (from + length ss) (omega arith))

abbrev number : Option ℕ → ℕ
number (Some m) = m
number None = 0

abbrev counted : Option ℕ → Bool
counted (Some m) = true
counted None = false

-- a count is the number of the strips, and they lie in the room
pub stored-count : (ss : List Trapezoid) (r : List Float) (from m : ℕ) → Some m ≡ (strips_stored ss r from).answer → (m ≡ length ss) × (6 * (from + m) ≤ length r)
unfolding strips_stored capacity
stored-count ss r from m e = go (ltb (length r / 6) (from + length ss)) refl e
  where
    go : (t : Bool) → ltb (length r / 6) (from + length ss) ≡ t → Some m ≡ cond t None (Some (length ss)) → (m ≡ length ss) × (6 * (from + m) ≤ length r)
    go true z f = absurd (subst T (ap counted f) tt)
    go false z f = let y : from + length ss ≤ length r / 6 = ltb-false (length r / 6) (from + length ss) z in let w : m ≡ length ss = ap number f in (w, omega arith)
