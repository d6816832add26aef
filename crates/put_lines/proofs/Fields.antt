-- Fields and lines as they are written, and where they end. Assumes nothing.
use Prim.Native.Nat.{ℕ, ◌+◌, ◌<◌, ◌≤◌}
use native.Mathlib.Omega.{arith}
use native.Mathlib.Numerals.{add-one}
use mathlib.Core.Path.{◌≡◌, sym, subst}
use mathlib.Core.Bool.{Bool, true, ◌&&◌}
use mathlib.Core.List.{List}
use lib.ListN.{length}
use lib.Dec.{leb, eqb}
use borrow.Author.Tests.{eqb-true}
use Rattle.numbers.proofs.Truth.{both_second}
use Rattle.put_lines.specs.declared.Digits.{Digits}
use Rattle.put_lines.specs.declared.Field.{Field}
use Rattle.put_lines.specs.PutLines.{byte_at, digits_from, field_after, decimal_after, hex_after, line_from}
use Rattle.put_lines.proofs.Numerals.{byte_inside, digits_near}

-- ---- a field

module _ (bytes : List ℕ) where
  pub field_is : (base least most b : ℕ) (f : Field) (d : Digits) (good : Bool) → d ≡ digits_from bytes base most f.next 0
      → good ≡ (f.good && (leb (f.next + least) d.end && eqb (byte_at bytes d.end) b))
      → record { value = d.value; next = d.end + 1; good = good } ≡ field_after bytes base least most b f
  unfolding field_after
  field_is base least most b f d good e g = rw (g, add-one d.end, e)

  pub digits_inside : (base most p : ℕ) (d : Digits) → d ≡ digits_from bytes base most p 0 → d.end ≤ p + most
  digits_inside base most p d e = subst (λ (x : Digits). x.end ≤ p + most) (sym e) (digits_near bytes base most p 0)

  field-near : (base least most b : ℕ) (f : Field) → (field_after bytes base least most b f).next ≤ f.next + most + 1
  unfolding field_after
  field-near base least most b f = let n = digits_near bytes base most f.next 0 in omega arith

  -- a field that is so written ends inside the text
  field-inside : (base least most b : ℕ) (f : Field) → b < 256 → (field_after bytes base least most b f).good ≡ true
      → (field_after bytes base least most b f).next ≤ length bytes
  unfolding field_after
  field-inside base least most b f h e =
      let d = digits_from bytes base most f.next 0 in
      let s = both_second (leb (f.next + least) d.end) (eqb (byte_at bytes d.end) b) (both_second f.good _ e) in
      byte_inside bytes d.end b (eqb-true _ _ s) h

  pub decimal-near : (f g : Field) → g ≡ decimal_after bytes f → g.next ≤ f.next + 20
  unfolding decimal_after
  decimal-near f g e = subst (λ (x : Field). x.next ≤ f.next + 20) (sym e) (let n = field-near 10 1 19 32 f in omega arith)

  pub hex-near : (b : ℕ) (f g : Field) → g ≡ hex_after bytes b f → g.next ≤ f.next + 17
  unfolding hex_after
  hex-near b f g e = subst (λ (x : Field). x.next ≤ f.next + 17) (sym e) (let n = field-near 16 16 16 b f in omega arith)

  hex-inside : (b : ℕ) (f : Field) → b < 256 → (hex_after bytes b f).good ≡ true → (hex_after bytes b f).next ≤ length bytes
  unfolding hex_after
  hex-inside b f h e = field-inside 16 16 16 b f h e

  -- ---- a line

  pub line_is : (p : ℕ) (k c o x y g : Field) → k ≡ decimal_after bytes (record { value = 0; next = p; good = true }) → c ≡ decimal_after bytes k
      → o ≡ decimal_after bytes c → x ≡ hex_after bytes 32 o → y ≡ hex_after bytes 32 x → g ≡ hex_after bytes 10 y
      → record { kind = k.value; orientation = o.value; x = x.value; y = y.value; next = g.next; good = g.good } ≡ line_from bytes p
  unfolding line_from
  line_is p k c o x y g ek ec eo ex ey eg = rw (eg, ey, ex, eo, ec, ek)

  pub line-inside : (p : ℕ) → (line_from bytes p).good ≡ true → (line_from bytes p).next ≤ length bytes
  unfolding line_from
  line-inside p e = hex-inside 10 _ (omega arith) e
