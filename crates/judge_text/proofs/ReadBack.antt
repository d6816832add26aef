-- What `plan` prints as `put` lines is read as their kinds, orientations and the bits of x and y. Assumes nothing.
use Rattle.std.specs.Prelude.{Ok}
use Prim.Native.Nat.{ℕ, zero, suc, ◌+◌, ◌*◌, ◌<◌, ◌≤◌}
use native.Mathlib.Nat.{add-zero}
use native.Mathlib.Omega.{arith}
use mathlib.Core.Path.{◌≡◌, refl, sym, ap, ap₂, subst, ◌∙◌}
use mathlib.Core.Bool.{true, false}
use mathlib.Core.List.{List, [], ◌∷◌, ◌++◌, flat_map, append_assoc, append-nil}
use lib.Dec.{T}
use lib.Ieee.{Float, binary64, to_bits, fits}
use lib.Ieee.Bits.{to_bits-lt}
use lib.ListN.{length, length-append}
use lib.Seq.{get_or-append_seam, get_or-append-add}
use borrow.Author.Tests.{le-leb, eq-eqb}
use Rattle.filling.specs.Accounts.{Position}
use Rattle.nesting.specs.Text.{decimal, hex, line, put_word, put_line}
use Rattle.lines.proofs.Digits.{hex-length}
use Rattle.put_lines.specs.declared.Field.{Field}
use Rattle.put_lines.specs.declared.Line.{Line}
use Rattle.put_lines.specs.PutLines.{byte_at, digit_of, digits_from, field_after, decimal_after, hex_after, line_from, line_numbers}
use Rattle.put_lines.specs.PutLines.{begins, PutList, lines_from, put_list}
use Rattle.put_lines.proofs.Numerals.{digits_none, digits_stop, digits_on}
use Rattle.put_lines.proofs.Fields.{field_is, line_is}
use Rattle.put_lines.proofs.Listing.{lines_end, lines_on}
use Rattle.judge_text.proofs.Spelled.{value_of, Digital, most, hex_digital, hex_value, decimal_digital, decimal_value, decimal_short, decimal-some}

-- ---- a line, field after field

-- the fields, each after a blank, and then t
unfoldable fields_then : List (List ℕ) → List ℕ → List ℕ
fields_then [] t = t
fields_then (f ∷ fs) t = (32 ∷ f) ++ fields_then fs t

fields_then_lem : (fs : List (List ℕ)) (t : List ℕ) → fields_then fs t ≡ flat_map (λ f. 32 ∷ f) fs ++ t
unfolding flat_map fields_then
fields_then_lem [] t = refl
fields_then_lem (f ∷ fs) t = ap (λ (l : List ℕ). (32 ∷ f) ++ l) (fields_then_lem fs t) ∙ sym (append_assoc (32 ∷ f) (flat_map (λ f. 32 ∷ f) fs) t)

line-six : (word a b c d e f : List ℕ)
    → word ++ ((32 ∷ a) ++ ((32 ∷ b) ++ ((32 ∷ c) ++ ((32 ∷ d) ++ ((32 ∷ e) ++ ((32 ∷ f) ++ (10 ∷ []))))))) ≡ line word (a ∷ b ∷ c ∷ d ∷ e ∷ f ∷ [])
unfolding line fields_then
line-six word a b c d e f = ap (λ (l : List ℕ). word ++ l) (fields_then_lem (a ∷ b ∷ c ∷ d ∷ e ∷ f ∷ []) (10 ∷ []))

-- ---- digits and a byte that is none

module _ (base b : ℕ) (none : base ≤ digit_of b) (rest : List ℕ) where
  digits_read : (pre ds : List ℕ) (n v : ℕ) → Digital base ds → length ds ≤ n
      → digits_from (pre ++ (ds ++ (b ∷ rest))) base n (length pre) v ≡ record { value = value_of base v ds; end = length pre + length ds }
  unfolding Digital value_of
  digits_read pre [] zero v h k =
      sym (digits_none (pre ++ (b ∷ rest)) base (length pre) v) ∙ ap (λ (e : ℕ). record { value = v; end = e })
      (let z : length pre ≡ length pre + 0 = omega arith in z)
  digits_read pre [] (suc n) v h k =
      sym (digits_stop (pre ++ (b ∷ rest)) base n (length pre) v (subst (λ (x : ℕ). base ≤ digit_of x) (sym (get_or-append_seam pre b rest 256)) none))
      ∙ ap (λ (e : ℕ). record { value = v; end = e }) (let z : length pre ≡ length pre + 0 = omega arith in z)
  digits_read pre (d ∷ ds) zero v h k = absurd (over (length ds) k)
    where
      over : (n : ℕ) → suc n ≤ 0 → ⊥
      over n h = omega arith
  digits_read pre (d ∷ ds) (suc n) v h k =
      let s = pre ++ (d ∷ (ds ++ (b ∷ rest))) in
      let at : byte_at s (length pre) ≡ d = get_or-append_seam pre d (ds ++ (b ∷ rest)) 256 in
      let q : suc (length pre) ≡ length (pre ++ (d ∷ [])) = let l = length-append pre (d ∷ []) in omega arith in
      let r = digits_read (pre ++ (d ∷ [])) ds n (base * v + digit_of d) h.1 (omega arith) in
      let z : length (pre ++ (d ∷ [])) + length ds ≡ length pre + suc (length ds) = omega arith in
      digits_on s base n (length pre) v (subst (λ (x : ℕ). digit_of x < base) (sym at) h.0)
      ∙ (ap (λ (x : ℕ). digits_from s base n (suc (length pre)) (base * v + digit_of x)) at
      ∙ (ap₂ (λ (x : List ℕ) (p : ℕ). digits_from x base n p (base * v + digit_of d)) (sym (append_assoc pre (d ∷ []) (ds ++ (b ∷ rest)))) q
      ∙ (r ∙ ap (λ (e : ℕ). record { value = value_of base (base * v + digit_of d) ds; end = e }) z)))

  -- a field and the byte after it
  field-read : (pre ds : List ℕ) (least up u : ℕ) → Digital base ds → least ≤ length ds → length ds ≤ up
      → record { value = value_of base 0 ds; next = length (pre ++ (ds ++ (b ∷ []))); good = true }
      ≡ field_after (pre ++ (ds ++ (b ∷ rest))) base least up b (record { value = u; next = length pre; good = true })
  field-read pre ds least up u h k l =
      let s = pre ++ (ds ++ (b ∷ rest)) in
      let at : byte_at s (length pre + length ds) ≡ b = get_or-append-add pre (ds ++ (b ∷ rest)) (length ds) 256 ∙ get_or-append_seam ds b rest 256 in
      let q : length (pre ++ (ds ++ (b ∷ []))) ≡ length pre + length ds + 1 =
      let i = length-append pre (ds ++ (b ∷ [])) in let j = length-append ds (b ∷ []) in omega arith in
      ap (λ (e : ℕ). record { value = value_of base 0 ds; next = e; good = true }) q
      ∙ field_is s base least up b (record { value = u; next = length pre; good = true }) (record { value = value_of base 0 ds; end = length pre + length ds })
      true
      (sym (digits_read pre ds up 0 h l))
      (rw (le-leb (length pre + least) (length pre + length ds) (omega arith), eq-eqb (byte_at s (length pre + length ds)) b at))

-- ---- fields, one after another

-- n is read, and the next field begins after pre
abbrev after : ℕ → List ℕ → Field
after n pre = record { value = n; next = length pre; good = true }

-- the text before a field, and the field with its byte
abbrev with : List ℕ → List ℕ → ℕ → List ℕ
with pre ds b = pre ++ (ds ++ (b ∷ []))

on : (bytes pre ds : List ℕ) (b : ℕ) (rest : List ℕ) → bytes ≡ pre ++ (ds ++ (b ∷ rest)) → bytes ≡ with pre ds b ++ rest
on bytes pre ds b rest e =
    e ∙ sym (append_assoc pre (ds ++ (b ∷ [])) rest ∙ ap (λ (l : List ℕ). pre ++ l) (append_assoc ds (b ∷ []) rest))

-- digits of a decimal field, and of a hex field
Tens : List ℕ → Type 0
Tens ds = Digital 10 ds × (1 ≤ length ds) × (length ds ≤ 19)

Hexes : List ℕ → Type 0
Hexes ds = Digital 16 ds × (length ds ≡ 16)

blank : 16 ≤ digit_of 32
unfolding digit_of
blank = omega arith

feed : 16 ≤ digit_of 10
unfolding digit_of
feed = omega arith

decimal-read : (bytes pre ds rest : List ℕ) (u : ℕ) → Tens ds → bytes ≡ pre ++ (ds ++ (32 ∷ rest))
    → after (value_of 10 0 ds) (with pre ds 32) ≡ decimal_after bytes (after u pre)
unfolding decimal_after Tens
decimal-read bytes pre ds rest u t e =
    field-read 10 32 (let k = blank in omega arith) rest pre ds 1 19 u t.0 t.1 t.2
    ∙ ap (λ (s : List ℕ). field_after s 10 1 19 32 (after u pre)) (sym e)

hex-read : (bytes pre ds rest : List ℕ) (b u : ℕ) → 16 ≤ digit_of b → Hexes ds → bytes ≡ pre ++ (ds ++ (b ∷ rest))
    → after (value_of 16 0 ds) (with pre ds b) ≡ hex_after bytes b (after u pre)
unfolding hex_after Hexes
hex-read bytes pre ds rest b u k t e =
    field-read 16 b k rest pre ds 16 16 u t.0 (let l = t.1 in omega arith) (let l = t.1 in omega arith)
    ∙ ap (λ (s : List ℕ). field_after s 16 16 16 b (after u pre)) (sym e)

-- ---- a line

module _ (a b c x y g : List ℕ) where
  -- what comes after each field but the last, and the whole
  abbrev gap_on : List ℕ → List ℕ
  gap_on rest = g ++ (10 ∷ rest)

  abbrev y_on : List ℕ → List ℕ
  y_on rest = y ++ (32 ∷ gap_on rest)

  abbrev x_on : List ℕ → List ℕ
  x_on rest = x ++ (32 ∷ y_on rest)

  abbrev orientation_on : List ℕ → List ℕ
  orientation_on rest = c ++ (32 ∷ x_on rest)

  abbrev copy_on : List ℕ → List ℕ
  copy_on rest = b ++ (32 ∷ orientation_on rest)

  abbrev spelled : List ℕ → List ℕ
  spelled rest = a ++ (32 ∷ copy_on rest)

  -- the text up to the line's end
  abbrev up_to : List ℕ → List ℕ
  up_to pre = with (with (with (with (with (with pre a 32) b 32) c 32) x 32) y 32) g 10

  module _ (bytes pre rest : List ℕ) (e : bytes ≡ pre ++ spelled rest) where
    p1 : List ℕ
    p1 = with pre a 32

    p2 : List ℕ
    p2 = with p1 b 32

    p3 : List ℕ
    p3 = with p2 c 32

    p4 : List ℕ
    p4 = with p3 x 32

    p5 : List ℕ
    p5 = with p4 y 32

    e1 : bytes ≡ p1 ++ copy_on rest
    unfolding p1
    e1 = on bytes pre a 32 (copy_on rest) e

    e2 : bytes ≡ p2 ++ orientation_on rest
    unfolding p2
    e2 = on bytes p1 b 32 (orientation_on rest) e1

    e3 : bytes ≡ p3 ++ x_on rest
    unfolding p3
    e3 = on bytes p2 c 32 (x_on rest) e2

    e4 : bytes ≡ p4 ++ y_on rest
    unfolding p4
    e4 = on bytes p3 x 32 (y_on rest) e3

    e5 : bytes ≡ p5 ++ gap_on rest
    unfolding p5
    e5 = on bytes p4 y 32 (gap_on rest) e4

    spelled_on : bytes ≡ up_to pre ++ rest
    unfolding p1 p2 p3 p4 p5
    spelled_on = on bytes p5 g 10 rest e5

    spelled_read : Tens a → Tens b → Tens c → Hexes x → Hexes y → Hexes g
        → record { kind = value_of 10 0 a; orientation = value_of 10 0 c; x = value_of 16 0 x; y = value_of 16 0 y; next = length (up_to pre); good = true }
        ≡ line_from bytes (length pre)
    unfolding p1 p2 p3 p4 p5
    spelled_read ta tb tc tx ty tg =
        line_is bytes (length pre) (after (value_of 10 0 a) p1) (after (value_of 10 0 b) p2) (after (value_of 10 0 c) p3) (after (value_of 16 0 x) p4)
        (after (value_of 16 0 y) p5) (after (value_of 16 0 g) (up_to pre))
        (decimal-read bytes pre a (copy_on rest) 0 ta e) (decimal-read bytes p1 b (orientation_on rest) (value_of 10 0 a) tb e1)
        (decimal-read bytes p2 c (x_on rest) (value_of 10 0 b) tc e2)
        (hex-read bytes p3 x (y_on rest) 32 (value_of 10 0 c) blank tx e3) (hex-read bytes p4 y (gap_on rest) 32 (value_of 16 0 x) blank ty e4)
        (hex-read bytes p5 g rest 10 (value_of 16 0 y) feed tg e5)

  line_spelled : (rest : List ℕ) → line put_word (a ∷ b ∷ c ∷ x ∷ y ∷ g ∷ []) ++ rest ≡ 112 ∷ 117 ∷ 116 ∷ 32 ∷ spelled rest
  line_spelled rest =
      ap (λ (l : List ℕ). l ++ rest) (sym (line-six put_word a b c x y g))
      ∙ ap (λ (l : List ℕ). 112 ∷ 117 ∷ 116 ∷ 32 ∷ l)
      (append_assoc a (32 ∷ copy_on []) rest ∙ ap (λ (l : List ℕ). a ++ (32 ∷ l))
      (append_assoc b (32 ∷ orientation_on []) rest ∙ ap (λ (l : List ℕ). b ++ (32 ∷ l))
      (append_assoc c (32 ∷ x_on []) rest ∙ ap (λ (l : List ℕ). c ++ (32 ∷ l))
      (append_assoc x (32 ∷ y_on []) rest ∙ ap (λ (l : List ℕ). x ++ (32 ∷ l))
      (append_assoc y (32 ∷ gap_on []) rest ∙ ap (λ (l : List ℕ). y ++ (32 ∷ l)) (append_assoc g (10 ∷ []) rest))))))

-- ---- a position's line

-- counts of at most 19 digits, and doubles
pub record Readable (p : Position) : Type 0 where
  pub kind_few : p.kind < most 10 19
  pub copy_few : p.copy < most 10 19
  pub orientation_few : p.orientation < most 10 19
  pub x_fits : T (fits binary64 p.x)
  pub y_fits : T (fits binary64 p.y)
  pub gap-fits : T (fits binary64 p.gap)

tens : (n : ℕ) → n < most 10 19 → Tens (decimal n)
unfolding Tens decimal
tens n h = (decimal_digital 20 n, decimal-some 19 n, decimal_short 19 20 n h (omega arith))

hexes : (v : Float) → Hexes (hex v)
unfolding Hexes hex
hexes v = (hex_digital 16 (to_bits binary64 v), hex-length v)

decimal_is : (n : ℕ) → n < most 10 19 → value_of 10 0 (decimal n) ≡ n
unfolding decimal most
decimal_is n h = decimal_value 20 n (omega arith) (omega arith)

hex_is : (v : Float) → T (fits binary64 v) → value_of 16 0 (hex v) ≡ to_bits binary64 v
unfolding hex most
hex_is v f = hex_value 16 (to_bits binary64 v) (let l = to_bits-lt binary64 v f in omega arith)

-- the numbers of a position's line
unfoldable pub position_numbers : Position → List ℕ
position_numbers p = p.kind ∷ p.orientation ∷ to_bits binary64 p.x ∷ to_bits binary64 p.y ∷ []

-- a line begins where it begins in what comes after pre
begins_on : (pre rest : List ℕ) → begins (pre ++ rest) (length pre) ≡ begins rest 0
unfolding begins
begins_on pre rest =
    let e : byte_at (pre ++ rest) (length pre) ≡ byte_at rest 0 =
    ap (λ (p : ℕ). byte_at (pre ++ rest) p) (sym (add-zero (length pre))) ∙ get_or-append-add pre rest 0 256 in
    rw (e, get_or-append-add pre rest 1 256, get_or-append-add pre rest 2 256, get_or-append-add pre rest 3 256)

begins-put : (pre rest : List ℕ) → begins (pre ++ (112 ∷ 117 ∷ 116 ∷ 32 ∷ rest)) (length pre) ≡ true
unfolding begins
begins-put pre rest = begins_on pre (112 ∷ 117 ∷ 116 ∷ 32 ∷ rest)

same_line : (a b c d e f g h i j : ℕ) → a ≡ f → b ≡ g → c ≡ h → d ≡ i → e ≡ j
    → ◌≡◌ {A = Line} (record { kind = a; orientation = b; x = c; y = d; next = e; good = true })
    (record { kind = f; orientation = g; x = h; y = i; next = j; good = true })
same_line a b c d e f g h i j p q r s t = rw (p, q, r, s, t)

module _ (p : Position) (pre : List ℕ) where
  start : List ℕ
  start = pre ++ (112 ∷ 117 ∷ 116 ∷ 32 ∷ [])

  abbrev whole : List ℕ
  whole = up_to (decimal p.kind) (decimal p.copy) (decimal p.orientation) (hex p.x) (hex p.y) (hex p.gap) start

  abbrev fields_of : List ℕ → List ℕ
  fields_of rest = spelled (decimal p.kind) (decimal p.copy) (decimal p.orientation) (hex p.x) (hex p.y) (hex p.gap) rest

  starts : (rest : List ℕ) → pre ++ (put_line p ++ rest) ≡ start ++ fields_of rest
  unfolding put_line start
  starts rest =
      ap (λ (l : List ℕ). pre ++ l)
      (line_spelled (decimal p.kind) (decimal p.copy) (decimal p.orientation) (hex p.x) (hex p.y) (hex p.gap) rest)
      ∙ sym (append_assoc pre (112 ∷ 117 ∷ 116 ∷ 32 ∷ []) (fields_of rest))

  whole_is : whole ≡ pre ++ put_line p
  whole_is =
      sym (append-nil whole)
      ∙ (sym (spelled_on (decimal p.kind) (decimal p.copy) (decimal p.orientation) (hex p.x) (hex p.y) (hex p.gap) (pre ++ (put_line p ++ []))
      start [] (starts []))
      ∙ ap (λ (l : List ℕ). pre ++ l) (append-nil (put_line p)))

  line_of : (rest : List ℕ) → Readable p
      → line_from (pre ++ (put_line p ++ rest)) (length pre + 4)
      ≡ record {
        kind = p.kind;
        orientation = p.orientation;
        x = to_bits binary64 p.x;
        y = to_bits binary64 p.y;
        next = length (pre ++ put_line p);
        good = true;
      }
  unfolding start
  line_of rest r =
      let s = pre ++ (put_line p ++ rest) in
      ap (λ (q : ℕ). line_from s q) (sym (length-append pre (112 ∷ 117 ∷ 116 ∷ 32 ∷ [])))
      ∙ (sym (spelled_read (decimal p.kind) (decimal p.copy) (decimal p.orientation) (hex p.x) (hex p.y) (hex p.gap) s start rest
      (starts rest)
      (tens p.kind r.kind_few) (tens p.copy r.copy_few) (tens p.orientation r.orientation_few) (hexes p.x) (hexes p.y) (hexes p.gap))
      ∙ same_line (value_of 10 0 (decimal p.kind)) (value_of 10 0 (decimal p.orientation)) (value_of 16 0 (hex p.x)) (value_of 16 0 (hex p.y))
      (length whole)
      p.kind p.orientation (to_bits binary64 p.x) (to_bits binary64 p.y) (length (pre ++ put_line p))
      (decimal_is p.kind r.kind_few) (decimal_is p.orientation r.orientation_few) (hex_is p.x r.x_fits) (hex_is p.y r.y_fits)
      (ap length whole_is))

  begins-line : (rest : List ℕ) → begins (pre ++ (put_line p ++ rest)) (length pre) ≡ true
  unfolding put_line
  begins-line rest =
      ap (λ (l : List ℕ). begins (pre ++ l) (length pre))
      (line_spelled (decimal p.kind) (decimal p.copy) (decimal p.orientation) (hex p.x) (hex p.y) (hex p.gap) rest)
      ∙ begins-put pre (fields_of rest)

-- ---- all lines

numbers_of : (p : Position) (pre : List ℕ)
    → line_numbers (record {
      kind = p.kind;
      orientation = p.orientation;
      x = to_bits binary64 p.x;
      y = to_bits binary64 p.y;
      next = length
          (pre ++ put_line p);
      good = true;
    }) ≡ position_numbers p
unfolding line_numbers position_numbers
numbers_of p pre = refl

-- every position is readable
unfoldable pub Readables : List Position → Type 0
Readables [] = ℕ
Readables (p ∷ ps) = Readable p × Readables ps

same_list : (n m p q : ℕ) (k l : List ℕ) → n ≡ m → p ≡ q → k ≡ l
    → ◌≡◌ {A = PutList} (record { found = Ok (n, p); numbers = k }) (record { found = Ok (m, q); numbers = l })
same_list n m p q k l e f g = rw (e, f, g)

module _ (job : List ℕ) (none : begins job 0 ≡ false) where
  lines_read : (ps : List Position) (pre ns : List ℕ) (n m : ℕ) → Readables ps → length ps ≤ m
      → lines_from (pre ++ (flat_map put_line ps ++ job)) m (length pre) ns n
      ≡ record { found = Ok (n + length ps, length (pre ++ flat_map put_line ps)); numbers = ns ++ flat_map position_numbers ps }
  unfolding Readables flat_map
  lines_read [] pre ns n m r h =
      sym (lines_end (pre ++ job) m (length pre) ns n (begins_on pre job ∙ none))
      ∙ same_list n (n + 0) (length pre) (length (pre ++ [])) ns (ns ++ []) (omega arith) (ap length (sym (append-nil pre))) (sym (append-nil ns))
  lines_read (p ∷ ps) pre ns n zero r h = absurd (over (length ps) h)
    where
      over : (n : ℕ) → suc n ≤ 0 → ⊥
      over n h = omega arith
  lines_read (p ∷ ps) pre ns n (suc m) r h =
      let rest = flat_map put_line ps ++ job in
      let s = pre ++ (put_line p ++ rest) in
      let l : Line = record {
        kind = p.kind;
        orientation = p.orientation;
        x = to_bits binary64 p.x;
        y = to_bits binary64 p.y;
        next = length
            (pre ++ put_line p);
        good = true;
      } in
      let e : line_from s (length pre + 4) ≡ l = line_of p pre rest r.0 in
      let i = lines_read ps (pre ++ put_line p) (ns ++ position_numbers p) (suc n) m r.1 (omega arith) in
      ap (λ (t : List ℕ). lines_from (pre ++ t) (suc m) (length pre) ns n) (append_assoc (put_line p) (flat_map put_line ps) job)
      ∙ (lines_on s m (length pre) ns n (begins-line p pre rest) (ap (λ (k : Line). k.good) e)
      ∙ (ap (λ (k : Line). lines_from s m k.next (ns ++ line_numbers k) (suc n)) e
      ∙ (ap (λ (t : List ℕ). lines_from s m (length (pre ++ put_line p)) (ns ++ t) (suc n)) (numbers_of p pre)
      ∙ (ap (λ (t : List ℕ). lines_from t m (length (pre ++ put_line p)) (ns ++ position_numbers p) (suc n)) (sym (append_assoc pre (put_line p) rest))
      ∙ (i ∙ same_list (suc n + length ps) (n + suc (length ps)) (length ((pre ++ put_line p) ++ flat_map put_line ps))
      (length (pre ++ (put_line p ++ flat_map put_line ps)))
      ((ns ++ position_numbers p) ++ flat_map position_numbers ps) (ns ++ (position_numbers p ++ flat_map position_numbers ps))
      (omega arith) (ap length (append_assoc pre (put_line p) (flat_map put_line ps))) (append_assoc ns (position_numbers p) (flat_map position_numbers ps)))))))

  -- what `plan` prints as `put` lines, and a job that begins with no such line: read as so many lines, with their numbers, and the job after them
  pub plan-read : (ps : List Position) (m : ℕ) → Readables ps → length ps ≤ m
      → put_list m (flat_map put_line ps ++ job) ≡ record { found = Ok (length ps, length (flat_map put_line ps)); numbers = flat_map position_numbers ps }
  unfolding put_list
  plan-read ps m r h =
      lines_read ps [] [] 0 m r h
      ∙ same_list (0 + length ps) (length ps) (length (flat_map put_line ps)) (length (flat_map put_line ps)) (flat_map position_numbers ps)
      (flat_map position_numbers ps)
      (omega arith) refl refl
