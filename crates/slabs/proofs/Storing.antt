-- Laws of a room that holds strips: what it holds after a list of them, and that the count tells whether they fit. Assumes nothing.
use Prim.Native.Nat.{ℕ, zero, suc, ◌+◌, ◌-◌, ◌*◌, ◌/◌, ◌≤◌, ◌<◌}
use native.Mathlib.Omega.{arith}
use mathlib.Core.Path.{◌≡◌, refl, ap, sym, ◌∙◌}
use mathlib.Core.List.{List, [], ◌∷◌, ◌++◌, append_assoc}
use mathlib.Core.Bool.{Bool, true, false, ◌&&◌}
use lib.ListN.{length, take, drop, take-append-drop}
use lib.Seq.{length-take-le}
use lib.Dec.{ltb}
use lib.Ieee.{Float}
use borrow.Author.Tests.{lt-ltb, le-ltb, ltb-true, ltb-false}
use Rattle.trapezoid.specs.declared.Trapezoid.{Trapezoid}
use Rattle.trapezoid.specs.Strip.{flat, capacity}
use Rattle.trapezoid.specs.inner.Writing.{set_strip}
use Rattle.trapezoid.proofs.Strips.{length-set_strip, take-strip, drop-strip}
use Rattle.slabs.specs.Slab.{kept, piece}
use Rattle.slabs.specs.inner.Tables.{Held, put, hold}

pub put-fits : (r : List Float) (n : ℕ) (s : Trapezoid) → n < length r / 6 → put (record { room = r; count = n }) s ≡ record { room = set_strip r n s; count = n + 1 }
unfolding put capacity
put-fits r n s h = rw (lt-ltb n (length r / 6) h, put)

pub put_over : (r : List Float) (n : ℕ) (s : Trapezoid) → length r / 6 ≤ n → put (record { room = r; count = n }) s ≡ record { room = r; count = length r / 6 + 1 }
unfolding put capacity
put_over r n s h = rw (le-ltb n (length r / 6) h, put)

-- the code's test, by the room's capacity
pub put_stores : (r r' : List Float) (n cap : ℕ) (s : Trapezoid) → cap ≡ capacity r → n < cap → r' ≡ set_strip r n s → record { room = r'; count = n + 1 } ≡ put (record { room = r; count = n }) s
unfolding capacity
put_stores r r' n cap s e h f = ap (λ (x : List Float). record { room = x; count = n + 1 }) f ∙ sym (put-fits r n s (let z : cap ≡ length r / 6 = e in omega arith))

pub put_stops : (r : List Float) (n cap : ℕ) (s : Trapezoid) → cap ≡ capacity r → cap ≤ n → record { room = r; count = cap + 1 } ≡ put (record { room = r; count = n }) s
unfolding capacity
put_stops r n cap s e h = ap (λ (x : ℕ). record { room = r; count = x + 1 }) e ∙ sym (put_over r n s (let z : cap ≡ length r / 6 = e in omega arith))

pub cap_next : (r : List Float) (cap : ℕ) → cap ≡ capacity r → cap ≤ length r
unfolding capacity
cap_next r cap e = let z : cap ≡ length r / 6 = e in omega arith

pub hold_append : (h : Held) (a b : List Trapezoid) → hold h (a ++ b) ≡ hold (hold h a) b
unfolding hold
hold_append h [] b = refl
hold_append h (s ∷ a) b = hold_append (put h s) a b

pub piece-kept : (h : Held) (b : Bool) (s : Trapezoid) → b && kept s ≡ true → hold h (piece b s) ≡ put h s
unfolding hold piece
piece-kept h b s e = rw (e, piece)

pub piece-none : (h : Held) (b : Bool) (s : Trapezoid) → b && kept s ≡ false → hold h (piece b s) ≡ h
unfolding hold piece
piece-none h b s e = rw (e, piece)

pub hold-fits : (r : List Float) (n : ℕ) (ss : List Trapezoid) → 6 * (n + length ss) ≤ length r → hold (record { room = r; count = n }) ss ≡ record { room = take (6 * n) r ++ (flat ss ++ drop (6 * (n + length ss)) r); count = n + length ss }
unfolding hold flat
hold-fits r n [] h =
    let e : n + 0 ≡ n = omega arith in
    rw (e, take-append-drop (6 * n) r)
hold-fits r n (s ∷ ss) h =
    let r1 = set_strip r n s in
    let e : n + 1 + length ss ≡ n + suc (length ss) = omega arith in
    ap (λ (x : Held). hold x ss) (put-fits r n s (omega arith))
    ∙ (hold-fits r1 (n + 1) ss (rw length-set_strip (omega arith))
    ∙ rw (take-strip r n s (omega arith), e, drop-strip r n (6 * (n + suc (length ss))) s (omega arith), append_assoc))

hold_stuck : (r : List Float) (n : ℕ) (ss : List Trapezoid) → n ≡ length r / 6 + 1 → hold (record { room = r; count = n }) ss ≡ record { room = r; count = n }
unfolding hold
hold_stuck r n [] h = refl
hold_stuck r n (s ∷ ss) h = ap (λ (x : Held). hold x ss) (put_over r n s (omega arith) ∙ ap (λ (k : ℕ). record { room = r; count = k }) (sym h)) ∙ hold_stuck r n ss h

pub hold_over : (r : List Float) (n : ℕ) (ss : List Trapezoid) → n ≤ length r / 6 → length r < 6 * (n + length ss) → (hold (record { room = r; count = n }) ss).count ≡ length r / 6 + 1
unfolding hold
hold_over r n [] l h = absurd (omega arith)
hold_over r n (s ∷ ss) l h =
    go (ltb n (length r / 6)) refl (λ z. hold_over (set_strip r n s) (n + 1) ss (rw length-set_strip (omega arith)) (rw length-set_strip (omega arith)))
  where
    go : (b : Bool) → ltb n (length r / 6) ≡ b → (n < length r / 6 → (hold (record { room = set_strip r n s; count = n + 1 }) ss).count ≡ length (set_strip r n s) / 6 + 1) → (hold (record { room = r; count = n }) (s ∷ ss)).count ≡ length r / 6 + 1
    go true e ih =
        let z : n < length r / 6 = ltb-true n (length r / 6) e in
        ap (λ (x : Held). (hold x ss).count) (put-fits r n s z) ∙ (ih z ∙ ap (λ (k : ℕ). k / 6 + 1) (length-set_strip r n s))
    go false e ih =
        let z : length r / 6 ≤ n = ltb-false n (length r / 6) e in
        ap (λ (x : Held). (hold x ss).count) (put_over r n s z) ∙ ap (λ (x : Held). x.count) (hold_stuck r (length r / 6 + 1) ss refl)

-- ---- the room in every case
hold-length : (r : List Float) (n : ℕ) (ss : List Trapezoid) → length (hold (record { room = r; count = n }) ss).room ≡ length r
unfolding hold
hold-length r n [] = refl
hold-length r n (s ∷ ss) = go (ltb n (length r / 6)) refl (hold-length (set_strip r n s) (n + 1) ss) (hold-length r (length r / 6 + 1) ss)
  where
    go : (b : Bool) → ltb n (length r / 6) ≡ b → length (hold (record { room = set_strip r n s; count = n + 1 }) ss).room ≡ length (set_strip r n s) → length (hold (record { room = r; count = length r / 6 + 1 }) ss).room ≡ length r → length (hold (put (record { room = r; count = n }) s) ss).room ≡ length r
    go true e f g = ap (λ (x : Held). length (hold x ss).room) (put-fits r n s (ltb-true n (length r / 6) e)) ∙ (f ∙ length-set_strip r n s)
    go false e f g = ap (λ (x : Held). length (hold x ss).room) (put_over r n s (ltb-false n (length r / 6) e)) ∙ g

hold_full : (r : List Float) (n : ℕ) (ss : List Trapezoid) → length r / 6 ≤ n → (hold (record { room = r; count = n }) ss).room ≡ r
unfolding hold
hold_full r n [] h = refl
hold_full r n (s ∷ ss) h = ap (λ (x : Held). (hold x ss).room) (put_over r n s h) ∙ hold_full r (length r / 6 + 1) ss (omega arith)

pub take_all : {A : Type 0} (l : List A) (n : ℕ) → length l ≤ n → take n l ≡ l
take_all [] zero h = refl
take_all [] (suc n) h = refl
take_all (a ∷ l) zero h = absurd (omega arith)
take_all {A} (a ∷ l) (suc n) h = ap (λ (m : List A). a ∷ m) (take_all l n (omega arith))

abbrev pub part : List Float → ℕ → List Trapezoid → List Float
part r n ss = take (6 * n) r ++ (flat ss ++ drop (6 * (n + length ss)) r)

-- the strips that fit are laid
pub hold-room : (r : List Float) (n : ℕ) (ss : List Trapezoid) → n ≤ length r / 6 → (hold (record { room = r; count = n }) ss).room ≡ part r n (take (length r / 6 - n) ss)
hold-room r n ss l = go (ltb (length r / 6 - n) (length ss)) refl
  where
    go : (b : Bool) → ltb (length r / 6 - n) (length ss) ≡ b → (hold (record { room = r; count = n }) ss).room ≡ part r n (take (length r / 6 - n) ss)
    go true e =
        let m = length r / 6 - n in
        let z : m < length ss = ltb-true m (length ss) e in
        let a = take m ss in
        let b = drop m ss in
        let la : length a ≡ m = length-take-le m ss (omega arith) in
        let f = hold-fits r n a (omega arith) in
        let h = hold (record { room = r; count = n }) a in
        let lh : length h.room ≡ length r = hold-length r n a in
        let ch : h.count ≡ n + length a = ap (λ (x : Held). x.count) f in
        ap (λ (x : List Trapezoid). (hold (record { room = r; count = n }) x).room) (sym (take-append-drop m ss))
        ∙ (ap (λ (x : Held). x.room) (hold_append (record { room = r; count = n }) a b)
        ∙ (hold_full h.room h.count b (omega arith) ∙ ap (λ (x : Held). x.room) f))
    go false e =
        let m = length r / 6 - n in
        let z : length ss ≤ m = ltb-false m (length ss) e in
        ap (λ (x : Held). x.room) (hold-fits r n ss (omega arith)) ∙ ap (λ (x : List Trapezoid). part r n x) (sym (take_all ss m z))
