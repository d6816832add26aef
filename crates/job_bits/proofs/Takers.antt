-- Laws of takers: what is taken one after the other, how long it is, and what was judged. Assumes nothing.
use Rattle.std.specs.Prelude.{Result, Ok, Err}
use mathlib.Core.Path.{◌≡◌, refl, sym, ap, ap₂, subst, ◌∙◌}
use Prim.Native.Nat.{ℕ, zero, suc, ◌+◌, ◌-◌, ◌*◌, ◌≤◌, ◌<◌}
use mathlib.Core.Bool.{Bool, true, false, ◌&&◌, cond}
use lib.Dec.{leb, ltb}
use borrow.Author.Tests.{leb-true, ltb-true}
use native.Mathlib.Omega.{arith}
use mathlib.Core.List.{List, [], ◌∷◌, ◌++◌, flat_map}
use lib.ListN.{length, get_or, length-append}
use lib.Seq.{take_at, drop_at}
use lib.Ieee.{Float, binary64, to_bits}
use Rattle.numbers.proofs.Truth.{zero-not-one}
use Rattle.bits.specs.declared.Refusal.{Refusal}
use Rattle.bits.specs.declared.Refusal.TheVariants.{CountOutOfRange}
use Rattle.bits.specs.Fields.{judge_count, judge_points}
use Rattle.bits.specs.inner.Answers.{count_of}
use Rattle.bits.proofs.Judging.{points-most}
use Rattle.kinds.specs.sets.Sets.{Set}
use Rattle.bit_writer.specs.Packed.{binary}
use Rattle.bit_writer.proofs.Bits.{binary-length}
use Rattle.job_bits.specs.JobBits.{double_bits, loops_bits, set_bits}
use Rattle.job_bits.specs.inner.Loops.{loop_bits}
use Rattle.job_bits.specs.Given.{Taken, ok, bad, after, counted, measured, next_loops, next_points, next_coordinate, given_points, given_loops, given_set}

-- ---- one after the other
pub bad-first : {A B : Type 0} (t : Taken A) (f : A → ℕ → ℕ → Taken B) (k : Refusal) → t ≡ bad k → after t f ≡ bad k
unfolding after
bad-first t f k e = ap (λ x. after x f) e

pub ok_then : {A B : Type 0} (t : Taken A) (f : A → ℕ → ℕ → Taken B) (a : A) (c x : ℕ) → t ≡ ok a c x → after t f ≡ f a c x
unfolding after
ok_then t f a c x e = ap (λ y. after y f) e

-- ---- what a taker has taken
pub after_ok : {A B : Type 0} (t : Taken A) (f : A → ℕ → ℕ → Taken B) (b : B) (d y : ℕ) → after t f ≡ ok b d y → (a : A) × (c : ℕ) × (x : ℕ) × (t ≡ ok a c x) ×
    (f a c x ≡ ok b d y)
unfolding after
after_ok (ok a c x) f b d y e = (a, c, x, refl, e)
after_ok (bad k) f b d y e = absurd (zero-not-one (cc))

pub ok_value : {A : Type 0} {a b : A} {c x d y : ℕ} → ok a c x ≡ ok b d y → a ≡ b
ok_value e = cc

pub points-length : (n : ℕ) (cs : List ℕ) (xs : List Float) (c x : ℕ) (ps : List Float) (d y : ℕ) → given_points n cs xs c x ≡ ok ps d y → length ps ≡ 2 * n
unfolding given_points
points-length zero cs xs c x ps d y e = ap length (sym (ok_value e))
points-length (suc n) cs xs c x ps d y e =
    let p = after_ok (next_coordinate cs xs c x) (λ a c x. after (next_coordinate cs xs c x)
    (λ b c x. after (given_points n cs xs c x) (λ ps c x. ok (a ∷ b ∷ ps) c x))) ps d y e in
    let q = after_ok (next_coordinate cs xs p.1 p.2) (λ b c x. after (given_points n cs xs c x) (λ ps c x. ok (p.0 ∷ b ∷ ps) c x)) ps d y p.4 in
    let r = after_ok (given_points n cs xs q.1 q.2) (λ ps c x. ok (p.0 ∷ q.0 ∷ ps) c x) ps d y q.4 in
    sym (ap length (ok_value r.4)) ∙ z (length r.0) n (points-length n cs xs q.1 q.2 r.0 r.1 r.2 r.3)
  where
    z : (l n : ℕ) → l ≡ 2 * n → suc (suc l) ≡ 2 * suc n
    z l n e = omega arith

-- the bits of one more loop
pub loop_bits_lem : (before p : ℕ) (ps : List Float) (s : Set) → length ps ≡ 2 * p → loop_bits before
    (record { points = ps ++ s.points; ends = (before + p) ∷ s.ends }) ≡ binary 10 p ++ (flat_map double_bits ps ++ loop_bits (before + p) s)
unfolding loops_bits
loop_bits_lem before p ps s l =
    let m : before + p - before ≡ p = omega arith in
    let k : length ps ≡ 2 * (before + p - before) = omega arith in
    ap₂ (λ (x : ℕ) (y : List ℕ). binary 10 x ++ y) m
    (ap₂ (λ (x y : List Float). flat_map double_bits x ++ loops_bits (before + p) s.ends y) (take_at ps s.points _ k) (drop_at ps s.points _ k))

pub loops_length : (n before : ℕ) (cs : List ℕ) (xs : List Float) (c x : ℕ) (s : Set) (d y : ℕ) → given_loops n before cs xs c x ≡ ok s d y → length s.ends ≡
    n
unfolding given_loops
loops_length zero before cs xs c x s d y e = ap (λ (t : Set). length t.ends) (sym (ok_value e))
loops_length (suc n) before cs xs c x s d y e =
    let p = after_ok (next_points before cs xs c x) (λ p c x. after (given_points p cs xs c x)
    (λ ps c x. after (given_loops n (before + p) cs xs c x) (λ s c x. ok (record { points = ps ++ s.points; ends = (before + p) ∷ s.ends }) c x))) s d y
    e in
    let q = after_ok (given_points p.0 cs xs p.1 p.2) (λ ps c x. after (given_loops n (before + p.0) cs xs c x)
    (λ s c x. ok (record { points = ps ++ s.points; ends = (before + p.0) ∷ s.ends }) c x)) s d y p.4 in
    let r = after_ok (given_loops n (before + p.0) cs xs q.1 q.2) (λ s c x. ok (record { points = q.0 ++ s.points; ends = (before + p.0) ∷ s.ends }) c
    x) s d y q.4 in
    ap (λ (t : Set). length t.ends) (sym (ok_value r.4)) ∙ ap suc (loops_length n (before + p.0) cs xs q.1 q.2 r.0 r.1 r.2 r.3)

-- ---- what was judged
pub fits_was : (w n c x : ℕ) (u : Unit {0}) (d y : ℕ) → cond (ltb n w) (ok tt c x) (bad CountOutOfRange) ≡ ok u d y → n < w
fits_was w n c x u d y e = go (ltb n w) (ltb-true n w) e
  where
    go : (b : Bool) → (b ≡ true → n < w) → cond b (ok tt c x) (bad CountOutOfRange) ≡ ok u d y → n < w
    go true f e = f refl
    go false f e = absurd (zero-not-one (cc))

pub measured_was : (t : Result Float Refusal) (c x : ℕ) (v : Float) (d y : ℕ) → measured t c x ≡ ok v d y → t ≡ Ok v
measured_was (Ok u) c x v d y e = ap Ok (ok_value e)
measured_was (Err k) c x v d y e = absurd (zero-not-one (cc))

pub counted_was : (t : Result ℕ Refusal) (c x n d y : ℕ) → counted t c x ≡ ok n d y → t ≡ Ok n
counted_was (Ok u) c x n d y e = ap Ok (ok_value e)
counted_was (Err k) c x n d y e = absurd (zero-not-one (cc))

pub counted_ok : (least most n c x m d y : ℕ) → counted (judge_count least most n) c x ≡ ok m d y → (m ≡ n) × (m ≤ most)
unfolding judge_count
counted_ok least most n c x m d y e = go (leb least n) (leb n most) (leb-true n most) e
  where
    go : (a b : Bool) → (b ≡ true → n ≤ most) → counted (cond (a && b) (Ok n) (Err CountOutOfRange)) c x ≡ ok m d y → (m ≡ n) × (m ≤ most)
    go true true f e = (sym (ok_value e), subst (λ (z : ℕ). z ≤ most) (ok_value e) (f refl))
    go true false f e = absurd (zero-not-one (cc))
    go false b f e = absurd (zero-not-one (cc))

-- ---- how many bits a set has
pub doubles_length : (xs : List Float) → length (flat_map double_bits xs) ≡ 64 * length xs
unfolding flat_map double_bits
doubles_length [] = refl
doubles_length (x ∷ xs) =
    length-append (double_bits x) (flat_map double_bits xs) ∙ omega (arith, binary-length 64 (to_bits binary64 x), doubles_length xs)

loops_few : (n before : ℕ) (cs : List ℕ) (xs : List Float) (c x : ℕ) (s : Set) (d y : ℕ) → before ≤ 512 → given_loops n before cs xs c x ≡ ok s d y
    → length (loop_bits before s) + 128 * before ≤ 10 * n + 65536
unfolding given_loops next_points loops_bits
loops_few zero before cs xs c x s d y h e =
    subst (λ (t : Set). length (loop_bits before t) + 128 * before ≤ 65536) (ok_value e) (omega arith)
loops_few (suc n) before cs xs c x s d y h e =
    let p = after_ok (next_points before cs xs c x) (λ p c x. after (given_points p cs xs c x)
    (λ ps c x. after (given_loops n (before + p) cs xs c x) (λ s c x. ok (record { points = ps ++ s.points; ends = (before + p) ∷ s.ends }) c x))) s d y
    e in
    let m = p.0 in
    let q = after_ok (given_points m cs xs p.1 p.2) (λ ps c x. after (given_loops n (before + m) cs xs c x)
    (λ s c x. ok (record { points = ps ++ s.points; ends = (before + m) ∷ s.ends }) c x)) s d y p.4 in
    let ps = q.0 in
    let r = after_ok (given_loops n (before + m) cs xs q.1 q.2) (λ s c x. ok (record { points = ps ++ s.points; ends = (before + m) ∷ s.ends }) c x) s d
    y q.4 in
    let t = r.0 in
    let l : length ps ≡ 2 * m = points-length m cs xs p.1 p.2 ps q.1 q.2 q.3 in
    let few : before + m ≤ 512 =
    subst (λ (k : ℕ). before + k ≤ 512) (ap count_of (counted_was (judge_points before (get_or cs c 0)) (suc c) x m p.1 p.2 p.3))
    (points-most before (get_or cs c 0) h) in
    let rest = loops_few n (before + m) cs xs q.1 q.2 t r.1 r.2 few r.3 in
    let own = loop_bits_lem before m ps t l in
    let long = ap length own ∙ length-append (binary 10 m) _ in
    subst (λ (t : Set). length (loop_bits before t) + 128 * before ≤ 10 * suc n + 65536) (ok_value r.4)
    (omega (arith, long, length-append (flat_map double_bits ps) (loop_bits (before + m) t), binary-length 10 m, doubles_length ps, l, rest))

-- a set of 64 loops and 512 points has the most: 7 + 64 × 10 + 512 × 128
pub set-few : (cs : List ℕ) (xs : List Float) (c x : ℕ) (s : Set) (d y : ℕ) → given_set cs xs c x ≡ ok s d y → length (set_bits s) ≤ 66183
unfolding given_set next_loops set_bits
set-few cs xs c x s d y e =
    let p = after_ok (counted (judge_count 1 64 (get_or cs c 0)) (suc c) x) (λ n c x. given_loops n 0 cs xs c x) s d y e in
    let few = (counted_ok 1 64 (get_or cs c 0) _ _ _ _ _ p.3).1 in
    let l = loops_few p.0 0 cs xs p.1 p.2 s d y (zero≤ 512) p.4 in
    omega (arith, length-append (binary 7 (length s.ends)) (loop_bits 0 s), binary-length 7 (length s.ends), few, l)
  where
    zero≤ : (n : ℕ) → 0 ≤ n
    zero≤ n = omega arith
