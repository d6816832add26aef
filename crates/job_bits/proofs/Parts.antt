-- What is written reads as it was: fields, points, loops, sets. Assumes nothing.
use Rattle.std.specs.Prelude.{Result, Ok, Err}
use Rattle.bits.specs.declared.Refusal.{Refusal}
use mathlib.Core.Path.{◌≡◌, refl, sym, ap, subst, subst⁻¹, ◌∙◌}
use Prim.Native.Nat.{ℕ, zero, suc, ◌+◌, ◌^◌, ◌≤◌, ◌<◌}
use native.Mathlib.Omega.{arith}
use native.Mathlib.Nat.{add-zero}
use mathlib.Core.Bool.{Bool, true, false, ◌&&◌, cond}
use mathlib.Core.List.{List, [], ◌∷◌, ◌++◌, flat_map, append_assoc, append-nil}
use lib.ListN.{length, get_or, length-append}
use lib.Dec.{leb, lit<}
use borrow.Author.Tests.{leb-true}
use lib.Ieee.{Float, nan, binary64, to_bits}
use Rattle.numbers.proofs.Truth.{zero-not-one}
use Rattle.bits.specs.declared.Refusal.TheVariants.{CountOutOfRange}
use Rattle.bits.specs.Reading.{ok, Reader, after, ◌>>=◌, ◌>>◌, give, bits}
use Rattle.bits.specs.Fields.{Field, loops_field, judge_count, in_set, judge_points, counted, count, point_count, Range, coordinate_range, judge_number, measured, number, point}
use Rattle.kinds.specs.sets.Sets.{Set, Points, some_points, a_loop, some_loops, a_set}
use Rattle.bit_writer.specs.Packed.{binary, packed}
use Rattle.bit_writer.proofs.Bits.{binary-length}
use Rattle.job_bits.specs.JobBits.{double_bits, loops_bits, set_bits}
use Rattle.job_bits.specs.Given as given
use Rattle.job_bits.specs.Given.{next_coordinate, next_points, next_loops, given_points, given_loops, given_set}
use Rattle.job_bits.specs.inner.Loops.{loop_bits}
use Rattle.job_bits.proofs.Takers.{after_ok, ok_value, counted_was, measured_was, loop_bits_lem, points-length, loops_length}
use Rattle.job_bits.proofs.Reading.{AllBits, At, at_first, at_second, bits-read}
use Rattle.job_bits.proofs.Doubles.{ok-value, judged_again}

-- ---- readers of bits that stand somewhere
-- wherever the bits x stand, m reads a there, and stops behind them
unfoldable pub Reads : {A : Type 0} → Reader A → List ℕ → A → Type 0
Reads m x a = (l : List ℕ) → AllBits l → (p : ℕ) → At l p x → m (packed l) p ≡ ok a (p + length x)

pub reads_then : {A B : Type 0} (m : Reader A) (f : A → Reader B) (x y : List ℕ) (a : A) (b : B) → Reads m x a → Reads (f a) y b → Reads (m >>= f) (x ++ y) b
unfolding Reads after
reads_then m f x y a b M F l A p T =
    ap (λ r. after r (λ a q. f a (packed l) q)) (M l A p (at_first l p x y T))
    ∙ F l A (p + length x) (at_second l p (length x) x y refl T)
    ∙ ap (λ (q : ℕ). ok b q) (z p (length x) (length y) (length (x ++ y)) (length-append x y))
  where
    z : (p a b c : ℕ) → c ≡ a + b → p + a + b ≡ p + c
    z p a b c e = omega arith

pub reads_skip : {A B : Type 0} (m : Reader A) (f : Reader B) (x y : List ℕ) (a : A) (b : B) → Reads m x a → Reads f y b → Reads (m >> f) (x ++ y) b
unfolding Reads
reads_skip m f x y a b M F = reads_then m (λ z. f) x y a b M F

pub reads_give : {A : Type 0} (a : A) → Reads (give a) [] a
unfolding Reads
reads_give a l A p T = ap (λ (q : ℕ). ok a q) (sym (add-zero p))

pub reads_same : {A : Type 0} (m : Reader A) (x y : List ℕ) (a : A) → x ≡ y → Reads m x a → Reads m y a
reads_same m x y a e R = subst (λ (z : List ℕ). Reads m z a) e R

-- behind the last part nothing stands
pub reads_last : {A B : Type 0} (m : Reader A) (f : A → Reader B) (x : List ℕ) (a : A) (b : B) → Reads m x a → Reads (f a) [] b → Reads (m >>= f) x b
reads_last m f x a b M F = reads_same (m >>= f) (x ++ []) x b (append-nil x) (reads_then m f x [] a b M F)

-- ---- numbers
pub bits_reads : (w n : ℕ) → n < 2 ^ w → Reads (bits w) (binary w n) n
unfolding Reads
bits_reads w n h l A p T = bits-read l A p w n T h ∙ ap (λ (k : ℕ). ok n (p + k)) (sym (binary-length w n))

judged-count : (least most n m : ℕ) → judge_count least most n ≡ Ok m → (n ≡ m) × (m ≤ most)
unfolding judge_count
judged-count least most n m e = go (leb least n) (leb n most) (leb-true n most) e
  where
    go : (a b : Bool) → (b ≡ true → n ≤ most) → cond (a && b) (Ok n) (Err CountOutOfRange) ≡ Ok m → (n ≡ m) × (m ≤ most)
    go true true f e = (ok-value e, subst (λ (x : ℕ). x ≤ most) (ok-value e) (f refl))
    go true false f e = absurd (zero-not-one (cc))
    go false b f e = absurd (zero-not-one (cc))

pub count_reads : (f : Field) (n m : ℕ) → judge_count f.least f.most n ≡ Ok m → f.most < 2 ^ f.width → Reads (count f) (binary f.width m) m
unfolding Reads count after
count_reads f n m e h l A p T =
    let j = judged-count f.least f.most n m e in
    let s : m < 2 ^ f.width = z m f.most (2 ^ f.width) j.1 h in
    ap (λ r. after r (λ n q. counted (judge_count f.least f.most n) q)) (bits_reads f.width m s l A p T)
    ∙ ap (λ (t : Result ℕ Refusal). counted t (p + length (binary f.width m))) (ap (judge_count f.least f.most) (sym j.0) ∙ e)
  where
    z : (m a b : ℕ) → m ≤ a → a < b → m < b
    z m a b h l = omega arith

judged-points : (before n m : ℕ) → judge_points before n ≡ Ok m → (n ≡ m) × (m ≤ 512)
unfolding judge_points in_set
judged-points before n m e = go (judge_count 3 512 n) (λ k f. judged-count 3 512 n k f) e
  where
    go : (t : Result ℕ Refusal) → ((k : ℕ) → t ≡ Ok k → (n ≡ k) × (k ≤ 512)) → in_set before t ≡ Ok m → (n ≡ m) × (m ≤ 512)
    go (Ok k) f e = fit (leb (before + k) 512) (f k refl) e
      where
        fit : (b : Bool) → (n ≡ k) × (k ≤ 512) → cond b (Ok k) (Err CountOutOfRange) ≡ Ok m → (n ≡ m) × (m ≤ 512)
        fit true g e = (g.0 ∙ ok-value e, subst (λ (x : ℕ). x ≤ 512) (ok-value e) g.1)
        fit false g e = absurd (zero-not-one (cc))
    go (Err k) f e = absurd (zero-not-one (cc))

pub points-count_reads : (before n m : ℕ) → judge_points before n ≡ Ok m → Reads (point_count before) (binary 10 m) m
unfolding Reads point_count after
points-count_reads before n m e l A p T =
    let j = judged-points before n m e in
    let s : m < 2 ^ 10 = z m j.1 in
    ap (λ r. after r (λ n q. counted (judge_points before n) q)) (bits_reads 10 m s l A p T)
    ∙ ap (λ (t : Result ℕ Refusal). counted t (p + length (binary 10 m))) (ap (judge_points before) (sym j.0) ∙ e)
  where
    z : (m : ℕ) → m ≤ 512 → m < 1024
    z m h = omega arith

pub number_reads : (r : Range) (n : ℕ) (v : Float) → judge_number r.least r.most n ≡ Ok v → Reads (number r) (double_bits v) v
unfolding Reads number after double_bits
number_reads r n v e l A p T =
    let j = judged_again r.least r.most n v e in
    ap (λ t. after t (λ n q. measured (judge_number r.least r.most n) q)) (bits_reads 64 (to_bits binary64 v) j.1 l A p T)
    ∙ ap (λ (t : Result Float Refusal). measured t (p + length (binary 64 (to_bits binary64 v)))) j.0

coordinate_reads : (cs : List ℕ) (xs : List Float) (c x : ℕ) (v : Float) (d y : ℕ) → next_coordinate cs xs c x ≡ given.ok v d y → Reads (number coordinate_range)
    (double_bits v) v
unfolding next_coordinate
coordinate_reads cs xs c x v d y e = number_reads coordinate_range (to_bits binary64 (get_or xs x nan)) v (measured_was _ c (suc x) v d y e)

-- ---- points
point_reads : (a b : Float) → Reads (number coordinate_range) (double_bits a) a → Reads (number coordinate_range) (double_bits b) b → Reads point
    (double_bits a ++ double_bits b) (record { x = a; y = b })
unfolding point
point_reads a b R S =
    reads_then (number coordinate_range) (λ a. number coordinate_range >>= (λ b. give (record { x = a; y = b }))) (double_bits a) (double_bits b) a
    (record { x = a; y = b }) R
    (reads_last (number coordinate_range) (λ b. give (record { x = a; y = b })) (double_bits b) b (record { x = a; y = b }) S
    (reads_give (record { x = a; y = b })))

pub points_reads : (n : ℕ) (cs : List ℕ) (xs : List Float) (c x : ℕ) (ps : List Float) (d y : ℕ) → given_points n cs xs c x ≡ given.ok ps d y →
    (acc : List Float) → Reads (some_points n acc) (flat_map double_bits ps) (acc ++ ps)
unfolding given_points some_points flat_map
points_reads zero cs xs c x ps d y e acc =
    subst (λ (l : List Float). Reads (give acc) (flat_map double_bits l) (acc ++ l)) (ok_value e)
    (subst⁻¹ (λ (l : List Float). Reads (give acc) [] l) (append-nil acc) (reads_give acc))
points_reads (suc n) cs xs c x ps d y e acc =
    let p = after_ok (next_coordinate cs xs c x) (λ a c x. given.after (next_coordinate cs xs c x)
    (λ b c x. given.after (given_points n cs xs c x) (λ ps c x. given.ok (a ∷ b ∷ ps) c x))) ps d y e in
    let q = after_ok (next_coordinate cs xs p.1 p.2) (λ b c x. given.after (given_points n cs xs c x) (λ ps c x. given.ok (p.0 ∷ b ∷ ps) c x)) ps d y
    p.4 in
    let r = after_ok (given_points n cs xs q.1 q.2) (λ ps c x. given.ok (p.0 ∷ q.0 ∷ ps) c x) ps d y q.4 in
    let a = p.0 in
    let b = q.0 in
    let R = point_reads a b (coordinate_reads cs xs c x a _ _ p.3) (coordinate_reads cs xs p.1 p.2 b _ _ q.3) in
    let S = points_reads n cs xs q.1 q.2 r.0 r.1 r.2 r.3 (acc ++ (a ∷ b ∷ [])) in
    subst (λ (l : List Float). Reads (point >>= (λ s. some_points n (acc ++ (s.x ∷ s.y ∷ [])))) (flat_map double_bits l) (acc ++ l)) (ok_value r.4)
    (subst (λ (l : List Float). Reads (point >>= (λ s. some_points n (acc ++ (s.x ∷ s.y ∷ [])))) (double_bits a ++ (double_bits b ++ flat_map double_bits r.0))
    l) (append_assoc acc (a ∷ b ∷ []) r.0)
    (reads_same (point >>= (λ s. some_points n (acc ++ (s.x ∷ s.y ∷ [])))) _ _ _ (append_assoc (double_bits a) (double_bits b) (flat_map double_bits r.0))
    (reads_then point (λ s. some_points n (acc ++ (s.x ∷ s.y ∷ []))) (double_bits a ++ double_bits b) (flat_map double_bits r.0) (record { x = a; y = b })
    ((acc ++ (a ∷ b ∷ [])) ++ r.0) R S)))

-- ---- loops
loop_reads : (before m : ℕ) (ps : List Float) (acc : List Float) → Reads (point_count before) (binary 10 m) m → Reads (some_points m acc) (flat_map double_bits ps)
    (acc ++ ps) → Reads (a_loop before acc) (binary 10 m ++ flat_map double_bits ps) (record { number = before + m; coordinates = acc ++ ps })
unfolding a_loop
loop_reads before m ps acc R S =
    reads_then (point_count before) (λ n. some_points n acc >>= (λ qs. give (record { number = before + n; coordinates = qs }))) (binary 10 m)
    (flat_map double_bits ps) m (record { number = before + m; coordinates = acc ++ ps }) R
    (reads_last (some_points m acc) (λ qs. give (record { number = before + m; coordinates = qs })) (flat_map double_bits ps) (acc ++ ps)
    (record { number = before + m; coordinates = acc ++ ps }) S (reads_give (record { number = before + m; coordinates = acc ++ ps })))

abbrev set : List Float → List ℕ → Set
set ps es = record { points = ps; ends = es }

pub loops_reads : (n before : ℕ) (cs : List ℕ) (xs : List Float) (c x : ℕ) (s : Set) (d y : ℕ) → given_loops n before cs xs c x ≡ given.ok s d y →
    (acc : List Float) (es : List ℕ) → Reads (some_loops n before acc es) (loop_bits before s) (set (acc ++ s.points) (es ++ s.ends))
unfolding given_loops next_points some_loops loops_bits
loops_reads zero before cs xs c x s d y e acc es =
    subst (λ (t : Set). Reads (give (set acc es)) (loop_bits before t) (set (acc ++ t.points) (es ++ t.ends))) (ok_value e)
    (subst⁻¹ (λ (l : List Float). Reads (give (set acc es)) [] (set l (es ++ []))) (append-nil acc)
    (subst⁻¹ (λ (l : List ℕ). Reads (give (set acc es)) [] (set acc l)) (append-nil es) (reads_give (set acc es))))
loops_reads (suc n) before cs xs c x s d y e acc es =
    let p = after_ok (given.counted (judge_points before (get_or cs c 0)) (suc c) x)
    (λ p c x. given.after (given_points p cs xs c x) (λ ps c x. given.after (given_loops n (before + p) cs xs c x)
    (λ s c x. given.ok (record { points = ps ++ s.points; ends = (before + p) ∷ s.ends }) c x))) s d y e in
    let q = after_ok (given_points p.0 cs xs p.1 p.2) (λ ps c x. given.after (given_loops n (before + p.0) cs xs c x)
    (λ s c x. given.ok (record { points = ps ++ s.points; ends = (before + p.0) ∷ s.ends }) c x)) s d y p.4 in
    let r = after_ok (given_loops n (before + p.0) cs xs q.1 q.2) (λ s c x. given.ok
    (record { points = q.0 ++ s.points; ends = (before + p.0) ∷ s.ends }) c x) s d y q.4 in
    let m = p.0 in
    let ps = q.0 in
    let t = r.0 in
    let R = loop_reads before m ps acc (points-count_reads before (get_or cs c 0) m (counted_was _ _ _ _ _ _ p.3))
    (points_reads m cs xs p.1 p.2 ps q.1 q.2 q.3 acc) in
    let S = loops_reads n (before + m) cs xs q.1 q.2 t r.1 r.2 r.3 (acc ++ ps) (es ++ ((before + m) ∷ [])) in
    let f : Points → Reader Set = λ l. some_loops n l.number l.coordinates (es ++ (l.number ∷ [])) in
    subst (λ (u : Set). Reads (a_loop before acc >>= f) (loop_bits before u) (set (acc ++ u.points) (es ++ u.ends))) (ok_value r.4)
    (reads_same (a_loop before acc >>= f) ((binary 10 m ++ flat_map double_bits ps) ++ loop_bits (before + m) t) _ _
    (append_assoc (binary 10 m) (flat_map double_bits ps) (loop_bits (before + m) t) ∙ sym
    (loop_bits_lem before m ps t (points-length m cs xs p.1 p.2 ps q.1 q.2 q.3)))
    (subst (λ (l : List Float). Reads (a_loop before acc >>= f) ((binary 10 m ++ flat_map double_bits ps) ++ loop_bits (before + m) t)
    (set l (es ++ ((before + m) ∷ t.ends)))) (append_assoc acc ps t.points)
    (subst (λ (l : List ℕ). Reads (a_loop before acc >>= f) ((binary 10 m ++ flat_map double_bits ps) ++ loop_bits (before + m) t)
    (set ((acc ++ ps) ++ t.points) l)) (append_assoc es ((before + m) ∷ []) t.ends)
    (reads_then (a_loop before acc) f (binary 10 m ++ flat_map double_bits ps) (loop_bits (before + m) t) (record { number = before + m; coordinates = acc ++ ps })
    (set ((acc ++ ps) ++ t.points) ((es ++ ((before + m) ∷ [])) ++ t.ends)) R S))))

-- ---- sets
pub set_reads : (cs : List ℕ) (xs : List Float) (c x : ℕ) (s : Set) (d y : ℕ) → given_set cs xs c x ≡ given.ok s d y → Reads a_set (set_bits s) s
unfolding given_set next_loops a_set set_bits
set_reads cs xs c x s d y e =
    let p = after_ok (given.counted (judge_count 1 64 (get_or cs c 0)) (suc c) x) (λ n c x. given_loops n 0 cs xs c x) s d y e in
    let n = p.0 in
    reads_same (count loops_field >>= (λ n. some_loops n 0 [] [])) (binary 7 n ++ loop_bits 0 s) _ s
    (ap (λ (k : ℕ). binary 7 k ++ loop_bits 0 s) (sym (loops_length n 0 cs xs p.1 p.2 s d y p.4)))
    (reads_then (count loops_field) (λ n. some_loops n 0 [] []) (binary 7 n) (loop_bits 0 s) n s
    (count_reads loops_field (get_or cs c 0) n (counted_was _ _ _ _ _ _ p.3) (lit< tt))
    (loops_reads n 0 cs xs p.1 p.2 s d y p.4 [] []))
