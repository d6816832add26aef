-- Laws of loops and sets, judged and put. Assumes nothing.
use Rattle.std.specs.Prelude.{Result, Ok, Err}
use mathlib.Core.Path.{◌≡◌, refl, sym, ap, ap₂, subst, ◌∙◌}
use Prim.Native.Nat.{ℕ, suc, ◌+◌, ◌*◌, ◌≤◌}
use native.Mathlib.Omega.{arith}
use native.Mathlib.Numerals.{add-one}
use mathlib.Core.Bool.{Bool, true, false, ◌&&◌, cond}
use mathlib.Core.List.{List, [], ◌∷◌, ◌++◌, flat_map}
use lib.Dec.{leb}
use borrow.Author.Tests.{leb-true}
use lib.ListN.{get_or}
use lib.Ieee.{Float}
use Rattle.numbers.proofs.Truth.{zero-not-one}
use Rattle.bits.specs.declared.Refusal.{Refusal}
use Rattle.bits.specs.declared.Refusal.TheVariants.{CountOutOfRange}
use Rattle.bits.specs.Fields.{judge_count, judge_points}
use Rattle.bits.specs.inner.Answers.{count_of}
use Rattle.bits.proofs.Judging.{points-most}
use Rattle.bit_writer.specs.declared.BitWriter.{BitWriter}
use Rattle.bit_writer.specs.Packed.{binary}
use Rattle.bit_writer.specs.inner.BitWriting.{Sound, Put}
use Rattle.bit_writer.proofs.Bits.{binary-length}
use Rattle.bit_writer.proofs.Writing.{put-none}
use Rattle.set_writer.specs.declared.Walk.{Walk}
use Rattle.job_bits.specs.JobBits.{double_bits, loops_bits, set_bits}
use Rattle.job_bits.specs.Given.{ok, after, counted, next_loops, next_points, given_points, given_loops, given_set}
use Rattle.set_writer.specs.inner.Walks.{Walks, went, stopped, Near}
use Rattle.set_writer.proofs.Walking.{Went, so, went_on, stopped_at, walk_tail, walk_three, walk-bad_two, walk_same, near-then, near_at, near_more}
use Rattle.job_bits.proofs.Takers.{bad-first, loop_bits_lem, loops_length, points-length}
use Rattle.job_bits.specs.inner.Loops.{loop_bits}

-- ---- loops
loops_more : (cs : List ℕ) (xs : List Float) (n m before : ℕ) → n ≡ suc m → (c x : ℕ) → given_loops n before cs xs c x ≡ after (next_points before cs xs c x)
    (λ p c x. after (given_points p cs xs c x) (λ ps c x. after (given_loops m (before + p) cs xs c x)
    (λ s c x. ok (record { points = ps ++ s.points; ends = (before + p) ∷ s.ends }) c x)))
unfolding given_loops
loops_more cs xs n m before e c x = ap (λ (k : ℕ). given_loops k before cs xs c x) e

pub loops_none : (cs : List ℕ) (xs : List Float) (w : Walk) (out : List ℕ) (n before : ℕ) → Sound w.writer → n ≡ 0 → Walks
    (given_loops n before cs xs w.counts w.coordinates) (loop_bits before) w out (Ok w) out × Near w (Ok w) n (1024 * n) (65546 * n)
unfolding given_loops loops_bits
loops_none cs xs w out n before S e = (
  walk_same (ap (λ (k : ℕ). given_loops k before cs xs w.counts w.coordinates) e)
      (went (record { points = []; ends = [] }) refl (put-none out w.writer S)),
  (omega arith, omega arith, omega arith),
)

points-judged : (cs : List ℕ) (xs : List Float) (before c x v : ℕ) (t : Result ℕ Refusal) → v ≡ get_or cs c 0 → t ≡ judge_points before v → next_points before cs xs c x ≡
    counted t (c + 1) x
unfolding next_points
points-judged cs xs before c x v t e f = ap₂ (λ (n k : ℕ). counted (judge_points before n) k x) (sym e) (sym (add-one c)) ∙ ap
    (λ (y : Result ℕ Refusal). counted y (c + 1) x) (sym f)

-- how many points there can be
pub points-few : (before n m : ℕ) (t : Result ℕ Refusal) → before ≤ 512 → t ≡ judge_points before n → t ≡ Ok m → before + m ≤ 512
points-few before n m t h e f = subst (λ (x : ℕ). before + x ≤ 512) (ap count_of (sym e ∙ f)) (points-most before n h)

module _ (cs : List ℕ) (xs : List Float) (w : Walk) (out o o' : List ℕ) (n m before v p : ℕ) (t : Result ℕ Refusal) (writer : BitWriter) where
  pub loops_on : (u : Walk) (r₁ r : Result Walk Refusal) (o'' : List ℕ) → n ≡ m + 1 → before ≤ 512 → v ≡ get_or cs w.counts 0 → t ≡ judge_points before v → t ≡ Ok p → Put
      out w.writer (binary 10 p) o writer → ((ds : List ℕ) → Walks (given_points p ds xs (w.counts + 1) w.coordinates) (flat_map double_bits)
      (record { counts = w.counts + 1; coordinates = w.coordinates; writer = writer }) o r₁ o') × Near
      (record { counts = w.counts + 1; coordinates = w.coordinates; writer = writer }) r₁ 0 (2 * p) (128 * p) → r₁ ≡ Ok u → Walks
      (given_loops m (before + p) cs xs u.counts u.coordinates) (loop_bits (before + p)) u o' r o'' × Near u r m (1024 * m) (65546 * m) → Walks
      (given_loops n before cs xs w.counts w.coordinates) (loop_bits before) w out r o'' × Near w r n (1024 * n) (65546 * n)
  loops_on u r₁ r o'' e b f g h P F k H = (
    go (went_on u (F.0 cs) k),
    near_more w r _ _ _ n (1024 * n) (65546 * n)
        (near-then w (record { counts = w.counts + 1; coordinates = w.coordinates; writer = writer }) r 1 0 10 _ _ _
        (omega arith, omega arith, omega (arith, P.count, binary-length 10 p))
        (near-then (record { counts = w.counts + 1; coordinates = w.coordinates; writer = writer }) u r _ _ _ _ _ _ (near_at (record { counts = w.counts + 1; coordinates = w.coordinates; writer = writer }) (Ok u) 0 (2 * p) (128 * p) F.1 k) H.1))
        (omega arith)
        (omega (arith, points-few before v p t b g h))
        (omega (arith, points-few before v p t b g h)),
  )
    where
      go : Went (given_points p cs xs (w.counts + 1) w.coordinates) (flat_map double_bits)
          (record { counts = w.counts + 1; coordinates = w.coordinates; writer = writer }) o u o' → Walks
          (given_loops n before cs xs w.counts w.coordinates) (loop_bits before) w out r o''
      go (so ps j q) =
          walk_same (loops_more cs xs n m before (e ∙ add-one m) w.counts w.coordinates)
          (walk_three
          {u = record { counts = w.counts + 1; coordinates = w.coordinates; writer = writer }}
          (λ p c x. given_points p cs xs c x)
          (λ p ps c x. given_loops m (before + p) cs xs c x)
          (λ p ps s. record { points = ps ++ s.points; ends = (before + p) ∷ s.ends })
          (loop_bits (before + p))
          (loop_bits before)
          p
          ps
          (points-judged cs xs before w.counts w.coordinates v t f g ∙ ap (λ (y : Result ℕ Refusal). counted y (w.counts + 1) w.coordinates) h)
          P
          j
          q
          H.0
          (λ s c x z. loop_bits_lem before p ps s (points-length p cs xs _ _ ps _ _ j)))

  pub loops_bad-points : (r₁ : Result Walk Refusal) (k : Refusal) → n ≡ m + 1 → v ≡ get_or cs w.counts 0 → t ≡ judge_points before v → t ≡ Ok p → Put out w.writer
      (binary 10 p) o writer → ((ds : List ℕ) → Walks (given_points p ds xs (w.counts + 1) w.coordinates) (flat_map double_bits)
      (record { counts = w.counts + 1; coordinates = w.coordinates; writer = writer }) o r₁ o') × Near
      (record { counts = w.counts + 1; coordinates = w.coordinates; writer = writer }) r₁ 0 (2 * p) (128 * p) → r₁ ≡ Err k → Walks
      (given_loops n before cs xs w.counts w.coordinates) (loop_bits before) w out (Err k) o' × Unit {0}
  loops_bad-points r₁ k e f g h P F j =
      let s = stopped_at k (F.0 cs) j in (
        walk_same (loops_more cs xs n m before (e ∙ add-one m) w.counts w.coordinates)
            (walk-bad_two
            {u = record { counts = w.counts + 1; coordinates = w.coordinates; writer = writer }}
            (λ p c x. given_points p cs xs c x)
            (λ p ps c x. after (given_loops m (before + p) cs xs c x) (λ s c x. ok (record { points = ps ++ s.points; ends = (before + p) ∷ s.ends }) c x))
            (loop_bits before)
            p
            k
            (points-judged cs xs before w.counts w.coordinates v t f g ∙ ap (λ (y : Result ℕ Refusal). counted y (w.counts + 1) w.coordinates) h)
            P
            s.0
            s.1),
        tt,
      )

  pub loops_bad : (k : Refusal) → n ≡ m + 1 → v ≡ get_or cs w.counts 0 → t ≡ judge_points before v → t ≡ Err k → Walks
      (given_loops n before cs xs w.counts w.coordinates) (loop_bits before) w out (Err k) out × Unit {0}
  loops_bad k e f g h = (
    walk_same (loops_more cs xs n m before (e ∙ add-one m) w.counts w.coordinates)
        (stopped (bad-first (next_points before cs xs w.counts w.coordinates) _ k
        (points-judged cs xs before w.counts w.coordinates v t f g ∙ ap (λ (y : Result ℕ Refusal). counted y (w.counts + 1) w.coordinates) h)) refl),
    tt,
  )

-- ---- a set
loops_judged : (cs : List ℕ) (xs : List Float) (c x v : ℕ) (t : Result ℕ Refusal) → v ≡ get_or cs c 0 → t ≡ judge_count 1 64 v → next_loops cs xs c x ≡ counted t (c + 1) x
unfolding next_loops
loops_judged cs xs c x v t e f = ap₂ (λ (n k : ℕ). counted (judge_count 1 64 n) k x) (sym e) (sym (add-one c)) ∙ ap (λ (y : Result ℕ Refusal). counted y (c + 1) x)
    (sym f)

pub count-few : (least most n m : ℕ) (t : Result ℕ Refusal) → t ≡ judge_count least most n → t ≡ Ok m → (least ≤ m) × (m ≤ most)
unfolding judge_count
count-few least most n m t e f = go (leb least n) (leb n most) (leb-true least n) (leb-true n most) (sym e ∙ f)
  where
    go : (a b : Bool) → (a ≡ true → least ≤ n) → (b ≡ true → n ≤ most) → cond (a && b) (Ok n) (Err CountOutOfRange) ≡ Ok m → (least ≤ m) × (m ≤ most)
    go true true g h e = (subst (λ (x : ℕ). least ≤ x) (ap count_of e) (g refl), subst (λ (x : ℕ). x ≤ most) (ap count_of e) (h refl))
    go true false g h e = absurd (zero-not-one (cc))
    go false b g h e = absurd (zero-not-one (cc))

pub set_on : (cs : List ℕ) (xs : List Float) (w : Walk) (out o o' : List ℕ) (v n : ℕ) (t : Result ℕ Refusal) (writer : BitWriter) (r : Result Walk Refusal) → v ≡ get_or cs w.counts
    0 → t ≡ judge_count 1 64 v → t ≡ Ok n → Put out w.writer (binary 7 n) o writer → Walks (given_loops n 0 cs xs (w.counts + 1) w.coordinates)
    (loop_bits 0) (record { counts = w.counts + 1; coordinates = w.coordinates; writer = writer }) o r o' × Near
    (record { counts = w.counts + 1; coordinates = w.coordinates; writer = writer }) r n (1024 * n) (65546 * n) → Walks
    (given_set cs xs w.counts w.coordinates) set_bits w out r o' × Near w r 65 65536 4194951
unfolding given_set set_bits
set_on cs xs w out o o' v n t writer r e f g P H =
    let few = count-few 1 64 v n t f g in (
      walk_tail
          {u = record { counts = w.counts + 1; coordinates = w.coordinates; writer = writer }}
          (λ n c x. given_loops n 0 cs xs c x)
          (loop_bits 0)
          set_bits
          n
          (loops_judged cs xs w.counts w.coordinates v t e f ∙ ap (λ (y : Result ℕ Refusal). counted y (w.counts + 1) w.coordinates) g)
          P
          H.0
          (λ s c x z. ap (λ (k : ℕ). binary 7 k ++ loop_bits 0 s) (loops_length n 0 cs xs _ _ s _ _ z)),
      near_more w r _ _ _ 65 65536 4194951 (near-then w (record { counts = w.counts + 1; coordinates = w.coordinates; writer = writer }) r 1 0 7 _ _ _
          (omega arith, omega arith, omega (arith, P.count, binary-length 7 n)) H.1) (omega (arith, few)) (omega (arith, few)) (omega (arith, few)),
    )

pub set-bad : (cs : List ℕ) (xs : List Float) (w : Walk) (out : List ℕ) (v : ℕ) (t : Result ℕ Refusal) (k : Refusal) → v ≡ get_or cs w.counts 0 → t ≡ judge_count 1 64
    v → t ≡ Err k → Walks (given_set cs xs w.counts w.coordinates) set_bits w out (Err k) out × Unit {0}
unfolding given_set
set-bad cs xs w out v t k e f g = (
  stopped (bad-first (next_loops cs xs w.counts w.coordinates) (λ n c x. given_loops n 0 cs xs c x) k
      (loops_judged cs xs w.counts w.coordinates v t e f ∙ ap (λ (y : Result ℕ Refusal). counted y (w.counts + 1) w.coordinates) g)) refl,
  tt,
)
