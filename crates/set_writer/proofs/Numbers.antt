-- Laws of the numbers of a job's tables, judged and put. Assumes nothing.
use Rattle.std.specs.Prelude.{Result, Ok, Err}
use mathlib.Core.Path.{◌≡◌, refl, sym, ap, ap₂, ◌∙◌}
use Prim.Native.Nat.{ℕ, suc, ◌+◌, ◌*◌}
use native.Mathlib.Omega.{arith}
use native.Mathlib.Numerals.{add-one}
use mathlib.Core.List.{List, [], ◌∷◌, flat_map}
use lib.ListN.{length, get_or}
use lib.Ieee.{Float, nan, binary64, to_bits}
use Rattle.bits.specs.declared.Refusal.{Refusal}
use Rattle.bits.specs.Fields.{coordinate_range, judge_number}
use Rattle.bit_writer.specs.declared.BitWriter.{BitWriter}
use Rattle.bit_writer.specs.Packed.{binary}
use Rattle.bit_writer.specs.inner.BitWriting.{Sound, Put}
use Rattle.bit_writer.proofs.Bits.{binary-length}
use Rattle.bit_writer.proofs.Writing.{put-none, put_same}
use Rattle.set_writer.specs.declared.Walk.{Walk}
use Rattle.job_bits.specs.JobBits.{double_bits}
use Rattle.job_bits.specs.Given.{ok, bad, after, measured, next_coordinate, given_points}
use Rattle.set_writer.specs.inner.Walks.{Walks, went, stopped, Near}
use Rattle.set_writer.proofs.Walking.{Went, so, went_on, stopped_at, walk-bad, walk_three, walk-bad_two, walk_same, near-then, near_at, near_more}

-- ---- a coordinate
coordinate_judged : (cs : List ℕ) (xs : List Float) (c i b : ℕ) (x : Float) (m : Result Float Refusal) → x ≡ get_or xs i nan → b ≡ to_bits binary64 x → m ≡ judge_number
    coordinate_range.least coordinate_range.most b → next_coordinate cs xs c i ≡ measured m c (i + 1)
unfolding next_coordinate
coordinate_judged cs xs c i b x m e f g =
    ap₂ (λ (n : ℕ) (j : ℕ). measured (judge_number coordinate_range.least coordinate_range.most n) c j) (sym (f ∙ ap (to_bits binary64) e)) (sym (add-one i))
    ∙ ap (λ (y : Result Float Refusal). measured y c (i + 1)) (sym g)

pub coordinate_put : (xs : List Float) (w : Walk) (out o : List ℕ) (b d : ℕ) (x v : Float) (m : Result Float Refusal) (p : BitWriter) → x ≡ get_or xs w.coordinates nan → b
    ≡ to_bits binary64 x → m ≡ judge_number coordinate_range.least coordinate_range.most b → m ≡ Ok v → d ≡ to_bits binary64 v → Put out w.writer
    (binary 64 d) o p → ((cs : List ℕ) → Walks (next_coordinate cs xs w.counts w.coordinates) double_bits w out
    (Ok (record { counts = w.counts; coordinates = w.coordinates + 1; writer = p })) o) × Near w
    (Ok (record { counts = w.counts; coordinates = w.coordinates + 1; writer = p })) 0 1 64
unfolding double_bits
coordinate_put xs w out o b d x v m p e f g h q P = (
  (λ cs. went v (coordinate_judged cs xs w.counts w.coordinates b x m e f g ∙ ap (λ (y : Result Float Refusal). measured y w.counts (w.coordinates + 1)) h)
      (put_same _ _ _ _ _ _ (ap (binary 64) q) P)),
  (omega arith, omega arith, omega (arith, P.count, binary-length 64 d)),
)

pub coordinate_not : (xs : List Float) (w : Walk) (out : List ℕ) (b : ℕ) (x : Float) (k : Refusal) (m : Result Float Refusal) → x ≡ get_or xs w.coordinates nan → b ≡
    to_bits binary64 x → m ≡ judge_number coordinate_range.least coordinate_range.most b → m ≡ Err k →
    ((cs : List ℕ) → Walks (next_coordinate cs xs w.counts w.coordinates) double_bits w out (Err k) out) × Unit {0}
coordinate_not xs w out b x k m e f g h = (
  (λ cs. stopped (coordinate_judged cs xs w.counts w.coordinates b x m e f g ∙ ap (λ (y : Result Float Refusal). measured y w.counts (w.coordinates + 1)) h)
      refl),
  tt,
)

-- ---- points
module _ (cs : List ℕ) (xs : List Float) (n m : ℕ) where
  points_more : n ≡ suc m → (c x : ℕ) → given_points n cs xs c x ≡ after (next_coordinate cs xs c x)
      (λ a c x. after (next_coordinate cs xs c x) (λ b c x. after (given_points m cs xs c x) (λ ps c x. ok (a ∷ b ∷ ps) c x)))
  unfolding given_points
  points_more e c x = ap (λ (k : ℕ). given_points k cs xs c x) e

pub points_none : (xs : List Float) (w : Walk) (out : List ℕ) (n : ℕ) → Sound w.writer → n ≡ 0 →
    ((cs : List ℕ) → Walks (given_points n cs xs w.counts w.coordinates) (flat_map double_bits) w out (Ok w) out) × Near w (Ok w) 0 (2 * n) (128 * n)
unfolding given_points flat_map
points_none xs w out n S e = (
  (λ cs. walk_same (ap (λ (k : ℕ). given_points k cs xs w.counts w.coordinates) e)
      (went [] refl (put-none out w.writer S))),
  (omega arith, omega arith, omega arith),
)

-- the parts of a walk that is put together: two coordinates, then the rest
module _ (xs : List Float) (w u v : Walk) (out o o' : List ℕ) (n m : ℕ) where
  pub points_on : (r₁ r₂ r : Result Walk Refusal) (o'' : List ℕ) → n ≡ m + 1 → ((cs : List ℕ) → Walks (next_coordinate cs xs w.counts w.coordinates) double_bits w out r₁
      o) × Near w r₁ 0 1 64 → r₁ ≡ Ok u → ((cs : List ℕ) → Walks (next_coordinate cs xs u.counts u.coordinates) double_bits u o r₂ o') × Near u r₂ 0 1 64 →
      r₂ ≡ Ok v → ((cs : List ℕ) → Walks (given_points m cs xs v.counts v.coordinates) (flat_map double_bits) v o' r o'') × Near v r 0 (2 * m) (128 * m) →
      ((cs : List ℕ) → Walks (given_points n cs xs w.counts w.coordinates) (flat_map double_bits) w out r o'') × Near w r 0 (2 * n) (128 * n)
  unfolding flat_map
  points_on r₁ r₂ r o'' e F h G k H = (
    (λ cs. go cs (went_on u (F.0 cs) h) (went_on v (G.0 cs) k)),
    near_more w r _ _ _ 0 (2 * n) (128 * n) (near-then w u r _ _ _ _ _ _ (near_at w (Ok u) 0 1 64 F.1 h)
        (near-then u v r _ _ _ _ _ _ (near_at u (Ok v) 0 1 64 G.1 k) H.1)) (omega arith) (omega arith) (omega arith),
  )
    where
      go : (cs : List ℕ) → Went (next_coordinate cs xs w.counts w.coordinates) double_bits w out u o → Went
          (next_coordinate cs xs u.counts u.coordinates) double_bits u o v o' → Walks (given_points n cs xs w.counts w.coordinates)
          (flat_map double_bits) w out r o''
      go cs (so a f p) (so b g q) =
          walk_same (points_more cs xs n m (e ∙ add-one m) w.counts w.coordinates)
          (walk_three (λ a c x. next_coordinate cs xs c x) (λ a b c x. given_points m cs xs c x) (λ a b ps. a ∷ b ∷ ps) (flat_map double_bits) (flat_map double_bits)
          a b f p g q (H.0 cs) (λ d c x z. refl))

  pub points-bad_two : (r₁ r₂ : Result Walk Refusal) (k : Refusal) → n ≡ m + 1 → ((cs : List ℕ) → Walks (next_coordinate cs xs w.counts w.coordinates) double_bits w out
      r₁ o) × Near w r₁ 0 1 64 → r₁ ≡ Ok u → ((cs : List ℕ) → Walks (next_coordinate cs xs u.counts u.coordinates) double_bits u o r₂ o') × Near u r₂ 0 1
      64 → r₂ ≡ Err k → ((cs : List ℕ) → Walks (given_points n cs xs w.counts w.coordinates) (flat_map double_bits) w out (Err k) o') × Unit {0}
  points-bad_two r₁ r₂ k e F h G j = ((λ cs. go cs (went_on u (F.0 cs) h) (stopped_at k (G.0 cs) j)), tt)
    where
      go : (cs : List ℕ) → Went (next_coordinate cs xs w.counts w.coordinates) double_bits w out u o →
          (next_coordinate cs xs u.counts u.coordinates ≡ bad k) × (length o' ≡ length o) → Walks (given_points n cs xs w.counts w.coordinates)
          (flat_map double_bits) w out (Err k) o'
      go cs (so a f p) s =
          walk_same (points_more cs xs n m (e ∙ add-one m) w.counts w.coordinates)
          (walk-bad_two (λ a c x. next_coordinate cs xs c x) (λ a b c x. after (given_points m cs xs c x) (λ ps c x. ok (a ∷ b ∷ ps) c x)) (flat_map double_bits) a
          k f p s.0 s.1)

  pub points-bad : (r₁ : Result Walk Refusal) (k : Refusal) → n ≡ m + 1 → ((cs : List ℕ) → Walks (next_coordinate cs xs w.counts w.coordinates) double_bits w out r₁ o) ×
      Near w r₁ 0 1 64 → r₁ ≡ Err k → ((cs : List ℕ) → Walks (given_points n cs xs w.counts w.coordinates) (flat_map double_bits) w out (Err k) o) × Unit {0}
  points-bad r₁ k e F h = (
    (λ cs. walk_same (points_more cs xs n m (e ∙ add-one m) w.counts w.coordinates)
        (walk-bad (λ a c x. after (next_coordinate cs xs c x) (λ b c x. after (given_points m cs xs c x) (λ ps c x. ok (a ∷ b ∷ ps) c x))) (flat_map double_bits) k
        (F.0 cs) h)),
    tt,
  )
