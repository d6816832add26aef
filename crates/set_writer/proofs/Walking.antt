-- Laws of walking through a job's tables: what is taken one after the other is put one after the other. Assumes nothing.
use Rattle.std.specs.Prelude.{Result, Ok, Err}
use mathlib.Core.Path.{◌≡◌, sym, ap, subst, ◌∙◌}
use Prim.Native.Nat.{ℕ, ◌+◌, ◌≤◌}
use native.Mathlib.Omega.{arith}
use mathlib.Core.List.{List, ◌++◌}
use lib.ListN.{length}
use Rattle.numbers.proofs.Truth.{zero-not-one}
use Rattle.bits.specs.declared.Refusal.{Refusal}
use Rattle.bit_writer.specs.declared.BitWriter.{BitWriter}
use Rattle.bit_writer.specs.inner.BitWriting.{Sound, Put}
use Rattle.bit_writer.proofs.Writing.{put_then, put_same}
use Rattle.set_writer.specs.declared.Walk.{Walk}
use Rattle.job_bits.specs.Given.{Taken, ok, bad, after}
use Rattle.set_writer.specs.inner.Walks.{Walks, went, stopped, Near, Ready}
use Rattle.job_bits.proofs.Doubles.{ok-value, err-value}
use Rattle.job_bits.proofs.Takers.{bad-first, ok_then}

-- ---- what a result that is known says
pub data Went {A : Type 0} (t : Taken A) (bits : A → List ℕ) (w : Walk) (out : List ℕ) (v : Walk) (o : List ℕ) : Type 0 where
  so : (a : A) → t ≡ ok a v.counts v.coordinates → Put out w.writer (bits a) o v.writer → Went t bits w out v o

pub went_on : {A : Type 0} {t : Taken A} {bits : A → List ℕ} {w : Walk} {out o : List ℕ} {r : (Result Walk Refusal)} (v : Walk) → Walks t bits w out r o → r ≡ Ok v → Went t
    bits w out v o
went_on {t = t} {bits = bits} {w = w} {out = out} {o = o} v (went {v = u} a e p) h = subst (λ (z : Walk). Went t bits w out z o) (ok-value h) (so a e p)
went_on v (stopped e l) h = absurd (zero-not-one (cc))

pub stopped_at : {A : Type 0} {t : Taken A} {bits : A → List ℕ} {w : Walk} {out o : List ℕ} {r : (Result Walk Refusal)} (k : Refusal) → Walks t bits w out r o → r ≡ Err k →
    (t ≡ bad k) × (length o ≡ length out)
stopped_at k (went a e p) h = absurd (zero-not-one (cc))
stopped_at {t = t} k (stopped {k = j} e l) h = (e ∙ ap bad (err-value h), l)

-- ---- one after the other
-- the first is refused
pub walk-bad : {A B : Type 0} {t : Taken A} {bits_a : A → List ℕ} {w : Walk} {out o : List ℕ} {r : (Result Walk Refusal)} (f : A → ℕ → ℕ → Taken B) (bits_b : B → List ℕ)
    (k : Refusal) → Walks t bits_a w out r o → r ≡ Err k → Walks (after t f) bits_b w out (Err k) o
walk-bad {t = t} f bits_b k F e =
    let s = stopped_at k F e in
    stopped (bad-first t f k s.0) s.1

-- what is left decides, after a number or a walk that went
pub walk_tail : {A B : Type 0} {t : Taken A} {w u : Walk} {out o o' pre : List ℕ} {r : (Result Walk Refusal)} (f : A → ℕ → ℕ → Taken B) (bits_f bits_b : B → List ℕ) (a : A) → t
    ≡ ok a u.counts u.coordinates → Put out w.writer pre o u.writer → Walks (f a u.counts u.coordinates) bits_f u o r o' →
    ((b : B) (c x : ℕ) → f a u.counts u.coordinates ≡ ok b c x → bits_b b ≡ pre ++ bits_f b) → Walks (after t f) bits_b w out r o'
walk_tail {t = t} f bits_f bits_b a e p (went b g q) S = went b (ok_then t f a _ _ e ∙ g) (put_same _ _ _ _ _ _ (sym (S b _ _ g)) (put_then _ _ _ _ _ _ _ _ p q))
walk_tail {t = t} f bits_f bits_b a e p (stopped g l) S = stopped (ok_then t f a _ _ e ∙ g) (l ∙ p.long)

-- two, and what is made of them
pub walk_two : {A B C : Type 0} {t : Taken A} {w u : Walk} {out o o' pre : List ℕ} {r : (Result Walk Refusal)} (f : A → ℕ → ℕ → Taken B) (h : A → B → C) (bits_f : B → List ℕ)
    (bits_c : C → List ℕ) (a : A) → t ≡ ok a u.counts u.coordinates → Put out w.writer pre o u.writer → Walks (f a u.counts u.coordinates)
    bits_f u o r o' → ((b : B) (c x : ℕ) → f a u.counts u.coordinates ≡ ok b c x → bits_c (h a b) ≡ pre ++ bits_f b) → Walks
    (after t (λ a c x. after (f a c x) (λ b c x. ok (h a b) c x))) bits_c w out r o'
walk_two {t = t} f h bits_f bits_c a e p (went b g q) S =
    went (h a b) (ok_then t (λ a c x. after (f a c x) (λ b c x. ok (h a b) c x)) a _ _ e ∙ ok_then (f a _ _) (λ b c x. ok (h a b) c x) b _ _ g)
    (put_same _ _ _ _ _ _ (sym (S b _ _ g)) (put_then _ _ _ _ _ _ _ _ p q))
walk_two {t = t} f h bits_f bits_c a e p (stopped {k = k} g l) S =
    stopped (ok_then t (λ a c x. after (f a c x) (λ b c x. ok (h a b) c x)) a _ _ e ∙ bad-first (f a _ _) (λ b c x. ok (h a b) c x) k g) (l ∙ p.long)

-- three, and what is made of them
pub walk_three : {A B C D : Type 0} {t : Taken A} {w u v : Walk} {out o o' o'' pre mid : List ℕ} {r : (Result Walk Refusal)} (f : A → ℕ → ℕ → Taken B)
    (g : A → B → ℕ → ℕ → Taken C) (h : A → B → C → D) (bits_g : C → List ℕ) (bits_d : D → List ℕ) (a : A) (b : B) → t ≡ ok a u.counts u.coordinates → Put
    out w.writer pre o u.writer → f a u.counts u.coordinates ≡ ok b v.counts v.coordinates → Put o u.writer mid o' v.writer → Walks
    (g a b v.counts v.coordinates) bits_g v o' r o'' → ((d : C) (c x : ℕ) → g a b v.counts v.coordinates ≡ ok d c x → bits_d (h a b d) ≡ pre ++
    (mid ++ bits_g d)) → Walks (after t (λ a c x. after (f a c x) (λ b c x. after (g a b c x) (λ d c x. ok (h a b d) c x)))) bits_d w out r o''
walk_three {t = t} f g h bits_g bits_d a b e p e' p' (went d k q) S =
    went (h a b d)
    (ok_then t (λ a c x. after (f a c x) (λ b c x. after (g a b c x) (λ d c x. ok (h a b d) c x))) a _ _ e
    ∙ ok_then (f a _ _) (λ b c x. after (g a b c x) (λ d c x. ok (h a b d) c x)) b _ _ e'
    ∙ ok_then (g a b _ _) (λ d c x. ok (h a b d) c x) d _ _ k)
    (put_same _ _ _ _ _ _ (sym (S d _ _ k)) (put_then _ _ _ _ _ _ _ _ p (put_then _ _ _ _ _ _ _ _ p' q)))
walk_three {t = t} f g h bits_g bits_d a b e p e' p' (stopped {k = k} j l) S =
    stopped
    (ok_then t (λ a c x. after (f a c x) (λ b c x. after (g a b c x) (λ d c x. ok (h a b d) c x))) a _ _ e
    ∙ ok_then (f a _ _) (λ b c x. after (g a b c x) (λ d c x. ok (h a b d) c x)) b _ _ e'
    ∙ bad-first (g a b _ _) (λ d c x. ok (h a b d) c x) k j)
    (l ∙ p'.long ∙ p.long)

-- the second is refused
pub walk-bad_two : {A B C : Type 0} {t : Taken A} {w u : Walk} {out o o' pre : List ℕ} (f : A → ℕ → ℕ → Taken B) (g : A → B → ℕ → ℕ → Taken C)
    (bits_c : C → List ℕ) (a : A) (k : Refusal) → t ≡ ok a u.counts u.coordinates → Put out w.writer pre o u.writer → f a u.counts
    u.coordinates ≡ bad k → length o' ≡ length o → Walks (after t (λ a c x. after (f a c x) (g a))) bits_c w out (Err k) o'
walk-bad_two {t = t} f g bits_c a k e p j l =
    stopped (ok_then t (λ a c x. after (f a c x) (g a)) a _ _ e ∙ bad-first (f a _ _) (g a) k j) (l ∙ p.long)

-- an answer changed
pub walk-map : {A C : Type 0} {t : Taken A} {bits_a : A → List ℕ} {w : Walk} {out o : List ℕ} {r : (Result Walk Refusal)} (h : A → C) (bits_c : C → List ℕ) → Walks t bits_a w out
    r o → ((a : A) (c x : ℕ) → t ≡ ok a c x → bits_c (h a) ≡ bits_a a) → Walks (after t (λ a c x. ok (h a) c x)) bits_c w out r o
walk-map {t = t} h bits_c (went a e p) S = went (h a) (ok_then t (λ a c x. ok (h a) c x) a _ _ e) (put_same _ _ _ _ _ _ (sym (S a _ _ e)) p)
walk-map {t = t} h bits_c (stopped {k = k} e l) S = stopped (bad-first t (λ a c x. ok (h a) c x) k e) l

-- the same taker
pub walk_same : {A : Type 0} {t s : Taken A} {bits : A → List ℕ} {w : Walk} {out o : List ℕ} {r : (Result Walk Refusal)} → t ≡ s → Walks s bits w out r o → Walks t bits w out
    r o
walk_same {t = t} {s = s} e (went a f p) = went a (e ∙ f) p
walk_same {t = t} {s = s} e (stopped f l) = stopped (e ∙ f) l

-- ---- one number
-- a number that is judged and put, and one that is refused
pub number_put : {A : Type 0} (t : Taken A) (bits : A → List ℕ) (w : Walk) (out o : List ℕ) (a : A) (c x : ℕ) (p : BitWriter) → t ≡ ok a c x → Put out
    w.writer (bits a) o p → Walks t bits w out (Ok (record { counts = c; coordinates = x; writer = p })) o
number_put t bits w out o a c x p e P = went a e P

-- how far: after one number, after two walks
pub near-then : (w u : Walk) (r : Result Walk Refusal) (c x n c' x' n' : ℕ) → Near w (Ok u) c x n → Near u r c' x' n' → Near w r (c + c') (x + x') (n + n')
near-then w u (Ok v) c x n c' x' n' N M = (omega (arith, N, M), omega (arith, N, M), omega (arith, N, M))
near-then w u (Err k) c x n c' x' n' N M = tt

pub near_at : (w : Walk) {r : (Result Walk Refusal)} (s : Result Walk Refusal) (c x n : ℕ) → Near w r c x n → r ≡ s → Near w s c x n
near_at w s c x n N e = subst (λ (y : Result Walk Refusal). Near w y c x n) e N

pub near_more : (w : Walk) (r : Result Walk Refusal) (c x n c' x' n' : ℕ) → Near w r c x n → c ≤ c' → x ≤ x' → n ≤ n' → Near w r c' x' n'
near_more w (Ok v) c x n c' x' n' N a b d = (omega (arith, N), omega (arith, N), omega (arith, N))
near_more w (Err k) c x n c' x' n' N a b d = tt

-- ---- what every walk keeps
pub walk-long : {A : Type 0} {t : Taken A} {bits : A → List ℕ} {w : Walk} {out o : List ℕ} {r : (Result Walk Refusal)} → Walks t bits w out r o → length o ≡ length out
walk-long (went a e p) = p.long
walk-long (stopped e l) = l

pub walk-sound : {A : Type 0} {t : Taken A} {bits : A → List ℕ} {w : Walk} {out o : List ℕ} {r : (Result Walk Refusal)} (u : Walk) → Walks t bits w out r o → r ≡ Ok u → Sound
    u.writer
walk-sound u F e = go (went_on u F e)
  where
    go : {A : Type 0} {t : Taken A} {bits : A → List ℕ} {w : Walk} {out : List ℕ} {o : List ℕ} → Went t bits w out u o → Sound u.writer
    go (so a f p) = p.sound

-- there is room for what follows
pub ready-next : {A : Type 0} {t : Taken A} {bits : A → List ℕ} {w : Walk} {out o : List ℕ} {r : (Result Walk Refusal)} (u : Walk) (c x n c' x' n' : ℕ) → Ready w c x n → Walks
    t bits w out r o → Near w r c' x' n' → r ≡ Ok u → (c'' x'' n'' : ℕ) → c' + c'' ≤ c → x' + x'' ≤ x → n' + n'' ≤ n → Ready u c'' x'' n''
ready-next {w = w} {r = r} u c x n c' x' n' R F N e c'' x'' n'' a b d =
    let M = near_at w (Ok u) c' x' n' N e in
    record { sound = walk-sound u F e; counts = omega (arith, R.counts, M); coordinates = omega (arith, R.coordinates, M); bits = omega (arith, R.bits, M) }

-- or for less
pub ready-less : (w : Walk) (c x n c' x' n' : ℕ) → Ready w c x n → c' ≤ c → x' ≤ x → n' ≤ n → Ready w c' x' n'
ready-less w c x n c' x' n' R a b d =
    record { sound = R.sound; counts = omega (arith, R.counts); coordinates = omega (arith, R.coordinates); bits = omega (arith, R.bits) }

-- the same after one count that is put
pub ready-count : {out o pre : List ℕ} {writer : BitWriter} (w : Walk) (c x n c' x' n' : ℕ) → Ready w c x n → Put out w.writer pre o writer → 1 + c' ≤ c → x'
    ≤ x → length pre + n' ≤ n → Ready (record { counts = w.counts + 1; coordinates = w.coordinates; writer = writer }) c' x' n'
ready-count w c x n c' x' n' R P a b d = record {
  sound = P.sound;
  counts = omega (arith, R.counts);
  coordinates = omega (arith, R.coordinates);
  bits = omega
      (arith, R.bits, P.count);
}
