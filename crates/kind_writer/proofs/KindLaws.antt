-- Laws of orientations and kinds, judged and put. Assumes nothing.
use Rattle.std.specs.Prelude.{Result, Ok, Err}
use mathlib.Core.Path.{◌≡◌, refl, sym, ap, ap₂, subst, subst⁻¹, ◌∙◌}
use Prim.Native.Nat.{ℕ, suc, ◌+◌, ◌*◌, ◌≤◌}
use native.Mathlib.Omega.{arith}
use native.Mathlib.Numerals.{add-one}
use mathlib.Core.List.{List, [], ◌∷◌, ◌++◌, flat_map}
use lib.ListN.{length}
use lib.Ieee.{Float}
use Rattle.numbers.proofs.Truth.{zero-not-one}
use Rattle.bits.specs.declared.Refusal.{Refusal}
use Rattle.kinds.specs.declared.KindHead.{KindHead}
use Rattle.kinds.specs.Kinds.{Kind, kind_of, copies_of, head_at}
use Rattle.bit_writer.specs.inner.BitWriting.{Sound, Put}
use Rattle.bit_writer.proofs.Writing.{put-none, put_then}
use Rattle.set_writer.specs.declared.Walk.{Walk}
use Rattle.job_bits.specs.JobBits.{set_bits, orientation_bits, head_bits, kind_bits}
use Rattle.job_bits.specs.Given.{Taken, ok, bad, after, given_set, given_orientation, given_orientations, given_head, given_kind, given_kinds}
use Rattle.set_writer.specs.inner.Walks.{Walks, went, Near}
use Rattle.set_writer.proofs.Walking.{Went, so, went_on, stopped_at, walk-bad, walk_two, walk_same, near-then, near_at, near_more}
use Rattle.kind_writer.specs.inner.WalksKinds.{WalksKinds, went_kinds, stopped_kinds, NearKinds}
use Rattle.job_bits.proofs.Doubles.{ok-value, err-value}
use Rattle.job_bits.proofs.Takers.{after_ok, bad-first, ok_then, ok_value}
use Rattle.job_bits.proofs.Heads.{head-back, head-taken, orientations-length}

-- ---- an orientation
module _ (cs : List ℕ) (xs : List Float) (w : Walk) (out o o' : List ℕ) where
  pub orientation_on_lem : (v : Walk) (r₁ r : Result Walk Refusal) → Walks (given_set cs xs w.counts w.coordinates) set_bits w out r₁ o × Near w r₁ 65 65536 4194951 → r₁ ≡
      Ok v → Walks (given_set cs xs v.counts v.coordinates) set_bits v o r o' × Near v r 65 65536 4194951 → Walks
      (given_orientation cs xs w.counts w.coordinates) orientation_bits w out r o' × Near w r 130 131072 8389902
  unfolding given_orientation orientation_bits
  orientation_on_lem v r₁ r F e G = (
    go (went_on v F.0 e),
    near_more w r _ _ _ 130 131072 8389902 (near-then w v r _ _ _ _ _ _ (near_at w (Ok v) 65 65536 4194951 F.1 e) G.1) (omega arith) (omega arith)
        (omega arith),
  )
    where
      go : Went (given_set cs xs w.counts w.coordinates) set_bits w out v o → Walks (given_orientation cs xs w.counts w.coordinates) orientation_bits w
          out r o'
      go (so a f p) = walk_two (λ a c x. given_set cs xs c x) (λ a i. record { apart = a; inset = i }) set_bits orientation_bits a f p G.0 (λ i c x z. refl)

  pub orientation-bad : (r₁ : Result Walk Refusal) (k : Refusal) → Walks (given_set cs xs w.counts w.coordinates) set_bits w out r₁ o × Near w r₁ 65 65536 4194951 → r₁ ≡
      Err k → Walks (given_orientation cs xs w.counts w.coordinates) orientation_bits w out (Err k) o × Unit {0}
  unfolding given_orientation
  orientation-bad r₁ k F e = (walk-bad (λ a c x. after (given_set cs xs c x) (λ i c x. ok (record { apart = a; inset = i }) c x)) orientation_bits k F.0 e, tt)

-- ---- orientations
orientations_more : (cs : List ℕ) (xs : List Float) (n m : ℕ) → n ≡ suc m → (c x : ℕ) → given_orientations n cs xs c x ≡ after (given_orientation cs xs c x)
    (λ o c x. after (given_orientations m cs xs c x) (λ os c x. ok (o ∷ os) c x))
unfolding given_orientations
orientations_more cs xs n m e c x = ap (λ (k : ℕ). given_orientations k cs xs c x) e

pub orientations-none : (cs : List ℕ) (xs : List Float) (w : Walk) (out : List ℕ) (n : ℕ) → Sound w.writer → n ≡ 0 → Walks
    (given_orientations n cs xs w.counts w.coordinates) (flat_map orientation_bits) w out (Ok w) out × Near w (Ok w) (130 * n) (131072 * n) (8389902 * n)
unfolding given_orientations flat_map
orientations-none cs xs w out n S e = (
  walk_same (ap (λ (k : ℕ). given_orientations k cs xs w.counts w.coordinates) e)
      (went [] refl (put-none out w.writer S)),
  (omega arith, omega arith, omega arith),
)

module _ (cs : List ℕ) (xs : List Float) (w : Walk) (out o o' : List ℕ) (n m : ℕ) where
  pub orientations_on : (v : Walk) (r₁ r : Result Walk Refusal) → n ≡ m + 1 → Walks (given_orientation cs xs w.counts w.coordinates) orientation_bits w out r₁ o × Near w
      r₁ 130 131072 8389902 → r₁ ≡ Ok v → Walks (given_orientations m cs xs v.counts v.coordinates) (flat_map orientation_bits) v o r o' × Near v r (130 * m)
      (131072 * m) (8389902 * m) → Walks (given_orientations n cs xs w.counts w.coordinates) (flat_map orientation_bits) w out r o' × Near w r (130 * n)
      (131072 * n) (8389902 * n)
  unfolding flat_map
  orientations_on v r₁ r e F f G = (
    go (went_on v F.0 f),
    near_more w r _ _ _ (130 * n) (131072 * n) (8389902 * n) (near-then w v r _ _ _ _ _ _ (near_at w (Ok v) 130 131072 8389902 F.1 f) G.1) (omega arith)
        (omega arith) (omega arith),
  )
    where
      go : Went (given_orientation cs xs w.counts w.coordinates) orientation_bits w out v o → Walks (given_orientations n cs xs w.counts w.coordinates)
          (flat_map orientation_bits) w out r o'
      go (so a g p) = walk_same (orientations_more cs xs n m (e ∙ add-one m) w.counts w.coordinates)
          (walk_two (λ a c x. given_orientations m cs xs c x) (λ a os. a ∷ os) (flat_map orientation_bits) (flat_map orientation_bits) a g p G.0
          (λ os c x z. refl))

  pub orientations-bad : (r₁ : Result Walk Refusal) (k : Refusal) → n ≡ m + 1 → Walks (given_orientation cs xs w.counts w.coordinates) orientation_bits w out r₁ o × Near
      w r₁ 130 131072 8389902 → r₁ ≡ Err k → Walks (given_orientations n cs xs w.counts w.coordinates) (flat_map orientation_bits) w out (Err k) o × Unit {0}
  orientations-bad r₁ k e F f = (
    walk_same (orientations_more cs xs n m (e ∙ add-one m) w.counts w.coordinates)
        (walk-bad (λ a c x. after (given_orientations m cs xs c x) (λ os c x. ok (a ∷ os) c x)) (flat_map orientation_bits) k F.0 f),
    tt,
  )

-- ---- a kind
pub kind_few : (g : KindHead) (cs : List ℕ) (xs : List Float) {w v : Walk} {out o : List ℕ} {r : (Result Walk Refusal)} → Walks
    (given_head g cs xs w.counts w.coordinates) head_bits w out r o → r ≡ Ok v → g.orientations ≤ 16
kind_few g cs xs {w} {v} {out} {o} F e = go (went_on v F e)
  where
    go : Went (given_head g cs xs w.counts w.coordinates) head_bits w out v o → g.orientations ≤ 16
    go (so a f p) = let T = head-taken g a cs xs _ _ _ _ f in subst (λ (n : ℕ). n ≤ 16) T.orientations T.few

module _ (cs : List ℕ) (xs : List Float) (g : KindHead) (w : Walk) (out o o' : List ℕ) where
  pub kind_on : (v : Walk) (r₁ r : Result Walk Refusal) → ((ds : List ℕ) (ys : List Float) → Walks (given_head g ds ys w.counts w.coordinates) head_bits w out r₁ o) ×
      Near w r₁ 0 0 114 → r₁ ≡ Ok v → Walks (given_orientations g.orientations cs xs v.counts v.coordinates) (flat_map orientation_bits) v o r o' × Near v
      r (130 * g.orientations) (131072 * g.orientations) (8389902 * g.orientations) → Walks (given_kind g cs xs w.counts w.coordinates) kind_bits w out r
      o' × Near w r 2080 2097152 134238546
  unfolding given_kind kind_bits kind_of
  kind_on v r₁ r F f G = (
    go (went_on v (F.0 cs xs) f),
    near_more w r _ _ _ 2080 2097152 134238546 (near-then w v r _ _ _ _ _ _ (near_at w (Ok v) 0 0 114 F.1 f) G.1)
        (omega (arith, kind_few g cs xs (F.0 cs xs) f)) (omega (arith, kind_few g cs xs (F.0 cs xs) f)) (omega (arith, kind_few g cs xs (F.0 cs xs) f)),
  )
    where
      go : Went (given_head g cs xs w.counts w.coordinates) head_bits w out v o → Walks (given_kind g cs xs w.counts w.coordinates) kind_bits w out r o'
      go (so a e p) =
          let T = head-taken g a cs xs _ _ _ _ e in
          walk_two (λ h c x. given_orientations h.orientations cs xs c x) (λ h os. kind_of h os) (flat_map orientation_bits) kind_bits a e p
          (subst⁻¹ (λ (n : ℕ). Walks (given_orientations n cs xs v.counts v.coordinates) (flat_map orientation_bits) v o r o') T.orientations G.0)
          (λ os c x z. ap (λ (h : KindHead). head_bits h ++ flat_map orientation_bits os)
          (head-back g a os T (orientations-length a.orientations cs xs _ _ os _ _ z)))

  pub kind-bad : (r₁ : Result Walk Refusal) (k : Refusal) → ((ds : List ℕ) (ys : List Float) → Walks (given_head g ds ys w.counts w.coordinates) head_bits w out r₁ o) ×
      Near w r₁ 0 0 114 → r₁ ≡ Err k → Walks (given_kind g cs xs w.counts w.coordinates) kind_bits w out (Err k) o × Unit {0}
  unfolding given_kind
  kind-bad r₁ k F f = (walk-bad (λ h c x. after (given_orientations h.orientations cs xs c x) (λ os c x. ok (kind_of h os) c x)) kind_bits k (F.0 cs xs) f, tt)

-- a kind that is taken has the quantity that was given, and no more than 4,095
pub kind-quantity : (g : KindHead) (cs : List ℕ) (xs : List Float) (c x : ℕ) (k : Kind) (d y : ℕ) → given_kind g cs xs c x ≡ ok k d y →
    (k.quantity ≡ g.quantity) × (g.quantity ≤ 4095)
unfolding given_kind kind_of
kind-quantity g cs xs c x k d y e =
    let p = after_ok (given_head g cs xs c x) (λ h c x. after (given_orientations h.orientations cs xs c x) (λ os c x. ok (kind_of h os) c x)) k d y e in
    let q = after_ok (given_orientations p.0.orientations cs xs p.1 p.2) (λ os c x. ok (kind_of p.0 os) c x) k d y p.4 in
    let T = head-taken g p.0 cs xs c x p.1 p.2 p.3 in
    (ap (λ (z : Kind). z.quantity) (sym (ok_value q.4)) ∙ T.quantity, subst (λ (n : ℕ). n ≤ 4095) T.quantity T.some)

-- ---- kinds
kinds_more : (rows : List ℕ) (areas : List Float) (cs : List ℕ) (xs : List Float) (n m k : ℕ) → n ≡ suc m → (c x : ℕ) → given_kinds rows areas n k cs xs c x ≡
    after (given_kind (head_at rows areas k) cs xs c x) (λ a c x. after (given_kinds rows areas m (suc k) cs xs c x) (λ ks c x. ok (a ∷ ks) c x))
unfolding given_kinds
kinds_more rows areas cs xs n m k e c x = ap (λ (j : ℕ). given_kinds rows areas j k cs xs c x) e

pub kinds-none : (rows : List ℕ) (areas : List Float) (cs : List ℕ) (xs : List Float) (w : Walk) (out : List ℕ) (n k : ℕ) → Sound w.writer → n ≡ 0 →
    WalksKinds (given_kinds rows areas n k cs xs w.counts w.coordinates) (flat_map kind_bits) w out (Ok (w, 0)) out × NearKinds w (Ok (w, 0)) (2080 * n)
    (2097152 * n) (134238546 * n) (4095 * n)
unfolding given_kinds flat_map copies_of
kinds-none rows areas cs xs w out n k S e = (
  went_kinds [] (ap (λ (j : ℕ). given_kinds rows areas j k cs xs w.counts w.coordinates) e)
      (put-none out w.writer S) refl,
  (omega arith, omega arith, omega arith, omega arith),
)

pub data WentKinds (t : Taken (List Kind)) (w : Walk) (out : List ℕ) (v : Walk) (n : ℕ) (o : List ℕ) : Type 0 where
  so_kinds : (ks : List Kind) → t ≡ ok ks v.counts v.coordinates → Put out w.writer (flat_map kind_bits ks) o v.writer → n ≡ copies_of ks → WentKinds t
      w out v n o

same_first : {u v : Walk} {n m : ℕ} → ◌≡◌ {A = Walk × ℕ} (u, n) (v, m) → u ≡ v
same_first e = ap (λ (p : Walk × ℕ). p.0) e

same_second : {u v : Walk} {n m : ℕ} → ◌≡◌ {A = Walk × ℕ} (u, n) (v, m) → n ≡ m
same_second e = ap (λ (p : Walk × ℕ). p.1) e

pub kinds-went : {t : Taken (List Kind)} {w : Walk} {out o : List ℕ} {r : (Result (Walk × ℕ) Refusal)} (v : Walk) (n : ℕ) → WalksKinds t (flat_map kind_bits) w out r o → r ≡ Ok (v, n) →
    WentKinds t w out v n o
kinds-went {t} {w} {out} {o} v n (went_kinds {v = u} {n = m} ks e p q) h = subst (λ (z : Walk). WentKinds t w out z n o) (same_first (ok-value h))
    (so_kinds ks e p (sym (same_second (ok-value h)) ∙ q))
kinds-went v n (stopped_kinds e l) h = absurd (zero-not-one (cc))

pub kinds-stopped : {t : Taken (List Kind)} {w : Walk} {out o : List ℕ} {r : (Result (Walk × ℕ) Refusal)} (k : Refusal) → WalksKinds t (flat_map kind_bits) w out r o → r ≡ Err
    k → (t ≡ bad k) × (length o ≡ length out)
kinds-stopped k (went_kinds ks e p q) h = absurd (zero-not-one (cc))
kinds-stopped k (stopped_kinds {k = j} e l) h = (e ∙ ap bad (err-value h), l)

pub kinds-long : {t : Taken (List Kind)} {w : Walk} {out o : List ℕ} {r : (Result (Walk × ℕ) Refusal)} → WalksKinds t (flat_map kind_bits) w out r o → length o ≡ length out
kinds-long (went_kinds ks e p q) = p.long
kinds-long (stopped_kinds e l) = l

pub near-kinds_at : (w : Walk) {r : (Result (Walk × ℕ) Refusal)} (s : Result (Walk × ℕ) Refusal) (c x n q : ℕ) → NearKinds w r c x n q → r ≡ s → NearKinds w s c x n q
near-kinds_at w s c x n q N e = subst (λ (y : Result (Walk × ℕ) Refusal). NearKinds w y c x n q) e N

module _ (rows : List ℕ) (areas : List Float) (cs : List ℕ) (xs : List Float) (w : Walk) (out o o' : List ℕ) (n m k : ℕ) (h : KindHead) where
  pub kinds_on : (v u : Walk) (q : ℕ) (r₁ : Result Walk Refusal) (r₂ : Result (Walk × ℕ) Refusal) → n ≡ m + 1 → h ≡ head_at rows areas k → Walks
      (given_kind h cs xs w.counts w.coordinates) kind_bits w out r₁ o × Near w r₁ 2080 2097152 134238546 → r₁ ≡ Ok v → WalksKinds
      (given_kinds rows areas m (k + 1) cs xs v.counts v.coordinates) (flat_map kind_bits) v o r₂ o' × NearKinds v r₂ (2080 * m) (2097152 * m)
      (134238546 * m) (4095 * m) → r₂ ≡ Ok (u, q) → WalksKinds (given_kinds rows areas n k cs xs w.counts w.coordinates) (flat_map kind_bits) w out
      (Ok (u, (h.quantity + q))) o' × NearKinds w (Ok (u, (h.quantity + q))) (2080 * n) (2097152 * n) (134238546 * n) (4095 * n)
  unfolding flat_map copies_of
  kinds_on v u q r₁ r₂ e f F g G j = go (went_on v F.0 g) (kinds-went u q G.0 j)
    where
      go : Went (given_kind h cs xs w.counts w.coordinates) kind_bits w out v o → WentKinds
          (given_kinds rows areas m (k + 1) cs xs v.counts v.coordinates) v o u q o' → WalksKinds
          (given_kinds rows areas n k cs xs w.counts w.coordinates) (flat_map kind_bits) w out (Ok (u, (h.quantity + q))) o' × NearKinds w
          (Ok (u, (h.quantity + q))) (2080 * n) (2097152 * n) (134238546 * n) (4095 * n)
      go (so a y p) (so_kinds ks z s c) =
          let Q = kind-quantity h cs xs _ _ a _ _ y in
          let N = near_at w (Ok v) 2080 2097152 134238546 F.1 g in
          let M = near-kinds_at v (Ok (u, q)) (2080 * m) (2097152 * m) (134238546 * m) (4095 * m) G.1 j in (
            went_kinds (a ∷ ks)
                (kinds_more rows areas cs xs n m k (e ∙ add-one m) w.counts w.coordinates
                ∙ ok_then (given_kind (head_at rows areas k) cs xs w.counts w.coordinates)
                (λ a c x. after (given_kinds rows areas m (suc k) cs xs c x) (λ ks c x. ok (a ∷ ks) c x)) a _ _
                (ap (λ (t : KindHead). given_kind t cs xs w.counts w.coordinates) (sym f) ∙ y)
                ∙ ok_then (given_kinds rows areas m (suc k) cs xs v.counts v.coordinates) (λ ks c x. ok (a ∷ ks) c x) ks _ _
                (ap (λ (t : ℕ). given_kinds rows areas m t cs xs v.counts v.coordinates) (sym (add-one k)) ∙ z))
                (put_then _ _ _ _ _ _ _ _ p s)
                (ap₂ ◌+◌ (sym Q.0) c),
            (omega (arith, N, M), omega (arith, N, M), omega (arith, N, M), omega (arith, M, Q.1)),
          )

  pub kinds-bad-rest : (v : Walk) (r₁ : Result Walk Refusal) (r₂ : Result (Walk × ℕ) Refusal) (j : Refusal) → n ≡ m + 1 → h ≡ head_at rows areas k → Walks
      (given_kind h cs xs w.counts w.coordinates) kind_bits w out r₁ o × Near w r₁ 2080 2097152 134238546 → r₁ ≡ Ok v → WalksKinds
      (given_kinds rows areas m (k + 1) cs xs v.counts v.coordinates) (flat_map kind_bits) v o r₂ o' × NearKinds v r₂ (2080 * m) (2097152 * m)
      (134238546 * m) (4095 * m) → r₂ ≡ Err j → WalksKinds (given_kinds rows areas n k cs xs w.counts w.coordinates) (flat_map kind_bits) w out
      (Err j) o' × Unit {0}
  kinds-bad-rest v r₁ r₂ j e f F g G i = go (went_on v F.0 g) (kinds-stopped j G.0 i)
    where
      go : Went (given_kind h cs xs w.counts w.coordinates) kind_bits w out v o →
          (given_kinds rows areas m (k + 1) cs xs v.counts v.coordinates ≡ bad j) × (length o' ≡ length o) → WalksKinds
          (given_kinds rows areas n k cs xs w.counts w.coordinates) (flat_map kind_bits) w out (Err j) o' × Unit {0}
      go (so a y p) s = (
        stopped_kinds
            (kinds_more rows areas cs xs n m k (e ∙ add-one m) w.counts w.coordinates
            ∙ ok_then (given_kind (head_at rows areas k) cs xs w.counts w.coordinates)
            (λ a c x. after (given_kinds rows areas m (suc k) cs xs c x) (λ ks c x. ok (a ∷ ks) c x)) a _ _
            (ap (λ (t : KindHead). given_kind t cs xs w.counts w.coordinates) (sym f) ∙ y)
            ∙ bad-first (given_kinds rows areas m (suc k) cs xs v.counts v.coordinates) (λ ks c x. ok (a ∷ ks) c x) j
            (ap (λ (t : ℕ). given_kinds rows areas m t cs xs v.counts v.coordinates) (sym (add-one k)) ∙ s.0))
            (s.1 ∙ p.long),
        tt,
      )

  pub kinds-bad : (r₁ : Result Walk Refusal) (j : Refusal) → n ≡ m + 1 → h ≡ head_at rows areas k → Walks (given_kind h cs xs w.counts w.coordinates) kind_bits w out r₁ o
      × Near w r₁ 2080 2097152 134238546 → r₁ ≡ Err j → WalksKinds (given_kinds rows areas n k cs xs w.counts w.coordinates) (flat_map kind_bits) w out
      (Err j) o × Unit {0}
  kinds-bad r₁ j e f F g =
      let s = stopped_at j F.0 g in (
        stopped_kinds
            (kinds_more rows areas cs xs n m k (e ∙ add-one m) w.counts w.coordinates
            ∙ bad-first (given_kind (head_at rows areas k) cs xs w.counts w.coordinates)
            (λ a c x. after (given_kinds rows areas m (suc k) cs xs c x) (λ ks c x. ok (a ∷ ks) c x)) j
            (ap (λ (t : KindHead). given_kind t cs xs w.counts w.coordinates) (sym f) ∙ s.0))
            s.1,
        tt,
      )

pub kind-some : (h : KindHead) (cs : List ℕ) (xs : List Float) {w v : Walk} {out o : List ℕ} {r : (Result Walk Refusal)} → Walks
    (given_kind h cs xs w.counts w.coordinates) kind_bits w out r o → r ≡ Ok v → h.quantity ≤ 4095
kind-some h cs xs {w} {v} {out} {o} F e = go (went_on v F e)
  where
    go : Went (given_kind h cs xs w.counts w.coordinates) kind_bits w out v o → h.quantity ≤ 4095
    go (so a f p) = (kind-quantity h cs xs _ _ a _ _ f).1
