-- Every number of every strip of a slab is finite, never minus zero and within a bound, where those of its edges are. Assumes nothing.
use Prim.Native.Nat.{ℕ, ◌≤◌, ◌<◌}
use native.Mathlib.Omega.{arith}
use mathlib.Core.Path.{◌≡◌, refl, sym, subst}
use mathlib.Core.Logic.{◌⊎◌, inl, inr}
use mathlib.Core.List.{List, [], ◌∷◌}
use mathlib.Core.Bool.{Bool, true, false, not, ◌&&◌, cond}
use lib.Dec.{T, lit≤}
use lib.IntN.{ℤ, ◌+ℤ◌}
use lib.Ieee.{Float, nan, inf, fin, binary64, lt, le, eq, div, neg, unlike}
use lib.Ieee.Fits.{and_l, and_r}
use Rattle.numbers.specs.Numbers.{◌⊕◌, ◌⊖◌, ◌⊗◌, ◌⊘◌, smaller, larger}
use Rattle.numbers.proofs.Keys.{key→eq, finite_real}
use Rattle.numbers.proofs.Bounds.{sub_neg}
use Rattle.numbers.proofs.Operations.{neg_fin, neg_key}
use Rattle.numbers.proofs.Doubles.{k, o, Finite, Number, Small, finite, le_yes, lt_yes, lt_no, add_upto, sub_upto, add-number, sub_number, sub_mono, sub-pos, sub_nonneg, div_share, Share, share_upto, above_zero}
use Rattle.numbers.proofs.Truth.{holds}
use Rattle.trapezoid.specs.declared.Trapezoid.{Trapezoid}
use Rattle.trapezoid.proofs.Sizes.{Sized, small_more}
use Rattle.slabs.specs.declared.Edge.{Edge}
use Rattle.slabs.specs.Slab.{insert, sort, spans, height_at, Crossing, crossing, before, spanning, crossings, strip, kept, piece, runs, walk, slab}
use Rattle.slabs.proofs.Merging.{All, all_append}

abbrev pub Coordinate : Float → Type 0
Coordinate x = Small 100000 x

abbrev pub Height : Float → Type 0
Height x = Small 300000 x

-- a strip's numbers are finite and not minus zero, its x's of at most 100,000, its heights of at most 300,000, and x0 is below x1
pub record Good (s : Trapezoid) : Type 0 where
  pub sizes : Sized 100000 300000 s
  pub order : k s.x0 < k s.x1

pub wide : {x : Float} → Coordinate x → Height x
wide s = small_more s (lit≤ tt)

-- ---- lists
module _ {A : Type 0} (P : A → Type 0) where
  all_insert : (first : A → A → Bool) (a : A) (l : List A) → P a → All P l → All P (insert first a l)
  unfolding insert
  all_insert first a [] p q = (p, tt)
  all_insert first a (b ∷ l) p q = go (first b a) (all_insert first a l p q.1)
    where
      go : (t : Bool) → All P (insert first a l) → All P (elim t [ true ↦ b ∷ insert first a l | false ↦ a ∷ b ∷ l ])
      go true r = (q.0, r)
      go false r = (p, q)

  pub all_sort : (first : A → A → Bool) (l : List A) → All P l → All P (sort first l)
  unfolding sort
  all_sort first [] p = tt
  all_sort first (a ∷ l) p = all_insert first a (sort first l) p.0 (all_sort first l p.1)

-- ---- the share of the way along an edge
unlike_not : (s t : Bool) → unlike (not s) (not t) ≡ unlike s t
unlike_not true true = refl
unlike_not true false = refl
unlike_not false true = refl
unlike_not false false = refl

div-neg : (x y : Float) → Finite x → Finite y → div binary64 (neg x) (neg y) ≡ div binary64 x y
unfolding div neg
div-neg nan y p q = absurd p.is_finite
div-neg (inf s) y p q = absurd p.is_finite
div-neg (fin s m e) nan p q = absurd q.is_finite
div-neg (fin s m e) (inf t) p q = absurd q.is_finite
div-neg (fin s m e) (fin t n d) p q = rw (unlike_not s t)

share_on : {p q x : Float} → Coordinate p → Coordinate q → Coordinate x → k p < k x → k x < k q → Share ((x ⊖ p) ⊘ (q ⊖ p))
share_on P Q X h l =
    let fp = finite P.num in
    let fq = finite Q.num in
    let fx = finite X.num in
    let dx = sub_upto fx fp X.bound P.bound (lit≤ tt) in
    let dw = sub_upto fq fp Q.bound P.bound (lit≤ tt) in
    div_share (sub_number X.num fp dx.0) dw.0 (sub-pos fq fp (omega arith)) (sub_nonneg fx fp (omega arith)) (sub_mono fx fp fq fp (omega arith))

share_back : {p q x : Float} → Coordinate p → Coordinate q → Coordinate x → k q < k x → k x < k p → Share ((x ⊖ p) ⊘ (q ⊖ p))
share_back {p} {q} {x} P Q X h l =
    let fp = finite P.num in
    let fq = finite Q.num in
    let fx = finite X.num in
    let dx = sub_upto fx fp X.bound P.bound (lit≤ tt) in
    let dw = sub_upto fq fp Q.bound P.bound (lit≤ tt) in
    let nx = neg_key binary64 (x ⊖ p) dx.0 in
    let nw = neg_key binary64 (q ⊖ p) dw.0 in
    let lx : k (x ⊖ p) < o = sub_neg binary64 x p fx fp (omega arith) in
    let lw : k (q ⊖ p) < o = sub_neg binary64 q p fq fp (omega arith) in
    let m : k (q ⊖ p) ≤ k (x ⊖ p) = sub_mono fq fp fx fp (omega arith) in
    let ax : o < k (neg (x ⊖ p)) = omega arith in
    let aw : o < k (neg (q ⊖ p)) = omega arith in
    subst Share (div-neg (x ⊖ p) (q ⊖ p) dx.0 dw.0)
    (div_share (above_zero (neg_fin binary64 (x ⊖ p) dx.0) ax) (neg_fin binary64 (q ⊖ p) dw.0) aw (omega arith) (omega arith))

share_height : {t a b : Float} → Share t → Coordinate a → Coordinate b → Height (a ⊕ t ⊗ (b ⊖ a))
share_height S A B =
    let dy = sub_upto (finite B.num) (finite A.num) B.bound A.bound (lit≤ tt) in
    let s = share_upto S dy.0 dy.1 (lit≤ tt) in
    let r = add_upto (finite A.num) s.0 A.bound s.1 (lit≤ tt) in
    record { num = add-number A.num s.0 r.0; bound = r.1 }

pub record Sides (e : Edge) : Type 0 where
  pub px : Coordinate e.px
  pub py : Coordinate e.py
  pub qx : Coordinate e.qx
  pub qy : Coordinate e.qy
  pub lo : e.lo ≡ smaller e.px e.qx
  pub hi : e.hi ≡ larger e.px e.qx

-- x lies on the edge
abbrev On : Edge → Float → Type 0
On e x = ((k e.px ≤ k x) × (k x ≤ k e.qx)) ⊎ ((k e.qx ≤ k x) × (k x ≤ k e.px))

apart : {x y : Float} → Number x → Number y → T (not (eq x y)) → k x ≡ k y → ⊥
apart {x} {y} X Y h e = clash (eq x y) h (key→eq binary64 x y X.fit Y.fit (finite_real x X.is_finite) (finite_real y Y.is_finite) e)
  where
    clash : (b : Bool) → T (not b) → T b → ⊥
    clash true n t = n
    clash false n t = t

height_good : (e : Edge) (x : Float) → Sides e → Coordinate x → On e x → Height (height_at e x)
unfolding height_at
height_good e x S X on = go (eq x e.px) (eq x e.qx) (apart X.num S.px.num) (apart X.num S.qx.num) on
  where
    go : (a b : Bool) → (T (not a) → k x ≡ k e.px → ⊥) → (T (not b) → k x ≡ k e.qx → ⊥) → On e x → Height (cond a e.py (cond b e.qy (e.py ⊕ (x ⊖ e.px) ⊘ (e.qx ⊖ e.px) ⊗ (e.qy ⊖ e.py))))
    go true b h g w = wide S.py
    go false true h g w = wide S.qy
    go false false h g (inl w) = share_height (share_on S.px S.qx X (strict (k e.px) (k x) w.0 (λ z. h tt (sym z))) (strict (k x) (k e.qx) w.1 (g tt))) S.py S.qy
      where
        strict : (a b : ℕ) → a ≤ b → (a ≡ b → ⊥) → a < b
        strict a b l n = omega arith
    go false false h g (inr w) = share_height (share_back S.px S.qx X (strict (k e.qx) (k x) w.0 (λ z. g tt (sym z))) (strict (k x) (k e.px) w.1 (h tt))) S.py S.qy
      where
        strict : (a b : ℕ) → a ≤ b → (a ≡ b → ⊥) → a < b
        strict a b l n = omega arith

-- an edge that spans a slab holds both its ends
module _ (xa xb : Float) (A : Coordinate xa) (B : Coordinate xb) (ab : k xa < k xb) where
  spans_on : (e : Edge) → Sides e → spans xa xb e ≡ true → On e xa × On e xb
  unfolding spans smaller larger
  spans_on e S h =
      let t = holds h in
      let l = and_l (le e.lo xa) (le xb e.hi && not (eq e.px e.qx)) t in
      let r = and_l (le xb e.hi) (not (eq e.px e.qx)) (and_r (le e.lo xa) (le xb e.hi && not (eq e.px e.qx)) t) in
      go (lt e.qx e.px) (lt e.px e.qx) (lt_no (finite S.qx.num) (finite S.px.num)) (lt_yes (finite S.px.num) (finite S.qx.num)) (lt_no (finite S.px.num) (finite S.qx.num))
      (lt_yes (finite S.qx.num) (finite S.px.num))
      (subst (λ (x : Float). T (le x xa)) S.lo l) (subst (λ (x : Float). T (le xb x)) S.hi r)
    where
      go : (a b : Bool) → (T (not a) → k e.px ≤ k e.qx) → (T b → k e.px < k e.qx) → (T (not b) → k e.qx ≤ k e.px) → (T a → k e.qx < k e.px) → T (le (cond a e.qx e.px) xa) → T (le xb (cond b e.qx e.px)) → On e xa × On e xb
      go true true n y m z l r = absurd (omega (arith, y tt, z tt))
      go true false n y m z l r =
          let v = le_yes (finite S.qx.num) (finite A.num) l in
          let w = le_yes (finite B.num) (finite S.px.num) r in
          (inr (v, omega arith), inr (omega arith, w))
      go false true n y m z l r =
          let v = le_yes (finite S.px.num) (finite A.num) l in
          let w = le_yes (finite B.num) (finite S.qx.num) r in
          (inl (v, omega arith), inl (omega arith, w))
      go false false n y m z l r =
          let v = le_yes (finite S.px.num) (finite A.num) l in
          let w = le_yes (finite B.num) (finite S.px.num) r in
          absurd (omega arith)

  abbrev Crossed : Crossing → Type 0
  Crossed c = Height c.ya × Height c.yb

  crossing-good : (e : Edge) → Sides e → spans xa xb e ≡ true → Crossed (crossing xa xb e)
  unfolding crossing
  crossing-good e S h = let w = spans_on e S h in (height_good e xa S A w.0, height_good e xb S B w.1)

  spanning-good : (es : List Edge) → All Sides es → All Crossed (spanning xa xb es)
  unfolding spanning
  spanning-good [] p = tt
  spanning-good (e ∷ es) p = go (spans xa xb e) refl (spanning-good es p.1)
    where
      go : (b : Bool) → spans xa xb e ≡ b → All Crossed (spanning xa xb es) → All Crossed (elim b [ true ↦ crossing xa xb e ∷ spanning xa xb es | false ↦ spanning xa xb es ])
      go true h q = (crossing-good e p.0 h, q)
      go false h q = q

  crossings-good : (es : List Edge) → All Sides es → All Crossed (crossings xa xb es)
  unfolding crossings
  crossings-good es p = all_sort Crossed before (spanning xa xb es) (spanning-good es p)

  cond_height : (b : Bool) (x y : Float) → Height x → Height y → Height (cond b x y)
  cond_height true x y p q = p
  cond_height false x y p q = q

  strip-good : (la lb ya yb : Float) → Height la → Height lb → Height ya → Height yb → Good (strip xa xb la lb ya yb)
  unfolding strip smaller larger
  strip-good la lb ya yb p q r s =
      record {
        order = ab;
        sizes = record {
          x0 = A;
          x1 = B;
          low0 = cond_height (lt ya la) ya la r p;
          low1 = cond_height (lt yb lb) yb lb s q;
          high0 = cond_height (lt la ya) ya la r p;
          high1 = cond_height (lt lb yb) yb lb s q;
        };
      }

  piece-good : (b : Bool) (s : Trapezoid) → Good s → All Good (piece b s)
  unfolding piece
  piece-good b s g = go (b && kept s)
    where
      go : (t : Bool) → All Good (elim t [ true ↦ s ∷ [] | false ↦ [] ])
      go true = (g, tt)
      go false = tt

  walk-good : (sheet : Bool) (top : Float) (w : ℤ) (la lb : Float) (cs : List Crossing) → Height top → Height la → Height lb → All Crossed cs → All Good (walk sheet top xa xb w la lb cs)
  unfolding walk
  walk-good sheet top w la lb [] t p q h = piece-good (sheet && runs sheet w) (strip xa xb la lb top top) (strip-good la lb top top p q t t)
  walk-good sheet top w la lb (c ∷ cs) t p q h =
      all_append Good (piece (runs sheet w && not (runs sheet (w +ℤ c.d))) (strip xa xb la lb c.ya c.yb))
      (walk sheet top xa xb (w +ℤ c.d) (cond (runs sheet w) la c.ya) (cond (runs sheet w) lb c.yb) cs)
      (piece-good (runs sheet w && not (runs sheet (w +ℤ c.d))) (strip xa xb la lb c.ya c.yb) (strip-good la lb c.ya c.yb p q h.0.0 h.0.1))
      (walk-good sheet top (w +ℤ c.d) (cond (runs sheet w) la c.ya) (cond (runs sheet w) lb c.yb) cs t (cond_height (runs sheet w) la c.ya p h.0.0) (cond_height (runs sheet w) lb c.yb q h.0.1) h.1)

-- the strips of one slab
pub slab-good : (es : List Edge) (sheet : Bool) (bottom top xa xb : Float) → All Sides es → Height bottom → Height top → Coordinate xa → Coordinate xb → k xa < k xb → All Good (slab es sheet bottom top xa xb)
unfolding slab
slab-good es sheet bottom top xa xb S p q A B ab = walk-good xa xb A B ab sheet top _ bottom bottom (crossings xa xb es) q p p (crossings-good xa xb A B ab es S)
