-- One strip entered_from: a number at the end of each of its buckets, and all after that moved up. Assumes nothing.
use Prim.Native.Nat.{ℕ, ◌+◌, ◌-◌, ◌*◌, ◌<◌, ◌≤◌, min}
use native.Mathlib.Omega.{arith}
use mathlib.Core.Path.{◌≡◌, refl, sym, ap, ◌∙◌, subst}
use mathlib.Core.Logic.{◌⊎◌, inl, inr}
use mathlib.Core.Bool.{true}
use mathlib.Core.List.{List, [], ◌∷◌, ◌++◌}
use lib.ListN.{length, get_or, length-append, get_or-append}
use lib.Seq.{get_or_at}
use lib.Ieee.{Float}
use Rattle.numbers.proofs.Truth.{below_or_not}
use Rattle.trapezoid.specs.Strip.{strip_at}
use Rattle.index.specs.declared.Index.{Index}
use Rattle.index.specs.Buckets.{buckets, bucket_in}
use Rattle.index.specs.inner.Listing.{Laid, entered_from}
use Rattle.index.proofs.Steps.{bucket_top}
use Rattle.enter.specs.inner.EntryRoom.{start_of, enter_of}
use Rattle.moves.specs.inner.Moves.{Moved, Shifted}
use Rattle.enter.specs.inner.Gaps.{rooms, entering, Blocks}
use Rattle.gaps.specs.inner.OpenGaps.{Inserted, Stepped}
use Rattle.enter.proofs.Starts.{start-next, start-last, entered_yes, covers_yes, laid-starts, laid-holds, laid-entries, laid_table, enter_fits}
use Rattle.enter.proofs.GapFilling.{stays, blocks_laid}
use Rattle.enter.proofs.Marks.{strip-starts}

-- ---- the strip is entered_from
module _ (ix : Index) (standing : List Float) (m lo hi width : ℕ) (e₀ st e₁ e s₁ s : List ℕ) (x : lo ≡ bucket_in ix (strip_at standing m).x0) (y : hi ≡ bucket_in ix (strip_at standing m).x1) (w : width ≡ hi + 1 - lo)
    (L : Laid ix standing m e₀ st) (M : Moved (get_or st (lo + width) 0) (get_or st buckets 0) width e₀ e₁) (I : Inserted lo width m st e₁ 0 e) (P : Stepped lo st width s₁) (S : Shifted (lo + width + 1) width s₁ (length s₁) s) where
  -- it ends in the last bucket at most
  high : lo + width ≤ buckets
  high = let t = bucket_top ix (strip_at standing m).x0 in let u = bucket_top ix (strip_at standing m).x1 in omega arith

  at : (b : ℕ) → b ≤ buckets → start_of ix standing (m + 1) b ≡ get_or st b 0 + min (b - lo) width
  at b h =
      let a = strip-starts ix standing m lo hi x y b h in
      let d = laid-starts ix standing m e₀ st L b h in
      let q : min (hi + 1) b - lo ≡ min (b - lo) width = omega arith in
      omega arith

  starts_at : (b : ℕ) → b ≤ buckets → get_or s b 0 ≡ start_of ix standing (m + 1) b
  starts_at b h = go (below_or_not (lo + width) b) ∙ sym (at b h)
    where
      go : (lo + width < b) ⊎ (b ≤ lo + width) → get_or s b 0 ≡ get_or st b 0 + min (b - lo) width
      go (inl l) =
          let q : min (b - lo) width ≡ width = omega arith in
          let z = P.size in
          let t = L.table in
          S.done b (omega arith) (omega arith) ∙ (let u = P.todo b l in let v : get_or s₁ b 0 + width ≡ get_or st b 0 + min (b - lo) width = omega arith in v)
      go (inr l) =
          let q : min (b - lo) width ≡ b - lo = omega arith in
          S.early b (omega arith) ∙ (P.done b l ∙ ap (λ (k : ℕ). get_or st b 0 + k) (sym q))

  next : (b : ℕ) → b < buckets → get_or st (b + 1) 0 ≡ get_or st b 0 + length (entered_from ix standing m b)
  next b h = let a = laid-starts ix standing m e₀ st L b (omega arith) in let d = laid-starts ix standing m e₀ st L (b + 1) (omega arith) in let f = start-next ix standing m b in omega arith

  up : (b c : ℕ) → b ≤ c → c ≤ buckets → get_or st b 0 ≤ get_or st c 0
  up b c h l = L.rise b c h (omega arith)

  holds : (b : ℕ) → b < buckets → (j : ℕ) → j < length (entered_from ix standing (m + 1) b) → get_or e (start_of ix standing (m + 1) b + j) 0 ≡ get_or (entered_from ix standing (m + 1) b) j 0
  holds b h j l = go (below_or_not b lo) (below_or_not b (lo + width))
    where
      same : (lo ≤ b → b ≤ hi → ⊥) → entered_from ix standing (m + 1) b ≡ entered_from ix standing m b
      same q = stays ix standing m (m + 1) (omega arith) b (λ p r. q (omega arith) (omega arith))

      old : entered_from ix standing (m + 1) b ≡ entered_from ix standing m b → (get_or e (start_of ix standing (m + 1) b + j) 0 ≡ get_or e₀ (get_or st b 0 + j) 0) → get_or e (start_of ix standing (m + 1) b + j) 0 ≡ get_or (entered_from ix standing (m + 1) b) j 0
      old q r = r ∙ (laid-holds ix standing m e₀ st L b h j (subst (λ (k : List ℕ). j < length k) q l) ∙ ap (λ (k : List ℕ). get_or k j 0) (sym q))

      long : entered_from ix standing (m + 1) b ≡ entered_from ix standing m b → get_or st b 0 + j < get_or st (b + 1) 0
      long q = let z : j < length (entered_from ix standing m b) = subst (λ (k : List ℕ). j < length k) q l in let n = next b h in omega arith

      early : b < lo → get_or e (start_of ix standing (m + 1) b + j) 0 ≡ get_or (entered_from ix standing (m + 1) b) j 0
      early a = old q
          (let p : start_of ix standing (m + 1) b + j ≡ get_or st b 0 + j = (let z = at b (omega arith) in let y : min (b - lo) width ≡ 0 = omega arith in omega arith) in
          let g = long q in
          let u = up (b + 1) lo (omega arith) (let t = high in omega arith) in
          let v = up lo (lo + width) (omega arith) high in
          let i : lo + 0 ≡ lo = omega arith in
          ap (λ (k : ℕ). get_or e k 0) p ∙ (I.kept (get_or st b 0 + j) (subst (λ (k : ℕ). get_or st b 0 + j < get_or st k 0 + 0) (sym i) (omega arith)) ∙ M.front (get_or st b 0 + j) (omega arith)))
        where
          no : lo ≤ b → ⊥
          no p = omega arith

          q : entered_from ix standing (m + 1) b ≡ entered_from ix standing m b
          q = same (λ p r. no p)

      late : lo + width ≤ b → lo ≤ b → get_or e (start_of ix standing (m + 1) b + j) 0 ≡ get_or (entered_from ix standing (m + 1) b) j 0
      late a f = old q
          (let p : start_of ix standing (m + 1) b + j ≡ get_or st b 0 + j + width = (let z = at b (omega arith) in let y : min (b - lo) width ≡ width = omega arith in omega arith) in
          let g = long q in
          let u = up (lo + width) b a (omega arith) in
          let v = up (b + 1) buckets (omega arith) (native.Mathlib.Nat.le_refl buckets) in
          ap (λ (k : ℕ). get_or e k 0) p ∙ (I.rest (get_or st b 0 + j + width) (omega arith) ∙ M.up (get_or st b 0 + j) (omega arith) (omega arith)))
        where
          no : b ≤ hi → ⊥
          no p = omega arith

          q : entered_from ix standing (m + 1) b ≡ entered_from ix standing m b
          q = same (λ p r. no r)

      inside : lo ≤ b → b < lo + width → get_or e (start_of ix standing (m + 1) b + j) 0 ≡ get_or (entered_from ix standing (m + 1) b) j 0
      inside a f = fits (below_or_not j (length (entered_from ix standing m b)))
        where
          more : entered_from ix standing (m + 1) b ≡ entered_from ix standing m b ++ (m ∷ [])
          more = entered_yes ix standing m b (covers_yes ix standing m b (omega arith) (omega arith))

          place : start_of ix standing (m + 1) b ≡ get_or st b 0 + (b - lo)
          place = let z = at b (omega arith) in let y : min (b - lo) width ≡ b - lo = omega arith in omega arith

          d : lo + (b - lo) ≡ b
          d = omega arith

          fits : (j < length (entered_from ix standing m b)) ⊎ (length (entered_from ix standing m b) ≤ j) → get_or e (start_of ix standing (m + 1) b + j) 0 ≡ get_or (entered_from ix standing (m + 1) b) j 0
          fits (inl g) =
              let p : start_of ix standing (m + 1) b + j ≡ get_or st b 0 + j + (b - lo) = (let z = place in omega arith) in
              let n = next b h in
              let u = up (b + 1) (lo + width) (omega arith) high in
              ap (λ (k : ℕ). get_or e k 0) p
              ∙ (I.moved (b - lo) (omega arith) (omega arith) (get_or st b 0 + j) (subst (λ (k : ℕ). get_or st k 0 ≤ get_or st b 0 + j) (sym d) (omega arith)) (subst (λ (k : ℕ). get_or st b 0 + j < get_or st (k + 1) 0) (sym d) (omega arith))
              ∙ (M.front (get_or st b 0 + j) (omega arith)
              ∙ (laid-holds ix standing m e₀ st L b h j g ∙ sym (ap (λ (k : List ℕ). get_or k j 0) more ∙ get_or-append (entered_from ix standing m b) (m ∷ []) 0 j g))))
          fits (inr g) =
              let z : length (entered_from ix standing (m + 1) b) ≡ length (entered_from ix standing m b) + 1 = ap length more ∙ length-append (entered_from ix standing m b) (m ∷ []) in
              let i : length (entered_from ix standing m b) ≡ j = omega arith in
              let n = next b h in
              let p : start_of ix standing (m + 1) b + j ≡ get_or st (b + 1) 0 + (b - lo) = (let z = place in omega arith) in
              ap (λ (k : ℕ). get_or e k 0) p
              ∙ (subst (λ (k : ℕ). get_or e (get_or st (k + 1) 0 + (b - lo)) 0 ≡ m) d (I.put (b - lo) (omega arith) (omega arith))
              ∙ sym (ap (λ (k : List ℕ). get_or k j 0) more ∙ subst (λ (k : ℕ). get_or (entered_from ix standing m b ++ (m ∷ [])) k 0 ≡ m) i (get_or_at (entered_from ix standing m b) m [] 0 (length (entered_from ix standing m b)) refl)))

      go : (b < lo) ⊎ (lo ≤ b) → (b < lo + width) ⊎ (lo + width ≤ b) → get_or e (start_of ix standing (m + 1) b + j) 0 ≡ get_or (entered_from ix standing (m + 1) b) j 0
      go (inl a) t = early a
      go (inr a) (inl t) = inside a t
      go (inr a) (inr t) = late t a

  one_blocks : Blocks (start_of ix standing (m + 1)) (entered_from ix standing (m + 1)) e s
  one_blocks = record { table = S.size ∙ (P.size ∙ L.table); first = starts_at 0 (omega arith) ∙ (at 0 (omega arith) ∙ (let f = L.first in let q : get_or st 0 0 + min (0 - lo) width ≡ 0 = omega arith in q)); ends = λ b h. starts_at (b + 1) (omega arith) ∙ start-next ix standing (m + 1) b; holds = holds }

  last : start_of ix standing (m + 1) buckets ≡ get_or st buckets 0 + width
  last = let z = at buckets (omega arith) in let t = high in let q : min (buckets - lo) width ≡ width = omega arith in omega arith

  pub one-laid : 6 * m + 6 ≤ length standing → get_or st buckets 0 + width ≤ length e₀ → Laid ix standing (m + 1) e s
  one-laid r f = blocks_laid ix standing (m + 1) e s (omega arith) (let a = last in let b = I.size in let d = M.size in omega arith) one_blocks

  pub one-entered : 6 * m + 6 ≤ length standing → get_or st buckets 0 + width ≤ length e₀ → entering true e s ≡ enter_of ix standing (m + 1) (rooms e₀ st)
  one-entered r f =
      let K = one-laid r f in
      let E = laid-entries ix standing (m + 1) e s K e₀ (I.size ∙ M.size) (λ j a. outside j a) in
      let T = laid_table ix standing (m + 1) e s K in
      let z = start-last ix standing (m + 1) in
      let a = last in
      rw (E, T) (enter_fits ix standing (m + 1) (rooms e₀ st) (omega arith))
    where
      outside : (j : ℕ) → start_of ix standing (m + 1) buckets ≤ j → get_or e j 0 ≡ get_or e₀ j 0
      outside j a =
          let b = last in
          let u = up (lo + width) buckets high (native.Mathlib.Nat.le_refl buckets) in
          I.rest j (omega arith) ∙ M.back j (omega arith)
