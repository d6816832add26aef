-- Numbers put at the ends of buckets that have room there. Assumes nothing.
use Prim.Native.Nat.{ℕ, zero, suc, ◌+◌, ◌-◌, ◌*◌, ◌<◌, ◌≤◌}
use native.Mathlib.Omega.{arith}
use native.Mathlib.Numerals.{add-one}
use mathlib.Core.Path.{◌≡◌, refl, sym, ap, ◌∙◌, subst}
use mathlib.Core.Logic.{◌⊎◌, inl, inr}
use mathlib.Core.Bool.{true, false}
use mathlib.Core.List.{List, [], ◌∷◌, ◌++◌}
use lib.ListN.{length, get_or, set, length-set, length-append}
use lib.Seq.{slice, get_or-set_same, get_or-set_other, get_or_at, ext_get_or, length-slice, get_or-take, get_or-drop}
use lib.Dec.{ltb}
use lib.Ieee.{Float}
use borrow.Author.Tests.{lt-ltb, le-ltb}
use Rattle.numbers.proofs.Truth.{either, below_or_not}
use Rattle.trapezoid.specs.Strip.{strip_at}
use Rattle.index.specs.declared.Index.{Index}
use Rattle.index.specs.Buckets.{buckets, bucket_in}
use Rattle.index.specs.inner.Listing.{Laid, covers, entered_from}
use Rattle.enter.specs.inner.EntryRoom.{start_of, Rooms, enter_of}
use Rattle.enter.specs.inner.Gaps.{rooms, entering, Counted, Blocks, filled}
use Rattle.gaps.specs.inner.OpenGaps.{before, Opened}
use Rattle.enter.proofs.Starts.{start_first, start-next, start-rise, entered_yes, entered_no, entered_more, covers-parts, covers_yes, start_gain, start-last, laid-starts, laid-holds, laid-entries, laid_table, enter_fits, enter_over}

-- ---- open gaps are blocks of the old entries, where the new lists begin
pub opened_blocks : (ix : Index) (standing : List Float) (m c : ℕ) (g e₀ st e s : List ℕ) → Laid ix standing m e₀ st → Counted ix standing c m g → Opened buckets st g e₀ 0 e s → Blocks (start_of ix standing (m + c)) (entered_from ix standing m) e s
opened_blocks ix standing m c g e₀ st e s L C O = record { table = O.table ∙ L.table; first = O.old 0 (omega arith) ∙ L.first; ends = ends; holds = holds }
  where
    begins : (b : ℕ) → b ≤ buckets → start_of ix standing (m + c) b ≡ get_or st b 0 + before g b
    begins b h = start_gain ix standing m c g C b h ∙ ap (λ (k : ℕ). k + before g b) (sym (laid-starts ix standing m e₀ st L b h))

    next : (b : ℕ) → b < buckets → get_or st (b + 1) 0 ≡ get_or st b 0 + length (entered_from ix standing m b)
    next b h = let a = laid-starts ix standing m e₀ st L b (omega arith) in let d = laid-starts ix standing m e₀ st L (b + 1) (omega arith) in let f = start-next ix standing m b in omega arith

    ends : (b : ℕ) → b < buckets → get_or s (b + 1) 0 ≡ start_of ix standing (m + c) b + length (entered_from ix standing m b)
    ends b h = let a = O.new b (omega arith) h in let d = begins b (omega arith) in let f = next b h in omega arith

    holds : (b : ℕ) → b < buckets → (j : ℕ) → j < length (entered_from ix standing m b) → get_or e (start_of ix standing (m + c) b + j) 0 ≡ get_or (entered_from ix standing m b) j 0
    holds b h j l =
        let d = begins b (omega arith) in
        let f = next b h in
        let q : start_of ix standing (m + c) b + j ≡ get_or st b 0 + j + before g b = omega arith in
        ap (λ (i : ℕ). get_or e i 0) q ∙ (O.moved b (omega arith) h (get_or st b 0 + j) (omega arith) (omega arith) ∙ laid-holds ix standing m e₀ st L b h j l)

pub blocks_same : (at : ℕ → ℕ) (l m : ℕ → List ℕ) (e s : List ℕ) → ((b : ℕ) → b < buckets → l b ≡ m b) → Blocks at l e s → Blocks at m e s
blocks_same at l m e s h B = record {
  table = B.table;
  first = B.first;
  ends = λ b a. subst (λ (k : List ℕ). get_or s (b + 1) 0 ≡ at b + length k) (h b a) (B.ends b a);
  holds = λ b a. subst (λ (k : List ℕ). (j : ℕ) → j < length k → get_or e (at b + j) 0 ≡ get_or k j 0) (h b a) (B.holds b a);
}

same_or_not : (a b : ℕ) → (a ≡ b) ⊎ ((a < b) ⊎ (b < a))
same_or_not a b = go (below_or_not a b) (below_or_not b a)
  where
    go : (a < b) ⊎ (b ≤ a) → (b < a) ⊎ (a ≤ b) → (a ≡ b) ⊎ ((a < b) ⊎ (b < a))
    go (inl h) k = inr (inl h)
    go (inr h) (inl k) = inr (inr k)
    go (inr h) (inr k) = inl (omega arith)

-- one number more in bucket b, which ends before the next begins
module _ (at : ℕ → ℕ) (up : (b c : ℕ) → b ≤ c → at b ≤ at c) (l m : ℕ → List ℕ) (i b : ℕ) (h : b < buckets)
    (room : (c : ℕ) → c < buckets → at c + length (l c) ≤ at (c + 1)) (one : at b + length (l b) < at (b + 1))
    (here : m b ≡ l b ++ (i ∷ [])) (there : (c : ℕ) → (c ≡ b → ⊥) → m c ≡ l c) where
  pub blocks_put : (e s : List ℕ) → at b + length (l b) < length e → Blocks at l e s → Blocks at m (set e (get_or s (b + 1) 0) i) (set s (b + 1) (get_or s (b + 1) 0 + 1))
  blocks_put e s w B = record { table = length-set s (b + 1) (get_or s (b + 1) 0 + 1) ∙ B.table; first = get_or-set_other s (b + 1) 0 (get_or s (b + 1) 0 + 1) 0 (λ q. zero-not q) ∙ B.first; ends = λ c a. ends c a (same_or_not c b); holds = λ c a. holds c a (same_or_not c b) }
    where
      zero-not : 0 ≡ b + 1 → ⊥
      zero-not q = omega arith

      end : get_or s (b + 1) 0 ≡ at b + length (l b)
      end = B.ends b h

      longer : length (m b) ≡ length (l b) + 1
      longer = ap length here ∙ length-append (l b) (i ∷ [])

      ends-other : (c : ℕ) → c < buckets → (c ≡ b → ⊥) → get_or (set s (b + 1) (get_or s (b + 1) 0 + 1)) (c + 1) 0 ≡ at c + length (m c)
      ends-other c a n = get_or-set_other s (b + 1) (c + 1) (get_or s (b + 1) 0 + 1) 0 (λ q. n (omega arith)) ∙ (B.ends c a ∙ ap (λ (k : List ℕ). at c + length k) (sym (there c n)))

      ends : (c : ℕ) → c < buckets → (c ≡ b) ⊎ ((c < b) ⊎ (b < c)) → get_or (set s (b + 1) (get_or s (b + 1) 0 + 1)) (c + 1) 0 ≡ at c + length (m c)
      ends c a (inl q) = subst (λ (d : ℕ). get_or (set s (b + 1) (get_or s (b + 1) 0 + 1)) (d + 1) 0 ≡ at d + length (m d)) (sym q) (get_or-set_same s (b + 1) (get_or s (b + 1) 0 + 1) 0 (let t = B.table in omega arith) ∙ omega (arith, end, longer))
      ends c a (inr (inl q)) = ends-other c a (λ z. below z)
        where
          below : c ≡ b → ⊥
          below z = omega arith
      ends c a (inr (inr q)) = ends-other c a (λ z. above z)
        where
          above : c ≡ b → ⊥
          above z = omega arith

      holds-other : (c : ℕ) → c < buckets → (c ≡ b → ⊥) → ((j : ℕ) → j < length (l c) → at c + j ≡ get_or s (b + 1) 0 → ⊥) → (j : ℕ) → j < length (m c) → get_or (set e (get_or s (b + 1) 0) i) (at c + j) 0 ≡ get_or (m c) j 0
      holds-other c a n f = subst (λ (k : List ℕ). (j : ℕ) → j < length k → get_or (set e (get_or s (b + 1) 0) i) (at c + j) 0 ≡ get_or k j 0) (sym (there c n)) (λ j z. get_or-set_other e (get_or s (b + 1) 0) (at c + j) i 0 (λ q. f j z q) ∙ B.holds c a j z)

      last : (j : ℕ) → j < length (l b ++ (i ∷ [])) → (j < length (l b)) ⊎ (length (l b) ≤ j) → get_or (set e (get_or s (b + 1) 0) i) (at b + j) 0 ≡ get_or (l b ++ (i ∷ [])) j 0
      last j z (inl q) = get_or-set_other e (get_or s (b + 1) 0) (at b + j) i 0 (λ y. not_end y) ∙ (B.holds b h j q ∙ sym (lib.ListN.get_or-append (l b) (i ∷ []) 0 j q))
        where
          not_end : at b + j ≡ get_or s (b + 1) 0 → ⊥
          not_end y = let t = end in omega arith
      last j z (inr q) =
          let n : j ≡ length (l b) = (let w = length-append (l b) (i ∷ []) in omega arith) in
          let t : at b + j ≡ get_or s (b + 1) 0 = (let w = end in omega arith) in
          ap (λ (k : ℕ). get_or (set e (get_or s (b + 1) 0) i) k 0) t ∙ (get_or-set_same e (get_or s (b + 1) 0) i 0 (let y = end in omega arith) ∙ sym (ap (λ (k : ℕ). get_or (l b ++ (i ∷ [])) k 0) n ∙ get_or_at (l b) i [] 0 (length (l b)) refl))

      holds : (c : ℕ) → c < buckets → (c ≡ b) ⊎ ((c < b) ⊎ (b < c)) → (j : ℕ) → j < length (m c) → get_or (set e (get_or s (b + 1) 0) i) (at c + j) 0 ≡ get_or (m c) j 0
      holds c a (inl q) = subst (λ (d : ℕ). (j : ℕ) → j < length (m d) → get_or (set e (get_or s (b + 1) 0) i) (at d + j) 0 ≡ get_or (m d) j 0) (sym q) (subst (λ (k : List ℕ). (j : ℕ) → j < length k → get_or (set e (get_or s (b + 1) 0) i) (at b + j) 0 ≡ get_or k j 0) (sym here) (λ j z. last j z (below_or_not j (length (l b)))))
      holds c a (inr (inl q)) = holds-other c a (λ z. ne z) (λ j z y. apart j z y)
        where
          ne : c ≡ b → ⊥
          ne z = omega arith

          apart : (j : ℕ) → j < length (l c) → at c + j ≡ get_or s (b + 1) 0 → ⊥
          apart j z y = let r = room c a in let u = up (c + 1) b (omega arith) in let t = end in omega arith
      holds c a (inr (inr q)) = holds-other c a (λ z. ne z) (λ j z y. apart j z y)
        where
          ne : c ≡ b → ⊥
          ne z = omega arith

          apart : (j : ℕ) → j < length (l c) → at c + j ≡ get_or s (b + 1) 0 → ⊥
          apart j z y = let u = up (b + 1) c (omega arith) in let t = end in omega arith

-- ---- one strip, in the buckets lo to hi
module _ (ix : Index) (standing : List Float) (i n : ℕ) (less : i < n) where
  abbrev at : ℕ → ℕ
  at = start_of ix standing n

  abbrev lo : ℕ
  lo = bucket_in ix (strip_at standing i).x0

  abbrev hi : ℕ
  hi = bucket_in ix (strip_at standing i).x1

  -- the buckets before b have the strip's number already
  mix : ℕ → ℕ → List ℕ
  mix b c = elim (ltb c b) [ true ↦ entered_from ix standing (i + 1) c | false ↦ entered_from ix standing i c ]

  mix_before : (b c : ℕ) → c < b → mix b c ≡ entered_from ix standing (i + 1) c
  unfolding mix
  mix_before b c h = rw (lt-ltb c b h, mix)

  mix_after : (b c : ℕ) → b ≤ c → mix b c ≡ entered_from ix standing i c
  unfolding mix
  mix_after b c h = rw (le-ltb c b h, mix)

  mix_room : (b c : ℕ) → at c + length (mix b c) ≤ at (c + 1)
  mix_room b c = go (below_or_not c b)
    where
      go : (c < b) ⊎ (b ≤ c) → at c + length (mix b c) ≤ at (c + 1)
      go (inl h) = let a = start-next ix standing n c in let d = entered_more ix standing (i + 1) n c (omega arith) in let f = ap length (mix_before b c h) in omega arith
      go (inr h) = let a = start-next ix standing n c in let d = entered_more ix standing i n c (omega arith) in let f = ap length (mix_after b c h) in omega arith

  -- bucket b has room for one more
  pub room_for : (b : ℕ) → lo ≤ b → b ≤ hi → at b + length (entered_from ix standing i b) < at (b + 1)
  room_for b a d =
      let u = entered_yes ix standing i b (covers_yes ix standing i b a d) in
      let v : length (entered_from ix standing (i + 1) b) ≡ length (entered_from ix standing i b) + 1 = ap length u ∙ length-append (entered_from ix standing i b) (i ∷ []) in
      let w = entered_more ix standing (i + 1) n b (omega arith) in
      let z = start-next ix standing n b in
      omega arith

  filled_mix : (c b : ℕ) (r : Rooms) → lo ≤ b → b + c ≤ hi + 1 → hi < buckets → at buckets ≤ length r.entries → Blocks at (mix b) r.entries r.starts
      → Blocks at (mix (b + c)) (filled i c b r).entries (filled i c b r).starts × (length (filled i c b r).entries ≡ length r.entries) × ((j : ℕ) → at buckets ≤ j → get_or (filled i c b r).entries j 0 ≡ get_or r.entries j 0)
  unfolding filled
  filled_mix zero b r a d h w B = let e : b + 0 ≡ b = omega arith in (rw e B, refl, λ j z. refl)
  filled_mix (suc c) b r a d h w B = go (filled_mix c (suc b) (rooms (set r.entries (get_or r.starts (b + 1) 0) i) (set r.starts (b + 1) (get_or r.starts (b + 1) 0 + 1))) (omega arith) (omega arith) h (rw (length-set r.entries (get_or r.starts (b + 1) 0) i) w) step)
    where
      room : at b + length (mix b b) < at (b + 1)
      room = let u = room_for b a (omega arith) in let f = ap length (mix_after b b (native.Mathlib.Nat.le_refl b)) in omega arith

      place : at b + length (mix b b) < at buckets
      place = let u = room in let v = start-rise ix standing n (b + 1) buckets (omega arith) in omega arith

      there : (d : ℕ) → (d ≡ b → ⊥) → mix (suc b) d ≡ mix b d
      there d q = other (below_or_not d b)
        where
          other : (d < b) ⊎ (b ≤ d) → mix (suc b) d ≡ mix b d
          other (inl z) = mix_before (suc b) d (omega arith) ∙ sym (mix_before b d z)
          other (inr z) = mix_after (suc b) d (past (native.Mathlib.Nat.eq-or-lt_of_le z)) ∙ sym (mix_after b d z)
            where
              past : (b ≡ d) ⊎ (b < d) → suc b ≤ d
              past (inl y) = absurd (q (sym y))
              past (inr y) = omega arith

      here : mix (suc b) b ≡ mix b b ++ (i ∷ [])
      here = mix_before (suc b) b (omega arith) ∙ (entered_yes ix standing i b (covers_yes ix standing i b a (omega arith)) ∙ ap (λ (k : List ℕ). k ++ (i ∷ [])) (sym (mix_after b b (native.Mathlib.Nat.le_refl b))))

      step : Blocks at (mix (suc b)) (set r.entries (get_or r.starts (b + 1) 0) i) (set r.starts (b + 1) (get_or r.starts (b + 1) 0 + 1))
      step = blocks_put at (start-rise ix standing n) (mix b) (mix (suc b)) i b (omega arith) (λ d z. mix_room b d) room here there r.entries r.starts (let u = place in omega arith) B

      outside : (j : ℕ) → at buckets ≤ j → get_or (set r.entries (get_or r.starts (b + 1) 0) i) j 0 ≡ get_or r.entries j 0
      outside j z = get_or-set_other r.entries (get_or r.starts (b + 1) 0) j i 0 (λ q. far q)
        where
          far : j ≡ get_or r.starts (b + 1) 0 → ⊥
          far q = let u = place in let v = B.ends b (omega arith) in omega arith

      go : Blocks at (mix (suc b + c)) (filled i c (suc b) (rooms (set r.entries (get_or r.starts (b + 1) 0) i) (set r.starts (b + 1) (get_or r.starts (b + 1) 0 + 1)))).entries (filled i c (suc b) (rooms (set r.entries (get_or r.starts (b + 1) 0) i) (set r.starts (b + 1) (get_or r.starts (b + 1) 0 + 1)))).starts
          × (length (filled i c (suc b) (rooms (set r.entries (get_or r.starts (b + 1) 0) i) (set r.starts (b + 1) (get_or r.starts (b + 1) 0 + 1)))).entries ≡ length (set r.entries (get_or r.starts (b + 1) 0) i))
          × ((j : ℕ) → at buckets ≤ j → get_or (filled i c (suc b) (rooms (set r.entries (get_or r.starts (b + 1) 0) i) (set r.starts (b + 1) (get_or r.starts (b + 1) 0 + 1)))).entries j 0 ≡ get_or (set r.entries (get_or r.starts (b + 1) 0) i) j 0)
          → Blocks at (mix (b + suc c)) (filled i (suc c) b r).entries (filled i (suc c) b r).starts × (length (filled i (suc c) b r).entries ≡ length r.entries) × ((j : ℕ) → at buckets ≤ j → get_or (filled i (suc c) b r).entries j 0 ≡ get_or r.entries j 0)
      go t = let e : suc b + c ≡ b + suc c = omega arith in (rw (← e) t.0, t.1 ∙ length-set r.entries (get_or r.starts (b + 1) 0) i, λ j z. t.2 j z ∙ outside j z)

  -- a bucket that the strip is not entered_from in stays
  pub stays : (c : ℕ) → (lo ≤ c → c ≤ hi → ⊥) → entered_from ix standing (i + 1) c ≡ entered_from ix standing i c
  stays c q = entered_no ix standing i c (go (either (covers ix (strip_at standing i) c)))
    where
      go : (covers ix (strip_at standing i) c ≡ true) ⊎ (covers ix (strip_at standing i) c ≡ false) → covers ix (strip_at standing i) c ≡ false
      go (inl e) = let t = covers-parts ix standing i c e in absurd (q t.0 t.1)
      go (inr e) = e

  pub filled-strip : (r : Rooms) → hi < buckets → at buckets ≤ length r.entries → Blocks at (entered_from ix standing i) r.entries r.starts
      → Blocks at (entered_from ix standing (i + 1)) (filled i (hi + 1 - lo) lo r).entries (filled i (hi + 1 - lo) lo r).starts × (length (filled i (hi + 1 - lo) lo r).entries ≡ length r.entries) × ((j : ℕ) → at buckets ≤ j → get_or (filled i (hi + 1 - lo) lo r).entries j 0 ≡ get_or r.entries j 0)
  filled-strip r h w B = go (below_or_not hi lo)
    where
      first : (c : ℕ) → c < buckets → entered_from ix standing i c ≡ mix lo c
      first c a = at_c (below_or_not c lo)
        where
          at_c : (c < lo) ⊎ (lo ≤ c) → entered_from ix standing i c ≡ mix lo c
          at_c (inl z) = sym (mix_before lo c z ∙ stays c (λ p q. early p))
            where
              early : lo ≤ c → ⊥
              early p = omega arith
          at_c (inr z) = sym (mix_after lo c z)

      last : lo ≤ hi → (c : ℕ) → c < buckets → mix (lo + (hi + 1 - lo)) c ≡ entered_from ix standing (i + 1) c
      last l c a = at_c (below_or_not c (lo + (hi + 1 - lo)))
        where
          at_c : (c < lo + (hi + 1 - lo)) ⊎ (lo + (hi + 1 - lo) ≤ c) → mix (lo + (hi + 1 - lo)) c ≡ entered_from ix standing (i + 1) c
          at_c (inl z) = mix_before (lo + (hi + 1 - lo)) c z
          at_c (inr z) = mix_after (lo + (hi + 1 - lo)) c z ∙ sym (stays c (λ p q. late q))
            where
              late : c ≤ hi → ⊥
              late q = omega arith

      go : (hi < lo) ⊎ (lo ≤ hi) → Blocks at (entered_from ix standing (i + 1)) (filled i (hi + 1 - lo) lo r).entries (filled i (hi + 1 - lo) lo r).starts × (length (filled i (hi + 1 - lo) lo r).entries ≡ length r.entries) × ((j : ℕ) → at buckets ≤ j → get_or (filled i (hi + 1 - lo) lo r).entries j 0 ≡ get_or r.entries j 0)
      go (inr l) =
          let t = filled_mix (hi + 1 - lo) lo r (native.Mathlib.Nat.le_refl lo) (omega arith) h w (blocks_same at (entered_from ix standing i) (mix lo) r.entries r.starts first B) in
          (blocks_same at (mix (lo + (hi + 1 - lo))) (entered_from ix standing (i + 1)) (filled i (hi + 1 - lo) lo r).entries (filled i (hi + 1 - lo) lo r).starts (last l) t.0, t.1, t.2)
      go (inl l) = rw (none) (blocks_same at (entered_from ix standing i) (entered_from ix standing (i + 1)) r.entries r.starts (λ c a. sym (stays c (λ p q. never p q))) B, refl, λ j z. refl)
        where
          z : hi + 1 - lo ≡ 0
          z = omega arith

          none : filled i (hi + 1 - lo) lo r ≡ r
          none = ap (λ (k : ℕ). filled i k lo r) z ∙ (unfold filled in refl)

          never : {c : ℕ} → lo ≤ c → c ≤ hi → ⊥
          never p q = omega arith

-- ---- full blocks are laid
pub blocks_laid : (ix : Index) (standing : List Float) (n : ℕ) (e s : List ℕ) → 6 * n ≤ length standing → start_of ix standing n buckets ≤ length e → Blocks (start_of ix standing n) (entered_from ix standing n) e s → Laid ix standing n e s
blocks_laid ix standing n e s m w B = record { table = B.table; first = B.first; rise = rise; within = within; block = block; room = m }
  where
    is : (b : ℕ) → b ≤ buckets → get_or s b 0 ≡ start_of ix standing n b
    is zero h = B.first ∙ sym (start_first ix standing n)
    is (suc b) h =
        let q : b + 1 ≡ suc b = add-one b in
        subst (λ (k : ℕ). get_or s k 0 ≡ start_of ix standing n k) q (B.ends b (omega arith) ∙ sym (start-next ix standing n b))

    rise : (b c : ℕ) → b ≤ c → c < buckets + 1 → get_or s b 0 ≤ get_or s c 0
    rise b c h l = let x = is b (omega arith) in let y = is c (omega arith) in let z = start-rise ix standing n b c h in omega arith

    within : (b : ℕ) → b < buckets + 1 → get_or s b 0 ≤ length e
    within b h = let x = is b (omega arith) in let z = start-rise ix standing n b buckets (omega arith) in omega arith

    block : (b : ℕ) → b < buckets → slice (get_or s b 0) (get_or s (b + 1) 0) e ≡ entered_from ix standing n b
    block b h = ext_get_or 0 (slice (get_or s b 0) (get_or s (b + 1) 0) e) (entered_from ix standing n b) size (λ j l. each j (rw size at l))
      where
        size : length (slice (get_or s b 0) (get_or s (b + 1) 0) e) ≡ length (entered_from ix standing n b)
        size = length-slice (get_or s b 0) (get_or s (b + 1) 0) e (within (b + 1) (omega arith)) ∙ (let x = is b (omega arith) in let y = B.ends b h in omega arith)

        each : (j : ℕ) → j < length (entered_from ix standing n b) → get_or (slice (get_or s b 0) (get_or s (b + 1) 0) e) j 0 ≡ get_or (entered_from ix standing n b) j 0
        each j l = get_or-drop (get_or s b 0) (lib.ListN.take (get_or s (b + 1) 0) e) j 0 ∙ (get_or-take (get_or s (b + 1) 0) e (get_or s b 0 + j) 0 (let x = is b (omega arith) in let y = B.ends b h in omega arith) ∙ (ap (λ (k : ℕ). get_or e (k + j) 0) (is b (omega arith)) ∙ B.holds b h j l))

-- ---- the loop over the buckets of a strip
pub filled_on : (i hi b : ℕ) (e s : List ℕ) → b ≤ hi → filled i (hi + 1 - b) b (rooms e s) ≡ filled i (hi + 1 - (b + 1)) (b + 1) (rooms (set e (get_or s (b + 1) 0) i) (set s (b + 1) (get_or s (b + 1) 0 + 1)))
unfolding filled
filled_on i hi b e s h =
    let q : hi + 1 - b ≡ suc (hi + 1 - (b + 1)) = omega arith in
    let z : suc b ≡ b + 1 = omega arith in
    ap (λ (k : ℕ). filled i k b (rooms e s)) q ∙ ap (λ (k : ℕ). filled i (hi + 1 - (b + 1)) k (rooms (set e (get_or s (b + 1) 0) i) (set s (b + 1) (get_or s (b + 1) 0 + 1)))) z

pub filled-end : (i hi b : ℕ) (e s : List ℕ) → hi < b → filled i (hi + 1 - b) b (rooms e s) ≡ rooms e s
unfolding filled
filled-end i hi b e s h = let q : hi + 1 - b ≡ 0 = omega arith in ap (λ (k : ℕ). filled i k b (rooms e s)) q

-- ---- one turn of the loop over the strips
module _ (ix : Index) (standing : List Float) (i n lo hi : ℕ) (less : i < n) (A : lo ≡ bucket_in ix (strip_at standing i).x0) (B : hi ≡ bucket_in ix (strip_at standing i).x1) where
  pub strip-room : (e s : List ℕ) → start_of ix standing n buckets ≤ length e → Blocks (start_of ix standing n) (entered_from ix standing i) e s → (b : ℕ) → lo ≤ b → b ≤ hi → get_or s (b + 1) 0 < length e
  strip-room e s w K b h l =
      let t = Rattle.index.proofs.Steps.bucket_top ix (strip_at standing i).x1 in
      let u = room_for ix standing i n less b (omega arith) (omega arith) in
      let v = K.ends b (omega arith) in
      let z = start-rise ix standing n (b + 1) buckets (omega arith) in
      omega arith

  pub fill_turn : (e s e' s' : List ℕ) → start_of ix standing n buckets ≤ length e → Blocks (start_of ix standing n) (entered_from ix standing i) e s → rooms e' s' ≡ filled i (hi + 1 - lo) lo (rooms e s)
      → Blocks (start_of ix standing n) (entered_from ix standing (i + 1)) e' s' × (length e' ≡ length e) × ((j : ℕ) → start_of ix standing n buckets ≤ j → get_or e' j 0 ≡ get_or e j 0)
  fill_turn e s e' s' w K q =
      let t = Rattle.index.proofs.Steps.bucket_top ix (strip_at standing i).x1 in
      let f = filled-strip ix standing i n less (rooms e s) (omega arith) w K in
      let p : rooms e' s' ≡ filled i (bucket_in ix (strip_at standing i).x1 + 1 - bucket_in ix (strip_at standing i).x0) (bucket_in ix (strip_at standing i).x0) (rooms e s) = q ∙ (ap (λ (k : ℕ). filled i (hi + 1 - k) k (rooms e s)) A ∙ ap (λ (k : ℕ). filled i (k + 1 - bucket_in ix (strip_at standing i).x0) (bucket_in ix (strip_at standing i).x0) (rooms e s)) B) in
      subst (λ (r : Rooms). Blocks (start_of ix standing n) (entered_from ix standing (i + 1)) r.entries r.starts × (length r.entries ≡ length e) × ((j : ℕ) → start_of ix standing n buckets ≤ j → get_or r.entries j 0 ≡ get_or e j 0)) (sym p) f

-- ---- a whole copy
module _ (ix : Index) (standing : List Float) (m n : ℕ) (h : m ≤ n) (e₀ st g : List ℕ) (L : Laid ix standing m e₀ st) (C : Counted ix standing (n - m) m g) where
  whole : m + (n - m) ≡ n
  whole = omega arith

  pub all_entries : start_of ix standing n buckets ≡ get_or st buckets 0 + before g buckets
  all_entries =
      let a = start_gain ix standing m (n - m) g C buckets (omega arith) in
      let b = laid-starts ix standing m e₀ st L buckets (omega arith) in
      subst (λ (k : ℕ). start_of ix standing k buckets ≡ get_or st buckets 0 + before g buckets) whole (omega arith)

  pub copy_blocks : (e s : List ℕ) → Opened buckets st g e₀ 0 e s → Blocks (start_of ix standing n) (entered_from ix standing m) e s
  copy_blocks e s O = subst (λ (k : ℕ). Blocks (start_of ix standing k) (entered_from ix standing m) e s) whole (opened_blocks ix standing m (n - m) g e₀ st e s L C O)

  pub copy-laid : (e s e' s' : List ℕ) → 6 * n ≤ length standing → get_or st buckets 0 + before g buckets ≤ length e₀ → Opened buckets st g e₀ 0 e s → length e' ≡ length e
      → Blocks (start_of ix standing n) (entered_from ix standing n) e' s' → Laid ix standing n e' s'
  copy-laid e s e' s' w f O q B = blocks_laid ix standing n e' s' w (let a = all_entries in let b = O.size in omega arith) B

  pub copy-entered : (e s e' s' : List ℕ) → 6 * n ≤ length standing → get_or st buckets 0 + before g buckets ≤ length e₀ → Opened buckets st g e₀ 0 e s → length e' ≡ length e
      → Blocks (start_of ix standing n) (entered_from ix standing n) e' s' → ((j : ℕ) → start_of ix standing n buckets ≤ j → get_or e' j 0 ≡ get_or e j 0) → entering true e' s' ≡ enter_of ix standing n (rooms e₀ st)
  copy-entered e s e' s' w f O q B r =
      let K = copy-laid e s e' s' w f O q B in
      let E = laid-entries ix standing n e' s' K e₀ (q ∙ O.size) (λ j a. r j a ∙ O.rest j (let z = all_entries in omega arith)) in
      let T = laid_table ix standing n e' s' K in
      let z = start-last ix standing n in
      let a = all_entries in
      rw (E, T) (enter_fits ix standing n (rooms e₀ st) (omega arith))

-- ---- a copy that does not fit
pub copy-refused : (ix : Index) (standing : List Float) (m n left : ℕ) (e₀ st : List ℕ) → Laid ix standing m e₀ st → left ≡ length e₀ - get_or st buckets 0 → start_of ix standing m buckets + left < start_of ix standing n buckets → entering false e₀ st ≡ enter_of ix standing n (rooms e₀ st)
copy-refused ix standing m n left e₀ st L d o =
    let a = laid-starts ix standing m e₀ st L buckets (omega arith) in
    let z = start-last ix standing n in
    enter_over ix standing n (rooms e₀ st) (omega arith)
