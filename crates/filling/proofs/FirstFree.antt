-- The first free column of some, and a full column that stays full where more copies stand. Assumes nothing.
use Rattle.std.specs.Prelude.{Some, None}
use mathlib.Core.Path.{◌≡◌, refl, sym, ap, ◌∙◌}
use mathlib.Core.Logic.{◌⊎◌, inl, inr}
use mathlib.Core.Bool.{Bool, true, false}
use mathlib.Core.List.{List, [], ◌∷◌, ◌++◌, flat_map, Memᴰ}
use Prim.Native.Nat.{ℕ, zero, suc, ◌+◌, ◌*◌, ◌≤◌, ◌<◌}
use native.Mathlib.Nat.{eq-or-lt_of_le}
use native.Mathlib.Omega.{arith}
use lib.ListN.{length-append, get_or-append}
use lib.Dec.{T}
use lib.Ieee.{Float, nan, binary64, fits, lt}
use lib.Ieee.Fits.{sub-fits}
use Rattle.numbers.specs.Numbers.{◌⊕◌, ◌⊖◌, smaller, larger}
use Rattle.numbers.proofs.Doubles.{larger-fits, smaller-fits}
use Rattle.trapezoid.specs.declared.Trapezoid.{Trapezoid}
use Rattle.trapezoid.specs.declared.Heights.{Heights}
use Rattle.trapezoid.specs.Strip.{strip_at, capacity, heights_at}
use Rattle.index.specs.declared.Interval.{Interval}
use Rattle.index.specs.Buckets.{up_from}
use Rattle.index.specs.Intervals.{interval_of, meeting_of, interval_in, forbidden_of, counts_of, counted_of}
use Rattle.index.proofs.Flat.{up_from_mem, flat_map_mem}
use Rattle.look.proofs.height.SmallestHeight.{keep_mem}
use Rattle.look.specs.Looking.{counted_in}
use Rattle.filling.specs.Columns.{ranges, column_at}
use Rattle.filling.specs.Shapes.{Planner, Shape}
use Rattle.filling.specs.Search.{at, nowhere, first_free, ranges_of, intervals_at, look_at}
use Rattle.filling.proofs.Lists.{Within, keep-within, append_within, mem_flat_map}
use Rattle.filling.proofs.FullStays.{Counts, AllCount, full_stays}
use Rattle.filling.proofs.Reading.{Sixfold}
use Rattle.look.specs.declared.height.Look.{Look}
use Rattle.look.specs.declared.height.Look.TheVariants.{Free, Full}

-- ---- the first free column

nowhere≢at : {c : ℕ} {y g : Float} → nowhere ≡ at c y g → ⊥
nowhere≢at e = let z : ◌≡◌ {A = ℕ} 0 1 = cc in omega arith

answers : (l : Look) → (l ≡ Full) ⊎ ((y : Float) × (g : Float) × (l ≡ Free y g))
answers Full = inl refl
answers (Free y g) = inr (y, g, refl)

module _ (f : ℕ → Look) where
  pub first_full : (n c : ℕ) → f c ≡ Full → first_free f (suc n) c ≡ first_free f n (suc c)
  unfolding first_free
  first_full n c e = rw (e, first_free)

  pub first_free_lem : (n c : ℕ) (y g : Float) → f c ≡ Free y g → first_free f (suc n) c ≡ at c y g
  unfolding first_free
  first_free_lem n c y g e = rw (e, first_free)

  abbrev pub FullFrom : ℕ → ℕ → Type 0
  FullFrom b e = (d : ℕ) → b ≤ d → d < e → f d ≡ Full

  pub skip : (k n b m : ℕ) → m ≡ k + n → FullFrom b (b + k) → first_free f m b ≡ first_free f n (b + k)
  skip zero n b m e h = ap (λ x. first_free f x b) (low m n e) ∙ ap (first_free f n) (high b)
    where
      low : (m n : ℕ) → m ≡ 0 + n → m ≡ n
      low m n e = omega arith

      high : (b : ℕ) → b ≡ b + 0
      high b = omega arith
  skip (suc k) n b m e h =
      ap (λ x. first_free f x b) low ∙ first_full (k + n) b (h b (omega arith) (omega arith)) ∙ skip k n (suc b) (k + n) refl (λ d p q. h d (omega arith) (omega arith))
      ∙ ap (first_free f n) (high b)
    where
      low : m ≡ suc (k + n)
      low = omega arith

      high : (b : ℕ) → suc b + k ≡ b + suc k
      high b = omega arith

  pub none_free : (n b : ℕ) → FullFrom b (b + n) → first_free f n b ≡ nowhere
  unfolding first_free
  none_free zero b h = refl
  none_free (suc n) b h = first_full n b (h b (omega arith) (omega arith)) ∙ none_free n (suc b) (λ d p q. h d (omega arith) (omega arith))

  pub record FoundAt (b e c : ℕ) (y g : Float) : Type 0 where
    pub from : b ≤ c
    pub before : c < e
    pub fulls : FullFrom b c
    pub frees : f c ≡ Free y g

  pub found_at : (n b c : ℕ) (y g : Float) → first_free f n b ≡ at c y g → FoundAt b (b + n) c y g
  unfolding first_free
  found_at zero b c y g e = absurd (nowhere≢at e)
  found_at (suc n) b c y g e = go (found_at n (suc b) c y g) (answers (f b))
    where
      go : (first_free f n (suc b) ≡ at c y g → FoundAt (suc b) (suc b + n) c y g) → (f b ≡ Full) ⊎ ((z : Float) × (v : Float) × (f b ≡ Free z v)) → FoundAt b (b + suc n) c y g
      go below (inl h) =
          let r = below (sym (first_full n b h) ∙ e) in
          let i = r.from in
          let j = r.before in
          record { from = omega arith; before = omega arith; fulls = λ d p q. first (λ p' q'. r.fulls d p' q') q h (eq-or-lt_of_le p); frees = r.frees }
        where
          first : {d : ℕ} → (suc b ≤ d → d < c → f d ≡ Full) → d < c → f b ≡ Full → (b ≡ d) ⊎ (b < d) → f d ≡ Full
          first r q h (inl z) = ap f (sym z) ∙ h
          first r q h (inr z) = r z q
      go below (inr h) =
          let z : at b h.0 h.1 ≡ at c y g = sym (first_free_lem n b h.0 h.1 h.2) ∙ e in
          let i : b ≡ c = cc in
          record { from = omega arith; before = omega arith; fulls = λ d p q. absurd (omega arith); frees = cc }

  pub found_nowhere : (n b : ℕ) → first_free f n b ≡ nowhere → FullFrom b (b + n)
  found_nowhere zero b e d p q = absurd (omega arith)
  found_nowhere (suc n) b e d p q = go (λ e' p'. found_nowhere n (suc b) e' d p' (omega arith)) (answers (f b)) (eq-or-lt_of_le p)
    where
      go : (first_free f n (suc b) ≡ nowhere → suc b ≤ d → f d ≡ Full) → (f b ≡ Full) ⊎ ((z : Float) × (v : Float) × (f b ≡ Free z v)) → (b ≡ d) ⊎ (b < d) → f d ≡ Full
      go below (inl h) (inl z) = ap f (sym z) ∙ h
      go below (inl h) (inr z) = below (sym (first_full n b h) ∙ e) z
      go below (inr h) w = absurd (nowhere≢at (sym e ∙ first_free_lem n b h.0 h.1 h.2))

-- ---- more standing strips

-- the strips of one room are the first of the other
pub record Grows (st st' : List Float) : Type 0 where
  pub more : capacity st ≤ capacity st'
  pub same : (i : ℕ) → i < capacity st → strip_at st i ≡ strip_at st' i

pub grows_append : (st new : List Float) → Sixfold st → Grows st (st ++ new)
unfolding strip_at capacity
grows_append st new s =
    record {
      more = let l = length-append st new in omega arith;
      same = λ i h.
          rw (get_or-append st new nan (6 * i) (omega arith), get_or-append st new nan (6 * i + 1) (omega arith), get_or-append st new nan (6 * i + 2) (omega arith), get_or-append st new nan (6 * i + 3) (omega arith), get_or-append st new nan (6 * i + 4) (omega arith), get_or-append st new nan (6 * i + 5) (omega arith));
    }

mem_up_from : (n c b : ℕ) → c ≤ b → b < c + n → Memᴰ b (up_from n c)
unfolding up_from
mem_up_from zero c b h l = absurd (omega arith)
mem_up_from (suc n) c b h l = go (λ g. mem_up_from n (suc c) b g (omega arith)) (eq-or-lt_of_le h)
  where
    go : (suc c ≤ b → Memᴰ b (up_from n (suc c))) → (c ≡ b) ⊎ (c < b) → Memᴰ b (c ∷ up_from n (suc c))
    go rec (inl e) = mathlib.Core.List.Memᴰ.head (sym e)
    go rec (inr k) = mathlib.Core.List.Memᴰ.tail (rec k)

-- ---- the counted intervals

abbrev EndsFit : Interval → Type 0
EndsFit i = T (fits binary64 i.from) × T (fits binary64 i.to)

ends-fit : (pa pb qa qb : Heights) → EndsFit (interval_of pa pb qa qb)
unfolding interval_of
ends-fit pa pb qa qb = (
  smaller-fits (pa.low ⊖ qa.high) (pb.low ⊖ qb.high) (sub-fits binary64 pa.low qa.high) (sub-fits binary64 pb.low qb.high),
  larger-fits (pa.high ⊖ qa.low) (pb.high ⊖ qb.low) (sub-fits binary64 pa.high qa.low) (sub-fits binary64 pb.high qb.low),
)

meeting_fits : (q : Trapezoid) (x : Float) (p : Trapezoid) (i : Interval) → Memᴰ i (interval_in (meeting_of q x p)) → EndsFit i
unfolding meeting_of interval_in
meeting_fits q x p i m = go (lt a b) m
  where
    a : Float
    a = larger p.x0 (q.x0 ⊕ x)

    b : Float
    b = smaller p.x1 (q.x1 ⊕ x)

    only : (pa pb qa qb : Heights) → (i ≡ interval_of pa pb qa qb) ⊎ Memᴰ i [] → EndsFit i
    only pa pb qa qb (inl e) = rw e (ends-fit pa pb qa qb)
    only pa pb qa qb (inr n) = absurd (mathlib.Core.List.Memᴰ.not-nil n)

    go : (t : Bool) → Memᴰ i (interval_in (elim t [ true ↦ Some (interval_of (heights_at p a) (heights_at p b) (heights_at q (a ⊖ x)) (heights_at q (b ⊖ x))) | false ↦ None ])) → EndsFit i
    go true m = only (heights_at p a) (heights_at p b) (heights_at q (a ⊖ x)) (heights_at q (b ⊖ x)) (mathlib.Core.List.Memᴰ.cases_cons m)
    go false m = absurd (mathlib.Core.List.Memᴰ.not-nil m)

module _ (moving : List Float) (x : Float) where
  abbrev Of : List Float → ℕ → ℕ → List Interval
  Of standing j i = interval_in (meeting_of (strip_at moving j) x (strip_at standing i))

  forbidden_fits : (standing : List Float) (i : Interval) → Memᴰ i (forbidden_of standing moving x) → EndsFit i
  unfolding forbidden_of
  forbidden_fits standing i m =
      let b = flat_map_mem (λ j. flat_map (Of standing j) (up_from (capacity standing) 0)) i (up_from (capacity moving) 0) m in
      let c = flat_map_mem (Of standing b.0) i (up_from (capacity standing) 0) b.2 in
      meeting_fits (strip_at moving b.0) x (strip_at standing c.0) i c.2

  forbidden_grows : (st st' : List Float) → Grows st st' → Within (forbidden_of st moving x) (forbidden_of st' moving x)
  unfolding forbidden_of
  forbidden_grows st st' g i m =
      let b = flat_map_mem (λ j. flat_map (Of st j) (up_from (capacity st) 0)) i (up_from (capacity moving) 0) m in
      let c = flat_map_mem (Of st b.0) i (up_from (capacity st) 0) b.2 in
      let u = up_from_mem (capacity st) 0 c.0 c.1 in
      let u1 = u.1 in
      let more = g.more in
      let l : c.0 < capacity st = omega arith in
      let n : Memᴰ i (Of st' b.0 c.0) = rw (← g.same c.0 l) c.2 in
      mem_flat_map (λ j. flat_map (Of st' j) (up_from (capacity st') 0)) i (up_from (capacity moving) 0) b.0 b.1
      (mem_flat_map (Of st' b.0) i (up_from (capacity st') 0) c.0 (mem_up_from (capacity st') 0 c.0 (omega arith) (omega arith)) n)

module _ (yl yh : Float) where
  all_count : (standing moving : List Float) (x : Float) → AllCount yl yh (counted_of yl yh standing moving x)
  unfolding counted_of
  all_count standing moving x i m =
      let a = keep_mem (counts_of yl yh) i (forbidden_of standing moving x) m in
      let f = forbidden_fits moving x standing i a.0 in
      record { counts = a.1; from_fits = f.0; to_fits = f.1 }

  counted_grows : (st st' moving : List Float) (x : Float) → Grows st st' → Within (counted_of yl yh st moving x) (counted_of yl yh st' moving x)
  unfolding counted_of
  counted_grows st st' moving x g = keep-within (counts_of yl yh) (forbidden_of st moving x) (forbidden_of st' moving x) (forbidden_grows moving x st st' g)

  both-count : (is js : List Interval) → AllCount yl yh is → AllCount yl yh js → AllCount yl yh (is ++ js)
  both-count is js a b i m = go (mathlib.Core.List.Memᴰ.append_cases is m)
    where
      go : Memᴰ i is ⊎ Memᴰ i js → Counts yl yh i
      go (inl n) = a i n
      go (inr n) = b i n

-- "Placed parts only add obstacles": a column that is full stays full
pub look_grows : (p : Planner) (st st' : List Float) (s : Shape) (c : ℕ) → Grows st st' → look_at p st s c ≡ Full → look_at p st' s c ≡ Full
unfolding look_at intervals_at counted_in ranges_of ranges
look_grows p st st' s c g e =
    let r = ranges_of p s in
    let x = column_at p.resolution r c in
    let yl = p.bounds.bottom ⊖ s.bounds.bottom in
    let yh = p.bounds.top ⊖ s.bounds.top in
    let sheet = counted_of yl yh p.sheet s.inset x in
    let cs = all_count yl yh p.sheet s.inset x in
    full_stays yl yh (sub-fits binary64 p.bounds.bottom s.bounds.bottom) (sub-fits binary64 p.bounds.top s.bounds.top)
    (sheet ++ counted_of yl yh st s.apart x)
    (sheet ++ counted_of yl yh st' s.apart x)
    (both-count yl yh sheet (counted_of yl yh st s.apart x) cs (all_count yl yh st s.apart x))
    (both-count yl yh sheet (counted_of yl yh st' s.apart x) cs (all_count yl yh st' s.apart x))
    (append_within sheet (counted_of yl yh st s.apart x) sheet (counted_of yl yh st' s.apart x) (λ i m. m) (counted_grows yl yh st st' s.apart x g))
    e
