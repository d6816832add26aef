-- The numbers that 31 judges, along every copy taken, if a job's own are within its bounds (WithinBounds.antt): the planner's, a copy's at each free place of
-- a column, and sums of areas. Assumes nothing.
use mathlib.Core.Path.{◌≡◌, refl, sym, ap, subst, ◌∙◌}
use mathlib.Core.Logic.{◌⊎◌, inl, inr}
use mathlib.Core.Bool.{Bool, true, false, not, cond}
use mathlib.Core.List.{List, [], ◌∷◌, ◌++◌}
use Prim.Native.Nat.{ℕ, zero, suc, ◌+◌, ◌-◌, ◌*◌, ◌≤◌, ◌<◌}
use native.Mathlib.Omega.{arith}
use lib.ListN.{length, get_or}
use lib.Seq.{get_or-append-add}
use lib.Ieee.{Float, nan, le, lt}
use Rattle.numbers.proofs.Truth.{either, both_first, both_second}
use Rattle.numbers.specs.Numbers.{◌⊕◌, larger, from_int, pos_zero}
use Rattle.trapezoid.specs.Strip.{strip_at, capacity}
use Rattle.index.specs.Buckets.{up_from}
use Rattle.job.specs.Jobs.{Job}
use Rattle.filling.specs.declared.State.{State}
use Rattle.filling.specs.Columns.{column_at}
use Rattle.filling.specs.Shapes.{Planner, planner_of, Shape, Copy, Standing, no_shape, shape_of, moved_strips, standing_strips}
use Rattle.filling.specs.Search.{Found, at, nowhere, Remembered, column, none, Track, ranges_of, look_at, last_of, reversed_for, search, search_all}
use Rattle.filling.specs.Choice.{Choice, choice_of, choices, wins, best, standing_at}
use Rattle.filling.specs.State.{standing_of, without_of}
use Rattle.filling.specs.Consistent.{every, bounded, strip_fits, strips_fit, bounds_fit, planner_fits, resolution_fits, layout_fits, gap_fits, gaps_fit}
use Rattle.filling.specs.NextCopy.{new_strips, entered, state_with, layout_after, state_after}
use Rattle.filling.proofs.FirstFree.{found_at, grows_append}
use Rattle.filling.proofs.Reading.{Sixfold, capacity_append}
use Rattle.filling.proofs.Steps.{new_sixfold, standing_sixfold, standing_more}
use Rattle.filling.proofs.Searches.{search_open, search-reversed}
use Rattle.look.specs.declared.height.Look.TheVariants.{Free}

-- a place that a search can yield: a column, a height that a look found free there, and the clear height above it
pub record Yielded (p : Planner) (s : Shape) (x y g : Float) : Type 0 where
  pub opened : reversed_for p s ≡ false
  pub column_number : ℕ
  pub within : column_number ≤ last_of p s
  pub x_is : x ≡ column_at p.resolution (ranges_of p s) column_number
  pub standing : List Float
  pub freed : look_at p standing s column_number ≡ Free y g

-- areas, added in order
unfoldable pub summed : Planner → Float → List Copy → Float
summed p a [] = a
summed p a (c ∷ cs) = summed p (a ⊕ get_or p.areas c.kind pos_zero) cs

-- a job's numbers are within the bounds that 31 tests
pub record WithinBounds (p : Planner) : Type 0 where
  pub own : planner_fits p ≡ true
  pub strips : (k o : ℕ) (x y g : Float) → Yielded p (shape_of p k o) x y g → strips_fit (moved_strips (shape_of p k o).apart x y) ≡ true
  pub right : (k o : ℕ) (x y g : Float) → Yielded p (shape_of p k o) x y g → bounded (x ⊕ (shape_of p k o).bounds.right) ≡ true
  pub gaps : (k o : ℕ) (x y g : Float) → Yielded p (shape_of p k o) x y g → gap_fits g ≡ true
  pub position : (k o : ℕ) (x y g : Float) → Yielded p (shape_of p k o) x y g → (bounded x ≡ true) × (bounded y ≡ true)
  pub sums_low : (cs : List Copy) → length cs ≤ 4096 → le pos_zero (summed p pos_zero cs) ≡ true
  pub sums_high : (cs : List Copy) → length cs ≤ 4096 → le (summed p pos_zero cs) (from_int 10_000_000_000_000_000) ≡ true

-- ---- lists

pub every-up_from : (f : ℕ → Bool) (n c : ℕ) → ((i : ℕ) → c ≤ i → i < c + n → f i ≡ true) → every f (up_from n c) ≡ true
unfolding every up_from
every-up_from f zero c h = refl
every-up_from f (suc n) c h = rw (h c (omega arith) (omega arith), every-up_from f n (suc c) (λ i a b. h i (omega arith) (omega arith)))

pub every_append : {A : Type 0} (f : A → Bool) (l m : List A) → every f l ≡ true → every f m ≡ true → every f (l ++ m) ≡ true
unfolding every
every_append f [] m e h = h
every_append f (b ∷ l) m e h = rw (both_first (f b) _ e, every_append f l m (both_second (f b) _ e) h)

pub up_from-every : (f : ℕ → Bool) (n c : ℕ) → every f (up_from n c) ≡ true → (i : ℕ) → c ≤ i → i < c + n → f i ≡ true
unfolding every up_from
up_from-every f zero c e i a b = absurd (omega arith)
up_from-every f (suc n) c e i a b = go (native.Mathlib.Nat.eq-or-lt_of_le a) (both_first (f c) _ e)
    (λ u. up_from-every f n (suc c) (both_second (f c) _ e) i u (omega arith))
  where
    go : (c ≡ i) ⊎ (c < i) → f c ≡ true → (suc c ≤ i → f i ≡ true) → f i ≡ true
    go (inl z) h r = ap f (sym z) ∙ h
    go (inr l) h r = r l

pub strip-right : (st new : List Float) (i : ℕ) → Sixfold st → strip_at (st ++ new) (capacity st + i) ≡ strip_at new i
unfolding strip_at
strip-right st new i s =
    let at : (r : ℕ) → 6 * (capacity st + i) + r ≡ length st + (6 * i + r) = λ r. omega arith in
    let z : 6 * (capacity st + i) ≡ length st + 6 * i = omega arith in
    rw (
      z,
      shift z 1,
      shift z 2,
      shift z 3,
      shift z 4,
      shift z 5,
      get_or-append-add st new (6 * i) nan,
      get_or-append-add st new (6 * i + 1) nan,
      get_or-append-add st
          new (6 * i + 2) nan,
      get_or-append-add st new (6 * i + 3) nan,
      get_or-append-add st new (6 * i + 4) nan,
      get_or-append-add st new (6 * i + 5) nan,
    )
  where
    shift : 6 * (capacity st + i) ≡ length st + 6 * i → (r : ℕ) → length st + 6 * i + r ≡ length st + (6 * i + r)
    shift z r = omega arith

pub strips_append : (st new : List Float) → Sixfold st → Sixfold new → strips_fit st ≡ true → strips_fit new ≡ true → strips_fit (st ++ new) ≡ true
unfolding strips_fit
strips_append st new s t a b = every-up_from (λ i. strip_fits (strip_at (st ++ new) i)) (capacity (st ++ new)) 0 (λ i l u. go i u (splits i (capacity st)))
  where
    splits : (i n : ℕ) → (i < n) ⊎ ((m : ℕ) × (i ≡ n + m))
    splits i n = at (either (lib.Dec.ltb i n)) (lib.Dec.ltb→lt i n) (lib.Dec.nltb→le i n)
      where
        at : (lib.Dec.ltb i n ≡ true) ⊎ (lib.Dec.ltb i n ≡ false) → (lib.Dec.T (lib.Dec.ltb i n) → i < n) → (lib.Dec.T (not (lib.Dec.ltb i n)) → n ≤ i) →
            (i < n) ⊎ ((m : ℕ) × (i ≡ n + m))
        at (inl e) f g = inl (f (rw e tt))
        at (inr e) f g = let h : n ≤ i = g (rw e tt) in inr (i - n, (omega arith))

    go : (i : ℕ) → i < 0 + capacity (st ++ new) → (i < capacity st) ⊎ ((m : ℕ) × (i ≡ capacity st + m)) → strip_fits (strip_at (st ++ new) i) ≡ true
    go i u (inl l) = ap strip_fits (sym ((grows_append st new s).same i l)) ∙ up_from-every (λ i. strip_fits (strip_at st i)) (capacity st) 0 a i (omega arith)
        (omega arith)
    go i u (inr m) =
        let c = capacity_append st new s t in
        let q = m.1 in
        ap (λ n. strip_fits (strip_at (st ++ new) n)) m.1 ∙ ap strip_fits (strip-right st new m.0 s) ∙ up_from-every (λ i. strip_fits (strip_at new i))
        (capacity new) 0 b m.0 (omega arith) (omega arith)

summed_snoc : (p : Planner) (a : Float) (cs : List Copy) (c : Copy) → summed p a (cs ++ (c ∷ [])) ≡ summed p a cs ⊕ get_or p.areas c.kind pos_zero
unfolding summed
summed_snoc p a [] c = refl
summed_snoc p a (b ∷ cs) c = summed_snoc p (a ⊕ get_or p.areas b.kind pos_zero) cs c

-- ---- what a search yields

module _ (p : Planner) (k : ℕ) where
  pub record Good (c : Choice) : Type 0 where
    pub place : Yielded p (shape_of p k c.orientation) c.x c.y c.gap
    pub right_is : c.right ≡ c.x ⊕ (shape_of p k c.orientation).bounds.right

  pub data Goods : List Choice → Type 0 where
    no_good : Goods []
    and_good : {c : Choice} {cs : List Choice} → Good c → Goods cs → Goods (c ∷ cs)

  pub best-good : {cs : List Choice} → Goods cs → (a : Choice) → Good a → Good (best a cs)
  unfolding best
  best-good no_good a g = g
  best-good (and_good {c = c} {cs = cs} h hs) a g = go (wins c a) (best-good hs c h) (best-good hs a g)
    where
      go : (t : Bool) → Good (best c cs) → Good (best a cs) → Good (elim t [ true ↦ best c cs | false ↦ best a cs ])
      go true x y = x
      go false x y = y

  yielded : (st : List Float) (s : Shape) (m : Remembered) (c : ℕ) (y g : Float) → search p st s m ≡ at c y g → Yielded p s
      (column_at p.resolution (ranges_of p s) c) y g
  unfolding search
  yielded st s none c y g e = absurd (let z : ◌≡◌ {A = ℕ} 0 1 = cc in omega arith)
  yielded st s (column d) c y g e = go (either (reversed_for p s))
    where
      go : (reversed_for p s ≡ true) ⊎ (reversed_for p s ≡ false) → Yielded p s (column_at p.resolution (ranges_of p s) c) y g
      go (inl o) = absurd (let f : nowhere ≡ at c y g = sym (search-reversed p st s d o) ∙ e in let z : ◌≡◌ {A = ℕ} 0 1 = cc in omega arith)
      go (inr o) =
          let f = found_at (look_at p st s) (suc (last_of p s) - d) d c y g (sym (search_open p st s d o) ∙ e) in
          let i = f.from in
          let j = f.before in
          record { opened = o; column_number = c; within = omega arith; x_is = refl; standing = st; freed = f.frees }

  choice_good : (st : List Float) (o : ℕ) (s : Shape) → s ≡ shape_of p k o → (m : Remembered) (f : Found) → search p st s m ≡ f → (cs : List Choice) → Goods cs →
      Goods (choice_of p o s f ++ cs)
  unfolding choice_of
  choice_good st o s e m nowhere d cs h = h
  choice_good st o s e m (at c y v) d cs h =
      let x = column_at p.resolution (ranges_of p s) c in
      let g : Good (record { orientation = o; x = x; y = y; gap = v; right = x ⊕ s.bounds.right; top = y ⊕ s.bounds.top }) =
      record { place = subst (λ (t : Shape). Yielded p t x y v) e (yielded st s m c y v d); right_is = ap (λ t. x ⊕ t.bounds.right) e }
      in
      and_good g h

  choices-good : (st : List Float) (o : ℕ) (ss : List Shape) (ts : List Track) → ((i : ℕ) → i < length ss → get_or ss i no_shape ≡ shape_of p k (o + i)) → Goods
      (choices p o ss (search_all p st ss ts))
  unfolding choices search_all
  choices-good st o [] ts h = no_good
  choices-good st o (s ∷ ss) [] h = no_good
  choices-good st o (s ∷ ss) (t ∷ ts) h =
      let z : o + 0 ≡ o = omega arith in
      choice_good st o s (h 0 (omega arith) ∙ ap (shape_of p k) z) t.next_column (search p st s t.next_column) refl
      (choices p (suc o) ss (search_all p st ss ts))
      (choices-good st (suc o) ss ts (λ i l. let y : o + suc i ≡ suc o + i = omega arith in h (suc i) (omega arith) ∙ ap (shape_of p k) y))

  row_shape : (i : ℕ) → i < length (get_or p.shapes k []) → get_or (get_or p.shapes k []) i no_shape ≡ shape_of p k (0 + i)
  unfolding shape_of
  row_shape i l = let z : i ≡ 0 + i = omega arith in ap (λ n. get_or (get_or p.shapes k []) n no_shape) z

  pub row_good : (st : List Float) (ts : List Track) → Goods (choices p 0 (get_or p.shapes k []) (search_all p st (get_or p.shapes k []) ts))
  row_good st ts = choices-good st 0 (get_or p.shapes k []) ts row_shape

-- ---- a state's numbers

pub record Fine (j : Job) (s : State) : Type 0 where
  pub strips : strips_fit (standing_strips (planner_of j) (standing_of s)) ≡ true
  pub right : bounded s.layout.right ≡ true
  pub gaps : gaps_fit s ≡ true
  pub area : s.layout.unplaced_area ≡ summed (planner_of j) pos_zero (without_of s)

pub gaps_of : (s : State) (cs : List Standing) → standing_of s ≡ cs → gaps_fit s ≡ every (λ c. gap_fits c.gap) cs
unfolding gaps_fit
gaps_of s cs e = ap (every (λ c. gap_fits c.gap)) e

pub larger-bounded : (a b : Float) → bounded a ≡ true → bounded b ≡ true → bounded (larger a b) ≡ true
unfolding larger
larger-bounded a b h k = go (lt a b)
  where
    go : (t : Bool) → bounded (cond t b a) ≡ true
    go true = k
    go false = h

pub layout-fits : (j : Job) (s : State) → WithinBounds (planner_of j) → length (without_of s) ≤ 4096 → Fine j s → layout_fits s.layout.right
    s.layout.unplaced_area ≡ true
unfolding layout_fits
layout-fits j s z l h = rw (h.right, h.area, z.sums_low (without_of s) l, z.sums_high (without_of s) l)

pub left-bounded : (p : Planner) → planner_fits p ≡ true → bounded p.bounds.left ≡ true
unfolding planner_fits bounds_fit
left-bounded p e =
    let a = both_second (resolution_fits p.resolution) _ e in
    let b = both_second (strips_fit p.sheet) _ a in
    let c = both_first (bounds_fit p.bounds) _ b in
    both_first (bounded p.bounds.left) _ c

module _ (j : Job) (z : WithinBounds (planner_of j)) (s : State) (h : Fine j s) (k : ℕ) (ts : List Track) where
  abbrev P : Planner
  P = planner_of j

  abbrev St : List Float
  St = standing_strips (planner_of j) (standing_of s)

  abbrev N : Copy
  N = record { place = s.taken; kind = k }

  area-none : (state_after P k ts s St []).layout.unplaced_area ≡ s.layout.unplaced_area ⊕ get_or P.areas k pos_zero
  unfolding state_after state_with layout_after entered
  area-none = refl

  right-none : (state_after P k ts s St []).layout.right ≡ s.layout.right
  unfolding state_after state_with layout_after entered
  right-none = refl

  area-placed : (c : Choice) (cs : List Choice) → (state_after P k ts s St (c ∷ cs)).layout.unplaced_area ≡ s.layout.unplaced_area
  unfolding state_after state_with layout_after entered
  area-placed c cs = refl

  right-placed : (c : Choice) (cs : List Choice) → (state_after P k ts s St (c ∷ cs)).layout.right ≡ larger s.layout.right (best c cs).right
  unfolding state_after state_with layout_after entered
  right-placed c cs = refl

  new-fit : (d : Choice) → Yielded P (shape_of P k d.orientation) d.x d.y d.gap → strips_fit (new_strips P k d) ≡ true
  unfolding new_strips
  new-fit d y = z.strips k d.orientation d.x d.y d.gap y

  new-gap : (d : Choice) → Yielded P (shape_of P k d.orientation) d.x d.y d.gap → every (λ e. gap_fits e.gap) (standing_at N d ∷ []) ≡ true
  unfolding every standing_at
  new-gap d y = rw (z.gaps k d.orientation d.x d.y d.gap y)

  pub fine-none : standing_of (state_after P k ts s St []) ≡ standing_of s → without_of (state_after P k ts s St []) ≡ without_of s ++ (N ∷ []) → Fine j
      (state_after P k ts s St [])
  fine-none a b =
      record {
        strips = ap (λ c. strips_fit (standing_strips P c)) a ∙ h.strips;
        right = ap bounded right-none ∙ h.right;
        gaps = gaps_of (state_after P k ts s St []) (standing_of s) a ∙ sym (gaps_of s (standing_of s) refl) ∙ h.gaps;
        area = area-none ∙ ap (λ u. u ⊕ get_or P.areas k pos_zero) h.area ∙ sym (summed_snoc P pos_zero (without_of s) N) ∙ ap (summed P pos_zero) (sym b);
      }

  pub fine-placed : (c : Choice) (cs : List Choice) → Goods P k (c ∷ cs) → standing_of (state_after P k ts s St (c ∷ cs)) ≡ standing_of s ++
      (standing_at N (best c cs) ∷ []) → without_of (state_after P k ts s St (c ∷ cs)) ≡ without_of s → Fine j (state_after P k ts s St (c ∷ cs))
  fine-placed c cs (and_good g gs) a b =
      let w = best-good P k gs c g in
      let d = best c cs in
      record {
        strips = ap (λ l. strips_fit (standing_strips P l)) a ∙ ap strips_fit (standing_more P (standing_of s) N d)
            ∙ strips_append St (new_strips P k d) (standing_sixfold P (standing_of s)) (new_sixfold P k d) h.strips (new-fit d w.place);
        right = ap bounded (right-placed c cs) ∙ larger-bounded s.layout.right d.right h.right
            (ap bounded w.right_is ∙ z.right k d.orientation d.x d.y d.gap w.place);
        gaps = gaps_of (state_after P k ts s St (c ∷ cs)) (standing_of s ++ (standing_at N d ∷ [])) a ∙ every_append (λ e. gap_fits e.gap) (standing_of s)
            (standing_at N d ∷ []) (sym (gaps_of s (standing_of s) refl) ∙ h.gaps) (new-gap d w.place);
        area = area-placed c cs ∙ h.area ∙ ap (summed P pos_zero) (sym b);
      }
