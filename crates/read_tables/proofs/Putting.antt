-- Laws of a job's tables as they are put. Assumes nothing.
use mathlib.Core.Path.{◌≡◌, refl, sym, ap, ap₂, subst, ◌∙◌}
use Prim.Native.Nat.{ℕ, zero, suc, ◌+◌, ◌-◌, ◌*◌, ◌≤◌, ◌<◌, min}
use native.Mathlib.Omega.{arith}
use mathlib.Core.Logic.{inl, inr}
use mathlib.Core.Bool.{cond}
use mathlib.Core.List.{List, [], ◌∷◌, ◌++◌, flat_map, append_assoc, append-nil}
use lib.ListN.{length, get_or, set, take, length-take}
use lib.Seq.{take-suc}
use native.Mathlib.Numerals.{add-one}
use lib.Dec.{eqb}
use lib.IntN.{pos, negsuc}
use borrow.Author.Tests.{lt-ltb, le-ltb}
use lib.Ieee.{Float, nan}
use Rattle.numbers.proofs.Truth.{below_or_not}
use Rattle.bits.specs.declared.Refusal.{Refusal}
use Rattle.bits.specs.Reading.{ok, bad}
use Rattle.kinds.specs.sets.Sets.{Set, a_set}
use Rattle.kinds.specs.sets.inner.Answers.{found, set_at}
use Rattle.kinds.specs.Kinds.{Kind, signed, kind_of, head_at}
use Rattle.kinds.specs.inner.Tables.{tabulate, orientation_at, orientations_of, kind_with, kind_at}
use Rattle.kinds.proofs.Tables.{tabulate_more, length-tabulate, found_is}
use Rattle.job.specs.Jobs.{Job}
use Rattle.job_bits.specs.JobBits.{twos, head_of}
use Rattle.job_bits.specs.JobTables.{loop_counts, set_counts, orientation_counts, orientation_points, kind_counts, kind_points, counts_of, coordinates_of, rows_of, areas_of}
use Rattle.read_tables.specs.declared.sets.Filled.{Filled}
use Rattle.read_tables.specs.inner.Laying.{Stored, Put, PutKinds, row_at}
use Rattle.read_tables.proofs.Storing.{stored-none, stored_one, stored-then, stored_as, stored_on}

-- ---- loops
-- where the last of some loops ends
unfoldable pub last_of : ℕ → List ℕ → ℕ
last_of before [] = before
last_of before (e ∷ es) = last_of e es

pub last_more : (before : ℕ) (es : List ℕ) (e : ℕ) → e ≡ last_of before (es ++ (e ∷ []))
unfolding last_of
last_more before [] e = refl
last_more before (d ∷ es) e = last_more d es e

pub loops_more : (before : ℕ) (es : List ℕ) (e : ℕ) → loop_counts before es ++ ((e - last_of before es) ∷ []) ≡ loop_counts before (es ++ (e ∷ []))
unfolding last_of loop_counts
loops_more before [] e = refl
loops_more before (d ∷ es) e = ap (λ (l : List ℕ). (d - before) ∷ l) (loops_more d es e)

pub no_loops : (before : ℕ) (es : List ℕ) → [] ≡ loop_counts before (take 0 es)
unfolding loop_counts
no_loops before es = refl

pub no_last : (es : List ℕ) → 0 ≡ last_of 0 (take 0 es)
unfolding last_of
no_last es = refl

pub loops_on : (a : List ℕ) (n : ℕ) (ends b : List ℕ) (i before v : ℕ) (c : List ℕ) → Stored a n (loop_counts 0 (take i ends)) b (n + i) → before ≡ last_of 0
    (take i ends) → i < length ends
    → v ≡ get_or ends i 0 - before → c ≡ set b (n + i) v
    → Stored a n (loop_counts 0 (take (i + 1) ends)) c (n + (i + 1)) × (get_or ends i 0 ≡ last_of 0 (take (i + 1) ends))
loops_on a n ends b i before v c S l h e f =
    let t : take i ends ++ (get_or ends i 0 ∷ []) ≡ take (i + 1) ends = sym (ap (λ (k : ℕ). take k ends) (add-one i) ∙ take-suc ends i 0 h) in
    let g : v ≡ get_or ends i 0 - last_of 0 (take i ends) = e ∙ ap (λ (k : ℕ). get_or ends i 0 - k) l in (
      stored_as a n _ c (n + (i + 1)) _ (n + (i + 1)) (loops_more 0 (take i ends) (get_or ends i 0) ∙ ap (loop_counts 0) t) refl
          (stored_on a n (loop_counts 0 (take i ends)) b i _ c S (f ∙ ap (λ (k : ℕ). set b (n + i) k) g)),
      last_more 0 (take i ends) (get_or ends i 0) ∙ ap (last_of 0) t,
    )

-- ---- sets
pub set-counts : (s : Set) (n : ℕ) (ends : List ℕ) (points : List Float) → s ≡ record { points = points; ends = take n ends } → n ≤ length ends → n ∷ loop_counts
    0 (take n ends) ≡ set_counts s
unfolding set_counts
set-counts s n ends points e h =
    let l : n ≡ length (take n ends) = simp length-take (omega arith) in
    ap (λ (k : ℕ). k ∷ loop_counts 0 (take n ends)) l ∙ ap set_counts (sym e)

pub empty_counts : (s : Set) → s ≡ record { points = []; ends = [] } → 0 ∷ [] ≡ set_counts s
unfolding set_counts loop_counts
empty_counts s e = ap set_counts (sym e)

module _ (bytes : List ℕ) (place : ℕ) (w : Filled) (cs : List ℕ) (xs : List Float) (ds : List ℕ) where
  pub set-put : (room : List Float) (ends : List ℕ) (n m q c x : ℕ) (ys : List Float) → a_set bytes place ≡ ok
      (record { points = take (2 * m) room; ends = take n ends }) q → n ≤ length ends
      → Stored cs w.counts (n ∷ loop_counts 0 (take n ends)) ds c → Stored xs w.coordinates (take (2 * m) room) ys x
      → Put w cs xs (set_counts (set_at bytes place)) (set_at bytes place).points (record { counts = c; coordinates = x }) ds ys
  set-put room ends n m q c x ys e h S T =
      let f : set_at bytes place ≡ record { points = take (2 * m) room; ends = take n ends } = found_is bytes place e in
      record {
        counts = stored_as _ _ _ _ _ _ _ (set-counts (set_at bytes place) n ends (take (2 * m) room) f h) refl S;
        coordinates = stored_as _ _ _ _ _ _ _ (sym (ap (λ (s : Set). s.points) f)) refl T;
      }

  pub empty_put : {k : Refusal} → a_set bytes place ≡ bad k → ds ≡ set cs w.counts 0
      → Put w cs xs (set_counts (set_at bytes place)) (set_at bytes place).points (record { counts = w.counts + 1; coordinates = w.coordinates }) ds xs
  unfolding set_at
  empty_put {k} e f =
      let g : set_at bytes place ≡ record { points = []; ends = [] } = ap found e in
      record {
        counts = stored_as _ _ _ _ _ _ _ (empty_counts (set_at bytes place) g) refl (stored_one cs w.counts 0 ds f);
        coordinates = stored_as _ _ _ _ _ _ _ (sym (ap (λ (s : Set). s.points) g)) refl (stored-none xs w.coordinates);
      }

-- ---- put one after the other
pub put_then : (w : Filled) (cs : List ℕ) (xs : List Float) (ns : List ℕ) (ps : List Float) (v : Filled) (ds : List ℕ) (ys : List Float) (ms : List ℕ)
    (qs : List Float) (r : Filled) (es : List ℕ) (zs : List Float)
    → Put w cs xs ns ps v ds ys → Put v ds ys ms qs r es zs → Put w cs xs (ns ++ ms) (ps ++ qs) r es zs
put_then w cs xs ns ps v ds ys ms qs r es zs P Q =
    record { counts = stored-then _ _ _ _ _ _ _ _ P.counts Q.counts; coordinates = stored-then _ _ _ _ _ _ _ _ P.coordinates Q.coordinates }

pub put-none : (w : Filled) (cs : List ℕ) (xs : List Float) → Put w cs xs [] [] w cs xs
put-none w cs xs = record { counts = stored-none cs w.counts; coordinates = stored-none xs w.coordinates }

flat_more : {A B : Type 0} (f : A → List B) (l : List A) (a : A) → flat_map f l ++ f a ≡ flat_map f (l ++ (a ∷ []))
unfolding flat_map
flat_more f [] a = sym (append-nil (f a))
flat_more {A} {B} f (b ∷ l) a = append_assoc (f b) (flat_map f l) (f a) ∙ ap (λ (x : List B). f b ++ x) (flat_more f l a)

pub put_more : {A : Type 0} (w : Filled) (cs : List ℕ) (xs : List Float) (f : A → List ℕ) (g : A → List Float) (l : List A) (v : Filled) (ds : List ℕ)
    (ys : List Float) (a : A) (r : Filled) (es : List ℕ) (zs : List Float) (m : List A)
    → PutKinds w cs xs f g l v ds ys → Put v ds ys (f a) (g a) r es zs → m ≡ l ++ (a ∷ []) → PutKinds w cs xs f g m r es zs
put_more {A} w cs xs f g l v ds ys a r es zs m P Q e =
    let R = put_then w cs xs (flat_map f l) (flat_map g l) v ds ys (f a) (g a) r es zs P Q in
    subst (λ (k : List A). PutKinds w cs xs f g k r es zs) (sym e)
    (record {
      counts = stored_as _ _ _ _ _ _ _ (flat_more f l a) refl R.counts;
      coordinates = stored_as _ _ _ _ _ _ _ (flat_more g l a) refl R.coordinates;
    })

pub put-nothing : {A : Type 0} (w : Filled) (cs : List ℕ) (xs : List Float) (f : A → List ℕ) (g : A → List Float) (l : List A) → l ≡ [] → PutKinds w cs xs f g l
    w cs xs
unfolding flat_map
put-nothing {A} w cs xs f g l e = subst (λ (k : List A). PutKinds w cs xs f g k w cs xs) (sym e) (put-none w cs xs)

-- ---- orientations and kinds
pub orientation-put : (bytes places : List ℕ) (slot : ℕ) (w : Filled) (cs : List ℕ) (xs : List Float) (v : Filled) (ds : List ℕ) (ys : List Float) (r : Filled)
    (es : List ℕ) (zs : List Float)
    → Put w cs xs (set_counts (orientation_at bytes places slot).apart) (orientation_at bytes places slot).apart.points v ds ys
    → Put v ds ys (set_counts (orientation_at bytes places slot).inset) (orientation_at bytes places slot).inset.points r es zs
    → Put w cs xs (orientation_counts (orientation_at bytes places slot)) (orientation_points (orientation_at bytes places slot)) r es zs
unfolding orientation_counts orientation_points
orientation-put bytes places slot w cs xs v ds ys r es zs P Q = put_then _ _ _ _ _ _ _ _ _ _ _ _ _ P Q

pub orientations_on : (bytes places : List ℕ) (kind i : ℕ) → orientations_of bytes places kind (i + 1) ≡ orientations_of bytes places kind i ++
    (orientation_at bytes places (16 * kind + i) ∷ [])
unfolding orientations_of
orientations_on bytes places kind i = tabulate_more (λ (o : ℕ). orientation_at bytes places (16 * kind + o)) i

pub kind-put : (bytes rows : List ℕ) (areas : List Float) (places : List ℕ) (k : ℕ) (w : Filled) (cs : List ℕ) (xs : List Float) (r : Filled) (es : List ℕ)
    (zs : List Float)
    → PutKinds w cs xs orientation_counts orientation_points (orientations_of bytes places k (get_or rows (4 * k + 3) 0)) r es zs
    → Put w cs xs (kind_counts (kind_at bytes rows areas places k)) (kind_points (kind_at bytes rows areas places k)) r es zs
unfolding kind_counts kind_points kind_at kind_with kind_of head_at
kind-put bytes rows areas places k w cs xs r es zs P = P

-- ---- rows
twos-signed : (b : ℕ) → twos (signed b) ≡ min b 4294967295
unfolding twos signed
twos-signed b =
    elim (below_or_not b 2147483648) [
      | inl h ↦ let e : b ≡ min b 4294967295 = omega arith in ap twos (low h) ∙ e
      | inr h ↦ let e : 4294967296 - suc (4294967296 - suc b) ≡ min b 4294967295 = omega arith in ap twos (high h) ∙ e
    ]
  where
    low : b < 2147483648 → signed b ≡ pos b
    low h = rw (lt-ltb b 2147483648 h, signed)

    high : 2147483648 ≤ b → signed b ≡ negsuc (4294967296 - suc b)
    high h = rw (le-ltb b 2147483648 h, signed)

pub row_at_lem : (bytes rows : List ℕ) (areas : List Float) (places : List ℕ) (k : ℕ) → row_at rows k ≡ rows_of (kind_at bytes rows areas places k ∷ [])
unfolding rows_of head_of kind_at kind_with kind_of head_at orientations_of
row_at_lem bytes rows areas places k =
    ap₂ (λ (p n : ℕ). get_or rows (4 * k) 0 ∷ cond (eqb (get_or rows (4 * k + 1) 0) 1) 1 0 ∷ p ∷ n ∷ []) (sym (twos-signed (get_or rows (4 * k + 2) 0)))
    (sym (length-tabulate (λ (o : ℕ). orientation_at bytes places (16 * k + o)) (get_or rows (4 * k + 3) 0)))

rows_append : (l m : List Kind) → rows_of l ++ rows_of m ≡ rows_of (l ++ m)
unfolding rows_of
rows_append [] m = refl
rows_append (k ∷ l) m = ap (λ (x : List ℕ). (head_of k).quantity ∷ (head_of k).fill ∷ (head_of k).priority ∷ (head_of k).orientations ∷ x) (rows_append l m)

pub rows_on : (bytes rows : List ℕ) (areas : List Float) (places : List ℕ) (k : ℕ) → rows_of (tabulate (kind_at bytes rows areas places) k) ++ row_at rows k ≡
    rows_of (tabulate (kind_at bytes rows areas places) (k + 1))
rows_on bytes rows areas places k =
    ap (λ (x : List ℕ). rows_of (tabulate (kind_at bytes rows areas places) k) ++ x) (row_at_lem bytes rows areas places k)
    ∙ rows_append (tabulate (kind_at bytes rows areas places) k) (kind_at bytes rows areas places k ∷ [])
    ∙ ap rows_of (sym (tabulate_more (kind_at bytes rows areas places) k))

pub no_rows : (f : ℕ → Kind) → [] ≡ rows_of (tabulate f 0)
unfolding rows_of tabulate
no_rows f = refl

-- four numbers, the second and the third as they are worked out
pub row_stored : (o : List ℕ) (n a f p q f' p' : ℕ) (o₁ o₂ o₃ o₄ : List ℕ) → o₁ ≡ set o n a → f ≡ f' → o₂ ≡ set o₁ (n + 1) f → p ≡ p' → o₃ ≡ set o₂ (n + 2) p →
    o₄ ≡ set o₃ (n + 3) q
    → Stored o n (a ∷ f' ∷ p' ∷ q ∷ []) o₄ (n + 4)
row_stored o n a f p q f' p' o₁ o₂ o₃ o₄ e₁ d e₂ g e₃ e₄ =
    stored_as o n (a ∷ f ∷ p ∷ q ∷ []) o₄ (n + 4) _ (n + 4) (ap₂ (λ (x y : ℕ). a ∷ x ∷ y ∷ q ∷ []) d g) refl
    (stored_on o n (a ∷ f ∷ p ∷ []) o₃ 3 q o₄ (stored_on o n (a ∷ f ∷ []) o₂ 2 p o₃ (stored_on o n (a ∷ []) o₁ 1 f o₂ (stored_one o n a o₁ e₁) e₂) e₃) e₄)

pub rows-stored : (o : List ℕ) (bytes rows : List ℕ) (areas : List Float) (places : List ℕ) (k : ℕ) (b c : List ℕ)
    → Stored o 0 (rows_of (tabulate (kind_at bytes rows areas places) k)) b (4 * k) → Stored b (4 * k) (row_at rows k) c (4 * k + 4)
    → Stored o 0 (rows_of (tabulate (kind_at bytes rows areas places) (k + 1))) c (4 * (k + 1))
rows-stored o bytes rows areas places k b c S T =
    let e : 4 * k + 4 ≡ 4 * (k + 1) = omega arith in
    stored_as o 0 _ c (4 * k + 4) _ (4 * (k + 1)) (rows_on bytes rows areas places k) e (stored-then _ _ _ _ _ _ _ _ S T)

-- ---- the job's sets
pub job-put : (j : Job) (s : Set) (ks : List Kind) (cs : List ℕ) (xs : List Float) (w : Filled) (ds : List ℕ) (ys : List Float) (r : Filled) (es : List ℕ)
    (zs : List Float)
    → j.sheet ≡ s → j.kinds ≡ ks → Put (record { counts = 0; coordinates = 0 }) cs xs (set_counts s) s.points w ds ys → PutKinds w ds ys kind_counts
    kind_points ks r es zs
    → Stored cs 0 (counts_of j) es r.counts × Stored xs 0 (coordinates_of j) zs r.coordinates
unfolding counts_of coordinates_of
job-put j s ks cs xs w ds ys r es zs e f P Q =
    let R = put_then _ _ _ _ _ _ _ _ _ _ _ _ _ P Q in (
      stored_as _ _ _ _ _ _ _ (ap₂ (λ (t : Set) (l : List Kind). set_counts t ++ flat_map kind_counts l) (sym e) (sym f)) refl R.counts,
      stored_as _ _ _ _ _ _ _ (ap₂ (λ (t : Set) (l : List Kind). t.points ++ flat_map kind_points l) (sym e) (sym f)) refl R.coordinates,
    )

-- ---- areas
areas_more : (l : List Kind) (k : Kind) → areas_of (l ++ (k ∷ [])) ≡ areas_of l ++ (k.area ∷ [])
unfolding areas_of
areas_more [] k = refl
areas_more (a ∷ l) k = ap (λ (x : List Float). a.area ∷ x) (areas_more l k)

no_areas : (f : ℕ → Kind) → [] ≡ areas_of (tabulate f 0)
unfolding areas_of tabulate
no_areas f = refl

areas_are : (bytes rows : List ℕ) (areas : List Float) (places : List ℕ) (n : ℕ) → n ≤ length areas → take n areas ≡ areas_of
    (tabulate (kind_at bytes rows areas places) n)
unfolding kind_at kind_with kind_of head_at
areas_are bytes rows areas places zero h = no_areas (kind_at bytes rows areas places)
areas_are bytes rows areas places (suc n) h =
    let k : n < length areas = omega arith in
    take-suc areas n nan k
    ∙ ap (λ (l : List Float). l ++ (get_or areas n nan ∷ [])) (areas_are bytes rows areas places n (omega arith))
    ∙ sym (areas_more (tabulate (kind_at bytes rows areas places) n) (kind_at bytes rows areas places n))
    ∙ ap areas_of (sym (tabulate_more (kind_at bytes rows areas places) n) ∙ ap (tabulate (kind_at bytes rows areas places)) (add-one n))

pub areas-stored : (bytes rows : List ℕ) (areas : List Float) (places : List ℕ) (n : ℕ) (a b : List Float) (r : ℕ) → n ≤ length areas → Stored a 0
    (take n areas) b r
    → Stored a 0 (areas_of (tabulate (kind_at bytes rows areas places) n)) b n
areas-stored bytes rows areas places n a b r h S =
    let l : length (take n areas) ≡ n = simp length-take (omega arith) in
    let e : r ≡ n = z r (length (take n areas)) n S.end l in
    stored_as a 0 (take n areas) b r _ n (areas_are bytes rows areas places n h) e S
  where
    z : (r m n : ℕ) → r ≡ 0 + m → m ≡ n → r ≡ n
    z r m n e f = omega arith
