-- The lines that go by kind are those of the job's kinds, and the lines' lengths. Assumes nothing.
use Prim.Native.Nat.{ℕ, zero, suc, ◌+◌, ◌*◌, ◌≤◌, ◌<◌}
use mathlib.Core.Path.{◌≡◌, refl, sym, ap, ap₂, subst, ◌∙◌}
use mathlib.Core.Logic.{inl, inr}
use mathlib.Core.Bool.{Bool, true, false}
use mathlib.Core.List.{List, [], ◌∷◌, ◌++◌, map, flat_map}
use native.Mathlib.Omega.{arith}
use native.Mathlib.Numerals.{add-one}
use lib.ListN.{length, get_or, length-append}
use lib.Ieee.{Float}
use borrow.Author.Tests.{eq-eqb, ne_eqb}
use Rattle.numbers.proofs.Truth.{below_or_not}
use Rattle.index.specs.Buckets.{up_from}
use Rattle.index.proofs.Flat.{flat_snoc}
use Rattle.kinds.specs.Kinds.{Kind}
use Rattle.job.specs.Jobs.{Job}
use Rattle.filling.specs.declared.Plan.{Plan}
use Rattle.filling.specs.declared.Refusal.{Refusal}
use Rattle.filling.specs.Refusals.{number_of}
use Rattle.filling.specs.State.{orientation_counts}
use Rattle.accounts.specs.tables.inner.Tabled.{Tabled}
use Rattle.nesting.specs.CopyOrder.{numbered}
use Rattle.nesting.specs.Text.{decimal, hex, line, put_word, plan_word, left_word, fill_word, look_word, right_word, area_word, offcut_word, no_word, refusal_text, plan_line, put_line, position_at, put_lines, left_line, left_lines, fill_line, fill_lines, look_line, look_lines, last_lines, plan_text}
use Rattle.lines.specs.declared.Text.{Text}
use Rattle.lines.specs.inner.Writing.{Put}
use Rattle.lines.proofs.Appending.{put_none, put-both, put-same}
use Rattle.lines.proofs.Lines.{line_most}
use Rattle.text.specs.inner.Tables.{fill_at, puts_to, lefts_to, fills_to, look_at, looks_of, looks_to, plan_by}

-- ---- one line more

pub lines_none : (f : ℕ → List ℕ) (t : Text) → Put t (flat_map f (up_from 0 0)) t
unfolding flat_map up_from
lines_none f t = put_none t

line_on : (f : ℕ → List ℕ) (i : ℕ) → flat_map f (up_from i 0) ++ f i ≡ flat_map f (up_from (suc i) 0)
line_on f i = let z : 0 + i ≡ i = omega arith in ap (λ (k : ℕ). flat_map f (up_from i 0) ++ f k) (sym z) ∙ sym (flat_snoc f i 0)

pub lines_next : (f : ℕ → List ℕ) (i : ℕ) {t u v : Text} → Put t (flat_map f (up_from i 0)) u → Put u (f i) v → Put t (flat_map f (up_from (i + 1) 0)) v
lines_next f i p q = rw (add-one i) (put-same (line_on f i) (put-both p q))

pub lines_end : (f : ℕ → List ℕ) (i n : ℕ) {t u : Text} → i ≡ n → Put t (flat_map f (up_from i 0)) u → Put t (flat_map f (up_from n 0)) u
lines_end f i n e p = put-same (ap (λ (k : ℕ). flat_map f (up_from k 0)) e) p

-- ---- lengths

pub lines-most : (f : ℕ → List ℕ) (m n : ℕ) → ((i : ℕ) → i < n → length (f i) ≤ m) → length (flat_map f (up_from n 0)) ≤ m * n
unfolding flat_map up_from
lines-most f m zero h = omega arith
lines-most f m (suc n) h =
    let a = lines-most f m n (λ i l. h i (omega arith)) in
    let b = h n (omega arith) in
    let e = length-append (flat_map f (up_from n 0)) (f n) in
    subst (λ (l : List ℕ). length l ≤ m * suc n) (line_on f n) (omega arith)

pub put-most : (room : List Float) (i : ℕ) → length (put_line (position_at room i)) ≤ 118
unfolding put_line
put-most room i =
    let q = position_at room i in
    let l = line_most put_word (q.kind ∷ q.copy ∷ q.orientation ∷ []) (q.x ∷ q.y ∷ q.gap ∷ []) in
    omega (arith, l)

pub look_most : (looks : List ℕ) (k o : ℕ) → length (look_at looks k o) ≤ 68
unfolding look_at
look_most looks k o = let l = line_most look_word (k ∷ o ∷ get_or looks (16 * k + o) 0 ∷ []) [] in omega (arith, l)

pub plan-most : (p : Plan) → length (plan_line p) ≤ 68
unfolding plan_line
plan-most p = let l = line_most plan_word (p.placed ∷ p.unplaced ∷ p.improvements ∷ []) [] in omega (arith, l)

pub last-most : (p : Plan) → length (last_lines p) ≤ 69
unfolding last_lines
last-most p =
    let a = line_most right_word [] (p.right ∷ []) in
    let b = line_most area_word [] (p.unplaced_area ∷ []) in
    let c = line_most offcut_word [] (p.offcut ∷ []) in
    let d = length-append (line right_word (hex p.right ∷ [])) (line area_word (hex p.unplaced_area ∷ []) ++ line offcut_word (hex p.offcut ∷ [])) in
    let e = length-append (line area_word (hex p.unplaced_area ∷ [])) (line offcut_word (hex p.offcut ∷ [])) in
    omega (arith, a, b, c)

pub refusal-most : (r : Refusal) → length (refusal_text r) ≤ 24
unfolding refusal_text
refusal-most r = let l = line_most no_word (number_of r ∷ []) [] in omega (arith, l)

-- ---- left and fill

pub left-fill : (k n : ℕ) (f : Bool) → f ≡ true → [] ≡ left_line k f n
unfolding left_line
left-fill k n f e = rw e

pub left-none : (k n : ℕ) (f : Bool) → f ≡ false → n ≡ 0 → [] ≡ left_line k f n
unfolding left_line
left-none k n f e z = rw (e, eq-eqb n 0 z, left_line)

pub left-some : (k n : ℕ) (f : Bool) → f ≡ false → (n ≡ 0 → ⊥) → line left_word (decimal k ∷ decimal n ∷ []) ≡ left_line k f n
unfolding left_line
left-some k n f e z = rw (e, ne_eqb n 0 z, left_line)

pub fill_yes : (k n : ℕ) (f : Bool) → f ≡ true → line fill_word (decimal k ∷ decimal n ∷ []) ≡ fill_line k f n
unfolding fill_line
fill_yes k n f e = rw e

pub fill_no : (k n : ℕ) (f : Bool) → f ≡ false → [] ≡ fill_line k f n
unfolding fill_line
fill_no k n f e = rw e

pub left-most : (k n : ℕ) (f : Bool) → length (left_line k f n) ≤ 47
left-most k n true = rw (sym (left-fill k n true refl)) (omega arith)
left-most k n false = elim (below_or_not 0 n) [
  | inl l ↦ rw (sym (left-some k n false refl (λ z. omega arith))) (let m = line_most left_word (k ∷ n ∷ []) [] in omega (arith, m))
  | inr l ↦ rw (sym (left-none k n false refl (omega arith))) (omega arith)
]

pub fill-most : (k n : ℕ) (f : Bool) → length (fill_line k f n) ≤ 47
unfolding fill_line
fill-most k n true = let m = line_most fill_word (k ∷ n ∷ []) [] in omega (arith, m)
fill-most k n false = omega arith

-- ---- the lines of many

pub puts-most : (room : List Float) (n : ℕ) → length (puts_to room n) ≤ 118 * n
puts-most room n = lines-most (λ i. put_line (position_at room i)) 118 n (λ i l. put-most room i)

pub lefts-most : (rows missing : List ℕ) (n : ℕ) → length (lefts_to rows missing n) ≤ 47 * n
lefts-most rows missing n =
    lines-most (λ k. left_line k (fill_at rows k) (get_or missing k 0)) 47 n (λ k l. left-most k (get_or missing k 0) (fill_at rows k))

pub fills-most : (rows placed : List ℕ) (n : ℕ) → length (fills_to rows placed n) ≤ 47 * n
fills-most rows placed n =
    lines-most (λ k. fill_line k (fill_at rows k) (get_or placed k 0)) 47 n (λ k l. fill-most k (get_or placed k 0) (fill_at rows k))

pub looks-of-most : (looks : List ℕ) (k n : ℕ) → length (looks_of looks k n) ≤ 68 * n
looks-of-most looks k n = lines-most (look_at looks k) 68 n (λ o l. look_most looks k o)

pub looks-most : (rows looks : List ℕ) (n : ℕ) → ((k : ℕ) → k < n → get_or rows (4 * k + 3) 0 ≤ 16) → length (looks_to rows looks n) ≤ 1088 * n
looks-most rows looks n h =
    lines-most (λ k. looks_of looks k (get_or rows (4 * k + 3) 0)) 1088 n
    (λ k l. let m = looks-of-most looks k (get_or rows (4 * k + 3) 0) in let t = h k l in omega (arith, m, t))

-- the most that a plan's lines take
pub plan-by-most : (rows : List ℕ) (kinds : ℕ) (room : List Float) (p : Plan) → kinds ≤ 64 → p.placed ≤ 4096
    → ((k : ℕ) → k < kinds → get_or rows (4 * k + 3) 0 ≤ 16) → length (plan_by rows kinds room p) ≤ 589824
unfolding plan_by
plan-by-most rows kinds room p h g t =
    let s = puts_to room p.placed in
    let u = lefts_to rows p.unplaced_of kinds in
    let v = fills_to rows p.placed_of kinds in
    let w = looks_to rows p.look_counts kinds in
    let z = last_lines p in
    let e1 = length-append (plan_line p) (s ++ (u ++ (v ++ (w ++ z)))) in
    let e2 = length-append s (u ++ (v ++ (w ++ z))) in
    let e3 = length-append u (v ++ (w ++ z)) in
    let e4 = length-append v (w ++ z) in
    let e5 = length-append w z in
    omega (
      arith,
      plan-most p,
      puts-most room p.placed,
      lefts-most rows p.unplaced_of kinds,
      fills-most rows p.placed_of kinds,
      looks-most rows p.look_counts kinds t,
      last-most p,
    )

-- ---- the kinds of a job

numbered_as : {B : Type 0} (f : Kind → B) (g : ℕ → B → List ℕ) (h : ℕ → List ℕ) (e : B) (c : ℕ) (ks : List Kind) → ((i : ℕ) → i < length ks → h (c + i) ≡ g (c + i) (get_or (map f ks) i e)) → flat_map h (up_from (length ks) c) ≡ flat_map (λ a. g a.number (f a.kind)) (numbered c ks)
unfolding flat_map up_from numbered
numbered_as f g h e c [] u = refl
numbered_as f g h e c (k ∷ ks) u =
    let z : c + 0 ≡ c = omega arith in
    ap₂ ◌++◌ (rw z at (u 0 (omega arith)))
    (numbered_as f g h e (suc c) ks (λ i l. let q : c + suc i ≡ suc c + i = omega arith in rw q at (u (suc i) (omega arith))))

module _ (j : Job) (rows : List ℕ) (areas : List Float) (t : Tabled j rows areas) (kinds : ℕ) (k : length j.kinds ≡ kinds) where
  at_zero : (i : ℕ) → 0 + i ≡ i
  at_zero i = omega arith

  pub lefts_are : (p : Plan) → lefts_to rows p.unplaced_of kinds ≡ left_lines j p
  unfolding left_lines
  lefts_are p =
      ap (λ (n : ℕ). lefts_to rows p.unplaced_of n) (sym k)
      ∙ numbered_as (λ a. a.fill) (λ q b. left_line q b (get_or p.unplaced_of q 0)) (λ q. left_line q (fill_at rows q) (get_or p.unplaced_of q 0)) false 0 j.kinds (λ i l. rw (at_zero i) (ap (λ (b : Bool). left_line i b (get_or p.unplaced_of i 0)) (sym (t.fill i l))))

  pub fills_are : (p : Plan) → fills_to rows p.placed_of kinds ≡ fill_lines j p
  unfolding fill_lines
  fills_are p =
      ap (λ (n : ℕ). fills_to rows p.placed_of n) (sym k)
      ∙ numbered_as (λ a. a.fill) (λ q b. fill_line q b (get_or p.placed_of q 0)) (λ q. fill_line q (fill_at rows q) (get_or p.placed_of q 0)) false 0 j.kinds (λ i l. rw (at_zero i) (ap (λ (b : Bool). fill_line i b (get_or p.placed_of i 0)) (sym (t.fill i l))))

  pub looks_are : (p : Plan) → looks_to rows p.look_counts kinds ≡ look_lines j p
  unfolding look_lines look_line look_at orientation_counts
  looks_are p =
      ap (λ (n : ℕ). looks_to rows p.look_counts n) (sym k)
      ∙ numbered_as (λ a. length a.orientations) (λ q n. looks_of p.look_counts q n) (λ q. looks_of p.look_counts q (get_or rows (4 * q + 3) 0)) 0 0 j.kinds (λ i l. rw (at_zero i) (ap (looks_of p.look_counts i) (sym (t.orientations i l))))

  -- the whole text
  pub text_is : (p : Plan) (positions : List Float) → plan_by rows kinds positions p ≡ plan_text j p positions
  unfolding plan_text put_lines plan_by
  text_is p positions =
      ap (λ (l : List ℕ). plan_line p ++ (puts_to positions p.placed ++ (l ++ (fills_to rows p.placed_of kinds ++ (looks_to rows p.look_counts kinds ++ last_lines p))))) (lefts_are p)
      ∙ (ap (λ (l : List ℕ). plan_line p ++ (puts_to positions p.placed ++ (left_lines j p ++ (l ++ (looks_to rows p.look_counts kinds ++ last_lines p))))) (fills_are p)
      ∙ ap (λ (l : List ℕ). plan_line p ++ (puts_to positions p.placed ++ (left_lines j p ++ (fill_lines j p ++ (l ++ last_lines p))))) (looks_are p))
