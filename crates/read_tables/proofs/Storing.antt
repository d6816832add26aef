-- Laws of what is stored as far as a room goes, and of zeros behind it. Assumes nothing.
use mathlib.Core.Path.{◌≡◌, refl, sym, ap, ap₂, subst, ◌∙◌}
use Prim.Native.Nat.{ℕ, suc, ◌+◌, ◌-◌, ◌≤◌, ◌<◌}
use native.Mathlib.Omega.{arith}
use native.Mathlib.Nat.{add-zero}
use native.Mathlib.Numerals.{add-one}
use mathlib.Core.List.{List, [], ◌∷◌, ◌++◌, append-nil}
use lib.ListN.{length, get_or, set, take, drop, replicate, length-append}
use lib.Seq.{sets, sets-eq, length-sets, take_at, take-suc, length-take-le}
use borrow.Rule.Slice.PartMut.{put_mid}
use Rattle.std.proofs.lemmas.List.{drop_all, length-drop}
use Rattle.bit_writer.specs.Packed.{in_room}
use Rattle.read_tables.specs.inner.Laying.{Stored, cleared}

module _ {A : Type 0} where
  sets_then : (l : List A) (i : ℕ) (xs ys : List A) → sets (sets l i xs) (i + length xs) ys ≡ sets l i (xs ++ ys)
  sets_then l i [] ys = ap (λ (k : ℕ). sets l k ys) (add-zero i)
  sets_then l i (x ∷ xs) ys =
      let e : i + suc (length xs) ≡ suc i + length xs = omega arith in
      ap (λ (k : ℕ). sets (sets (set l i x) (suc i) xs) k ys) e ∙ sets_then (set l i x) (suc i) xs ys

  pub stored-none : (a : List A) (n : ℕ) → Stored a n [] a n
  stored-none a n = record { room = refl; end = sym (add-zero n) }

  pub stored_one : (a : List A) (n : ℕ) (v : A) (b : List A) → b ≡ set a n v → Stored a n (v ∷ []) b (n + 1)
  stored_one a n v b e = record { room = e; end = refl }

  pub stored-then : (a : List A) (n : ℕ) (xs b : List A) (m : ℕ) (ys c : List A) (k : ℕ) → Stored a n xs b m → Stored b m ys c k → Stored a n (xs ++ ys) c k
  stored-then a n xs b m ys c k S T =
      record {
        room = T.room ∙ ap₂ (λ (l : List A) (i : ℕ). sets l i ys) S.room S.end ∙ sets_then a n xs ys;
        end = z n m k (length xs) (length ys) (length (xs ++ ys)) S.end T.end (length-append xs ys);
      }
    where
      z : (n m k p q r : ℕ) → m ≡ n + p → k ≡ m + q → r ≡ p + q → k ≡ n + r
      z n m k p q r d e f = omega arith

  pub stored_as : (a : List A) (n : ℕ) (xs b : List A) (m : ℕ) (ys : List A) (k : ℕ) → xs ≡ ys → m ≡ k → Stored a n xs b m → Stored a n ys b k
  stored_as a n xs b m ys k e f S = subst (λ (l : List A). Stored a n l b k) e (subst (λ (i : ℕ). Stored a n xs b i) f S)

  pub stored-long : (a : List A) (n : ℕ) (xs b : List A) (m : ℕ) → Stored a n xs b m → length b ≡ length a
  stored-long a n xs b m S = ap length S.room ∙ length-sets a n xs

  -- one value more
  pub stored_on : (a : List A) (n : ℕ) (xs b : List A) (i : ℕ) (v : A) (c : List A) → Stored a n xs b (n + i) → c ≡ set b (n + i) v → Stored a n
      (xs ++ (v ∷ [])) c (n + (i + 1))
  stored_on a n xs b i v c S e =
      let f : n + i + 1 ≡ n + (i + 1) = omega arith in
      stored_as a n (xs ++ (v ∷ [])) c (n + i + 1) (xs ++ (v ∷ [])) (n + (i + 1)) refl f
      (stored-then a n xs b (n + i) (v ∷ []) c (n + i + 1) S (stored_one b (n + i) v c e))

  -- one element of a table more
  pub table_on : (a : List A) (n : ℕ) (table b : List A) (i : ℕ) (d : A) (c : List A) → Stored a n (take i table) b (n + i) → i < length table → c ≡ set b
      (n + i) (get_or table i d) → Stored a n (take (i + 1) table) c (n + (i + 1))
  table_on a n table b i d c S h e =
      let t : take i table ++ (get_or table i d ∷ []) ≡ take (i + 1) table = sym (ap (λ (k : ℕ). take k table) (add-one i) ∙ take-suc table i d h) in
      stored_as a n (take i table ++ (get_or table i d ∷ [])) c (n + (i + 1)) (take (i + 1) table) (n + (i + 1)) t refl
      (stored_on a n (take i table) b i (get_or table i d) c S e)

  -- what fits stands in the room, and behind it the zeros
  pub stored-front : (a xs b : List A) (m : ℕ) → Stored a 0 xs b m → m ≤ length b → take m b ≡ xs
  stored-front a xs b m S h =
      let e : m ≡ length xs = S.end ∙ z (length xs) in
      let l : 0 + length xs ≤ length a = omega (arith, stored-long a 0 xs b m S) in
      ap (λ (x : List A). take m x) (S.room ∙ sets-eq xs a 0 l) ∙ take_at xs (drop (0 + length xs) a) m (sym e)
    where
      z : (n : ℕ) → 0 + n ≡ n
      z n = omega arith

  pub stored-room : (v : A) (a xs b : List A) (m : ℕ) → Stored a 0 xs b m → m ≤ length b → cleared v m b ≡ in_room v xs (length b)
  unfolding cleared in_room
  stored-room v a xs b m S h =
      let e : m ≡ length xs = z m (length xs) S.end in
      ap₂ (λ (l : List A) (k : ℕ). l ++ replicate (length b - k) v) (stored-front a xs b m S h) e
    where
      z : (m n : ℕ) → m ≡ 0 + n → m ≡ n
      z m n e = omega arith

  -- zeros from place n on
  pub fill-cleared : (v : A) (n : ℕ) (b c : List A) → n ≤ length b → c ≡ replicate (length (take (length b - n) (drop n b))) v
      → put_mid n (length b - n) b c ≡ cleared v n b
  unfolding cleared
  fill-cleared v n b c h e =
      let t : length (take (length b - n) (drop n b)) ≡ length b - n = length-take-le (length b - n) (drop n b) (omega (arith, length-drop n b)) in
      ap (λ l. take n b ++ (c ++ l)) (drop_all (length b - n) (drop n b) (omega (arith, length-drop n b)))
      ∙ ap (λ l. take n b ++ l) (append-nil c ∙ e ∙ ap (λ (m : ℕ). replicate m v) t)
