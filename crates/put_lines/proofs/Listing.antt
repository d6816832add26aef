-- Lines read one after another, and their numbers in a room. Assumes nothing.
use Prim.Native.Nat.{ℕ, zero, suc, ◌+◌, ◌-◌, ◌*◌, ◌/◌, ◌<◌, ◌≤◌}
use native.Mathlib.Nat.{sub-zero, zero-add}
use native.Mathlib.Numerals.{add-one}
use native.Mathlib.Omega.{arith}
use Rattle.std.specs.Prelude.{Result, Ok, Err}
use mathlib.Core.Path.{◌≡◌, refl, sym, ap, subst, ◌∙◌}
use mathlib.Core.Logic.{inl, inr}
use mathlib.Core.Bool.{Bool, true, false, cond}
use mathlib.Core.List.{List, [], ◌∷◌, ◌++◌}
use borrow.Rule.Slice.PartMut.{put_mid, same_len_mid}
use Rattle.std.proofs.lemmas.Slice.{take-put_mid, drop-put_mid}
use lib.ListN.{length, length-drop, take, drop, length-append, take-append-drop}
use lib.Seq.{length-take-le, drop-drop}
use Rattle.numbers.proofs.Truth.{either}
use Rattle.put_lines.specs.declared.Line.{Line}
use Rattle.put_lines.specs.declared.ListError.{ListError}
use Rattle.put_lines.specs.declared.ListError.TheVariants.{Malformed, TooMany}
use Rattle.put_lines.specs.PutLines.{line_from, line_numbers, begins, PutList, lines_from, put_list}
use Rattle.put_lines.specs.inner.Storing.{list_in, Stored}
use Rattle.put_lines.proofs.Fields.{line-inside}

-- ---- a line's numbers in the room

pub stored : (s ks : List ℕ) (n k : ℕ) (l : Line) → 4 * n + 4 ≤ length s → k ≡ 4 → ks ≡ line_numbers l → Stored s n l (put_mid (4 * n) k s ks)
unfolding line_numbers
stored s ks n k l h e f =
    let w : length ks ≡ 4 = ap length f in
    record {
      long = same_len_mid (4 * n) k s ks (w ∙ (sym e ∙ sym (length-take-le k (drop (4 * n) s) (omega (arith, length-drop (4 * n) s)))));
      front = take-put_mid (4 * n) k s ks (4 * n + 4) (omega arith) (omega arith) ∙ ap (λ (t : List ℕ). take (4 * n) s ++ t) f;
      back = drop-put_mid (4 * n) k s ks (4 * n + 4) (omega arith) (omega arith) (omega arith);
    }

four_more : (ns : List ℕ) (l : Line) (n : ℕ) → length ns ≡ 4 * n → length (ns ++ line_numbers l) ≡ 4 * suc n
unfolding line_numbers
four_more ns l n e = length-append ns (l.kind ∷ l.orientation ∷ l.x ∷ l.y ∷ []) ∙ omega arith

chosen : (b : Bool) (x y : PutList) → b ≡ true → cond b x y ≡ x
chosen b x y e = rw e

-- ---- lines

module _ (bytes : List ℕ) where
  pub lines_end : (m p : ℕ) (ns : List ℕ) (n : ℕ) → begins bytes p ≡ false → record { found = Ok (n, p); numbers = ns } ≡ lines_from bytes m p ns n
  unfolding lines_from
  lines_end zero p ns n e = rw (e, lines_from)
  lines_end (suc m) p ns n e = rw (e, lines_from)

  lines_many : (p : ℕ) (ns : List ℕ) (n : ℕ) → begins bytes p ≡ true → record { found = Err TooMany; numbers = ns } ≡ lines_from bytes 0 p ns n
  unfolding lines_from
  lines_many p ns n e = rw (e, lines_from)

  lines_bad : (m p : ℕ) (ns : List ℕ) (n : ℕ) → begins bytes p ≡ true → (line_from bytes (p + 4)).good ≡ false
      → record { found = Err (Malformed n); numbers = ns } ≡ lines_from bytes (suc m) p ns n
  unfolding lines_from
  lines_bad m p ns n e f = rw (e, f, lines_from)

  pub lines_on : (m p : ℕ) (ns : List ℕ) (n : ℕ) → begins bytes p ≡ true → (line_from bytes (p + 4)).good ≡ true
      → lines_from bytes (suc m) p ns n ≡ lines_from bytes m (line_from bytes (p + 4)).next (ns ++ line_numbers (line_from bytes (p + 4))) (suc n)
  unfolding lines_from
  lines_on m p ns n e f =
      rw (e, lines_from)
      (chosen (line_from bytes (p + 4)).good (lines_from bytes m (line_from bytes (p + 4)).next (ns ++ line_numbers (line_from bytes (p + 4))) (suc n))
      (record { found = Err (Malformed n); numbers = ns }) f)

  -- ---- what is found

  -- so many lines at most, a job inside the text, and four numbers to a line
  unfoldable pub Fitting : ℕ → Result (ℕ × ℕ) ListError → List ℕ → Type 0
  Fitting most (Ok (n, at)) numbers = (n ≤ most) × (at ≤ length bytes) × (length numbers ≡ 4 * n)
  Fitting most (Err (Malformed n)) numbers = ℕ
  Fitting most (Err TooMany) numbers = ℕ

  fitting_from : (m p : ℕ) (ns : List ℕ) (n : ℕ) → p ≤ length bytes → length ns ≡ 4 * n
      → Fitting (n + m) (lines_from bytes m p ns n).found (lines_from bytes m p ns n).numbers
  unfolding Fitting
  fitting_from zero p ns n h l = elim (either (begins bytes p)) [
    | inl e ↦ subst (λ (q : PutList). Fitting (n + 0) q.found q.numbers) (lines_many p ns n e) 0
    | inr e ↦ subst (λ (q : PutList). Fitting (n + 0) q.found q.numbers) (lines_end 0 p ns n e) (omega arith, h, l)
  ]
  fitting_from (suc m) p ns n h l = elim (either (begins bytes p)) [
    | inl e ↦ elim (either (line_from bytes (p + 4)).good) [
      | inl f ↦
          let s : suc n + m ≡ n + suc m = omega arith in
          let r = fitting_from m (line_from bytes (p + 4)).next (ns ++ line_numbers (line_from bytes (p + 4))) (suc n) (line-inside bytes (p + 4) f)
          (four_more ns (line_from bytes (p + 4)) n l) in
          subst (λ (q : PutList). Fitting (n + suc m) q.found q.numbers) (sym (lines_on m p ns n e f))
          (subst (λ (b : ℕ). Fitting b (lines_from bytes m (line_from bytes (p + 4)).next (ns ++ line_numbers (line_from bytes (p + 4))) (suc n)).found
          (lines_from bytes m (line_from bytes (p + 4)).next (ns ++ line_numbers (line_from bytes (p + 4))) (suc n)).numbers) s r)
      | inr f ↦ subst (λ (q : PutList). Fitting (n + suc m) q.found q.numbers) (lines_bad m p ns n e f) 0
    ]
    | inr e ↦ subst (λ (q : PutList). Fitting (n + suc m) q.found q.numbers) (lines_end (suc m) p ns n e) (omega arith, h, l)
  ]

  pub fitting : (most : ℕ) → Fitting most (put_list most bytes).found (put_list most bytes).numbers
  unfolding put_list
  fitting most =
      subst (λ (m : ℕ). Fitting m (lines_from bytes most 0 [] 0).found (lines_from bytes most 0 [] 0).numbers) (zero-add most)
      (fitting_from most 0 [] 0 (omega arith) refl)

  -- ---- the loop

  -- n lines are read up to p, their numbers stand in the room, and the rest of the list is to come
  pub record Listed (before room : List ℕ) (p n : ℕ) : Type 0 where
    pub same : lines_from bytes (length before / 4 - n) p (take (4 * n) room) n ≡ put_list (length before / 4) bytes
    pub long : length room ≡ length before
    pub back : drop (4 * n) room ≡ drop (4 * n) before
    pub few : n ≤ length before / 4
    pub inside : p ≤ length bytes

  pub listed_start : (room : List ℕ) → Listed room room 0 0
  unfolding put_list
  listed_start room =
      record {
        same = ap (λ (m : ℕ). lines_from bytes m 0 [] 0) (sub-zero (length room / 4));
        long = refl;
        back = refl;
        few = omega arith;
        inside = omega arith;
      }

  pub listed_on : (before room after : List ℕ) (p n : ℕ) (l : Line) → begins bytes p ≡ true → n < length before / 4 → l ≡ line_from bytes (p + 4)
      → l.good ≡ true → Stored room n l after → Listed before room p n → Listed before after l.next (n + 1)
  listed_on before room after p n l b h e g s t =
      let f : (line_from bytes (p + 4)).good ≡ true = subst (λ (k : Line). k.good ≡ true) e g in
      let m = length before / 4 - (n + 1) in
      let u : length before / 4 - n ≡ suc m = omega arith in
      let w : 4 * (n + 1) ≡ 4 * n + 4 = omega arith in
      record {
        same =
            ap (λ (k : ℕ). lines_from bytes m l.next (take k after) (n + 1)) w
            ∙ (ap (λ (x : List ℕ). lines_from bytes m l.next x (n + 1)) s.front
            ∙ (ap (λ (k : ℕ). lines_from bytes m l.next (take (4 * n) room ++ line_numbers l) k) (add-one n)
            ∙ (ap (λ (k : Line). lines_from bytes m k.next (take (4 * n) room ++ line_numbers k) (suc n)) e
            ∙ (sym (lines_on m p (take (4 * n) room) n b f) ∙ (ap (λ (k : ℕ). lines_from bytes k p (take (4 * n) room) n) (sym u) ∙ t.same)))));
        long = s.long ∙ t.long;
        back =
            ap (λ (k : ℕ). drop k after) w
            ∙ (s.back ∙ (sym (drop-drop 4 (4 * n) room) ∙ (ap (λ (x : List ℕ). drop 4 x) t.back ∙
            (drop-drop 4 (4 * n) before ∙ ap (λ (k : ℕ). drop k before) (sym w)))));
        few = omega arith;
        inside = subst (λ (k : Line). k.next ≤ length bytes) (sym e) (line-inside bytes (p + 4) f);
      }

  -- what is found, and the room
  close : (before room : List ℕ) (p n : ℕ) (r : Result (ℕ × ℕ) ListError) → Listed before room p n
      → record { found = r; numbers = take (4 * n) room } ≡ lines_from bytes (length before / 4 - n) p (take (4 * n) room) n
      → record { found = r; numbers = room } ≡ list_in bytes before
  unfolding list_in
  close before room p n r t e =
      let fit : 4 * n ≤ length room = let f = t.few in let g = t.long in omega arith in
      let w : room ≡ take (4 * n) room ++ drop (length (take (4 * n) room)) before =
      sym (take-append-drop (4 * n) room)
      ∙ (ap (λ (x : List ℕ). take (4 * n) room ++ x) t.back ∙ ap (λ (k : ℕ). take (4 * n) room ++ drop k before) (sym (length-take-le (4 * n) room fit))) in
      ap (λ (x : List ℕ). record { found = r; numbers = x }) w
      ∙ ap (λ (q : PutList). record { found = q.found; numbers = q.numbers ++ drop (length q.numbers) before }) (e ∙ t.same)

  module _ (before room : List ℕ) (p n : ℕ) (t : Listed before room p n) where
    pub listed-end : begins bytes p ≡ false → record { found = Ok (n, p); numbers = room } ≡ list_in bytes before
    listed-end b = close before room p n (Ok (n, p)) t (lines_end (length before / 4 - n) p (take (4 * n) room) n b)

    pub listed_many : begins bytes p ≡ true → n ≡ length before / 4 → record { found = Err TooMany; numbers = room } ≡ list_in bytes before
    listed_many b e =
        let z : length before / 4 - n ≡ 0 = omega arith in
        close before room p n (Err TooMany) t (lines_many p (take (4 * n) room) n b ∙ ap (λ (k : ℕ). lines_from bytes k p (take (4 * n) room) n) (sym z))

    pub listed-bad : begins bytes p ≡ true → n < length before / 4 → (line_from bytes (p + 4)).good ≡ false
        → record { found = Err (Malformed n); numbers = room } ≡ list_in bytes before
    listed-bad b h g =
        let u : length before / 4 - n ≡ suc (length before / 4 - (n + 1)) = omega arith in
        close before room p n (Err (Malformed n)) t (lines_bad (length before / 4 - (n + 1)) p (take (4 * n) room) n b g
        ∙ ap (λ (k : ℕ). lines_from bytes k p (take (4 * n) room) n) (sym u))
