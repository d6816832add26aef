-- The walk along the entries (`index::entries`) ends exactly where the room begins with them: what 31 asks of the entries. Assumes nothing.
use Rattle.std.specs.Prelude.{Option, Some, None}
use Prim.Native.Nat.{ℕ, suc, ◌≤◌, ◌<◌}
use native.Mathlib.Nat.{eq-or-lt_of_le}
use native.Mathlib.Numerals.{add-one}
use native.Mathlib.Omega.{arith}
use mathlib.Core.Path.{◌≡◌, refl, sym, ap, ◌∙◌}
use mathlib.Core.Logic.{◌⊎◌, inl, inr}
use mathlib.Core.Bool.{Bool, true, false, ◌&&◌}
use mathlib.Core.List.{List, [], ◌∷◌}
use lib.ListN.{length, get_or, take, drop, length-drop}
use lib.Seq.{drop-cons}
use lib.Dec.{eqb, eqb→eq, eqb_refl}
use Rattle.numbers.proofs.Truth.{either, is_true, clash}
use Rattle.index.specs.entries.inner.Walk.{follows}
use Rattle.index.proofs.entries.Following.{follows_on, follows_short, follows-other, follows-none}
use Rattle.filling.specs.Consistent.{same, same_numbers, numbers_lie}

abbrev pub ends : Option ℕ → Bool
ends (Some e) = true
ends None = false

same_cons : (a x : ℕ) (es xs : List ℕ) → same_numbers (a ∷ es) (x ∷ xs) ≡ eqb a x && same_numbers es xs
unfolding same
same_cons a x es xs = refl

same_short : (a : ℕ) (es : List ℕ) → same_numbers (a ∷ es) [] ≡ false
unfolding same
same_short a es = refl

none_left : (room : List ℕ) (e : ℕ) → length room ≤ e → drop e room ≡ []
none_left room e h = empty (drop e room) (let l = length-drop e room in omega arith)
  where
    empty : (l : List ℕ) → length l ≡ 0 → l ≡ []
    empty [] z = refl
    empty (a ∷ l) z = absurd (omega arith)

walk_from : (es room : List ℕ) (e : ℕ) → e ≤ length room → ends (follows room e es) ≡ same_numbers es (take (length es) (drop e room))
unfolding same
walk_from [] room e h = ap ends (follows-none room e)
walk_from (a ∷ es) room e h = go (λ k. walk_from es room (suc e) k) (eq-or-lt_of_le h)
  where
    on : e < length room → ends (follows room (suc e) es) ≡ same_numbers es (take (length es) (drop (suc e) room)) → (eqb a (get_or room e 0) ≡ true) ⊎ (eqb a (get_or room e 0) ≡ false)
        → ends (follows room e (a ∷ es)) ≡ eqb a (get_or room e 0) && same_numbers es (take (length es) (drop (suc e) room))
    on l i (inl t) =
        let q : a ≡ get_or room e 0 = eqb→eq a (get_or room e 0) (rw t tt) in
        ap ends (follows_on room e a es l (sym q)) ∙ ap (λ n. ends (follows room n es)) (add-one e) ∙ i ∙ sym (ap (λ b. b && same_numbers es (take (length es) (drop (suc e) room))) t)
    on l i (inr t) =
        ap ends (follows-other room e a es l (λ q. clash (ap (eqb a) q ∙ is_true (eqb a a) (eqb_refl a)) t)) ∙ sym (ap (λ b. b && same_numbers es (take (length es) (drop (suc e) room))) t)

    go : (suc e ≤ length room → ends (follows room (suc e) es) ≡ same_numbers es (take (length es) (drop (suc e) room))) → (e ≡ length room) ⊎ (e < length room)
        → ends (follows room e (a ∷ es)) ≡ same_numbers (a ∷ es) (take (suc (length es)) (drop e room))
    go rec (inl q) =
        ap ends (follows_short room e a es (omega arith)) ∙ sym (same_short a es) ∙ ap (λ l. same_numbers (a ∷ es) (take (suc (length es)) l)) (sym (none_left room e (omega arith)))
    go rec (inr l) =
        on l (rec l) (either (eqb a (get_or room e 0)))
        ∙ sym (same_cons a (get_or room e 0) es (take (length es) (drop (suc e) room)))
        ∙ ap (λ l. same_numbers (a ∷ es) (take (suc (length es)) l)) (sym (drop-cons room e 0 l))

-- for the code of 31: what the walk answers decides the test
pub walk_decides : (es room : List ℕ) → ends (follows room 0 es) ≡ numbers_lie es room
unfolding numbers_lie
walk_decides es room = walk_from es room 0 (omega arith)
