-- A search's looks are the list of columns from its start to the one yielded; the look count goes up by their number; 22 exactly where one of them has too many intervals. Assumes nothing.
use Rattle.std.specs.Prelude.{Some, None, Ok, Err}
use Prim.Native.Nat.{ℕ, zero, suc, ◌+◌, ◌<◌}
use native.Mathlib.Omega.{arith}
use mathlib.Core.Path.{◌≡◌, refl, sym, ap, ◌∙◌, subst}
use mathlib.Core.List.{List, [], ◌∷◌}
use mathlib.Core.Bool.{Bool, true, false, ◌||◌}
use lib.ListN.{length, get_or, set, length-set}
use lib.Seq.{get_or-set_same, set-set, set-get_or}
use Rattle.search.specs.inner.Searching.{Answer, Found, after_look, after_answer, counted, search_from}
use Rattle.look.specs.declared.height.Look.TheVariants.{Free, Full}

-- the columns after one with this answer are looked at only if it is full
abbrev pub onward : Answer → List ℕ → List ℕ
onward (Err r) cs = []
onward (Ok (Free y g)) cs = []
onward (Ok Full) cs = cs

unfoldable pub looks_made : (ℕ → Answer) → ℕ → ℕ → List ℕ
looks_made f zero c = []
looks_made f (suc n) c = c ∷ onward (f c) (looks_made f n (c + 1))

abbrev pub lacks_room : Answer → Bool
lacks_room (Err r) = true
lacks_room (Ok l) = false

unfoldable pub any_lacks_room : (ℕ → Answer) → List ℕ → Bool
any_lacks_room f [] = false
any_lacks_room f (c ∷ cs) = lacks_room (f c) || any_lacks_room f cs

abbrev pub is_overflow : Found → Bool
is_overflow (Ok (Some (c, y, g))) = false
is_overflow (Ok None) = false
is_overflow (Err r) = true

module _ (f : ℕ → Answer) (slot : ℕ) where
  -- the look count goes up by the number of looks
  pub looks-counted : (n c : ℕ) (counts : List ℕ) → slot < length counts → (search_from f slot n c counts).counts ≡ set counts slot (get_or counts slot 0 + length (looks_made f n c))
  unfolding search_from looks_made
  looks-counted zero c counts h = sym (ap (set counts slot) (let e : get_or counts slot 0 + 0 ≡ get_or counts slot 0 = omega arith in e) ∙ set-get_or counts slot 0)
  looks-counted (suc n) c counts h = go (f c) (looks-counted n (c + 1) (counted slot counts) (subst (λ (z : ℕ). slot < z) (sym (length-set counts slot (get_or counts slot 0 + 1))) h))
    where
      one : counted slot counts ≡ set counts slot (get_or counts slot 0 + length (c ∷ []))
      one = refl

      go : (v : Answer) → (search_from f slot n (c + 1) (counted slot counts)).counts ≡ set (counted slot counts) slot (get_or (counted slot counts) slot 0 + length (looks_made f n (c + 1)))
          → (after_answer v c (counted slot counts) (search_from f slot n (c + 1) (counted slot counts))).counts ≡ set counts slot (get_or counts slot 0 + length (c ∷ onward v (looks_made f n (c + 1))))
      go (Err r) e = unfold after_answer in one
      go (Ok (Free y g)) e = unfold after_answer in (unfold after_look in one)
      go (Ok Full) e = unfold after_answer in (unfold after_look in (e ∙ (set-set counts slot (get_or counts slot 0 + 1) _ ∙ ap (set counts slot) (more (get_or (counted slot counts) slot 0) (get_or counts slot 0) (length (looks_made f n (c + 1))) (get_or-set_same counts slot (get_or counts slot 0 + 1) 0 h)))))
        where
          more : (a b m : ℕ) → a ≡ b + 1 → a + m ≡ b + suc m
          more a b m e = omega arith

  -- 22 exactly where a look that is made has too many intervals
  pub overflow_exactly : (n c : ℕ) (counts : List ℕ) → is_overflow (search_from f slot n c counts).found ≡ any_lacks_room f (looks_made f n c)
  unfolding search_from looks_made any_lacks_room
  overflow_exactly zero c counts = refl
  overflow_exactly (suc n) c counts = go (f c) refl (overflow_exactly n (c + 1) (counted slot counts))
    where
      go : (v : Answer) → f c ≡ v → is_overflow (search_from f slot n (c + 1) (counted slot counts)).found ≡ any_lacks_room f (looks_made f n (c + 1))
          → is_overflow (after_answer v c (counted slot counts) (search_from f slot n (c + 1) (counted slot counts))).found ≡ (lacks_room (f c) || any_lacks_room f (onward v (looks_made f n (c + 1))))
      go (Err r) q e = unfold after_answer in (rw q)
      go (Ok (Free y g)) q e = unfold after_answer in (unfold after_look in (rw q))
      go (Ok Full) q e = unfold after_answer in (unfold after_look in (rw q e))
