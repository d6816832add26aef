-- The strips that are left of those of a room, their entries and first buckets. Assumes nothing.
use mathlib.Core.Path.{◌≡◌, sym, ap, subst, refl, ◌∙◌}
use mathlib.Core.Bool.{Bool, true}
use mathlib.Core.List.{List, ◌++◌}
use Prim.Native.Nat.{ℕ, zero, suc, ◌+◌, ◌-◌, ◌*◌, ◌≤◌}
use native.Mathlib.Omega.{arith}
use lib.ListN.{length, get_or, take, drop, replicate, length-append, length-drop, take-append-drop}
use lib.Seq.{length-take-le, drop-drop}
use lib.Ieee.{Float}
use Rattle.numbers.specs.Numbers.{pos_zero}
use Rattle.trapezoid.specs.Strip.{capacity}
use Rattle.index.specs.declared.Index.{Index}
use Rattle.index.specs.Buckets.{entries_of, firsts_of}
use Rattle.enter.specs.inner.EntryRoom.{Entering, enter_of, entries_in, FirstsWritten}
use Rattle.enter.specs.inner.Gaps.{rooms, entering}
use Rattle.enter.proofs.Starts.{enter_fits}
use Rattle.filling.specs.Rooms.{laid, zeros}
use Rattle.filling.specs.Withdraw.{strips_left}
use Rattle.filling.proofs.Reading.{sixfold_of, sixfold_append, take-laid, length-zeros}
use Rattle.filling.proofs.FirstBuckets.{numbers-written}
use Rattle.close_up.proofs.EntryCounts.{entries_append}

-- every number of zeros is zero, past their end too
pub zeros_at : {A : Type 0} (z : A) (n b : ℕ) → get_or (replicate n z) b z ≡ z
zeros_at z zero b = refl
zeros_at z (suc n) zero = refl
zeros_at z (suc n) (suc b) = zeros_at z n b

-- of n strips the k from number a on go
module _ (strips : List Float) (a k n : ℕ) (h : a + k ≤ n) (long : length strips ≡ 6 * n) where
  abbrev Front : List Float
  Front = take (6 * a) strips

  abbrev Gone : List Float
  Gone = take (6 * k) (drop (6 * a) strips)

  abbrev Back : List Float
  Back = drop (6 * (a + k)) strips

  front_long : length Front ≡ 6 * a
  front_long = length-take-le (6 * a) strips (omega arith)

  gone_long : length Gone ≡ 6 * k
  gone_long = let x = length-drop (6 * a) strips in length-take-le (6 * k) (drop (6 * a) strips) (omega arith)

  back_long : length Back ≡ 6 * (n - (a + k))
  back_long = let x = length-drop (6 * (a + k)) strips in omega arith

  pub left-long : length (strips_left a k strips) ≡ 6 * (n - k)
  unfolding strips_left
  left-long = let x = length-append Front Back in let y = front_long in let z = back_long in omega arith

  pub left_many : capacity (strips_left a k strips) ≡ n - k
  left_many = let x = left-long in let y = sixfold_of (n - k) (strips_left a k strips) left-long in omega arith

  whole : strips ≡ Front ++ (Gone ++ Back)
  whole =
      let x : 6 * a + 6 * k ≡ 6 * (a + k) = omega arith in
      sym (take-append-drop (6 * a) strips)
      ∙ ap (λ (l : List Float). Front ++ l)
      (sym (take-append-drop (6 * k) (drop (6 * a) strips))
      ∙ ap (λ (l : List Float). Gone ++ l) (drop-drop (6 * k) (6 * a) strips ∙ ap (λ (m : ℕ). drop m strips) x))

  -- fewer strips have no more entries
  pub left_fewer : (ix : Index) → length (entries_of ix (strips_left a k strips) (capacity (strips_left a k strips))) ≤ length (entries_of ix strips n)
  unfolding strips_left
  left_fewer ix =
      let f = sixfold_of a Front front_long in
      let g = sixfold_of k Gone gone_long in
      let b = sixfold_of (n - (a + k)) Back back_long in
      let x = entries_append ix Front Back f b in
      let y = entries_append ix Front (Gone ++ Back) f (sixfold_append Gone Back g b) in
      let z = entries_append ix Gone Back g b in
      let o = sixfold_of n strips long in
      let many : n ≡ capacity strips = omega arith in
      let all : length (entries_of ix strips n) ≡ length (entries_of ix (Front ++ (Gone ++ Back)) (capacity (Front ++ (Gone ++ Back)))) =
      ap (λ (m : ℕ). length (entries_of ix strips m)) many ∙ ap (λ (l : List Float). length (entries_of ix l (capacity l))) whole in
      omega (arith, x, y, z, all)

-- ---- strips entered in a room that holds their entries

module _ (ix : Index) (s : List Float) (n : ℕ) (entries₀ starts₀ entries starts : List ℕ) (r : Bool) (h : length (entries_of ix s n) ≤ length entries₀)
    (e : entering r entries starts ≡ enter_of ix s n (rooms entries₀ starts₀)) where
  does_fit : r ≡ true
  does_fit = ap (λ (x : Entering). x.fits) (e ∙ sym (enter_fits ix s n (rooms entries₀ starts₀) h))

  entries-laid : entries ≡ laid (entries_of ix s n) entries₀
  unfolding entries_in laid
  entries-laid = ap (λ (x : Entering). x.after.entries) (e ∙ sym (enter_fits ix s n (rooms entries₀ starts₀) h))

  buckets-laid : (firsts₀ firsts : List ℕ) → length firsts ≡ length firsts₀ → n ≤ length firsts₀
      → (r ≡ true → FirstsWritten ix s 0 n firsts₀ firsts) → firsts ≡ laid (firsts_of ix s n) firsts₀
  buckets-laid firsts₀ firsts l f W =
      numbers-written ix s n firsts₀ firsts l (record { long = omega arith; right = λ i b. (W does_fit).new i (omega arith) b }) (W does_fit).above

-- ---- what a room's strips leave: the room, its entries and first buckets after all calls

module _ (ix : Index) (placed₀ : List Float) (a k n : ℕ) (entries₀ firsts₀ : List ℕ) (h : a + k ≤ n) (b : 6 * n ≤ length placed₀) (f : n ≤ length firsts₀)
    (g : length (entries_of ix (take (6 * n) placed₀) n) ≤ length entries₀) where
  abbrev Strips : List Float
  Strips = take (6 * n) placed₀

  abbrev L : List Float
  L = strips_left a k (take (6 * n) placed₀)

  strips-long : length Strips ≡ 6 * n
  strips-long = length-take-le (6 * n) placed₀ b

  module _ (placed : List Float) (p : placed ≡ laid L (zeros pos_zero placed₀)) where
    front-left : take (6 * (n - k)) placed ≡ L
    front-left = ap (take (6 * (n - k))) p ∙ take-laid L (zeros pos_zero placed₀) (6 * (n - k)) (left-long Strips a k n h strips-long)

    -- what holds of the room's front holds of the strips that are left
    own : (F : List Float → ℕ → Type 0) → F (take (6 * (n - k)) placed) (n - k) → F L (capacity L)
    own F w = subst (λ (m : ℕ). F L m) (sym (left_many Strips a k n h strips-long)) (subst (λ (l : List Float). F l (n - k)) front-left w)

    module _ (zs starts₀ entries starts : List ℕ) (z : zs ≡ zeros 0 entries₀) (r : Bool)
        (e : entering r entries starts ≡ enter_of ix (take (6 * (n - k)) placed) (n - k) (rooms zs starts₀)) where
      e_left : entering r entries starts ≡ enter_of ix L (capacity L) (rooms (zeros 0 entries₀) starts₀)
      e_left =
          own (λ l m. entering r entries starts ≡ enter_of ix l m (rooms zs starts₀)) e ∙ ap (λ (x : List ℕ). enter_of ix L (capacity L) (rooms x starts₀)) z

      room-enough : length (entries_of ix L (capacity L)) ≤ length (zeros 0 entries₀)
      room-enough = let x = left_fewer Strips a k n h strips-long ix in let y = length-zeros 0 entries₀ in omega (arith, x, y, g)

      pub left-entries : entries ≡ laid (entries_of ix L (capacity L)) (zeros 0 entries₀)
      left-entries = entries-laid ix L (capacity L) (zeros 0 entries₀) starts₀ entries starts r room-enough e_left

      pub left_firsts : (os firsts : List ℕ) → os ≡ zeros 0 firsts₀ → length firsts ≡ length os
          → (r ≡ true → FirstsWritten ix (take (6 * (n - k)) placed) 0 (n - k) os firsts) → firsts ≡ laid (firsts_of ix L (capacity L)) (zeros 0 firsts₀)
      left_firsts os firsts o l W =
          let x = left_many Strips a k n h strips-long in
          let y = length-zeros 0 firsts₀ in
          buckets-laid ix L (capacity L) (zeros 0 entries₀) starts₀ entries starts r room-enough e_left (zeros 0 firsts₀) firsts
          (l ∙ ap (λ (q : List ℕ). length q) o) (omega (arith, x, y, f))
          (λ t. subst (λ (q : List ℕ). FirstsWritten ix L 0 (capacity L) q firsts) o (own (λ s m. FirstsWritten ix s 0 m os firsts) (W t)))
