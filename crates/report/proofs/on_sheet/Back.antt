-- Positions in their room go back to the sheet one by one; the zeros after them stay. Assumes nothing.
use Prim.Native.Nat.{ℕ, zero, suc, ◌+◌, ◌-◌, ◌*◌, ◌≤◌}
use native.Mathlib.Omega.{arith}
use native.Mathlib.Numerals.{add-one}
use mathlib.Core.Path.{◌≡◌, refl, sym, ap, ◌∙◌}
use mathlib.Core.List.{List, [], ◌∷◌, ◌++◌, map}
use lib.ListN.{length, get_or, set, drop, replicate, length-map, get_or-replicate}
use lib.Seq.{set-get_or}
use lib.Ieee.{Float, nan}
use Rattle.numbers.specs.Numbers.{pos_zero}
use Rattle.frames.specs.declared.Frame.{Frame}
use Rattle.frames.specs.declared.Point.{Point}
use Rattle.frames.specs.Frames.{from}
use Rattle.frames.proofs.Zeros.{from_zero}
use Rattle.job.specs.Jobs.{Job, frame_of}
use Rattle.filling.specs.declared.State.{State}
use Rattle.filling.specs.Rooms.{laid, zeros}
use Rattle.filling.specs.State.{standing_of}
use Rattle.filling.specs.Accounts.{Position, framed_positions, place_on_sheet, on_sheet, positions, flat_positions}
use Rattle.accounts.proofs.ByKind.{flat-long, all_long, start-most}
use Rattle.report.specs.on_sheet.inner.Turned.{place_at, back_at, back_to}

module _ (f : Frame) where
  -- ---- one more

  pub back_none : (room : List Float) → room ≡ back_to f room 0
  unfolding back_to
  back_none room = refl

  pub back-next : (room before : List Float) (i : ℕ) → before ≡ back_to f room i → back_at f before i ≡ back_to f room (i + 1)
  unfolding back_to
  back-next room before i e = ap (λ (l : List Float). back_at f l i) e ∙ ap (back_to f room) (sym (add-one i))

  -- what the stores leave
  pub stored : (room : List Float) (i : ℕ) (x y : Float) (p : Point) → x ≡ get_or room (6 * i + 3) nan → y ≡ get_or room (6 * i + 4) nan
      → p ≡ from f (record { x = x; y = y }) → set (set room (6 * i + 3) p.x) (6 * i + 4) p.y ≡ back_at f room i
  unfolding back_at place_at
  stored room i x y p a b e =
      ap (λ (q : Point). set (set room (6 * i + 3) q.x) (6 * i + 4) q.y)
      (e ∙ (ap (λ (z : Float). from f (record { x = z; y = y })) a ∙ ap (λ (z : Float). from f (record { x = get_or room (6 * i + 3) nan; y = z })) b))

  -- ---- positions, and what lies after them

  shift : (a b c x y g : Float) (r : List Float) (i : ℕ) → back_at f (a ∷ b ∷ c ∷ x ∷ y ∷ g ∷ r) (suc i) ≡ a ∷ b ∷ c ∷ x ∷ y ∷ g ∷ back_at f r i
  unfolding back_at place_at
  shift a b c x y g r i =
      let d : 6 * suc i + 3 ≡ suc (suc (suc (suc (suc (suc (6 * i + 3)))))) = omega arith in
      let e : 6 * suc i + 4 ≡ suc (suc (suc (suc (suc (suc (6 * i + 4)))))) = omega arith in
      rw (d, e)

  first : (p : Position) (r : List Float) (n : ℕ) → back_to f (flat_positions (p ∷ []) ++ r) (suc n) ≡ flat_positions (on_sheet f p ∷ []) ++ back_to f r n
  unfolding back_to flat_positions on_sheet place_on_sheet back_at place_at
  first p r zero = refl
  first p r (suc n) = ap (λ (l : List Float). back_at f l (suc n)) (first p r n) ∙ shift _ _ _ _ _ _ (back_to f r n) n

  front : (ps : List Position) (r : List Float) (n m : ℕ) → m ≡ length ps + n
      → back_to f (flat_positions ps ++ r) m ≡ flat_positions (map (on_sheet f) ps) ++ back_to f r n
  unfolding flat_positions
  front [] r n m e = let d : m ≡ n = omega arith in ap (back_to f r) d
  front (p ∷ ps) r n zero e = absurd (omega arith)
  front (p ∷ ps) r n (suc m) e =
      first p (flat_positions ps ++ r) m ∙ ap (λ (l : List Float). flat_positions (on_sheet f p ∷ []) ++ l) (front ps r n m (omega arith))

  -- ---- zeros

  zero-stays : (n i : ℕ) → 6 * i + 6 ≤ n → back_at f (replicate n pos_zero) i ≡ replicate n pos_zero
  unfolding back_at place_at
  zero-stays n i h =
      let a : get_or (replicate n pos_zero) (6 * i + 3) nan ≡ pos_zero = get_or-replicate n (6 * i + 3) pos_zero nan (omega arith) in
      let b : get_or (replicate n pos_zero) (6 * i + 4) nan ≡ pos_zero = get_or-replicate n (6 * i + 4) pos_zero nan (omega arith) in
      rw (a, b, from_zero f)
      (ap (λ (l : List Float). set l (6 * i + 4) pos_zero) (same (6 * i + 3) a) ∙ same (6 * i + 4) b)
    where
      same : (k : ℕ) → get_or (replicate n pos_zero) k nan ≡ pos_zero → set (replicate n pos_zero) k pos_zero ≡ replicate n pos_zero
      same k e = rw e at (set-get_or (replicate n pos_zero) k nan)

  zeros_stay : (m n : ℕ) → 6 * n ≤ m → back_to f (replicate m pos_zero) n ≡ replicate m pos_zero
  unfolding back_to
  zeros_stay m zero h = refl
  zeros_stay m (suc n) h = ap (λ (l : List Float). back_at f l n) (zeros_stay m n (omega arith)) ∙ zero-stays m n (omega arith)

  drop-zeros : (k n : ℕ) → drop k (replicate n pos_zero) ≡ replicate (n - k) pos_zero
  drop-zeros zero n = let e : n ≡ n - 0 = omega arith in ap (λ (m : ℕ). replicate m pos_zero) e
  drop-zeros (suc k) zero = let e : 0 ≡ 0 - suc k = omega arith in ap (λ (m : ℕ). replicate m pos_zero) e
  drop-zeros (suc k) (suc n) = let e : n - k ≡ suc n - suc k = omega arith in drop-zeros k n ∙ ap (λ (m : ℕ). replicate m pos_zero) e

  -- ---- the whole room

  back-laid : (ps : List Position) (room : List Float) (n : ℕ) → length ps ≤ n → 6 * n ≤ length room
      → back_to f (laid (flat_positions ps) (zeros pos_zero room)) n ≡ laid (flat_positions (map (on_sheet f) ps)) (zeros pos_zero room)
  unfolding laid zeros
  back-laid ps room n h k =
      let e : length (flat_positions ps) ≡ 6 * length ps = flat-long ps in
      let d : length (flat_positions (map (on_sheet f) ps)) ≡ length (flat_positions ps) =
      flat-long (map (on_sheet f) ps) ∙ (ap (λ (i : ℕ). 6 * i) (length-map ps (on_sheet f)) ∙ sym e) in
      let z = drop-zeros (length (flat_positions ps)) (length room) in
      front ps (drop (length (flat_positions ps)) (replicate (length room) pos_zero)) (n - length ps) n (omega arith)
      ∙ ap (λ (l : List Float). flat_positions (map (on_sheet f) ps) ++ l)
      (ap (λ (l : List Float). back_to f l (n - length ps)) z
      ∙ (zeros_stay (length room - length (flat_positions ps)) (n - length ps) (omega arith)
      ∙ (sym z ∙ ap (λ (i : ℕ). drop i (replicate (length room) pos_zero)) (sym d))))

-- no more positions than copies are taken
framed-few : (j : Job) (s : State) → length (framed_positions j (standing_of s)) ≤ s.taken
unfolding framed_positions standing_of
framed-few j s = let e = all_long s s.taken (length j.kinds) in let b = start-most s s.taken (length j.kinds) in omega arith

-- the positions of a state in their room, once they are back
pub back-positions : (j : Job) (s : State) (f : Frame) → frame_of j.header ≡ f → (room : List Float) → 6 * s.taken ≤ length room
    → back_to f (laid (flat_positions (framed_positions j (standing_of s))) (zeros pos_zero room)) s.taken
    ≡ laid (flat_positions (positions j (standing_of s))) (zeros pos_zero room)
unfolding positions
back-positions j s f e room h =
    back-laid f (framed_positions j (standing_of s)) room s.taken (framed-few j s) h
    ∙ ap (λ (g : Frame). laid (flat_positions (map (on_sheet g) (framed_positions j (standing_of s)))) (zeros pos_zero room)) (sym e)
