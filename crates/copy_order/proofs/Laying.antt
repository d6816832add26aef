-- Laws of copies laid one after another into the order. Assumes nothing.
use Prim.Native.Nat.{ℕ, zero, suc, ◌+◌, ◌-◌, ◌*◌, ◌≤◌, ◌<◌}
use native.Mathlib.Omega.{arith}
use mathlib.Core.Path.{◌≡◌, refl, ap, ap₂, sym, ◌∙◌, subst}
use mathlib.Core.List.{List, [], ◌++◌, flat_map, append_assoc, append-nil}
use lib.ListN.{length, get_or, take, drop, replicate, length-append, length-drop, length-replicate}
use borrow.Rule.Slice.PartMut.{put_mid}
use Rattle.std.proofs.lemmas.List.{length-take-le, take_at, drop_at, drop-drop}
use Rattle.filling.specs.Rooms.{laid}
use Rattle.slabs.specs.inner.Tables.{down}
use Rattle.slabs.proofs.Sorting.{down-suc}
use Rattle.copy_order.specs.inner.KindTables.{copies_at}

pub laid_none : (room : List ℕ) → laid [] room ≡ room
unfolding laid
laid_none room = refl

-- n copies of kind k, from `at` on
pub filled : (order ys xs room : List ℕ) (at n m k : ℕ) → at + n ≤ length order → m ≡ n → ys ≡ replicate (length (take m (drop at order))) k
    → length xs ≡ at → order ≡ laid xs room → put_mid at m order ys ≡ laid (xs ++ replicate n k) room
unfolding laid
filled order ys xs room at n m k h q y e s =
    let t : take at order ≡ xs = ap (take at) s ∙ take_at xs (drop (length xs) room) at e in
    let d : drop at order ≡ drop (length xs) room = ap (drop at) s ∙ drop_at xs (drop (length xs) room) at e in
    let w : length (take m (drop at order)) ≡ n = length-take-le m (drop at order) (let l = length-drop at order in omega arith) ∙ q in
    let z : length xs + n ≡ length (xs ++ replicate n k) = sym (length-append xs (replicate n k) ∙ ap (λ (i : ℕ). length xs + i) (length-replicate n k)) in
    let v : drop m (drop at order) ≡ drop (length (xs ++ replicate n k)) room =
    ap (drop m) d ∙ (ap (λ (i : ℕ). drop i (drop (length xs) room)) q ∙ (drop-drop n (length xs) room ∙ ap (λ (i : ℕ). drop i room) z)) in
    ap₂ (λ (a b : List ℕ). a ++ (b ++ drop m (drop at order))) t (y ∙ ap (λ (i : ℕ). replicate i k) w)
    ∙ (ap (λ (l : List ℕ). xs ++ (replicate n k ++ l)) v ∙ sym (append_assoc xs (replicate n k) (drop (length (xs ++ replicate n k)) room)))

-- the kinds' copies are laid from the line's end on; i kinds are left
pub record Laying (c : ℕ → List ℕ) (f : ℕ → ℕ) (n i at : ℕ) (order₀ order : List ℕ) : Type 0 where
  pub done : List ℕ
  pub same : order ≡ laid done order₀
  pub long : at ≡ length done
  pub rest : done ++ flat_map c (down f i) ≡ flat_map c (down f n)
  pub lengths : length order ≡ length order₀

module _ (c : ℕ → List ℕ) (f : ℕ → ℕ) (n : ℕ) (order₀ : List ℕ) where
  pub laying_start : Laying c f n n 0 order₀ order₀
  laying_start = record { done = []; same = sym (laid_none order₀); long = refl; rest = refl; lengths = refl }

  next-copies : (i : ℕ) → 0 < i → flat_map c (down f i) ≡ c (f (i - 1)) ++ flat_map c (down f (i - 1))
  unfolding flat_map
  next-copies zero h = absurd (omega arith)
  next-copies (suc i) h = let e : suc i - 1 ≡ i = omega arith in rw e (ap (flat_map c) (down-suc f i))

  module _ (i at : ℕ) (order : List ℕ) (l : Laying c f n i at order₀ order) (h : 0 < i) where
    -- the next kind's copies fit
    pub laying_fits : at + length (c (f (i - 1))) ≤ length (flat_map c (down f n))
    laying_fits =
        let e : length (flat_map c (down f n)) ≡ length l.done + length (flat_map c (down f i)) = ap length (sym l.rest) ∙ length-append l.done (flat_map c (down f i)) in
        let g : length (flat_map c (down f i)) ≡ length (c (f (i - 1))) + length (flat_map c (down f (i - 1))) = ap length (next-copies i h) ∙ length-append (c (f (i - 1))) (flat_map c (down f (i - 1))) in
        let w : at ≡ length l.done = l.long in
        omega arith

    pub laying_on : (order' : List ℕ) → order' ≡ laid (l.done ++ c (f (i - 1))) order₀ → length order' ≡ length order → Laying c f n (i - 1) (at + length (c (f (i - 1)))) order₀ order'
    laying_on order' s m =
        record {
          done = l.done ++ c (f (i - 1));
          same = s;
          long = ap (λ (x : ℕ). x + length (c (f (i - 1)))) l.long ∙ sym (length-append l.done (c (f (i - 1))));
          rest = append_assoc l.done (c (f (i - 1))) (flat_map c (down f (i - 1))) ∙ (ap (λ (t : List ℕ). l.done ++ t) (sym (next-copies i h)) ∙ l.rest);
          lengths = m ∙ l.lengths;
        }

  pub laying_end : (at : ℕ) (order : List ℕ) → Laying c f n 0 at order₀ order → (at ≡ length (flat_map c (down f n))) × (order ≡ laid (flat_map c (down f n)) order₀)
  unfolding down flat_map
  laying_end at order l =
      let e : l.done ≡ flat_map c (down f n) = sym (append-nil l.done) ∙ l.rest in
      (l.long ∙ ap length e, l.same ∙ ap (λ (t : List ℕ). laid t order₀) e)

-- ---- the copies of the kinds in a line
module _ (rows line : List ℕ) (n : ℕ) (order₀ : List ℕ) where
  -- the line's kinds are laid down to i
  abbrev pub Laid : ℕ → ℕ → List ℕ → Type 0
  Laid i at order = Laying (copies_at rows) (λ (q : ℕ). get_or line q 0) n i at order₀ order

  how_many : (k : ℕ) → length (copies_at rows k) ≡ get_or rows (4 * k) 0
  unfolding copies_at
  how_many k = length-replicate (get_or rows (4 * k) 0) k

  module _ (i at : ℕ) (order : List ℕ) (l : Laid i at order) (h : 0 < i) where
    pub copies-fit : length (flat_map (copies_at rows) (down (λ (q : ℕ). get_or line q 0) n)) ≤ length order₀ → at + get_or rows (4 * get_or line (i - 1) 0) 0 ≤ length order
    copies-fit g =
        let f : at + length (copies_at rows (get_or line (i - 1) 0)) ≤ length (flat_map (copies_at rows) (down (λ (q : ℕ). get_or line q 0) n)) = laying_fits (copies_at rows) (λ (q : ℕ). get_or line q 0) n order₀ i at order l h in
        let e : length (copies_at rows (get_or line (i - 1) 0)) ≡ get_or rows (4 * get_or line (i - 1) 0) 0 = how_many (get_or line (i - 1) 0) in
        let s : length order ≡ length order₀ = l.lengths in
        omega arith

    pub copies_on : (order' : List ℕ) → ((xs room : List ℕ) → length xs ≡ at → order ≡ laid xs room → order' ≡ laid (xs ++ replicate (get_or rows (4 * get_or line (i - 1) 0) 0) (get_or line (i - 1) 0)) room) → length order' ≡ length order → Laid (i - 1) (at + get_or rows (4 * get_or line (i - 1) 0) 0) order'
    unfolding copies_at
    copies_on order' f s =
        subst (λ (m : ℕ). Laid (i - 1) (at + m) order') (how_many (get_or line (i - 1) 0))
        (laying_on (copies_at rows) (λ (q : ℕ). get_or line q 0) n order₀ i at order l h order' (f l.done order₀ (sym l.long) l.same) s)
