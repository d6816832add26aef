-- The sheet's strips, entries and first buckets, from what the calls leave. Assumes nothing.
use Rattle.std.specs.Prelude.{Option, Some, None, Ok, Err}
use mathlib.Core.Path.{◌≡◌, refl, sym, ap, subst, ◌∙◌}
use mathlib.Core.Logic.{◌⊎◌, inl, inr}
use mathlib.Core.Bool.{Bool, true, false, true≢false}
use mathlib.Core.List.{List, ◌++◌}
use Prim.Native.Nat.{ℕ, ◌+◌, ◌*◌, ◌≤◌, ◌<◌}
use native.Mathlib.Omega.{arith}
use lib.ListN.{length, take, drop}
use lib.Seq.{take_at}
use lib.Ieee.{Float}
use Rattle.numbers.proofs.Truth.{below_or_not}
use Rattle.trapezoid.specs.declared.Trapezoid.{Trapezoid}
use Rattle.trapezoid.specs.Strip.{flat, capacity}
use Rattle.index.specs.declared.Index.{Index}
use Rattle.index.specs.Buckets.{entries_of, firsts_of, index_of, strip_numbers, standing_capacity}
use Rattle.index.proofs.Standing.{standing-long, standing-few}
use Rattle.index.specs.inner.Listing.{Laid, FirstBuckets}
use Rattle.enter.specs.inner.EntryRoom.{Entering, enter_of, entries_in, FirstsWritten}
use Rattle.enter.specs.inner.Gaps.{rooms, entering}
use Rattle.enter.proofs.Starts.{enter_fits, enter_over}
use Rattle.strips.specs.declared.Rect.{Rect}
use Rattle.strips.specs.inner.Tables.{strips_stored}
use Rattle.filling.specs.Shapes.{set_bounds, set_strips}
use Rattle.filling.specs.Rooms.{laid}
use Rattle.filling.specs.Consistent.{sheet_index, entries_for, firsts_for}
use Rattle.filling.proofs.FirstBuckets.{numbers-written}
use Rattle.filling.proofs.Reading.{length-flat}
use Rattle.shapes.specs.set_strips.inner.SetStrips.{strips_of, strips_at}
use Rattle.filling.proofs.WithinBoundsStrips.{capacity-flat}
use Rattle.shapes.proofs.set_strips.ReadSets.{laid-first, stored-number, stored-room, not-stored}
use Rattle.index.specs.declared.Overrun.TheVariants as Room
use Rattle.prepare.specs.sheet.inner.SheetRoom.{SheetIs}
use Rattle.kinds.specs.sets.inner.Answers.{set_at}
use Rattle.frames.specs.declared.Frame.{Frame}
use Rattle.frames.specs.Frames.{framed}

-- ---- strips laid from the first on
module _ (ss : List Trapezoid) (room₀ room : List Float) (r : Option ℕ) (e : record { answer = r; room = room } ≡ strips_stored ss room₀ 0) where
  module _ (n : ℕ) (d : r ≡ Some n) where
    counted : (n ≡ length ss) × (6 * (0 + n) ≤ length room₀)
    counted = stored-number ss room₀ room 0 r e n d

    pub number_is : n ≡ capacity (flat ss)
    number_is = counted.0 ∙ sym (capacity-flat ss)

    pub within : 6 * n ≤ length room₀
    within = let c = counted in omega (arith, c.1)

    pub room_is : room ≡ laid (flat ss) room₀
    room_is = stored-room ss room₀ room 0 r e n d ∙ laid-first ss room₀

    pub front_is : take (6 * n) room ≡ flat ss
    unfolding laid
    front_is = ap (take (6 * n)) room_is ∙ take_at (flat ss) (drop (length (flat ss)) room₀) (6 * n)
        (let c = counted in let l = length-flat ss in omega (arith, c.0))

  pub over : r ≡ None → (firsts : List ℕ) → standing_capacity room₀ firsts < capacity (flat ss)
  unfolding standing_capacity capacity
  over d firsts = let b = not-stored ss room₀ room 0 r e d in let l = length-flat ss in omega arith

-- ---- their entries
module _ (ix : Index) (s : List Float) (entries₀ starts₀ entries starts : List ℕ) (r : Bool)
    (e : entering r entries starts ≡ enter_of ix s (capacity s) (rooms entries₀ starts₀)) where
  pub entered_yes : r ≡ true → (length (entries_of ix s (capacity s)) ≤ length entries₀) × (entries ≡ laid (entries_of ix s (capacity s)) entries₀)
  unfolding entries_in laid
  entered_yes d = go (below_or_not (length entries₀) (length (entries_of ix s (capacity s))))
    where
      go : (length entries₀ < length (entries_of ix s (capacity s))) ⊎ (length (entries_of ix s (capacity s)) ≤ length entries₀) →
          (length (entries_of ix s (capacity s)) ≤ length entries₀) × (entries ≡ entries_of ix s (capacity s) ++ drop (length (entries_of ix s (capacity s)))
          entries₀)
      go (inl h) = absurd (true≢false (sym d ∙ ap (λ (x : Entering). x.fits) (e ∙ sym (enter_over ix s (capacity s) (rooms entries₀ starts₀) h))))
      go (inr h) = (h, ap (λ (x : Entering). x.after.entries) (e ∙ sym (enter_fits ix s (capacity s) (rooms entries₀ starts₀) h)))

  pub entered_no : r ≡ false → length entries₀ < length (entries_of ix s (capacity s))
  entered_no d = go (below_or_not (length entries₀) (length (entries_of ix s (capacity s))))
    where
      go : (length entries₀ < length (entries_of ix s (capacity s))) ⊎ (length (entries_of ix s (capacity s)) ≤ length entries₀) → length entries₀ < length
          (entries_of ix s (capacity s))
      go (inl h) = h
      go (inr h) = absurd (true≢false (sym (sym d ∙ ap (λ (x : Entering). x.fits) (e ∙ sym (enter_fits ix s (capacity s) (rooms entries₀ starts₀) h)))))

-- ---- their first buckets, in front of the room
module _ (ix : Index) (s : List Float) (n : ℕ) (before after : List ℕ) (e : length after ≡ length before) (h : n ≤ length before)
    (W : FirstsWritten ix s 0 n before after) where
  firsts_kept : FirstBuckets ix s n after
  firsts_kept = record { long = omega arith; right = λ i l. W.new i (omega arith) l }

  firsts_laid : after ≡ laid (firsts_of ix s n) before
  firsts_laid = numbers-written ix s n before after e firsts_kept W.above

-- ---- the sheet
pub sheet_strips : (f : Frame) (bytes : List ℕ) (at : ℕ) → flat (strips_at f bytes at true) ≡ set_strips true (framed f (set_at bytes at))
unfolding set_strips strips_at strips_of
sheet_strips f bytes at = refl

-- the room's length counts, not what it holds
standing-same : (room room' : List Float) (firsts : List ℕ) → length room ≡ length room' → standing_capacity room firsts ≡ standing_capacity room' firsts
unfolding standing_capacity capacity
standing-same room room' firsts e = rw e

module _ (g : Frame) (bytes : List ℕ) (at : ℕ) (sheet₀ sheet : List Float) (r : Option ℕ)
    (e : record { answer = r; room = sheet } ≡ strips_stored (strips_at g bytes at true) sheet₀ 0) where
  abbrev S : List Float
  S = set_strips true (framed g (set_at bytes at))

  abbrev B : Rect
  B = set_bounds (framed g (set_at bytes at))

  pub no_strips : (entries₀ entries starts firsts₀ firsts : List ℕ) → r ≡ None → SheetIs (Err Room.StripRoom) B S sheet₀ sheet entries₀ entries starts firsts₀
      firsts
  no_strips entries₀ entries starts firsts₀ firsts d =
      subst (λ (l : List Float). standing_capacity sheet₀ firsts₀ < capacity l) (sheet_strips g bytes at)
      (over (strips_at g bytes at true) sheet₀ sheet r e d firsts₀)

  module _ (n : ℕ) (d : r ≡ Some n) where
    pub fits : 6 * n ≤ length sheet₀
    fits = within (strips_at g bytes at true) sheet₀ sheet r e n d

    n_is : n ≡ capacity S
    n_is = number_is (strips_at g bytes at true) sheet₀ sheet r e n d ∙ ap capacity (sheet_strips g bytes at)

    front : take (6 * n) sheet ≡ S
    front = front_is (strips_at g bytes at true) sheet₀ sheet r e n d ∙ sheet_strips g bytes at

    -- m strips are what the rooms are used for
    module _ (k : length sheet ≡ length sheet₀) (firsts₀ : List ℕ) (m : ℕ) (q : m ≡ standing_capacity sheet firsts₀) where
      m_is : m ≡ standing_capacity sheet₀ firsts₀
      m_is = q ∙ standing-same sheet sheet₀ firsts₀ k

      pub too_many : m < n → (entries₀ entries starts firsts : List ℕ) → SheetIs (Err Room.StripRoom) B S sheet₀ sheet entries₀ entries starts firsts₀ firsts
      too_many h entries₀ entries starts firsts = subst (λ (x : ℕ). x < capacity S) m_is (subst (λ (x : ℕ). m < x) n_is h)

      module _ (few : n ≤ m) where
        n_in : n ≤ standing_capacity sheet₀ firsts₀
        n_in = subst (λ (x : ℕ). n ≤ x) m_is few

        strips_in : capacity S ≤ standing_capacity sheet₀ firsts₀
        strips_in = subst (λ (x : ℕ). x ≤ standing_capacity sheet₀ firsts₀) n_is n_in

        -- the numbers have room, and entries can name the strips
        pub long : n ≤ length firsts₀
        long = standing-long n sheet₀ firsts₀ n_in

        pub nameable : n ≤ strip_numbers
        nameable = standing-few n sheet₀ firsts₀ n_in

        module _ (b : Rect) (bb : b ≡ B) (ix : Index) (x : ix ≡ index_of b.left b.right) (entries₀ starts₀ entries starts : List ℕ) (t : Bool) where
          index_is : ix ≡ sheet_index B
          unfolding sheet_index
          index_is = x ∙ ap (λ (c : Rect). index_of c.left c.right) bb

          -- what holds of the room's front holds of the strips
          own : (F : Index → List Float → ℕ → Type 0) → F ix (take (6 * n) sheet) n → F (sheet_index B) S (capacity S)
          own F f = subst (λ (i : Index). F i S (capacity S)) index_is (subst (λ (c : ℕ). F ix S c) n_is (subst (λ (l : List Float). F ix l n) front f))

          entered : entering t entries starts ≡ enter_of ix (take (6 * n) sheet) n (rooms entries₀ starts₀)
              → entering t entries starts ≡ enter_of (sheet_index B) S (capacity S) (rooms entries₀ starts₀)
          entered = own (λ i l c. entering t entries starts ≡ enter_of i l c (rooms entries₀ starts₀))

          pub sheet_in : (firsts : List ℕ) → length firsts ≡ length firsts₀ → entering t entries starts ≡ enter_of ix (take (6 * n) sheet) n
              (rooms entries₀ starts₀)
              → (t ≡ true → Laid ix (take (6 * n) sheet) n entries starts) → (t ≡ true → FirstsWritten ix (take (6 * n) sheet) 0 n firsts₀ firsts)
              → t ≡ true → SheetIs (Ok (b, n)) B S sheet₀ sheet entries₀ entries starts firsts₀ firsts
          unfolding entries_for firsts_for
          sheet_in firsts w f e' u y =
              let h = entered_yes (sheet_index B) S entries₀ starts₀ entries starts t (entered f) y in
              let z = own (λ i l c. FirstsWritten i l 0 c firsts₀ firsts) (u y) in (
                bb,
                record {
                  number = n_is;
                  strips-fit = strips_in;
                  entries_fit = h.0;
                  strips = room_is (strips_at g bytes at true) sheet₀ sheet r e n d ∙ ap (λ (l : List Float). laid l sheet₀) (sheet_strips g bytes at);
                  entries_are = h.1;
                  indexed = own (λ i l c. Laid i l c entries starts) (e' y);
                  firsts_are = firsts_laid (sheet_index B) S (capacity S) firsts₀ firsts w (subst (λ (c : ℕ). c ≤ length firsts₀) n_is long) z;
                  kept = firsts_kept (sheet_index B) S (capacity S) firsts₀ firsts w (subst (λ (c : ℕ). c ≤ length firsts₀) n_is long) z;
                },
              )

          pub no_entries : (firsts : List ℕ) → entering t entries starts ≡ enter_of ix (take (6 * n) sheet) n (rooms entries₀ starts₀) → t ≡ false
              → SheetIs (Err Room.EntryRoom) B S sheet₀ sheet entries₀ entries starts firsts₀ firsts
          unfolding entries_for
          no_entries firsts f y = (strips_in, entered_no (sheet_index B) S entries₀ starts₀ entries starts t (entered f) y)
