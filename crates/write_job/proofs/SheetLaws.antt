-- Laws of the sheet's width: the sheet is written, and measured as it is read. Assumes nothing.
use Rattle.std.specs.Prelude.{Result, Ok, Err}
use mathlib.Core.Path.{◌≡◌, sym, ap, subst, ◌∙◌}
use Prim.Native.Nat.{ℕ, ◌-◌, ◌*◌, ◌≤◌}
use native.Mathlib.Omega.{arith}
use mathlib.Core.List.{List, []}
use lib.ListN.{length, take, replicate}
use lib.Seq.{take_at}
use lib.Ieee.{Float}
use Rattle.numbers.proofs.Truth.{zero-not-one}
use Rattle.numbers.specs.Numbers.{◌⊖◌}
use Rattle.bits.specs.declared.Refusal.{Refusal}
use Rattle.bits.specs.Reading as reading
use Rattle.bits.proofs.Accepted.{bad-not_ok, ok_same}
use Rattle.kinds.specs.sets.Sets.{Set, a_set}
use Rattle.kinds.specs.sets.inner.Answers.{set_read, set_fits}
use Rattle.frames.specs.declared.Frame.{Frame}
use Rattle.frames.specs.Frames.{framed}
use Rattle.frames.specs.inner.Turning.{framed_read}
use Rattle.job.specs.Jobs.{left, right, width_of}
use Rattle.job.proofs.Whole.{width_is}
use Rattle.bit_writer.specs.declared.BitWriter.{BitWriter}
use Rattle.bit_writer.specs.Packed.{packed, in_room}
use Rattle.bit_writer.specs.inner.BitWriting.{Wrote}
use Rattle.bit_writer.proofs.Writing.{packed-length}
use Rattle.set_writer.specs.declared.Walk.{Walk}
use Rattle.set_writer.specs.inner.Walks.{Walks}
use Rattle.set_writer.proofs.Walking.{Went, so, went_on, stopped_at}
use Rattle.job_bits.specs.JobBits.{set_bits}
use Rattle.job_bits.specs.Given.{ok, bad, given_set}
use Rattle.job_bits.proofs.Takers.{ok_value, set-few}
use Rattle.job_bits.proofs.Reading.{at_all}
use Rattle.job_bits.proofs.Parts.{Reads, set_reads}
use Rattle.job_bits.proofs.WrittenReads.{set-bits}

-- ---- what is read
module _ (f : Frame) (bytes : List ℕ) (r : Result (ℕ × ℕ × ℕ) Refusal) (room : List Float) (ends : List ℕ) (e : framed_read f (a_set bytes 0) ≡ set_read r room ends) where
  pub width_read : (n m q : ℕ) (w : Float) → r ≡ Ok (n, m, q) → 2 * m ≤ length room → w ≡ right room m ⊖ left room m
      → (s : Set) (p : ℕ) → a_set bytes 0 ≡ reading.ok s p → w ≡ width_of (framed f s)
  width_read n m q w g h i s p a =
      i ∙ width_is room (take n ends) m h ∙ ap width_of (sym (ok_same (sym (ap (framed_read f) a) ∙ e ∙ ap (λ (r : Result (ℕ × ℕ × ℕ) Refusal). set_read r room ends) g)))

  pub width-none : (k : Refusal) (w : Float) → r ≡ Err k → (s : Set) (p : ℕ) → a_set bytes 0 ≡ reading.ok s p → w ≡ width_of (framed f s)
  width-none k w g s p a = absurd (bad-not_ok (sym (e ∙ ap (λ (r : Result (ℕ × ℕ × ℕ) Refusal). set_read r room ends) g) ∙ ap (framed_read f) a))

pub points_of_lem : {r : (Result (ℕ × ℕ × ℕ) Refusal)} (n m q most : ℕ) → set_fits r most → r ≡ Ok (n, m, q) → m ≤ 512
points_of_lem n m q most h e = (subst (λ (r : Result (ℕ × ℕ × ℕ) Refusal). set_fits r most) e h).1

-- ---- what is written: a set's bits fit the room, and are read as the set
module _ (cs : List ℕ) (xs : List Float) (p : BitWriter) (room o o' : List ℕ) (v : Walk) (r : Result Walk Refusal) (n : ℕ)
    (W : Wrote room [] p)
    (F : Walks (given_set cs xs 0 0) set_bits (record { counts = 0; coordinates = 0; writer = p }) room r o)
    (l : length room ≡ 8273)
    (E : (bits : List ℕ) → Wrote o bits v.writer
    → (n ≡ length (packed bits)) × (n ≤ length o → o' ≡ in_room 0 (packed bits) (length o)) × (length o' ≡ length o))
    (e : r ≡ Ok v) where
  pub record Finished (s : Set) : Type 0 where
    pub is : given_set cs xs 0 0 ≡ ok s v.counts v.coordinates
    pub fits : n ≤ length o'
    pub bytes : take n o' ≡ packed (set_bits s)

  pub finished_set : (s : Set) × Finished s
  unfolding in_room
  finished_set = go (went_on v F e)
    where
      go : Went (given_set cs xs 0 0) set_bits (record { counts = 0; coordinates = 0; writer = p }) room v o → (s : Set) × Finished s
      go (so s f P) =
          let T = E (set_bits s) (P.wrote [] W) in
          let m : length (packed (set_bits s)) ≤ 8273 = omega (arith, packed-length (set_bits s), set-few cs xs 0 0 s _ _ f) in
          let k : n ≤ length o = omega (arith, T.0, P.long, m) in (
            s,
            record {
              is = f;
              fits = omega (arith, k, T.2);
              bytes = ap (take n) (T.1 k) ∙ take_at (packed (set_bits s)) (replicate (length o - length (packed (set_bits s))) 0) n (sym T.0);
            },
          )

  pub sheet-measured : (f : Frame) (w : Float) → ((s : Set) (q : ℕ) → a_set (take n o') 0 ≡ reading.ok s q → w ≡ width_of (framed f s))
      → (s : Set) (c x : ℕ) → given_set cs xs 0 0 ≡ ok s c x → w ≡ width_of (framed f s)
  unfolding Reads
  sheet-measured f w M s c x g =
      let D = finished_set in
      let same : D.0 ≡ s = ok_value (sym D.1.is ∙ g) in
      let b : take n o' ≡ packed (set_bits s) = D.1.bytes ∙ ap (λ (t : Set). packed (set_bits t)) same in
      M s _ (ap (λ (l : List ℕ). a_set l 0) b ∙ set_reads cs xs 0 0 s c x g (set_bits s) (set-bits s) 0 (at_all (set_bits s)))

pub sheet-none : (cs : List ℕ) (xs : List Float) {w : Walk} {room o : List ℕ} {r : (Result Walk Refusal)} (k : Refusal) (a : Float) (f : Frame)
    → Walks (given_set cs xs 0 0) set_bits w room r o → r ≡ Err k → (s : Set) (c x : ℕ) → given_set cs xs 0 0 ≡ ok s c x → a ≡ width_of (framed f s)
sheet-none cs xs k a f F e s c x g = absurd (impossible (sym (stopped_at k F e).0 ∙ g))
  where
    impossible : bad k ≡ ok s c x → ⊥
    impossible e = zero-not-one (cc)
