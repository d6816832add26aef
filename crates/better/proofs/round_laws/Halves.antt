-- One half of a table is written, the other stays. Assumes nothing.
use Prim.Native.Nat.{ℕ, zero, suc, ◌+◌, ◌-◌, ◌*◌, ◌≤◌}
use native.Mathlib.Omega.{arith}
use mathlib.Core.Path.{◌≡◌, ap, sym, ◌∙◌}
use mathlib.Core.List.{List, ◌++◌}
use lib.ListN.{length, take, drop, length-drop}
use lib.Seq.{length-take-le, take-append_seam, drop-append_seam, take-append-le, take-take}
use Rattle.better.specs.inner.Keeping.{half}

module _ {A : Type 0} where
  -- a table after its part from a to e was lent and came back
  abbrev pub written : List A → List A → ℕ → ℕ → List A
  written table part a e = take a table ++ (part ++ drop (e - a) (drop a table))

  module _ (w : ℕ) (table part : List A) (a e : ℕ) where
    pub half-written : (h : ℕ) → a ≡ w * h → a ≤ length table → length part ≡ w → half w h (written table part a e) ≡ part
    unfolding half
    half-written h ea le n =
        let m : w * h ≡ length (take a table) = sym ea ∙ sym (length-take-le a table le) in
        ap (λ (i : ℕ). take w (drop i (written table part a e))) m
        ∙ (ap (take w) (drop-append_seam (take a table) (part ++ drop (e - a) (drop a table)))
        ∙ (ap (λ (i : ℕ). take i (part ++ drop (e - a) (drop a table))) (sym n) ∙ take-append_seam part (drop (e - a) (drop a table))))

    first-stays : a ≡ w → w ≤ length table → take w (drop 0 (written table part a e)) ≡ take w (drop 0 table)
    first-stays ea le =
        let n : length (take a table) ≡ a = length-take-le a table (omega arith) in
        take-append-le w (take a table) (part ++ drop (e - a) (drop a table)) (omega arith) ∙ take-take w a table (omega arith)

    second_stays : a ≡ 0 → e ≡ w → length part ≡ w → take w (drop w (written table part a e)) ≡ take w (drop w table)
    second_stays ea ee n =
        ap (λ (i : ℕ). take w (drop w (written table part i e))) ea
        ∙ (ap (λ (i : ℕ). take w (drop i (part ++ drop (e - 0) table))) (sym n)
        ∙ (ap (take w) (drop-append_seam part (drop (e - 0) table))
        ∙ (let z : e - 0 ≡ w = omega arith in ap (λ (i : ℕ). take w (drop i table)) z)))

    -- half k is kept, the part is the other
    pub half-stays : (k h : ℕ) → k ≤ 1 → h ≡ 1 - k → a ≡ w * h → e ≡ a + w → 2 * w ≤ length table → length part ≡ w → half w k (written table part a e) ≡ half w
        k table
    unfolding half
    half-stays zero h l eh ea ee le n =
        let z : w * 0 ≡ 0 = omega arith in
        let o : h ≡ 1 = omega arith in
        let m : a ≡ w = ea ∙ (ap (λ (i : ℕ). w * i) o ∙ (let s : w * 1 ≡ w = omega arith in s)) in
        ap (λ (i : ℕ). take w (drop i (written table part a e))) z ∙ (first-stays m (omega arith) ∙ sym (ap (λ (i : ℕ). take w (drop i table)) z))
    half-stays (suc zero) h l eh ea ee le n =
        let z : w * 1 ≡ w = omega arith in
        let o : h ≡ 0 = omega arith in
        let m : a ≡ 0 = ea ∙ (ap (λ (i : ℕ). w * i) o ∙ (let s : w * 0 ≡ 0 = omega arith in s)) in
        ap (λ (i : ℕ). take w (drop i (written table part a e))) z ∙ (second_stays m (omega arith) n ∙ sym (ap (λ (i : ℕ). take w (drop i table)) z))
    half-stays (suc (suc k)) h l eh ea ee le n = absurd (omega arith)

    -- the part that is lent is one half
    pub start-within : (h : ℕ) → h ≤ 1 → a ≡ w * h → 2 * w ≤ length table → a ≤ length table
    start-within zero l ea le = let z : w * 0 ≡ 0 = omega arith in omega arith
    start-within (suc zero) l ea le = let z : w * 1 ≡ w = omega arith in omega arith
    start-within (suc (suc h)) l ea le = absurd (omega arith)

    end-within : (h : ℕ) → h ≤ 1 → a ≡ w * h → 2 * w ≤ length table → a + w ≤ length table
    end-within zero l ea le = let z : w * 0 ≡ 0 = omega arith in omega arith
    end-within (suc zero) l ea le = let z : w * 1 ≡ w = omega arith in omega arith
    end-within (suc (suc h)) l ea le = absurd (omega arith)

    pub part_length : (h : ℕ) → h ≤ 1 → a ≡ w * h → e ≡ a + w → 2 * w ≤ length table → length (take (e - a) (drop a table)) ≡ w
    part_length h l ea ee le =
        let n : length (drop a table) ≡ length table - a = length-drop a table in
        let m : a + w ≤ length table = end-within h l ea le in
        let z : e - a ≡ w = omega arith in
        length-take-le (e - a) (drop a table) (omega arith) ∙ z

    pub part-long : (h : ℕ) → h ≤ 1 → a ≡ w * h → e ≡ a + w → 2 * w ≤ length table → w ≤ length (take (e - a) (drop a table))
    part-long h l ea ee le = let n = part_length h l ea ee le in omega arith

pub other_half : (k : ℕ) → 1 - k ≤ 1
other_half k = omega arith
