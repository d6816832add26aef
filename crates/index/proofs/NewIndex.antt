-- A new index over bounded ends has a width that is finite and above zero; an index of no strips; strips stored after the n first do not matter. Assumes nothing.
use Prim.Native.Nat.{ℕ, zero, suc, ◌+◌, ◌-◌, ◌*◌, ◌/◌, ◌<◌, ◌≤◌}
use native.Mathlib.Omega.{arith}
use mathlib.Core.Path.{◌≡◌, ap, ◌∙◌}
use mathlib.Core.List.{List}
use lib.ListN.{length, get_or}
use lib.Seq.{slice_empty}
use lib.Dec.{lit≤}
use lib.Ieee.{Float, binary64, fits}
use Rattle.numbers.specs.Numbers.{◌⊖◌, ◌⊘◌, larger, from_int}
use Rattle.numbers.proofs.Keys.{unit-pos}
use Rattle.numbers.proofs.Doubles.{k, o, u, Finite, finite, sub_upto}
use Rattle.numbers.proofs.Ranges.{div-within, int_num}
use Rattle.numbers.proofs.Literals.{least, least_is, least-pos}
use Rattle.trapezoid.specs.Strip.{strip_at}
use Rattle.index.specs.declared.Index.{Index}
use Rattle.index.specs.Buckets.{buckets, least_width, up_from, keep, index_of}
use Rattle.index.specs.inner.Listing.{Laid, Bounded, Fair, covers, entered_from}
use Rattle.index.proofs.BucketOrder.{larger_finite}
use Rattle.index.proofs.Flat.{up_from_mem, keep_same}

least_fin : Finite least
unfolding fits
least_fin = record { fit = tt; is_finite = tt }

-- the width of a new index: a share of what two bounded ends enclose, or the least width
pub new_fair : (x0 x1 : Float) → Bounded 4000000 x0 → Bounded 4000000 x1 → Fair (index_of x0 x1)
unfolding index_of
new_fair x0 x1 X0 X1 = record { start = X0; width = w.0; some = rw w.1 (above (k ((x1 ⊖ x0) ⊘ from_int buckets)) (k least_width) (rw least_is least-pos)) }
  where
    many : Finite (from_int buckets) × (k (from_int buckets) ≡ o + buckets * u)
    many = let r = int_num binary64 buckets (lit≤ tt) in (finite r.0, r.1)

    least-width : Finite least_width
    least-width = rw least_is least_fin

    more : (m u c : ℕ) → c ≡ m + buckets * u → 0 < u → m < c
    more m u c e h = omega arith

    enough : (m u c : ℕ) → c ≡ m + buckets * u → u ≤ 1 * (c - m)
    enough m u c e = omega arith

    share : Finite ((x1 ⊖ x0) ⊘ from_int buckets)
    share =
        let d = sub_upto {a = 4000000} {b = 4000000} X1.fine X0.fine X1.bound X0.bound (lit≤ tt) in
        (div-within binary64 8000000 1 (x1 ⊖ x0) (from_int buckets) d.0 many.0 d.1 (more o u (k (from_int buckets)) many.1 (unit-pos binary64)) (enough o u (k (from_int buckets)) many.1) (lit≤ tt)).0

    w : Finite (larger ((x1 ⊖ x0) ⊘ from_int buckets) least_width) × (k (larger ((x1 ⊖ x0) ⊘ from_int buckets) least_width) ≡ Prim.Native.Nat.max (k ((x1 ⊖ x0) ⊘ from_int buckets)) (k least_width))
    w = larger_finite share least-width

    above : (a b : ℕ) → o < b → o < Prim.Native.Nat.max a b
    above a b h = omega arith

-- ---- no strips
pub none-laid : (ix : Index) (standing : List Float) (entries starts : List ℕ) → length starts ≡ buckets + 1 → ((b : ℕ) → get_or starts b 0 ≡ 0) → Laid ix standing 0 entries starts
unfolding entered_from up_from keep
none-laid ix standing entries starts t z = record { table = t; first = z 0; rise = λ b c h l. rw (z b) (omega arith); within = λ b h. rw (z b) (omega arith); block = λ b h. rw (z b, z (b + 1)) (slice_empty 0 entries); room = omega arith }

-- ---- strips after the first n
pub laid-after : (ix : Index) (s s' : List Float) (n : ℕ) (entries starts : List ℕ) → Laid ix s n entries starts → ((i : ℕ) → i < n → strip_at s i ≡ strip_at s' i) → 6 * n ≤ length s' → Laid ix s' n entries starts
unfolding entered_from
laid-after ix s s' n entries starts L f r =
    record { table = L.table; first = L.first; rise = L.rise; within = L.within; room = r; block = λ b h. L.block b h ∙ keep_same (λ i. covers ix (strip_at s i) b) (λ i. covers ix (strip_at s' i) b) (up_from n 0) (λ i m. (let u = up_from_mem n 0 i m in ap (λ p. covers ix p b) (f i (omega (arith, u.1))))) }
