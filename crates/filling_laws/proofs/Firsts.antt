-- The bucket numbers of standing strips (document 02, W3): where no strip is stored, and those of strips that begin a room. Assumes nothing.
use Prim.Native.Nat.{ℕ, ◌*◌, ◌/◌, ◌<◌}
use native.Mathlib.Omega.{arith}
use mathlib.Core.Path.{◌≡◌, sym, ap, ◌∙◌}
use mathlib.Core.List.{List}
use lib.ListN.{length, take, drop}
use lib.Seq.{take-append-le}
use lib.Ieee.{Float}
use Rattle.trapezoid.specs.Strip.{strip_at, capacity}
use Rattle.index.specs.declared.Index.{Index}
use Rattle.index.specs.Buckets.{firsts_of}
use Rattle.index.specs.inner.Listing.{FirstBuckets}
use Rattle.index.proofs.FirstBuckets.{length_firsts, firsts_at, firsts_list, firsts_moved}
use Rattle.filling.specs.Rooms.{laid}
use Rattle.store.specs.inner.Storing.{FirstsLaid}
use Rattle.store.proofs.Strips.{prefix_strip}
use Rattle.store.proofs.Firsts.{firsts_same}

-- where no strip is stored, true numbers stay
pub firsts_stay : (ix : Index) (standing : List Float) (n : ℕ) (before after : List ℕ) → FirstBuckets ix standing n before → FirstsLaid ix standing n before after
    → after ≡ before
firsts_stay ix standing n before after K F = F.written ∙ sym (firsts_same ix standing n before K).written

-- where no strip stands, any numbers are true
pub firsts_none : (ix : Index) (standing : List Float) (firsts : List ℕ) → FirstBuckets ix standing 0 firsts
firsts_none ix standing firsts = record { long = omega arith; right = λ i h. absurd (omega arith) }

-- ---- strips that begin a room

pub take-front : (xs room : List Float) → take (6 * capacity xs) (laid xs room) ≡ take (6 * capacity xs) xs
unfolding laid capacity
take-front xs room = take-append-le (6 * (length xs / 6)) xs (drop (length xs) room) (omega arith)

strip-front : (xs room : List Float) (i : ℕ) → i < capacity xs → strip_at (laid xs room) i ≡ strip_at xs i
strip-front xs room i h =
    sym (prefix_strip (laid xs room) (capacity xs) i h) ∙ (ap (λ (l : List Float). strip_at l i) (take-front xs room) ∙ prefix_strip xs (capacity xs) i h)

own_firsts : (ix : Index) (standing : List Float) (n : ℕ) → FirstBuckets ix standing n (firsts_of ix standing n)
own_firsts ix standing n = record { long = (let e = length_firsts ix standing n in omega arith); right = firsts_at ix standing n }

pub firsts_front : (ix : Index) (xs room : List Float) → firsts_of ix (laid xs room) (capacity xs) ≡ firsts_of ix xs (capacity xs)
firsts_front ix xs room =
    let n = capacity xs in
    let fs = firsts_of ix (laid xs room) n in
    let K = own_firsts ix (laid xs room) n in
    sym (firsts_list ix (laid xs room) n fs K) ∙ firsts_list ix xs n fs (firsts_moved ix (laid xs room) xs n fs (strip-front xs room) K)
