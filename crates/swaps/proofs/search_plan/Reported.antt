-- The kept half read back, and its plan. Assumes nothing.
use Prim.Native.Nat.{ℕ, ◌+◌, ◌-◌, ◌*◌, ◌≤◌, ◌<◌}
use native.Mathlib.Omega.{arith}
use mathlib.Core.Path.{◌≡◌, refl, ap, ap₂, ◌∙◌}
use mathlib.Core.List.{List}
use lib.ListN.{length, take, drop}
use lib.Ieee.{Float}
use Rattle.job.specs.Jobs.{Job}
use Rattle.filling.specs.Shapes.{Planner}
use Rattle.filling.specs.Rooms.{Lent}
use Rattle.filling.specs.Fill.{planned_with}
use Rattle.filling_laws.specs.fill_laws.inner.Prepared.{state_by}
use Rattle.nesting.specs.Rounds.{kept}
use Rattle.nesting.specs.Nest.{nested}
use Rattle.rooms.specs.tracks.inner.Tracks.{field, next_columns, look_counts_from, orientations, xs, ys, gaps, spot_numbers}
use Rattle.report.specs.inner.Replies.{Reply, reply_of}
use Rattle.better.specs.declared.Best.{Best}
use Rattle.better.specs.inner.Keeping.{half, kept_by, kept_in, kept_tracks, kept_spots}

-- the part of a table that is lent is its half
pub half-part : {A : Type 0} (w h : ℕ) (table : List A) → take (w * h + w - w * h) (drop (w * h) table) ≡ half w h table
unfolding half
half-part w h table = let e : w * h + w - w * h ≡ w = cancel (w * h) w in ap (λ (n : ℕ). take n (drop (w * h) table)) e
  where
    cancel : (a b : ℕ) → a + b - a ≡ b
    cancel a b = omega arith

-- the plan of what is kept
nested_is : (b : Best) (j : Job) (l : Lent) (p : Planner) (order next looks orientation : List ℕ) (x y gap : List Float)
    → planned_with j l (state_by p order (length order) next looks b.totals orientation x y gap) b.improvements
    ≡ nested j l (kept (kept_by b p order next looks orientation x y gap))
unfolding nested
nested_is b j l p order next looks orientation x y gap = refl

module _ (b : Best) (j : Job) (l : Lent) (p : Planner) (order tracks : List ℕ) (spots : List Float) where
  abbrev Report : List ℕ → List ℕ → List Float → List Float → List Float → Reply
  Report looks orientation x y gap =
      reply_of (planned_with j l (state_by p order (length order) (next_columns (kept_tracks b tracks)) looks b.totals orientation x y gap) b.improvements)

  pub kept-reply : (looks orientation : List ℕ) (x y gap : List Float) → looks ≡ look_counts_from (kept_tracks b tracks)
      → orientation ≡ orientations (kept_tracks b tracks) → x ≡ xs (kept_spots b spots) → y ≡ ys (kept_spots b spots) → gap ≡ gaps (kept_spots b spots)
      → (r : Reply) → r ≡ Report looks orientation x y gap → r ≡ reply_of (nested j l (kept (kept_in b p order tracks spots)))
  kept-reply looks orientation x y gap el eo ex ey eg r e =
      let u = look_counts_from (kept_tracks b tracks) in
      let o = orientations (kept_tracks b tracks) in
      let w = kept_spots b spots in
      e
      ∙ (ap (λ (z : List ℕ). Report z orientation x y gap) el
      ∙ (ap (λ (z : List ℕ). Report u z x y gap) eo
      ∙ (ap (λ (z : List Float). Report u o z y gap) ex
      ∙ (ap (λ (z : List Float). Report u o (xs w) z gap) ey
      ∙ (ap (λ (z : List Float). Report u o (xs w) (ys w) z) eg
      ∙ ap reply_of (nested_is b j l p order (next_columns (kept_tracks b tracks)) u o (xs w) (ys w) (gaps w)))))))

-- ---- what the reads require and give
pub look_reads : (n w : ℕ) → n ≡ 1024 → w ≡ 6144 → (2 ≤ 4) × (n ≤ 4096) × (1 ≤ 4096) × ((i : ℕ) → i < n → 2 * i + 1 < w)
look_reads n w e f = (omega arith, omega arith, omega arith, λ i h. omega arith)

pub turn_reads : (n w : ℕ) → n ≡ 4096 → w ≡ 6144 → (1 ≤ 4) × (n ≤ 4096) × (2048 ≤ 4096) × ((i : ℕ) → i < n → 1 * i + 2048 < w)
turn_reads n w e f = (omega arith, omega arith, omega arith, λ i h. omega arith)

pub spot_reads : (r n w : ℕ) → r < 3 → n ≡ 4096 → w ≡ spot_numbers → (3 ≤ 4) × (n ≤ 4096) × (r ≤ 4096) × ((i : ℕ) → i < n → 3 * i + r < w)
spot_reads r n w b e f = (omega arith, omega arith, omega arith, λ i h. omega arith)

pub field-half : {A : Type 0} (d : A) (k r n m w h : ℕ) (table out : List A) → out ≡ field d k r n (take (w * h + w - w * h) (drop (w * h) table)) → n ≡ m
    → out ≡ field d k r m (half w h table)
field-half d k r n m w h table out e f = e ∙ ap₂ (field d k r) f (half-part w h table)

pub long : {a b : ℕ} → a ≤ 4096 → b ≡ 4096 → a ≤ b
long h e = omega arith

pub least : {b : ℕ} → b ≡ 1024 → 1024 ≤ b
least e = omega arith
