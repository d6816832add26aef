-- The whole plan of a state whose order, places, look counts and totals are given. Assumes nothing.
use Rattle.std.proofs.Common.{◌≡◌, ℕ, zero, suc, ◌-◌, List, [], ◌∷◌, ◌++◌, map, length, get_or, sym, refl, ap, ◌∙◌, ap₂}
use mathlib.Core.List.{flat_map}
use lib.Ieee.{Float, nan}
use Rattle.index.specs.Buckets.{up_from}
use Rattle.job.specs.Jobs.{Job}
use Rattle.filling.specs.declared.State.{State}
use Rattle.filling.specs.declared.Plan.{Plan}
use Rattle.filling.specs.Shapes.{Standing}
use Rattle.filling.specs.Rooms.{laid}
use Rattle.filling.specs.State.{by_slot, copy_at, stands_at, standing_to, without_to, standing_of, without_of}
use Rattle.filling.specs.Accounts.{positions_of_kind, framed_positions, flat_positions, placed_of_kind, unplaced_of_kind, looks_by_slot, look_counts_of, plan_of}
use Rattle.filling.proofs.Reading.{up_from-same}
use Rattle.accounts.specs.tables.inner.Tabled.{Tabled}
use Rattle.accounts.specs.inner.Counting.{sum_to, kind_to, stands_in, misses_in, by_kind, look_in}
use Rattle.accounts.specs.inner.Laying.{state_of}
use Rattle.accounts.specs.inner.Told.{PlanTold, Totalled}
use Rattle.accounts.proofs.ByKind.{kind-count, missing_count, standing-count, without-count}
use Rattle.accounts.proofs.Looks.{looks-same}

-- ---- two states with the same order and places

abbrev stood : ℕ → ℕ → ℕ → Float → Float → Float → List Standing
stood i o k x y v = record { copy = record { place = i; kind = k }; orientation = o; x = x; y = y; gap = v } ∷ []

module _ (s t : State) (a : s.order ≡ t.order) (b : s.layout.x ≡ t.layout.x) (d : s.layout.y ≡ t.layout.y)
    (g : s.layout.gap ≡ t.layout.gap) where
  stands_as : (i o : ℕ) → stands_at s i o ≡ stands_at t i o
  unfolding stands_at copy_at
  stands_as i zero = refl
  stands_as i (suc o) =
      let x = get_or s.layout.x i nan in
      let y = get_or s.layout.y i nan in
      let v = get_or s.layout.gap i nan in
      ap (λ (k : ℕ). stood i o k x y v) (ap (λ (l : List ℕ). get_or l i 0) a)
      ∙ (ap (λ (q : Float). stood i o (get_or t.order i 0) q y v) (ap (λ (l : List Float). get_or l i nan) b)
      ∙ (ap (λ (q : Float). stood i o (get_or t.order i 0) (get_or t.layout.x i nan) q v) (ap (λ (l : List Float). get_or l i nan) d)
      ∙ ap (λ (q : Float). stood i o (get_or t.order i 0) (get_or t.layout.x i nan) (get_or t.layout.y i nan) q)
      (ap (λ (l : List Float). get_or l i nan) g)))

  standing_as : s.layout.orientation ≡ t.layout.orientation → (n : ℕ) → standing_to s n ≡ standing_to t n
  unfolding standing_to
  standing_as e zero = refl
  standing_as e (suc n) =
      ap₂ ◌++◌ (standing_as e n) (stands_as n (get_or s.layout.orientation n 0) ∙ ap (λ (l : List ℕ). stands_at t n (get_or l n 0)) e)

module _ (j : Job) (rows : List ℕ) (areas : List Float) (s : State) (order orientation : List ℕ) (x y gap : List Float) (looks : List ℕ) (kinds taken : ℕ)
    (h : Tabled j rows areas) (k : length j.kinds ≡ kinds) (t : PlanTold s order orientation x y gap looks taken) where
  pub positions_are : (room before : List Float) → room ≡ laid (flat_positions (flat_map
      (λ k. positions_of_kind k 0 (standing_to (state_of order orientation x y gap) taken)) (up_from kinds 0))) before
      → room ≡ laid (flat_positions (framed_positions j (standing_of s))) before
  unfolding framed_positions standing_of
  positions_are room before e =
      e ∙ ap (λ (l : List Standing). laid (flat_positions (flat_map (λ k. positions_of_kind k 0 l) (up_from kinds 0))) before)
      (sym (standing_as s (state_of order orientation x y gap) t.order_is t.x_is t.y_is t.gap_is t.orientation_is taken)
      ∙ ap (standing_to s) (sym t.taken_is))
      ∙ ap (λ (m : ℕ). laid (flat_positions (flat_map (λ k. positions_of_kind k 0 (standing_to s s.taken)) (up_from m 0))) before) (sym k)

  pub placed_is : sum_to (stands_in orientation) taken ≡ length (standing_of s)
  unfolding standing_of
  placed_is = sym (standing-count s s.taken ∙ (ap (λ (l : List ℕ). sum_to (stands_in l) s.taken) t.orientation_is ∙ ap (sum_to (stands_in orientation)) t.taken_is))

  pub unplaced_is : taken - sum_to (stands_in orientation) taken ≡ length (without_of s)
  unfolding without_of
  unplaced_is =
      ap (λ (l : List ℕ). taken - sum_to (stands_in l) taken) (sym t.orientation_is)
      ∙ (ap (λ (n : ℕ). n - sum_to (stands_in s.layout.orientation) n) (sym t.taken_is) ∙ without-count s s.taken)

  kind_as : (f : List ℕ → ℕ → ℕ) (q : ℕ) → kind_to (f orientation) order q taken ≡ kind_to (f s.layout.orientation) s.order q s.taken
  kind_as f q =
      ap (λ (l : List ℕ). kind_to (f l) order q taken) (sym t.orientation_is)
      ∙ (ap (λ (l : List ℕ). kind_to (f s.layout.orientation) l q taken) (sym t.order_is) ∙ ap (kind_to (f s.layout.orientation) s.order q) (sym t.taken_is))

  pub placed_of_is : by_kind (λ q. kind_to (stands_in orientation) order q taken) ≡ placed_of_kind (standing_of s)
  unfolding placed_of_kind standing_of
  placed_of_is = up_from-same (λ q. kind_to (stands_in orientation) order q taken) (λ q. length (positions_of_kind q 0 (standing_to s s.taken))) 64 0 (λ q a b. kind_as stands_in q ∙ sym (kind-count s q s.taken))

  pub unplaced_of_is : by_kind (λ q. kind_to (misses_in orientation) order q taken) ≡ unplaced_of_kind (without_of s)
  unfolding unplaced_of_kind without_of
  unplaced_of_is = up_from-same (λ q. kind_to (misses_in orientation) order q taken) (λ q. count_in_map q) 64 0 (λ q a b. kind_as misses_in q ∙ sym (missing_count s q s.taken))
    where
      count_in_map : ℕ → ℕ
      count_in_map q = Rattle.filling.specs.Order.count_in q (map (λ c. c.kind) (without_to s s.taken))

  pub looks_are : by_slot (look_in rows kinds looks) ≡ looks_by_slot (look_counts_of j s)
  looks_are = ap (λ (m : ℕ). by_slot (look_in rows m looks)) (sym k) ∙ (ap (λ (l : List ℕ). by_slot (look_in rows (length j.kinds) l)) (sym t.looks_are) ∙ looks-same j s rows areas h)

  pub plan_is : (right area offcut : Float) (improvements placed : ℕ) (placed-of unplaced_of counts : List ℕ) → Totalled j s right area offcut
      → placed ≡ sum_to (stands_in orientation) taken → placed-of ≡ by_kind (λ q. kind_to (stands_in orientation) order q taken) → unplaced_of ≡ by_kind (λ q. kind_to (misses_in orientation) order q taken) → counts ≡ by_slot (look_in rows kinds looks)
      → ◌≡◌ {A = Plan} (record { placed = placed; unplaced = taken - placed; improvements = improvements; placed_of = placed-of; unplaced_of = unplaced_of; look_counts = counts; right = right; unplaced_area = area; offcut = offcut })
      (plan_of j s improvements)
  unfolding plan_of
  plan_is right area offcut improvements placed placed-of unplaced_of counts u a b d e =
      let v : taken - placed ≡ length (without_of s) = ap (λ (n : ℕ). taken - n) a ∙ unplaced_is in
      rw (u.offcut_is, v, a ∙ placed_is, b ∙ placed_of_is, d ∙ unplaced_of_is, e ∙ looks_are, u.right_is, u.area_is)
