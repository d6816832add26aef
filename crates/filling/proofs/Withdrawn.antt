-- What a withdrawal does to a state and its rooms. Assumes nothing.
use Rattle.std.specs.Prelude.{Ok, Err}
use mathlib.Core.Path.{◌≡◌, refl, sym, ap, ap₂, subst, ◌∙◌}
use mathlib.Core.Logic.{◌⊎◌, inl, inr}
use mathlib.Core.Bool.{true, false}
use mathlib.Core.List.{List, [], ◌∷◌, ◌++◌, map, append-nil, append_assoc, map-append}
use Prim.Native.Nat.{ℕ, zero, suc, ◌+◌, ◌-◌, ◌*◌, ◌≤◌, ◌<◌}
use native.Mathlib.Omega.{arith}
use lib.ListN.{length, get_or, take, drop, length-replicate, length-take, length-drop}
use lib.Seq.{length-take-le}
use lib.Dec.{leb, ltb}
use lib.Ieee.{Float, nan}
use borrow.Author.Tests.{lt-ltb, leb-true, ltb-true}
use Rattle.numbers.specs.Numbers.{pos_zero}
use Rattle.numbers.proofs.Truth.{either, both_first, both_second}
use Rattle.trapezoid.specs.Strip.{capacity}
use Rattle.job.specs.Jobs.{Job, accepted, read_job}
use Rattle.filling.specs.declared.State.{State}
use Rattle.filling.specs.declared.Refusal.{Refusal}
use Rattle.filling.specs.declared.Refusal.TheVariants as Why
use Rattle.filling.specs.Shapes.{planner_of, Copy, Standing, copies_from, named, others, standing_strips}
use Rattle.filling.specs.Plain.{copy_after, standing_after}
use Rattle.filling.specs.Rooms.{Rooms, zeros}
use Rattle.filling.specs.Order.{rearranged}
use Rattle.filling.specs.State.{planner_at, order_of, copy_at, stands_at, misses_at, standing_to, without_to, standing_of, without_of}
use Rattle.filling.specs.Consistent.{taken_fits, strip_counts_fit, parts_fit, placed_strips_of, consistent}
use Rattle.filling.specs.Withdraw.{strips_without, layout_without, state_without, rooms_without, Reply, no_withdrawal, standing_here}
use Rattle.filling.specs.Withdraw.{withdrawn, withdraw_job, withdraw_given, withdraw_of}
use Rattle.filling.proofs.Reading.{take-laid, to_come}
use Rattle.filling.proofs.Sizes.{Sized}
use Rattle.filling.proofs.Steps.{standing_sixfold, Linked}
use Rattle.filling.proofs.Begin.{rearranged-length}
use Rattle.filling.proofs.ClosedUp.{length_closed, closed_before, closed_after, drop_closed, place-behind, copies-after, copies_snoc, copies_length}
use Rattle.filling.proofs.AtPlace.{later, later_without, without_cut, named_is, others_are, after-before, misses-before, each-counted, strips-after}
use Rattle.filling.proofs.AtPlace.{strips-left}

-- ---- the state after it

module _ (j : Job) (z : Sized j) (s : State) (w : Rooms) (linked : Linked j s w) (n : ℕ) (c : Standing) (strips : List Float)
    (lt : n < s.taken) (few : s.taken ≤ j.copies) (ordered : j.copies ≤ length s.order) where
  abbrev New : State
  New = state_without j (planner_of j) s n c strips

  in_layout : {A : Type 0} (l : List A) → length l ≡ 4096 → s.taken ≤ length l
  in_layout l e = let a = z.few in omega arith

  number-before : (i : ℕ) → i < n → get_or New.layout.orientation i 0 ≡ get_or s.layout.orientation i 0
  unfolding state_without layout_without
  number-before i h = closed_before n s.taken 0 s.layout.orientation lt (in_layout s.layout.orientation linked.numbers) i 0 h

  number-after : (i : ℕ) → n ≤ i → suc i < s.taken → get_or New.layout.orientation i 0 ≡ get_or s.layout.orientation (suc i) 0
  unfolding state_without layout_without
  number-after i a b = closed_after n s.taken 0 s.layout.orientation lt (in_layout s.layout.orientation linked.numbers) i 0 a b

  copy-before : (i : ℕ) → i < n → copy_at New i ≡ copy_at s i
  unfolding copy_at state_without
  copy-before i h = ap (λ (k : ℕ). record { place = i; kind = k }) (closed_before n j.copies c.copy.kind s.order (omega arith) ordered i 0 h)

  copy-after : (i : ℕ) → n ≤ i → suc i < s.taken → copy_at New i ≡ copy_after n (copy_at s (suc i))
  unfolding copy_at state_without copy_after
  copy-after i a b =
      ap₂ (λ (m k : ℕ). record { place = m; kind = k }) (sym (place-behind n i a))
      (closed_after n j.copies c.copy.kind s.order (omega arith) ordered i 0 a (omega arith))

  stands-before : (i o : ℕ) → i < n → stands_at New i o ≡ stands_at s i o
  unfolding stands_at state_without layout_without
  stands-before i zero h = refl
  stands-before i (suc o) h =
      rw (
        copy-before i h,
        closed_before n s.taken pos_zero s.layout.x lt (in_layout s.layout.x linked.xs) i nan h,
        closed_before n s.taken pos_zero s.layout.y lt (in_layout s.layout.y linked.ys) i nan h,
        closed_before n s.taken pos_zero s.layout.gap lt (in_layout s.layout.gap linked.gaps) i nan h,
      )

  stands_after : (i o : ℕ) → n ≤ i → suc i < s.taken → stands_at New i o ≡ map (standing_after n) (stands_at s (suc i) o)
  unfolding stands_at state_without layout_without standing_after
  stands_after i zero a b = refl
  stands_after i (suc o) a b =
      rw (
        copy-after i a b,
        closed_after n s.taken pos_zero s.layout.x lt (in_layout s.layout.x linked.xs) i nan a b,
        closed_after n s.taken pos_zero s.layout.y lt (in_layout s.layout.y linked.ys) i nan a b,
        closed_after n s.taken pos_zero s.layout.gap lt (in_layout s.layout.gap linked.gaps) i nan a b,
      )

  misses-same : (i o : ℕ) → i < n → misses_at New i o ≡ misses_at s i o
  unfolding misses_at
  misses-same i zero h = ap (λ (k : Copy). k ∷ []) (copy-before i h)
  misses-same i (suc o) h = refl

  misses-after : (i o : ℕ) → n ≤ i → suc i < s.taken → misses_at New i o ≡ map (copy_after n) (misses_at s (suc i) o)
  unfolding misses_at
  misses-after i zero a b = ap (λ (k : Copy). k ∷ []) (copy-after i a b)
  misses-after i (suc o) a b = refl

  standing-before : (m : ℕ) → m ≤ n → standing_to New m ≡ standing_to s m
  unfolding standing_to
  standing-before zero h = refl
  standing-before (suc m) h = ap₂ ◌++◌ (standing-before m (omega arith)) (ap (stands_at New m) (number-before m (omega arith)) ∙ stands-before m
      (get_or s.layout.orientation m 0) (omega arith))

  without-before : (m : ℕ) → m ≤ n → without_to New m ≡ without_to s m
  unfolding without_to
  without-before zero h = refl
  without-before (suc m) h = ap₂ ◌++◌ (without-before m (omega arith)) (ap (misses_at New m) (number-before m (omega arith)) ∙ misses-same m
      (get_or s.layout.orientation m 0) (omega arith))

  standing-behind : (d : ℕ) → suc n + d ≤ s.taken → standing_to New (n + d) ≡ standing_to s n ++ map (standing_after n) (later s n d)
  unfolding standing_to later
  standing-behind zero h =
      let e : n + 0 ≡ n = omega arith in
      ap (standing_to New) e ∙ standing-before n (omega arith) ∙ sym (append-nil (standing_to s n))
  standing-behind (suc d) h =
      let e : n + suc d ≡ suc (n + d) = omega arith in
      let z : suc (n + d) ≡ suc n + d = omega arith in
      let o = get_or s.layout.orientation (suc n + d) 0 in
      let one : stands_at New (n + d) (get_or New.layout.orientation (n + d) 0) ≡ map (standing_after n) (stands_at s (suc n + d) o) =
      ap (stands_at New (n + d)) (number-after (n + d) (omega arith) (omega arith) ∙ ap (λ (i : ℕ). get_or s.layout.orientation i 0) z) ∙ stands_after (n + d)
      o (omega arith) (omega arith) ∙ ap (λ (i : ℕ). map (standing_after n) (stands_at s i o)) z
      in
      ap (standing_to New) e ∙ ap₂ ◌++◌ (standing-behind d (omega arith)) one
      ∙ append_assoc (standing_to s n) (map (standing_after n) (later s n d)) (map (standing_after n) (stands_at s (suc n + d) o))
      ∙ ap (λ (l : List Standing). standing_to s n ++ l) (sym (map-append (standing_after n) (later s n d) (stands_at s (suc n + d) o)))

  without-behind : (d : ℕ) → suc n + d ≤ s.taken → without_to New (n + d) ≡ without_to s n ++ map (copy_after n) (later_without s n d)
  unfolding without_to later_without
  without-behind zero h =
      let e : n + 0 ≡ n = omega arith in
      ap (without_to New) e ∙ without-before n (omega arith) ∙ sym (append-nil (without_to s n))
  without-behind (suc d) h =
      let e : n + suc d ≡ suc (n + d) = omega arith in
      let z : suc (n + d) ≡ suc n + d = omega arith in
      let o = get_or s.layout.orientation (suc n + d) 0 in
      let one : misses_at New (n + d) (get_or New.layout.orientation (n + d) 0) ≡ map (copy_after n) (misses_at s (suc n + d) o) =
      ap (misses_at New (n + d)) (number-after (n + d) (omega arith) (omega arith) ∙ ap (λ (i : ℕ). get_or s.layout.orientation i 0) z) ∙ misses-after (n + d)
      o (omega arith) (omega arith) ∙ ap (λ (i : ℕ). map (copy_after n) (misses_at s i o)) z
      in
      ap (without_to New) e ∙ ap₂ ◌++◌ (without-behind d (omega arith)) one
      ∙ append_assoc (without_to s n) (map (copy_after n) (later_without s n d)) (map (copy_after n) (misses_at s (suc n + d) o))
      ∙ ap (λ (l : List Copy). without_to s n ++ l) (sym (map-append (copy_after n) (later_without s n d) (misses_at s (suc n + d) o)))

  abbrev D : ℕ
  D = s.taken - suc n

  taken_now : New.taken ≡ n + D
  unfolding state_without
  taken_now = omega arith

  taken_was : s.taken ≡ suc n + D
  taken_was = omega arith

  -- the others stand, those behind moved up
  standing-left : standing_of New ≡ map (standing_after n) (others n (standing_of s))
  unfolding standing_of
  standing-left =
      ap (standing_to New) taken_now
      ∙ standing-behind D (omega arith)
      ∙ ap (λ (l : List Standing). l ++ map (standing_after n) (later s n D)) (sym (after-before s n n (omega arith)))
      ∙ sym (map-append (standing_after n) (standing_to s n) (later s n D))
      ∙ ap (map (standing_after n)) (sym (others_are s n D))
      ∙ ap (λ (m : ℕ). map (standing_after n) (others n (standing_to s m))) (sym taken_was)

  -- those without a place stay so
  without-left : misses_at s n (get_or s.layout.orientation n 0) ≡ [] → without_of New ≡ map (copy_after n) (without_of s)
  unfolding without_of
  without-left u =
      ap (without_to New) taken_now
      ∙ without-behind D (omega arith)
      ∙ ap (λ (l : List Copy). l ++ map (copy_after n) (later_without s n D)) (sym (misses-before s n n (omega arith)))
      ∙ sym (map-append (copy_after n) (without_to s n) (later_without s n D))
      ∙ ap (λ (l : List Copy). map (copy_after n) (without_to s n ++ (l ++ later_without s n D))) (sym u)
      ∙ ap (map (copy_after n)) (sym (without_cut s n D))
      ∙ ap (λ (m : ℕ). map (copy_after n) (without_to s m)) (sym taken_was)

  -- the copy joins the end of those to come
  to_come_left : to_come j New ≡ map (copy_after n) (to_come j s) ++ (record { place = j.copies - 1; kind = c.copy.kind } ∷ [])
  unfolding to_come order_of state_without
  to_come_left =
      let k = c.copy.kind in
      let l = drop s.taken (take j.copies s.order) in
      let m : length l ≡ j.copies - s.taken = (let a = length-drop s.taken (take j.copies s.order) in let b = length-take-le j.copies s.order
      ordered in omega arith) in
      let e : s.taken ≡ suc (s.taken - 1) = omega arith in
      let f : s.taken - 1 + length l ≡ j.copies - 1 = omega arith in
      ap (copies_from (s.taken - 1)) (drop_closed n j.copies k s.order (omega arith) ordered s.taken lt few)
      ∙ copies_snoc (s.taken - 1) l k
      ∙ ap₂ (λ (a : List Copy) (i : ℕ). a ++ (record { place = i; kind = k } ∷ []))
      (sym (copies-after n (s.taken - 1) (omega arith) l) ∙ ap (λ (t : ℕ). map (copy_after n) (copies_from t l)) (sym e)) f

  numbers_now : length New.layout.orientation ≡ 4096
  unfolding state_without layout_without
  numbers_now = length_closed n s.taken 0 s.layout.orientation lt (in_layout s.layout.orientation linked.numbers) ∙ linked.numbers

  xs_now : length New.layout.x ≡ 4096
  unfolding state_without layout_without
  xs_now = length_closed n s.taken pos_zero s.layout.x lt (in_layout s.layout.x linked.xs) ∙ linked.xs

  ys_now : length New.layout.y ≡ 4096
  unfolding state_without layout_without
  ys_now = length_closed n s.taken pos_zero s.layout.y lt (in_layout s.layout.y linked.ys) ∙ linked.ys

  gaps_now : length New.layout.gap ≡ 4096
  unfolding state_without layout_without
  gaps_now = length_closed n s.taken pos_zero s.layout.gap lt (in_layout s.layout.gap linked.gaps) ∙ linked.gaps

-- ---- what 31 says of the order

module _ (j : Job) (s : State) (w : Rooms) (h : consistent j s w ≡ true) where
  pub taken-few : s.taken ≤ j.copies
  unfolding consistent taken_fits
  taken-few = leb-true s.taken j.copies (both_first (leb s.taken j.copies) _ h)

  pub order-whole : rearranged j (order_of j s) ≡ true
  unfolding consistent
  order-whole =
      both_first (rearranged j (order_of j s)) _
      (both_second (parts_fit j s.tables w) _ (both_second (strip_counts_fit s.tables s.placed_strips w) _ (both_second (taken_fits j s) _ h)))

  pub order-long : j.copies ≤ length s.order
  unfolding order_of
  order-long = let e = rearranged-length j (order_of j s) order-whole in let l = length-take j.copies s.order in omega arith

-- ---- the call

-- the strips of the standing copies but that at place n
abbrev pub Left : Job → State → ℕ → List Float
Left j s n = standing_strips (planner_of j) (others n (standing_of s))

-- which copy went, and what the new state and rooms are
pub record Went (j : Job) (s : State) (w : Rooms) (n : ℕ) (r : Reply) : Type 0 where
  pub fits : consistent j s w ≡ true
  pub under : n < s.taken
  pub orientation : ℕ
  pub number_is : get_or s.layout.orientation n 0 ≡ suc orientation
  pub copy : Standing
  pub copy_is : stands_at s n (get_or s.layout.orientation n 0) ≡ copy ∷ []
  pub kind_is : get_or s.order n 0 ≡ copy.copy.kind
  pub accepted : r.verdict ≡ Ok tt
  pub state_is : r.state ≡ state_without j (planner_of j) s n copy (Left j s n)
  pub rooms_is : r.rooms ≡ rooms_without (planner_of j) w (Left j s n)

pub data Answered (j : Job) (s : State) (w : Rooms) (n : ℕ) (r : Reply) : Type 0 where
  stays : (k : Refusal) → r.verdict ≡ Err k → r.state ≡ s → r.rooms ≡ w → Answered j s w n r
  went : Went j s w n r → Answered j s w n r

-- 31 is the first test
pub withdraw-consistent : (j : Job) (s : State) (w : Rooms) (n : ℕ) → consistent j s w ≡ true
    → withdraw_job j s w n ≡ withdrawn j (planner_at j s.tables w) s w n (standing_here s n)
unfolding withdraw_job
withdraw-consistent j s w n e = rw (e, withdraw_job)

pub withdraw_inconsistent : (j : Job) (s : State) (w : Rooms) (n : ℕ) → consistent j s w ≡ false → withdraw_job j s w n ≡ no_withdrawal Why.Inconsistent s w
unfolding withdraw_job
withdraw_inconsistent j s w n e = rw (e, withdraw_job)

module _ (j : Job) (s : State) (w : Rooms) (h : Linked j s w) (n : ℕ) where
  refused-stays : (k : Refusal) → Answered j s w n (no_withdrawal k s w)
  unfolding no_withdrawal
  refused-stays k = stays k refl refl refl

  here_is : n < s.taken → standing_here s n ≡ stands_at s n (get_or s.layout.orientation n 0)
  unfolding standing_here
  here_is l = rw (lt-ltb n s.taken l, standing_here)

  pub left_is : n < s.taken → (c : Standing) → stands_at s n (get_or s.layout.orientation n 0) ≡ c ∷ [] → strips_without (planner_of j) s n c (placed_strips_of s w)
      ≡ Left j s n
  unfolding standing_of
  left_is l c e =
      let d = s.taken - suc n in
      let m : s.taken ≡ suc n + d = omega arith in
      ap (strips_without (planner_of j) s n c) (h.stand ∙ ap (λ (i : ℕ). standing_strips (planner_of j) (standing_to s i)) m)
      ∙ strips-left (planner_of j) s n c e d
      ∙ ap (λ (i : ℕ). standing_strips (planner_of j) (others n (standing_to s i))) (sym m)

  withdrawn-one : consistent j s w ≡ true → n < s.taken → (i : ℕ) → get_or s.layout.orientation n 0 ≡ i → Answered j s w n
      (withdrawn j (planner_of j) s w n (stands_at s n i))
  unfolding stands_at withdrawn
  withdrawn-one f l zero e = refused-stays Why.NotStanding
  withdrawn-one f l (suc o) e =
      let c : Standing = record {
        copy = copy_at s n;
        orientation = o;
        x = get_or s.layout.x n nan;
        y = get_or s.layout.y n nan;
        gap = get_or s.layout.gap n nan;
      } in
      let d : stands_at s n (get_or s.layout.orientation n 0) ≡ c ∷ [] = ap (stands_at s n) e in
      let m = left_is l c d in
      went (record {
        fits = f;
        under = l;
        orientation = o;
        number_is = e;
        copy = c;
        copy_is = d;
        kind_is = unfold copy_at in refl;
        accepted = refl;
        state_is = ap (state_without j (planner_of j) s n c) m;
        rooms_is = ap (rooms_without (planner_of j) w) m;
      })

  job-answered : Answered j s w n (withdraw_job j s w n)
  job-answered = go (either (consistent j s w))
    where
      at : consistent j s w ≡ true → (ltb n s.taken ≡ true) ⊎ (ltb n s.taken ≡ false) → Answered j s w n
          (withdrawn j (planner_of j) s w n (standing_here s n))
      at f (inl e) = let l : n < s.taken = ltb-true n s.taken e in subst (λ (cs : List Standing). Answered j s w n (withdrawn j (planner_of j) s w n cs))
          (sym (here_is l)) (withdrawn-one f l (get_or s.layout.orientation n 0) refl)
      at f (inr e) = unfold standing_here in rw (e, standing_here) (unfold withdrawn in refused-stays Why.NotStanding)

      go : (consistent j s w ≡ true) ⊎ (consistent j s w ≡ false) → Answered j s w n (withdraw_job j s w n)
      go (inl f) = rw (withdraw-consistent j s w n f, h.plan) (at f (either (ltb n s.taken)))
      go (inr f) = rw (withdraw_inconsistent j s w n f) (refused-stays Why.Inconsistent)

pub answered : (bytes : List ℕ) (j : Job) → read_job bytes ≡ accepted j → (s : State) (w : Rooms) → Linked j s w → (n : ℕ) → Answered j s w n
    (withdraw_of bytes s w n)
unfolding withdraw_of withdraw_given
answered bytes j e s w h n = rw e (job-answered j s w h n)

-- ---- a copy went: state and rooms are still those of the job's own planner

module _ (j : Job) (z : Sized j) (s : State) (w : Rooms) (h : Linked j s w) (n : ℕ) (r : Reply) (t : Went j s w n r) where
  abbrev pub Gone : State
  Gone = state_without j (planner_of j) s n t.copy (Left j s n)

  abbrev pub Cleared : Rooms
  Cleared = rooms_without (planner_of j) w (Left j s n)

  pub gone_standing : standing_of Gone ≡ map (standing_after n) (others n (standing_of s))
  gone_standing = standing-left j z s w h n t.copy (Left j s n) t.under (taken-few j s w t.fits) (order-long j s w t.fits)

  no_miss : misses_at s n (get_or s.layout.orientation n 0) ≡ []
  unfolding misses_at
  no_miss = ap (misses_at s n) t.number_is

  pub gone_without : without_of Gone ≡ map (copy_after n) (without_of s)
  gone_without = without-left j z s w h n t.copy (Left j s n) t.under (taken-few j s w t.fits) (order-long j s w t.fits) no_miss

  pub gone_to_come : to_come j Gone ≡ map (copy_after n) (to_come j s) ++ (record { place = j.copies - 1; kind = t.copy.copy.kind } ∷ [])
  gone_to_come = to_come_left j z s w h n t.copy (Left j s n) t.under (taken-few j s w t.fits) (order-long j s w t.fits)

  -- the copy at place n is the one named
  pub gone_named : named n (standing_of s) ≡ t.copy ∷ []
  unfolding standing_of
  gone_named =
      let d = s.taken - suc n in
      let u = t.under in
      let m : s.taken ≡ suc n + d = omega arith in
      ap (λ (i : ℕ). named n (standing_to s i)) m ∙ named_is s n d ∙ t.copy_is

  -- all copies
  pub all_copies : length (to_come j s) + length (standing_of s) + length (without_of s) ≡ j.copies
  unfolding to_come order_of standing_of without_of
  all_copies =
      let a = each-counted s s.taken in
      let b = copies_length s.taken (drop s.taken (take j.copies s.order)) in
      let c = length-drop s.taken (take j.copies s.order) in
      let d = length-take-le j.copies s.order (order-long j s w t.fits) in
      let e = taken-few j s w t.fits in
      omega arith

  planner_cleared : planner_at j Gone.tables Cleared ≡ planner_at j s.tables w
  unfolding planner_at state_without rooms_without
  planner_cleared = refl

  placed-cleared : placed_strips_of Gone Cleared ≡ Left j s n
  unfolding placed_strips_of state_without rooms_without
  placed-cleared = take-laid (Left j s n) (zeros pos_zero w.placed) (6 * capacity (Left j s n)) (standing_sixfold (planner_of j) (others n (standing_of s)))

  pub gone_linked : Linked j Gone Cleared
  unfolding state_without
  gone_linked =
      let few = taken-few j s w t.fits in
      let long = order-long j s w t.fits in
      record {
        plan = planner_cleared ∙ h.plan;
        stand = placed-cleared ∙ sym (ap (standing_strips (planner_of j)) gone_standing ∙ strips-after (planner_of j) n (others n (standing_of s)));
        numbers = numbers_now j z s w h n t.copy (Left j s n) t.under few long;
        xs = xs_now j z s w h n t.copy (Left j s n) t.under few long;
        ys = ys_now j z s w h n t.copy (Left j s n) t.under few long;
        gaps = gaps_now j z s w h n t.copy (Left j s n) t.under few long;
        next-columns = length-replicate {A = ℕ} 1024 1;
        look_counts = length-replicate {A = ℕ} 1024 0;
      }
