-- A start, from what its calls leave. Assumes nothing.
use Rattle.std.specs.Prelude.{Result, Ok, Err}
use mathlib.Core.Path.{◌≡◌, refl, sym, ap, subst, ◌∙◌}
use mathlib.Core.Bool.{Bool, true, false}
use mathlib.Core.List.{List}
use Prim.Native.Nat.{ℕ, ◌≤◌, ◌<◌}
use native.Mathlib.Omega.{arith}
use lib.ListN.{length}
use lib.Ieee.{Float}
use borrow.Author.Tests.{lt-ltb, le-ltb}
use Rattle.numbers.specs.Numbers.{pos_zero}
use Rattle.bits.specs.declared.Refusal as Input
use Rattle.job.specs.declared.Header.{Header}
use Rattle.job.specs.Jobs.{Job, Answer, accepted, refused, read_job}
use Rattle.job.specs.inner.Meaning.{job_read}
use Rattle.job.proofs.Accepted.{job_good, same-job}
use Rattle.filling.specs.declared.Refusal.{Refusal}
use Rattle.filling.specs.declared.Refusal.TheVariants as Why
use Rattle.filling.specs.declared.State.{State}
use Rattle.filling.specs.Refusals.{refuse_if}
use Rattle.filling.specs.Shapes.{Planner, planner_of}
use Rattle.filling.specs.Rooms.{Lent, position_capacity, laid, zeros, zero_rooms, only_positions, lent_of}
use Rattle.filling.specs.Order.{rearranged}
use Rattle.filling.specs.Start.{first_rooms, prepare_verdict, start_verdict, Start, no_start, good_start, start_job, start_given, start_of}
use Rattle.filling.proofs.Begin.{rearranged-length, start-refused, start-good}
use Rattle.accounts.specs.tables.inner.Tabled.{Tabled}
use Rattle.accounts.proofs.tables.Tabling.{job_in, kinds_in, tabled}
use Rattle.prepare.specs.inner.Ready.{FromTables}
use Rattle.prepare.proofs.Tabled.{from-tables}
use Rattle.start.specs.declared.replies.Started.{Started}
use Rattle.start.specs.replies.inner.Answers.{not_started}
use Rattle.start.specs.Answered.{answered}
use Rattle.start.specs.ordered.inner.Beginning.{Cleared, Begun}
use Rattle.start.proofs.ordered.Beginning.{not_begun, begun_refused}

-- ---- the verdict
module _ (j : Job) (order : List ℕ) (l : Lent) (positions : ℕ) (e : position_capacity l.positions ≡ positions) where
  position-room : positions < j.copies → start_verdict j order l ≡ Err Why.PositionRoom
  unfolding start_verdict refuse_if
  position-room h = rw (e, lt-ltb positions j.copies h)

  order_wrong : j.copies ≤ positions → rearranged j order ≡ false → start_verdict j order l ≡ Err Why.WrongOrder
  unfolding start_verdict refuse_if
  order_wrong h g = rw (e, le-ltb positions j.copies h, g)

  pub right-order : j.copies ≤ positions → rearranged j order ≡ true → start_verdict j order l ≡ prepare_verdict (planner_of j) l.rooms
  unfolding start_verdict refuse_if
  right-order h g = rw (e, le-ltb positions j.copies h, g)

-- ---- refused
pub job-refused : (bytes order : List ℕ) (l : Lent) (k : Input.Refusal) (r : Started) (shapes sheet : List Float) (entries firsts : List ℕ) → Cleared l shapes sheet entries firsts → read_job bytes ≡ refused k → r ≡ not_started (Why.Job k) → Begun r (start_of bytes order l) shapes sheet entries firsts
unfolding start_of start_given
job-refused bytes order l k r shapes sheet entries firsts C e d =
    subst (λ (x : Started). Begun x (start_of bytes order l) shapes sheet entries firsts) (sym d)
    (subst (λ (a : Answer). Begun (not_started (Why.Job k)) (start_given a order l) shapes sheet entries firsts) (sym e) (not_begun (Why.Job k) l shapes sheet entries firsts C))

pub job-accepted : (bytes order : List ℕ) (l : Lent) (j : Job) (r : Started) (shapes sheet : List Float) (entries firsts : List ℕ) → read_job bytes ≡ accepted j → Begun r (start_job j order l) shapes sheet entries firsts → Begun r (start_of bytes order l) shapes sheet entries firsts
unfolding start_of start_given
job-accepted bytes order l j r shapes sheet entries firsts e B = subst (λ (a : Answer). Begun r (start_given a order l) shapes sheet entries firsts) (sym e) B

module _ (j : Job) (order : List ℕ) (l : Lent) (r : Started) (shapes sheet : List Float) (entries firsts : List ℕ) where
  -- 30
  pub few-positions : (positions : ℕ) → position_capacity l.positions ≡ positions → positions < j.copies → r ≡ not_started Why.PositionRoom → Cleared l shapes sheet entries firsts → Begun r (start_job j order l) shapes sheet entries firsts
  few-positions positions e h d C = begun_refused j order l r shapes sheet entries firsts Why.PositionRoom (position-room j order l positions e h) d C

  -- 10
  pub wrong_order : (positions : ℕ) → position_capacity l.positions ≡ positions → j.copies ≤ positions → rearranged j order ≡ false → r ≡ not_started Why.WrongOrder → Cleared l shapes sheet entries firsts → Begun r (start_job j order l) shapes sheet entries firsts
  wrong_order positions e h g d C = begun_refused j order l r shapes sheet entries firsts Why.WrongOrder (order_wrong j order l positions e h g) d C

-- ---- through the tables
module _ (bytes rows places : List ℕ) (h : Header) (at c : ℕ) (t : (areas : List Float) × (64 ≤ length areas) × (read_job bytes ≡ job_read (Ok (h, at, c)) bytes rows areas places)) where
  abbrev J : Job
  J = job_in h at c bytes rows t.0 places

  pub job_is : (j : Job) → read_job bytes ≡ accepted j → J ≡ j
  job_is j e = same-job (sym t.2 ∙ e)

  pub few-kinds : h.kinds ≤ 64
  few-kinds = (job_good bytes J t.2).good.header.kinds_most

  pub few-copies : c ≤ 4096
  few-copies = (job_good bytes J t.2).copies

  module _ (order : List ℕ) (a : 256 ≤ length rows) (r : Bool) (R : (j : Job) (areas : List Float) → Tabled j rows areas → length j.kinds ≡ h.kinds → j.copies ≡ c → r ≡ rearranged j order) where
    pub order_is : r ≡ rearranged J order
    order_is = R J t.0 (tabled h at c bytes rows t.0 places t.2 a t.1) (kinds_in h at c bytes rows t.0 places) refl

    pub order-fits : r ≡ true → length order ≤ 4096
    order-fits e = let l = rearranged-length J order (sym order_is ∙ e) in let f = few-copies in omega arith

  pub tables_of_lem : (j : Job) → read_job bytes ≡ accepted j → FromTables bytes rows places at h.kinds j
  tables_of_lem j e = from-tables bytes rows places t.0 h at c j (sym t.2 ∙ e)

  pub header_is : (j : Job) → read_job bytes ≡ accepted j → j.header ≡ h
  header_is j e = ap (λ (x : Job). x.header) (sym (job_is j e))

-- ---- the whole
record Zeroed (s : Start) (l : Lent) : Type 0 where
  placed : zeros pos_zero l.rooms.placed ≡ s.lent.rooms.placed
  placed_entries : zeros 0 l.rooms.placed_entries ≡ s.lent.rooms.placed_entries
  placed_firsts : zeros 0 l.rooms.placed_firsts ≡ s.lent.rooms.placed_firsts
  intervals : zeros pos_zero l.intervals ≡ s.lent.intervals
  positions : zeros pos_zero l.positions ≡ s.lent.positions

refused_zeroed : (k : Refusal) (l : Lent) → Zeroed (no_start k l) l
unfolding no_start only_positions zero_rooms laid
refused_zeroed k l = record { placed = refl; placed_entries = refl; placed_firsts = refl; intervals = refl; positions = refl }

good_zeroed : (p : Planner) (order : List ℕ) (l : Lent) → Zeroed (good_start p order l) l
unfolding good_start first_rooms
good_zeroed p order l = record { placed = refl; placed_entries = refl; placed_firsts = refl; intervals = refl; positions = refl }

job_zeroed : (j : Job) (order : List ℕ) (l : Lent) → Zeroed (start_job j order l) l
job_zeroed j order l = go (start_verdict j order l) refl
  where
    go : (v : Result (Unit {0}) Refusal) → start_verdict j order l ≡ v → Zeroed (start_job j order l) l
    go (Err k) e = subst (λ (s : Start). Zeroed s l) (sym (start-refused j order l k e)) (refused_zeroed k l)
    go (Ok tt) e = subst (λ (s : Start). Zeroed s l) (sym (start-good j order l e)) (good_zeroed (planner_of j) order l)

given_zeroed : (a : Answer) (order : List ℕ) (l : Lent) → Zeroed (start_given a order l) l
unfolding start_given
given_zeroed (refused k) order l = refused_zeroed (Why.Job k) l
given_zeroed (accepted j) order l = job_zeroed j order l

start-same : (v v' : Result (Unit {0}) Refusal) (t t' : State) (a a' b b' c c' : List Float) (d d' e e' m m' n n' : List ℕ) (f f' g g' : List Float)
    → v ≡ v' → t ≡ t' → a ≡ a' → b ≡ b' → c ≡ c' → d ≡ d' → e ≡ e' → m ≡ m' → n ≡ n' → f ≡ f' → g ≡ g'
    → ◌≡◌ {A = Start} (record { verdict = v; state = t; lent = lent_of a b c d e m n f g }) (record { verdict = v'; state = t'; lent = lent_of a' b' c' d' e' m' n' f' g' })
start-same v v' t t' a a' b b' c c' d d' e e' m m' n n' f f' g g' h1 h2 h3 h4 h5 h6 h7 h8 h9 h10 h11 = rw (h1, h2, h3, h4, h5, h6, h7, h8, h9, h10, h11)

both-same : (r : Started) (s : Start) (l : Lent) (shapes sheet placed : List Float) (entries placed_entries firsts placed_firsts : List ℕ)
    (intervals positions : List Float) → Begun r s shapes sheet entries firsts → Zeroed s l
    → placed ≡ zeros pos_zero l.rooms.placed → placed_entries ≡ zeros 0 l.rooms.placed_entries → placed_firsts ≡ zeros 0 l.rooms.placed_firsts
    → intervals ≡ zeros pos_zero l.intervals → positions ≡ zeros pos_zero l.positions
    → answered r (lent_of shapes sheet placed entries placed_entries firsts placed_firsts intervals positions) ≡ s
both-same r s l shapes sheet placed entries placed_entries firsts placed_firsts intervals positions B Z a b f c d =
    start-same _ _ _ _ _ _ _ _ _ _ _ _ _ _ _ _ _ _ _ _ _ _ B.verdict_is B.state_is B.shapes_are B.sheet_is (a ∙ Z.placed) B.entries_are
    (b ∙ Z.placed_entries) B.firsts_are (f ∙ Z.placed_firsts) (c ∙ Z.intervals) (d ∙ Z.positions)

pub whole : (bytes order : List ℕ) (l : Lent) (r : Started) (shapes sheet placed : List Float) (entries placed_entries firsts placed_firsts : List ℕ)
    (intervals positions : List Float) → Begun r (start_of bytes order l) shapes sheet entries firsts
    → placed ≡ zeros pos_zero l.rooms.placed → placed_entries ≡ zeros 0 l.rooms.placed_entries → placed_firsts ≡ zeros 0 l.rooms.placed_firsts
    → intervals ≡ zeros pos_zero l.intervals → positions ≡ zeros pos_zero l.positions
    → answered r (lent_of shapes sheet placed entries placed_entries firsts placed_firsts intervals positions) ≡ start_of bytes order l
unfolding start_of
whole bytes order l r shapes sheet placed entries placed_entries firsts placed_firsts intervals positions B a b f c d =
    both-same r (start_given (read_job bytes) order l) l shapes sheet placed entries placed_entries firsts placed_firsts intervals positions B
    (given_zeroed (read_job bytes) order l) a b f c d
