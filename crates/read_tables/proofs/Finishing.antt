-- Laws of what is answered: tables with zeros behind them, or zeros. Assumes nothing.
use Rattle.std.specs.Prelude.{Ok, Err}
use mathlib.Core.Path.{◌≡◌, refl, sym, ap, subst, ◌∙◌}
use Prim.Native.Nat.{ℕ, ◌+◌, ◌*◌, ◌≤◌, ◌<◌}
use native.Mathlib.Omega.{arith}
use mathlib.Core.Bool.{Bool, true, false, ◌&&◌, cond, true≢false}
use mathlib.Core.List.{List}
use lib.ListN.{length, get_or}
use lib.Dec.{leb}
use lib.Ieee.{Float}
use borrow.Author.Tests.{leb-true}
use Rattle.numbers.specs.Numbers.{pos_zero}
use Rattle.bits.specs.declared.Refusal.{Refusal}
use Rattle.kinds.specs.Kinds.{kind_of, head_at}
use Rattle.kinds.specs.inner.Tables.{tabulate, orientation_at, orientations_of, kind_with, kind_at}
use Rattle.kinds.specs.sets.inner.Answers.{set_at}
use Rattle.kinds.proofs.Tables.{tabulate_at, length-tabulate}
use Rattle.kinds.proofs.Accepted.{every_at, GoodKind}
use Rattle.job.specs.declared.Header.{Header}
use Rattle.job.specs.inner.Meaning.{job_read}
use Rattle.job.proofs.Accepted.{job_good}
use Rattle.job.specs.Jobs.{Job, Answer, accepted, refused, read_job}
use Rattle.read_tables.specs.declared.sets.Filled.{Filled}
use Rattle.job_bits.specs.declared.JobError.TheVariants.{Refused, ShortRoom}
use Rattle.read_tables.specs.Tabled.{Reply, Laid, zeros, fit, laid, tabled}
use Rattle.read_tables.specs.inner.Laying.{Stored, Tabling, cleared, left_of}
use Rattle.read_tables.proofs.Storing.{stored-room}

pub four : (a b c d : Bool) → (a && b && c && d) ≡ true → (a ≡ true) × (b ≡ true) × (c ≡ true) × (d ≡ true)
four true true true true e = (refl, refl, refl, refl)
four true true true false e = absurd (true≢false (sym e))
four true true false d e = absurd (true≢false (sym e))
four true false c d e = absurd (true≢false (sym e))
four false b c d e = absurd (true≢false (sym e))

same-laid : (r r' : Reply) (a a' : List ℕ) (b b' : List Float) (c c' : List ℕ) (d d' : List Float) → r ≡ r' → a ≡ a' → b ≡ b' → c ≡ c' → d ≡ d'
    → ◌≡◌ {A = Laid} (record { reply = r; rows = a; areas = b; counts = c; coordinates = d })
    (record { reply = r'; rows = a'; areas = b'; counts = c'; coordinates = d' })
same-laid r r' a a' b b' c c' d d' e f g h i = rw (e, f, g, h, i)

module _ (n : ℕ) (w : Filled) (rs : List ℕ) (ss : List Float) (cs : List ℕ) (xs : List Float) where
  abbrev fits : Bool
  fits = leb (4 * n) (length rs) && leb n (length ss) && leb w.counts (length cs) && leb w.coordinates (length xs)

  module _ (j : Job) (T : Tabling j n w rs ss cs xs) where
    behind : {A : Type 0} (a l b : List A) (m : ℕ) → Stored a 0 l b m → length l ≡ m
    behind a l b m S = let e = S.end in z (length l) m e
      where
        z : (x m : ℕ) → m ≡ 0 + x → x ≡ m
        z x m e = omega arith

    fit_is : fit j (length rs) (length ss) (length cs) (length xs) ≡ fits
    unfolding fit
    fit_is = rw (behind _ _ _ _ T.rows, behind _ _ _ _ T.areas, behind _ _ _ _ T.counts, behind _ _ _ _ T.coordinates)

    -- all tables fit
    pub finish_laid : (rs' : List ℕ) (ss' : List Float) (cs' : List ℕ) (xs' : List Float) (h : Header) → fits ≡ true → j.header ≡ h → rs' ≡ cleared 0 (4 * n) rs → ss' ≡ cleared pos_zero n ss → cs' ≡ cleared 0 w.counts cs →
        xs' ≡ cleared pos_zero w.coordinates xs
        → record { reply = Ok (h, w.counts, w.coordinates); rows = rs'; areas = ss'; counts = cs'; coordinates = xs' } ≡ tabled (accepted j) (length rs)
        (length ss) (length cs) (length xs)
    unfolding tabled laid
    finish_laid rs' ss' cs' xs' h e k a b c d =
        let t = four _ _ _ _ e in
        same-laid _ _ _ _ _ _ _ _ _ _ (rw (behind _ _ _ _ T.counts, behind _ _ _ _ T.coordinates, k))
        (a ∙ stored-room 0 _ _ _ _ T.rows (leb-true _ _ t.0))
        (b ∙ stored-room pos_zero _ _ _ _ T.areas (leb-true _ _ t.1))
        (c ∙ stored-room 0 _ _ _ _ T.counts (leb-true _ _ t.2))
        (d ∙ stored-room pos_zero _ _ _ _ T.coordinates (leb-true _ _ t.3))
        ∙ ap (λ (x : Bool). cond x (laid j (length rs) (length ss) (length cs) (length xs)) (zeros (Err ShortRoom) (length rs) (length ss) (length cs) (length xs)))
        (sym (fit_is ∙ e))

    -- one does not
    pub finish_short : fits ≡ false → left_of (Err ShortRoom) rs ss cs xs ≡ tabled (accepted j) (length rs) (length ss) (length cs) (length xs)
    unfolding tabled zeros
    finish_short e =
        ap (λ (x : Bool). cond x (laid j (length rs) (length ss) (length cs) (length xs)) (zeros (Err ShortRoom) (length rs) (length ss) (length cs) (length xs)))
        (sym (fit_is ∙ e))

-- a refused job
pub finish_refused : (k : Refusal) (a : Answer) (rs : List ℕ) (ss : List Float) (cs : List ℕ) (xs : List Float)
    → a ≡ refused k → left_of (Err (Refused k)) rs ss cs xs ≡ tabled a (length rs) (length ss) (length cs) (length xs)
unfolding tabled zeros
finish_refused k a rs ss cs xs e = ap (λ (x : Answer). tabled x (length rs) (length ss) (length cs) (length xs)) (sym e)

-- ---- an accepted job, as it was read
module _ (bytes : List ℕ) (h : Header) (s c : ℕ) (rows : List ℕ) (areas : List Float) (places : List ℕ) where
  abbrev pub job_in : Job
  job_in = record { header = h; sheet = set_at bytes s; kinds = tabulate (kind_at bytes rows areas places) h.kinds; copies = c }

  module _ (e : read_job bytes ≡ job_read (Ok (h, s, c)) bytes rows areas places) where
    pub few-kinds : h.kinds ≤ 64
    few-kinds = (job_good bytes job_in e).good.header.kinds_most

    pub few-turns : (k : ℕ) → k < h.kinds → get_or rows (4 * k + 3) 0 ≤ 16
    unfolding kind_at kind_with kind_of head_at orientations_of
    few-turns k l =
        let f = kind_at bytes rows areas places in
        let g : GoodKind (f k) = subst GoodKind (tabulate_at f h.kinds k (f k) l)
        (every_at GoodKind (tabulate f h.kinds) k (f k) (job_good bytes job_in e).good.kinds
        (subst (λ (x : ℕ). k < x) (sym (length-tabulate f h.kinds)) l)) in
        subst (λ (x : ℕ). x ≤ 16) (length-tabulate (λ (o : ℕ). orientation_at bytes places (16 * k + o)) (get_or rows (4 * k + 3) 0)) g.orientations_most

-- rooms of the same lengths
pub tabled-same : (a a' : Answer) (x x' y y' z z' u u' : ℕ) → a' ≡ a → x ≡ x' → y ≡ y' → z ≡ z' → u ≡ u' → tabled a x y z u ≡ tabled a' x' y' z' u'
tabled-same a a' x x' y y' z z' u u' e f g h i = rw (e, f, g, h, i)
