-- The entries are compared strip by strip at each bucket's cursor. Assumes nothing.
use Rattle.std.specs.Prelude.{Option, Some, None}
use Prim.Native.Nat.{ℕ, zero, suc, ◌+◌, ◌-◌, ◌*◌, ◌<◌, ◌≤◌}
use native.Mathlib.Omega.{arith}
use native.Mathlib.Nat.{eq-or-lt_of_le}
use native.Mathlib.Numerals.{add-one}
use mathlib.Core.Path.{◌≡◌, refl, sym, ap, ◌∙◌, subst}
use mathlib.Core.Logic.{◌⊎◌, inl, inr}
use mathlib.Core.List.{List, ◌++◌, flat_map}
use lib.ListN.{length, get_or, length-append}
use lib.Seq.{slice, length-slice}
use lib.Ieee.{Float}
use Rattle.trapezoid.specs.Strip.{strip_at}
use Rattle.index.specs.declared.Index.{Index}
use Rattle.index.specs.Buckets.{buckets, up_from, bucket_in, entries_of}
use Rattle.index.specs.inner.Listing.{entered_from, Laid}
use Rattle.index.specs.entries.inner.Walk.{follows}
use Rattle.index.specs.entries.inner.Cursors.{raised, sum_of, Counts, Begun}
use Rattle.index.proofs.EntryLists.{entries_by_bucket}
use Rattle.index.proofs.entries.Following.{follows_on, follows-other, follows-none, then_at, then_wrong, passed}
use Rattle.index.proofs.entries.Raising.{sum-none, sum-next, sum-rise}
use Rattle.index.proofs.entries.Counting.{rest, rest_all, rest-none, rest_in, strip-top, Has, Lacks, turn, turn_left, first-kept, table_kept}

-- ---- where a walk ends
module _ (es : List ℕ) where
  end_at : (is : List ℕ) (e f : ℕ) → e ≤ length es → follows es e is ≡ Some f → f ≡ e + length is
  end_at is e f l h =
      let p = passed es is e f l h in
      let s = length-slice e f es p.end in
      let t = ap length p.part in
      omega (arith, p.on)

  -- a list that is longer than what is left
  pub follows-long : (is : List ℕ) (e : ℕ) → e ≤ length es → length es < e + length is → follows es e is ≡ None
  follows-long is e l m = go (follows es e is) refl
    where
      go : (w : Option ℕ) → follows es e is ≡ w → w ≡ None
      go (Some f) h = let p = passed es is e f l h in let q = end_at is e f l h in absurd (omega (arith, p.end))
      go None h = refl

  -- whatever the first list comes to, the second is not there
  wrong_after : (is js : List ℕ) (e : ℕ) → e ≤ length es → follows es (e + length is) js ≡ None → follows es e (is ++ js) ≡ None
  wrong_after is js e l m = go (follows es e is) refl
    where
      go : (w : Option ℕ) → follows es e is ≡ w → follows es e (is ++ js) ≡ None
      go (Some f) h = then_at es is js e f h ∙ subst (λ (k : ℕ). follows es k js ≡ None) (sym (end_at is e f l h)) m
      go None h = then_wrong es is js e h

-- ---- the sums of the counts are where the buckets begin
module _ (ix : Index) (standing : List Float) (n : ℕ) (counts : List ℕ) (K : Counts ix standing n counts) where
  -- the entries of a bucket
  abbrev list : ℕ → List ℕ
  list b = entered_from ix standing n b

  begin_next : (b : ℕ) → b < buckets → sum_of counts (b + 1) ≡ sum_of counts b + length (list b)
  begin_next b h = let s = sum-next counts b in let k = K.each b h in omega arith

  count-from : (k b : ℕ) → b + k ≤ buckets → sum_of counts b + length (flat_map list (up_from k b)) ≡ sum_of counts (b + k)
  unfolding flat_map up_from
  count-from zero b h = let e : b + 0 ≡ b = omega arith in rw e (let z : sum_of counts b + 0 ≡ sum_of counts b = omega arith in z)
  count-from (suc k) b h =
      let i = count-from k (suc b) (omega arith) in
      let s = begin_next b (omega arith) in
      let t : sum_of counts (b + 1) ≡ sum_of counts (suc b) = ap (sum_of counts) (add-one b) in
      let a = length-append (list b) (flat_map list (up_from k (suc b))) in
      let e : suc b + k ≡ b + suc k = omega arith in
      subst (λ (m : ℕ). sum_of counts b + length (list b ++ flat_map list (up_from k (suc b))) ≡ sum_of counts m) e (omega arith)

  module _ (es : List ℕ) where
    pub too_many : length es < sum_of counts buckets → follows es 0 (entries_of ix standing n) ≡ None
    too_many h =
        let c = count-from buckets 0 (omega arith) in
        let z = sum-none counts in
        let e = ap length (entries_by_bucket ix standing n) in
        follows-long es (entries_of ix standing n) 0 (omega arith) (omega arith)

    -- ---- the cursors after i strips
    pub record Comparing (i : ℕ) (s : List ℕ) : Type 0 where
      pub table : length s ≡ buckets + 1
      pub first : get_or s 0 0 ≡ 0
      pub on : (b : ℕ) → b < buckets → follows es (get_or s (b + 1) 0) (rest ix standing n i b) ≡ follows es (sum_of counts b) (list b)
      pub left : (b : ℕ) → b < buckets → get_or s (b + 1) 0 + length (rest ix standing n i b) ≡ sum_of counts (b + 1)

    pub comparing_start : (s : List ℕ) → length s ≡ buckets + 1 → Begun counts (length es) s → Comparing 0 s
    comparing_start s t B = record {
      table = t;
      first = B.first ∙ K.first;
      on = λ b h. ap (λ (k : ℕ). follows es k (rest ix standing n 0 b)) (B.begins b h) ∙ ap (follows es (sum_of counts b)) (rest_all ix standing n b);
      left = λ b h. (let a = B.begins b h in let e = ap length (rest_all ix standing n b) in let c = begin_next b h in omega arith);
    }

    module _ (room : sum_of counts buckets ≤ length es) where
      begin_within : (b : ℕ) → b ≤ buckets → sum_of counts b ≤ length es
      begin_within b h = let r = sum-rise counts b buckets h in omega arith

      -- ---- all buckets
      from_wrong : (k b d : ℕ) → b + k ≡ buckets → b ≤ d → d < buckets → follows es (sum_of counts d) (list d) ≡ None
          → follows es (sum_of counts b) (flat_map list (up_from k b)) ≡ None
      unfolding flat_map up_from
      from_wrong zero b d e h l w = absurd (omega arith)
      from_wrong (suc k) b d e h l w =
          elim (eq-or-lt_of_le h) [
            | inl q ↦
                then_wrong es (list b) (flat_map list (up_from k (suc b))) (sum_of counts b)
                (subst (λ (c : ℕ). follows es (sum_of counts c) (list c) ≡ None) (sym q) w)
            | inr m ↦
                wrong_after es (list b) (flat_map list (up_from k (suc b))) (sum_of counts b) (begin_within b (omega arith))
                (subst (λ (c : ℕ). follows es c (flat_map list (up_from k (suc b))) ≡ None) (ap (sum_of counts) (sym (add-one b)) ∙ begin_next b (omega arith))
                (from_wrong k (suc b) d (omega arith) m l w))
          ]

      from-right : (k b : ℕ) → b + k ≡ buckets → ((d : ℕ) → d < buckets → follows es (sum_of counts d) (list d) ≡ Some (sum_of counts (d + 1)))
          → follows es (sum_of counts b) (flat_map list (up_from k b)) ≡ Some (sum_of counts buckets)
      unfolding flat_map up_from
      from-right zero b e each = let q : b ≡ buckets = omega arith in follows-none es (sum_of counts b) ∙ ap (λ (c : ℕ). Some (sum_of counts c)) q
      from-right (suc k) b e each =
          then_at es (list b) (flat_map list (up_from k (suc b))) (sum_of counts b) (sum_of counts (suc b))
          (each b (omega arith) ∙ ap (λ (c : ℕ). Some (sum_of counts c)) (add-one b))
          ∙ from-right k (suc b) (omega arith) each

      whole : (w : Option ℕ) → follows es (sum_of counts 0) (flat_map list (up_from buckets 0)) ≡ w → follows es 0 (entries_of ix standing n) ≡ w
      whole w h =
          ap (follows es 0) (entries_by_bucket ix standing n)
          ∙ subst (λ (k : ℕ). follows es k (flat_map list (up_from buckets 0)) ≡ w) (sum-none counts) h

      -- ---- one strip
      module _ (i lo hi : ℕ) (l : i < n) (A : lo ≡ bucket_in ix (strip_at standing i).x0) (B : hi ≡ bucket_in ix (strip_at standing i).x1)
          (s : List ℕ) (C : Comparing i s) where
        pub cursor_within : (b : ℕ) → lo ≤ b → b ≤ hi → get_or s (b + 1) 0 < length es
        cursor_within b h k =
            let t = strip-top ix standing n i lo hi l A B in
            let a = C.left b (omega arith) in
            let e : length (rest ix standing n i b) ≡ suc (length (rest ix standing n (i + 1) b)) = ap length (rest_in ix standing n i lo hi l A B b h k) in
            let r = begin_within (b + 1) (omega arith) in
            omega arith

        pub comparing_on : ((b : ℕ) → lo ≤ b → b ≤ hi → get_or es (get_or s (b + 1) 0) 0 ≡ i) → Comparing (i + 1) (raised (hi + 1 - lo) lo s)
        comparing_on found = record {
          table = table_kept ix standing n i lo hi l A B s ∙ C.table;
          first = first-kept ix standing n i lo hi l A B s ∙ C.first;
          on = λ b h. on b h (turn ix standing n i lo hi l A B s C.table b h);
          left = λ b h. turn_left ix standing n i lo hi l A B s C.table b h ∙ C.left b h;
        }
          where
            on : (b : ℕ) → b < buckets → Has ix standing n i lo hi l A B s b ⊎ Lacks ix standing n i lo hi l A B s b
                → follows es (get_or (raised (hi + 1 - lo) lo s) (b + 1) 0) (rest ix standing n (i + 1) b) ≡ follows es (sum_of counts b) (list b)
            on b h (inl k) =
                ap (λ (e : ℕ). follows es e (rest ix standing n (i + 1) b)) k.up
                ∙ (sym (follows_on es (get_or s (b + 1) 0) i (rest ix standing n (i + 1) b) (cursor_within b k.low k.high) (found b k.low k.high))
                ∙ (ap (follows es (get_or s (b + 1) 0)) (sym k.strip) ∙ C.on b h))
            on b h (inr k) =
                ap (λ (e : ℕ). follows es e (rest ix standing n (i + 1) b)) k.stays
                ∙ (ap (follows es (get_or s (b + 1) 0)) (sym k.strip) ∙ C.on b h)

        -- one number that is not there
        pub other : (b : ℕ) → lo ≤ b → b ≤ hi → (get_or es (get_or s (b + 1) 0) 0 ≡ i → ⊥) → follows es 0 (entries_of ix standing n) ≡ None
        other b h k q =
            let t = strip-top ix standing n i lo hi l A B in
            whole None (from_wrong buckets 0 b refl (omega arith) (omega arith)
            (sym (C.on b (omega arith))
            ∙ (ap (follows es (get_or s (b + 1) 0)) (rest_in ix standing n i lo hi l A B b h k)
            ∙ follows-other es (get_or s (b + 1) 0) i (rest ix standing n (i + 1) b) (cursor_within b h k) q)))

      -- ---- every number is there
      module _ (s : List ℕ) (C : Comparing n s) where
        cursor_end : (b : ℕ) → b < buckets → get_or s (b + 1) 0 ≡ sum_of counts (b + 1)
        cursor_end b h = let a = C.left b h in let e : length (rest ix standing n n b) ≡ 0 = ap length (rest-none ix standing n b) in omega arith

        each : (b : ℕ) → b < buckets → follows es (sum_of counts b) (list b) ≡ Some (sum_of counts (b + 1))
        each b h =
            sym (C.on b h)
            ∙ (ap (follows es (get_or s (b + 1) 0)) (rest-none ix standing n b) ∙ (follows-none es (get_or s (b + 1) 0) ∙ ap Some (cursor_end b h)))

        starts_are : (b : ℕ) → b ≤ buckets → get_or s b 0 ≡ sum_of counts b
        starts_are zero h = C.first ∙ sym (sum-none counts)
        starts_are (suc b) h = subst (λ (k : ℕ). get_or s k 0 ≡ sum_of counts k) (add-one b) (cursor_end b (omega arith))

        pub all_there : Some (get_or s buckets 0) ≡ follows es 0 (entries_of ix standing n)
        all_there = ap Some (starts_are buckets (omega arith)) ∙ sym (whole (Some (sum_of counts buckets)) (from-right buckets 0 refl each))

        block : (b : ℕ) → b < buckets → slice (get_or s b 0) (get_or s (b + 1) 0) es ≡ list b
        block b h =
            let p = passed es (list b) (sum_of counts b) (sum_of counts (b + 1)) (begin_within b (omega arith)) (each b h) in
            rw (starts_are b (omega arith), starts_are (b + 1) (omega arith)) p.part

        rise : (b c : ℕ) → b ≤ c → c < buckets + 1 → get_or s b 0 ≤ get_or s c 0
        rise b c u v =
            let x = starts_are b (omega arith) in
            let y = starts_are c (omega arith) in
            let r = sum-rise counts b c u in
            omega arith

        within : (b : ℕ) → b < buckets + 1 → get_or s b 0 ≤ length es
        within b u = let x = starts_are b (omega arith) in let r = begin_within b (omega arith) in omega arith

        pub all_laid : 6 * n ≤ length standing → Laid ix standing n es s
        all_laid m = record { table = C.table; first = C.first; rise = rise; within = within; block = block; room = m }
