-- One turn of the column search. Assumes nothing.
use Rattle.std.specs.Prelude.{Some, None, Ok, Err}
use Prim.Native.Nat.{ℕ, suc, ◌+◌, ◌-◌, ◌*◌, ◌/◌, ◌<◌, ◌≤◌, ◌^◌}
use native.Mathlib.Omega.{arith}
use mathlib.Core.Path.{◌≡◌, sym, ap, ap₂, ◌∙◌, subst}
use mathlib.Core.List.{List}
use lib.ListN.{length, get_or, set}
use lib.Seq.{get_or-set_same}
use lib.Ieee.{Float}
use Rattle.rooms.specs.tracks.inner.Tracks.{next_columns, look_counts_from, slot_numbers}
use Rattle.rooms.proofs.tracks.Fields.{length-field, field_at, slot_first, slot_number, number-kept}
use Rattle.index.specs.declared.Overrun.{Overrun}
use Rattle.search.specs.declared.columns.Columns.{Columns}
use Rattle.search.specs.columns.inner.Stands.{last_of, start_of}
use Rattle.search.specs.inner.Searching.{remembering, next_of, tracked, search_of, Answer, Found, answer_at, looked, counted, after_look, after_answer, search_from}
use Rattle.look.specs.declared.height.Look.TheVariants.{Free, Full}

module _ (f : ℕ → Answer) (slot c : ℕ) (counts : List ℕ) where
  pub search-end : (n : ℕ) → n ≡ 0 → search_from f slot n c counts ≡ looked (Ok None) counts
  unfolding search_from
  search-end n e = rw e

  pub search_overflow : (n m : ℕ) (r : Overrun) → n ≡ suc m → f c ≡ Err r → search_from f slot n c counts ≡ looked (Err r) (counted slot counts)
  unfolding search_from after_answer
  search_overflow n m r e l = rw (e, l)

  pub search_free : (n m : ℕ) (y g : Float) → n ≡ suc m → f c ≡ Ok (Free y g) → search_from f slot n c counts ≡ looked (Ok (Some (c, y, g))) (counted slot counts)
  unfolding search_from after_answer after_look
  search_free n m y g e l = rw (e, l)

  pub search_full : (n m : ℕ) → n ≡ suc m → f c ≡ Ok Full → search_from f slot n c counts ≡ search_from f slot m (c + 1) (counted slot counts)
  unfolding search_from after_answer after_look
  search_full n m e l = rw (e, l)

-- what the loop keeps: the search of what is left is the search of the start
pub record Going (room₀ : List Float) (f : ℕ → Answer) (slot last from : ℕ) (tracks₀ : List ℕ) (room : List Float) (tracks : List ℕ) (c : ℕ) : Type 0 where
  pub on : from ≤ c
  pub wide : length room ≡ length room₀
  pub long : length tracks ≡ length tracks₀
  pub nexts : next_columns tracks ≡ next_columns tracks₀
  pub small : get_or (look_counts_from tracks) slot 0 + (last + 1 - c) < 2 ^ 64
  pub same : search_from f slot (last + 1 - c) c (look_counts_from tracks) ≡ search_from f slot (last + 1 - from) from (look_counts_from tracks₀)

module _ (k : Columns) (inset apart sheet placed room₀ : List Float) (slot last from : ℕ) (tracks₀ : List ℕ) where
  abbrev counts₀ : List ℕ
  counts₀ = look_counts_from tracks₀

  abbrev pub look_of_lem : ℕ → Answer
  look_of_lem = answer_at (length room₀ / 2) k inset apart sheet placed

  abbrev pub Goes : List Float → List ℕ → ℕ → Type 0
  Goes room tracks c = Going room₀ look_of_lem slot last from tracks₀ room tracks c

  pub at-end : (room : List Float) (tracks : List ℕ) (c : ℕ) → Goes room tracks c → last < c
      → looked (Ok None) (look_counts_from tracks) ≡ search_from look_of_lem slot (last + 1 - from) from counts₀
  at-end room tracks c g h = sym (search-end look_of_lem slot c (look_counts_from tracks) (last + 1 - c) (omega arith)) ∙ g.same

  module _ (room room' : List Float) (tracks tracks' : List ℕ) (c : ℕ) (v : Answer) (g : Goes room tracks c) where
    abbrev counts : List ℕ
    counts = look_counts_from tracks

    abbrev counts' : List ℕ
    counts' = look_counts_from tracks'

    module _ (h : c ≤ last) (e : v ≡ answer_at (length room / 2) k inset apart sheet placed c) (l : counts' ≡ counted slot counts)
        (m : next_columns tracks' ≡ next_columns tracks) where
      same_look : (w : Answer) → v ≡ w → look_of_lem c ≡ w
      same_look w q = ap (λ (n : ℕ). answer_at (n / 2) k inset apart sheet placed c) (sym g.wide) ∙ (sym e ∙ q)

      left : last + 1 - c ≡ suc (last - c)
      left = omega arith

      pub at_overflow : (r : Overrun) → v ≡ Err r → looked (Err r) counts' ≡ search_from look_of_lem slot (last + 1 - from) from counts₀
      at_overflow r q = ap (looked (Err r)) l ∙ (sym (search_overflow look_of_lem slot c counts (last + 1 - c) (last - c) r left (same_look (Err r) q)) ∙ g.same)

      pub at_free : (y gap : Float) → v ≡ Ok (Free y gap) → looked (Ok (Some (c, y, gap))) counts' ≡ search_from look_of_lem slot (last + 1 - from) from counts₀
      at_free y gap q = ap (looked (Ok (Some (c, y, gap)))) l ∙ (sym (search_free look_of_lem slot c counts (last + 1 - c) (last - c) y gap left
          (same_look (Ok (Free y gap)) q)) ∙ g.same)

      pub at_full : slot < 1024 → length room' ≡ length room → length tracks' ≡ length tracks → v ≡ Ok Full → Goes room' tracks' (c + 1)
      at_full s w t q =
          record {
            on = (let o = g.on in omega arith);
            wide = w ∙ g.wide;
            long = t ∙ g.long;
            nexts = m ∙ g.nexts;
            small = fewer h (get_or counts' slot 0) (get_or counts slot 0) (ap (λ (x : List ℕ). get_or x slot 0) l ∙ get_or-set_same counts slot
                (get_or counts slot 0 + 1) 0 (subst (λ (n : ℕ). slot < n) (sym (length-field 0 2 1 1024 tracks)) s)) g.small;
            same = ap (search_from look_of_lem slot (last + 1 - (c + 1)) (c + 1)) l ∙
                (sym (search_full look_of_lem slot c counts (last + 1 - c) (last + 1 - (c + 1)) (less h) (same_look (Ok Full) q)) ∙ g.same);
          }
        where
          less : c ≤ last → last + 1 - c ≡ suc (last + 1 - (c + 1))
          less q = omega arith

          fewer : c ≤ last → (a b : ℕ) → a ≡ b + 1 → b + (last + 1 - c) < 2 ^ 64 → a + (last + 1 - (c + 1)) < 2 ^ 64
          fewer q a b e h = omega arith

pub search_is : (f : ℕ → Answer) (k : Columns) (slot : ℕ) (counts counts' next : List ℕ) (found : Found) (last from mark : ℕ) → last ≡ last_of k → from ≡ start_of
    k last (get_or next slot 0)
    → looked found counts' ≡ search_from f slot (last + 1 - from) from counts → mark ≡ next_of found → tracked found counts' (set next slot mark) ≡ search_of f k
    slot counts next
unfolding search_of remembering
search_is f k slot counts counts' next found last from mark a b e m =
    ap (λ (n : ℕ). tracked found counts' (set next slot n)) m
    ∙ (ap (remembering slot next) e
    ∙ (ap (λ (s : ℕ). remembering slot next (search_from f slot (last + 1 - s) s counts)) b
    ∙ ap (λ (l : ℕ). remembering slot next (search_from f slot (l + 1 - start_of k l (get_or next slot 0)) (start_of k l (get_or next slot 0)) counts)) a))

-- ---- in the tracks

-- one look more
pub counted_in_lem : (tracks : List ℕ) (slot : ℕ) → slot < 1024 → slot_numbers ≤ length tracks
    → look_counts_from (set tracks (2 * slot + 1) (get_or tracks (2 * slot + 1) 0 + 1)) ≡ counted slot (look_counts_from tracks)
counted_in_lem tracks slot h l =
    slot_number 0 tracks 1024 slot (get_or tracks (2 * slot + 1) 0 + 1) h (omega arith)
    ∙ ap (λ (n : ℕ). set (look_counts_from tracks) slot (n + 1)) (sym (field_at 0 2 1 1024 tracks slot 0 h))

-- the search, and what is remembered of it
pub search_in : (f : ℕ → Answer) (k : Columns) (slot : ℕ) (tracks tracks' : List ℕ) (found : Found) (last from mark : ℕ) → slot < 1024 → slot_numbers ≤ length
    tracks'
    → last ≡ last_of k → from ≡ start_of k last (get_or tracks (2 * slot) 0) → looked found (look_counts_from tracks') ≡ search_from f slot (last + 1 - from) from
    (look_counts_from tracks)
    → next_columns tracks' ≡ next_columns tracks → mark ≡ next_of found
    → tracked found (look_counts_from (set tracks' (2 * slot) mark)) (next_columns (set tracks' (2 * slot) mark)) ≡ search_of f k slot (look_counts_from tracks)
    (next_columns tracks)
search_in f k slot tracks tracks' found last from mark h l a b e n m =
    ap₂ (tracked found) (number-kept 0 tracks' 1024 slot mark) (slot_first 0 tracks' 1024 slot mark h (omega arith) ∙ ap (λ (q : List ℕ). set q slot mark) n)
    ∙ search_is f k slot (look_counts_from tracks) (look_counts_from tracks') (next_columns tracks) found last from mark a
    (b ∙ ap (start_of k last) (let z : 2 * slot ≡ 2 * slot + 0 = omega arith in ap (λ (p : ℕ). get_or tracks p 0) z ∙ sym (field_at 0 2 0 1024 tracks slot 0 h))) e
    m
