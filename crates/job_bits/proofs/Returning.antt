-- W9: accepted bytes, read and written: points, loops, sets, kinds, the header. Assumes nothing.
use Rattle.std.specs.Prelude.{Result, Ok}
use Rattle.bits.specs.declared.Refusal.{Refusal}
use mathlib.Core.Path.{◌≡◌, refl, sym, ap, ap₂, subst, ◌∙◌}
use Prim.Native.Nat.{ℕ, zero, suc, ◌+◌, ◌-◌, ◌*◌, ◌^◌, ◌≤◌, ◌<◌}
use native.Mathlib.Omega.{arith}
use native.Mathlib.Nat.{add-zero}
use native.Mathlib.Numerals.{add-one}
use mathlib.Core.Bool.{Bool, cond}
use mathlib.Core.List.{List, [], ◌∷◌, ◌++◌, map, append_assoc, append-nil}
use lib.ListN.{length, length-append}
use lib.Seq.{take_at, drop_at}
use borrow.Author.Tests.{lt-ltb}
use lib.Ieee.{Float, nan, binary64, to_bits}
use Rattle.bits.specs.declared.Refusal.TheVariants.{CountOutOfRange}
use Rattle.bits.specs.Reading.{ok, after}
use Rattle.bits.specs.Fields.{Field, loops_field, judge_count, judge_points, count, point_count, Range, coordinate_range, judge_number, number, Spot, point}
use Rattle.bits.proofs.Accepted.{ok_same, after_ok, ok_place}
use Rattle.kinds.specs.sets.Sets.{Set, Points, some_points, a_loop, some_loops, a_set}
use Rattle.job_bits.specs.Given as given
use Rattle.job_bits.specs.Given.{Taker, next_coordinate, next_points, next_loops, given_points, given_loops, given_set}
use Rattle.job_bits.specs.JobFields.{Field as JobField, whole, double_field, loops_fields, set_fields}
use Rattle.job_bits.specs.JobTables.{loop_counts, set_counts}
use Rattle.job_bits.proofs.Reading.{At, at_first, at_second, at_head}
use Rattle.job_bits.proofs.Coming.{Came, came_none, came_then, came_same, came_room, double_came, count_came, points_came}

-- ---- takers of tables
-- wherever these counts and coordinates stand, t takes a there, and stops behind them
unfoldable pub Takes : {A : Type 0} → Taker A → List ℕ → List Float → A → Type 0
Takes t C X a = (cs : List ℕ) (xs : List Float) (c x : ℕ) → At cs c C → At xs x X → t cs xs c x ≡ given.ok a (c + length C) (x + length X)

two_ends : (p a b c : ℕ) → c ≡ a + b → p + a + b ≡ p + c
two_ends p a b c e = omega arith

pub takes_then : {A B : Type 0} (m : Taker A) (f : A → Taker B) (C D : List ℕ) (X Y : List Float) (a : A) (b : B) → Takes m C X a → Takes (f a) D Y b → Takes
    (given.◌>>=◌ m f) (C ++ D) (X ++ Y) b
unfolding Takes given.after
takes_then m f C D X Y a b M F cs xs c x T U =
    ap (λ r. given.after r (λ a d y. f a cs xs d y)) (M cs xs c x (at_first cs c C D T) (at_first xs x X Y U))
    ∙ F cs xs (c + length C) (x + length X) (at_second cs c (length C) C D refl T) (at_second xs x (length X) X Y refl U)
    ∙ ap₂ (λ (i j : ℕ). given.ok b i j) (two_ends c (length C) (length D) (length (C ++ D)) (length-append C D))
    (two_ends x (length X) (length Y) (length (X ++ Y)) (length-append X Y))

pub takes_give : {A : Type 0} (a : A) → Takes (given.give a) [] [] a
unfolding Takes
takes_give a cs xs c x T U = ap₂ (λ (i j : ℕ). given.ok a i j) (sym (add-zero c)) (sym (add-zero x))

pub takes_same : {A : Type 0} (t : Taker A) (C D : List ℕ) (X Y : List Float) (a : A) → C ≡ D → X ≡ Y → Takes t C X a → Takes t D Y a
takes_same t C D X Y a e f R = subst (λ (z : List Float). Takes t D z a) f (subst (λ (z : List ℕ). Takes t z X a) e R)

pub takes_last : {A B : Type 0} (m : Taker A) (f : A → Taker B) (C : List ℕ) (X : List Float) (a : A) (b : B) → Takes m C X a → Takes (f a) [] [] b → Takes
    (given.◌>>=◌ m f) C X b
takes_last m f C X a b M F = takes_same (given.◌>>=◌ m f) (C ++ []) C (X ++ []) X b (append-nil C) (append-nil X) (takes_then m f C [] X [] a b M F)

-- a number that is in no table
pub count_takes : (f : Field) (n : ℕ) → judge_count f.least f.most n ≡ Ok n → Takes (given.count f n) [] [] n
unfolding Takes
count_takes f n e cs xs c x T U = ap (λ (t : Result ℕ Refusal). given.counted t c x) e ∙ ap₂ (λ (i j : ℕ). given.ok n i j) (sym (add-zero c)) (sym (add-zero x))

pub fits_takes : (w n : ℕ) → n < 2 ^ w → Takes (given.fits w n) [] [] tt
unfolding Takes
fits_takes w n h cs xs c x T U = ap (λ (b : Bool). cond b (given.ok tt c x) (given.bad CountOutOfRange)) (lt-ltb n (2 ^ w) h) ∙ ap₂
    (λ (i j : ℕ). given.ok tt i j) (sym (add-zero c)) (sym (add-zero x))

pub number_takes : (r : Range) (v : Float) → judge_number r.least r.most (to_bits binary64 v) ≡ Ok v → Takes (given.number r v) [] [] v
unfolding Takes
number_takes r v e cs xs c x T U = ap (λ (t : Result Float Refusal). given.measured t c x) e ∙ ap₂ (λ (i j : ℕ). given.ok v i j) (sym (add-zero c)) (sym (add-zero x))

-- the next of a table
loops_next : (n : ℕ) → judge_count 1 64 n ≡ Ok n → Takes next_loops (n ∷ []) [] n
unfolding Takes next_loops
loops_next n e cs xs c x T U =
    ap (λ (k : ℕ). given.counted (judge_count 1 64 k) (suc c) x) (at_head cs c n 0 [] T)
    ∙ ap (λ (t : Result ℕ Refusal). given.counted t (suc c) x) e
    ∙ ap₂ (λ (i j : ℕ). given.ok n i j) (sym (add-one c)) (sym (add-zero x))

points-next : (before n : ℕ) → judge_points before n ≡ Ok n → Takes (next_points before) (n ∷ []) [] n
unfolding Takes next_points
points-next before n e cs xs c x T U =
    ap (λ (k : ℕ). given.counted (judge_points before k) (suc c) x) (at_head cs c n 0 [] T)
    ∙ ap (λ (t : Result ℕ Refusal). given.counted t (suc c) x) e
    ∙ ap₂ (λ (i j : ℕ). given.ok n i j) (sym (add-one c)) (sym (add-zero x))

coordinate_next : (v : Float) → judge_number coordinate_range.least coordinate_range.most (to_bits binary64 v) ≡ Ok v → Takes next_coordinate [] (v ∷ []) v
unfolding Takes next_coordinate
coordinate_next v e cs xs c x T U =
    ap (λ (y : Float). given.measured (judge_number coordinate_range.least coordinate_range.most (to_bits binary64 y)) c (suc x)) (at_head xs x v nan [] U)
    ∙ ap (λ (t : Result Float Refusal). given.measured t c (suc x)) e
    ∙ ap₂ (λ (i j : ℕ). given.ok v i j) (sym (add-zero c)) (sym (add-one x))

-- ---- points
point_came : (b : List ℕ) (p : ℕ) (s : Spot) (q : ℕ) → point b p ≡ ok s q → Came b p q (double_field s.x ∷ double_field s.y ∷ []) ×
    (judge_number coordinate_range.least coordinate_range.most (to_bits binary64 s.x) ≡ Ok s.x) ×
    (judge_number coordinate_range.least coordinate_range.most (to_bits binary64 s.y) ≡ Ok s.y)
unfolding point
point_came b p s q e =
    let t = after_ok (number coordinate_range b p) (λ a q. after (number coordinate_range b q) (λ c r. ok (record { x = a; y = c }) r)) s q e in
    let u = after_ok (number coordinate_range b t.1) (λ c r. ok (record { x = t.0; y = c }) r) s q t.3 in
    let A = double_came coordinate_range b p t.0 t.1 t.2 in
    let B = double_came coordinate_range b t.1 u.0 u.1 u.2 in
    let k : ok (record { x = t.0; y = u.0 }) u.1 ≡ ok s q = u.3 in
    subst (λ (z : Spot). Came b p q (double_field z.x ∷ double_field z.y ∷ []) ×
    (judge_number coordinate_range.least coordinate_range.most (to_bits binary64 z.x) ≡ Ok z.x) ×
    (judge_number coordinate_range.least coordinate_range.most (to_bits binary64 z.y) ≡ Ok z.y)) (ok_same k)
    (subst (λ (m : ℕ). Came b p m (double_field t.0 ∷ double_field u.0 ∷ [])) (second k) (came_then b p t.1 u.1 _ _ A.0 B.0), A.1, B.1)
  where
    second : {a c : Spot} {p q : ℕ} → ok a p ≡ ok c q → p ≡ q
    second e = cc

-- points that were read after acc
pub record PointsBack (b : List ℕ) (p q n : ℕ) (acc ys : List Float) : Type 0 where
  pub points : List Float
  pub all : ys ≡ acc ++ points
  pub came : Came b p q (map double_field points)
  pub takes : Takes (given_points n) [] points points
  pub long : length points ≡ 2 * n

pub points-back : (n : ℕ) (acc : List Float) (b : List ℕ) (p : ℕ) (ys : List Float) (q : ℕ) → p ≤ 8 * length b → some_points n acc b p ≡ ok ys q → PointsBack b p
    q n acc ys
unfolding some_points given_points
points-back zero acc b p ys q h e =
    record {
      points = [];
      all = sym (ok_same e) ∙ sym (append-nil acc);
      came = subst (λ (k : ℕ). Came b p k []) (second e) (came_none b p h);
      takes = takes_give [];
      long = refl;
    }
  where
    second : {a c : List Float} {p q : ℕ} → ok a p ≡ ok c q → p ≡ q
    second e = cc
points-back (suc n) acc b p ys q h e =
    let t = after_ok (point b p) (λ s q. some_points n (acc ++ (s.x ∷ s.y ∷ [])) b q) ys q e in
    let s = t.0 in
    let P = point_came b p s t.1 t.2 in
    let R = points-back n (acc ++ (s.x ∷ s.y ∷ [])) b t.1 ys q (came_room b p t.1 _ P.0) t.3 in
    record {
      points = s.x ∷ s.y ∷ R.points;
      all = R.all ∙ append_assoc acc (s.x ∷ s.y ∷ []) R.points;
      came = came_then b p t.1 q (double_field s.x ∷ double_field s.y ∷ []) (map double_field R.points) P.0 R.came;
      takes =
          takes_then next_coordinate (λ a. given.◌>>=◌ next_coordinate (λ c. given.◌>>=◌ (given_points n) (λ ps. given.give (a ∷ c ∷ ps)))) [] [] (s.x ∷ [])
          (s.y ∷ R.points) s.x (s.x ∷ s.y ∷ R.points) (coordinate_next s.x P.1)
          (takes_then next_coordinate (λ c. given.◌>>=◌ (given_points n) (λ ps. given.give (s.x ∷ c ∷ ps))) [] [] (s.y ∷ []) R.points s.y
          (s.x ∷ s.y ∷ R.points) (coordinate_next s.y P.2)
          (takes_last (given_points n) (λ ps. given.give (s.x ∷ s.y ∷ ps)) [] R.points R.points (s.x ∷ s.y ∷ R.points) R.takes
          (takes_give (s.x ∷ s.y ∷ R.points))));
      long = z (length R.points) n R.long;
    }
  where
    z : (l n : ℕ) → l ≡ 2 * n → suc (suc l) ≡ 2 * suc n
    z l n e = omega arith

-- ---- loops
abbrev set : List Float → List ℕ → Set
set ps es = record { points = ps; ends = es }

-- loops that were read after acc and es
pub record LoopsBack (b : List ℕ) (p q n before : ℕ) (acc : List Float) (es : List ℕ) (s : Set) : Type 0 where
  pub own : Set
  pub all : s ≡ set (acc ++ own.points) (es ++ own.ends)
  pub came : Came b p q (loops_fields before own.ends own.points)
  pub takes : Takes (given_loops n before) (loop_counts before own.ends) own.points own
  pub number : length own.ends ≡ n

loop_fields : (before m : ℕ) (ps qs : List Float) (es : List ℕ) → length ps ≡ 2 * m → loops_fields before ((before + m) ∷ es) (ps ++ qs) ≡ whole 10 m ∷
    (map double_field ps ++ loops_fields (before + m) es qs)
unfolding loops_fields
loop_fields before m ps qs es l =
    let d : before + m - before ≡ m = omega arith in
    let k : length ps ≡ 2 * (before + m - before) = omega arith in
    ap₂ (λ (x : ℕ) (y : List JobField). whole 10 x ∷ y) d
    (ap₂ (λ (x y : List Float). map double_field x ++ loops_fields (before + m) es y) (take_at ps qs _ k) (drop_at ps qs _ k))

-- one loop that was read after acc
record LoopBack (b : List ℕ) (p q before : ℕ) (acc : List Float) (l : Points) : Type 0 where
  number : ℕ
  points : List Float
  all : l ≡ record { number = before + number; coordinates = acc ++ points }
  came : Came b p q (whole 10 number ∷ map double_field points)
  count : judge_points before number ≡ Ok number
  takes : Takes (given_points number) [] points points
  long : length points ≡ 2 * number

loop_back : (before : ℕ) (acc : List Float) (b : List ℕ) (p : ℕ) (l : Points) (q : ℕ) → a_loop before acc b p ≡ ok l q → LoopBack b p q before acc l
unfolding a_loop
loop_back before acc b p l q e =
    let u = after_ok (point_count before b p) (λ m r. after (some_points m acc b r) (λ ys k. ok (record { number = before + m; coordinates = ys }) k)) l q e in
    let v = after_ok (some_points u.0 acc b u.1) (λ ys k. ok (record { number = before + u.0; coordinates = ys }) k) l q u.3 in
    let C = points_came before b p u.0 u.1 u.2 in
    let P = points-back u.0 acc b u.1 v.0 v.1 (came_room b p u.1 _ C.0) v.2 in
    record {
      number = u.0;
      points = P.points;
      all = sym (ok_same v.3) ∙ ap (λ (ys : List Float). record { number = before + u.0; coordinates = ys }) P.all;
      came = subst (λ (k : ℕ). Came b p k (whole 10 u.0 ∷ map double_field P.points)) (ok_place v.3)
          (came_then b p u.1 v.1 (whole 10 u.0 ∷ []) (map double_field P.points) C.0 P.came);
      count = C.1;
      takes = P.takes;
      long = P.long;
    }

-- the tables of one more loop
loops_take : (n before m : ℕ) (ps : List Float) (t : Set) → judge_points before m ≡ Ok m → Takes (given_points m) [] ps ps → Takes (given_loops n (before + m))
    (loop_counts (before + m) t.ends) t.points t → Takes (given_loops (suc n) before) (loop_counts before ((before + m) ∷ t.ends)) (ps ++ t.points)
    (set (ps ++ t.points) ((before + m) ∷ t.ends))
unfolding given_loops loop_counts
loops_take n before m ps t e P S =
    let own = set (ps ++ t.points) ((before + m) ∷ t.ends) in
    takes_same _ _ _ _ _ own (ap (λ (k : ℕ). k ∷ loop_counts (before + m) t.ends) (z before m)) refl
    (takes_then (next_points before) (λ m. given.◌>>=◌ (given_points m) (λ ps. given.◌>>=◌ (given_loops n (before + m))
    (λ s. given.give (set (ps ++ s.points) ((before + m) ∷ s.ends))))) (m ∷ []) (loop_counts (before + m) t.ends) [] (ps ++ t.points) m own
    (points-next before m e)
    (takes_then (given_points m) (λ ps. given.◌>>=◌ (given_loops n (before + m)) (λ s. given.give (set (ps ++ s.points) ((before + m) ∷ s.ends)))) []
    (loop_counts (before + m) t.ends) ps t.points ps own P
    (takes_last (given_loops n (before + m)) (λ s. given.give (set (ps ++ s.points) ((before + m) ∷ s.ends))) (loop_counts (before + m) t.ends) t.points t
    own S (takes_give own))))
  where
    z : (before m : ℕ) → m ≡ before + m - before
    z before m = omega arith

loops_more : (n before m : ℕ) (acc : List Float) (es : List ℕ) (b : List ℕ) (p r : ℕ) (s : Set) (q : ℕ) (ps : List Float) → Came b p r
    (whole 10 m ∷ map double_field ps) → judge_points before m ≡ Ok m → Takes (given_points m) [] ps ps → length ps ≡ 2 * m → LoopsBack b r q n (before + m)
    (acc ++ ps) (es ++ ((before + m) ∷ [])) s → LoopsBack b p q (suc n) before acc es s
loops_more n before m acc es b p r s q ps C e P l S =
    record {
      own = set (ps ++ S.own.points) ((before + m) ∷ S.own.ends);
      all = S.all ∙ ap₂ set (append_assoc acc ps S.own.points) (append_assoc es ((before + m) ∷ []) S.own.ends);
      came = came_same b p q _ _ (sym (loop_fields before m ps S.own.points S.own.ends l))
          (came_then b p r q (whole 10 m ∷ map double_field ps) _ C S.came);
      takes = loops_take n before m ps S.own e P S.takes;
      number = ap suc S.number;
    }

loops_step : (n before : ℕ) (acc : List Float) (es : List ℕ) (b : List ℕ) (p r : ℕ) (s : Set) (q : ℕ) (l : Points) → LoopBack b p r before acc l → LoopsBack b r
    q n l.number l.coordinates (es ++ (l.number ∷ [])) s → LoopsBack b p q (suc n) before acc es s
loops_step n before acc es b p r s q l L R =
    loops_more n before L.number acc es b p r s q L.points L.came L.count L.takes L.long
    (subst (λ (z : Points). LoopsBack b r q n z.number z.coordinates (es ++ (z.number ∷ [])) s) L.all R)

pub loops_back : (n before : ℕ) (acc : List Float) (es : List ℕ) (b : List ℕ) (p : ℕ) (s : Set) (q : ℕ) → p ≤ 8 * length b → some_loops n before acc es b p ≡ ok
    s q → LoopsBack b p q n before acc es s
unfolding some_loops given_loops loops_fields loop_counts
loops_back zero before acc es b p s q h e =
    record {
      own = set [] [];
      all = sym (ok_same e) ∙ ap₂ set (sym (append-nil acc)) (sym (append-nil es));
      came = subst (λ (k : ℕ). Came b p k []) (ok_place e) (came_none b p h);
      takes = takes_give (set [] []);
      number = refl;
    }
loops_back (suc n) before acc es b p s q h e =
    let t = after_ok (a_loop before acc b p) (λ l r. some_loops n l.number l.coordinates (es ++ (l.number ∷ [])) b r) s q e in
    let L = loop_back before acc b p t.0 t.1 t.2 in
    loops_step n before acc es b p t.1 s q t.0 L (loops_back n t.0.number t.0.coordinates (es ++ (t.0.number ∷ [])) b t.1 s q
    (came_room b p t.1 _ L.came) t.3)

-- ---- sets
pub set_back : (b : List ℕ) (p : ℕ) (s : Set) (q : ℕ) → a_set b p ≡ ok s q → Came b p q (set_fields s) × Takes given_set (set_counts s) s.points s
unfolding a_set given_set set_fields set_counts
set_back b p s q e =
    let t = after_ok (count loops_field b p) (λ n r. some_loops n 0 [] [] b r) s q e in
    let n = t.0 in
    let C = count_came loops_field b p n t.1 t.2 in
    let R = loops_back n 0 [] [] b t.1 s q (came_room b p t.1 _ C.0) t.3 in
    let own : R.own ≡ s = sym R.all in
    let num : n ≡ length s.ends = sym R.number ∙ ap (λ (z : Set). length z.ends) own in (
      came_same b p q _ _ (ap₂ (λ (k : ℕ) (z : Set). whole 7 k ∷ loops_fields 0 z.ends z.points) num own)
          (came_then b p t.1 q (whole 7 n ∷ []) _ C.0 R.came),
      subst (λ (k : ℕ). Takes given_set (k ∷ loop_counts 0 s.ends) s.points s) num
          (subst (λ (z : Set). Takes given_set (n ∷ loop_counts 0 z.ends) z.points z) own
          (takes_then next_loops (λ n. given_loops n 0) (n ∷ []) (loop_counts 0 R.own.ends) [] R.own.points n R.own (loops_next n C.1) R.takes)),
    )
