-- A relation of every orientation's shape, track and searches, by kind and orientation. Assumes nothing.
use mathlib.Core.Path.{◌≡◌, refl, ap₂}
use mathlib.Core.List.{List, [], ◌∷◌, map}
use Prim.Native.Nat.{ℕ, zero, suc}
use lib.ListN.{get_or, set}
use lib.Ieee.{Float}
use Rattle.filling.specs.Shapes.{Planner, Shape}
use Rattle.filling.specs.Search.{Found, Track, column, search, search_all, searched, searched_all}
use Rattle.filling.specs.Plain.{plain_search, plain_searched, plain_searched_all, plain_looks, plain_looks_all, plain_look_counts}

abbrev pub Relation : Type 1
Relation = Shape → Track → List Found → Type 0

pub data Row (R : Relation) : List Shape → List Track → List (List Found) → Type 0 where
  no_more : Row R [] [] []
  and_more : {s : Shape} {ss : List Shape} {t : Track} {ts : List Track} {fs : List Found} {fss : List (List Found)} → R s t fs → Row R ss ts fss → Row R (s ∷ ss) (t ∷ ts) (fs ∷ fss)

pub data Table (R : Relation) : List (List Shape) → List (List Track) → List (List (List Found)) → Type 0 where
  no_kind : Table R [] [] []
  and_kind : {ss : List Shape} {sss : List (List Shape)} {ts : List Track} {tss : List (List Track)} {fss : List (List Found)} {fsss : List (List (List Found))}
      → Row R ss ts fss → Table R sss tss fsss → Table R (ss ∷ sss) (ts ∷ tss) (fss ∷ fsss)

module _ (R Q : Relation) (f : (s : Shape) (t : Track) (fs : List Found) → R s t fs → Q s t fs) where
  row_map : {ss : List Shape} {ts : List Track} {fss : List (List Found)} → Row R ss ts fss → Row Q ss ts fss
  row_map no_more = no_more
  row_map (and_more {s = s} {t = t} {fs = fs} h k) = and_more (f s t fs h) (row_map k)

  pub table-map : {sss : List (List Shape)} {tss : List (List Track)} {fsss : List (List (List Found))} → Table R sss tss fsss → Table Q sss tss fsss
  table-map no_kind = no_kind
  table-map (and_kind h k) = and_kind (row_map h) (table-map k)

module _ (R : Relation) where
  pub table_get : {sss : List (List Shape)} {tss : List (List Track)} {fsss : List (List (List Found))} → Table R sss tss fsss → (k : ℕ) → Row R (get_or sss k []) (get_or tss k []) (get_or fsss k [])
  table_get no_kind k = no_more
  table_get (and_kind h r) zero = h
  table_get (and_kind h r) (suc k) = table_get r k

  pub table-set : {sss : List (List Shape)} {tss : List (List Track)} {fsss : List (List (List Found))} → Table R sss tss fsss → (k : ℕ) (ts : List Track) (fss : List (List Found))
      → Row R (get_or sss k []) ts fss → Table R sss (set tss k ts) (set fsss k fss)
  table-set no_kind k ts fss h = no_kind
  table-set (and_kind g r) zero ts fss h = and_kind h r
  table-set (and_kind g r) (suc k) ts fss h = and_kind g (table-set r k ts fss h)

  fresh_row : ((s : Shape) → R s (record { next_column = column 0; look_count = 0 }) []) → (ss : List Shape) → Row R ss (map (λ s. record { next_column = column 0; look_count = 0 }) ss) (map (λ s. []) ss)
  fresh_row f [] = no_more
  fresh_row f (s ∷ ss) = and_more (f s) (fresh_row f ss)

  pub fresh_table : ((s : Shape) → R s (record { next_column = column 0; look_count = 0 }) []) → (sss : List (List Shape)) → Table R sss (map (map (λ s. record { next_column = column 0; look_count = 0 })) sss) (map (map (λ s. [])) sss)
  fresh_table f [] = no_kind
  fresh_table f (ss ∷ sss) = and_kind (fresh_row f ss) (fresh_table f sss)

-- a kind's orientations are searched
module _ (p : Planner) (st : List Float) (R Q : Relation) where
  pub same-found : ((s : Shape) (t : Track) (fs : List Found) → R s t fs → search p st s t.next_column ≡ plain_search p st s)
      → {ss : List Shape} {ts : List Track} {fss : List (List Found)} → Row R ss ts fss → search_all p st ss ts ≡ map (plain_search p st) ss
  unfolding search_all
  same-found f no_more = refl
  same-found f (and_more {s = s} {t = t} {fs = fs} h k) = ap₂ ◌∷◌ (f s t fs h) (same-found f k)

  pub row_searched : ((s : Shape) (t : Track) (fs : List Found) → R s t fs → Q s (searched p s t (search p st s t.next_column)) (plain_searched p st s fs))
      → {ss : List Shape} {ts : List Track} {fss : List (List Found)} → Row R ss ts fss → Row Q ss (searched_all p ss ts (search_all p st ss ts)) (plain_searched_all p st ss fss)
  unfolding search_all searched_all plain_searched_all
  row_searched f no_more = no_more
  row_searched f (and_more {s = s} {t = t} {fs = fs} h k) = and_more (f s t fs h) (row_searched f k)

-- look counts
module _ (p : Planner) (R : Relation) (f : (s : Shape) (t : Track) (fs : List Found) → R s t fs → t.look_count ≡ plain_looks p s fs) where
  row_counts : {ss : List Shape} {ts : List Track} {fss : List (List Found)} → Row R ss ts fss → map (λ t. t.look_count) ts ≡ plain_looks_all p ss fss
  unfolding plain_looks_all
  row_counts no_more = refl
  row_counts (and_more {s = s} {t = t} {fs = fs} h k) = ap₂ ◌∷◌ (f s t fs h) (row_counts k)

  pub table-counts : {sss : List (List Shape)} {tss : List (List Track)} {fsss : List (List (List Found))} → Table R sss tss fsss → map (map (λ t. t.look_count)) tss ≡ plain_look_counts p sss fsss
  unfolding plain_look_counts
  table-counts no_kind = refl
  table-counts (and_kind h k) = ap₂ ◌∷◌ (row_counts h) (table-counts k)
