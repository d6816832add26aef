-- Document 01, "The plain planner", and demand 3's look equation; document 02, W4. Definitions only. Assumes nothing.
use Rattle.std.specs.Prelude.{ℕ, suc, ◌+◌, ◌-◌, Bool, true, false, List, [], ◌∷◌, ◌++◌, map, length, get_or, set, ltb, Float}
use Rattle.filling.specs.Shapes.{Planner, Shape, Copy, Standing, copies_from, named, others, standing_strips}
use Rattle.filling.specs.Search.{Found, at, nowhere, first_free, look_at, last_of, reversed_for}
use Rattle.filling.specs.Choice.{Choice, choices, best, standing_at}

-- "Its state: copies to come, at first all; standing copies with orientation, x and y; copies without a place; its searches."
-- The searches by kind and orientation, the latest first
pub record Plain : Type 0 where
  pub to_come_lem : List Copy
  pub standing : List Standing
  pub without : List Copy
  pub searches : List (List (List Found))

-- no search yet
unfoldable pub no_searches : Planner → List (List (List Found))
no_searches p = map (map (λ s. [])) p.shapes

-- "copies to come, at first all"
unfoldable pub plain_start : Planner → List ℕ → Plain
plain_start p order = record { to_come_lem = copies_from 0 order; standing = []; without = []; searches = no_searches p }

-- "seeks, in each orientation of its kind with neither range reversed, the first column from 0 on with a free height, inset strips against
-- every sheet strip, apart strips against every standing copy's"
unfoldable pub plain_search : Planner → List Float → Shape → Found
plain_search p standing s = elim (reversed_for p s) [ true ↦ nowhere | false ↦ first_free (look_at p standing s) (suc (last_of p s)) 0 ]

-- an orientation's searches with one more, where it is searched
unfoldable pub plain_searched : Planner → List Float → Shape → List Found → List Found
plain_searched p standing s fs = elim (reversed_for p s) [ true ↦ fs | false ↦ plain_search p standing s ∷ fs ]

-- the same of every orientation of a kind
unfoldable pub plain_searched_all : Planner → List Float → List Shape → List (List Found) → List (List Found)
plain_searched_all p standing [] fss = []
plain_searched_all p standing (s ∷ ss) [] = []
plain_searched_all p standing (s ∷ ss) (fs ∷ fss) = plain_searched p standing s fs ∷ plain_searched_all p standing ss fss

-- "The winner stands, or the copy has no place."
unfoldable pub plain_settled : Copy → List Copy → List (List (List Found)) → Plain → List Choice → Plain
plain_settled k ks searches q [] = record { to_come_lem = ks; standing = q.standing; without = q.without ++ (k ∷ []); searches = searches }
plain_settled k ks searches q (a ∷ as') =
    record { to_come_lem = ks; standing = q.standing ++ (standing_at k (best a as') ∷ []); without = q.without; searches = searches }

-- "Any other takes the next copy"
unfoldable pub plain_place : Planner → Copy → List Copy → Plain → Plain
plain_place p k ks q =
    let ss = get_or p.shapes k.kind [] in
    let standing = standing_strips p q.standing in
    let searches = set q.searches k.kind (plain_searched_all p standing ss (get_or q.searches k.kind [])) in
    plain_settled k ks searches q (choices p 0 ss (map (plain_search p standing) ss))

-- the next copy, if there is one
unfoldable pub plain_take : Planner → Plain → List Copy → Plain
plain_take p q [] = q
plain_take p q (k ∷ ks) = plain_place p k ks q

-- ---- document 02, W4: a copy is taken back

-- the place of a copy once that at place n has joined the end of the order: those behind it have moved up
unfoldable pub place_after : ℕ → ℕ → ℕ
place_after n m = elim (ltb n m) [ true ↦ m - 1 | false ↦ m ]

-- a copy at its place then
unfoldable pub copy_after : ℕ → Copy → Copy
copy_after n k = record { place = place_after n k.place; kind = k.kind }

-- a standing copy at its place then
unfoldable pub standing_after : ℕ → Standing → Standing
standing_after n c = record { copy = copy_after n c.copy; orientation = c.orientation; x = c.x; y = c.y; gap = c.gap }

-- "to the end of those to come": the last place of the order
unfoldable pub last_place : Plain → ℕ
last_place q = length q.to_come_lem + length q.standing + length q.without - 1

-- "the plain planner moves an accepted withdrawal's copy from those standing to the end of those to come and forgets all searches and finds"
unfoldable pub plain_back : Planner → ℕ → Plain → Plain
plain_back p n q =
    record {
      to_come_lem = map (copy_after n) q.to_come_lem ++ map (λ c. record { place = last_place q; kind = c.copy.kind }) (named n q.standing);
      standing = map (standing_after n) (others n q.standing);
      without = map (copy_after n) q.without;
      searches = no_searches p;
    }

-- ---- lists of calls

-- what a call asks for: the next copy, or the copy at a place of the order back
pub data Request : Type 0 where
  take_next : Request
  take_back : ℕ → Request

-- a call that is not refused
unfoldable pub plain_call : Planner → Request → Plain → Plain
plain_call p take_next q = plain_take p q q.to_come_lem
plain_call p (take_back n) q = plain_back p n q

-- "The plain planner is fed job, order and whether each call was refused."; "a refused call changes nothing"
unfoldable pub plain_calls : Planner → List Request → List Bool → Plain → Plain
plain_calls p [] bs q = q
plain_calls p (a ∷ as') [] q = q
plain_calls p (a ∷ as') (true ∷ refused) q = plain_calls p as' refused q
plain_calls p (a ∷ as') (false ∷ refused) q = plain_calls p as' refused (plain_call p a q)

-- the plain planner (document 01) after some calls
unfoldable pub plain_planner : Planner → List ℕ → List Request → List Bool → Plain
plain_planner p order asked refused = plain_calls p asked refused (plain_start p order)

-- ---- demand 3's look equation

-- "A find is such a search yielding a column, winning or not."
unfoldable pub finds : List Found → ℕ
finds [] = 0
finds (at c y g ∷ fs) = suc (finds fs)
finds (nowhere ∷ fs) = finds fs

-- "its last found column plus its finds, or, once it has found none, its last column plus one plus its finds"; 0 where it is not yet searched
unfoldable pub expected_looks : ℕ → List Found → ℕ
expected_looks last [] = 0
expected_looks last (at c y g ∷ fs) = c + finds (at c y g ∷ fs)
expected_looks last (nowhere ∷ fs) = last + 1 + finds (nowhere ∷ fs)

-- "it is 0 for an orientation with a range that document 01 calls reversed, or not yet searched"
unfoldable pub plain_looks : Planner → Shape → List Found → ℕ
plain_looks p s fs = elim (reversed_for p s) [ true ↦ 0 | false ↦ expected_looks (last_of p s) fs ]

-- the same of every orientation of a kind
unfoldable pub plain_looks_all : Planner → List Shape → List (List Found) → List ℕ
plain_looks_all p [] fss = []
plain_looks_all p (s ∷ ss) [] = []
plain_looks_all p (s ∷ ss) (fs ∷ fss) = plain_looks p s fs ∷ plain_looks_all p ss fss

-- by kind and orientation
unfoldable pub plain_look_counts : Planner → List (List Shape) → List (List (List Found)) → List (List ℕ)
plain_look_counts p [] t = []
plain_look_counts p (ss ∷ sss) [] = []
plain_look_counts p (ss ∷ sss) (fss ∷ t) = plain_looks_all p ss fss ∷ plain_look_counts p sss t
