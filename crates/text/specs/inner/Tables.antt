-- For inner functions' contracts only: the lines that go by kind, read from the job's tables (rows: four to a kind). Definitions only. Assumes nothing.
use Rattle.std.specs.Prelude.{Result, Ok, Err, ℕ, ◌+◌, ◌*◌, Bool, get_or, eqb, Float}
use mathlib.Core.List.{List, [], ◌∷◌, ◌++◌, flat_map}
use Rattle.index.specs.Buckets.{up_from}
use Rattle.filling.specs.declared.Plan.{Plan}
use Rattle.filling.specs.declared.Refusal.{Refusal}
use Rattle.nesting.specs.Text.{decimal, line, look_word, position_at, plan_line, put_line, left_line, fill_line, last_lines, refusal_text}

-- whether kind k is a fill kind
abbrev pub fill_at : List ℕ → ℕ → Bool
fill_at rows k = eqb (get_or rows (4 * k + 1) 0) 1

-- the position lines
abbrev pub puts_to : List Float → ℕ → List ℕ
puts_to room n = flat_map (λ i. put_line (position_at room i)) (up_from n 0)

-- the left lines of the first n kinds
abbrev pub lefts_to : List ℕ → List ℕ → ℕ → List ℕ
lefts_to rows missing n = flat_map (λ k. left_line k (fill_at rows k) (get_or missing k 0)) (up_from n 0)

-- the fill lines of the first n kinds
abbrev pub fills_to : List ℕ → List ℕ → ℕ → List ℕ
fills_to rows placed n = flat_map (λ k. fill_line k (fill_at rows k) (get_or placed k 0)) (up_from n 0)

-- the look line of kind k and orientation o
unfoldable pub look_at : List ℕ → ℕ → ℕ → List ℕ
look_at looks k o = line look_word (decimal k ∷ decimal o ∷ decimal (get_or looks (16 * k + o) 0) ∷ [])

-- the look lines of a kind's first n orientations
abbrev pub looks_of : List ℕ → ℕ → ℕ → List ℕ
looks_of looks k n = flat_map (look_at looks k) (up_from n 0)

-- the look lines of the first n kinds
abbrev pub looks_to : List ℕ → List ℕ → ℕ → List ℕ
looks_to rows looks n = flat_map (λ k. looks_of looks k (get_or rows (4 * k + 3) 0)) (up_from n 0)

-- a plan's lines in their order
unfoldable pub plan_by : List ℕ → ℕ → List Float → Plan → List ℕ
plan_by rows kinds room p =
    plan_line p ++ (puts_to room p.placed ++ (lefts_to rows p.unplaced_of kinds ++ (fills_to rows p.placed_of kinds ++ (looks_to rows p.look_counts kinds ++ last_lines p))))

-- what is printed for a verdict and a plan
unfoldable pub reply_by : List ℕ → ℕ → List Float → Plan → Result (Unit {0}) Refusal → List ℕ
reply_by rows kinds room p (Ok tt) = plan_by rows kinds room p
reply_by rows kinds room p (Err k) = refusal_text k
