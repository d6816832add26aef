-- The starred cases of document 01, 31 by a gap, case 4 on the second table and with a copy taken back, of the definitions: one list, one claim, computed.
-- Assumes nothing.
use mathlib.Core.Path.{◌≡◌, refl, ap₂}
use mathlib.Core.List.{List, [], ◌∷◌, map}
use Rattle.nesting.specs.Cases.{Case, starred, starred1, starred2, starred3, starred4, starred4_fill, starred4_plan, starred4_text, starred5}
use Rattle.nesting.specs.Cases.{starred5_calls, starred6, starred7, starred8, starred9, starred10, starred11, starred_gap, starred_frame}
use Rattle.nesting.specs.Cases.{starred_back, starred_freed}

abbrev Holds : Case → Type 0
Holds c = c.got ≡ c.want

-- one declaration may take 50,000,000 steps: each case is computed by itself
case-1 : Holds starred1
unfolding Rattle.nesting.proofs.Computing.cases_compute
case-1 = refl

case-2 : Holds starred2
unfolding Rattle.nesting.proofs.Computing.cases_compute
case-2 = refl

case-3 : Holds starred3
unfolding Rattle.nesting.proofs.Computing.cases_compute
case-3 = refl

case-4_calls : Holds starred4
unfolding Rattle.nesting.proofs.Computing.cases_compute
case-4_calls = refl

case-4_fill : Holds starred4_fill
unfolding Rattle.nesting.proofs.Computing.cases_compute
case-4_fill = refl

case-4_plan : Holds starred4_plan
unfolding Rattle.nesting.proofs.Computing.cases_compute
case-4_plan = refl

case-4_text : Holds starred4_text
unfolding Rattle.nesting.proofs.Computing.cases_compute
case-4_text = refl

case-5 : Holds starred5
unfolding Rattle.nesting.proofs.Computing.cases_compute
case-5 = refl

case-5_calls : Holds starred5_calls
unfolding Rattle.nesting.proofs.Computing.cases_compute
case-5_calls = refl

case-6 : Holds starred6
unfolding Rattle.nesting.proofs.Computing.cases_compute
case-6 = refl

case-7 : Holds starred7
unfolding Rattle.nesting.proofs.Computing.cases_compute
case-7 = refl

case-8 : Holds starred8
unfolding Rattle.nesting.proofs.Computing.cases_compute
case-8 = refl

case-9 : Holds starred9
unfolding Rattle.nesting.proofs.Computing.cases_compute
case-9 = refl

case-10 : Holds starred10
unfolding Rattle.nesting.proofs.Computing.cases_compute
case-10 = refl

case-11 : Holds starred11
unfolding Rattle.nesting.proofs.Computing.cases_compute
case-11 = refl

case_gap : Holds starred_gap
unfolding Rattle.nesting.proofs.Computing.cases_compute
case_gap = refl

case_frame : Holds starred_frame
unfolding Rattle.nesting.proofs.Computing.cases_compute
case_frame = refl

case_back : Holds starred_back
unfolding Rattle.nesting.proofs.Computing.cases_compute
case_back = refl

case_freed : Holds starred_freed
unfolding Rattle.nesting.proofs.Computing.cases_compute
case_freed = refl

data Each : List Case → Type 0 where
  done : Each []
  also : {c : Case} {cs : List Case} → Holds c → Each cs → Each (c ∷ cs)

all_hold : {cs : List Case} → Each cs → map (λ c. c.got) cs ≡ map (λ c. c.want) cs
all_hold done = refl
all_hold (also p q) = ap₂ ◌∷◌ p (all_hold q)

pub starred-hold : map (λ c. c.got) starred ≡ map (λ c. c.want) starred
unfolding starred
starred-hold =
    all_hold
    (also case-1 (also case-2 (also case-3 (also case-4_calls (also case-4_fill (also case-4_plan (also case-4_text
    (also case-5 (also case-5_calls (also case-6 (also case-7 (also case-8 (also case-9 (also case-10 (also case-11
    (also case_gap (also case_frame (also case_back (also case_freed done)))))))))))))))))))
