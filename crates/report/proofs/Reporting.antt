-- The plan of a filling that ended, or of one that was refused. Assumes nothing.
use Rattle.std.specs.Prelude.{Ok, Err}
use Prim.Native.Nat.{ℕ, ◌*◌, ◌≤◌}
use native.Mathlib.Omega.{arith}
use mathlib.Core.Path.{◌≡◌, sym, ap, ap₂, ◌∙◌}
use mathlib.Core.List.{List}
use lib.ListN.{length}
use lib.Ieee.{Float}
use Rattle.numbers.specs.Numbers.{pos_zero}
use Rattle.frames.specs.declared.Frame.{Frame}
use Rattle.job.specs.Jobs.{Job, frame_of}
use Rattle.filling.specs.declared.State.{State}
use Rattle.filling.specs.declared.Plan.{Plan}
use Rattle.filling.specs.declared.Refusal.{Refusal}
use Rattle.filling.specs.Shapes.{Planner, planner_of, Standing}
use Rattle.filling.specs.Rooms.{Lent, laid, zeros, only_positions}
use Rattle.filling.specs.State.{standing_of}
use Rattle.filling.specs.Accounts.{framed_positions, positions, flat_positions, offcut_of, plan_of}
use Rattle.filling.specs.Fill.{not_planned, planned_with}
use Rattle.filling.proofs.Reading.{length-zeros}
use Rattle.accounts.specs.tables.inner.Tabled.{Tabled}
use Rattle.place.specs.declared.Totals.{Totals}
use Rattle.accounts.specs.inner.Told.{PlanTold, Totalled}
use Rattle.filling_laws.specs.fill_laws.inner.Prepared.{state_by}
use Rattle.report.specs.on_sheet.inner.Turned.{back_to}
use Rattle.report.specs.inner.Replies.{reply, reply_of}
use Rattle.report.proofs.on_sheet.Back.{back-positions}
use Rattle.report.proofs.Agree.{Lent', standing_is, plan_is, told, totalled}

-- refused: only the number
pub refused-reply : (l : Lent) (k : Refusal) (room : List Float) → room ≡ zeros pos_zero l.positions → reply (Err k) room ≡ reply_of (not_planned k l)
unfolding not_planned only_positions laid
refused-reply l k room e = rw e

-- accepted: what plan_of answers, its positions back on the sheet
pub told-reply : (j : Job) (areas : List Float) (p : Planner) (next : List ℕ) (l : Lent) (rows : List ℕ) (kinds : ℕ) (order looks : List ℕ) (t : Totals) (orientation : List ℕ) (x y gap : List Float) (offcut : Float) (n : ℕ) (room₀ room : List Float) (plan : Plan)
    → length order ≤ length orientation → length order ≤ length x → length order ≤ length y → length order ≤ length gap
    → Tabled j rows areas → length j.kinds ≡ kinds
    → offcut_of (planner_of j) (state_by p order (length order) next looks t orientation x y gap) ≡ offcut → room₀ ≡ zeros pos_zero l.positions
    → ((j : Job) (areas : List Float) (s : State) → Tabled j rows areas → length j.kinds ≡ kinds
    → PlanTold s order orientation x y gap looks (length order) → Totalled j s t.right t.unplaced_area offcut
    → (plan ≡ plan_of j s n) × (room ≡ laid (flat_positions (framed_positions j (standing_of s))) room₀))
    → (f : Frame) (sheet : List Float) → 6 * length order ≤ length room₀ → frame_of j.header ≡ f → sheet ≡ back_to f room (length order)
    → reply (Ok plan) sheet ≡ reply_of (planned_with j l (state_by p order (length order) next looks t orientation x y gap) n)
unfolding planned_with only_positions
told-reply j areas p next l rows kinds order looks t orientation x y gap offcut n room₀ room plan io ix iy ig T m e z E f sheet h g b =
    let s = Lent' p order next looks t orientation x y gap io ix iy ig in
    let S = state_by p order (length order) next looks t orientation x y gap in
    let a = E j areas s T m (told p order next looks t orientation x y gap io ix iy ig)
    (totalled p order next looks t orientation x y gap io ix iy ig j offcut e) in
    let q : plan ≡ plan_of j S n = a.0 ∙ sym (plan_is p order next looks t orientation x y gap io ix iy ig j n) in
    let r : room ≡ laid (flat_positions (framed_positions j (standing_of S))) (zeros pos_zero l.positions) =
    a.1 ∙ ap₂ (λ (c : List Standing) (w : List Float). laid (flat_positions (framed_positions j c)) w)
    (sym (standing_is p order next looks t orientation x y gap io ix iy ig)) z in
    let k : length room₀ ≡ length l.positions = ap length z ∙ length-zeros pos_zero l.positions in
    let u : sheet ≡ laid (flat_positions (positions j (standing_of S))) (zeros pos_zero l.positions) =
    b ∙ (ap (λ (w : List Float). back_to f w (length order)) r ∙ back-positions j S f g l.positions (omega arith)) in
    ap₂ (λ (w : Plan) (y : List Float). record { verdict = Ok tt; plan = w; positions = y }) q u
