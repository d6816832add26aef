-- Laws of what C is told. Assumes nothing.
use mathlib.Core.Path.{◌≡◌, ap, ◌∙◌}
use Prim.Native.Nat.{ℕ}
use mathlib.Core.List.{List, [], ◌∷◌}
use lib.ListN.{get_or, set}
use lib.Seq.{sets}
use lib.Ieee.{Float}
use Rattle.job_bits.specs.Replies.{reply_number}
use Rattle.read_tables.specs.Tabled as tabling
use Rattle.write_job.specs.Written as writing
use Rattle.job_exports.specs.JobTold.{told_header, told_resolution, told_tables, header_of, bytes_written, told_job}

-- eight numbers, stored one after the other
pub eight_stored : (a b c d e f g h : ℕ) (l₀ l₁ l₂ l₃ l₄ l₅ l₆ l₇ l₈ : List ℕ) → l₁ ≡ set l₀ 0 a → l₂ ≡ set l₁ 1 b → l₃ ≡ set l₂ 2 c → l₄ ≡ set l₃ 3 d
    → l₅ ≡ set l₄ 4 e → l₆ ≡ set l₅ 5 f → l₇ ≡ set l₆ 6 g → l₈ ≡ set l₇ 7 h → l₈ ≡ sets l₀ 0 (a ∷ b ∷ c ∷ d ∷ e ∷ f ∷ g ∷ h ∷ [])
eight_stored a b c d e f g h l₀ l₁ l₂ l₃ l₄ l₅ l₆ l₇ l₈ e₁ e₂ e₃ e₄ e₅ e₆ e₇ e₈ =
    e₈ ∙ ap (λ (l : List ℕ). set l 7 h) (e₇ ∙ ap (λ (l : List ℕ). set l 6 g) (e₆ ∙ ap (λ (l : List ℕ). set l 5 f) (e₅ ∙ ap (λ (l : List ℕ). set l 4 e)
    (e₄ ∙ ap (λ (l : List ℕ). set l 3 d) (e₃ ∙ ap (λ (l : List ℕ). set l 2 c) (e₂ ∙ ap (λ (l : List ℕ). set l 1 b) e₁))))))

pub header_is : (ns : List ℕ) (r : Float) (v c a k n s : ℕ) → v ≡ get_or ns 0 0 → c ≡ get_or ns 1 0 → a ≡ get_or ns 2 0 → k ≡ get_or ns 3 0 → n ≡ get_or ns 4 0
    → s ≡ get_or ns 5 0 → record { version = v; corner = c; axis = a; kinds = k; rounds = n; seed = s; resolution = r } ≡ header_of ns r
unfolding header_of
header_is ns r v c a k n s e₁ e₂ e₃ e₄ e₅ e₆ =
    λ i. record { version = e₁ i; corner = e₂ i; axis = e₃ i; kinds = e₄ i; rounds = e₅ i; seed = e₆ i; resolution = r }

pub tables-told : (header header' : List ℕ) (resolution resolution' : List Float) (n : ℕ) (t u : tabling.Laid) → t ≡ u → n ≡ reply_number t.reply
    → header' ≡ told_header t.reply header → resolution' ≡ told_resolution t.reply resolution
    → record { number = n; header = header'; resolution = resolution'; rows = t.rows; areas = t.areas; counts = t.counts; coordinates = t.coordinates }
    ≡ told_tables header resolution u
unfolding told_tables
tables-told header header' resolution resolution' n t u e f g h =
    (λ i. record { number = f i; header = g i; resolution = h i; rows = t.rows; areas = t.areas; counts = t.counts; coordinates = t.coordinates })
    ∙ ap (told_tables header resolution) e

pub job-told : (room after : List ℕ) (n k : ℕ) (l m : writing.Left) → l ≡ m → n ≡ reply_number l.reply → k ≡ bytes_written l.reply
    → after ≡ set room 0 k → record { number = n; out = l.out; length = after } ≡ told_job room m
unfolding told_job
job-told room after n k l m e f g h =
    (λ i. record { number = f i; out = l.out; length = (h ∙ ap (set room 0) g) i }) ∙ ap (told_job room) e
