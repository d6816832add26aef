-- Document 01, "one leaf hands back the inset strips or the apart strips of one orientation", and refusal 9. Definitions only. Assumes nothing.
use Rattle.std.specs.Prelude.{Result, Ok, Err, ℕ, ◌+◌, ◌*◌, Bool, not, ◌&&◌, cond, List, [], length, get_or, ltb, Float}
use Rattle.filling.specs.declared.Refusal.{Refusal}
use Rattle.trapezoid.specs.Strip.{part_of}
use Rattle.job.specs.Jobs.{Job, Answer, accepted, refused, read_job}
use Rattle.filling.specs.declared.Refusal.TheVariants as Why
use Rattle.filling.specs.Refusals.{is_refused, refuse_if}
use Rattle.filling.specs.State.{orientation_counts, Part, part_at}

-- "a kind or orientation asked for that the job lacks"
unfoldable pub lacks : Job → ℕ → ℕ → Bool
lacks j k o = not (ltb k (length j.kinds) && ltb o (get_or (orientation_counts j) k 0))

-- a job that is refused: its number; then 9
unfoldable pub shape_given : Answer → ℕ → ℕ → Result (Unit {0}) Refusal
shape_given (refused r) k o = Err (Why.Job r)
shape_given (accepted j) k o = refuse_if (lacks j k o) Why.MissingShape (Ok tt)

-- the public operation `shape_verdict`: whether the job has the orientation of the kind
unfoldable pub shape_verdict : List ℕ → ℕ → ℕ → Result (Unit {0}) Refusal
shape_verdict bytes k o = shape_given (read_job bytes) k o

-- where the strips of one orientation lie, by its part of the table and the flag
unfoldable pub part_in : Bool → Part → List Float → List Float → List Float
part_in is_inset q apart inset =
    cond is_inset (part_of inset q.inset_start q.inset_count) (part_of apart q.apart_start q.apart_count)

-- the public operation `strips_by_kind`, with the table of parts that a start leaves; "9 hands back an empty part"
unfoldable pub strips_by_kind : List ℕ → List ℕ → List Float → List Float → ℕ → ℕ → Bool → List Float
strips_by_kind bytes parts apart inset k o is_inset =
    cond (is_refused (shape_verdict bytes k o)) [] (part_in is_inset (part_at parts (16 * k + o)) apart inset)
