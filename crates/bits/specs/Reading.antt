-- Document 01, "Refused because of the input", numbers 1 to 8, and reading fields one after the other. Definitions only. Assumes nothing.
use Rattle.std.specs.Prelude.{ℕ, ◌+◌, ◌*◌, Bool, cond, List, length, leb}
use Rattle.bits.specs.declared.Refusal.{Refusal}
use Rattle.bits.specs.declared.Refusal.TheVariants.{Truncated, TrailingData, UnknownVersion, NonFinite, OutOfRange, CountOutOfRange, TooManyCopies}
use Rattle.bits.specs.declared.Refusal.TheVariants.{TooManyColumns}
use Rattle.bits.specs.Bits.{field_at}

-- the table's numbers
abbrev pub job_refusal_number : Refusal → ℕ
-- "bytes end inside a field"
job_refusal_number Truncated = 1
-- "a set filling bit, or a further byte"
job_refusal_number TrailingData = 2
-- "version not 1", document 02, W1: "versions other than 1 and 2"
job_refusal_number UnknownVersion = 3
-- "resolution, coordinate or area not finite"
job_refusal_number NonFinite = 4
-- "coordinate beyond ±100,000 mm; area outside 0..1e12; resolution outside 0.001..10,000"
job_refusal_number OutOfRange = 5
-- "a count or quantity outside its range"
job_refusal_number CountOutOfRange = 6
-- "more than 4,096 copies in all"
job_refusal_number TooManyCopies = 7
-- "sheet width / resolution above 1,000,000"
job_refusal_number TooManyColumns = 8

-- "Fields are judged as read": what is read and the bit position after it, or the first refusal met
pub data Read (A : Type 0) : Type 0 where
  ok : A → ℕ → Read A
  bad : Refusal → Read A

-- of the bytes, from a bit position on
abbrev pub Reader : Type 0 → Type 0
Reader A = List ℕ → ℕ → Read A

unfoldable pub after : {A B : Type 0} → Read A → (A → ℕ → Read B) → Read B
after (ok a q) f = f a q
after (bad k) f = bad k

infixl 55 ◌>>=◌
infixl 55 ◌>>◌
abbrev pub ◌>>=◌ : {A B : Type 0} → Reader A → (A → Reader B) → Reader B
◌>>=◌ m f bytes p = after (m bytes p) (λ a q. f a bytes q)

abbrev pub ◌>>◌ : {A B : Type 0} → Reader A → Reader B → Reader B
◌>>◌ m f bytes p = after (m bytes p) (λ a q. f bytes q)

abbrev pub give : {A : Type 0} → A → Reader A
give a bytes p = ok a p

-- the refusal k where the test fails
abbrev pub unless : Refusal → Bool → Reader (Unit {0})
unless k t bytes p = cond t (ok tt p) (bad k)

-- a field of w bits, as a number; 1: "bytes end inside a field"
unfoldable pub bits : ℕ → Reader ℕ
bits w bytes p = cond (leb (p + w) (8 * length bytes)) (ok (field_at bytes p w 0) (p + w)) (bad Truncated)
