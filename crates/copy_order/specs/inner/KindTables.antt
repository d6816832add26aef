-- For inner functions' contracts only: what the tables of a job's kinds say of the order of its copies. Definitions only. Assumes nothing.
use Rattle.std.specs.Prelude.{ℕ, zero, suc, ◌+◌, ◌*◌, List, [], get_or, replicate, eqb, Float}
use Rattle.std.specs.Float.{nan}
use Rattle.kinds.specs.Kinds.{signed}
use Rattle.nesting.specs.CopyOrder.{Numbered}

-- kind k with its number, as the tables have it; its sets lie elsewhere
unfoldable pub numbered_at : List ℕ → List Float → ℕ → Numbered
numbered_at rows areas k =
    record {
      number = k;
      kind = record {
        quantity = get_or rows (4 * k) 0;
        fill = eqb (get_or rows (4 * k + 1) 0) 1;
        priority = signed (get_or rows (4 * k + 2) 0);
        area = get_or areas k nan;
        orientations = [];
      };
    }

-- the copies of kind k
unfoldable pub copies_at : List ℕ → ℕ → List ℕ
copies_at rows k = replicate (get_or rows (4 * k) 0) k

-- how many copies the first n kinds have
unfoldable pub copies_in : List ℕ → ℕ → ℕ
copies_in rows zero = 0
copies_in rows (suc n) = copies_in rows n + get_or rows (4 * n) 0
