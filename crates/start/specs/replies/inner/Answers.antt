-- For inner functions' contracts only: a refused and an accepted start. Definitions only. Assumes nothing.
use Rattle.std.specs.Prelude.{Ok, Err, List, ℕ, replicate}
use Rattle.filling.specs.declared.Refusal.{Refusal}
use Rattle.filling.specs.declared.Tables.{Tables}
use Rattle.filling.specs.State.{empty_layout, zero_state}
use Rattle.start.specs.declared.replies.Started.{Started}

-- a refused start
unfoldable pub not_started : Refusal → Started
not_started k = record { verdict = Err k; state = zero_state }

-- an accepted start, from its tables and its order
unfoldable pub started_with : Tables → List ℕ → Started
started_with t order =
    record {
      verdict = Ok tt;
      state = record {
        tables = t;
        order = order;
        taken = 0;
        next_column = replicate 1024 1;
        look_counts = replicate 1024 0;
        placed_strips = 0;
        layout = empty_layout t.sheet_bounds.left;
      };
    }
