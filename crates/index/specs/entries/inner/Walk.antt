-- Document 01, refusal 31: "entries that are not those of the standing strips". Definitions only. Assumes nothing.
use Rattle.std.specs.Prelude.{Option, Some, None, ℕ, ◌+◌, true, false, ◌&&◌, List, [], ◌∷◌, length, get_or, ltb, eqb, Float}
use Rattle.index.specs.declared.Index.{Index}
use Rattle.index.specs.inner.Listing.{Laid}

-- where the list `is` ends if it stands in the entries from e on
unfoldable pub follows : List ℕ → ℕ → List ℕ → Option ℕ
follows entries e [] = Some e
follows entries e (i ∷ is) = elim (ltb e (length entries) && eqb (get_or entries e 0) i) [ true ↦ follows entries (e + 1) is | false ↦ None ]

-- for inner contracts only: what an answer says of the starts
abbrev pub Known : Index → List Float → ℕ → List ℕ → List ℕ → Option ℕ → Type 0
Known ix standing n entries starts (Some e) = Laid ix standing n entries starts
Known ix standing n entries starts None = Unit {0}
