-- The order that the tables give is the job's. Assumes nothing.
use Prim.Native.Nat.{ℕ, zero, suc, ◌+◌, ◌*◌, ◌<◌}
use native.Mathlib.Omega.{arith}
use mathlib.Core.Path.{◌≡◌, refl, ap, sym, ◌∙◌}
use mathlib.Core.Bool.{Bool}
use mathlib.Core.List.{List, [], ◌∷◌, ◌++◌, map, flat_map}
use lib.ListN.{length, get_or, replicate, length-append, length-replicate, get_or-map}
use lib.IntN.{ℤ}
use lib.Dec.{eqb}
use lib.Ieee.{Float, nan}
use Rattle.slabs.specs.Slab.{up, sort}
use Rattle.slabs.specs.inner.Tables.{down}
use Rattle.slabs.proofs.Sorting.{up_snoc}
use Rattle.kinds.specs.Kinds.{Kind, signed}
use Rattle.job.specs.Jobs.{Job}
use Rattle.filling.proofs.Steps.{flat_map_snoc}
use Rattle.accounts.specs.tables.inner.Tabled.{Tabled}
use Rattle.nesting.specs.CopyOrder.{Numbered, numbered, same_priority, larger_first, higher_first, ahead, copy_order}
use Rattle.nesting.specs.Rounds.{no_kind}
use Rattle.copy_order.specs.inner.KindTables.{numbered_at, copies_at, copies_in}
use Rattle.copy_order.proofs.Lines.{at}
use Rattle.copy_order.proofs.Sorted.{sort_measure, sort-map, flat_map-map}

-- the copies of a kind
abbrev pub copies_of_kind : Numbered → List ℕ
copies_of_kind a = replicate a.kind.quantity a.number

abbrev pub bare_of : ℕ → ℕ → Bool → ℤ → Float → Numbered
bare_of n q f p a = record { number = n; kind = record { quantity = q; fill = f; priority = p; area = a; orientations = [] } }

-- a kind without its sets
abbrev pub bare : Numbered → Numbered
bare a = bare_of a.number a.kind.quantity a.kind.fill a.kind.priority a.kind.area

bare-ahead : (a b : Numbered) → ahead (bare a) (bare b) ≡ ahead a b
unfolding ahead higher_first larger_first same_priority
bare-ahead a b = refl

-- the line's copies are those of the kinds in it
pub line-copies : (rows : List ℕ) (areas : List Float) (line : List ℕ) (n : ℕ) → flat_map (copies_at rows) (down (at line) n) ≡ flat_map copies_of_kind (down (λ (i : ℕ). numbered_at rows areas (at line i)) n)
unfolding down copies_at numbered_at flat_map
line-copies rows areas line zero = refl
line-copies rows areas line (suc n) = ap (λ (r : List ℕ). copies_at rows (at line n) ++ r) (line-copies rows areas line n)

module _ (rows : List ℕ) (areas : List Float) where
  pub all_copies : (n : ℕ) → length (flat_map copies_of_kind (up (numbered_at rows areas) 0 n)) ≡ copies_in rows n
  unfolding up copies_in numbered_at flat_map
  all_copies zero = refl
  all_copies (suc n) =
      let z : 0 + n ≡ n = omega arith in
      ap (λ (l : List Numbered). length (flat_map copies_of_kind l)) (up_snoc (numbered_at rows areas) 0 n ∙ ap (λ (i : ℕ). up (numbered_at rows areas) 0 n ++ (numbered_at rows areas i ∷ [])) z)
      ∙ (ap length (flat_map_snoc copies_of_kind (up (numbered_at rows areas) 0 n) (numbered_at rows areas n))
      ∙ (length-append (flat_map copies_of_kind (up (numbered_at rows areas) 0 n)) (copies_of_kind (numbered_at rows areas n))
      ∙ (ap (λ (m : ℕ). m + length (copies_of_kind (numbered_at rows areas n))) (all_copies n)
      ∙ ap (λ (m : ℕ). copies_in rows n + m) (length-replicate (get_or rows (4 * n) 0) n))))

  -- how many copies the sorted line has
  pub line-length : (line : List ℕ) (n : ℕ) → down (λ (i : ℕ). numbered_at rows areas (at line i)) n ≡ sort ahead (up (numbered_at rows areas) 0 n) → length (flat_map (copies_at rows) (down (at line) n)) ≡ copies_in rows n
  line-length line n e =
      ap length (line-copies rows areas line n)
      ∙ (ap (λ (l : List Numbered). length (flat_map copies_of_kind l)) e
      ∙ (sort_measure ahead length length-append copies_of_kind (up (numbered_at rows areas) 0 n) ∙ all_copies n))

  kinds-numbered : (m : ℕ) (ks : List Kind) → ((k : ℕ) → k < length ks → numbered_at rows areas (m + k) ≡ bare (record { number = m + k; kind = get_or ks k no_kind })) → up (numbered_at rows areas) m (length ks) ≡ map bare (numbered m ks)
  unfolding up numbered
  kinds-numbered m [] h = refl
  kinds-numbered m (k ∷ ks) h =
      let z : m + 0 ≡ m = omega arith in
      let o : m + 1 ≡ suc m = omega arith in
      let first : numbered_at rows areas m ≡ bare (record { number = m; kind = k }) = ap (numbered_at rows areas) (sym z) ∙ (h 0 (omega arith) ∙ ap (λ (i : ℕ). bare (record { number = i; kind = k })) z) in
      let next : (i : ℕ) → i < length ks → numbered_at rows areas (suc m + i) ≡ bare (record { number = suc m + i; kind = get_or ks i no_kind }) = λ (i : ℕ) l. let w : m + suc i ≡ suc m + i = omega arith in ap (numbered_at rows areas) (sym w) ∙ (h (suc i) (omega arith) ∙ ap (λ (q : ℕ). bare (record { number = q; kind = get_or ks i no_kind })) w) in
      ap (λ (a : Numbered). a ∷ up (numbered_at rows areas) (m + 1) (length ks)) first
      ∙ ap (λ (l : List Numbered). bare (record { number = m; kind = k }) ∷ l) (ap (λ (i : ℕ). up (numbered_at rows areas) i (length ks)) o ∙ kinds-numbered (suc m) ks next)

  module _ (j : Job) (t : Tabled j rows areas) where
    kind-tabled : (k : ℕ) → k < length j.kinds → numbered_at rows areas k ≡ bare (record { number = k; kind = get_or j.kinds k no_kind })
    unfolding numbered_at no_kind
    kind-tabled k h =
        let a = get_or j.kinds k no_kind in
        let q : get_or rows (4 * k) 0 ≡ a.quantity = sym (t.quantity k h) ∙ get_or-map (λ (x : Kind). x.quantity) j.kinds k no_kind in
        let f : eqb (get_or rows (4 * k + 1) 0) 1 ≡ a.fill = sym (t.fill k h) ∙ get_or-map (λ (x : Kind). x.fill) j.kinds k no_kind in
        let p : signed (get_or rows (4 * k + 2) 0) ≡ a.priority = sym (t.priority k h) ∙ get_or-map (λ (x : Kind). x.priority) j.kinds k no_kind in
        let s : get_or areas k nan ≡ a.area = sym (t.area k h) ∙ get_or-map (λ (x : Kind). x.area) j.kinds k no_kind in
        ap (λ (x : ℕ). bare_of k x (eqb (get_or rows (4 * k + 1) 0) 1) (signed (get_or rows (4 * k + 2) 0)) (get_or areas k nan)) q
        ∙ (ap (λ (x : Bool). bare_of k a.quantity x (signed (get_or rows (4 * k + 2) 0)) (get_or areas k nan)) f
        ∙ (ap (λ (x : ℤ). bare_of k a.quantity a.fill x (get_or areas k nan)) p
        ∙ ap (bare_of k a.quantity a.fill a.priority) s))

    pub tabled-kinds : up (numbered_at rows areas) 0 (length j.kinds) ≡ map bare (numbered 0 j.kinds)
    tabled-kinds =
        kinds-numbered 0 j.kinds
        (λ (k : ℕ) h. let z : 0 + k ≡ k = omega arith in ap (numbered_at rows areas) z ∙ (kind-tabled k h ∙ ap (λ (i : ℕ). bare (record { number = i; kind = get_or j.kinds k no_kind })) (sym z)))

    sorted_kinds : flat_map copies_of_kind (sort ahead (up (numbered_at rows areas) 0 (length j.kinds))) ≡ copy_order j
    unfolding copy_order
    sorted_kinds =
        ap (λ (l : List Numbered). flat_map copies_of_kind (sort ahead l)) tabled-kinds
        ∙ (ap (flat_map copies_of_kind) (sort-map ahead bare bare-ahead (numbered 0 j.kinds))
        ∙ flat_map-map copies_of_kind bare (sort ahead (numbered 0 j.kinds)))

    -- the sorted line gives the job's copies
    pub line-order : (line : List ℕ) (n : ℕ) → length j.kinds ≡ n → down (λ (i : ℕ). numbered_at rows areas (at line i)) n ≡ sort ahead (up (numbered_at rows areas) 0 n) → flat_map (copies_at rows) (down (at line) n) ≡ copy_order j
    line-order line n l e =
        line-copies rows areas line n
        ∙ (ap (flat_map copies_of_kind) e
        ∙ (ap (λ (i : ℕ). flat_map copies_of_kind (sort ahead (up (numbered_at rows areas) 0 i))) (sym l) ∙ sorted_kinds))
