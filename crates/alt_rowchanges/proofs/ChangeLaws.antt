-- Which of the changes of a write is that of a row.
use Rattle.std.proofs.Common.{◌≡◌, ◌≢◌, ℕ, Bool, true, false, List, [], ◌∷◌, ◌++◌, Option, Some, None, refl, ap, ◌∙◌}
use Rattle.std.proofs.lemmas.Bool.{eqb-true}
use Rattle.std.specs.Prelude.{◌==◌, if◌then◌else◌}
use Rattle.std.specs.Ordering.{eq_by_cmp}
use Rattle.alt_base.proofs.Numbers.{equal_is_told}
use Rattle.alt_cells.specs.declared.batch.RowChange.{RowChange}
use Rattle.alt_cells.specs.Keys.{key_cmp}
use Rattle.alt_layout.specs.Layout.{Layout, change_of, shown, shown_by}
use Rattle.alt_layout.specs.Writes.{with_write}
use Rattle.alt_writes.specs.Writes.{Write}

-- after a write each row shows what the write's change of it makes of what it showed
abbrev pub ShowsWrite : Layout → Write → Type 0
ShowsWrite l w = (family : ℕ) (key : List ℕ) → shown (with_write l w) family key
    ≡ shown_by (change_of family key w.changes) (shown l family key)

own : (family : ℕ) → (family == family) ≡ true
own family = equal_is_told family family refl

-- a change of one row alone, at a key of its family
pub one_change : (c : RowChange) (key : List ℕ) → change_of c.family key (c ∷ [])
    ≡ (if eq_by_cmp key_cmp key c.key then Some c else None)
one_change c key = ap (λ b.
    if b then (if eq_by_cmp key_cmp key c.key then Some c else None) else None) (own c.family)

-- two changes of one family
pub two_changes : (family : ℕ) (c d : RowChange) (key : List ℕ) → c.family ≡ family
    → d.family ≡ family → change_of family key (c ∷ d ∷ [])
    ≡ (if eq_by_cmp key_cmp key c.key then Some c
    else (if eq_by_cmp key_cmp key d.key then Some d else None))
two_changes family c d key is_c is_d =
    ap (λ b. if b then (if eq_by_cmp key_cmp key c.key then Some c
    else change_of family key (d ∷ [])) else change_of family key (d ∷ []))
    (ap (λ f. f == family) is_c ∙ own family)
    ∙ ap (λ (o : Option RowChange). if eq_by_cmp key_cmp key c.key then Some c else o)
    (ap (λ b. if b then (if eq_by_cmp key_cmp key d.key then Some d else None) else None)
    (ap (λ f. f == family) is_d ∙ own family))

-- a family that isn't the one of a change
pub other_family : (c : RowChange) (cs : List RowChange) (family : ℕ) (key : List ℕ)
    → c.family ≢ family → change_of family key (c ∷ cs) ≡ change_of family key cs
other_family c cs family key other = by_test (c.family == family) refl
  where
    by_test : (b : Bool) → (c.family == family) ≡ b
        → (if b then (if eq_by_cmp key_cmp key c.key then Some c else change_of family key cs)
        else change_of family key cs) ≡ change_of family key cs
    by_test true e = absurd (other (eqb-true c.family family e))
    by_test false e = refl

-- ---- changes of other families

-- each of the changes is of another family
abbrev pub AreOthers : ℕ → List RowChange → Type 0
AreOthers family [] = Unit {0}
AreOthers family (c ∷ cs) = (c.family ≢ family) × AreOthers family cs

-- so are those of two lists
pub others-append : (family : ℕ) (cs ds : List RowChange) → AreOthers family cs
    → AreOthers family ds → AreOthers family (cs ++ ds)
others-append family [] ds h k = k
others-append family (c ∷ cs) ds h k = (h.0, others-append family cs ds h.1 k)

-- in front they don't count
pub change_of-behind : (family : ℕ) (key : List ℕ) (cs ds : List RowChange) → AreOthers family cs
    → change_of family key (cs ++ ds) ≡ change_of family key ds
change_of-behind family key [] ds others = refl
change_of-behind family key (c ∷ cs) ds others =
    other_family c (cs ++ ds) family key others.0 ∙ change_of-behind family key cs ds others.1

-- nor alone
pub change_of-none : (family : ℕ) (key : List ℕ) (cs : List RowChange) → AreOthers family cs
    → change_of family key cs ≡ None
change_of-none family key [] others = refl
change_of-none family key (c ∷ cs) others =
    other_family c cs family key others.0 ∙ change_of-none family key cs others.1

-- nor behind
pub change_of-front : (family : ℕ) (key : List ℕ) (cs ds : List RowChange) → AreOthers family ds
    → change_of family key (cs ++ ds) ≡ change_of family key cs
change_of-front family key [] ds others = change_of-none family key ds others
change_of-front family key (c ∷ cs) ds others =
    ap (λ o. if c.family == family then (if eq_by_cmp key_cmp key c.key then Some c else o) else o)
    (change_of-front family key cs ds others)
