-- What the changes of a row that moves make of what is shown.
use Rattle.std.proofs.Common.{◌≡◌, ◌≢◌, ℕ, Bool, true, false, List, [], ◌∷◌, Option, Some, None, refl, sym, ap, ◌∙◌}
use Rattle.std.proofs.lemmas.Bool.{false≢true}
use Rattle.std.proofs.lemmas.List.Elements.{All-head, All-tail}
use Rattle.std.specs.Prelude.{if◌then◌else◌}
use Rattle.std.specs.Ordering.{eq_by_cmp}
use Rattle.alt_cells.specs.declared.batch.RowChange.{RowChange}
use Rattle.alt_cells.specs.Changes.{Columns, CanShow, change_between, with_columns, as_shown, written}
use Rattle.alt_cells.specs.Keys.{key_cmp}
use Rattle.alt_cells.proofs.ChangeLaws.{written-change_between, none_shown}
use Rattle.alt_cells.proofs.SameKeys.{key_itself, one_key}
use Rattle.alt_layout.specs.Layout.{change_of, shown_by}
use Rattle.alt_machine.proofs.Rekeying.{moved}
use Rattle.alt_rowchanges.proofs.ChangeLaws.{one_change, two_changes, AreOthers}
use Rattle.alt_views.specs.IndexRows.{KeyedRow, if_said, moved_changes}
use Rattle.alt_views.proofs.Alike.{unsaid as not_said}
use Rattle.alt_views.proofs.Batched.{AreOf, moved_changes-of}
use Rattle.alt_views.proofs.Moved.{is_said}

-- the row that moves was shown at its key
abbrev pub WasShown : Option KeyedRow → List ℕ → Option Columns → Type 0
WasShown None key before = Unit {0}
WasShown (Some o) key before = key ≡ o.0 → before ≡ Some o.1

-- it can be shown
abbrev pub RowCanShow : Option KeyedRow → Type 0
RowCanShow None = Unit {0}
RowCanShow (Some n) = CanShow (Some n.1)

-- a row that is made shows its columns, whatever was shown before
made : (family : ℕ) (n : KeyedRow) (before : Option Columns) → CanShow (Some n.1)
    → written (change_between family n.0 None (Some n.1)) before ≡ Some n.1
made family n before can = written-change_between family n.0 None (Some n.1) can

-- where nothing is said of a row in place, its columns stay
unsaid : (family : ℕ) (key : List ℕ) (old new : Columns) → CanShow (Some old) → CanShow (Some new)
    → (change_between family key (Some old) (Some new)).cells ≡ [] → Some old ≡ Some new
unsaid family key old new can_old can none =
    sym can_old
    ∙ ap (λ given. as_shown (with_columns given old)) (sym none)
    ∙ written-change_between family key (Some old) (Some new) can

-- ---- a row that stays at its key

module _ (family : ℕ) (o n : KeyedRow) (key : List ℕ) (before : Option Columns)
    (was : key ≡ o.0 → before ≡ Some o.1) (can_old : CanShow (Some o.1))
    (can : CanShow (Some n.1)) where
  -- its change
  abbrev in_place : RowChange
  in_place = change_between family o.0 (Some o.1) (Some n.1)

  -- what it makes of what is shown
  changed : (b : Bool) → eq_by_cmp key_cmp key o.0 ≡ b
      → shown_by (if b then Some in_place else None) before
      ≡ (if b then Some n.1 else (if b then None else before))
  changed true e = ap (written in_place) (was (one_key key o.0 e))
      ∙ written-change_between family o.0 (Some o.1) (Some n.1) can
  changed false e = refl

  -- where it says nothing that is shown already
  nothing : in_place.cells ≡ [] → (b : Bool) → eq_by_cmp key_cmp key o.0 ≡ b
      → before ≡ (if b then Some n.1 else (if b then None else before))
  nothing none true e = was (one_key key o.0 e) ∙ unsaid family o.0 o.1 n.1 can_old can none
  nothing none false e = refl

  -- so whether it is made or not, that is shown
  said : shown_by (change_of family key (if_said in_place)) before
      ≡ (if eq_by_cmp key_cmp key o.0 then Some n.1
      else (if eq_by_cmp key_cmp key o.0 then None else before))
  said = by in_place.cells refl
    where
      by : (cells : List (List ℕ × Option (List ℕ))) → in_place.cells ≡ cells
          → shown_by (change_of family key (if_said in_place)) before
          ≡ (if eq_by_cmp key_cmp key o.0 then Some n.1
          else (if eq_by_cmp key_cmp key o.0 then None else before))
      by [] none =
          ap (λ cs. shown_by (change_of family key cs) before) (not_said in_place none)
          ∙ nothing none (eq_by_cmp key_cmp key o.0) refl
      by (cell ∷ cells) some =
          ap (λ cs. shown_by (change_of family key cs) before)
          (is_said in_place (λ none. let no : cell ∷ cells ≡ [] = sym some ∙ none in cc no))
          ∙ ap (λ c. shown_by c before) (one_change in_place key)
          ∙ changed (eq_by_cmp key_cmp key o.0) refl

-- ---- a row that leaves its key

module _ (family : ℕ) (o n : KeyedRow) (key : List ℕ) (before : Option Columns)
    (can : CanShow (Some n.1)) (apart : n.0 ≢ o.0) where
  -- its two changes
  abbrev leaves : RowChange
  leaves = change_between family o.0 (Some o.1) None

  abbrev comes : RowChange
  comes = change_between family n.0 None (Some n.1)

  goes : shown_by (change_of family key (leaves ∷ comes ∷ [])) before
      ≡ (if eq_by_cmp key_cmp key n.0 then Some n.1
      else (if eq_by_cmp key_cmp key o.0 then None else before))
  goes = ap (λ c. shown_by c before) (two_changes family leaves comes key refl refl)
      ∙ by (eq_by_cmp key_cmp key o.0) (eq_by_cmp key_cmp key n.0) refl refl
    where
      by : (a b : Bool) → eq_by_cmp key_cmp key o.0 ≡ a → eq_by_cmp key_cmp key n.0 ≡ b
          → shown_by (if a then Some leaves else (if b then Some comes else None)) before
          ≡ (if b then Some n.1 else (if a then None else before))
      by true true e f = absurd (apart (sym (one_key key n.0 f) ∙ one_key key o.0 e))
      by true false e f = none_shown
      by false true e f = made family n before can
      by false false e f = refl

-- ---- either

-- What is shown at a key after a row moves is what came there, nothing where it left, and else what was shown.
pub shown-moved_changes : (family : ℕ) (o n : Option KeyedRow) (key : List ℕ)
    (before : Option Columns) → WasShown o key before → RowCanShow o → RowCanShow n
    → shown_by (change_of family key (moved_changes family o n)) before ≡ moved key o n before
shown-moved_changes family None None key before was can_old can = refl
shown-moved_changes family (Some o) None key before was can_old can =
    ap (λ c. shown_by c before) (one_change (change_between family o.0 (Some o.1) None) key)
    ∙ by_key (eq_by_cmp key_cmp key o.0)
  where
    by_key : (b : Bool)
        → shown_by (if b then Some (change_between family o.0 (Some o.1) None) else None)
        before ≡ (if b then None else before)
    by_key true = none_shown
    by_key false = refl
shown-moved_changes family None (Some n) key before was can_old can =
    ap (λ c. shown_by c before) (one_change (change_between family n.0 None (Some n.1)) key)
    ∙ by_key (eq_by_cmp key_cmp key n.0)
  where
    by_key : (b : Bool)
        → shown_by (if b then Some (change_between family n.0 None (Some n.1)) else None)
        before ≡ (if b then Some n.1 else before)
    by_key true = made family n before can
    by_key false = refl
shown-moved_changes family (Some o) (Some n) key before was can_old can =
    by_keys (eq_by_cmp key_cmp n.0 o.0) refl
  where
    by_keys : (b : Bool) → eq_by_cmp key_cmp n.0 o.0 ≡ b
        → shown_by (change_of family key
        (if b then if_said (change_between family o.0 (Some o.1) (Some n.1))
        else change_between family o.0 (Some o.1) None
        ∷ change_between family n.0 None (Some n.1) ∷ [])) before
        ≡ (if eq_by_cmp key_cmp key n.0 then Some n.1
        else (if eq_by_cmp key_cmp key o.0 then None else before))
    by_keys true e = said family o n key before was can_old can
        ∙ ap (λ k. if eq_by_cmp key_cmp key k then Some n.1
        else (if eq_by_cmp key_cmp key o.0 then None else before)) (sym (one_key n.0 o.0 e))
    by_keys false e = goes family o n key before can
        (λ same. false≢true (sym e ∙ ap (λ k. eq_by_cmp key_cmp k o.0) same ∙ key_itself o.0))

-- changes of one family are others to another
others-of : (family other : ℕ) (cs : List RowChange) → family ≢ other → AreOf family cs
    → AreOthers other cs
others-of family other [] apart of = tt
others-of family other (c ∷ cs) apart of = (
  λ same. apart (sym (All-head (λ (c : RowChange). c.family ≡ family) c cs of) ∙ same),
  others-of family other cs apart (All-tail (λ (c : RowChange). c.family ≡ family) c cs of),
)

-- so are those of a row that moves
pub others-moved_changes : (family other : ℕ) (o n : Option KeyedRow) → family ≢ other
    → AreOthers other (moved_changes family o n)
others-moved_changes family other o n apart =
    others-of family other (moved_changes family o n) apart
    (moved_changes-of family o n)
