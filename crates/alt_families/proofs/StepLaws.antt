-- One step of a walk over a range.
use Rattle.std.proofs.Common.{◌≡◌, ℕ, Bool, true, false, List, [], ◌∷◌, Option, Some, None, refl, sym, ap, subst, ◌∙◌}
use Rattle.std.specs.Prelude.{option_map}
use Rattle.std.specs.List.{cons_option}
use Rattle.alt_cells.specs.Changes.{Columns}
use Rattle.alt_cells.specs.Shown.{row_shown}
use Rattle.alt_cells.specs.Walks.{RowList, Gives}
use Rattle.alt_cells.specs.declared.row.RowCells.{RowCells}
use Rattle.alt_layout.specs.Layout.{shown_of}
use Rattle.alt_families.specs.Ranges.{Ahead, AreAhead, is_out, shown_in}
use Rattle.alt_families.proofs.RangeLaws.{ahead_next, first_within, out_within}

-- the row given stood first, whatever is left
abbrev pub IsFirst : RowList → Option (List ℕ × RowCells) → Type 0
IsFirst rest given = Gives (λ _. Unit {0}) rest given

module _ (Left After : RowList → Type 0) (forward : Bool) (from : List ℕ) (to : Option (List ℕ))
    (shows : List (List ℕ × Columns)) (ahead : Ahead Left forward from to shows)
    (given : Option (List ℕ × RowCells))
    (gives : (rest : RowList) → Left rest → IsFirst rest given) where
  -- what was given stood first
  first_of : (e : List ℕ × RowCells) → given ≡ Some e → (rest : RowList) → IsFirst rest given
      → (more : RowList) × (rest ≡ e ∷ more)
  first_of e is [] left = absurd (subst (IsFirst []) is left)
  first_of e is (x ∷ xs) left =
      let both : (e ≡ x) × Unit {0} = subst (IsFirst (x ∷ xs)) is left in
      (xs, ap (λ y. y ∷ xs) (sym both.0))

  none_of : given ≡ None → (rest : RowList) → IsFirst rest given → rest ≡ []
  none_of is [] left = refl
  none_of is (x ∷ xs) left = absurd (subst (IsFirst (x ∷ xs)) is left)

  -- what is ahead, by the first
  parted : (e : List ℕ × RowCells) → given ≡ Some e
      → (more : RowList) × AreAhead forward from to (e ∷ more) × Left (e ∷ more)
      × (shows ≡ shown_in from to (e ∷ more))
  parted e is =
      let p = first_of e is ahead.rest (gives ahead.rest ahead.left) in (
        p.0,
        subst (AreAhead forward from to) p.1 ahead.are,
        subst Left p.1 ahead.left,
        ahead.shown ∙ ap (shown_in from to) p.1,
      )

  -- one behind the range ends the walk
  pub step_out : (e : List ℕ × RowCells) → given ≡ Some e → is_out forward from to e.0 ≡ true
      → shows ≡ []
  step_out e is out = let p = parted e is in
      p.3 ∙ ap (shown_of row_shown) (out_within forward from to e p.0 p.1 out)

  -- and so does none
  pub step_none : given ≡ None → shows ≡ []
  step_none is = ahead.shown
      ∙ ap (shown_in from to) (none_of is ahead.rest (gives ahead.rest ahead.left))

  -- the rows behind the first
  pub step_next : (e : List ℕ × RowCells) → given ≡ Some e → is_out forward from to e.0 ≡ false
      → ((more : RowList) → AreAhead forward from to (e ∷ more)
      → shows ≡ shown_in from to (e ∷ more) → Left (e ∷ more) → After more)
      → (o : Option Columns) → row_shown e.1 ≡ o → (more : List (List ℕ × Columns))
      × (shows ≡ cons_option (option_map (λ c. (e.0, c)) o) more) × Ahead After forward from to more
  step_next e is in_range leaves o shown = let p = parted e is in (
    shown_in from to p.0,
    p.3 ∙ ap (shown_of row_shown) (first_within forward from to e p.0 p.1 in_range)
        ∙ ap (λ (x : Option Columns). cons_option (option_map (λ c. (e.0, c)) x)
        (shown_in from to p.0)) shown,
    record {
      rest = p.0;
      left = leaves p.0 p.1 p.3 p.2;
      are = ahead_next forward from to e p.0 p.1;
      shown = refl;
    },
  )
