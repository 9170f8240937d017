-- The row of a change: its columns in order, what stands at each of them, and that a row with these is that of the change.
use Rattle.std.proofs.Common.{◌≡◌, refl, sym, ap, subst, ◌∙◌, ℕ, Bool, true, false, cond, ◌&&◌, T, List, [], ◌∷◌, Option, Some, None, option_map, bytes_eq, codes}
use Rattle.std.proofs.lemmas.Slice.Eq.{bytes_eq-Decides}
use Rattle.std.specs.FinMap.{entries, entries-from_sorted, get, get-entries, get-from_sorted, same_map}
use Rattle.std.specs.FinMap.Entries.{find, is_sorted}
use Rattle.std.specs.Int.{w64, to_be_bytes}
use Rattle.std.specs.List.{list_all}
use Rattle.std.specs.Ordering.{eq_by_cmp}
use Rattle.alt_base.proofs.Orderings.{is_eq-holds}
use Rattle.alt_cells.specs.Changes.{Columns}
use Rattle.alt_cells.specs.Keys.{key_cmp}
use Rattle.alt_cells.proofs.CellLaws.{key_total, key_exact}
use Rattle.alt_changes.specs.ChangeRows.{change_columns, columns_of_change, item_bytes, writer_cell}
use Rattle.alt_changes.specs.NoChange.{is_column}
use Rattle.alt_codec.specs.declared.writer.Writer.{Writer}
use Rattle.alt_codec.specs.declared.writer.Writer.TheVariants.{User, Expiry}
use Rattle.alt_machine.specs.State.{Change}
use Rattle.alt_value.specs.Tree.{Pair}

-- ---- the columns

-- they rise by their names
pub columns_rise : (moment : ℕ) (writer : Writer) (old new : Option (List Pair))
    → T (is_sorted key_cmp (columns_of_change moment writer old new))
columns_rise moment User None None = tt
columns_rise moment User None (Some n) = tt
columns_rise moment User (Some o) None = tt
columns_rise moment User (Some o) (Some n) = tt
columns_rise moment Expiry None None = tt
columns_rise moment Expiry None (Some n) = tt
columns_rise moment Expiry (Some o) None = tt
columns_rise moment Expiry (Some o) (Some n) = tt

-- the entries of a change's row are its columns in their order
pub entries-change : (c : Change)
    → entries (change_columns c) ≡ columns_of_change c.moment c.by c.old c.new
entries-change c = entries-from_sorted key_cmp (columns_of_change c.moment c.by c.old c.new)
    (columns_rise c.moment c.by c.old c.new)

-- each has the name of a column of a change
columns_known : (moment : ℕ) (writer : Writer) (old new : Option (List Pair))
    → list_all (λ e. is_column e.0) (columns_of_change moment writer old new) ≡ true
columns_known moment User None None = refl
columns_known moment User None (Some n) = refl
columns_known moment User (Some o) None = refl
columns_known moment User (Some o) (Some n) = refl
columns_known moment Expiry None None = refl
columns_known moment Expiry None (Some n) = refl
columns_known moment Expiry (Some o) None = refl
columns_known moment Expiry (Some o) (Some n) = refl

-- ---- what stands at them

found : (c : Change) (q : List ℕ)
    → get (change_columns c) q ≡ find key_cmp q (columns_of_change c.moment c.by c.old c.new)
found c q = get-from_sorted key_cmp (columns_of_change c.moment c.by c.old c.new) q
    (columns_rise c.moment c.by c.old c.new)

moment_found : (c : Change)
    → get (change_columns c) (codes "m") ≡ Some (to_be_bytes w64 c.moment)
moment_found c = found c (codes "m")

new_found : (c : Change) → get (change_columns c) (codes "n") ≡ option_map item_bytes c.new
new_found c = found c (codes "n") ∙ by c.by c.old c.new
  where
    by : (writer : Writer) (old new : Option (List Pair))
        → find key_cmp (codes "n") (columns_of_change c.moment writer old new) ≡ option_map item_bytes new
    by User None None = refl
    by User None (Some n) = refl
    by User (Some o) None = refl
    by User (Some o) (Some n) = refl
    by Expiry None None = refl
    by Expiry None (Some n) = refl
    by Expiry (Some o) None = refl
    by Expiry (Some o) (Some n) = refl

old_found : (c : Change) → get (change_columns c) (codes "o") ≡ option_map item_bytes c.old
old_found c = found c (codes "o") ∙ by c.by c.old c.new
  where
    by : (writer : Writer) (old new : Option (List Pair))
        → find key_cmp (codes "o") (columns_of_change c.moment writer old new) ≡ option_map item_bytes old
    by User None None = refl
    by User None (Some n) = refl
    by User (Some o) None = refl
    by User (Some o) (Some n) = refl
    by Expiry None None = refl
    by Expiry None (Some n) = refl
    by Expiry (Some o) None = refl
    by Expiry (Some o) (Some n) = refl

writer_found : (c : Change) → get (change_columns c) (codes "u") ≡ writer_cell c.by
writer_found c = found c (codes "u") ∙ by c.by c.old c.new
  where
    by : (writer : Writer) (old new : Option (List Pair))
        → find key_cmp (codes "u") (columns_of_change c.moment writer old new) ≡ writer_cell writer
    by User None None = refl
    by User None (Some n) = refl
    by User (Some o) None = refl
    by User (Some o) (Some n) = refl
    by Expiry None None = refl
    by Expiry None (Some n) = refl
    by Expiry (Some o) None = refl
    by Expiry (Some o) (Some n) = refl

-- what a row has that is one
pub record Shows (row : Columns) (c : Change) : Type 0 where
  pub moment : get row (codes "m") ≡ Some (to_be_bytes w64 c.moment)
  pub new : get row (codes "n") ≡ option_map item_bytes c.new
  pub old : get row (codes "o") ≡ option_map item_bytes c.old
  pub writer : get row (codes "u") ≡ writer_cell c.by
  pub alone : list_all (λ e. is_column e.0) (entries row) ≡ true

-- the row of a change shows it
pub shows_so : (row : Columns) (c : Change) → row ≡ change_columns c → Shows row c
shows_so row c is = record {
  moment = ap (λ r. get r (codes "m")) is ∙ moment_found c;
  new = ap (λ r. get r (codes "n")) is ∙ new_found c;
  old = ap (λ r. get r (codes "o")) is ∙ old_found c;
  writer = ap (λ r. get r (codes "u")) is ∙ writer_found c;
  alone = ap (λ r. list_all (λ e. is_column e.0) (entries r)) is
      ∙ ap (list_all (λ e. is_column e.0)) (entries-change c)
      ∙ columns_known c.moment c.by c.old c.new;
}

-- ---- and a row that has it

-- at another name nothing stands
none_found : (q : List ℕ) → is_column q ≡ false → (es : List (List ℕ × List ℕ))
    → list_all (λ e. is_column e.0) es ≡ true → find key_cmp q es ≡ None
none_found q other [] known = refl
none_found q other (e ∷ es) known =
    by (none_found q other es) (eq_by_cmp key_cmp q e.0) refl (is_column e.0) refl known
  where
    by : (list_all (λ e. is_column e.0) es ≡ true → find key_cmp q es ≡ None)
        → (b : Bool) → eq_by_cmp key_cmp q e.0 ≡ b → (a : Bool) → is_column e.0 ≡ a
        → (a && list_all (λ e. is_column e.0) es) ≡ true
        → cond b (Some e.1) (find key_cmp q es) ≡ None
    by behind b is false not_known h = absurd (let f : ⊥ = cc in f)
    by behind true is true named h =
        let same : q ≡ e.0 = key_exact q e.0 (is_eq-holds _ (subst T (sym is) tt)) in
        absurd (let none : false ≡ true = sym other ∙ ap is_column same ∙ named in
        let f : ⊥ = cc in f)
    by behind false is true named h = behind h

nowhere : (row : Columns) → list_all (λ e. is_column e.0) (entries row) ≡ true → (q : List ℕ)
    → is_column q ≡ false → get row q ≡ None
nowhere row known q other = get-entries row q ∙ none_found q other (entries row) known

-- is that of the change
pub is_row : (row : Columns) (c : Change) → Shows row c → row ≡ change_columns c
is_row row c h = same_map key_total key_exact row (change_columns c) at
  where
    that : Shows (change_columns c) c
    that = shows_so (change_columns c) c refl

    one : (name q : List ℕ) → bytes_eq q name ≡ true
        → get row name ≡ get (change_columns c) name → get row q ≡ get (change_columns c) q
    one name q e same = subst (λ n. get row n ≡ get (change_columns c) n)
        (sym ((bytes_eq-Decides q name).0 e)) same

    at : (q : List ℕ) → get row q ≡ get (change_columns c) q
    at q = by (bytes_eq q (codes "m")) refl (bytes_eq q (codes "n")) refl (bytes_eq q (codes "o"))
        refl (bytes_eq q (codes "u")) refl
      where
        by : (a : Bool) → bytes_eq q (codes "m") ≡ a → (b : Bool) → bytes_eq q (codes "n") ≡ b
            → (d : Bool) → bytes_eq q (codes "o") ≡ d → (u : Bool) → bytes_eq q (codes "u") ≡ u
            → get row q ≡ get (change_columns c) q
        by true e b f d g u k = one (codes "m") q e (h.moment ∙ sym that.moment)
        by false e true f d g u k = one (codes "n") q f (h.new ∙ sym that.new)
        by false e false f true g u k = one (codes "o") q g (h.old ∙ sym that.old)
        by false e false f false g true k = one (codes "u") q k (h.writer ∙ sym that.writer)
        by false e false f false g false k =
            let other : is_column q ≡ false = rw (e, f, g, k) refl in
            nowhere row h.alone q other ∙ sym (nowhere (change_columns c) that.alone q other)
