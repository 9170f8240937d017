-- A state whose rows of the catalog and of tables were read, with the changes of its streams.
use Rattle.std.proofs.Common.{◌≡◌, ◌≤◌, ◌<◌, ⊎_elim, inl, inr, refl, sym, ap, subst, ◌∙◌, ℕ, zero, suc, Bool, true, false, List, [], ◌∷◌, Option, Some, None, option_map, All, arith}
use Rattle.std.proofs.lemmas.Bool.{false≢true}
use Rattle.std.proofs.lemmas.Option.{same_Some}
use Rattle.std.specs.FinMap as map
use Rattle.std.specs.Ordering.{eq_by_cmp}
use Rattle.std.specs.Prelude.{◌==◌, if◌then◌else◌}
use Rattle.alt_cells.specs.Changes.{Columns}
use Rattle.alt_cells.specs.Keys.{key_cmp}
use Rattle.alt_cells.proofs.SameKeys.{one_key}
use Rattle.alt_tablerows.specs.ChangeRows.{change_columns, row_key}
use Rattle.alt_tablerows.specs.TrimRows.{trimmed_columns, trimmed_row}
use Rattle.alt_layout.specs.Layout.{Layout, shown}
use Rattle.alt_machine.specs.declared.TheConstants.{NUMBERS_END}
use Rattle.alt_machine.specs.State.{Change, State, Table, Texts, descriptions}
use Rattle.alt_machine.specs.Valid.{IsChange, IsTable}
use Rattle.alt_machine.proofs.Descriptions.{get-descriptions}
use Rattle.alt_schema.specs.Rules.{is_name}
use Rattle.alt_schema.specs.declared.schema.TableSchema.{TableSchema}
use Rattle.alt_opening.specs.private.Opening.{AllChangesRead, AreTablesRead, IsFirstAmong, IsRowFault, IsStreamsFault}
use Rattle.alt_opening.specs.Recovery.{AgreesWhole, IsFirstOfStreams, IsFirstWrong}
use Rattle.alt_opening.specs.StateRows.{IsLeftover, keyed_changes, next_row, stream_row, table_row}
use Rattle.alt_opening.specs.StreamScans.{ChangesRead, IsFirstOfStream, IsKeptRow, IsStreamRow, IsTrimmedRow, stream_trimmed, trimmed_in}
use Rattle.alt_opening.specs.declared.faults.OpenFault.{OpenFault}
use Rattle.alt_opening.specs.declared.faults.OpenFault.TheVariants.{Damaged, DigestDiffers, BadRow, Failed, NoMemory}
use Rattle.alt_opening.proofs.Assembled.{assembled, assembled_with}
use Rattle.alt_opening.proofs.FirstWrong.{described_at}
use Rattle.alt_opening.proofs.StreamKeys.{IsKept, found_keyed, get_keyed}
use Rattle.alt_opening.proofs.OneStream.{leftover_or_not, told_shown}
use Rattle.alt_opening.proofs.StreamList.{IsListed, list_read}
use Rattle.alt_opening.proofs.KeptChanges.{are_kept, are_small, trimmed_small}

-- A state whose rows these are with those of streams, whose tables are those of the catalog, and of whose changes so much was trimmed
-- as the streams tell.
pub record AssembledTables (l : Layout) (next : ℕ) (known : Texts TableSchema)
    (s : State) : Type 0 where
  pub agrees : AgreesWhole l s
  pub catalog : descriptions s.tables ≡ known
  pub family : s.next_family ≡ next
  pub trimmed : (name : List ℕ) (t : Table) → map.get s.tables name ≡ Some t
      → t.trimmed ≡ stream_trimmed l t.description

-- ---- the tables of a state and of the catalog

module _ (known : Texts TableSchema) (s : State) (same : descriptions s.tables ≡ known) where
  -- a table of the state is known
  pub known_at : (name : List ℕ) (t : Table) → map.get s.tables name ≡ Some t
      → map.get known name ≡ Some t.description
  known_at name t at = ap (λ m. map.get m name) (sym same)
      ∙ get-descriptions s.tables name ∙ ap (option_map (λ (t : Table). t.description)) at

  -- and one that is known is the state's
  pub table_of : (name : List ℕ) (d : TableSchema) → map.get known name ≡ Some d
      → (t : Table) × (map.get s.tables name ≡ Some t) × (t.description ≡ d)
  table_of name d at = by (map.get s.tables name) refl
      (sym (get-descriptions s.tables name) ∙ ap (λ m. map.get m name) same ∙ at)
    where
      by : (o : Option Table) → map.get s.tables name ≡ o
          → option_map (λ (t : Table). t.description) (map.get s.tables name) ≡ Some d
          → (t : Table) × (map.get s.tables name ≡ Some t) × (t.description ≡ d)
      by None e is = absurd (let no : None ≡ Some d =
          ap (option_map (λ (t : Table). t.description)) (sym e) ∙ is in cc no)
      by (Some t) e is =
          (t, e, same_Some _ _ (ap (option_map (λ (t : Table). t.description)) (sym e) ∙ is))

-- ---- what was read

module _ (l : Layout) (next : ℕ) (known : Texts TableSchema) (read : AreTablesRead l next known)
    (number : (1 ≤ l.next_number) × (l.next_number ≤ NUMBERS_END)) where
  -- where all streams are read, the rows and theirs are those of a state
  pub assembled_tables : AllChangesRead l known → (s : State) × AssembledTables l next known s
  assembled_tables changes =
      let (s, made, lists) = assembled_with l next known read.catalog read.items read.beyond
      number (IsListed l) (λ name d at. list_read l d number (changes name d at)) in (
        s,
        record {
          agrees = record {
            rows = made.agrees;
            changes = λ name t family at stream key. (lists name t at).0 family stream key;
          };
          catalog = made.catalog;
          family = made.family;
          trimmed = λ name t at. (lists name t at).1;
        },
      )

  -- and else the first wrong row of them is the first of all
  first_among : (family : ℕ) (key : List ℕ) → IsFirstAmong l known family key
      → IsFirstWrong l family key
  first_among family key is =
      let (s, made) = assembled l next known read.catalog read.items read.beyond number in
      let (t, at, same) = table_of known s made.catalog is.name is.description is.there in
      inr (inl (record {
        state = s;
        agrees = made.agrees;
        name = is.name;
        table = t;
        there = at;
        first = subst (λ d. IsFirstOfStream l d family key) (sym same) is.first;
        tables = λ other u at_u less. is.lesser other u.description
            (known_at known s made.catalog other u at_u)
            (subst (λ (d : TableSchema). u.description.family < d.family) same less);
      }))

  -- so a fault of the rows of streams is one of the rows
  pub stream_fault : (fault : OpenFault) → IsStreamsFault l known fault → IsRowFault l fault
  stream_fault (Damaged file at) is = is
  stream_fault (DigestDiffers file kept found) is = is
  stream_fault (BadRow family key) is = first_among family key is
  stream_fault Failed is = is
  stream_fault NoMemory is = is

-- ---- what a state shows

-- a number that isn't 0 is from 1 on
positive : (n : ℕ) → (n == 0) ≡ false → 1 ≤ n
positive zero e = absurd (false≢true (sym e))
positive (suc n) e = omega arith

-- what a stream of these changes shows at a key is this row
abbrev IsStream : ℕ → List Change → List ℕ → Columns → Type 0
IsStream trimmed cs key row = stream_row trimmed cs key ≡ Some row

-- the name of a table isn't empty
named : (s : State) (name : List ℕ) (t : Table) → IsTable s name t
    → eq_by_cmp key_cmp name [] ≡ false
named s [] t is =
    let f : false ≡ true = ap is_name (sym is.named) ∙ is.made.spelled in
    absurd (false≢true f)
named s (c ∷ cs) t is = refl

module _ (l : Layout) (s : State) (agrees : AgreesWhole l s) where
  -- its streams tell what was trimmed
  pub told_right : (name : List ℕ) (t : Table) (family : ℕ) → map.get s.tables name ≡ Some t
      → t.description.stream_family ≡ Some family → trimmed_in l family ≡ t.trimmed
  told_right name t family at stream = told_shown (shown l family) t.trimmed t.changes
      (trimmed_small s agrees.rows.valid name t at) (agrees.changes name t family at stream)

  module _ (name : List ℕ) (t : Table) (at : map.get s.tables name ≡ Some t) (key : List ℕ)
      (row : Columns) where
    kept : All (λ (c : Change). IsKept c × IsChange t.description s.next_number c
        × (t.trimmed < c.number)) t.changes
    kept k x within = (
      are_kept s agrees.rows.valid agrees.rows.held name t at k x within,
      (agrees.rows.valid.tables name t at).changes.each k x within,
      (agrees.rows.valid.tables name t at).changes.above k x within,
    )

    -- a row that is shown at the key of a change is that of the change
    change_right : option_map change_columns (map.get (keyed_changes t.changes) key) ≡ Some row
        → IsKeptRow t.description s.next_number t.trimmed key row
    change_right is = by (map.get (keyed_changes t.changes) key) refl
      where
        by : (o : Option Change) → map.get (keyed_changes t.changes) key ≡ o
            → IsKeptRow t.description s.next_number t.trimmed key row
        by None e = absurd (let no : None ≡ Some row =
            sym (ap (option_map change_columns) e) ∙ is in cc no)
        by (Some c) e =
            let found = found_keyed (λ (c : Change). IsKept c
            × IsChange t.description s.next_number c × (t.trimmed < c.number))
            t.changes key c kept
            (sym (get_keyed t.changes
            (are_small t.description s.next_number t.trimmed t.changes
            (let last = agrees.rows.valid.next_number.1 in omega (arith, last))
            (agrees.rows.valid.tables name t at).changes)
            (agrees.rows.valid.tables name t at).changes.rise key) ∙ e) in (
              c,
              record {
                above = found.1.0.2;
                number = found.1.0.0;
                place = found.0;
                read = found.1.0.1;
                row = same_Some _ _ (sym is ∙ ap (option_map change_columns) e);
              },
              found.1.1,
              found.1.2,
            )

    -- one at the key of number 0 tells what was trimmed
    zero_right : key ≡ row_key 0 → trimmed_row t.trimmed ≡ Some row
        → IsTrimmedRow s.next_number key row
    zero_right at_zero is = by (t.trimmed == 0) refl is
      where
        by : (b : Bool) → (t.trimmed == 0) ≡ b
            → (if b then None else Some (trimmed_columns t.trimmed)) ≡ Some row
            → IsTrimmedRow s.next_number key row
        by true e is = absurd (let no : None ≡ Some row = is in cc no)
        by false e is = (
          at_zero,
          (
            t.trimmed,
            positive t.trimmed e,
            (agrees.rows.valid.tables name t at).changes.trimmed_before,
            sym (same_Some _ _ is),
          ),
        )

    -- and each that isn't left over is one of these
    row_right : IsStream t.trimmed t.changes key row
        → IsStreamRow t.description s.next_number t.trimmed key row
    row_right is = by (eq_by_cmp key_cmp key (row_key 0)) refl is
      where
        by : (b : Bool) → eq_by_cmp key_cmp key (row_key 0) ≡ b
            → (if b then trimmed_row t.trimmed
            else option_map change_columns (map.get (keyed_changes t.changes) key)) ≡ Some row
            → IsStreamRow t.description s.next_number t.trimmed key row
        by true same is = inl (zero_right (one_key key (row_key 0) same) is)
        by false other is = inr (inr (change_right is))

  -- each row of its streams is one that they may have
  pub changes_right : (name : List ℕ) (t : Table) → map.get s.tables name ≡ Some t
      → ChangesRead l t.description
  changes_right name t at family stream key row here shows =
      subst (λ z. IsStreamRow t.description l.next_number z key row)
      (sym (told_right name t family at stream))
      (subst (λ n. IsStreamRow t.description n t.trimmed key row) (sym agrees.rows.number)
      (⊎_elim
      (λ (left : IsLeftover t.trimmed key). inr (inl (
        (agrees.rows.valid.tables name t at).changes.trimmed_before,
        left,
      )))
      (λ (counts : IsLeftover t.trimmed key → ⊥). row_right name t at key row
      (sym (agrees.changes name t family at stream key counts) ∙ shows))
      (leftover_or_not t.trimmed (trimmed_small s agrees.rows.valid name t at) key)))

  -- so none of them is a wrong one
  pub none_wrong_stream : (family : ℕ) (key : List ℕ) → IsFirstOfStreams l family key → ⊥
  none_wrong_stream family key is =
      let table : IsTable is.state is.name is.table =
      is.agrees.valid.tables is.name is.table is.there in
      let not_empty = named is.state is.name is.table table in
      let (u, at, same) = described_at l (λ f k. Unit {0}) s agrees.rows is.name
      is.table.description tt not_empty table.made
      (is.agrees.held.descriptions is.name is.table is.there)
      (is.agrees.catalog is.name tt
      ∙ (λ i. if not_empty i then next_row is.state.next_family
      else option_map (λ t. table_row t.description) (is.there i))) in
      is.first.first.none
      (subst (λ d. ChangesRead l d) same (changes_right is.name u at) family
      is.first.stream key is.first.first.row tt is.first.first.shows)
