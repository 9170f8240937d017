-- A write by what it takes from the front of its table's stream, between a call that reads and a call that writes.
use Rattle.std.proofs.Common.{◌≡◌, refl, sym, ap, subst, ◌∙◌, ℕ, false, T, List, drop, Option, Some, Result, Ok, Err, IfOk, OnOk}
use Rattle.std.proofs.lemmas.Option.{same_Some}
use Rattle.std.specs.FinMap as map
use Rattle.alt_cells.specs.Batches.{is_distinct}
use Rattle.alt_cells.specs.declared.batch.RowChange.{RowChange}
use Rattle.alt_disk.specs.Disk.{DiskState}
use Rattle.alt_layout.specs.Layout.{Layout}
use Rattle.alt_codec.specs.declared.writer.Writer.{Writer}
use Rattle.alt_machine.specs.Same.{is_same}
use Rattle.alt_machine.specs.State.{State, Table}
use Rattle.alt_rowchanges.specs.OpeningTrimmed.{number_at}
use Rattle.alt_rowchanges.proofs.OpeningOverEngine.{one_layout_in_hand}
use Rattle.alt_schema.specs.declared.schema.TableSchema.{TableSchema}
use Rattle.alt_rowchanges.specs.Leftovers.{leftovers, lowest_left}
use Rattle.alt_rowchanges.specs.RowChanges.{changed_rows, write_changes}
use Rattle.alt_tables.specs.Stands.{HasRows, KeepsTables, Stands, catalog_of, next_write_of_tables, trimmed_of}
use Rattle.alt_tables.specs.declared.tables.Tables.{Tables}
use Rattle.alt_rowchanges.specs.declared.trimming.Trim.{Trim}
use Rattle.alt_rowchanges.specs.Trims.{IsTrim}
use Rattle.alt_tables.proofs.Making.{item_leftovers}
use Rattle.alt_tables.proofs.Standing.{known, rows_kept}
use Rattle.alt_value.specs.Tree.{Pair}

-- ---- results

-- what holds at Ok of two kinds holds of one
pub ok_both : {A E : Type 0} (P R : A → Type 0) (Q : Type 0) (r : Result A E) → IfOk r P → OnOk r Q
    → ((x : A) → P x → Q → R x) → IfOk r R
ok_both P R Q (Ok x) p q leads = leads x p q
ok_both P R Q (Err e) p q leads = tt

-- ---- behind a call that reads

module _ (a m : DiskState) (old mid : Tables) (keeps : KeepsTables a m old mid) where
  -- the rows behind it were those before it
  pub rows_back : (s : State) → Stands a old s → (l : Layout) → HasRows m mid l → HasRows a old l
  rows_back s stands l rows = subst (λ x. HasRows a old x)
      (one_layout_in_hand m mid.engine stands.rows.layout l
      (rows_kept a m old mid keeps stands.rows.trusted stands.rows.layout stands.rows.is) rows)
      stands.rows.is

-- ---- what is written

module _ (a b : DiskState) (old new : Tables) (s : State) (t : Table) (stands : Stands a old s)
    (moment : ℕ) (writer : Writer) (name place : List ℕ) (found to : Option (List Pair))
    (at : map.get s.tables name ≡ Some t) (was : found ≡ map.get t.items place) (r : Trim)
    (is : (l : Layout) → HasRows a old l → IsTrim l t moment r) (d : TableSchema)
    (described : map.get (catalog_of old) name ≡ Some d) (differ : is_same found to ≡ false)
    (after : ℕ) (known_after : after ≡ r.number) where
  -- the row changes, as they are made and in words of what is known behind them
  abbrev pub made : List RowChange
  made = write_changes d (next_write_of_tables old) moment writer place found to
      (number_at name (trimmed_of old)) r.number r.leftovers.items

  -- the rows that go are the lowest that are left over
  lowest_is : (l : Layout) → HasRows a old l → r.leftovers.items ≡ lowest_left l d after
  lowest_is l rows = (is l rows).lowest
      ∙ (λ i. lowest_left l (same_Some _ _ (sym (known a old s name t stands at) ∙ described) i)
      (sym known_after i))

  pub made_is : (l : Layout) → HasRows a old l
      → made ≡ write_changes d (next_write_of_tables old) moment writer place found to
      (number_at name (trimmed_of old)) after (lowest_left l d after)
  made_is l rows i = write_changes d (next_write_of_tables old) moment writer place found to
      (number_at name (trimmed_of old)) (sym known_after i) (lowest_is l rows i)

  -- and the others are left over
  pub made_leftovers : T (is_distinct made) → (family : ℕ) → d.stream_family ≡ Some family
      → (l m : Layout) → HasRows a old l → HasRows b new (changed_rows l made) → HasRows b new m
      → leftovers m family after ≡ drop 2 (leftovers l family after)
  made_leftovers distinct family stream l m rows written later =
      let one : l ≡ stands.rows.layout =
      one_layout_in_hand a old.engine l stands.rows.layout rows stands.rows.is in
      let two : m ≡ changed_rows l made =
      one_layout_in_hand b new.engine m (changed_rows l made) later written in
      (λ i. leftovers ((two ∙ ap (λ x. changed_rows x made) one) i) family (known_after i))
      ∙ item_leftovers a old s t stands moment writer name place found to at was r
      (is stands.rows.layout stands.rows.is) d (next_write_of_tables old) made described refl refl differ
      distinct family stream
      ∙ (λ i. drop 2 (leftovers (sym one i) family (sym known_after i)))
