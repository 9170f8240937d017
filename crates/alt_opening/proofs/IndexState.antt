-- A state whose rows of the catalog, of the tables and of the streams were read, with those of its indexes.
use Rattle.std.proofs.Common.{◌≤◌, ◌<◌, inr, sym, subst, ℕ, List}
use Rattle.alt_layout.specs.Layout.{Layout}
use Rattle.alt_machine.specs.declared.TheConstants.{NUMBERS_END}
use Rattle.alt_machine.specs.State.{State, Texts}
use Rattle.alt_schema.specs.declared.schema.TableSchema.{TableSchema}
use Rattle.alt_opening.specs.private.IndexScans.{IsFirstOfOwn}
use Rattle.alt_opening.specs.private.Opening.{AllChangesRead, AllIndexesRead, AreTablesRead, AreTrimmedIn, Assembled, IsFirstIn, IsIndexesFault, IsRowFault}
use Rattle.alt_opening.specs.Recovery.{IsFirstWrong}
use Rattle.alt_opening.specs.declared.faults.OpenFault.{OpenFault}
use Rattle.alt_opening.specs.declared.faults.OpenFault.TheVariants.{Damaged, DigestDiffers, BadRow, Failed, NoMemory}
use Rattle.alt_opening.proofs.IndexRead.{agrees_right, right_agrees}
use Rattle.alt_opening.specs.StateRows.{Shows}
use Rattle.alt_opening.specs.private.RowSizes.{AreAllWithin}
use Rattle.alt_opening.proofs.Sizing.{sized_state}
use Rattle.alt_opening.proofs.StreamState.{AssembledTables, assembled_tables, known_at, table_of}
use Rattle.alt_opening.proofs.TrimmedSteps.{trimmed_state}
use Rattle.alt_opening.specs.declared.trimmed.Trimmed.{Trimmed}

module _ (l : Layout) (next : ℕ) (known : Texts TableSchema) (s : State)
    (made : AssembledTables l next known s) where
  -- where its indexes are read the rows show it
  shows_it : AllIndexesRead l known → Shows l s
  shows_it read = record {
    number = made.agrees.rows.number;
    catalog = λ key. made.agrees.rows.catalog key tt;
    items = λ name t at key. made.agrees.rows.items name t at key tt;
    indexes = λ name t number i at at_index key.
        right_agrees l s made.agrees name t at i key
        (read name t.description (known_at known s made.catalog name t at) number i tt
        at_index key);
    changes = made.agrees.changes;
    beyond = λ family key high. made.agrees.rows.beyond family key high tt;
  }

  -- and that is the state
  pub whole_state : (largest : ℕ) → AreAllWithin l known largest → (trimmed : List Trimmed)
      → AreTrimmedIn l known trimmed → AllIndexesRead l known
      → Assembled l next known largest trimmed s
  whole_state largest within trimmed told read = record {
    shows = shows_it read;
    valid = made.agrees.rows.valid;
    held = made.agrees.rows.held;
    catalog = made.catalog;
    family = made.family;
    sized = sized_state l known s made.catalog (shows_it read) made.agrees.rows.valid
        made.agrees.rows.held largest within;
    trimmed_known = trimmed_state l known s made.catalog made.trimmed trimmed told;
  }

  -- and else the first wrong row of them is the first of all
  pub first_in : (family : ℕ) (key : List ℕ) → IsFirstIn l known family key
      → IsFirstWrong l family key
  first_in family key first =
      let (t, at, same) = table_of known s made.catalog first.name first.description first.there in
      let own : IsFirstOfOwn l t.description family key =
      subst (λ d. IsFirstOfOwn l d family key) (sym same) first.first in
      inr (inr (record {
        state = s;
        agrees = made.agrees;
        name = first.name;
        table = t;
        there = at;
        number = own.number;
        index = own.index;
        at = own.at;
        of_family = own.of_family;
        wrong = λ same. own.first.wrong
            (agrees_right l s made.agrees first.name t at own.index key same);
        keys = λ k low. right_agrees l s made.agrees first.name t at own.index k
            (own.first.before k low);
        numbers = λ n i less at_index k. right_agrees l s made.agrees first.name t at i k
            (own.lesser n i less at_index k);
        tables = λ other u n i at_u less at_index k. right_agrees l s made.agrees other u at_u i k
            (first.lesser other u.description (known_at known s made.catalog other u at_u)
            (subst (λ (d : TableSchema). u.description.family < d.family) same less) n i tt
            at_index k);
      }))

module _ (l : Layout) (next : ℕ) (known : Texts TableSchema) (read : AreTablesRead l next known)
    (number : (1 ≤ l.next_number) × (l.next_number ≤ NUMBERS_END))
    (changes : AllChangesRead l known) where
  -- a fault of the rows of indexes is one of the rows
  pub index_fault : (fault : OpenFault) → IsIndexesFault l known fault → IsRowFault l fault
  index_fault (Damaged file at) is = is
  index_fault (DigestDiffers file kept found) is = is
  index_fault (BadRow family key) is =
      let (s, made) = assembled_tables l next known read number changes in
      first_in l next known s made family key is
  index_fault Failed is = is
  index_fault NoMemory is = is

  -- where there is none they show a state
  pub shown_state : (largest : ℕ) → AreAllWithin l known largest → (trimmed : List Trimmed)
      → AreTrimmedIn l known trimmed → AllIndexesRead l known
      → (s : State) × Assembled l next known largest trimmed s
  shown_state largest within trimmed told indexes =
      let (s, made) = assembled_tables l next known read number changes in
      (s, whole_state l next known s made largest within trimmed told indexes)
