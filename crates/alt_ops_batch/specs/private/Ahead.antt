-- What a batch of writes asks for, where its body was read ahead, as the machine has it.
use Rattle.std.specs.Prelude.{ℕ, List, [], ◌∷◌, ◌++◌, length, map, Option, Result}
use Rattle.std.specs.FinMap as finite
use Rattle.std.specs.List.{list_all}
use Rattle.alt_machine.specs.declared.BatchMember.{BatchMember}
use Rattle.alt_machine.specs.declared.PlacedMember.{PlacedMember}
use Rattle.alt_machine.specs.declared.Sought.TheVariants.{Item, Key}
use Rattle.alt_machine.specs.declared.TheConstants.{MOST_WRITES}
use Rattle.alt_machine.specs.Batches.{each_found, is_sized, placed, has_repeat}
use Rattle.alt_machine.specs.Ops.BatchWriteItem.{of_members}
use Rattle.alt_machine.specs.Refusals.{◌>>=◌, first_answer, refuse_if, refuse_unless, unless_answer}
use Rattle.alt_machine.specs.State.{Texts}
use Rattle.alt_readahead.specs.declared.batch.TableWrites.{TableWrites}
use Rattle.alt_readahead.specs.declared.batch.Write.{Write}
use Rattle.alt_readahead.specs.declared.batch.Write.TheVariants.{Put, Delete}
use Rattle.alt_schema.specs.Rules.{is_name}
use Rattle.alt_schema.specs.declared.schema.TableSchema.{TableSchema}
use Rattle.alt_shape.specs.Refusals.{Answer, not_found, bad_batch, bad_name}

-- a write, with the name of its table
abbrev pub member_of_write : List ℕ → Write → BatchMember
member_of_write table (Put i) = record { table = table; sought = Item; item = i }
member_of_write table (Delete k) = record { table = table; sought = Key; item = k }

-- those of each table, in their order
abbrev pub members_of : List TableWrites → List BatchMember
members_of [] = []
members_of (t ∷ ts) = map (member_of_write t.table) t.writes.items ++ members_of ts

-- each table is there
abbrev pub missing_table_refusals : Texts TableSchema → List TableWrites → List (Option Answer)
missing_table_refusals catalog ts =
    refuse_unless (list_all (λ t. finite.contains_key catalog t.table) ts) not_found ∷ []

-- what the number of writes and the names of their tables are refused for
abbrev pub table_writes_refusals : Texts TableSchema → List TableWrites → List (Option Answer)
table_writes_refusals catalog ts =
    refuse_unless (is_sized MOST_WRITES (length (members_of ts))) bad_batch ∷
    refuse_unless (list_all (λ t. is_name t.table) ts) bad_name ∷
    missing_table_refusals catalog ts

-- the writes, with their places, where nothing refuses them
unfoldable pub writes_ahead : Texts TableSchema → List TableWrites
    → Result (List PlacedMember) Answer
writes_ahead catalog ts = do
  read ← unless_answer (first_answer (table_writes_refusals catalog ts)) (members_of ts)
  there ← each_found (placed catalog) read
  unless_answer
      (first_answer (refuse_if (has_repeat there) bad_batch ∷ of_members catalog there)) there
