-- The row of an item in an index, and names that aren't empty.
use Rattle.std.proofs.Common.{◌≡◌, List, Some, refl, ℕ, true, false, [], ◌∷◌, is_lt}
use Rattle.alt_base.proofs.Options.{some_if}
use Rattle.alt_description.specs.declared.schema.IndexSchema.{IndexSchema}
use Rattle.alt_description.specs.declared.schema.TableSchema.{TableSchema}
use Rattle.alt_schema.specs.Indexes.{index_row, is_in_index, cut}
use Rattle.alt_schema.specs.Rules.{is_name}
use Rattle.alt_value.specs.Members.{text_order}
use Rattle.alt_value.specs.Tree.{Pair}

-- the row of an item is the item, cut to what the index keeps
pub is_cut : (d : TableSchema) (i : IndexSchema) (item row : List Pair)
    → index_row d item i ≡ Some row → cut d i item ≡ row
is_cut d i item row e = some_if (is_in_index i item) (cut d i item) row e

-- the empty name is before each good one
pub empty_before_name : (name : List ℕ) → is_name name ≡ true → is_lt (text_order [] name) ≡ true
empty_before_name [] e = absurd (let f : false ≡ true = e in cc f)
empty_before_name (c ∷ cs) e = refl
