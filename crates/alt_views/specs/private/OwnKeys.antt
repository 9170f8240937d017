-- A key that is read from an item's row, attribute by attribute.
use Rattle.std.specs.Prelude.{ℕ, ◌+◌, length, List, Option, option_and_then, if◌then◌else◌}
use Rattle.alt_schema.specs.Indexes.{is_key}
use Rattle.alt_schema.specs.declared.schema.TableSchema.{TableSchema}
use Rattle.alt_value.specs.Item.{with_pair}
use Rattle.alt_value.specs.Size.{size, left_after}
use Rattle.alt_value.specs.Tree.{Pair}

-- a key with the attribute, where that is one of a key, and else as it was
abbrev pub key_with_own_attribute : TableSchema → Pair → List Pair → List Pair
key_with_own_attribute d p key = if is_key d.hash d.range p.0 then with_pair p.0 p.1 key else key

-- what is left of a budget behind the attribute, where there is one
abbrev pub left_behind : Pair → Option ℕ → Option ℕ
left_behind p left = option_and_then (λ n. left_after n (length p.0 + size p.1)) left
