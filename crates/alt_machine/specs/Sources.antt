-- What Query and Scan read: a table, or one of its indexes (DynamoDB API Reference, "Query" and "Scan", IndexName, ConsistentRead
-- and Select).
use Rattle.std.specs.Prelude.{ℕ, Bool, true, false, not, ◌&&◌, ◌||◌, nat_le, List, [], ◌∷◌, length, slice_get, Option, Some, None, option_and_then, Result, Ok, codes}
use Rattle.std.specs.List.{position}
use Rattle.std.specs.Option.{option_map_or}
use Rattle.serde_json.specs.Data.{Members}
use Rattle.serde_json.specs.Find.{as_bool, as_str}
use Rattle.alt_schema.specs.Indexes.{indexes, is_key, is_read_as}
use Rattle.alt_schema.specs.declared.schema.IndexSchema.{IndexSchema}
use Rattle.alt_schema.specs.declared.schema.KeyAttr.{KeyAttr}
use Rattle.alt_schema.specs.declared.schema.Projection.{Projection}
use Rattle.alt_schema.specs.declared.schema.Projection.TheVariants.{All, KeysOnly, Include}
use Rattle.alt_schema.specs.declared.schema.TableSchema.{TableSchema}
use Rattle.alt_shape.specs.Refusals.{Answer, no_such_index, not_together}
use Rattle.alt_shape.specs.Shape.{given}
use Rattle.alt_value.specs.Tree.{Pair}
use Rattle.alt_machine.specs.Indexed.{index_items}
use Rattle.alt_machine.specs.Refusals.{first_answer, or_refused, refuse_if, unless_answer, ◌>>=◌}
use Rattle.alt_machine.specs.Replies.{member_is_word}
use Rattle.alt_machine.specs.State.{Table, Texts}

-- ---- a table or an index

-- the index of a number; where no number is told, the table itself is read
abbrev pub index_at : TableSchema → Option ℕ → Option IndexSchema
index_at d number = option_and_then (slice_get (indexes d)) number

-- the items there, by their places
abbrev pub items_of : Table → Option IndexSchema → Texts (List Pair)
items_of t None = t.items
items_of t (Some i) = index_items t.description i t.items

-- the HASH key by which they lie
abbrev pub hash_of : TableSchema → Option IndexSchema → KeyAttr
hash_of d None = d.hash
hash_of d (Some i) = i.hash

-- and the RANGE key, if there is one
abbrev pub range_of : TableSchema → Option IndexSchema → Option KeyAttr
range_of d None = d.range
range_of d (Some i) = i.range

-- the attributes of the keys: the table's, and with them those of the index
abbrev pub is_key_there : TableSchema → Option IndexSchema → List ℕ → Bool
is_key_there d None name = is_key d.hash d.range name
is_key_there d (Some i) name = is_key d.hash d.range name || is_key i.hash i.range name

-- ---- which of them a request names

-- Select is that word
abbrev pub selects : List ℕ → Members → Bool
selects = member_is_word (codes "Select")

-- the last state is to be read
abbrev pub is_consistent : Members → Bool
is_consistent ms =
    option_map_or (λ b. b) (option_and_then as_bool (given (codes "ConsistentRead") ms)) false

-- an index keeps all attributes
abbrev pub keeps_all : Projection → Bool
keeps_all All = true
keeps_all KeysOnly = false
keeps_all (Include names) = false

-- all attributes are asked of an index that doesn't keep them
abbrev pub lacks_attributes : TableSchema → ℕ → Members → Bool
lacks_attributes d number ms = selects (codes "ALL_ATTRIBUTES") ms
    && option_map_or (λ i. not (keeps_all i.projection)) (slice_get (indexes d) number) false

-- a consistent read is asked of a global index; the local ones come first
abbrev pub lacks_consistency : TableSchema → ℕ → Members → Bool
lacks_consistency d number ms = is_consistent ms && nat_le (length d.locals) number

-- the index of that number may be read so
abbrev pub if_readable : TableSchema → Members → ℕ → Result (Option ℕ) Answer
if_readable d ms number = unless_answer (first_answer
    (refuse_if (lacks_attributes d number ms || lacks_consistency d number ms) not_together ∷ []))
    (Some number)

-- the number of the index of that name, which is one of the table's, and whole
abbrev pub index_named : TableSchema → Members → Option (List ℕ) → Result (Option ℕ) Answer
index_named d ms None = Ok None
index_named d ms (Some name) = or_refused no_such_index (position (is_read_as name) (indexes d))
    >>= if_readable d ms

-- the number of the index at IndexName, none where there is no such member
abbrev pub index_asked : TableSchema → Members → Result (Option ℕ) Answer
index_asked d ms = index_named d ms (option_and_then as_str (given (codes "IndexName") ms))
