-- BatchGetItem: answers the items of 1 to 100 keys, or parts of them, and names the keys that it didn't read (DynamoDB API Reference,
-- "BatchGetItem").
use Rattle.std.specs.Prelude.{ℕ, Bool, ◌&&◌, ◌+◌, nat_le, if◌then◌else◌, List, [], ◌∷◌, length, map, drop, sum_by, Option, option_map, option_and_then, Result, Ok, codes, fold}
use Rattle.std.specs.FinMap as finite
use Rattle.std.specs.List.{list_any, filter_map}
use Rattle.std.specs.Option.{option_map_or}
use Rattle.serde_json.specs.Data.{Data, Items, boolean, string, array, object, Members, no_members, member, put as with_member}
use Rattle.serde_json.specs.Find.{as_array, as_bool, as_str, as_object}
use Rattle.alt_codec.specs.Reading.{item_in}
use Rattle.alt_expr.specs.Given.{Given}
use Rattle.alt_expr.specs.declared.path.PathPart.{PathPart}
use Rattle.alt_machine.specs.declared.BatchMember.{BatchMember}
use Rattle.alt_machine.specs.declared.PlacedMember.{PlacedMember}
use Rattle.alt_machine.specs.declared.Sought.TheVariants.{Key}
use Rattle.alt_machine.specs.declared.TheConstants.{MOST_KEYS, BATCH_BYTES}
use Rattle.alt_machine.specs.Batches.{members_in, elements_if_array, tables_asked, of_each, each_found, is_sized, batch_refusals, of_catalog, placed, has_repeat}
use Rattle.alt_machine.specs.Expressions.{projecting, given_at, names_member, expressions}
use Rattle.alt_machine.specs.Lists.{is_given}
use Rattle.alt_shape.specs.Body.{items_json}
use Rattle.alt_machine.specs.Members.{unless_fault}
use Rattle.alt_machine.specs.Ops.GetItem.{parts}
use Rattle.alt_machine.specs.Outcomes.{Outcome, says, with_found}
use Rattle.alt_machine.specs.Refusals.{first_answer, or_refused, refuse_if, unless_answer, ◌>>=◌}
use Rattle.alt_machine.specs.State.{State, Texts, descriptions}
use Rattle.alt_schema.specs.Json.{member_if}
use Rattle.alt_schema.specs.declared.schema.TableSchema.{TableSchema}
use Rattle.alt_shape.specs.Bodies as bodies
use Rattle.alt_shape.specs.Refusals.{Answer, answered, unreadable, not_found, bad_batch}
use Rattle.alt_shape.specs.Shape.{given}
use Rattle.alt_value.specs.Size.{item_size}
use Rattle.alt_value.specs.Tree.{Pair}

-- ---- what the body says

-- the keys that are asked for in a table
abbrev pub keys_in : Data → List Data
keys_in d = elements_if_array (option_and_then as_array (given (codes "Keys") (members_in d)))

-- one of the tables gives a member
abbrev pub some_give : List ℕ → List (List ℕ × Data) → Bool
some_give name tables = list_any (λ t. is_given name (members_in t.1)) tables

-- what the body alone is refused for; a list of names may stand in no table where a projection stands in one
abbrev pub of_body : Members → List (Option Answer)
of_body ms = batch_refusals (bodies.batch_get_item ms)
    (some_give (codes "AttributesToGet") (tables_asked ms)
    && some_give (codes "ProjectionExpression") (tables_asked ms))
    (is_sized MOST_KEYS (length (of_each keys_in (tables_asked ms)))) (tables_asked ms)

-- ---- what is asked of a table

-- the keys that are read in a table, and what is asked of them: `words` may be the names that are given or what is to be shown
pub record KeyReads (W K : Type 0) : Type 0 where
  pub table : List ℕ
  pub body : Members
  pub words : W
  pub keys : List K

-- what a projection shows
abbrev pub Shown : Type 0
Shown = Option (List (List PathPart))

-- a key is read as an item is, of at most 32 levels
abbrev pub read_batch_key : List ℕ → Data → Result BatchMember Answer
read_batch_key table d = unless_fault (item_in 32 d)
    >>= (λ key. Ok (record { table = table; sought = Key; item = key }))

-- the keys of a table, and then the names that are given for its projection
abbrev pub read_table : List ℕ × Data → Result (KeyReads Given BatchMember) Answer
read_table t = do
  body ← or_refused unreadable (as_object t.1)
  keys ← each_found (read_batch_key t.0) (keys_in t.1)
  words ← given_at projecting body
  Ok (record { table = t.0; body = body; words = words; keys = keys })

-- what its projection says
abbrev pub projection_said : Texts TableSchema → KeyReads Given BatchMember
    → Result (KeyReads Shown BatchMember) Answer
projection_said catalog r = do
  d ← or_refused not_found (finite.get catalog r.table)
  said ← expressions projecting d r.body r.words
  Ok (record { table = r.table; body = r.body; words = said.projection; keys = r.keys })

-- where its keys are
abbrev pub placed_all : Texts TableSchema → KeyReads Shown BatchMember
    → Result (KeyReads Shown PlacedMember) Answer
placed_all catalog r = each_found (placed catalog) r.keys
    >>= (λ keys. Ok (record { table = r.table; body = r.body; words = r.words; keys = keys }))

-- The reads that are asked for, table by table, where nothing refuses them: what the body says; each table's keys and names; the tables;
-- the projection of each; the places of its keys; and that no key stands twice.
unfoldable pub reads_asked : Texts TableSchema → Members
    → Result (List (KeyReads Shown PlacedMember)) Answer
reads_asked catalog ms = do
  tables ← unless_answer (first_answer (of_body ms)) (tables_asked ms)
  read ← each_found read_table tables
  known ← unless_answer (first_answer (of_catalog catalog (tables_asked ms))) read
  said ← each_found (projection_said catalog) known
  there ← each_found (placed_all catalog) said
  unless_answer
      (first_answer (refuse_if (list_any (λ r. has_repeat r.keys) there) bad_batch ∷ [])) there

-- ---- what is read

-- what stands at a place
abbrev pub found_at : State → PlacedMember → Option (List Pair)
found_at s m = option_and_then (λ t. finite.get t.items m.place) (finite.get s.tables m.table)

-- its size, which is that of the whole item
abbrev pub size_at : State → PlacedMember → ℕ
size_at s m = option_map_or item_size (found_at s m) 0

-- Of keys those are read that come before the sizes of the items have reached 16 MB. `size` is that of what was read before.
abbrev pub read_of : State → ℕ → List PlacedMember → List PlacedMember
read_of s size [] = []
read_of s size (m ∷ ms) =
    if nat_le BATCH_BYTES size then [] else m ∷ read_of s (size + size_at s m) ms

-- what is read so far: the sizes of the items, the items of each table, and the tables with keys that are left
pub record ItemsReadSoFar : Type 0 where
  pub size : ℕ
  pub responses : Members
  pub unprocessed : Members

-- ---- what is answered

-- the names of attributes that are given
abbrev pub attributes_member : Members → Option Items
attributes_member ms = option_and_then as_array (given (codes "AttributesToGet") ms)

-- keys with those members of their table that were given
abbrev pub keys_object : Members → Data → Data
keys_object body keys = object
    (member_if (codes "AttributesToGet") (option_map (λ names. array names)
    (attributes_member body))
    (member_if (codes "ConsistentRead") (option_map (λ b. boolean b)
    (option_and_then as_bool (given (codes "ConsistentRead") body)))
    (member_if (codes "ExpressionAttributeNames")
    (option_map (λ names. object names) (names_member body))
    (member (codes "Keys") keys
    (member_if (codes "ProjectionExpression") (option_map (λ text. string text)
    (option_and_then as_str (given (codes "ProjectionExpression") body))) no_members)))))

-- what may be asked for again of these keys
abbrev pub keys_asked : Members → List PlacedMember → Data
keys_asked body keys = keys_object body (array (items_json (map (λ k. k.item) keys)))

-- a table is named with its keys that are left, where there are any
abbrev pub with_left : KeyReads Shown PlacedMember → List PlacedMember → Members → Members
with_left r [] ms = ms
with_left r (k ∷ ks) ms = with_member r.table (keys_asked r.body (k ∷ ks)) ms

-- what the items of these keys show; one that isn't there is left out
abbrev pub shown_found_items : State → KeyReads Shown PlacedMember → List PlacedMember → Data
shown_found_items s r keys = array (items_json (map (parts r.words) (filter_map (found_at s) keys)))

-- the next table is read
abbrev pub with_reads : State → ItemsReadSoFar → KeyReads Shown PlacedMember → ItemsReadSoFar
with_reads s before r =
    let read = read_of s before.size r.keys in
    record {
      size = before.size + sum_by (size_at s) read;
      responses = with_member r.table (shown_found_items s r read) before.responses;
      unprocessed = with_left r (drop (length read) r.keys) before.unprocessed;
    }

-- nothing is read yet
abbrev pub nothing_read : ItemsReadSoFar
nothing_read = record { size = 0; responses = no_members; unprocessed = no_members }

-- the reply
abbrev pub read_answer : ItemsReadSoFar → Answer
read_answer read = answered
    (member (codes "Responses") (object read.responses)
    (member (codes "UnprocessedKeys") (object read.unprocessed) no_members))

-- where nothing refuses them the reads are carried out, table by table, and nothing is written
unfoldable pub batch_get_item : State → Members → Outcome
batch_get_item s ms = with_found (reads_asked (descriptions s.tables) ms)
    (λ tables. says (read_answer (fold (with_reads s) nothing_read tables)))
