-- Reading lists of items: what Query and Scan have in common (DynamoDB API Reference, "Query" and "Scan"; Developer Guide,
-- "Paginating table query results").
use Rattle.std.specs.Prelude.{◌≡◌, ℕ, Bool, true, false, not, ◌&&◌, ◌||◌, List, [], ◌∷◌, map, is_some, Option, Some, None, option_map, option_and_then, Result, Ok, codes, if◌then◌else◌}
use Rattle.std.specs.List.{filter, last_or, list_all}
use Rattle.std.specs.FinMap.Entries.{where_key}
use Rattle.std.specs.Option.{option_map_or}
use Rattle.serde_json.specs.Data.{Data, number, unsigned, array, Members, no_members, member}
use Rattle.alt_codec.specs.Reading.{item_in}
use Rattle.alt_codec.specs.Writing.{json_of_pairs}
use Rattle.alt_expr.specs.Given.{Given}
use Rattle.alt_expr.specs.Holds.{equal}
use Rattle.alt_expr.specs.Pages.{Asked, Page, page_of, examined}
use Rattle.alt_keyorder.specs.Place.{Place, place_in_table, place_bytes}
use Rattle.alt_schema.specs.Json.{member_if}
use Rattle.alt_schema.specs.declared.schema.IndexSchema.{IndexSchema}
use Rattle.alt_schema.specs.declared.schema.KeyAttr.{KeyAttr}
use Rattle.alt_schema.specs.declared.schema.TableSchema.{TableSchema}
use Rattle.alt_shape.specs.Body.{items_json}
use Rattle.alt_shape.specs.Refusals.{Answer, answered, bad_start_key}
use Rattle.alt_shape.specs.Shape.{given, natural_of}
use Rattle.alt_value.specs.Item.{at_name}
use Rattle.alt_value.specs.Members.{text_order}
use Rattle.alt_value.specs.Stands.{tree_of}
use Rattle.alt_value.specs.Tree.{Tree, Pair, S_tree, N_tree, B_tree}
use Rattle.alt_value.specs.declared.attr.Attr.{Attr}
use Rattle.alt_value.specs.declared.kind.KeyKind.{KeyKind}
use Rattle.alt_value.specs.declared.kind.KeyKind.TheVariants.{S, N, B}
use Rattle.alt_machine.specs.declared.Expressions.{Expressions}
use Rattle.alt_machine.specs.Expressions.{Texts, given_at, entries_read, expressions}
use Rattle.alt_machine.specs.Indexed.{place_read}
use Rattle.alt_machine.specs.Members.{table_at, unless_fault}
use Rattle.alt_machine.specs.Outcomes.{Outcome, says, unless_refused, with_found}
use Rattle.alt_machine.specs.Refusals.{first_answer, or_refused, refuse_unless, unless_answer, ◌>>=◌}
use Rattle.alt_machine.specs.Sources.{selects, index_asked, hash_of, is_key_there}
use Rattle.alt_machine.specs.State.{State, Table}
use Rattle.alt_machine.specs.Walks.{placed_items, turned, is_beyond}

-- ---- members that don't go together

-- a member is there
abbrev pub is_given : List ℕ → Members → Bool
is_given name ms = is_some (given name ms)

-- there is a projection, as an expression or as a list of names
abbrev pub gives_parts : Members → Bool
gives_parts ms =
    is_given (codes "ProjectionExpression") ms || is_given (codes "AttributesToGet") ms

-- there is one, and Select says something else
abbrev pub is_projection_odd : Members → Bool
is_projection_odd ms = gives_parts ms
    && (is_given (codes "Select") ms && not (selects (codes "SPECIFIC_ATTRIBUTES") ms))

-- Select asks for what isn't there: a projection, or an index
abbrev pub is_select_odd : Members → Bool
is_select_odd ms =
    (selects (codes "SPECIFIC_ATTRIBUTES") ms && not (gives_parts ms))
    || (selects (codes "ALL_PROJECTED_ATTRIBUTES") ms && not (is_given (codes "IndexName") ms))

-- Select doesn't go with the projection or the index
abbrev pub is_mismatched : Members → Bool
is_mismatched ms = is_projection_odd ms || is_select_odd ms

-- ---- where a page starts

-- the key that a member is, if there is one
abbrev pub start_key : Option Data → Result (Option (List Pair)) Answer
start_key None = Ok None
start_key (Some d) = unless_fault (item_in 32 d) >>= (λ key. Ok (Some key))

-- the key to start after, if one is given
abbrev pub start_at : Members → Result (Option (List Pair)) Answer
start_at ms = start_key (given (codes "ExclusiveStartKey") ms)

-- that key, and behind it the entries of members of the older interface
abbrev pub start_given : Texts → Members → Result (Option (List Pair)) Answer
start_given texts ms = start_at ms >>= entries_read texts ms

-- a value of that kind, which may be empty
abbrev pub is_of_kind : KeyKind → Tree → Bool
is_of_kind S (S_tree s) = true
is_of_kind N (N_tree z) = true
is_of_kind B (B_tree b) = true
is_of_kind kind other = false

-- the value of a key attribute in a start key, where it is there and of its kind
abbrev pub start_value : List Pair → KeyAttr → Option Tree
start_value key attribute = option_and_then
    (λ t. if is_of_kind attribute.kind t then Some t else None) (at_name attribute.name key)

-- the place of its HASH value and of the RANGE value that is beside it, where the table has a RANGE key
abbrev pub start_beside : List Pair → Option KeyAttr → Tree → Option Place
start_beside key None hash = Some (place_in_table hash None)
start_beside key (Some range) hash = option_map (λ r. place_in_table hash (Some r))
    (start_value key range)

-- its place in the table or in an index, where it has the keys
abbrev pub place_there : TableSchema → Option IndexSchema → List Pair → Option Place
place_there d None key = option_and_then (start_beside key d.range) (start_value key d.hash)
place_there d (Some i) key = place_read (start_value key) d i

-- it has no other attributes
abbrev pub has_keys_alone : TableSchema → Option IndexSchema → List Pair → Bool
has_keys_alone d i key = list_all (λ p. is_key_there d i p.0) key

-- The place of a start key, which needn't be that of an item. It has the key attributes and no others, each of its kind.
abbrev pub start_place : TableSchema → Option IndexSchema → List Pair → Option (List ℕ)
start_place d i key =
    if has_keys_alone d i key then option_map place_bytes (place_there d i key) else None

-- a start key has the HASH value that is asked for, where one is
abbrev pub has_hash : TableSchema → Option IndexSchema → Option Attr → List Pair → Bool
has_hash d i hash key = option_map_or
    (λ v. equal (at_name (hash_of d i).name key) (Some (tree_of v))) hash true

-- Where a walk starts: at the place of the start key, if one is given.
abbrev pub walk_start : TableSchema → Option IndexSchema → Option Attr → Option (List Pair)
    → Result (Option (List ℕ)) Answer
walk_start d i hash None = Ok None
walk_start d i hash (Some key) = or_refused bad_start_key (start_place d i key) >>= (λ place.
    unless_answer (first_answer (refuse_unless (has_hash d i hash key) bad_start_key ∷ []))
    (Some place))

-- ---- the list and its page

-- The items of a table, or of an index, that pass a test, strictly beyond the start, in the walk's direction.
abbrev pub listed : Bool → Option (List ℕ) → (List Pair → Bool) → Table → Option IndexSchema
    → List (List Pair)
listed forward start test t i = filter test (map (λ e. e.1)
    (filter (λ e. is_beyond forward start e.0) (turned forward (placed_items t i))))

-- what a request asks of its page
abbrev pub page_asked : Members → Expressions → Asked
page_asked ms said = record {
  limit = option_and_then natural_of (given (codes "Limit") ms);
  condition = said.condition;
  paths = said.projection;
}

-- the key attributes of an item, in an index those of both keys
abbrev pub key_attributes : TableSchema → Option IndexSchema → List Pair → List Pair
key_attributes d i = where_key text_order (is_key_there d i)

-- the last examined item, where the page has ended early
abbrev pub last_examined : Asked → List (List Pair) → Option (List Pair)
last_examined ask items =
    let page : Page = page_of ask items in
    if page.ended then last_or None (examined ask.limit items) else None

-- the items that are shown, none for COUNT
abbrev pub shown_items : Members → List (List Pair) → Option Data
shown_items ms items = if selects (codes "COUNT") ms then None else Some (array (items_json items))

-- A page as it is answered. The key of the last examined item is the place to go on from.
abbrev pub page_answer : TableSchema → Option IndexSchema → Members → Page → Option (List Pair)
    → Answer
page_answer d i ms page last = answered
    (member (codes "Count") (number (unsigned page.count))
    (member_if (codes "Items") (shown_items ms page.items)
    (member_if (codes "LastEvaluatedKey")
    (option_map (λ item. json_of_pairs (key_attributes d i item)) last)
    (member (codes "ScannedCount") (number (unsigned page.scanned)) no_members))))

-- the page of a list is answered
abbrev pub pages : TableSchema → Option IndexSchema → Members → Expressions → List (List Pair)
    → Outcome
pages d i ms said items =
    let ask : Asked = page_asked ms said in
    says (page_answer d i ms (page_of ask items) (last_examined ask items))

-- ---- the operations

-- Behind the tests of its body, an operation on a list of items reads the names, the values, the start key and the values of members of the
-- older interface, and then the table that is named, which of its indexes is named, if one is, and its expressions. It goes on with them.
abbrev pub on_list : List (Option Answer) → Texts → State → Members
    → (Expressions → Option (List Pair) → Table → Option ℕ → Outcome) → Outcome
on_list tests texts s ms go =
    unless_refused tests (
    with_found (given_at texts ms) (λ g.
    with_found (start_given texts ms) (λ start.
    with_found (table_at s ms) (λ t.
    with_found (index_asked t.description ms) (λ index.
    with_found (expressions texts t.description ms g) (λ said. go said start t index))))))

-- Nothing refuses the body; those are the start key, the number of the index, and what the expressions say to a table of the
-- description.
pub record IsListed (tests : List (Option Answer)) (texts : Texts) (ms : Members)
    (d : TableSchema) (said : Expressions) (start : Option (List Pair))
    (index : Option ℕ) : Type 0 where
  pub body : first_answer tests ≡ None
  pub words : Given
  pub given : given_at texts ms ≡ Ok words
  pub read : start_given texts ms ≡ Ok start
  pub asks : index_asked d ms ≡ Ok index
  pub says : expressions texts d ms words ≡ Ok said
