-- What operations go on with: a table, or an item and its place in one.
use Rattle.std.specs.Prelude.{◌≡◌, ℕ, true, List, [], ◌∷◌, Option, Some, None, Ok, codes}
use Rattle.serde_json.specs.Data.{Members}
use Rattle.alt_schema.specs.declared.schema.TableSchema.{TableSchema}
use Rattle.alt_shape.specs.Refusals.{Answer, bad_key, key_too_long}
use Rattle.alt_value.specs.Tree.{Pair}
use Rattle.alt_expr.specs.Given.{Given}
use Rattle.alt_machine.specs.declared.Expressions.{Expressions}
use Rattle.alt_machine.specs.declared.Sought.{Sought}
use Rattle.alt_machine.specs.declared.Sought.TheVariants.{Item, Key}
use Rattle.alt_machine.specs.Expressions.{Texts, words_given, expressions}
use Rattle.alt_machine.specs.Keys.{key_fits, place_of, place_of_key}
use Rattle.alt_machine.specs.Members.{table_at, item_at}
use Rattle.alt_machine.specs.Outcomes.{Outcome, unless_refused, with_found}
use Rattle.alt_machine.specs.Refusals.{first_answer, or_refused, refuse_unless}
use Rattle.alt_machine.specs.State.{State, Table}

-- behind the tests of its body, an operation on a table goes on with the table that is named
abbrev pub on_table : List (Option Answer) → State → Members → (Table → Outcome) → Outcome
on_table tests s ms go = unless_refused tests (with_found (table_at s ms) go)

-- how long the key of an item is
abbrev pub of_length : TableSchema → List Pair → List (Option Answer)
of_length d item = refuse_unless (key_fits d item) key_too_long ∷ []

-- the member at which an item or a key stands
abbrev pub member_of : Sought → List ℕ
member_of Item = codes "Item"
member_of Key = codes "Key"

-- its place in a table, where it has one; a key has no other attributes
abbrev pub place_in : Sought → TableSchema → List Pair → Option (List ℕ)
place_in Item = place_of
place_in Key = place_of_key

-- Behind the tests of its body, an operation on an item reads the item or the key, the names and the values, those of members of the older
-- interface, and then the table that is named, its expressions, and the place there. It goes on with them where there is a place and the key isn't too long.
abbrev pub on_item : List (Option Answer) → Sought → Texts → State → Members
    → (Expressions → List Pair → Table → List ℕ → Outcome) → Outcome
on_item tests sought texts s ms go =
    unless_refused tests (
    with_found (item_at (member_of sought) ms) (λ item.
    with_found (words_given texts ms) (λ g.
    with_found (table_at s ms) (λ t.
    with_found (expressions texts t.description ms g) (λ said.
    with_found (or_refused bad_key (place_in sought t.description item)) (λ place.
    unless_refused (of_length t.description item) (go said item t place)))))))

-- ---- what they went on with

-- Nothing refuses the body; those are the item or the key and what the expressions say, and the item is placed by the description of
-- the table.
pub record IsPlaced (tests : List (Option Answer)) (sought : Sought) (texts : Texts) (ms : Members)
    (d : TableSchema) (said : Expressions) (item : List Pair) (place : List ℕ) : Type 0 where
  pub body : first_answer tests ≡ None
  pub read : item_at (member_of sought) ms ≡ Ok item
  pub words : Given
  pub given : words_given texts ms ≡ Ok words
  pub says : expressions texts d ms words ≡ Ok said
  pub at : place_in sought d item ≡ Some place
  pub fits : key_fits d item ≡ true
