-- A page of the program, its members, and the key of an item.
use Rattle.std.specs.Prelude.{ℕ, List, [], ◌∷◌, Option, Some, None}
use Rattle.serde_json.specs.Data.{Members, no_members, member}
use Rattle.alt_expr.specs.Pages as pages
use Rattle.alt_paging.specs.declared.ask.Page.{Page}
use Rattle.alt_schema.specs.declared.schema.KeyAttr.{KeyAttr}
use Rattle.alt_value.specs.Item.{at_name, with_pair}
use Rattle.alt_value.specs.Tree.{Tree, Pair}

-- a page of the program, as the machine has it
abbrev pub machine_page : Page → pages.Page
machine_page page = record {
  items = page.items;
  count = page.count;
  scanned = page.scanned;
  ended = page.ended;
}

-- members behind others
abbrev pub behind : Members → Members → Members
behind no_members ms = ms
behind (member name d more) ms = member name d (behind more ms)

-- with the value of an attribute, where it is there; no attribute has the empty name
abbrev pub with_attribute : List ℕ → Option Tree → List Pair → List Pair
with_attribute [] o key = key
with_attribute name None key = key
with_attribute (b ∷ name) (Some t) key = with_pair (b ∷ name) t key

-- with those of a key
abbrev pub with_key : KeyAttr → Option KeyAttr → List Pair → List Pair → List Pair
with_key hash None item key = with_attribute hash.name (at_name hash.name item) key
with_key hash (Some range) item key = with_attribute range.name (at_name range.name item)
    (with_attribute hash.name (at_name hash.name item) key)
