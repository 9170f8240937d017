-- The tokens of members and of items, one by one, are those of the object and of the list.
use Rattle.std.proofs.Common.{◌≡◌, refl, ap, ◌∙◌, List, [], ◌∷◌, ◌++◌}
use Rattle.std.specs.List.{flat_map}
use Rattle.std.proofs.lemmas.List.{append_assoc}
use Rattle.std.proofs.lemmas.List.Concat.{flat_map-cons}
use Rattle.serde_json.specs.Data.{object, array}
use Rattle.serde_json.specs.Written.{outline, items_outline, members_outline}
use Rattle.json.specs.Token as token
use Rattle.json.specs.Token.{Token}
use Rattle.json.specs.Tree.{json_tokens, items_tokens, members_tokens}
use Rattle.alt_value.specs.Tree.{Pair}
use Rattle.alt_shape.specs.Body.{items_json, members_json, tables_json}
use Rattle.alt_shape.specs.Pieces.{item_tokens, member_tokens, table_tokens}
use Rattle.alt_shape.specs.declared.body.Member.{Member}
use Rattle.alt_shape.specs.declared.body.TableItems.{TableItems}

-- the items, and the bracket behind them
items_closed : (is : List (List Pair)) → flat_map item_tokens is ++ token.end_array ∷ []
    ≡ items_tokens (items_outline (items_json is))
items_closed [] = refl
items_closed (i ∷ is) =
    ap (λ ts. ts ++ token.end_array ∷ []) (flat_map-cons item_tokens i is)
    ∙ append_assoc (item_tokens i) (flat_map item_tokens is) (token.end_array ∷ [])
    ∙ ap (λ ts. item_tokens i ++ ts) (items_closed is)

-- the members, and the bracket behind them
members_closed : (ms : List Member) → flat_map member_tokens ms ++ token.end_object ∷ []
    ≡ members_tokens (members_outline (members_json ms))
members_closed [] = refl
members_closed (m ∷ ms) =
    ap (λ ts. ts ++ token.end_object ∷ []) (flat_map-cons member_tokens m ms)
    ∙ append_assoc (member_tokens m) (flat_map member_tokens ms) (token.end_object ∷ [])
    ∙ ap (λ ts. member_tokens m ++ ts) (members_closed ms)

-- the tables, and the bracket behind them
tables_closed : (ts : List TableItems) → flat_map table_tokens ts ++ token.end_object ∷ []
    ≡ members_tokens (members_outline (tables_json ts))
tables_closed [] = refl
tables_closed (t ∷ ts) =
    ap (λ xs. xs ++ token.end_object ∷ []) (flat_map-cons table_tokens t ts)
    ∙ append_assoc (table_tokens t) (flat_map table_tokens ts) (token.end_object ∷ [])
    ∙ ap (λ xs. table_tokens t ++ xs) (tables_closed ts)

-- an opened bracket, the pieces and a closed one, behind what stood there
pub in_brackets : (old more : List Token) (left right : Token)
    → ((old ++ left ∷ []) ++ more) ++ right ∷ [] ≡ old ++ left ∷ (more ++ right ∷ [])
in_brackets old more left right =
    append_assoc (old ++ left ∷ []) more (right ∷ [])
    ∙ append_assoc old (left ∷ []) (more ++ right ∷ [])

-- the tokens of a list of items
pub array_written : (old : List Token) (is : List (List Pair))
    → ((old ++ token.begin_array ∷ []) ++ flat_map item_tokens is) ++ token.end_array ∷ []
    ≡ old ++ json_tokens (outline (array (items_json is)))
array_written old is = in_brackets old (flat_map item_tokens is) token.begin_array token.end_array
    ∙ ap (λ ts. old ++ token.begin_array ∷ ts) (items_closed is)

-- the tokens of an object of members
pub object_written : (ms : List Member)
    → ((token.begin_object ∷ []) ++ flat_map member_tokens ms) ++ token.end_object ∷ []
    ≡ json_tokens (outline (object (members_json ms)))
object_written ms = ap (λ ts. token.begin_object ∷ ts) (members_closed ms)

-- the tokens of an object of tables
pub tables_written : (old : List Token) (ts : List TableItems)
    → ((old ++ token.begin_object ∷ []) ++ flat_map table_tokens ts) ++ token.end_object ∷ []
    ≡ old ++ json_tokens (outline (object (tables_json ts)))
tables_written old ts = in_brackets old (flat_map table_tokens ts) token.begin_object token.end_object
    ∙ ap (λ xs. old ++ token.begin_object ∷ xs) (tables_closed ts)
