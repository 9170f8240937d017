-- The names that a request's member ExpressionAttributeNames gives.
use Rattle.std.specs.Prelude.{Bool, true, false, ◌&&◌, List, [], ◌∷◌}
use Rattle.serde_json.specs.Data.{Data, string, Members, no_members, member}
use Rattle.alt_value.specs.Item.{with_pair}
use Rattle.alt_value.specs.Tree.{Tree, S_tree, NULL_tree, Pair}
use Rattle.alt_expr.specs.Given.{is_given_name}

-- the text that a member is
abbrev pub name_in : Data → Tree
name_in (string s) = S_tree s
name_in _ = NULL_tree

-- each member is a text that isn't empty
abbrev pub gives_names : Members → Bool
gives_names no_members = true
gives_names (member w d ms) = is_given_name (name_in d) && gives_names ms

-- the names, by their words, put to those before
abbrev pub names_in : List Pair → Members → List Pair
names_in before no_members = before
names_in before (member [] d ms) = names_in before ms
names_in before (member (b ∷ bs) d ms) = names_in (with_pair (b ∷ bs) (name_in d) before) ms

-- the empty word, which no text has, is given
abbrev pub gives_empty : Members → Bool
gives_empty no_members = false
gives_empty (member [] d ms) = true
gives_empty (member (b ∷ bs) d ms) = gives_empty ms
