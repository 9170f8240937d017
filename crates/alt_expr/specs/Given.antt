-- The names and values that a request gives for the `#` and `:` words of its texts, and which of them the texts have used.
use Rattle.std.specs.Prelude.{ℕ, Bool, true, false, not, List, [], ◌∷◌, is_none, unwrap_or}
use Rattle.std.specs.Option.{option_map_or}
use Rattle.std.specs.List.{list_any, list_all}
use Rattle.alt_value.specs.declared.attr.Attr.{Attr}
use Rattle.alt_value.specs.declared.attr.Attr.TheVariants as a
use Rattle.alt_value.specs.Item.{at_name}
use Rattle.alt_value.specs.Members.{text_order, has_member, with_member}
use Rattle.alt_value.specs.Tree.{Tree, S_tree, N_tree, B_tree, BOOL_tree, NULL_tree, SS_tree, NS_tree, BS_tree, L_tree, M_tree, Pair, elements, pairs}
use Rattle.alt_expr.specs.Tokens.{Tok, hash, colon}

-- what is given: texts by `#` word, and values by `:` word
pub record Given : Type 0 where
  pub names : List Pair
  pub values : List Pair

-- a value that is a text, as its bytes
abbrev pub value_text : Tree → List ℕ
value_text (S_tree s) = s
value_text _ = []

-- the name that a word stands for; the word itself where it isn't given
abbrev pub name_of : List Pair → List ℕ → List ℕ
name_of names w = option_map_or value_text (at_name w names) w

-- the value that a tree is of
abbrev pub attr_of : Tree → Attr
attr_of (S_tree s) = a.S s
attr_of (N_tree z) = a.N z
attr_of (B_tree b) = a.B b
attr_of (BOOL_tree b) = a.Bool b
attr_of NULL_tree = a.Null
attr_of (SS_tree ss) = a.Ss ss
attr_of (NS_tree zs) = a.Ns zs
attr_of (BS_tree bs) = a.Bs bs
attr_of (L_tree ts) = a.L (elements ts)
attr_of (M_tree fs) = a.M (pairs fs)

-- the value that a word stands for; NULL where it isn't given
abbrev pub value_of : List Pair → List ℕ → Attr
value_of values w = attr_of (unwrap_or (at_name w values) NULL_tree)

-- a `#` or `:` word that isn't given
abbrev pub is_unknown : Given → Tok → Bool
is_unknown g (hash w) = is_none (at_name w g.names)
is_unknown g (colon w) = is_none (at_name w g.values)
is_unknown g _ = false

-- the used `#` words once a text with these tokens was parsed
abbrev pub with_hashes : List Tok → List (List ℕ) → List (List ℕ)
with_hashes [] used = used
with_hashes (hash w ∷ ts) used = with_hashes ts (with_member text_order w used)
with_hashes (_ ∷ ts) used = with_hashes ts used

-- the used `:` words once a text with these tokens was parsed
abbrev pub with_colons : List Tok → List (List ℕ) → List (List ℕ)
with_colons [] used = used
with_colons (colon w ∷ ts) used = with_colons ts (with_member text_order w used)
with_colons (_ ∷ ts) used = with_colons ts used

-- a given word stands in none of the texts whose words these are
abbrev pub has_unused : List Pair → List (List ℕ) → Bool
has_unused given used = list_any (λ p. not (has_member text_order p.0 used)) given

-- a name: a text that isn't empty
abbrev pub is_given_name : Tree → Bool
is_given_name (S_tree []) = false
is_given_name (S_tree (b ∷ bs)) = true
is_given_name _ = false

-- each value given for a name is a text that has bytes
abbrev pub are_names : List Pair → Bool
are_names given = list_all (λ p. is_given_name p.1) given
