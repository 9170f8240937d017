-- The expressions of a request: the names and values that it gives, what its texts say, and that each given word stands in one of them
-- (DynamoDB Developer Guide, "Using expressions in DynamoDB"). Members of the older interface may say the same in their place.
use Rattle.std.specs.Prelude.{ℕ, Bool, false, List, [], ◌∷◌, ◌++◌, Option, Some, None, option_and_then, Result, Ok, Err, codes, ◌||◌}
use Rattle.std.specs.List.{list_any}
use Rattle.std.specs.Option.{option_map_or}
use Rattle.serde_json.specs.Data.{Data, string, Members, no_members, member}
use Rattle.serde_json.specs.Find.{as_object, as_str}
use Rattle.alt_codec.specs.Reading.{item_in}
use Rattle.alt_expr.specs.Faults.{Language}
use Rattle.alt_expr.specs.Given.{Given, with_hashes, with_colons, has_unused}
use Rattle.alt_expr.specs.Lookups.{names_alone}
use Rattle.alt_expr.specs.NamesIn.{names_in, gives_empty}
use Rattle.alt_expr.specs.Told.{TextTokens, Told}
use Rattle.alt_expr.specs.Tokens.{Tok}
use Rattle.alt_expr.specs.UpdateLanguage.{target}
use Rattle.alt_expr.specs.declared.fault.ExprFault.{ExprFault}
use Rattle.alt_expr.specs.declared.fault.ExprFault.TheVariants.{TooLong, TooDeep, Syntax, Undefined, TooMany, RepeatedClause, Overlap, NoMemory}
use Rattle.alt_expr.specs.declared.path.PathPart.{PathPart}
use Rattle.alt_expr.specs.declared.path.PathPart.TheVariants.{Name}
use Rattle.alt_expr.specs.declared.update.Action.{Action}
use Rattle.alt_expr.proofs.CondTexts.{condition_of}
use Rattle.alt_expr.proofs.PathsTexts.{paths_of}
use Rattle.alt_expr.proofs.TextTokens.{tokens_of}
use Rattle.alt_expr.proofs.UpdateTexts.{update_of}
use Rattle.alt_machine.specs.declared.Expressions.{Expressions}
use Rattle.alt_machine.specs.Members.{unless_fault}
use Rattle.alt_machine.specs.Older.{Older, older_names, older_expected, older_updates, older_scan, older_query, of_entries, older_said}
use Rattle.alt_machine.specs.Refusals.{first_answer, refuse_if, refuse_by, unless_answer, ◌>>=◌}
use Rattle.alt_schema.specs.Indexes.{is_key}
use Rattle.alt_schema.specs.declared.schema.TableSchema.{TableSchema}
use Rattle.alt_shape.specs.Refusals as refusal
use Rattle.alt_shape.specs.Refusals.{Answer, refused, key_update, unused_name}
use Rattle.alt_shape.specs.Shape.{given}
use Rattle.alt_shape.specs.declared.refusal.Refusal.{Refusal}
use Rattle.alt_value.specs.Tree.{Pair}

-- the members of an operation that are expressions, each where it takes one, and those that stand in their place
pub record Texts : Type 0 where
  pub key_condition : Option (List ℕ)
  pub condition : Option (List ℕ)
  pub update : Option (List ℕ)
  pub projection : Option (List ℕ)
  pub older : Older

-- a write that may be conditional
abbrev pub conditional : Texts
conditional = record {
  key_condition = None;
  condition = Some (codes "ConditionExpression");
  update = None;
  projection = None;
  older = older_expected;
}

-- an update, which may be conditional
abbrev pub updating : Texts
updating = record conditional {
  update = Some (codes "UpdateExpression");
  older = older_updates;
}

-- a read that may show parts
abbrev pub projecting : Texts
projecting = record {
  key_condition = None;
  condition = None;
  update = None;
  projection = Some (codes "ProjectionExpression");
  older = older_names;
}

-- a Scan, whose condition is a filter
abbrev pub scanning : Texts
scanning = record projecting {
  condition = Some (codes "FilterExpression");
  older = older_scan;
}

-- a Query, which has a condition on keys too
abbrev pub querying : Texts
querying = record scanning {
  key_condition = Some (codes "KeyConditionExpression");
  older = older_query;
}

-- ---- names and values

-- the names that are given
abbrev pub names_member : Members → Option Members
names_member ms = option_and_then as_object (given (codes "ExpressionAttributeNames") ms)

-- a name is a text that isn't empty
abbrev pub name_refusal : Data → Option Refusal
name_refusal (string []) = Some refusal.not_one_kind
name_refusal (string (b ∷ bs)) = None
name_refusal other = Some refusal.unreadable

-- so is each of them, by the bytes of their words
abbrev pub of_names : Members → List (Option Answer)
of_names no_members = []
of_names (member word d ms) = refuse_by (name_refusal d) ∷ of_names ms

-- the given names, none where there is no such member
abbrev pub names_at : Members → Result (List Pair) Answer
names_at ms =
    option_map_or (λ names. unless_answer (first_answer (of_names names)) (names_in [] names))
    (names_member ms) (Ok [])

-- the values that a member gives, which are read as an item is
abbrev pub values_in : Option Data → Result (List Pair) Answer
values_in None = Ok []
values_in (Some d) = unless_fault (item_in 32 d)

-- the given values; an operation that takes no condition takes none
abbrev pub values_at : Texts → Members → Result (List Pair) Answer
values_at texts ms = option_map_or (λ _. values_in (given (codes "ExpressionAttributeValues") ms))
    texts.condition (Ok [])

-- both
unfoldable pub given_at : Texts → Members → Result Given Answer
given_at texts ms = do
  names ← names_at ms
  values ← values_at texts ms
  Ok (record { names = names; values = values })

-- what was read before, where the entries of members of the older interface can be read too
abbrev pub entries_read : {A : Type 0} → Texts → Members → A → Result A Answer
entries_read texts ms = unless_answer (first_answer (of_entries texts.older ms))

-- the names and the values, and behind them those entries
abbrev pub words_given : Texts → Members → Result Given Answer
words_given texts ms = given_at texts ms >>= entries_read texts ms

-- ---- texts

-- the refusal of a text for its first fault (docs/formats/expressions.md)
abbrev pub expression_refusal : ExprFault → Refusal
expression_refusal TooLong = refusal.expression_too_large
expression_refusal TooDeep = refusal.expression_too_large
expression_refusal Syntax = refusal.bad_expression
expression_refusal Undefined = refusal.undefined_name
expression_refusal TooMany = refusal.expression_too_large
expression_refusal RepeatedClause = refusal.overlapping_paths
expression_refusal Overlap = refusal.overlapping_paths
expression_refusal NoMemory = refusal.unreadable

-- a tree that was read, or the refusal of its text
abbrev pub read_or_refused : {A : Type 0} → Result A ExprFault → Result (Option A) Answer
read_or_refused (Ok tree) = Ok (Some tree)
read_or_refused (Err fault) = Err (refused (expression_refusal fault))

-- What a text states over what is given, if there is a text. What a text is of a grammar is one (`Told`).
abbrev pub stated_by_text : {D A : Type 0} {L : Language D A}
    → ((g : Given) (text : List ℕ) → Told L g text)
    → Given → Option (List ℕ) → Result (Option A) Answer
stated_by_text told g None = Ok None
stated_by_text told g (Some text) = let of_text = told g text in read_or_refused of_text.result

-- the text at a member, where an operation takes one there
abbrev pub text_at : Option (List ℕ) → Members → Option (List ℕ)
text_at named ms = option_and_then (λ name. option_and_then as_str (given name ms)) named

-- the words of a text, if there is one
abbrev pub words_of : Option (List ℕ) → List Tok
words_of None = []
words_of (Some text) = let tokens : TextTokens text = tokens_of text in tokens.toks

-- the words of all texts
abbrev pub words_at : Texts → Members → List Tok
words_at texts ms =
    words_of (text_at texts.key_condition ms) ++ words_of (text_at texts.condition ms)
    ++ words_of (text_at texts.update ms) ++ words_of (text_at texts.projection ms)

-- ---- all of them

-- a path begins with a key attribute of the table
abbrev pub begins_with_key : TableSchema → List PathPart → Bool
begins_with_key d (Name name ∷ parts) = is_key d.hash d.range name
begins_with_key d parts = false

-- an update changes a key attribute, or a part of one
abbrev pub changes_key : TableSchema → Option (List Action) → Bool
changes_key d update = option_map_or (list_any (λ action. begins_with_key d (target action)))
    update false

-- a given name or value stands in none of the texts, which have these words; no text has the empty word
abbrev pub is_unused : Members → Given → List Tok → Bool
is_unused ms g words = (option_map_or gives_empty (names_member ms) false
    || has_unused g.names (with_hashes words []))
    || has_unused g.values (with_colons words [])

-- what they are refused for once each text is read: an update of a key attribute, and then a word that stands in none
abbrev pub of_texts : Texts → TableSchema → Members → Given → Option (List Action)
    → List (Option Answer)
of_texts texts d ms g update =
    refuse_if (changes_key d update) key_update ∷
    refuse_if (is_unused ms g (words_at texts ms)) unused_name ∷ []

-- What the texts say to a table: each is refused for its first fault, in this order, and then all of them. A projection has no word
-- for a value.
unfoldable pub texts_say : Texts → TableSchema → Members → Given → Result Expressions Answer
texts_say texts d ms g = do
  keys ← stated_by_text condition_of g (text_at texts.key_condition ms)
  condition ← stated_by_text condition_of g (text_at texts.condition ms)
  update ← stated_by_text update_of g (text_at texts.update ms)
  projection ← stated_by_text paths_of (names_alone g.names) (text_at texts.projection ms)
  unless_answer (first_answer (of_texts texts d ms g update))
      (record {
        key_condition = keys;
        condition = condition;
        update = update;
        projection = projection;
      })

-- ---- texts, or members in their place

-- the first that is there
abbrev pub earlier : {A : Type 0} → Option A → Option A → Option A
earlier (Some x) y = Some x
earlier None y = y

-- what members of the older interface say, and else what texts say
abbrev pub in_place : Expressions → Expressions → Expressions
in_place older said = record {
  key_condition = earlier older.key_condition said.key_condition;
  condition = earlier older.condition said.condition;
  update = earlier older.update said.update;
  projection = earlier older.projection said.projection;
}

-- an update of the older interface changes a key attribute
abbrev pub of_older : TableSchema → Expressions → List (Option Answer)
of_older d older = refuse_if (changes_key d older.update) key_update ∷ []

-- What is said to a table. No text stands in a request beside a member of the older interface, so each of these members is in the place of
-- its text, and the words that are given are tested behind all of them.
unfoldable pub expressions : Texts → TableSchema → Members → Given → Result Expressions Answer
expressions texts d ms g = do
  older ← older_said texts.older ms
  apart ← unless_answer (first_answer (of_older d older)) older
  said ← texts_say texts d ms g
  Ok (in_place apart said)
