-- What the texts of a request say, by what a parser answers of them.
use Rattle.std.proofs.Common.{◌≡◌, refl, sym, ap, ◌∙◌, ℕ, Bool, true, false, List, [], ◌∷◌, Option, Some, None, Ok, Err}
use Rattle.std.specs.Prelude.{Result}
use Rattle.serde_json.specs.Data.{Members, string, no_members, member}
use Rattle.alt_expr.specs.Faults.{Language, Parsed, NotesHashes, NotesColons}
use Rattle.alt_expr.specs.Given.{Given, with_hashes, with_colons}
use Rattle.alt_expr.specs.Lexed.{Lexes}
use Rattle.alt_expr.specs.Lookups.{names_alone}
use Rattle.alt_expr.specs.NamesGiven.{used_names, used_values}
use Rattle.alt_expr.specs.NamesIn.{gives_names}
use Rattle.alt_expr.specs.Told.{Told, IsTold}
use Rattle.alt_expr.specs.Tokens.{Tok}
use Rattle.alt_expr.specs.declared.cond.Cond.{Cond}
use Rattle.alt_expr.specs.declared.fault.ExprFault.{ExprFault}
use Rattle.alt_expr.specs.declared.names.Names.{Names}
use Rattle.alt_expr.specs.declared.path.PathPart.{PathPart}
use Rattle.alt_expr.specs.declared.update.Action.{Action}
use Rattle.alt_expr.specs.declared.values.Values.{Values}
use Rattle.alt_expr.proofs.CondTexts.{condition_of}
use Rattle.alt_expr.proofs.OneAnswer.{one_answer}
use Rattle.alt_expr.proofs.Once.{tokens_once}
use Rattle.alt_expr.proofs.PathsTexts.{paths_of}
use Rattle.alt_expr.proofs.TextTokens.{tokens_of}
use Rattle.alt_expr.proofs.UpdateTexts.{update_of}
use Rattle.alt_machine.specs.declared.Expressions.{Expressions}
use Rattle.alt_machine.specs.Expressions.{Texts, stated_by_text, read_or_refused, text_at, words_of, words_at, changes_key, is_unused, of_texts, texts_say, of_names}
use Rattle.alt_machine.specs.Refusals.{first_answer, refuse_if, unless_answer, ◌>>=◌}
use Rattle.alt_schema.specs.declared.schema.TableSchema.{TableSchema}
use Rattle.alt_shape.specs.Refusals.{Answer, refused, key_update, unused_name}

-- ---- one text

-- what a parser of a grammar answers of a text is what the text states
pub stated_is : {D A : Type 0} (L : Language D A)
    (told : (g : Given) (text : List ℕ) → Told L g text)
    (g : Given) → ((d e : D) → L.toks d ≡ L.toks e → L.tree g d ≡ L.tree g e) → (text : List ℕ)
    (r : Result A ExprFault) → Parsed L g text r → IsTold r
    → stated_by_text told g (Some text) ≡ read_or_refused r
stated_is L told g one_tree text r parsed is_told =
    let of_text = told g text in
    ap read_or_refused (one_answer L g one_tree text of_text.result r of_text.parsed parsed
    of_text.told is_told)

-- its words are those that a parser notes
words_are : (text : List ℕ) (toks : List Tok) → Lexes text toks true → words_of (Some text) ≡ toks
words_are text toks lexes =
    let of_text = tokens_of text in
    (tokens_once text of_text.toks toks of_text.whole true of_text.lexes lexes).0

-- the names that are used behind a parser are those from before and those of the text's words
pub hashes_noted : {A : Type 0} (text : List ℕ) (old new : Names) (a : A)
    → NotesHashes text old new (Ok a)
    → used_names new ≡ with_hashes (words_of (Some text)) (used_names old)
unfolding NotesHashes
hashes_noted text old new a h = h.2
    ∙ ap (λ ts. with_hashes ts (used_names old)) (sym (words_are text h.0 h.1))

-- and so are the values
pub colons_noted : {A : Type 0} (text : List ℕ) (old new : Values) (a : A)
    → NotesColons text old new (Ok a)
    → used_values new ≡ with_colons (words_of (Some text)) (used_values old)
unfolding NotesColons
colons_noted text old new a h = h.2
    ∙ ap (λ ts. with_colons ts (used_values old)) (sym (words_are text h.0 h.1))

-- ---- all of them

module _ (texts : Texts) (d : TableSchema) (ms : Members) (g : Given) where
  -- what the texts of this operation state
  abbrev pub keys_said : Result (Option Cond) Answer
  keys_said = stated_by_text condition_of g (text_at texts.key_condition ms)

  -- what the condition's text states
  abbrev pub condition_said : Result (Option Cond) Answer
  condition_said = stated_by_text condition_of g (text_at texts.condition ms)

  -- what the update's text states
  abbrev pub update_said : Result (Option (List Action)) Answer
  update_said = stated_by_text update_of g (text_at texts.update ms)

  -- what the projection's text states
  abbrev pub paths_said : Result (Option (List (List PathPart))) Answer
  paths_said = stated_by_text paths_of (names_alone g.names) (text_at texts.projection ms)

  -- behind each of the texts
  abbrev pub with_paths : Option Cond → Option Cond → Option (List Action)
      → Option (List (List PathPart)) → Result Expressions Answer
  with_paths keys condition update paths =
      unless_answer (first_answer (of_texts texts d ms g update))
      (record {
        key_condition = keys;
        condition = condition;
        update = update;
        projection = paths;
      })

  -- behind the key condition, the condition and the update
  abbrev pub with_update : Option Cond → Option Cond → Option (List Action)
      → Result Expressions Answer
  with_update keys condition update = paths_said >>= with_paths keys condition update

  -- behind the key condition and the condition
  abbrev pub with_condition : Option Cond → Option Cond → Result Expressions Answer
  with_condition keys condition = update_said >>= with_update keys condition

  -- behind the key condition
  abbrev pub with_keys : Option Cond → Result Expressions Answer
  with_keys keys = condition_said >>= with_condition keys

  -- the texts are read one after another
  pub all_said : texts_say texts d ms g ≡ keys_said >>= with_keys
  unfolding texts_say
  all_said = refl

  -- a key condition that is refused refuses them all
  pub texts_say-no_keys : (answer : Answer) → keys_said ≡ Err answer
      → texts_say texts d ms g ≡ Err answer
  texts_say-no_keys answer e = all_said ∙ ap (λ r. r >>= with_keys) e

  module _ (keys : Option Cond) (asks : keys_said ≡ Ok keys) where
    behind_keys : texts_say texts d ms g ≡ with_keys keys
    behind_keys = all_said ∙ ap (λ r. r >>= with_keys) asks

    pub texts_say-no_condition : (answer : Answer) → condition_said ≡ Err answer
        → texts_say texts d ms g ≡ Err answer
    texts_say-no_condition answer e =
        behind_keys ∙ ap (λ r. r >>= with_condition keys) e

    module _ (condition : Option Cond) (said : condition_said ≡ Ok condition) where
      behind_condition : texts_say texts d ms g ≡ with_condition keys condition
      behind_condition = behind_keys ∙ ap (λ r. r >>= with_condition keys) said

      pub texts_say-no_update : (answer : Answer) → update_said ≡ Err answer
          → texts_say texts d ms g ≡ Err answer
      texts_say-no_update answer e =
          behind_condition ∙ ap (λ r. r >>= with_update keys condition) e

      module _ (update : Option (List Action)) (updates : update_said ≡ Ok update) where
        behind_update : texts_say texts d ms g ≡ with_update keys condition update
        behind_update = behind_condition ∙ ap (λ r. r >>= with_update keys condition) updates

        pub texts_say-no_paths : (answer : Answer) → paths_said ≡ Err answer
            → texts_say texts d ms g ≡ Err answer
        texts_say-no_paths answer e =
            behind_update ∙ ap (λ r. r >>= with_paths keys condition update) e

        module _ (paths : Option (List (List PathPart))) (shows : paths_said ≡ Ok paths) where
          -- what all of them say
          abbrev all_of_them : Expressions
          all_of_them = record {
            key_condition = keys;
            condition = condition;
            update = update;
            projection = paths;
          }

          -- by what the tests of all texts tell
          by_tests : (k u : Bool) → changes_key d update ≡ k
              → is_unused ms g (words_at texts ms) ≡ u
              → texts_say texts d ms g
              ≡ unless_answer (first_answer (refuse_if k key_update
              ∷ refuse_if u unused_name ∷ [])) all_of_them
          by_tests k u tells_key tells_unused =
              behind_update ∙ ap (λ r. r >>= with_paths keys condition update) shows
              ∙ ap (λ b. unless_answer (first_answer (refuse_if b key_update
              ∷ refuse_if (is_unused ms g (words_at texts ms)) unused_name ∷ []))
              all_of_them) tells_key
              ∙ ap (λ b. unless_answer (first_answer (refuse_if k key_update
              ∷ refuse_if b unused_name ∷ [])) all_of_them) tells_unused

          pub texts_say-key_update : changes_key d update ≡ true
              → texts_say texts d ms g ≡ Err (refused key_update)
          texts_say-key_update e =
              by_tests true (is_unused ms g (words_at texts ms)) e refl

          module _ (keeps : changes_key d update ≡ false) where
            pub texts_say-unused : is_unused ms g (words_at texts ms) ≡ true
                → texts_say texts d ms g ≡ Err (refused unused_name)
            texts_say-unused e = by_tests false true keeps e

            pub texts_say-said : is_unused ms g (words_at texts ms) ≡ false
                → texts_say texts d ms g ≡ Ok all_of_them
            texts_say-said e = by_tests false false keeps e

-- ---- names

-- where none of the names is refused, each is a text that isn't empty
pub are_given : (ms : Members) → first_answer (of_names ms) ≡ None → gives_names ms ≡ true
are_given no_members e = refl
are_given (member word (string []) ms) e = absurd (let f : ⊥ = cc in f)
are_given (member word (string (b ∷ bs)) ms) e = are_given ms e
are_given (member word other ms) e = absurd (let f : ⊥ = cc in f)
