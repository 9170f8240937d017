-- What is said by members of the older interface, or by texts: an update that changes no part of a key, whose actions put no empty set.
use Rattle.std.proofs.Common.{◌≡◌, refl, sym, ap, subst, ◌∙◌, ℕ, Bool, true, false, cond, T, List, [], ◌∷◌, map, Option, Some, None, Result, Ok, Err, IfOk, IfSome}
use Rattle.std.specs.Prelude.{unwrap_or, option_map, option_and_then, codes}
use Rattle.std.specs.Str.{bytes_eq}
use Rattle.serde_json.specs.Data.{Data, Members, no_members, member}
use Rattle.serde_json.specs.Find.{as_object, as_str}
use Rattle.alt_codec.specs.Reading.{ValueOrFault as ValueAnswer, value_in}
use Rattle.alt_codec.proofs.Fits.{Fits, value_fits}
use Rattle.alt_expr.specs.Given.{Given}
use Rattle.alt_expr.specs.Located.{View}
use Rattle.alt_expr.specs.UpdateLanguage.{begin_with_names}
use Rattle.alt_expr.specs.Updated.{ActionFault, parent, added, taken_from_set}
use Rattle.alt_expr.specs.Updated as update
use Rattle.alt_expr.specs.declared.cond.Cond.{Cond}
use Rattle.alt_expr.specs.declared.path.PathPart.{PathPart}
use Rattle.alt_expr.specs.declared.path.PathPart.TheVariants.{Name}
use Rattle.alt_expr.specs.declared.update.Action.{Action}
use Rattle.alt_legacy.specs.Changes.{AttributeChange, put, add, take, NamedChange, put_of, add_of, delete_of, is_set, if_set, change_named, change_by, entry_change, named_change, change_then, each_change, changes_of_member}
use Rattle.alt_legacy.specs.Trees.{condition_in, paths_in, attribute_path, action_for, action_of, update_in}
use Rattle.alt_legacy.specs.Values.{sound, json_value}
use Rattle.alt_legacy.specs.declared.reading.Form.TheVariants.{Filter}
use Rattle.alt_legacy.proofs.Named.{names_first}
use Rattle.alt_legacy.proofs.Updating.{given_term}
use Rattle.alt_machine.specs.declared.Expressions.{Expressions}
use Rattle.alt_machine.specs.Expressions.{Texts, changes_key, texts_say, text_at, earlier, in_place, of_older, expressions}
use Rattle.alt_machine.specs.Older.{Older, older_at, is_any, said_by, some_actions, older_said}
use Rattle.alt_machine.specs.Refusals.{first_answer, unless_answer, or_refused, ◌>>=◌}
use Rattle.alt_machine.proofs.Full.{MayFull, PairsFull, ViewFull, full-attr_of}
use Rattle.alt_machine.proofs.FullActions.{EditFull, ActionFull, ActionsFull, full-added, full-taken}
use Rattle.alt_machine.proofs.FullTerms.{behind}
use Rattle.alt_machine.proofs.Said.{found_first, same_Ok, passed_on, says_update, stated_full}
use Rattle.alt_machine.proofs.Tests.{if_fails}
use Rattle.alt_schema.specs.declared.schema.TableSchema.{TableSchema}
use Rattle.alt_shape.specs.Refusals.{Answer, key_update, bad_legacy_parameter}
use Rattle.alt_shape.specs.Shape.{given}
use Rattle.alt_value.specs.Stands.{tree_of}
use Rattle.alt_value.specs.Tree.{Tree}
use Rattle.alt_value.specs.Values.{sets_full}
use Rattle.alt_value.specs.declared.attr.Attr.{Attr}

-- ---- both parts

-- What is said is in the place of what texts say, and an update of the older interface changes no part of a key.
pub record IsSaid (texts : Texts) (d : TableSchema) (ms : Members) (g : Given)
    (said : Expressions) : Type 0 where
  pub older : Expressions
  pub by_older : older_said texts.older ms ≡ Ok older
  pub apart : changes_key d older.update ≡ false
  pub by_texts : Expressions
  pub spoken : texts_say texts d ms g ≡ Ok by_texts
  pub both : in_place older by_texts ≡ said

-- nothing is answered where something is found
unanswered : {A : Type 0} (o : Option Answer) (x y : A) → unless_answer o x ≡ Ok y → o ≡ None
unanswered None x y e = refl
unanswered (Some a) x y e = absurd (let f : ⊥ = cc in f)

module _ (texts : Texts) (d : TableSchema) (ms : Members) (g : Given) where
  -- behind the members, and behind the test of their update
  abbrev pub with_apart : Expressions → Result Expressions Answer
  with_apart apart = texts_say texts d ms g >>= (λ said. Ok (in_place apart said))

  abbrev pub with_older : Expressions → Result Expressions Answer
  with_older older = unless_answer (first_answer (of_older d older)) older >>= with_apart

  -- they are read one after another
  pub all_in_place : expressions texts d ms g ≡ older_said texts.older ms >>= with_older
  unfolding expressions
  all_in_place = refl

  pub parts_of : (said : Expressions) → expressions texts d ms g ≡ Ok said
      → IsSaid texts d ms g said
  parts_of said e =
      let older = found_first (older_said texts.older ms) with_older said
      (sym all_in_place ∙ e) in
      let apart = found_first (unless_answer (first_answer (of_older d older.0)) older.0)
      with_apart said older.2 in
      let spoken = found_first (texts_say texts d ms g)
      (λ (x : Expressions). Ok (in_place apart.0 x)) said apart.2 in
      let same : older.0 ≡ apart.0 =
      passed_on (first_answer (of_older d older.0)) older.0 apart.0 apart.1 in
      record {
        older = older.0;
        by_older = older.1;
        apart = (if_fails (changes_key d older.0.update) key_update []
            (unanswered (first_answer (of_older d older.0)) older.0 apart.0 apart.1)).0;
        by_texts = spoken.0;
        spoken = spoken.1;
        both = ap (λ (x : Expressions). in_place x spoken.0) same
            ∙ same_Ok (in_place apart.0 spoken.0) said spoken.2;
      }

  -- what holds of both updates holds of the one that is said
  either_has : (P : Option (List Action) → Type 0) (a b : Option (List Action)) → P a → P b
      → P (earlier a b)
  either_has P (Some x) b h k = h
  either_has P None b h k = k

  pub said_has : (P : Option (List Action) → Type 0) (said : Expressions)
      (is : IsSaid texts d ms g said) → P is.older.update → P is.by_texts.update → P said.update
  said_has P said is h k = subst (λ (x : Expressions). P x.update) is.both
      (either_has P is.older.update is.by_texts.update h k)

  -- no part of a key is changed
  pub said_apart : (said : Expressions) → expressions texts d ms g ≡ Ok said
      → changes_key d said.update ≡ false
  said_apart said e =
      let is = parts_of said e in
      said_has (λ update. changes_key d update ≡ false) said is is.apart
      (says_update texts d ms g is.by_texts is.spoken).1

-- ---- the update of the older interface

module _ (older : Older) (ms : Members) where
  -- what each of the members says
  abbrev keys_by : Result (Option Cond) Answer
  keys_by = said_by (condition_in Filter false) (older_at older.keys ms)

  abbrev condition_by : Result (Option Cond) Answer
  condition_by = said_by (condition_in older.form (is_any ms)) (older_at older.condition ms)

  abbrev update_by : Option Data → Result (Option (List Action)) Answer
  update_by o = said_by (λ d. option_map some_actions (update_in d)) o

  abbrev names_by : Result (Option (List (List PathPart))) Answer
  names_by = said_by (λ d. option_map Some (paths_in d)) (older_at older.names ms)

  -- what all of them say
  abbrev all_by : Option Cond → Option Cond → Option (List Action)
      → Option (List (List PathPart)) → Expressions
  all_by keys condition update paths = record {
    key_condition = keys;
    condition = condition;
    update = update;
    projection = paths;
  }

  -- behind each of them
  abbrev behind_update : Option Cond → Option Cond → Option (List Action)
      → Result Expressions Answer
  behind_update keys condition update =
      names_by >>= (λ paths. Ok (all_by keys condition update paths))

  abbrev behind_condition : Option Cond → Option Cond → Result Expressions Answer
  behind_condition keys condition =
      update_by (older_at older.update ms) >>= behind_update keys condition

  abbrev behind_keys : Option Cond → Result Expressions Answer
  behind_keys keys = condition_by >>= behind_condition keys

  -- they are read one after another
  pub all_by_members : older_said older ms ≡ keys_by >>= behind_keys
  unfolding older_said
  all_by_members = refl

  -- the update is what its member says
  older_update : (e : Expressions) → older_said older ms ≡ Ok e
      → update_by (older_at older.update ms) ≡ Ok e.update
  older_update e h =
      let keys = found_first keys_by behind_keys e (sym all_by_members ∙ h) in
      let condition = found_first condition_by (behind_condition keys.0) e keys.2 in
      let update = found_first (update_by (older_at older.update ms))
      (behind_update keys.0 condition.0) e condition.2 in
      let paths = found_first names_by
      (λ ps. Ok (all_by keys.0 condition.0 update.0 ps)) e update.2 in
      update.1 ∙ ap (λ (x : Expressions). Ok x.update)
      (same_Ok (all_by keys.0 condition.0 update.0 paths.0) e paths.2)

  -- and the projection what its member says
  pub older_paths : (e : Expressions) → older_said older ms ≡ Ok e → names_by ≡ Ok e.projection
  older_paths e h =
      let keys = found_first keys_by behind_keys e (sym all_by_members ∙ h) in
      let condition = found_first condition_by (behind_condition keys.0) e keys.2 in
      let update = found_first (update_by (older_at older.update ms))
      (behind_update keys.0 condition.0) e condition.2 in
      let paths = found_first names_by
      (λ ps. Ok (all_by keys.0 condition.0 update.0 ps)) e update.2 in
      paths.1 ∙ ap (λ (x : Expressions). Ok x.projection)
      (same_Ok (all_by keys.0 condition.0 update.0 paths.0) e paths.2)

  -- what holds of the actions of entries holds of those of the update
  module _ (P : List Action → Type 0) (nothing : P [])
      (holds : (d : Data) (cs : List NamedChange) → changes_of_member d ≡ Some cs → P (map action_of cs))
    where
      some_has : (actions : List Action) → P actions → P (unwrap_or (some_actions actions) [])
      some_has [] h = h
      some_has (a ∷ actions) h = h

      update_has : (o : Option Data) (update : Option (List Action)) → update_by o ≡ Ok update
          → P (unwrap_or update [])
      update_has None update e =
          subst (λ (u : Option (List Action)). P (unwrap_or u [])) (same_Ok None update e) nothing
      update_has (Some d) update e = by (changes_of_member d) refl e
        where
          by : (o : Option (List NamedChange)) → changes_of_member d ≡ o
              → or_refused bad_legacy_parameter
              (option_map some_actions (option_map (map action_of) o)) ≡ Ok update
              → P (unwrap_or update [])
          by None f g = absurd (let k : ⊥ = cc in k)
          by (Some cs) f g = subst (λ (u : Option (List Action)). P (unwrap_or u []))
              (same_Ok (some_actions (map action_of cs)) update g)
              (some_has (map action_of cs) (holds d cs f))

      pub older_has : (e : Expressions) → older_said older ms ≡ Ok e → P (unwrap_or e.update [])
      older_has e h = update_has (older_at older.update ms) e.update (older_update e h)

-- ---- what entries put

-- no set in a value that was read is empty
value_full : (d : Data) → IfSome (json_value d) (λ v. T (sets_full (tree_of v)))
value_full d = by (value_in 32 d) (value_fits 32 d)
  where
    by : (r : ValueAnswer) → IfOk r (Fits 32) → IfSome (sound r) (λ v. T (sets_full (tree_of v)))
    by (Ok t) h = full-attr_of t h.1
    by (Err f) h = tt

module _ (view : View) (full : ViewFull view) where
  module _ (name : List ℕ) where
    -- what a change puts has no empty set, if there is a change
    abbrev MayPut : Option AttributeChange → Type 0
    MayPut o = IfSome o (λ c. ActionFull view (action_for name c))

    chosen : (b : Bool) (x y : Option AttributeChange) → MayPut x → MayPut y → MayPut (cond b x y)
    chosen true x y h k = h
    chosen false x y h k = k

    put_full : (value : Option Data) → MayPut (put_of value)
    put_full None = tt
    put_full (Some d) = by (json_value d) (value_full d)
      where
        by : (o : Option Attr) → IfSome o (λ v. T (sets_full (tree_of v)))
            → MayPut (option_map put o)
        by None h = tt
        by (Some v) h = subst (λ (r : Result Tree ActionFault). IfOk
            (update.◌>>=◌ r (λ t. update.◌>>=◌ (parent view (attribute_path name))
            (λ _. Ok (attribute_path name, Some t)))) EditFull)
            (sym (given_term view v)) h

    add_full : (value : Option Data) → MayPut (add_of value)
    add_full None = tt
    add_full (Some d) = by (json_value d) (value_full d)
      where
        by : (o : Option Attr) → IfSome o (λ v. T (sets_full (tree_of v)))
            → MayPut (option_map add o)
        by None h = tt
        by (Some v) h = behind (λ s. T (sets_full s)) EditFull (added (view name) (tree_of v))
            (λ s. Ok (Name name ∷ [], Some s))
            (full-added (view name) (tree_of v) (full name) h) (λ s k. k)

    take_full : (v : Attr) → MayPut (Some (take v))
    take_full v = behind MayFull EditFull (taken_from_set (view name) (tree_of v))
        (λ o. Ok (Name name ∷ [], o)) (full-taken (view name) (tree_of v)) (λ o k. k)

    delete_full : (value : Option Data) → MayPut (delete_of value)
    delete_full None = tt
    delete_full (Some d) = by (json_value d)
      where
        by : (o : Option Attr) → MayPut (option_and_then if_set o)
        by None = tt
        by (Some v) = chosen (is_set v) (Some (take v)) None (take_full v) tt

    word_full : (word : List ℕ) (value : Option Data) → MayPut (change_named word value)
    word_full word value =
        let deletes = chosen (bytes_eq word (codes "DELETE")) (delete_of value) None
        (delete_full value) tt in
        let adds = chosen (bytes_eq word (codes "ADD")) (add_of value) _ (add_full value) deletes in
        chosen (bytes_eq word (codes "PUT")) (put_of value) _ (put_full value) adds

    by_full : (word : Option (List ℕ)) (value : Option Data) → MayPut (change_by word value)
    by_full None value = put_full value
    by_full (Some word) value = word_full word value

  -- so is each entry
  abbrev MayName : Option NamedChange → Type 0
  MayName o = IfSome o (λ c. ActionFull view (action_of c))

  named_full : (name : List ℕ) (d : Data) → MayName (named_change name d)
  named_full [] d = tt
  named_full (b ∷ bs) d = of_object (as_object d)
    where
      mapped : (o : Option AttributeChange) → MayPut (b ∷ bs) o
          → MayName (option_map (λ change. record { name = b ∷ bs; change = change }) o)
      mapped None h = tt
      mapped (Some c) h = h

      of_object : (o : Option Members) → MayName (option_map
          (λ change. record { name = b ∷ bs; change = change }) (option_and_then entry_change o))
      of_object None = tt
      of_object (Some ms) = mapped (entry_change ms) (by_full (b ∷ bs)
          (option_and_then as_str (given (codes "Action") ms)) (given (codes "Value") ms))

  -- and are all of them
  abbrev MayAll : Option (List NamedChange) → Type 0
  MayAll o = IfSome o (λ cs. ActionsFull view (map action_of cs))

  both_full : (o : Option NamedChange) (more : Option (List NamedChange)) → MayName o
      → MayAll more → MayAll (change_then o more)
  both_full None more h k = tt
  both_full (Some c) None h k = tt
  both_full (Some c) (Some cs) h k = (h, k)

  each_full : (ms : Members) → MayAll (each_change ms)
  each_full no_members = tt
  each_full (member name d ms) =
      both_full (named_change name d) (each_change ms) (named_full name d) (each_full ms)

  changes_full : (d : Data) (cs : List NamedChange) → changes_of_member d ≡ Some cs
      → ActionsFull view (map action_of cs)
  changes_full d cs = of_object (as_object d)
    where
      got : (o : Option (List NamedChange)) → MayAll o → o ≡ Some cs
          → ActionsFull view (map action_of cs)
      got None h e = absurd (let k : ⊥ = cc in k)
      got (Some ds) h e = subst (λ xs. ActionsFull view (map action_of xs))
          (let f : ds ≡ cs = cc in f) h

      of_object : (o : Option Members) → option_and_then each_change o ≡ Some cs
          → ActionsFull view (map action_of cs)
      of_object None e = absurd (let k : ⊥ = cc in k)
      of_object (Some ms) e = got (each_change ms) (each_full ms) e

-- ---- what is said

-- the actions of what is said put no empty set, where nothing that is there and nothing that is given has one
pub said_full : (texts : Texts) (d : TableSchema) (ms : Members) (g : Given) (said : Expressions)
    → expressions texts d ms g ≡ Ok said → (view : View) → ViewFull view → PairsFull g.values
    → ActionsFull view (unwrap_or said.update [])
said_full texts d ms g said e view full values =
    let is = parts_of texts d ms g said e in
    said_has texts d ms g (λ update. ActionsFull view (unwrap_or update [])) said is
    (older_has texts.older ms (ActionsFull view) tt (changes_full view full) is.older is.by_older)
    (stated_full view g full values (text_at texts.update ms) is.by_texts.update
    (says_update texts d ms g is.by_texts is.spoken).0)

-- each path of the older interface begins with a name
pub older_begins : (older : Older) (ms : Members) (e : Expressions) → older_said older ms ≡ Ok e
    → begin_with_names (unwrap_or e.update []) ≡ true
older_begins older ms e h = older_has older ms (λ actions. begin_with_names actions ≡ true) refl
    (λ d cs f. names_first cs) e h
