-- What the expressions of a request are, where none of them is refused: an update that changes no part of a key, in which each value
-- is a given one.
use Rattle.std.proofs.Common.{◌≡◌, refl, sym, ap, subst, ◌∙◌, ℕ, false, T, List, [], ◌∷◌, Option, Some, None, Result, Ok, Err, IfOk}
use Rattle.std.specs.Prelude.{unwrap_or, codes}
use Rattle.std.specs.Option.{option_map_or}
use Rattle.serde_json.specs.Data.{Data, Members}
use Rattle.alt_codec.specs.Reading.{item_in}
use Rattle.alt_codec.specs.declared.fault.ValueFault.{ValueFault}
use Rattle.alt_codec.proofs.Fits.{item_full}
use Rattle.alt_expr.specs.Faults.{Parsed}
use Rattle.alt_expr.specs.Given.{Given}
use Rattle.alt_expr.specs.Located.{View}
use Rattle.alt_expr.specs.UpdateLanguage.{updates}
use Rattle.alt_expr.specs.declared.cond.Cond.{Cond}
use Rattle.alt_expr.specs.declared.fault.ExprFault.{ExprFault}
use Rattle.alt_expr.specs.declared.path.PathPart.{PathPart}
use Rattle.alt_expr.specs.declared.update.Action.{Action}
use Rattle.alt_expr.proofs.UpdateTexts.{update_of}
use Rattle.alt_machine.specs.declared.Expressions.{Expressions}
use Rattle.alt_machine.specs.Expressions.{Texts, values_in, values_at, names_at, given_at, stated_by_text, read_or_refused, words_at, changes_key, is_unused, of_texts, entries_read, words_given, texts_say}
use Rattle.alt_machine.specs.Members.{unless_fault}
use Rattle.alt_machine.specs.Older.{of_entries}
use Rattle.alt_machine.specs.Refusals.{first_answer, refuse_if, unless_answer, ◌>>=◌}
use Rattle.alt_machine.proofs.Full.{PairsFull, ViewFull}
use Rattle.alt_machine.proofs.FullActions.{ActionsFull, full-update}
use Rattle.alt_machine.proofs.Spoken.{keys_said, condition_said, update_said, paths_said, with_paths, with_update, with_condition, with_keys, all_said}
use Rattle.alt_machine.proofs.Tests.{if_fails}
use Rattle.alt_schema.specs.declared.schema.TableSchema.{TableSchema}
use Rattle.alt_shape.specs.Refusals.{Answer, key_update, unused_name}
use Rattle.alt_shape.specs.Shape.{given}
use Rattle.alt_value.specs.Tree.{Pair, fields_of}
use Rattle.alt_value.specs.Values.{fields_full}

-- answers that are equal and Ok have equal values
pub same_Ok : {A : Type 0} {E : Type 0} (x y : A) → ◌≡◌ {A = Result A E} (Ok x) (Ok y) → x ≡ y
same_Ok x y e = cc

-- what was found, where what comes next found something
pub found_first : {A B : Type 0} (r : Result A Answer) (next : A → Result B Answer) (y : B)
    → (r >>= next) ≡ Ok y → (x : A) × (r ≡ Ok x) × (next x ≡ Ok y)
found_first (Ok x) next y e = (x, refl, e)
found_first (Err a) next y e = absurd (let f : ⊥ = cc in f)

-- what comes behind tests is what was there before them
pub passed_on : {A : Type 0} (o : Option Answer) (x y : A) → unless_answer o x ≡ Ok y → x ≡ y
passed_on None x y e = same_Ok x y e
passed_on (Some a) x y e = absurd (let f : ⊥ = cc in f)

-- ---- what is given

-- no set in the values that a member gives is empty
values_full : (d : Option Data) → IfOk (values_in d) PairsFull
values_full None = tt
values_full (Some d) = by (item_in 32 d) (item_full 32 d)
  where
    by : (r : Result (List Pair) ValueFault) → IfOk r (λ ps. T (fields_full (fields_of ps)))
        → IfOk (unless_fault r) PairsFull
    by (Ok ps) h = h
    by (Err f) h = tt

-- nor in those that an operation reads, where it reads any
values_at-full : (texts : Texts) (ms : Members) → IfOk (values_at texts ms) PairsFull
values_at-full texts ms = by texts.condition
  where
    by : (o : Option (List ℕ)) → IfOk (option_map_or
        (λ _. values_in (given (codes "ExpressionAttributeValues") ms)) o (Ok [])) PairsFull
    by None = tt
    by (Some name) = values_full (given (codes "ExpressionAttributeValues") ms)

-- no set in a given value is empty
pub given_full : (texts : Texts) (ms : Members) (g : Given) → given_at texts ms ≡ Ok g
    → PairsFull g.values
unfolding given_at
given_full texts ms g e =
    let names = found_first (names_at ms) (λ names. values_at texts ms >>= (λ values.
    Ok (record { names = names; values = values }))) g e in
    let values = found_first (values_at texts ms)
    (λ values. Ok (record { names = names.0; values = values })) g names.2 in
    let same : values.0 ≡ g.values = ap (λ (w : Given). w.values)
    (same_Ok (record { names = names.0; values = values.0 }) g values.2) in
    subst PairsFull same (of_values (values_at texts ms) values.0 values.1
    (values_at-full texts ms))
  where
    of_values : (r : Result (List Pair) Answer) (ps : List Pair) → r ≡ Ok ps → IfOk r PairsFull
        → PairsFull ps
    of_values (Ok qs) ps f h = subst PairsFull (same_Ok qs ps f) h
    of_values (Err a) ps f h = absurd (let k : ⊥ = cc in k)

-- behind the entries of members of the older interface it is what was given
pub words_full : (texts : Texts) (ms : Members) (g : Given) → words_given texts ms ≡ Ok g
    → PairsFull g.values
words_full texts ms g e =
    let first = found_first (given_at texts ms) (entries_read texts ms) g e in
    subst (λ (w : Given). PairsFull w.values)
    (passed_on (first_answer (of_entries texts.older ms)) first.0 g first.2)
    (given_full texts ms first.0 first.1)

-- ---- what is said

module _ (texts : Texts) (d : TableSchema) (ms : Members) (g : Given) where
  -- where the tests of all texts refuse nothing
  untested : (keys condition : Option Cond) (update : Option (List Action))
      (paths : Option (List (List PathPart))) (said : Expressions)
      → with_paths texts d ms g keys condition update paths ≡ Ok said
      → (update ≡ said.update) × (changes_key d update ≡ false)
  untested keys condition update paths said e =
      by (first_answer (of_texts texts d ms g update)) refl e
    where
      all : Expressions
      all = record {
        key_condition = keys;
        condition = condition;
        update = update;
        projection = paths;
      }

      by : (o : Option Answer) → first_answer (of_texts texts d ms g update) ≡ o
          → unless_answer o all ≡ Ok said
          → (update ≡ said.update) × (changes_key d update ≡ false)
      by None free f = (
        ap (λ (x : Expressions). x.update) (same_Ok all said f),
        (if_fails (changes_key d update) key_update
            (refuse_if (is_unused ms g (words_at texts ms)) unused_name ∷ []) free).0,
      )
      by (Some a) free f = absurd (let k : ⊥ = cc in k)

  -- the update of the texts is what its text states, and changes no part of a key
  pub says_update : (said : Expressions) → texts_say texts d ms g ≡ Ok said
      → (update_said texts d ms g ≡ Ok said.update) × (changes_key d said.update ≡ false)
  says_update said e =
      let keys = found_first (keys_said texts d ms g) (with_keys texts d ms g) said
      (sym (all_said texts d ms g) ∙ e) in
      let condition = found_first (condition_said texts d ms g)
      (with_condition texts d ms g keys.0) said keys.2 in
      let update = found_first (update_said texts d ms g)
      (with_update texts d ms g keys.0 condition.0) said condition.2 in
      let paths = found_first (paths_said texts d ms g)
      (with_paths texts d ms g keys.0 condition.0 update.0) said update.2 in
      let passed = untested keys.0 condition.0 update.0 paths.0 said paths.2 in
      (update.1 ∙ ap Ok passed.0, ap (changes_key d) (sym passed.0) ∙ passed.1)

module _ (view : View) (g : Given) (full : ViewFull view) (values : PairsFull g.values) where
  -- an update that was parsed puts no empty set, where no value that is given has one
  of_parsed : (text : List ℕ) (r : Result (List Action) ExprFault) → Parsed updates g text r
      → (update : Option (List Action)) → read_or_refused r ≡ Ok update
      → ActionsFull view (unwrap_or update [])
  unfolding Parsed updates
  of_parsed text (Ok actions) h update e =
      subst (λ o. ActionsFull view (unwrap_or o [])) (same_Ok (Some actions) update e)
      (subst (λ acts. ActionsFull view acts) (sym h.1.2) (full-update view g full values h.1.0))
  of_parsed text (Err f) h update e = absurd (let k : ⊥ = cc in k)

  -- what an update that is stated puts has no empty set
  pub stated_full : (text : Option (List ℕ)) (update : Option (List Action))
      → stated_by_text update_of g text ≡ Ok update → ActionsFull view (unwrap_or update [])
  stated_full None update e =
      subst (λ o. ActionsFull view (unwrap_or o [])) (same_Ok None update e) tt
  stated_full (Some text) update e =
      let of_text = update_of g text in
      of_parsed text of_text.result of_text.parsed update e
