-- What the expressions of a request say, by what was read of them.
use Rattle.std.proofs.Common.{◌≡◌, refl, sym, ap, subst, ◌∙◌, ◌||◌, true, false, List, [], ◌∷◌, Option, Some, None, option_map, Result, Ok, Err, arith}
use Rattle.std.specs.Option.{option_map_or}
use Rattle.serde_json.specs.Data.{Data, Members, no_members, member, string}
use Rattle.alt_expr.specs.Faults.{KeepsNames}
use Rattle.alt_expr.specs.Given as expr
use Rattle.alt_expr.specs.Given.{with_hashes, with_colons, has_unused}
use Rattle.alt_expr.specs.NamesGiven.{used_names, given_values, used_values, is_empty_given}
use Rattle.alt_expr.specs.NamesIn.{gives_names, gives_empty, names_in as expr_names}
use Rattle.alt_expr.specs.declared.cond.Cond.{Cond}
use Rattle.alt_expr.specs.declared.names.Names.{Names}
use Rattle.alt_expr.specs.declared.path.PathPart.{PathPart}
use Rattle.alt_expr.specs.declared.update.Action.{Action}
use Rattle.alt_expr.specs.declared.values.Values.{Values}
use Rattle.alt_machine.specs.declared.Expressions.{Expressions}
use Rattle.alt_machine.specs.Expressions as machine
use Rattle.alt_machine.specs.Refusals.{first_answer, refuse_by, unless_answer}
use Rattle.alt_machine.proofs.Spoken.{keys_said, condition_said, update_said, paths_said, texts_say-no_keys, texts_say-no_condition, texts_say-no_update, texts_say-no_paths, texts_say-key_update, texts_say-unused, texts_say-said, are_given}
use Rattle.alt_said.specs.Steps.{Comes}
use Rattle.alt_said.specs.Words.{AreFreshWords, given_of, names_refusal, names_or_refusal, earlier, has_unused_words, all_stated}
use Rattle.alt_said.specs.declared.words.Given.{Given}
use Rattle.alt_said.specs.declared.stop.Stop.{Stop}
use Rattle.alt_said.specs.declared.stop.Stop.TheVariants.{Refused, Fault}
use Rattle.alt_said.proofs.Stated.{behind, with_all}
use Rattle.alt_schema.specs.declared.schema.TableSchema.{TableSchema}
use Rattle.alt_shape.specs.Refusals.{Answer, IsKnown, refused, key_update, unused_name, not_one_kind, unreadable}
use Rattle.alt_shape.specs.declared.refusal.Refusal.{Refusal}

-- ---- names

-- the first that is refused is that of the tests
one_more : (ms : Members) (o : Option Refusal)
    → first_answer (machine.of_names ms) ≡ option_map refused (names_refusal ms)
    → first_answer (refuse_by o ∷ machine.of_names ms)
    ≡ option_map refused (earlier o (names_refusal ms))
one_more ms None e = e
one_more ms (Some r) e = refl

-- so it is with all of them
first_is : (ms : Members) → first_answer (machine.of_names ms)
    ≡ option_map refused (names_refusal ms)
first_is no_members = refl
first_is (member word d ms) = one_more ms (machine.name_refusal d) (first_is ms)

-- it has a message
some_known : (q r : Refusal) → IsKnown q → Some q ≡ Some r → IsKnown r
some_known q r h e = subst IsKnown (let same : q ≡ r = cc in same) h

-- what refuses a single name has a message
one_known : (d : Data) (r : Refusal) → machine.name_refusal d ≡ Some r → IsKnown r
one_known (string []) r e = some_known not_one_kind r (omega arith) e
one_known (string (b ∷ bs)) r e = absurd (let f : ⊥ = cc in f)
one_known other r e = some_known unreadable r tt e

-- so has what refuses it or, where nothing does, those behind it
either_known : (ms : Members) (d : Data) (r : Refusal) (o : Option Refusal)
    → machine.name_refusal d ≡ o → (names_refusal ms ≡ Some r → IsKnown r)
    → earlier o (names_refusal ms) ≡ Some r → IsKnown r
either_known ms d r None same rest f = rest f
either_known ms d r (Some q) same rest f = one_known d r (same ∙ f)

-- and what refuses any of the names
pub names_known : (ms : Members) (r : Refusal) → names_refusal ms ≡ Some r → IsKnown r
names_known no_members r e = absurd (let f : ⊥ = cc in f)
names_known (member word d ms) r e =
    either_known ms d r (machine.name_refusal d) refl (names_known ms r) e

-- where nothing does, each is a text that isn't empty
pub names_free : (ms : Members) → names_refusal ms ≡ None → gives_names ms ≡ true
names_free ms e = are_given ms (first_is ms ∙ ap (option_map refused) e)

-- and all of them are read
pub names_read : (ms : Members) → names_refusal ms ≡ None → names_or_refusal ms ≡ Ok (expr_names [] ms)
names_read ms e = ap (λ o. unless_answer o (expr_names [] ms))
    (first_is ms ∙ ap (option_map refused) e)

-- what does refuse them is what is answered
pub names_refused : (ms : Members) (r : Refusal) → names_refusal ms ≡ Some r
    → names_or_refusal ms ≡ Err (refused r)
names_refused ms r e = ap (λ o. unless_answer o (expr_names [] ms))
    (first_is ms ∙ ap (option_map refused) e)

-- ---- all of them

-- what each of the texts states, where they state this together
pub record EachSaid (texts : machine.Texts) (d : TableSchema) (ms : Members) (g : expr.Given)
    (e : Expressions) : Type 0 where
  pub keys : keys_said texts d ms g ≡ Ok e.key_condition
  pub condition : condition_said texts d ms g ≡ Ok e.condition
  pub update : update_said texts d ms g ≡ Ok e.update
  pub paths : paths_said texts d ms g ≡ Ok e.projection

module _ (texts : machine.Texts) (d : TableSchema) (ms : Members) (g : expr.Given) where
  -- a text that is refused refuses them all
  first_unsaid : (a : Answer) → all_stated texts ms g ≡ Err a
      → machine.texts_say texts d ms g ≡ Err a
  first_unsaid a = by (keys_said texts d ms g) refl (condition_said texts d ms g) refl
      (update_said texts d ms g) refl (paths_said texts d ms g) refl
    where
      by : (k : Result (Option Cond) Answer) → keys_said texts d ms g ≡ k
          → (c : Result (Option Cond) Answer) → condition_said texts d ms g ≡ c
          → (u : Result (Option (List Action)) Answer) → update_said texts d ms g ≡ u
          → (p : Result (Option (List (List PathPart))) Answer) → paths_said texts d ms g ≡ p
          → behind k c u p ≡ Err a → machine.texts_say texts d ms g ≡ Err a
      by (Err b) is c is_c u is_u p is_p e = texts_say-no_keys texts d ms g a
          (is ∙ ap (λ x. Err x) (let f : b ≡ a = cc in f))
      by (Ok k) is (Err b) is_c u is_u p is_p e = texts_say-no_condition texts d ms g k is a
          (is_c ∙ ap (λ x. Err x) (let f : b ≡ a = cc in f))
      by (Ok k) is (Ok c) is_c (Err b) is_u p is_p e =
          texts_say-no_update texts d ms g k is c is_c a
          (is_u ∙ ap (λ x. Err x) (let f : b ≡ a = cc in f))
      by (Ok k) is (Ok c) is_c (Ok u) is_u (Err b) is_p e =
          texts_say-no_paths texts d ms g k is c is_c u is_u a
          (is_p ∙ ap (λ x. Err x) (let f : b ≡ a = cc in f))
      by (Ok k) is (Ok c) is_c (Ok u) is_u (Ok p) is_p e = absurd (let f : ⊥ = cc in f)

  -- what stops the texts stops all of them
  pub unsaid : (stop : Stop)
      → Comes {X = Expressions} (λ e. e) (all_stated texts ms g) (Err stop)
      → Comes {X = Expressions} (λ e. e) (machine.texts_say texts d ms g) (Err stop)
  unsaid (Refused r) h = (first_unsaid (refused r) h.0, h.1)
  unsaid (Fault f) h = h

  -- what all of them state is what each of them does
  pub each_said : (e : Expressions) → all_stated texts ms g ≡ Ok e → EachSaid texts d ms g e
  each_said e = by (keys_said texts d ms g) refl (condition_said texts d ms g) refl
      (update_said texts d ms g) refl (paths_said texts d ms g) refl
    where
      by : (k : Result (Option Cond) Answer) → keys_said texts d ms g ≡ k
          → (c : Result (Option Cond) Answer) → condition_said texts d ms g ≡ c
          → (u : Result (Option (List Action)) Answer) → update_said texts d ms g ≡ u
          → (p : Result (Option (List (List PathPart))) Answer) → paths_said texts d ms g ≡ p
          → behind k c u p ≡ Ok e → EachSaid texts d ms g e
      by (Err b) is c is_c u is_u p is_p h = absurd (let f : ⊥ = cc in f)
      by (Ok k) is (Err b) is_c u is_u p is_p h = absurd (let f : ⊥ = cc in f)
      by (Ok k) is (Ok c) is_c (Err b) is_u p is_p h = absurd (let f : ⊥ = cc in f)
      by (Ok k) is (Ok c) is_c (Ok u) is_u (Err b) is_p h = absurd (let f : ⊥ = cc in f)
      by (Ok k) is (Ok c) is_c (Ok u) is_u (Ok p) is_p h =
          let same : with_all k c u p ≡ e = cc in record {
            keys = is ∙ ap (λ (x : Expressions). Ok x.key_condition) same;
            condition = is_c ∙ ap (λ (x : Expressions). Ok x.condition) same;
            update = is_u ∙ ap (λ (x : Expressions). Ok x.update) same;
            paths = is_p ∙ ap (λ (x : Expressions). Ok x.projection) same;
          }

module _ (texts : machine.Texts) (d : TableSchema) (ms : Members) (old : Given) (e : Expressions)
    (stated : all_stated texts ms (given_of old) ≡ Ok e) where
  -- an update of a key attribute
  pub said_key_update : machine.changes_key d e.update ≡ true
      → machine.texts_say texts d ms (given_of old) ≡ Err (refused key_update)
  said_key_update key =
      let each = each_said texts d ms (given_of old) e stated in
      texts_say-key_update texts d ms (given_of old) e.key_condition each.keys e.condition
      each.condition e.update each.update e.projection each.paths key

  module _ (fresh : AreFreshWords ms old) (names : Names) (values : Values)
      (hashes : used_names names ≡ with_hashes (machine.words_at texts ms) (used_names old.names))
      (colons : used_values values
      ≡ with_colons (machine.words_at texts ms) (used_values old.values))
      (keeps : KeepsNames old.names names) (kept : given_values values ≡ given_values old.values)
      (apart : machine.changes_key d e.update ≡ false) where
    same_empty : is_empty_given names ≡ option_map_or gives_empty (machine.names_member ms) false
    same_empty = keeps.empty ∙ fresh.names.empty

    unused_is : has_unused_words names values
        ≡ machine.is_unused ms (given_of old) (machine.words_at texts ms)
    unused_is = λ i.
        (same_empty i || has_unused (keeps.names i)
        ((hashes ∙ ap (with_hashes (machine.words_at texts ms)) fresh.names.used) i))
        || has_unused (kept i)
        ((colons ∙ ap (with_colons (machine.words_at texts ms)) fresh.values) i)

    -- a word that stands in no text
    pub said_unused : has_unused_words names values ≡ true
        → machine.texts_say texts d ms (given_of old) ≡ Err (refused unused_name)
    said_unused more =
        let each = each_said texts d ms (given_of old) e stated in
        texts_say-unused texts d ms (given_of old) e.key_condition each.keys e.condition
        each.condition e.update each.update e.projection each.paths apart (sym unused_is ∙ more)

    -- neither
    pub said_all : has_unused_words names values ≡ false
        → machine.texts_say texts d ms (given_of old) ≡ Ok e
    said_all more =
        let each = each_said texts d ms (given_of old) e stated in
        texts_say-said texts d ms (given_of old) e.key_condition each.keys e.condition
        each.condition e.update each.update e.projection each.paths apart (sym unused_is ∙ more)
