-- Whether a table, or an item and its place, is reached: the machine stops at the same step.
use Rattle.std.proofs.Common.{◌≡◌, refl, sym, ap, subst, ◌∙◌, ℕ, Bool, true, false, List, [], ◌∷◌, Option, Some, None, Result, Ok, Err, Bor}
use Rattle.std.specs.Result.{IsErr, IsErrAnd}
use Rattle.std.specs.FinMap as map
use Rattle.serde_json.specs.Data.{Members}
use Rattle.alt_expr.specs.Given as expr
use Rattle.alt_machine.specs.declared.Expressions.{Expressions}
use Rattle.alt_machine.specs.declared.Sought.{Sought}
use Rattle.alt_machine.specs.Expressions as machine
use Rattle.alt_machine.specs.Keys.{key_fits}
use Rattle.alt_machine.specs.Members.{table_name, item_at}
use Rattle.alt_machine.specs.Outcomes.{Outcome, says, answer_or, unless_refused, with_found}
use Rattle.alt_machine.specs.Refusals.{first_answer, or_refused, refuse_unless, unless_answer, ◌>>=◌}
use Rattle.alt_machine.specs.State.{State, Table, Texts, descriptions}
use Rattle.alt_machine.specs.Targets.{on_item, member_of, of_length, place_in}
use Rattle.alt_machine.proofs.Chains.{found_is}
use Rattle.alt_machine.proofs.Targets.{table-missed, item-refused, item-unread, item-no_words, item-no_table, item-unsaid, item-said}
use Rattle.alt_request.specs.Steps.{Comes, Tested}
use Rattle.alt_request.specs.Targets.{OnTable, OnItem, place_that_fits}
pub use Rattle.alt_said.proofs.Passed.{err_is}
use Rattle.alt_said.specs.Words.{given_of}
use Rattle.alt_said.specs.declared.words.Given.{Given}
use Rattle.alt_said.specs.declared.stop.Stop.{Stop}
use Rattle.alt_request.specs.declared.targets.Target.{Target}
use Rattle.alt_said.specs.declared.stop.Stop.TheVariants.{Refused, Fault}
use Rattle.alt_request.proofs.Named.{none_found, table_found, table_missed}
use Rattle.alt_schema.specs.declared.schema.TableSchema.{TableSchema}
use Rattle.alt_shape.specs.Refusals.{Answer, refused, not_found, bad_key, key_too_long}
use Rattle.alt_value.specs.Tree.{Pair}

-- and what is so of it is so of what it is passed on as
pub passed_on : (tests : List (Option Answer)) (sought : Sought) (texts : machine.Texts)
    (catalog : Texts TableSchema) (ms : Members) (r : Result Target Stop) (e : Stop)
    → IsErr r × IsErrAnd r (λ x. x ≡ e)
    → OnItem tests sought texts catalog ms (Err e) → OnItem tests sought texts catalog ms r
passed_on tests sought texts catalog ms r e h on =
    subst (OnItem tests sought texts catalog ms) (sym (err_is r e h)) on

-- what a place that fits comes to is what the machine goes on with
module _ (tests : List (Option Answer)) (sought : Sought) (texts : machine.Texts) (s : State)
    (ms : Members) (go : Expressions → List Pair → Table → List ℕ → Outcome) where
  by_place : (d : TableSchema) (item : List Pair) (r : Result (List ℕ) Answer)
      (go_on : List ℕ → Outcome) (a : Answer)
      → r >>= (λ place. unless_answer (first_answer (of_length d item)) place) ≡ Err a
      → with_found r (λ place. unless_refused (of_length d item) (go_on place)) ≡ says a
  by_place d item (Err b) go_on a e = ap says (let same : b ≡ a = cc in same)
  by_place d item (Ok place) go_on a e = by_test (first_answer (of_length d item)) e
    where
      by_test : (o : Option Answer) → unless_answer o place ≡ Err a
          → answer_or o (go_on place) ≡ says a
      by_test None f = absurd (let g : ⊥ = cc in g)
      by_test (Some b) f = ap says (let same : b ≡ a = cc in same)

  item-unplaced : (free : first_answer tests ≡ None) (item : List Pair)
      (read : item_at (member_of sought) ms ≡ Ok item) (g : expr.Given)
      (words : machine.words_given texts ms ≡ Ok g) (t : Table)
      (there : map.get s.tables (table_name ms) ≡ Some t) (said : Expressions)
      (says_so : machine.expressions texts t.description ms g ≡ Ok said) (a : Answer)
      → place_that_fits sought t.description item ≡ Err a
      → on_item tests sought texts s ms go ≡ says a
  item-unplaced free item read g words t there said says_so a e =
      item-said tests sought texts s ms go free item read g words t there said says_so
      ∙ by_place t.description item (or_refused bad_key (place_in sought t.description item))
      (go said item t) a e

-- a place that fits is one, and the key isn't too long
pub fits_so : (d : TableSchema) (item : List Pair) (sought : Sought) (place : List ℕ)
    → place_that_fits sought d item ≡ Ok place
    → (place_in sought d item ≡ Some place) × (key_fits d item ≡ true)
fits_so d item sought place e = by (place_in sought d item) (key_fits d item) e
  where
    by : (o : Option (List ℕ)) (b : Bool)
        → or_refused bad_key o
        >>= (λ p. unless_answer (first_answer (refuse_unless b key_too_long ∷ [])) p) ≡ Ok place
        → (o ≡ Some place) × (b ≡ true)
    by None b f = absurd (let g : ⊥ = cc in g)
    by (Some p) false f = absurd (let g : ⊥ = cc in g)
    by (Some p) true f = (ap Some (let same : p ≡ place = cc in same), refl)

-- the body is refused
pub untaken : (tests : List (Option Answer)) (sought : Sought) (texts : machine.Texts)
    (catalog : Texts TableSchema) (ms : Members) (e : Stop) → Tested {X = Unit {0}} tests (Err e)
    → OnItem tests sought texts catalog ms (Err e)
untaken tests sought texts catalog ms (Refused q) h = (
  h.1,
  λ s go same. item-refused tests sought texts s ms go (refused q) h.0,
)
untaken tests sought texts catalog ms (Fault f) h = h

-- the item or the key is
pub unread : (tests : List (Option Answer)) (sought : Sought) (texts : machine.Texts)
    (catalog : Texts TableSchema) (ms : Members) → first_answer tests ≡ None
    → (e : Stop) → Comes {X = List Pair} (λ x. x) (item_at (member_of sought) ms) (Err e)
    → OnItem tests sought texts catalog ms (Err e)
unread tests sought texts catalog ms free (Refused q) h = (
  h.1,
  λ s go same. item-unread tests sought texts s ms go free (refused q) h.0,
)
unread tests sought texts catalog ms free (Fault f) h = h

module _ (tests : List (Option Answer)) (sought : Sought) (texts : machine.Texts)
    (catalog : Texts TableSchema) (ms : Members) (free : first_answer tests ≡ None)
    (item : List Pair) (read : item_at (member_of sought) ms ≡ Ok item) where
  -- where no words are given, the item isn't reached
  pub no_words : (e : Stop) → Comes {X = Given} given_of (machine.words_given texts ms) (Err e)
      → OnItem tests sought texts catalog ms (Err e)
  no_words (Refused q) h = (
    h.1,
    λ s go same. item-no_words tests sought texts s ms go free item read (refused q) h.0,
  )
  no_words (Fault f) h = h

  module _ (g : expr.Given) (words : machine.words_given texts ms ≡ Ok g) where
    pub no_table : (e : Stop) → Comes {X = Bor TableSchema} (λ d. d.now)
        (or_refused not_found (map.get catalog (table_name ms))) (Err e)
        → OnItem tests sought texts catalog ms (Err e)
    no_table (Refused q) h = (
      h.1,
      λ s go same.
          let none = none_found not_found (map.get catalog (table_name ms)) (refused q) h.0 in
          item-no_table tests sought texts s ms go free item read g words (refused q)
          (ap (or_refused not_found) (table_missed s catalog same (table_name ms) none.0)
          ∙ ap (λ a. Err a) (sym none.1)),
    )
    no_table (Fault f) h = h

    module _ (d : TableSchema)
        (there : or_refused not_found (map.get catalog (table_name ms)) ≡ Ok d) where
      -- the table in a state that has these tables
      at_table : (s : State) → descriptions s.tables ≡ catalog
          → (t : Table) × (map.get s.tables (table_name ms) ≡ Some t) × (t.description ≡ d)
      at_table s same = table_found s catalog same (table_name ms) d
          (found_is not_found (map.get catalog (table_name ms)) d there)

      pub unsaid : (e : Stop)
          → Comes {X = Expressions} (λ x. x) (machine.expressions texts d ms g) (Err e)
          → OnItem tests sought texts catalog ms (Err e)
      unsaid (Refused q) h = (
        h.1,
        λ s go same.
            let found = at_table s same in
            item-unsaid tests sought texts s ms go free item read g words found.0 found.1
            (refused q)
            (ap (λ (x : TableSchema). machine.expressions texts x ms g) found.2 ∙ h.0),
      )
      unsaid (Fault f) h = h

      module _ (said : Expressions) (says_so : machine.expressions texts d ms g ≡ Ok said) where
        pub unplaced : (e : Stop)
            → Comes {X = List ℕ} (λ b. b) (place_that_fits sought d item) (Err e)
            → OnItem tests sought texts catalog ms (Err e)
        unplaced (Refused q) h = (
          h.1,
          λ s go same.
              let found = at_table s same in
              item-unplaced tests sought texts s ms go free item read g words found.0 found.1 said
              (ap (λ (x : TableSchema). machine.expressions texts x ms g) found.2 ∙ says_so)
              (refused q)
              (ap (λ (x : TableSchema). place_that_fits sought x item) found.2 ∙ h.0),
        )
        unplaced (Fault f) h = h

-- the table isn't reached
pub unnamed : (tests : List (Option Answer)) (catalog : Texts TableSchema) (ms : Members)
    → first_answer tests ≡ None
    → (r : Result (Bor TableSchema) Stop) → Comes (λ d. d.now)
    (or_refused not_found (map.get catalog (table_name ms))) r → OnTable tests catalog ms r
unnamed tests catalog ms free (Ok d) h = (
  free,
  found_is not_found (map.get catalog (table_name ms)) d.now h,
)
unnamed tests catalog ms free (Err (Refused q)) h = (
  h.1,
  λ s go same.
      let none = none_found not_found (map.get catalog (table_name ms)) (refused q) h.0 in
      table-missed tests s ms go (refused q) free
      (ap (or_refused not_found) (table_missed s catalog same (table_name ms) none.0)
      ∙ ap (λ a. Err a) (sym none.1)),
)
unnamed tests catalog ms free (Err (Fault f)) h = h
