-- What an operation goes on with, and what it is refused for on the way.
use Rattle.std.proofs.Common.{◌≡◌, ap, ◌∙◌, ℕ, false, List, [], ◌∷◌, Option, Some, None, Ok, Err}
use Rattle.std.specs.FinMap as map
use Rattle.serde_json.specs.Data.{Members}
use Rattle.alt_expr.specs.Given.{Given}
use Rattle.alt_machine.specs.declared.Expressions.{Expressions}
use Rattle.alt_machine.specs.declared.Sought.{Sought}
use Rattle.alt_machine.specs.Expressions.{Texts, words_given, expressions}
use Rattle.alt_machine.specs.Keys.{key_fits}
use Rattle.alt_machine.specs.Members.{table_name, table_at, item_at}
use Rattle.alt_machine.specs.Outcomes.{Outcome, says, refuses, unless_refused, with_found}
use Rattle.alt_machine.specs.Refusals.{first_answer, or_refused, refuse_unless}
use Rattle.alt_machine.specs.State.{State, Table}
use Rattle.alt_machine.specs.Targets.{on_table, of_length, on_item, member_of, place_in, IsPlaced}
use Rattle.alt_machine.proofs.Chains.{Steps, steps-unless, steps-found, found_is}
use Rattle.alt_machine.proofs.Tests.{passed, stopped, found, missed, unless_holds}
use Rattle.alt_shape.specs.Refusals.{Answer, not_found, bad_key, key_too_long}
use Rattle.alt_value.specs.Tree.{Pair}

-- nothing refuses the body, and that is the table that it names
pub record IsTarget (tests : List (Option Answer)) (s : State) (ms : Members)
    (t : Table) : Type 0 where
  pub body : first_answer tests ≡ None
  pub there : map.get s.tables (table_name ms) ≡ Some t

-- ---- what a request comes to

module _ (tests : List (Option Answer)) (s : State) (ms : Members) (go : Table → Outcome) where
  -- an operation on a table is refused as its first test says
  pub table-refused : (a : Answer) → first_answer tests ≡ Some a → on_table tests s ms go ≡ says a
  table-refused a e = stopped tests _ a e

  -- else it is refused where its table isn't found
  pub table-missed : (a : Answer) → first_answer tests ≡ None → table_at s ms ≡ Err a
      → on_table tests s ms go ≡ says a
  table-missed a free e = passed tests _ free ∙ missed (table_at s ms) go a e

  -- where the table is found, it goes on with that
  pub table-target : (t : Table) → IsTarget tests s ms t → on_table tests s ms go ≡ go t
  table-target t target = passed tests _ target.body
      ∙ found (table_at s ms) go t (ap (or_refused not_found) target.there)

module _ (tests : List (Option Answer)) (sought : Sought) (texts : Texts) (s : State) (ms : Members)
    (go : Expressions → List Pair → Table → List ℕ → Outcome) where
  -- behind each of the steps
  abbrev pub placed : List Pair → Table → Expressions → List ℕ → Outcome
  placed item t said at = unless_refused (of_length t.description item) (go said item t at)

  abbrev pub expressed : List Pair → Table → Expressions → Outcome
  expressed item t said = with_found (or_refused bad_key (place_in sought t.description item))
      (placed item t said)

  abbrev pub in_table : List Pair → Given → Table → Outcome
  in_table item g t = with_found (expressions texts t.description ms g) (expressed item t)

  abbrev pub of_words : List Pair → Given → Outcome
  of_words item g = with_found (table_at s ms) (in_table item g)

  abbrev pub of_item : List Pair → Outcome
  of_item item = with_found (words_given texts ms) (of_words item)

  -- an operation on an item is refused as its first test says
  pub item-refused : (a : Answer) → first_answer tests ≡ Some a
      → on_item tests sought texts s ms go ≡ says a
  item-refused a e = stopped tests _ a e

  module _ (free : first_answer tests ≡ None) where
    pub item-unread : (a : Answer) → item_at (member_of sought) ms ≡ Err a
        → on_item tests sought texts s ms go ≡ says a
    item-unread a e = passed tests _ free ∙ missed (item_at (member_of sought) ms) of_item a e

    module _ (item : List Pair) (read : item_at (member_of sought) ms ≡ Ok item) where
      at_item : on_item tests sought texts s ms go ≡ of_item item
      at_item = passed tests _ free ∙ found (item_at (member_of sought) ms) of_item item read

      pub item-no_words : (a : Answer) → words_given texts ms ≡ Err a
          → on_item tests sought texts s ms go ≡ says a
      item-no_words a e = at_item ∙ missed (words_given texts ms) (of_words item) a e

      module _ (g : Given) (words : words_given texts ms ≡ Ok g) where
        at_words : on_item tests sought texts s ms go ≡ of_words item g
        at_words = at_item ∙ found (words_given texts ms) (of_words item) g words

        pub item-no_table : (a : Answer) → table_at s ms ≡ Err a
            → on_item tests sought texts s ms go ≡ says a
        item-no_table a e = at_words ∙ missed (table_at s ms) (in_table item g) a e

        module _ (t : Table) (there : map.get s.tables (table_name ms) ≡ Some t) where
          at_table : on_item tests sought texts s ms go ≡ in_table item g t
          at_table = at_words
              ∙ found (table_at s ms) (in_table item g) t (ap (or_refused not_found) there)

          pub item-unsaid : (a : Answer) → expressions texts t.description ms g ≡ Err a
              → on_item tests sought texts s ms go ≡ says a
          item-unsaid a e =
              at_table ∙ missed (expressions texts t.description ms g) (expressed item t) a e

          module _ (said : Expressions)
              (says_so : expressions texts t.description ms g ≡ Ok said) where
            pub item-said : on_item tests sought texts s ms go ≡ expressed item t said
            item-said = at_table ∙ found (expressions texts t.description ms g)
                (expressed item t) said says_so

            pub item-no_place : (a : Answer)
                → or_refused bad_key (place_in sought t.description item) ≡ Err a
                → on_item tests sought texts s ms go ≡ says a
            item-no_place a e = item-said ∙ missed (or_refused bad_key
                (place_in sought t.description item)) (placed item t said) a e

            pub item-too_long : (at : List ℕ) → place_in sought t.description item ≡ Some at
                → key_fits t.description item ≡ false
                → on_item tests sought texts s ms go ≡ refuses key_too_long
            item-too_long at e long = item-said ∙ found
                (or_refused bad_key (place_in sought t.description item)) (placed item t said) at
                (ap (or_refused bad_key) e)
                ∙ ap (λ b. unless_refused (refuse_unless b key_too_long ∷ []) (go said item t at))
                long

  -- where its place is found, it goes on with the item, the table and that
  pub item-target : (said : Expressions) (item : List Pair) (t : Table) (at : List ℕ)
      → map.get s.tables (table_name ms) ≡ Some t
      → IsPlaced tests sought texts ms t.description said item at
      → on_item tests sought texts s ms go ≡ go said item t at
  item-target said item t at there target =
      item-said target.body item target.read target.words target.given t there said target.says
      ∙ found (or_refused bad_key (place_in sought t.description item)) (placed item t said) at
      (ap (or_refused bad_key) target.at)
      ∙ ap (λ b. unless_refused (refuse_unless b key_too_long ∷ []) (go said item t at)) target.fits

-- ---- its writes

-- the writes of an operation on a table are steps, if those are that it goes on to
pub steps-on_table : (s : State) (tests : List (Option Answer)) (ms : Members)
    (go : Table → Outcome) → ((t : Table) → IsTarget tests s ms t → Steps s (go t))
    → Steps s (on_table tests s ms go)
steps-on_table s tests ms go h =
    steps-unless s tests _ (λ body.
    steps-found s (table_at s ms) go (λ t there. h t
    (record {
      body = body;
      there = found_is not_found
          (map.get s.tables (table_name ms)) t there;
    })))

-- so are those of an operation on an item
pub steps-on_item : (s : State) (tests : List (Option Answer)) (sought : Sought) (texts : Texts)
    (ms : Members) (go : Expressions → List Pair → Table → List ℕ → Outcome)
    → ((said : Expressions) (item : List Pair) (t : Table) (at : List ℕ)
    → map.get s.tables (table_name ms) ≡ Some t
    → IsPlaced tests sought texts ms t.description said item at → Steps s (go said item t at))
    → Steps s (on_item tests sought texts s ms go)
steps-on_item s tests sought texts ms go h =
    steps-unless s tests _ (λ body.
    steps-found s (item_at (member_of sought) ms) (of_item tests sought texts s ms go)
    (λ item read.
    steps-found s (words_given texts ms) (of_words tests sought texts s ms go item) (λ g words.
    steps-found s (table_at s ms) (in_table tests sought texts s ms go item g) (λ t there.
    steps-found s (expressions texts t.description ms g)
    (expressed tests sought texts s ms go item t)
    (λ said says_so.
    steps-found s (or_refused bad_key (place_in sought t.description item))
    (placed tests sought texts s ms go item t said) (λ at stands.
    steps-unless s (of_length t.description item) (go said item t at) (λ long.
    h said item t at (found_is not_found (map.get s.tables (table_name ms)) t there) (record {
      body = body;
      read = read;
      words = g;
      given = words;
      says = says_so;
      at = found_is bad_key (place_in sought t.description item) at stands;
      fits = (unless_holds (key_fits t.description item) key_too_long [] long).0;
    }))))))))
