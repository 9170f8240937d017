-- What an operation on a list of items goes on with, and what it is refused for on the way.
use Rattle.std.proofs.Common.{ℕ, ◌≡◌, ap, ◌∙◌, List, Option, Some, None, Ok, Err}
use Rattle.std.specs.FinMap as map
use Rattle.serde_json.specs.Data.{Members}
use Rattle.alt_expr.specs.Given.{Given}
use Rattle.alt_machine.specs.declared.Expressions.{Expressions}
use Rattle.alt_machine.specs.Expressions.{Texts, given_at, expressions}
use Rattle.alt_machine.specs.Lists.{start_given, on_list, IsListed}
use Rattle.alt_machine.specs.Members.{table_name, table_at}
use Rattle.alt_machine.specs.Outcomes.{Outcome, says, with_found}
use Rattle.alt_machine.specs.Refusals.{first_answer, or_refused}
use Rattle.alt_machine.specs.Sources.{index_asked}
use Rattle.alt_machine.specs.State.{State, Table}
use Rattle.alt_machine.proofs.Chains.{Steps, steps-unless, steps-found}
use Rattle.alt_machine.proofs.Tests.{passed, stopped, found, missed}
use Rattle.alt_shape.specs.Refusals.{Answer, not_found}
use Rattle.alt_value.specs.Tree.{Pair}

-- ---- what a request comes to

module _ (tests : List (Option Answer)) (texts : Texts) (s : State) (ms : Members)
    (go : Expressions → Option (List Pair) → Table → Option ℕ → Outcome) where
  -- behind each of the steps
  abbrev pub expressed : Option (List Pair) → Table → Option ℕ → Expressions → Outcome
  expressed start t index said = go said start t index

  abbrev pub of_index : Given → Option (List Pair) → Table → Option ℕ → Outcome
  of_index g start t index = with_found (expressions texts t.description ms g)
      (expressed start t index)

  abbrev pub in_table : Given → Option (List Pair) → Table → Outcome
  in_table g start t = with_found (index_asked t.description ms) (of_index g start t)

  abbrev pub of_start : Given → Option (List Pair) → Outcome
  of_start g start = with_found (table_at s ms) (in_table g start)

  abbrev pub of_words : Given → Outcome
  of_words g = with_found (start_given texts ms) (of_start g)

  -- an operation on a list is refused as its first test says
  pub list-refused : (a : Answer) → first_answer tests ≡ Some a
      → on_list tests texts s ms go ≡ says a
  list-refused a e = stopped tests _ a e

  module _ (free : first_answer tests ≡ None) where
    pub list-no_words : (a : Answer) → given_at texts ms ≡ Err a
        → on_list tests texts s ms go ≡ says a
    list-no_words a e = passed tests _ free ∙ missed (given_at texts ms) of_words a e

    module _ (g : Given) (words : given_at texts ms ≡ Ok g) where
      at_words : on_list tests texts s ms go ≡ of_words g
      at_words = passed tests _ free ∙ found (given_at texts ms) of_words g words

      pub list-no_start : (a : Answer) → start_given texts ms ≡ Err a
          → on_list tests texts s ms go ≡ says a
      list-no_start a e = at_words ∙ missed (start_given texts ms) (of_start g) a e

      module _ (start : Option (List Pair)) (read : start_given texts ms ≡ Ok start) where
        at_start : on_list tests texts s ms go ≡ of_start g start
        at_start = at_words ∙ found (start_given texts ms) (of_start g) start read

        pub list-no_table : (a : Answer) → table_at s ms ≡ Err a
            → on_list tests texts s ms go ≡ says a
        list-no_table a e = at_start ∙ missed (table_at s ms) (in_table g start) a e

        module _ (t : Table) (there : map.get s.tables (table_name ms) ≡ Some t) where
          at_table : on_list tests texts s ms go ≡ in_table g start t
          at_table = at_start
              ∙ found (table_at s ms) (in_table g start) t (ap (or_refused not_found) there)

          pub list-no_index : (a : Answer) → index_asked t.description ms ≡ Err a
              → on_list tests texts s ms go ≡ says a
          list-no_index a e = at_table
              ∙ missed (index_asked t.description ms) (of_index g start t) a e

          module _ (index : Option ℕ) (asks : index_asked t.description ms ≡ Ok index) where
            at_index : on_list tests texts s ms go ≡ of_index g start t index
            at_index = at_table
                ∙ found (index_asked t.description ms) (of_index g start t) index asks

            pub list-unsaid : (a : Answer) → expressions texts t.description ms g ≡ Err a
                → on_list tests texts s ms go ≡ says a
            list-unsaid a e = at_index
                ∙ missed (expressions texts t.description ms g) (expressed start t index) a e

            pub list-said : (said : Expressions) → expressions texts t.description ms g ≡ Ok said
                → on_list tests texts s ms go ≡ go said start t index
            list-said said says_so = at_index ∙ found (expressions texts t.description ms g)
                (expressed start t index) said says_so

  -- where the list is reached, the operation goes on with it
  pub list-target : (said : Expressions) (start : Option (List Pair)) (t : Table)
      (index : Option ℕ) → map.get s.tables (table_name ms) ≡ Some t
      → IsListed tests texts ms t.description said start index
      → on_list tests texts s ms go ≡ go said start t index
  list-target said start t index there target =
      list-said target.body target.words target.given start target.read t there index target.asks
      said target.says

-- ---- its writes, of which there are none

-- the writes of an operation on a list are steps, if those are that it goes on to
pub steps-on_list : (s : State) (tests : List (Option Answer)) (texts : Texts) (ms : Members)
    (go : Expressions → Option (List Pair) → Table → Option ℕ → Outcome)
    → ((said : Expressions) (start : Option (List Pair)) (t : Table) (index : Option ℕ)
    → Steps s (go said start t index))
    → Steps s (on_list tests texts s ms go)
steps-on_list s tests texts ms go h =
    steps-unless s tests _ (λ body.
    steps-found s (given_at texts ms) (of_words tests texts s ms go) (λ g words.
    steps-found s (start_given texts ms) (of_start tests texts s ms go g) (λ start read.
    steps-found s (table_at s ms) (in_table tests texts s ms go g start) (λ t there.
    steps-found s (index_asked t.description ms) (of_index tests texts s ms go g start t)
    (λ index asks.
    steps-found s (expressions texts t.description ms g)
    (expressed tests texts s ms go start t index)
    (λ said says_so. h said start t index))))))
