-- The words of all texts are noted, one text after the other.
use Rattle.std.proofs.Common.{◌∙◌, ◌++◌, option_map}
use Rattle.alt_expr.specs.Given.{with_hashes, with_colons}
use Rattle.alt_expr.specs.Lookups.{names_alone}
use Rattle.alt_expr.specs.NamesGiven.{given_names, used_names, used_values}
use Rattle.alt_machine.specs.Expressions as machine
use Rattle.alt_said.proofs.Stated.{hashes_all, colons_all, paths_words}
use Rattle.alt_said.proofs.texts.all_stated.Goals as goal

pub returns-clause-names : goal.returns-clause-names
returns-clause-names c =
    hashes_all (machine.words_of (option_map (λ t. t.now) c.text_in-keys_text.result))
    (machine.words_of (option_map (λ t. t.now) c.text_in-condition_text.result))
    (machine.words_of (option_map (λ t. t.now) c.text_in-update_text.result))
    (machine.words_of (option_map (λ t. t.now) c.text_in-paths_text.result))
    (used_names c.args.names.now) (used_names c.condition_stated.new.names)
    (used_names c.condition_stated-2.new.names) (used_names c.update_stated.new.names)
    (used_names c.paths_stated.new.names) c.in_ok-key_condition.ensures.names
    c.in_ok-condition.ensures.names c.in_ok-update.ensures.names c.in_ok-projection.ensures.names
    ∙ (λ i. with_hashes (machine.words_of (c.text_in-keys_text.ensures.text i)
    ++ machine.words_of (c.text_in-condition_text.ensures.text i)
    ++ machine.words_of (c.text_in-update_text.ensures.text i)
    ++ machine.words_of (c.text_in-paths_text.ensures.text i)) (used_names c.args.names.now))

pub returns-clause-values : goal.returns-clause-values
returns-clause-values c =
    colons_all (machine.words_of (option_map (λ t. t.now) c.text_in-keys_text.result))
    (machine.words_of (option_map (λ t. t.now) c.text_in-condition_text.result))
    (machine.words_of (option_map (λ t. t.now) c.text_in-update_text.result))
    (machine.words_of (option_map (λ t. t.now) c.text_in-paths_text.result))
    (used_values c.args.values.now) (used_values c.condition_stated.new.values)
    (used_values c.condition_stated-2.new.values) (used_values c.update_stated.new.values)
    c.in_ok-key_condition.ensures.values c.in_ok-condition.ensures.values
    c.in_ok-update.ensures.values
    (paths_words (names_alone (given_names c.update_stated.new.names))
    (option_map (λ t. t.now) c.text_in-paths_text.result) c.in_ok-projection.projection
    c.in_ok-projection.ensures.stated)
    ∙ (λ i. with_colons (machine.words_of (c.text_in-keys_text.ensures.text i)
    ++ machine.words_of (c.text_in-condition_text.ensures.text i)
    ++ machine.words_of (c.text_in-update_text.ensures.text i)
    ++ machine.words_of (c.text_in-paths_text.ensures.text i)) (used_values c.args.values.now))
