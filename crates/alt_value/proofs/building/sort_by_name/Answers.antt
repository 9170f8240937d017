-- The sort is stable, and the closure compares names.
use Rattle.std.proofs.Common.{rules}
use Rattle.std.proofs.lemmas.List.Sorted.{All-permutation, answers_always}
use Rattle.std.proofs.lemmas.List.MinMax.{ranks_by}
use Rattle.alt_value.specs.declared.attr.Pair.{Pair as Entry}
use Rattle.alt_value.specs.Named.{IsNamed}
use Rattle.alt_value.proofs.InTurn.{below_by_name, with_pairs-stable}
use Rattle.alt_value.proofs.Texts.{text_total}
use Rattle.alt_value.proofs.building.sort_by_name.Goals as goal

pub returns-clause-same : goal.returns-clause-same
returns-clause-same c = with_pairs-stable _ _ (c.sort_by.ensures.stable below_by_name
    (ranks_by text_total (λ (e : Entry). e.name))
    (answers_always _ _ _ (λ f a r q k. search rules)))

pub returns-clause-named : goal.returns-clause-named
returns-clause-named c = λ named. All-permutation IsNamed _ _ c.sort_by.ensures.permutation named
