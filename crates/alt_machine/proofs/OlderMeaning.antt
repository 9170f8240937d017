-- The trees of members of the older interface mean what these ask.
use Rattle.std.proofs.Common.{◌≡◌, refl, ◌∙◌, ℕ, Bool, true, false, ◌&&◌, List, [], ◌∷◌, map}
use Rattle.std.specs.Prelude.{not}
use Rattle.std.specs.List.{list_all}
use Rattle.alt_legacy.specs.Changes as entries
use Rattle.alt_legacy.specs.Changes.{AttributeChange, put, add, remove, take, NamedChange, makes_item}
use Rattle.alt_legacy.specs.Trees.{action_for, action_of}
use Rattle.alt_legacy.proofs.Joined.{joined_holds}
use Rattle.alt_legacy.proofs.Updating.{updated_so, targets}
use Rattle.alt_machine.specs.Conditional.{seen}
use Rattle.alt_machine.specs.Laws.{OlderConditions, OlderUpdates}
use Rattle.alt_machine.specs.Older.{some_actions}
use Rattle.alt_machine.specs.Ops.UpdateItem.{takes_away, makes_none}
use Rattle.alt_value.specs.Item.{at_name}

pub older_conditions : OlderConditions
older_conditions = record {
  meets = λ any es old. joined_holds any es (seen old);
  passes = λ any es item. joined_holds any es (λ name. at_name name item);
}

-- an action takes away alone where its change does
taking : (name : List ℕ) (c : AttributeChange) → takes_away (action_for name c) ≡ entries.change_takes_away c
taking name (put v) = refl
taking name (add v) = refl
taking name remove = refl
taking name (take v) = refl

-- all of them do
all_taking : (cs : List NamedChange)
    → list_all takes_away (map action_of cs) ≡ list_all (λ d. entries.change_takes_away d.change) cs
all_taking [] = refl
all_taking (c ∷ cs) = λ i. taking c.name c.change i && all_taking cs i

twice : (b : Bool) → b ≡ not (not b)
twice true = refl
twice false = refl

-- so an update makes no item where its entries don't
makes_so : (cs : List NamedChange)
    → makes_none (some_actions (map action_of cs)) ≡ not (makes_item cs)
makes_so [] = refl
makes_so (c ∷ cs) = all_taking (c ∷ cs)
    ∙ twice (list_all (λ d. entries.change_takes_away d.change) (c ∷ cs))

pub older_updates : OlderUpdates
older_updates = record {
  after = λ cs old differ. updated_so (seen old) cs differ;
  makes = makes_so;
  parts = targets;
}
