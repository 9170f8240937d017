-- What a body alone is refused for: its shape, members that aren't taken, and names. An operation states its rules.
use Rattle.std.specs.Prelude.{ℕ, Bool, false, not, ◌&&◌, ◌||◌, codes, List, [], ◌∷◌, Option, None, option_map}
use Rattle.std.specs.List.{list_all}
use Rattle.serde_json.specs.Data.{Members}
use Rattle.alt_shape.specs.declared.rule.Broken.{Broken}
use Rattle.alt_shape.specs.Refusals.{Answer, refused, refusal_of, not_together, bad_name}
use Rattle.alt_machine.specs.Members.{gives_any, may_name}
use Rattle.alt_machine.specs.Refusals.{refuse_if, refuse_unless}

-- the members of the older interface, those that are expressions, those whose entries ConditionalOperator joins, and those
-- that name a table or an index
pub record MemberRules : Type 0 where
  pub legacy : List (List ℕ)
  pub texts : List (List ℕ)
  pub joined : List (List ℕ)
  pub named : List (List ℕ)

-- the rules of an operation that takes all its members, of which these are names
abbrev pub of_names : List (List ℕ) → MemberRules
of_names named = record { legacy = []; texts = []; joined = []; named = named }

-- ConditionalOperator stands without entries that it joins, where an operation takes it
abbrev pub joins_nothing : List (List ℕ) → Members → Bool
joins_nothing [] ms = false
joins_nothing (name ∷ names) ms =
    gives_any (codes "ConditionalOperator" ∷ []) ms && not (gives_any (name ∷ names) ms)

-- a member of the older interface stands beside an expression, or joins nothing
abbrev pub is_mixed : MemberRules → Members → Bool
is_mixed rules ms = (gives_any rules.legacy ms && gives_any rules.texts ms)
    || joins_nothing rules.joined ms

-- a body that breaks its shape
abbrev pub of_shape : Option Broken → Option Answer
of_shape = option_map (λ broken. refused (refusal_of broken))

-- the tests of a body with that fault in its shape, if it has one
abbrev pub body_refusals : Option Broken → MemberRules → Members → List (Option Answer)
body_refusals broken rules ms =
    of_shape broken ∷
    refuse_if (is_mixed rules ms) not_together ∷
    refuse_unless (list_all (may_name ms) rules.named) bad_name ∷ []

-- the same of a body in which some members may not go together, which that says
abbrev pub paired_refusals : Option Broken → Bool → MemberRules → Members → List (Option Answer)
paired_refusals broken mismatched rules ms =
    of_shape broken ∷ refuse_if mismatched not_together ∷ body_refusals None rules ms
