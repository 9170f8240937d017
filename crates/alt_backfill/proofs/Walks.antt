-- Walks over the changes of a body.
use Rattle.std.proofs.Common.{◌≡◌, refl, sym, ap, ◌∙◌, ◌<◌, ◌≤◌, ◌+◌, ℕ, suc, Bool, true, false, cond, List, [], ◌∷◌, ◌++◌, length, drop, get_or, Option, Some, None, is_some, add-one, arith}
use Rattle.std.specs.Prelude.{◌&&◌, ◌||◌, option_and_then}
use Rattle.std.specs.List.{filter, find, flat_map, list_all, list_any}
use Rattle.std.proofs.Math.Seq.{drop-cons}
use Rattle.std.proofs.lemmas.Grind.{flat_map-append}
use Rattle.std.proofs.lemmas.List.{length-append, drop_all}
use Rattle.std.proofs.lemmas.List.Elements.{filter-append}
use Rattle.std.proofs.lemmas.List.Folds.{list_all-append}
use Rattle.serde_json.specs.Data.{Members}
use Rattle.serde_json.specs.Find.{as_object}
use Rattle.serde_json.specs.View.{view, items_view}
use Rattle.serde_json.specs.declared.value.Value.{Value}
use Rattle.alt_backfill.specs.private.Asked.{change_asked, first_of}
use Rattle.alt_machine.specs.Building.{is_building}
use Rattle.alt_machine.specs.Ops.UpdateTable.{acts, asked_in, change_members, is_one}
use Rattle.alt_schema.specs.Stated.{at_most_one, stated_by}
use Rattle.alt_schema.specs.declared.schema.IndexSchema.{IndexSchema}
use Rattle.alt_shape.specs.Shape.{given}

-- the changes from a place of the list on
abbrev pub changes_from : ℕ → List Value → List Members
changes_from i vs = stated_by change_members (items_view (drop i vs))

-- they begin with the one there, and go on with those behind it
pub from_here : (vs : List Value) (i : ℕ) (v : Value) → i < length vs → v ≡ get_or vs i v
    → changes_from i vs ≡ change_members (view v) ++ changes_from (i + 1) vs
from_here vs i v within at =
    ap (λ ys. stated_by change_members (items_view ys))
    (drop-cons vs i v within ∙ ap (λ y. y ∷ drop (suc i) vs) (sym at))
    ∙ ap (λ n. change_members (view v) ++ stated_by change_members (items_view (drop n vs)))
    (sym (add-one i))

-- behind the last there are none
pub from_end : (vs : List Value) (i : ℕ) → length vs ≤ i → changes_from i vs ≡ []
from_end vs i past = ap (λ ys. stated_by change_members (items_view ys)) (drop_all i vs past)

module _ (vs : List Value) (i : ℕ) (v : Value) (within : i < length vs) (at : v ≡ get_or vs i v) where
  -- where the one there is one of the three, all are where those behind it are
  pub one_more : list_all is_one (change_members (view v)) ≡ true
      → list_all is_one (changes_from (i + 1) vs) ≡ list_all is_one (changes_from i vs)
  one_more is = sym (ap (list_all is_one) (from_here vs i v within at)
      ∙ list_all-append is_one (change_members (view v)) (changes_from (i + 1) vs)
      ∙ ap (λ b. b && list_all is_one (changes_from (i + 1) vs)) is)

  -- where it isn't, not all are
  pub one_less : list_all is_one (change_members (view v)) ≡ false
      → false ≡ list_all is_one (changes_from i vs)
  one_less is = sym (ap (list_all is_one) (from_here vs i v within at)
      ∙ list_all-append is_one (change_members (view v)) (changes_from (i + 1) vs)
      ∙ ap (λ b. b && list_all is_one (changes_from (i + 1) vs)) is)

  -- how many of at most one act
  count_one : (o : Option Members) → length (filter acts (at_most_one o))
      ≡ cond (list_any acts (at_most_one o)) 1 0
  count_one None = refl
  count_one (Some u) = by (acts u)
    where
      by : (b : Bool) → length (cond b (u ∷ []) []) ≡ cond (b || false) 1 0
      by true = refl
      by false = refl

  -- as many act from a place on as there and behind it
  pub count_more : (b : Bool) → list_any acts (change_members (view v)) ≡ b
      → length (filter acts (changes_from i vs))
      ≡ cond b 1 0 + length (filter acts (changes_from (i + 1) vs))
  count_more b is = ap (λ us. length (filter acts us)) (from_here vs i v within at)
      ∙ ap length (filter-append acts (change_members (view v)) (changes_from (i + 1) vs))
      ∙ length-append (filter acts (change_members (view v))) (filter acts (changes_from (i + 1) vs))
      ∙ ap (λ n. n + length (filter acts (changes_from (i + 1) vs)))
      (count_one (as_object (view v)) ∙ ap (λ x. cond x 1 0) is)

  module _ (name : List ℕ) where
    -- what is asked from a place on: what is asked there, or else behind it
    asked_one : (o : Option Members) (us : List Members)
        → first_of (flat_map (asked_in name) (at_most_one o) ++ flat_map (asked_in name) us)
        ≡ first_of (at_most_one (option_and_then (λ u. option_and_then as_object (given name u)) o)
        ++ flat_map (asked_in name) us)
    asked_one None us = refl
    asked_one (Some u) us = by (option_and_then as_object (given name u))
      where
        by : (o : Option Members) → first_of ((at_most_one o ++ []) ++ flat_map (asked_in name) us)
            ≡ first_of (at_most_one o ++ flat_map (asked_in name) us)
        by None = refl
        by (Some m) = refl

    asked_from : first_of (flat_map (asked_in name) (changes_from i vs))
        ≡ first_of (at_most_one (change_asked name (view v))
        ++ flat_map (asked_in name) (changes_from (i + 1) vs))
    asked_from = ap (λ us. first_of (flat_map (asked_in name) us)) (from_here vs i v within at)
        ∙ ap first_of (flat_map-append (asked_in name) (change_members (view v))
        (changes_from (i + 1) vs))
        ∙ asked_one (as_object (view v)) (changes_from (i + 1) vs)

    -- what is asked there is the first from there on
    pub asked_here : (m : Members) → change_asked name (view v) ≡ Some m
        → first_of (flat_map (asked_in name) (changes_from i vs)) ≡ Some m
    asked_here m is = asked_from ∙ ap (λ o. first_of (at_most_one o
        ++ flat_map (asked_in name) (changes_from (i + 1) vs))) is

    -- where nothing is asked there, it is the first behind it
    pub asked_behind : change_asked name (view v) ≡ None
        → first_of (flat_map (asked_in name) (changes_from (i + 1) vs))
        ≡ first_of (flat_map (asked_in name) (changes_from i vs))
    asked_behind is = sym (asked_from ∙ ap (λ o. first_of (at_most_one o
        ++ flat_map (asked_in name) (changes_from (i + 1) vs))) is)

-- one of these is being built exactly where one is found that is
pub any_found : (is : List IndexSchema) → list_any is_building is ≡ is_some (find is_building is)
any_found [] = refl
any_found (i ∷ is) = by (is_building i) (any_found is)
  where
    by : (b : Bool) → list_any is_building is ≡ is_some (find is_building is)
        → (b || list_any is_building is) ≡ is_some (cond b (Some i) (find is_building is))
    by true rest = refl
    by false rest = rest
