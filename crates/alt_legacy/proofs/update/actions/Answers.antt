-- An action more is read, and one entry less is left.
use Rattle.std.proofs.Common.{◌≡◌, refl, sym, ap, ◌∙◌, ℕ, List, [], ◌∷◌, ◌++◌, append_assoc, map, Option, Some, None, String, Global}
use Rattle.std.specs.Prelude.{option_map, string_bytes}
use Rattle.serde_json.specs.View.{view, members_view}
use Rattle.serde_json.specs.declared.value.Value.{Value}
use Rattle.alt_expr.specs.declared.update.Action.{Action}
use Rattle.alt_legacy.specs.Changes.{NamedChange, each_change, named_change, change_then}
use Rattle.alt_legacy.specs.Trees.{action_of}
use Rattle.alt_legacy.proofs.update.actions.Goals as goal

one_more : (found : List Action) (a : Action) (bs : List Action)
    → found ++ (a ∷ bs) ≡ (found ++ a ∷ []) ++ bs
one_more found a bs = simp append_assoc

more_changes : (found : List Action) (a : Action) (x : Option NamedChange)
    (o : Option (List NamedChange)) → option_map action_of x ≡ Some a
    → option_map (λ cs. found ++ map action_of cs) (change_then x o)
    ≡ option_map (λ cs. (found ++ a ∷ []) ++ map action_of cs) o
more_changes found a None o h = absurd (cc)
more_changes found a (Some c) None h = refl
more_changes found a (Some c) (Some cs) h =
    let same : action_of c ≡ a = cc in
    ap (λ (b : Action). Some (found ++ (b ∷ map action_of cs))) same
    ∙ ap (λ (bs : List Action). Some bs) (one_more found a (map action_of cs))

step_on : (found new : List Action) (it rest : List (String Global × Value)) (k : String Global)
    (n : List ℕ) (v : Value) (a : Action) → it ≡ (k, v) ∷ rest → n ≡ string_bytes k
    → option_map action_of (named_change n (view v)) ≡ Some a → new ≡ found ++ a ∷ []
    → option_map (λ cs. found ++ map action_of cs) (each_change (members_view it))
    ≡ option_map (λ cs. new ++ map action_of cs) (each_change (members_view rest))
step_on found new it rest k n v a steps named is pushed =
    ap (λ (xs : List (String Global × Value)). option_map (λ cs. found ++ map action_of cs) (each_change (members_view xs))) steps
    ∙ more_changes found a (named_change (string_bytes k) (view v)) (each_change (members_view rest))
    (ap (λ (m : List ℕ). option_map action_of (named_change m (view v))) (sym named) ∙ is)
    ∙ ap (λ (xs : List Action). option_map (λ cs. xs ++ map action_of cs) (each_change (members_view rest))) (sym pushed)

pub loop-name-preserved : goal.loop-name-preserved
loop-name-preserved c = c.loop-name.invariant
    ∙ step_on c.loop-name.found c.push.new.self c.loop-name.name-iterator c.next.new.self
    c.in-Some.name.now c.as_str.result.now c.in-Some.v.now c.in_ok-action.action
    c.in-Some.ensures.steps c.as_str.ensures.value c.in_ok-action.ensures.ok
    c.in_ok-push.ensures.ok
