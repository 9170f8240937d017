-- The action of the change of a name that isn't empty.
use Rattle.std.proofs.Common.{Bor, ◌≡◌, refl, sym, ap, ◌∙◌, ℕ, ◌<◌, List, [], ◌∷◌, length, Option, Some, None, Ok, Err, IfOk, arith}
use Rattle.std.specs.Prelude.{Result, IfErr, option_map, option_and_then, codes}
use Rattle.serde_json.specs.Data.{Data, Members}
use Rattle.serde_json.specs.Find.{as_object, as_str}
use Rattle.serde_json.specs.View.{view, members_view}
use Rattle.serde_json.specs.declared.value.Value.{Value}
use Rattle.alt_expr.specs.declared.update.Action.{Action}
use Rattle.alt_shape.specs.Shape.{given}
use Rattle.alt_legacy.specs.Answered.{IsBad}
use Rattle.alt_legacy.specs.declared.fault.LegacyFault.{LegacyFault}
use Rattle.alt_legacy.specs.Changes.{AttributeChange, change_by, entry_change, named_change}
use Rattle.alt_legacy.specs.Trees.{action_for, action_of}
use Rattle.alt_legacy.proofs.Listed.{filled}
use Rattle.alt_legacy.proofs.update.action.Goals as goal

-- the change of a name and its action
named_action : (name : List ℕ) (o : Option AttributeChange)
    → option_map action_of (option_map (λ (x : AttributeChange). record { name = name; change = x }) o)
    ≡ option_map (action_for name) o
named_action name None = refl
named_action name (Some x) = refl

-- an entry of the name makes what its members do
made : (name : List ℕ) (d : Data) (ms : Members) → 0 < length name → Some ms ≡ as_object d
    → option_map action_of (named_change name d) ≡ option_map (action_for name) (entry_change ms)
made [] d ms h is = absurd (omega (arith, h))
made (b ∷ bs) d ms h is = named_action (b ∷ bs) (option_and_then entry_change (as_object d))
    ∙ ap (λ (o : Option Members). option_map (action_for (b ∷ bs)) (option_and_then entry_change o)) (sym is)

-- and makes nothing where they don't
none_made : (name : List ℕ) (d : Data) (ms : Members) → Some ms ≡ as_object d
    → entry_change ms ≡ None → named_change name d ≡ None
none_made [] d ms is e = refl
none_made (b ∷ bs) d ms is e =
    ap (λ (o : Option Members). option_map
    (λ (x : AttributeChange). record { name = b ∷ bs; change = x }) (option_and_then entry_change o)) (sym is)
    ∙ ap (λ (o : Option AttributeChange). option_map
    (λ (x : AttributeChange). record { name = b ∷ bs; change = x }) o) e

module _ (name m : List ℕ) (d : Data) (ms : Members) (word : Option (List ℕ)) (v : Option Data)
    (is : Some ms ≡ as_object d) (same : m ≡ name)
    (by : word ≡ option_and_then as_str (given (codes "Action") ms))
    (value : v ≡ given (codes "Value") ms) where
  -- by its word and its value
  ok_by : (r : Result Action LegacyFault) → 0 < length name
      → IfOk r (λ a. option_map (action_for m) (change_by word v) ≡ Some a)
      → IfOk r (λ a. option_map action_of (named_change name d) ≡ Some a)
  ok_by (Ok a) h k = made name d ms h is
      ∙ (λ i. option_map (action_for (sym same i)) (change_by (sym by i) (sym value i))) ∙ k
  ok_by (Err f) h k = tt

  err_by : (r : Result Action LegacyFault) → IfErr r (IsBad (change_by word v))
      → IfErr r (IsBad (named_change name d))
  err_by (Ok a) k = tt
  err_by (Err f) k = λ n. (
    (k n).0,
    none_made name d ms is
        ((λ i. change_by (sym by i) (sym value i)) ∙ (k n).1),
  )

pub returns-in-Some-field-clause-ok : goal.returns-in-Some-field-clause-ok
returns-in-Some-field-clause-ok c =
    ok_by c.args.name.now c.in_ok-name.name (view c.args.v.now)
    (members_view c.in-Some.entry.now.entries) (Some c.in-Some-field.word.now)
    (option_map (λ (v : Bor Value). view v.now) c.given-value.result) c.in-Some.ensures
    (c.in_ok-name.ensures.same ∙ c.in_ok-new.ensures.copied)
    c.in-Some-field.ensures c.given-value.ensures c.by_word.result
    (filled c.is_empty.result
    (length c.args.name.now) c.is_empty.ensures c.if-is_empty.false) c.by_word.ensures.ok

pub returns-in-Some-field-clause-err : goal.returns-in-Some-field-clause-err
returns-in-Some-field-clause-err c =
    err_by c.args.name.now c.in_ok-name.name (view c.args.v.now)
    (members_view c.in-Some.entry.now.entries) (Some c.in-Some-field.word.now)
    (option_map (λ (v : Bor Value). view v.now) c.given-value.result) c.in-Some.ensures
    (c.in_ok-name.ensures.same ∙ c.in_ok-new.ensures.copied)
    c.in-Some-field.ensures c.given-value.ensures c.by_word.result c.by_word.ensures.err

pub returns-in-None-clause-ok : goal.returns-in-None-clause-ok
returns-in-None-clause-ok c =
    ok_by c.args.name.now c.in_ok-name.name (view c.args.v.now)
    (members_view c.in-Some.entry.now.entries) None
    (option_map (λ (v : Bor Value). view v.now) c.given-value.result) c.in-Some.ensures
    (c.in_ok-name.ensures.same ∙ c.in_ok-new.ensures.copied)
    c.in-None.ensures c.given-value.ensures c.put.result (filled c.is_empty.result
    (length c.args.name.now) c.is_empty.ensures c.if-is_empty.false)
    c.put.ensures.ok
