-- An entry more is read, and one less is left.
use Rattle.std.proofs.Common.{◌≡◌, refl, sym, ap, ◌∙◌, ℕ, List, [], ◌∷◌, ◌++◌, append_assoc, Option, Some, None, String, Global}
use Rattle.std.specs.Prelude.{option_map, string_bytes}
use Rattle.serde_json.specs.View.{view, members_view}
use Rattle.serde_json.specs.declared.value.Value.{Value}
use Rattle.alt_legacy.specs.declared.entry.Entry.{Entry}
use Rattle.alt_legacy.specs.declared.reading.Form.{Form}
use Rattle.alt_legacy.specs.Entries.{each_entry, entry_of, entry_then}
use Rattle.alt_legacy.proofs.reading.each_entry.Goals as goal

more_entries : (found : List Entry) (e : Entry) (o : Option (List Entry))
    → option_map (λ es. found ++ es) (option_map (λ es. e ∷ es) o)
    ≡ option_map (λ es. (found ++ e ∷ []) ++ es) o
more_entries found e None = refl
more_entries found e (Some es) = simp append_assoc

step_on : (f : Form) (found new : List Entry) (it rest : List (String Global × Value))
    (k : String Global) (n : List ℕ) (v : Value) (e : Entry) → it ≡ (k, v) ∷ rest
    → n ≡ string_bytes k → entry_of f n (view v) ≡ Some e → new ≡ found ++ e ∷ []
    → option_map (λ es. found ++ es) (each_entry f (members_view it))
    ≡ option_map (λ es. new ++ es) (each_entry f (members_view rest))
step_on f found new it rest k n v e steps named is pushed =
    ap (λ (xs : List (String Global × Value)). option_map (λ es. found ++ es) (each_entry f (members_view xs))) steps
    ∙ ap (λ (o : Option Entry). option_map (λ es. found ++ es) (entry_then o (each_entry f (members_view rest))))
    (ap (λ (m : List ℕ). entry_of f m (view v)) (sym named) ∙ is)
    ∙ more_entries found e (each_entry f (members_view rest))
    ∙ ap (λ (xs : List Entry). option_map (λ es. xs ++ es) (each_entry f (members_view rest))) (sym pushed)

pub loop-name-preserved : goal.loop-name-preserved
loop-name-preserved c = c.loop-name.invariant
    ∙ step_on c.args.form c.loop-name.found.items c.push.new.self.items c.loop-name.name-iterator
    c.next.new.self c.in-Some.name.now c.as_str.result.now c.in-Some.v.now c.in_ok-entry.entry
    c.in-Some.ensures.steps c.as_str.ensures.value c.in_ok-entry.ensures.ok
    c.in_ok-push.ensures.items
