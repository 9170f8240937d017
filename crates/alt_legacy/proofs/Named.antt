-- The names of an object each stand once, and are those of its entries.
use Rattle.std.proofs.Common.{◌≡◌, refl, sym, ap, subst, ◌∙◌, ℕ, true, false, ◌&&◌, List, [], ◌∷◌, map, Option, Some, None, Ok, Err, IfOk}
use Rattle.std.specs.Prelude.{Result, IfSome, option_map, option_and_then, String, string_bytes}
use Rattle.std.specs.List.{AllByRecursion}
use Rattle.std.specs.List.Sorted.{IsStrictlySortedBy}
use Rattle.std.specs.Str.{bytes_eq}
use Rattle.std.specs.Ordering.{nat_cmp, is_eq}
use Rattle.std.specs.declared.cmp.Ordering.TheVariants.{Less}
use Rattle.std.specs.declared.alloc.Global.{Global}
use Rattle.std.specs.Cmp.Lexicographic.{slice_cmp}
use Rattle.std.proofs.lemmas.Map.Text.{is_eq-slice_cmp}
use Rattle.serde_json.specs.Data.{Data, Members, no_members, member}
use Rattle.serde_json.specs.Find.{as_object}
use Rattle.serde_json.specs.View.{members_view}
use Rattle.serde_json.specs.declared.value.Value.{Value}
use Rattle.alt_expr.specs.declared.update.Action.{Action}
use Rattle.alt_expr.specs.UpdateLanguage.{target, begins_with_name, begin_with_names}
use Rattle.alt_legacy.specs.declared.fault.LegacyFault.{LegacyFault}
use Rattle.alt_legacy.specs.Changes.{AttributeChange, put, add, remove, take, NamedChange, entry_change, named_change, change_then, each_change, changes_of_member, UpdateMakes, IsUpdate, names_of_object, Differ}
use Rattle.alt_legacy.specs.Trees.{action_for, action_of, update_in}
use Rattle.alt_legacy.proofs.Updating.{makes}

-- a name that is below another differs from it
apart : (m n : List ℕ) → slice_cmp nat_cmp m n ≡ Less → bytes_eq m n ≡ false
apart m n below = sym (is_eq-slice_cmp m n) ∙ ap is_eq below

-- the keys of a map
abbrev keys_of : List (String Global × Value) → List (String Global)
keys_of es = map (λ e. e.0) es

-- a key that is below each of the others differs from each
apart_all : (k : String Global) (es : List (String Global × Value))
    → AllByRecursion (λ l. slice_cmp nat_cmp (string_bytes k) (string_bytes l) ≡ Less) (keys_of es)
    → AllByRecursion (λ n. bytes_eq (string_bytes k) n ≡ false) (names_of_object (members_view es))
apart_all k [] h = tt
apart_all k (e ∷ es) h = (apart (string_bytes k) (string_bytes e.0) h.0, apart_all k es h.1)

-- keys that rise differ
pub differ : (es : List (String Global × Value))
    → IsStrictlySortedBy (λ k l. slice_cmp nat_cmp (string_bytes k) (string_bytes l)) (map (λ e. e.0) es)
    → Differ (names_of_object (members_view es))
unfolding IsStrictlySortedBy
differ [] h = tt
differ (e ∷ es) h = (apart_all e.0 es h.0, differ es h.1)

-- a change has the name of its entry
named : (name : List ℕ) (d : Data) → IfSome (named_change name d) (λ c. c.name ≡ name)
named [] d = tt
named (b ∷ bs) d = some (option_and_then entry_change (as_object d))
  where
    some : (o : Option AttributeChange) → IfSome (option_map
        (λ (change : AttributeChange). record { name = b ∷ bs; change = change }) o) (λ (c : NamedChange). c.name ≡ b ∷ bs)
    some None = tt
    some (Some x) = refl

both_named : (name : List ℕ) (names : List (List ℕ)) (c : Option NamedChange)
    (more : Option (List NamedChange)) → IfSome c (λ d. d.name ≡ name)
    → IfSome more (λ cs. map (λ d. d.name) cs ≡ names)
    → IfSome (change_then c more) (λ cs. map (λ d. d.name) cs ≡ name ∷ names)
both_named name names None more h k = tt
both_named name names (Some c) None h k = tt
both_named name names (Some c) (Some cs) h k = λ i. h i ∷ k i

-- the changes of an object have its names
all_named : (ms : Members) → IfSome (each_change ms) (λ cs. map (λ c. c.name) cs ≡ names_of_object ms)
all_named no_members = refl
all_named (member name d ms) =
    both_named name (names_of_object ms) (named_change name d) (each_change ms) (named name d)
    (all_named ms)

-- the actions of an object's entries are their update
pub is_update : (ms : Members) (update : List Action) → Differ (names_of_object ms)
    → option_map (map action_of) (each_change ms) ≡ Some update
    → IsUpdate (each_change ms) update
is_update ms update differ is = at (each_change ms) (all_named ms) is
  where
    at : (o : Option (List NamedChange)) → IfSome o (λ cs. map (λ c. c.name) cs ≡ names_of_object ms)
        → option_map (map action_of) o ≡ Some update → IsUpdate o update
    at None h e = absurd (cc)
    at (Some cs) h e =
        let same : map action_of cs ≡ update = cc in
        (cs, refl, subst (UpdateMakes cs) same (makes cs (subst Differ (sym h) differ)))

-- the update of a member that is an object
pub object_update : (d : Data) (ms : Members) (r : Result (List Action) LegacyFault)
    → Some ms ≡ as_object d → Differ (names_of_object ms)
    → IfOk r (λ u. option_map (map action_of) (each_change ms) ≡ Some u)
    → IfOk r (IsUpdate (changes_of_member d))
object_update d ms (Ok u) is differ h =
    subst (λ (o : Option Members). IsUpdate (option_and_then each_change o) u) is
    (is_update ms u differ h)
object_update d ms (Err f) is differ h = tt

-- its actions are those of the entries
pub object_tree : (d : Data) (ms : Members) (r : Result (List Action) LegacyFault)
    → Some ms ≡ as_object d
    → IfOk r (λ u. option_map (map action_of) (each_change ms) ≡ Some u)
    → IfOk r (λ u. update_in d ≡ Some u)
object_tree d ms (Ok u) is h =
    ap (λ (o : Option Members). option_map (map action_of) (option_and_then each_change o)) (sym is)
    ∙ h
object_tree d ms (Err f) is h = tt

-- its paths begin with names
name_first : (name : List ℕ) (c : AttributeChange)
    → begins_with_name (target (action_for name c)) ≡ true
name_first name (put v) = refl
name_first name (add v) = refl
name_first name remove = refl
name_first name (take v) = refl

pub names_first : (cs : List NamedChange) → begin_with_names (map action_of cs) ≡ true
names_first [] = refl
names_first (c ∷ cs) = λ i. name_first c.name c.change i && names_first cs i

pub object_begins : (ms : Members) (r : Result (List Action) LegacyFault)
    → IfOk r (λ u. option_map (map action_of) (each_change ms) ≡ Some u)
    → IfOk r (λ u. begin_with_names u ≡ true)
object_begins ms (Ok u) h = at (each_change ms) h
  where
    at : (o : Option (List NamedChange)) → option_map (map action_of) o ≡ Some u
        → begin_with_names u ≡ true
    at None e = absurd (cc)
    at (Some cs) e =
        let same : map action_of cs ≡ u = cc in ap begin_with_names (sym same) ∙ names_first cs
object_begins ms (Err f) h = tt
