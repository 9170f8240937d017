-- What the entries of AttributeUpdates make of an item, name by name (API Reference, "UpdateItem", AttributeUpdates). Every value is
-- looked up in the item before. Where that leaves a choice, docs/DECISIONS.md says what was chosen.
use Rattle.std.specs.Prelude.{◌≡◌, ℕ, Bool, true, false, not, List, [], ◌∷◌, map, Option, Some, None, option_map, option_and_then, Result, Ok, codes, if◌then◌else◌}
use Rattle.std.specs.List.{AllByRecursion, list_all}
use Rattle.std.specs.Str.{bytes_eq}
use Rattle.serde_json.specs.Data.{Data, Members, no_members, member}
use Rattle.serde_json.specs.Find.{as_object, as_str}
use Rattle.alt_value.specs.Stands.{tree_of}
use Rattle.alt_value.specs.Tree.{Tree}
use Rattle.alt_value.specs.declared.attr.Attr.{Attr}
use Rattle.alt_value.specs.declared.attr.Attr.TheVariants as a
use Rattle.alt_expr.specs.Located.{View}
use Rattle.alt_expr.specs.Updated.{ActionFault, ◌>>=◌, added, taken_from_set, updated}
use Rattle.alt_expr.specs.UpdateLanguage.{target}
use Rattle.alt_expr.specs.declared.path.PathPart.TheVariants.{Name}
use Rattle.alt_expr.specs.declared.update.Action.{Action}
use Rattle.alt_expr.specs.declared.update.Action.TheVariants as action
use Rattle.alt_legacy.specs.Values.{json_value}
use Rattle.alt_shape.specs.Shape.{given}

-- what an entry makes of its attribute: it puts a value, adds to a number or unites a set, removes it, or takes members out of a set
pub data AttributeChange : Type 0 where
  put : Attr → AttributeChange
  add : Attr → AttributeChange
  remove : AttributeChange
  take : Attr → AttributeChange

-- an attribute's name, and what is made of it
pub record NamedChange : Type 0 where
  pub name : List ℕ
  pub change : AttributeChange

-- ---- entries

-- PUT puts its value
abbrev pub put_of : Option Data → Option AttributeChange
put_of value = option_map put (option_and_then json_value value)

-- ADD adds its value
abbrev pub add_of : Option Data → Option AttributeChange
add_of value = option_map add (option_and_then json_value value)

-- the value is a set
abbrev pub is_set : Attr → Bool
is_set (a.Ss ss) = true
is_set (a.Ns zs) = true
is_set (a.Bs bs) = true
is_set _ = false

-- members to be taken out are those of a set
abbrev pub if_set : Attr → Option AttributeChange
if_set v = if is_set v then Some (take v) else None

-- DELETE without a value removes the attribute, and with a set takes its members out
abbrev pub delete_of : Option Data → Option AttributeChange
delete_of None = Some remove
delete_of (Some d) = option_and_then if_set (json_value d)

-- by the word of the action
abbrev pub change_named : List ℕ → Option Data → Option AttributeChange
change_named word value =
    if bytes_eq word (codes "PUT") then put_of value
    else if bytes_eq word (codes "ADD") then add_of value
    else if bytes_eq word (codes "DELETE") then delete_of value
    else None

-- without Action it is PUT
abbrev pub change_by : Option (List ℕ) → Option Data → Option AttributeChange
change_by None value = put_of value
change_by (Some word) value = change_named word value

-- what an entry makes of its attribute
abbrev pub entry_change : Members → Option AttributeChange
entry_change ms = change_by (option_and_then as_str (given (codes "Action") ms))
    (given (codes "Value") ms)

-- the change of the attribute of a name, which isn't empty
abbrev pub named_change : List ℕ → Data → Option NamedChange
named_change [] d = None
named_change (b ∷ bs) d = option_map (λ change. record { name = b ∷ bs; change = change })
    (option_and_then entry_change (as_object d))

-- a change in front of others
abbrev pub change_then : Option NamedChange → Option (List NamedChange)
    → Option (List NamedChange)
change_then (Some c) more = option_map (λ cs. c ∷ cs) more
change_then None more = None

-- each change of an object, by name; none where one of its entries isn't of the form
abbrev pub each_change : Members → Option (List NamedChange)
each_change no_members = Some []
each_change (member name d ms) = change_then (named_change name d) (each_change ms)

-- the changes of a member
abbrev pub changes_of_member : Data → Option (List NamedChange)
changes_of_member d = option_and_then each_change (as_object d)

-- ---- what they make of an item

-- what a change makes of an attribute, or why it can't
abbrev pub changed_attribute : AttributeChange → Option Tree → Result (Option Tree) ActionFault
changed_attribute (put v) old = Ok (Some (tree_of v))
changed_attribute (add v) old = added old (tree_of v) >>= (λ t. Ok (Some t))
changed_attribute remove old = Ok None
changed_attribute (take v) old = taken_from_set old (tree_of v)

-- the item with that at a name
abbrev pub view_with_attribute : List ℕ → Option Tree → View → View
view_with_attribute name x item = λ other. if bytes_eq other name then x else item other

-- The item after all changes; the first that can't be made, by name, says why it is none.
abbrev pub legacy_updated : View → List NamedChange → Result View ActionFault
legacy_updated item [] = Ok item
legacy_updated item (c ∷ cs) = do
  x ← changed_attribute c.change (item c.name)
  new ← legacy_updated item cs
  Ok (view_with_attribute c.name x new)

-- a change that only takes away
abbrev pub change_takes_away : AttributeChange → Bool
change_takes_away (put v) = false
change_takes_away (add v) = false
change_takes_away remove = true
change_takes_away (take v) = true

-- Entries make an item where none is, unless there are some and all only take away.
abbrev pub makes_item : List NamedChange → Bool
makes_item [] = true
makes_item (c ∷ cs) = not (list_all (λ d. change_takes_away d.change) (c ∷ cs))

-- an action that only takes away
abbrev pub is_taking : Action → Bool
is_taking (action.Set path sum) = false
is_taking (action.Remove path) = true
is_taking (action.Add name v) = false
is_taking (action.Delete name v) = true

-- An update makes of each item what the entries do; its actions come in their order, each of the attribute of a name alone.
pub record UpdateMakes (changes : List NamedChange) (update : List Action) : Type 0 where
  pub same_items : (item : View) → updated item update ≡ legacy_updated item changes
  pub targets : map target update ≡ map (λ c. Name c.name ∷ []) changes
  pub takings : map is_taking update ≡ map (λ c. change_takes_away c.change) changes

-- the entries have a meaning, and this is their update
abbrev pub IsUpdate : Option (List NamedChange) → List Action → Type 0
IsUpdate meaning update = (changes : List NamedChange) × (meaning ≡ Some changes)
    × UpdateMakes changes update

-- ---- names

-- the names of an object, as bytes
abbrev pub names_of_object : Members → List (List ℕ)
names_of_object no_members = []
names_of_object (member name d ms) = name ∷ names_of_object ms

-- each differs from those behind it
abbrev pub Differ : List (List ℕ) → Type 0
Differ [] = Unit {0}
Differ (n ∷ ns) = AllByRecursion (λ m. bytes_eq n m ≡ false) ns × Differ ns

-- no name of an object stands twice
abbrev pub HasDistinctNames : Members → Type 0
HasDistinctNames ms = Differ (names_of_object ms)
