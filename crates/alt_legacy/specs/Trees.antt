-- The trees that are made of entries, the same that a text would be parsed to. What they mean is said by the other files: a condition
-- holds of the items that meet its entries (`Meets`), an update makes of an item what its entries do (`Changes`).
use Rattle.std.specs.Prelude.{ℕ, Bool, true, false, List, [], ◌∷◌, map, Option, Some, None, option_map}
use Rattle.serde_json.specs.Data.{Data}
use Rattle.alt_value.specs.declared.attr.Attr.{Attr}
use Rattle.alt_expr.specs.declared.path.PathPart.{PathPart}
use Rattle.alt_expr.specs.declared.path.PathPart.TheVariants as p
use Rattle.alt_expr.specs.declared.cond.Operand.{Operand}
use Rattle.alt_expr.specs.declared.cond.Operand.TheVariants as o
use Rattle.alt_expr.specs.declared.cond.Cond.{Cond}
use Rattle.alt_expr.specs.declared.cond.Cond.TheVariants as cond
use Rattle.alt_expr.specs.declared.update.Action.{Action}
use Rattle.alt_expr.specs.declared.update.Action.TheVariants as action
use Rattle.alt_expr.specs.declared.update.Sum.TheVariants as sum
use Rattle.alt_expr.specs.declared.update.Term.TheVariants as term
use Rattle.alt_legacy.specs.Changes.{AttributeChange, put, add, remove, take, NamedChange, changes_of_member}
use Rattle.alt_legacy.specs.Entries.{entries_in}
use Rattle.alt_legacy.specs.Names.{names_of_member}
use Rattle.alt_legacy.specs.declared.entry.Entry.{Entry}
use Rattle.alt_legacy.specs.declared.entry.Test.{Test}
use Rattle.alt_legacy.specs.declared.entry.Test.TheVariants as t
use Rattle.alt_legacy.specs.declared.reading.Form.{Form}

-- the path of one part that leads to the attribute of a name; a dot is a part of the name
abbrev pub attribute_path : List ℕ → List PathPart
attribute_path name = p.Name name ∷ []

-- the attribute of a name
abbrev pub attribute_operand : List ℕ → Operand
attribute_operand name = o.At (attribute_path name)

-- a given value
abbrev pub given_operand : Attr → Operand
given_operand v = o.Value v

-- it contains the value
abbrev pub contains_value : List ℕ → Attr → Cond
contains_value name v = cond.Contains (attribute_operand name) (given_operand v)

-- it is there, and doesn't
abbrev pub has_not : List ℕ → Attr → Cond
has_not name v = cond.All (cond.Exists (attribute_path name) ∷ cond.Not (contains_value name v) ∷ [])

-- the tree of a test of the attribute of a name
abbrev pub tree_for : List ℕ → Test → Cond
tree_for name (t.Compares by v) = cond.Compare by (attribute_operand name) (given_operand v)
tree_for name (t.Between low high) = cond.Between (attribute_operand name) (given_operand low) (given_operand high)
tree_for name (t.Among vs) = cond.Among (attribute_operand name) (map given_operand vs)
tree_for name t.There = cond.Exists (attribute_path name)
tree_for name t.Missing = cond.NotExists (attribute_path name)
tree_for name (t.Has v) = contains_value name v
tree_for name (t.HasNot v) = has_not name v
tree_for name (t.Begins v) = cond.BeginsWith (attribute_operand name) (given_operand v)

-- the tree of an entry
abbrev pub condition_of_entry : Entry → Cond
condition_of_entry e = tree_for e.name e.test

-- OR or AND of conditions
abbrev pub several : Bool → List Cond → Cond
several true cs = cond.Any cs
several false cs = cond.All cs

-- the condition that several make together, of which there may be one alone, or none
abbrev pub joined_condition : Bool → List Cond → Option Cond
joined_condition any [] = None
joined_condition any (c ∷ []) = Some c
joined_condition any (c ∷ d ∷ cs) = Some (several any (c ∷ d ∷ cs))

-- the action of a change of the attribute of a name
abbrev pub action_for : List ℕ → AttributeChange → Action
action_for name (put v) = action.Set (attribute_path name) (sum.One (term.Value v))
action_for name (add v) = action.Add name v
action_for name remove = action.Remove (attribute_path name)
action_for name (take v) = action.Delete name v

-- the action of an entry
abbrev pub action_of : NamedChange → Action
action_of c = action_for c.name c.change

-- ---- of a member

-- the condition of entries
abbrev pub condition_of : Bool → List Entry → Option Cond
condition_of any es = joined_condition any (map condition_of_entry es)

-- that of a member; none where it isn't of the form
abbrev pub condition_in : Form → Bool → Data → Option (Option Cond)
condition_in f any d = option_map (condition_of any) (entries_in f d)

-- the update of a member
abbrev pub update_in : Data → Option (List Action)
update_in d = option_map (map action_of) (changes_of_member d)

-- the paths of a member
abbrev pub paths_in : Data → Option (List (List PathPart))
paths_in d = option_map (map attribute_path) (names_of_member d)
